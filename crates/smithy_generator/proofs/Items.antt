-- One item of a generated input is a JSON text of its tree.
use Rattle.std.proofs.Common.{◌≡◌, ◌/◌, ◌%◌, ℕ, List, [], ◌∷◌, ◌++◌, refl, codes, decimal, append_assoc, append-nil, arith}
use Rattle.std.specs.Str.{is_utf8, chars}
use Rattle.std.proofs.lemmas.Str.{IsUtf8-from_is_utf8}
use Rattle.smithy_json_grammar.specs.Ascii.{quotation_mark, space, value_separator, begin_object, end_object}
use Rattle.smithy_json_grammar.specs.Grammar.{IsNumber, IsString, IsStringText, IsValue}
use Rattle.smithy_json_grammar.specs.Tree.{Json, number, string, object, Members, no_members, member}
use Rattle.smithy_json.proofs.QuotedLemmas.{quoted_is_string}
use Rattle.smithy_generator.specs.Generated.{item_of}
use Rattle.smithy_generator.specs.Private.GeneratedTree.{item_tree}
use Rattle.smithy_generator.proofs.PlainTexts.{decimal_is_plain, lettered_is_plain, plain_is_string, number_is}
use Rattle.smithy_generator.proofs.Members.{padded, after_space, named, is_member, is_spaced_member, is_object, one_more}

-- names
id_text : IsStringText (codes "id")
unfolding is_utf8 chars lib.Utf8.encode
id_text = (quoted_is_string (codes "id") (IsUtf8-from_is_utf8 (codes "id") refl)).1

name_text : IsStringText (codes "name")
unfolding is_utf8 chars lib.Utf8.encode
name_text = (quoted_is_string (codes "name") (IsUtf8-from_is_utf8 (codes "name") refl)).1

at_text : IsStringText (codes "at")
unfolding is_utf8 chars lib.Utf8.encode
at_text = (quoted_is_string (codes "at") (IsUtf8-from_is_utf8 (codes "at") refl)).1

tags_text : IsStringText (codes "tags")
unfolding is_utf8 chars lib.Utf8.encode
tags_text = (quoted_is_string (codes "tags") (IsUtf8-from_is_utf8 (codes "tags") refl)).1

a_text : IsStringText (codes "a")
unfolding is_utf8 chars lib.Utf8.encode
a_text = (quoted_is_string (codes "a") (IsUtf8-from_is_utf8 (codes "a") refl)).1

b_text : IsStringText (codes "b")
unfolding is_utf8 chars lib.Utf8.encode
b_text = (quoted_is_string (codes "b") (IsUtf8-from_is_utf8 (codes "b") refl)).1

x_string : IsString (codes "x") (codes "\"x\"")
unfolding is_utf8 chars lib.Utf8.encode
x_string = quoted_is_string (codes "x") (IsUtf8-from_is_utf8 (codes "x") refl)

-- the bytes of an item, part by part and by the containers
in_one_row : (a i b k q c t e d r : List ℕ) → a ++ i ++ b ++ k ++ (q ++ c) ++ t ++ e ++ d ++ (q ++ (r ++ r))
    ≡ ((a ++ i) ++ ((b ++ (k ++ q)) ++ ((c ++ t) ++ ((e ++ (((d ++ q) ++ []) ++ r)) ++ [])))) ++ r
in_one_row a i b k q c t e d r = simp (append_assoc, append-nil) refl

-- by the texts of the numbers
module _ (i k t d : List ℕ) (id : IsNumber i) (name : IsString (codes "n" ++ k) (quotation_mark ∷ ((codes "n" ++ k) ++ quotation_mark ∷ [])))
    (at : IsNumber t) (digit : IsString d (quotation_mark ∷ (d ++ quotation_mark ∷ []))) where
  abbrev tags : Json
  tags = object (member (codes "b") (string (codes "x")) (member (codes "a") (string d) no_members))

  abbrev digit_member : List ℕ
  digit_member = named (codes "a") (quotation_mark ∷ (d ++ quotation_mark ∷ []))

  abbrev tags_bytes : List ℕ
  tags_bytes = begin_object ∷ ((named (codes "b") (codes "\"x\"") ++ value_separator ∷ (digit_member ++ [])) ++ end_object ∷ [])

  tags_are : IsValue tags tags_bytes
  tags_are = is_object (codes "b") (string (codes "x")) (member (codes "a") (string d) no_members) (named (codes "b") (codes "\"x\"")) (value_separator ∷ (digit_member ++ [])) tags_bytes
      (is_member (IsValue (string (codes "x"))) (codes "b") (codes "\"x\"") b_text (padded (IsValue (string (codes "x"))) (codes "\"x\"") x_string))
      (one_more (codes "a") (string d) no_members digit_member []
      (is_member (IsValue (string d)) (codes "a") _ a_text (padded (IsValue (string d)) _ digit)) refl)
      refl

  abbrev first : List ℕ
  first = named (codes "id") (space ∷ i)

  abbrev second : List ℕ
  second = space ∷ named (codes "name") (quotation_mark ∷ ((codes "n" ++ k) ++ quotation_mark ∷ []))

  abbrev third : List ℕ
  third = space ∷ named (codes "at") t

  abbrev fourth : List ℕ
  fourth = space ∷ named (codes "tags") tags_bytes

  abbrev behind_first : List ℕ
  behind_first = value_separator ∷ (second ++ (value_separator ∷ (third ++ (value_separator ∷ (fourth ++ [])))))

  abbrev last_member : Members
  last_member = member (codes "tags") tags no_members

  abbrev last_two : Members
  last_two = member (codes "at") (number t) last_member

  abbrev last_three : Members
  last_three = member (codes "name") (string (codes "n" ++ k)) last_two

  pub item_is : (bytes : List ℕ) → bytes ≡ begin_object ∷ ((first ++ behind_first) ++ end_object ∷ [])
      → IsValue (object (member (codes "id") (number i) last_three)) bytes
  item_is bytes e = is_object (codes "id") (number i) last_three first behind_first bytes
      (is_member (IsValue (number i)) (codes "id") (space ∷ i) id_text (after_space (IsValue (number i)) i (refl, id)))
      (one_more (codes "name") (string (codes "n" ++ k)) last_two second (value_separator ∷ (third ++ (value_separator ∷ (fourth ++ []))))
      (is_spaced_member (IsValue (string (codes "n" ++ k))) (codes "name") (quotation_mark ∷ ((codes "n" ++ k) ++ quotation_mark ∷ [])) name_text
      (padded (IsValue (string (codes "n" ++ k))) (quotation_mark ∷ ((codes "n" ++ k) ++ quotation_mark ∷ [])) name))
      (one_more (codes "at") (number t) last_member third (value_separator ∷ (fourth ++ []))
      (is_spaced_member (IsValue (number t)) (codes "at") t at_text (padded (IsValue (number t)) t (refl, at)))
      (one_more (codes "tags") tags no_members fourth []
      (is_spaced_member (IsValue tags) (codes "tags") tags_bytes tags_text (padded (IsValue tags) tags_bytes tags_are)) refl)))
      e

  pub item_bytes : codes "{\"id\": " ++ i ++ codes ", \"name\":\"n" ++ k ++ codes "\", \"at\":" ++ t ++ codes ", \"tags\":{\"b\":\"x\",\"a\":\"" ++ d ++ codes "\"}}"
      ≡ begin_object ∷ ((first ++ behind_first) ++ end_object ∷ [])
  item_bytes = in_one_row (codes "{\"id\": ") i (codes ", \"name\":\"n") k (codes "\"") (codes ", \"at\":") t (codes ", \"tags\":{\"b\":\"x\",\"a\":\"") d (codes "}")

pub item_is_value : (x : ℕ) → IsValue (item_tree x) (item_of x)
item_is_value x =
    let i = decimal (x % 1000) in
    let k = decimal (x / 1000 % 1000) in
    let t = decimal (x / 1000000 % 1000000) in
    let d = decimal (x % 1000 % 10) in
    let id = number_is (x % 1000) (omega arith) in
    let name = plain_is_string (codes "n" ++ k) (lettered_is_plain 0x6e (x / 1000 % 1000) (omega arith) refl (omega arith)) in
    let at = number_is (x / 1000000 % 1000000) (omega arith) in
    let digit = plain_is_string d (decimal_is_plain (x % 1000 % 10) (omega arith)) in
    item_is i k t d id name at digit (item_of x) (item_bytes i k t d id name at digit)
