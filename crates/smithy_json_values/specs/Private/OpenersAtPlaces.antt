-- How many brackets are open at most from one place of the input on and from another.
use Rattle.std.specs.Prelude.{◌≡◌, ◌≤◌, ℕ, suc, ◌-◌, drop, List, ◌∷◌, ◌++◌, Bool, true, false, codes}
use Rattle.std.proofs.Common.{sym, ◌∙◌, ap, arith, append_assoc}
use Rattle.smithy_json_grammar.specs.Ascii.{value_separator, begin_array, end_array, begin_object, end_object}
use Rattle.smithy_json_grammar.specs.Tree.{Json}
use Rattle.smithy_json_grammar.specs.Grammar.{IsValue}
use Rattle.smithy_json_values.specs.Standing.{Lies, IsByte, IsSeparated, Names}
use Rattle.smithy_json_values.specs.Openers.{json_openers}
use Rattle.smithy_json_values.specs.Scalar.{JsonScalar}
use Rattle.smithy_json_values.specs.Tokens.{IsToken, IsNameToken, NameTokens}
use Rattle.smithy_json_values.specs.Private.ArrayPlaces.{byte_front}
use Rattle.smithy_json_values.specs.Private.OpenersOfTexts.{AddsNothing, TakesNothing, both_add, ws_adds, name_adds, null_token_adds, token_adds, value_takes}
use Rattle.smithy_json_values.specs.Private.TokenGrammar.{names_token}

module _ (i : List ℕ) where
  -- how many brackets are open at most, from this place on
  abbrev pub openers_from : ℕ → ℕ
  openers_from a = json_openers (drop a i)

  -- ---- texts that lie in the input

  -- across a text that adds nothing
  pub across : (P : List ℕ → Type 0) (a e : ℕ) → ((s : List ℕ) → P s → AddsNothing s) → Lies P i a e → openers_from a ≡ openers_from e
  across P a e adds h =
      let front = h.2 in
      ap json_openers (front.2 ∙ sym (append_assoc front.0 front.1 (drop e i)))
      ∙ both_add front.0 front.1 (ws_adds front.0 front.3) (adds front.1 front.4) (drop e i)

  front_takes : (before text rest bytes : List ℕ) → bytes ≡ before ++ (text ++ rest) → AddsNothing before → TakesNothing text
      → json_openers rest ≤ json_openers bytes
  front_takes before text rest bytes is adds takes =
      let whole : json_openers bytes ≡ json_openers (text ++ rest) = ap json_openers is ∙ adds (text ++ rest) in
      let part = takes rest in
      omega (arith, whole, part)

  -- across a value
  pub across_value : (x : Json) (a e : ℕ) → Lies (IsValue x) i a e → openers_from e ≤ openers_from a
  across_value x a e h =
      let front = h.2 in
      front_takes front.0 front.1 (drop e i) (drop a i) front.2 (ws_adds front.0 front.3) (value_takes x front.1 front.4)

  byte_rises : (b a e : ℕ) → Lies (IsByte b) i a e → openers_from a ≡ json_openers (b ∷ drop e i)
  byte_rises b a e h = ap json_openers (byte_front b (drop a i) (drop e i) h.2) ∙ ws_adds h.2.0 h.2.3 (b ∷ drop e i)

  -- an opening bracket adds one
  pub across_begin_array : (a b : ℕ) → Lies (IsByte begin_array) i a b → openers_from a ≡ suc (openers_from b)
  across_begin_array a b h = byte_rises begin_array a b h

  pub across_begin_object : (a b : ℕ) → Lies (IsByte begin_object) i a b → openers_from a ≡ suc (openers_from b)
  across_begin_object a b h = byte_rises begin_object a b h

  back : (m n : ℕ) → m ≡ n - 1 → n ≤ suc m
  back m n h = omega arith

  -- a closing one takes at most one away
  pub across_end_array : (b e : ℕ) → Lies (IsByte end_array) i b e → openers_from e ≤ suc (openers_from b)
  across_end_array b e h = back (openers_from b) (openers_from e) (byte_rises end_array b e h)

  pub across_end_object : (b e : ℕ) → Lies (IsByte end_object) i b e → openers_from e ≤ suc (openers_from b)
  across_end_object b e h = back (openers_from b) (openers_from e) (byte_rises end_object b e h)

  -- a comma adds nothing
  pub across_separator : (entered : Bool) (b c : ℕ) → IsSeparated entered i b c → openers_from b ≡ openers_from c
  across_separator false b c h = ap openers_from (sym h)
  across_separator true b c h = byte_rises value_separator b c h

  -- a name with its comma and its colon adds nothing
  pub across_name_token : (entered : Bool) (b : ℕ) (raw : List ℕ) (c : ℕ) → NameTokens entered i b raw c → openers_from b ≡ openers_from c
  across_name_token entered b raw c h =
      across_separator entered b h.0 h.1 ∙ across (IsNameToken raw) h.0 c (name_adds raw) h.2

  pub across_name : (entered : Bool) (b : ℕ) (raw : List ℕ) (c : ℕ) → Names entered i b raw c → openers_from b ≡ openers_from c
  across_name entered b raw c h = across_name_token entered b raw c (names_token i entered b raw c h).0

  -- nor does a null, or a scalar
  pub across_null : (a e : ℕ) → Lies (λ s. s ≡ codes "null") i a e → openers_from a ≡ openers_from e
  across_null a e h = across (λ s. s ≡ codes "null") a e null_token_adds h

  pub across_token : (x : JsonScalar) (a e : ℕ) → Lies (IsToken x) i a e → openers_from a ≡ openers_from e
  across_token x a e h = across (IsToken x) a e (token_adds x) h
