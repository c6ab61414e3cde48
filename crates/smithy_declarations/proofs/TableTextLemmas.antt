-- Lines, words and options, as the program goes through them.
use Rattle.std.proofs.Common.{◌≡◌, ℕ, ◌+◌, ◌<◌, ◌≤◌, List, [], ◌∷◌, ◌++◌, map, length, take, drop, get_or, Bool, true, false, not, cond, ◌&&◌, ◌||◌, Option, Some, None, refl, sym, ap, ◌∙◌, arith, Bor, subst, suc}
use Rattle.std.specs.List.{starts_with}
use Rattle.std.specs.Str.{byte}
use Rattle.std.specs.Str.Pattern.{FindsTextPrefix, StripsPrefix}
use Rattle.std.proofs.lemmas.Str.Pattern.{starts_text}
use Rattle.std.specs.Option.{option_map, option_map_or, option_and_then, is_some}
use Rattle.std.proofs.lemmas.List.{at_drop_more, at_drop_all, map-append, length-map, take-append-drop, drop_more}
use Rattle.std.proofs.lemmas.List.Sums.{sum_by-cons, fold-append}
use Rattle.std.proofs.lemmas.List.Folds.{list_any-append, list_any_at}
use Rattle.smithy_declarations.specs.Decl.{MemberDecl, Decl}
use Rattle.smithy_declarations.specs.TableText.{text_of_option, given, first_given, words_of, is_empty, add_member, with_member, Lines, declarations, bad_line, line_of, line_said, after_line, after_numbered_line}
use Rattle.smithy_declarations.specs.Private.PlaceTests.{with_form}
use Rattle.std.specs.Str.{IsCharBoundary, IsUtf8, is_utf8}
use Rattle.std.specs.Str.Lines.{strip_carriage_return}
use Rattle.std.proofs.lemmas.Str.{IsUtf8-from_is_utf8, is_utf8-from_IsUtf8}
use Rattle.std.specs.List.{count_by, cons_option, slice_get, list_any, slice_split, fold, enumerate_from}
use Rattle.smithy_declarations.specs.Private.Words.{texts}
use Rattle.std.specs.Bool.{◌==◌}
use lib.Dec.{eqb}

-- ---- options

pub no_text : (name word : List ℕ) → FindsTextPrefix name word None → text_of_option name word ≡ None
no_text name word lacks =
    let none : false ≡ starts_with eqb word name = starts_text false name word lacks in
    let P : Bool → Type 0 = λ b. cond (b && not (is_empty (drop (length name) word))) (Some (drop (length name) word)) None ≡ None in
    subst P none refl

some_unless : {A : Type 0} (b : Bool) (a : A) → cond (not b) (Some a) None ≡ cond b None (Some a)
some_unless true a = refl
some_unless false a = refl

pub text_after : (name word text : List ℕ) → StripsPrefix (FindsTextPrefix name) word text → text_of_option name word ≡ cond (is_empty text) None (Some text)
text_after name word text strips =
    let at : ℕ → Type 0 = IsCharBoundary word in
    let boundary : IsCharBoundary word strips.0 = subst at (sym strips.1.0) strips.1.2 in
    let starts : true ≡ starts_with eqb word name = starts_text true name word (strips.0, strips.1, boundary) in
    let P : Bool → Type 0 = λ b. cond (b && not (is_empty (drop (length name) word))) (Some (drop (length name) word)) None ≡ cond (is_empty text) None (Some text) in
    let e : text ≡ drop (length name) word = strips.2 ∙ ap (λ k. drop k word) strips.1.0 in
    subst P starts (rw e (some_unless (is_empty (drop (length name) word)) (drop (length name) word)))

pub text_given : (name word text : List ℕ) → StripsPrefix (FindsTextPrefix name) word text → is_empty text ≡ false → text_of_option name word ≡ Some text
text_given name word text strips some = text_after name word text strips ∙ ap (λ b. cond b None (Some text)) some

pub empty_text : (name word text : List ℕ) → StripsPrefix (FindsTextPrefix name) word text → is_empty text ≡ true → text_of_option name word ≡ None
empty_text name word text strips none = text_after name word text strips ∙ ap (λ b. cond b None (Some text)) none

-- ---- the last declaration

option_map-map : {A B C : Type 0} (f : B → C) (g : A → B) (o : Option A) → option_map f (option_map g o) ≡ option_map (λ x. f (g x)) o
option_map-map f g None = refl
option_map-map f g (Some x) = refl

pub add_member-last : (m : MemberDecl) (ds : List Decl) (d : Decl)
    → add_member m (ds ++ d ∷ []) ≡ option_map (λ form. ds ++ with_form d form ∷ []) (with_member m d.form)
add_member-last m [] d = refl
add_member-last m (e ∷ []) d = option_map-map _ _ (with_member m d.form)
add_member-last m (e ∷ f ∷ ds) d =
    ap (option_map (λ more. e ∷ more)) (add_member-last m (f ∷ ds) d) ∙ option_map-map _ _ (with_member m d.form)

-- where the last declaration was taken off
with_last : (m : MemberDecl) (ds : List Decl) (d : Decl) (o : Option Decl) → o ≡ option_map (with_form d) (with_member m d.form)
    → add_member m (ds ++ d ∷ []) ≡ option_map (λ e. ds ++ e ∷ []) o
with_last m ds d o more =
    add_member-last m ds d ∙ sym (option_map-map (λ x. ds ++ x ∷ []) (with_form d) (with_member m d.form)) ∙ ap (option_map (λ x. ds ++ x ∷ [])) (sym more)

-- and put back with a member more
pub member_added : {X : Type 0} (f : X → Decl) (m : MemberDecl) (old rest new : List X) (d e : X) → old ≡ rest ++ d ∷ [] → new ≡ rest ++ e ∷ []
    → Some (f e) ≡ option_map (with_form (f d)) (with_member m (f d).form) → add_member m (map f old) ≡ Some (map f new)
member_added f m old rest new d e was is more =
    rw (was, is, map-append) (with_last m (map f rest) (f d) (Some (f e)) more ∙ sym (ap Some (map-append f rest (e ∷ []))))

-- or can have none
pub no_member_added : {X : Type 0} (f : X → Decl) (m : MemberDecl) (old rest : List X) (d : X) → old ≡ rest ++ d ∷ []
    → None ≡ option_map (with_form (f d)) (with_member m (f d).form) → add_member m (map f old) ≡ None
no_member_added f m old rest d was more = rw (was, map-append) (with_last m (map f rest) (f d) None more)

-- ---- words

-- f of the words from a place on
at_texts : {Y : Type 0} (f : List (List ℕ) → Y) (words : List (Bor (List ℕ))) (i : ℕ) (d : Bor (List ℕ)) → i < length words
    → f (texts (drop i words)) ≡ f ((get_or words i d).now ∷ texts (drop (i + 1) words))
at_texts f words i d within = at_drop_more (λ ws. f (texts ws)) words i d within

abbrev one_if : Bool → ℕ
one_if b = cond b 1 0

length-cons_option : {X : Type 0} (o : Option X) (xs : List X) → length (cons_option o xs) ≡ one_if (is_some o) + length xs
length-cons_option None xs = omega arith
length-cons_option (Some x) xs = omega arith

pub count_step : (p : List ℕ → Bool) (words : List (Bor (List ℕ))) (i : ℕ) (d : Bor (List ℕ)) (n next total : ℕ) (b : Bool) → i < length words
    → b ≡ p (get_or words i d).now → n + count_by p (texts (drop i words)) ≡ total → next ≡ n + one_if b → next + count_by p (texts (drop (i + 1) words)) ≡ total
count_step p words i d n next total b within test before step =
    let e : count_by p (texts (drop i words)) ≡ one_if (p (get_or words i d).now) + count_by p (texts (drop (i + 1) words)) = at_texts (count_by p) words i d within ∙ sum_by-cons (λ x. one_if (p x)) (get_or words i d).now (texts (drop (i + 1) words)) in
    let f : one_if b ≡ one_if (p (get_or words i d).now) = ap one_if test in
    omega arith

pub given_step : (name : List ℕ) (words : List (Bor (List ℕ))) (i : ℕ) (d : Bor (List ℕ)) (n next total : ℕ) (b : Bool) → i < length words
    → b ≡ is_some (text_of_option name (get_or words i d).now) → n + length (given (texts (drop i words)) name) ≡ total → next ≡ n + cond b 1 0
    → next + length (given (texts (drop (i + 1) words)) name) ≡ total
given_step name words i d n next total b within test before step =
    let e : length (given (texts (drop i words)) name) ≡ length (cons_option (text_of_option name (get_or words i d).now) (given (texts (drop (i + 1) words)) name)) = at_texts (λ ws. length (given ws name)) words i d within in
    let g = length-cons_option (text_of_option name (get_or words i d).now) (given (texts (drop (i + 1) words)) name) in
    let f : one_if b ≡ one_if (is_some (text_of_option name (get_or words i d).now)) = ap one_if test in
    omega arith

pub is_some-option_map : {A B : Type 0} (f : A → B) (o : Option A) → is_some (option_map f o) ≡ is_some o
is_some-option_map f None = refl
is_some-option_map f (Some x) = refl

first_at : (name : List ℕ) (words : List (Bor (List ℕ))) (i : ℕ) (d : Bor (List ℕ)) (o : Option (List ℕ)) → i < length words → o ≡ text_of_option name (get_or words i d).now
    → first_given (texts (drop i words)) name ≡ slice_get (cons_option o (given (texts (drop (i + 1) words)) name)) 0
first_at name words i d o within here =
    at_texts (λ ws. first_given ws name) words i d within ∙ ap (λ o. slice_get (cons_option o (given (texts (drop (i + 1) words)) name)) 0) (sym here)

-- no text at this word
pub first_later : (name : List ℕ) (words : List (Bor (List ℕ))) (i : ℕ) (d : Bor (List ℕ)) (total : Option (List ℕ)) → i < length words
    → None ≡ text_of_option name (get_or words i d).now → first_given (texts (drop i words)) name ≡ total → first_given (texts (drop (i + 1) words)) name ≡ total
first_later name words i d total within here before = sym (first_at name words i d None within here) ∙ before

pub first_here : (name : List ℕ) (words : List (Bor (List ℕ))) (i : ℕ) (d : Bor (List ℕ)) (t : List ℕ) (total : Option (List ℕ)) → i < length words
    → Some t ≡ text_of_option name (get_or words i d).now → first_given (texts (drop i words)) name ≡ total → Some t ≡ total
first_here name words i d t total within here before = sym (first_at name words i d (Some t) within here) ∙ before

pub first_nowhere : (name : List ℕ) (words : List (Bor (List ℕ))) (i : ℕ) (total : Option (List ℕ)) → length words ≤ i
    → first_given (texts (drop i words)) name ≡ total → None ≡ total
first_nowhere name words i total past before = sym (at_drop_all (λ ws. first_given (texts ws) name) words i past) ∙ before

pub list_any-map : {X Y : Type 0} (p : Y → Bool) (f : X → Y) (xs : List X) → list_any p (map f xs) ≡ list_any (λ x. p (f x)) xs
list_any-map p f [] = refl
list_any-map p f (x ∷ xs) = ap (λ b. p (f x) || b) (list_any-map p f xs)

-- ---- the words that were parted

pub texts_push : (new words yielded : List (Bor (List ℕ))) (w : Bor (List ℕ)) → new ≡ words ++ w ∷ [] → texts words ≡ texts yielded → texts new ≡ texts (yielded ++ w ∷ [])
texts_push new words yielded w is before =
    ap texts is ∙ map-append _ words (w ∷ []) ∙ ap (λ ws. ws ++ w.now ∷ []) before ∙ sym (map-append _ yielded (w ∷ []))

pub none_empty_push : (yielded : List (Bor (List ℕ))) (w : Bor (List ℕ)) → list_any is_empty (texts yielded) ≡ false → is_empty w.now ≡ false
    → list_any is_empty (texts (yielded ++ w ∷ [])) ≡ false
none_empty_push yielded w before here =
    ap (list_any is_empty) (map-append _ yielded (w ∷ [])) ∙ list_any-append is_empty (texts yielded) (w.now ∷ [])
    ∙ ap (λ b. b || (is_empty w.now || false)) before ∙ ap (λ b. b || false) here

pub words_parted : (text : List ℕ) (ws : List (List ℕ)) → ws ≡ slice_split (λ b. b == byte " ") text → list_any is_empty ws ≡ false → Some ws ≡ words_of text
words_parted text ws is filled =
    let P : Bool → Type 0 = λ b. Some ws ≡ cond b None (Some (slice_split (λ b. b == byte " ") text)) in
    subst P (sym filled ∙ ap (list_any is_empty) is) (ap Some is)

pub empty_word : (text : List ℕ) (i : ℕ) (w : List ℕ) → i < length (slice_split (λ b. b == byte " ") text) → w ≡ get_or (slice_split (λ b. b == byte " ") text) i w
    → is_empty w ≡ true → None ≡ words_of text
empty_word text i w within is empty =
    let P : Bool → Type 0 = λ b. None ≡ cond b None (Some (slice_split (λ b. b == byte " ") text)) in
    subst P (sym (list_any_at is_empty (slice_split (λ b. b == byte " ") text) i w within (ap is_empty (sym is) ∙ empty))) refl

-- ---- lines

pub no_text_line : (line : List ℕ) → (IsUtf8 line → ⊥) → None ≡ line_said line
no_text_line line bad =
    let go : (b : Bool) → is_utf8 line ≡ b → None ≡ cond b (option_and_then line_of (words_of line)) None = λ b. elim b as (λ b. is_utf8 line ≡ b → None ≡ cond b (option_and_then line_of (words_of line)) None) [
      | true ↦ λ e. absurd (bad (IsUtf8-from_is_utf8 line e))
      | false ↦ λ e. refl
    ] in
    go (is_utf8 line) refl

pub text_line : (line : List ℕ) → IsUtf8 line → line_said line ≡ option_and_then line_of (words_of line)
text_line line good = ap (λ b. cond b (option_and_then line_of (words_of line)) None) (is_utf8-from_IsUtf8 line good)

-- what the parts between line feeds are together
abbrev pub after_parts : List (List ℕ) → Lines
after_parts parts = fold after_numbered_line (declarations []) (enumerate_from 1 (map strip_carriage_return parts))

enumerate_from-append : {X : Type 0} (n : ℕ) (xs ys : List X) → enumerate_from n (xs ++ ys) ≡ enumerate_from n xs ++ enumerate_from (n + length xs) ys
enumerate_from-append n [] ys = ap (λ k. enumerate_from k ys) (let e : n ≡ n + 0 = omega arith in e)
enumerate_from-append n (x ∷ xs) ys =
    ap (λ more. (n, x) ∷ more) (enumerate_from-append (n + 1) xs ys ∙ ap (λ k. enumerate_from (n + 1) xs ++ enumerate_from k ys) (let e : n + 1 + length xs ≡ n + suc (length xs) = omega arith in e))

after_parts-append : (xs ys : List (List ℕ))
    → after_parts (xs ++ ys) ≡ fold after_numbered_line (after_parts xs) (enumerate_from (1 + length xs) (map strip_carriage_return ys))
after_parts-append xs ys =
    ap (λ ls. fold after_numbered_line (declarations []) (enumerate_from 1 ls)) (map-append strip_carriage_return xs ys)
    ∙ ap (fold after_numbered_line (declarations [])) (enumerate_from-append 1 (map strip_carriage_return xs) (map strip_carriage_return ys))
    ∙ fold-append after_numbered_line (declarations []) (enumerate_from 1 (map strip_carriage_return xs)) (enumerate_from (1 + length (map strip_carriage_return xs)) (map strip_carriage_return ys))
    ∙ ap (λ k. fold after_numbered_line (after_parts xs) (enumerate_from (1 + k) (map strip_carriage_return ys))) (length-map xs strip_carriage_return)

-- after a bad line nothing counts
bad_line_stays : (n : ℕ) (rest : List (ℕ × List ℕ)) → fold after_numbered_line (bad_line n) rest ≡ bad_line n
bad_line_stays n [] = refl
bad_line_stays n (x ∷ rest) = bad_line_stays n rest

-- what they are after one part more
next_part : (xs : List (List ℕ)) (part : List ℕ) (rest : List (List ℕ)) (ds : List Decl) (more : Option (List Decl))
    → after_parts xs ≡ declarations ds → after_line ds (strip_carriage_return part) ≡ more
    → after_parts (xs ++ part ∷ rest)
    ≡ fold after_numbered_line (option_map_or declarations more (bad_line (1 + length xs))) (enumerate_from (1 + length xs + 1) (map strip_carriage_return rest))
next_part xs part rest ds more so_far here =
    after_parts-append xs (part ∷ rest)
    ∙ ap (λ s. fold after_numbered_line (after_numbered_line s (1 + length xs, strip_carriage_return part)) (enumerate_from (1 + length xs + 1) (map strip_carriage_return rest))) so_far
    ∙ ap (λ o. fold after_numbered_line (option_map_or declarations o (bad_line (1 + length xs))) (enumerate_from (1 + length xs + 1) (map strip_carriage_return rest))) here

pub good_part : (yielded : List (Bor (List ℕ))) (part : Bor (List ℕ)) (ds more : List Decl) → after_parts (texts yielded) ≡ declarations ds
    → after_line ds (strip_carriage_return part.now) ≡ Some more → after_parts (texts (yielded ++ part ∷ [])) ≡ declarations more
good_part yielded part ds more so_far here =
    ap after_parts (map-append _ yielded (part ∷ [])) ∙ next_part (texts yielded) part.now [] ds (Some more) so_far here

pub bad_part : (all : List (List ℕ)) (yielded : List (Bor (List ℕ))) (part : List ℕ) (ds : List Decl) → texts yielded ≡ take (length yielded) all
    → length yielded < length all → part ≡ get_or all (length yielded) part → after_parts (texts yielded) ≡ declarations ds
    → after_line ds (strip_carriage_return part) ≡ None → after_parts all ≡ bad_line (length yielded + 1)
bad_part all yielded part ds seen within is so_far here =
    let e : all ≡ texts yielded ++ part ∷ drop (length yielded + 1) all =
    sym (take-append-drop (length yielded) all) ∙ ap (λ xs. xs ++ drop (length yielded) all) (sym seen)
    ∙ ap (λ xs. texts yielded ++ xs) (drop_more all (length yielded) part within ∙ ap (λ x. x ∷ drop (length yielded + 1) all) (sym is)) in
    let n : 1 + length (texts yielded) ≡ length yielded + 1 = omega (arith, length-map yielded (λ (w : Bor (List ℕ)). w.now)) in
    ap after_parts e ∙ next_part (texts yielded) part (drop (length yielded + 1) all) ds None so_far here
    ∙ bad_line_stays (1 + length (texts yielded)) (enumerate_from (1 + length (texts yielded) + 1) (map strip_carriage_return (drop (length yielded + 1) all))) ∙ ap bad_line n
