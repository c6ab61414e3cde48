-- The tokens of a tree that means a document make that document.
use Rattle.std.proofs.Common.{◌≡◌, ◌≤◌, ℕ, suc, List, [], ◌∷◌, ◌++◌, length, fold, true, cond, nat_le, Option, Some, None, option_map, Result, Ok, Err, refl, sym, ap, ◌∙◌, subst, inl, inr}
use Rattle.std.specs.Option.{option_map_or}
use Rattle.std.specs.Result.{result_ok}
use Rattle.smithy_types.specs.Document.{Document, null, boolean, number, text, array, object, Documents, no_documents, item, Properties, no_properties, put_property, properties_by}
use Rattle.smithy_types.specs.DocumentView.{document_view}
use Rattle.smithy_types.specs.declared.document.Document as kept
use Rattle.smithy_types.specs.declared.number.Number.{Number}
use Rattle.smithy_json_grammar.specs.Tree.{Json, Elements, no_elements, element, Members, no_members, member}
use Rattle.smithy_json_grammar.specs.Tree as tree
use Rattle.smithy_json_grammar.specs.HeldNumber.{number_of}
use Rattle.smithy_json_grammar.specs.Unescape.{unescape, unescaped}
use Rattle.smithy_json_grammar.specs.declared.escape_error.EscapeError.{EscapeError}
use Rattle.smithy_json.specs.DocumentMeaning.{number_meaning, document_meaning, elements_meaning, members_meaning}
use Rattle.smithy_json.proofs.DocumentLemmas.{some_of_map, some_of_then, some_of_pair, allowed, held, document_deeper}
use Rattle.smithy_json_tokens.specs.Tokens.{JsonToken, tokens, element_tokens, member_tokens, start_array, end_array, start_object, end_object, value_null, value_bool, value_number, value_uncarried, value_string}
use Rattle.smithy_json_tokens.specs.TokenSteps.{Takes, IsItem, SurelyGives}
use Rattle.smithy_json_tokens.specs.DocumentSteps.{Frame, in_array, in_object, behind_name, Step, goes_on, whole, wrong, add_element, put_value, where_value, text_step, name_step, document_step, IsStepError, EndsWith, DocumentStops, MakesDocument, IsDocument}
use Rattle.smithy_json_tokens.specs.declared.error.DeserializeError.{DeserializeError}

-- ---- runs of tokens

-- the tokens are taken, and lead from these open containers to those
abbrev pub Run : List Frame → List JsonToken → List Frame → Type 0
Run fs [] gs = fs ≡ gs
Run fs (t ∷ ts) gs = (more : List Frame) × (document_step fs t ≡ goes_on more) × Run more ts gs

-- the tokens are taken, and the last of them is this step
pub record LastStep (fs : List Frame) (ts : List JsonToken) (step : Step) : Type 0 where
  pub taken : List JsonToken
  pub last : JsonToken
  pub before : List Frame
  pub split : ts ≡ taken ++ last ∷ []
  pub run : Run fs taken before
  pub finish : document_step before last ≡ step

run_on : (fs gs hs : List Frame) (ts us : List JsonToken) → Run fs ts gs → Run gs us hs → Run fs (ts ++ us) hs
run_on fs gs hs [] us h r = subst (λ x. Run x us hs) (sym h) r
run_on fs gs hs (t ∷ ts) us h r = (h.0, h.1, run_on h.0 gs hs ts us h.2 r)

-- tokens whose last one goes on
all_taken : (fs : List Frame) (ts : List JsonToken) (more : List Frame) → LastStep fs ts (goes_on more) → Run fs ts more
all_taken fs ts more h = subst (λ x. Run fs x more) (sym h.split) (run_on fs h.before more h.taken (h.last ∷ []) h.run (more, h.finish, refl))

ok_of : (r : Result (List ℕ) EscapeError) (s : List ℕ) → result_ok r ≡ Some s → r ≡ Ok s
ok_of (Ok x) s h = let same : x ≡ s = cc in ap (λ y. Ok y) same
ok_of (Err e) s h = cc

some_is : {A : Type 0} (x y : A) → Some x ≡ Some y → x ≡ y
some_is x y h = cc

-- ---- elements, one more at the end

abbrev join : Documents Number → Documents Number → Documents Number
join no_documents es = es
join (item d ds) es = item d (join ds es)

join_none : (ds : Documents Number) → join ds no_documents ≡ ds
join_none no_documents = refl
join_none (item d ds) = ap (item d) (join_none ds)

join_add : (ds : Documents Number) (d : Document Number) (es : Documents Number) → join (add_element ds d) es ≡ join ds (item d es)
join_add no_documents d es = refl
join_add (item e ds) d es = ap (item e) (join_add ds d es)

abbrev put_all : Properties Number → List (List ℕ × Document Number) → Properties Number
put_all ps pairs = fold (λ qs pair. put_property pair.0 pair.1 qs) ps pairs

-- ---- a tree

-- a value is due
abbrev pub Awaits : List Frame → Type 0
Awaits [] = Unit {0}
Awaits (in_array ds ∷ fs) = Unit {0}
Awaits (behind_name ps name ∷ fs) = Unit {0}
Awaits (in_object ps ∷ fs) = ⊥

value_comes : (fs : List Frame) (step : Step) → Awaits fs → nat_le (suc (length fs)) 256 ≡ true → where_value fs step ≡ step
value_comes [] step a h = ap (λ b. cond b step wrong) h
value_comes (in_array ds ∷ fs) step a h = ap (λ b. cond b step wrong) h
value_comes (behind_name ps name ∷ fs) step a h = ap (λ b. cond b step wrong) h
value_comes (in_object ps ∷ fs) step a h = absurd a

-- one token that is a value
one_token : (fs : List Frame) (t : JsonToken) (d : Document Number) → document_step fs t ≡ put_value d fs → LastStep fs (t ∷ []) (put_value d fs)
one_token fs t d h = record { taken = []; last = t; before = fs; split = refl; run = refl; finish = h }

abbrev limit : Option ℕ
limit = Some 256

mutual
  -- where a value is due, a tree's tokens put its document
  pub tree_document : (j : Json) (fs : List Frame) (d : Document Number) → Awaits fs → document_meaning limit (length fs) j ≡ Some d → LastStep fs (tokens j) (put_value d fs)
  tree_document tree.null fs d a h =
      let may = allowed 256 (suc (length fs)) (Some null) d h in
      let is : null ≡ d = some_is null d may.1 in
      one_token fs value_null d (value_comes fs (put_value null fs) a may.0 ∙ ap (λ x. put_value x fs) is)
  tree_document (tree.boolean b) fs d a h =
      let may = allowed 256 (suc (length fs)) (Some (boolean b)) d h in
      let is : boolean b ≡ d = some_is (boolean b) d may.1 in
      one_token fs (value_bool b) d (value_comes fs (put_value (boolean b) fs) a may.0 ∙ ap (λ x. put_value x fs) is)
  tree_document (tree.number raw) fs d a h =
      let may = allowed 256 (suc (length fs)) (number_meaning limit (number_of raw)) d h in
      let n = held 256 (number_of raw) d may.1 in
      subst (λ t. LastStep fs (t ∷ []) (put_value d fs)) (sym (ap (λ m. option_map_or value_number m (value_uncarried raw)) n.1))
      (one_token fs (value_number n.0) d (value_comes fs (put_value (number n.0) fs) a may.0 ∙ ap (λ x. put_value x fs) n.2))
  tree_document (tree.string raw) fs d a h =
      let may = allowed 256 (suc (length fs)) (option_map text (unescaped raw)) d h in
      let s = some_of_map text (unescaped raw) d may.1 in
      one_token fs (value_string raw) d
      (value_comes fs (text_step fs (unescape raw)) a may.0 ∙ ap (text_step fs) (ok_of (unescape raw) s.0 s.1) ∙ ap (λ x. put_value x fs) s.2)
  tree_document (tree.array es) fs d a h =
      let may = allowed 256 (suc (length fs)) (option_map array (elements_meaning limit (suc (length fs)) es)) d h in
      let ds = some_of_map array (elements_meaning limit (suc (length fs)) es) d may.1 in
      record {
        taken = start_array ∷ element_tokens es;
        last = end_array;
        before = in_array ds.0 ∷ fs;
        split = refl;
        run = (in_array no_documents ∷ fs, value_comes fs (goes_on (in_array no_documents ∷ fs)) a may.0, elements_document es fs no_documents ds.0 ds.1);
        finish = ap (λ x. put_value x fs) ds.2;
      }
  tree_document (tree.object ms) fs d a h =
      let made = λ (pairs : List (List ℕ × Document Number)). object (properties_by pairs) in
      let may = allowed 256 (suc (length fs)) (option_map made (members_meaning limit (suc (length fs)) ms)) d h in
      let ps = some_of_map made (members_meaning limit (suc (length fs)) ms) d may.1 in
      record {
        taken = start_object ∷ member_tokens ms;
        last = end_object;
        before = in_object (properties_by ps.0) ∷ fs;
        split = refl;
        run = (in_object no_properties ∷ fs, value_comes fs (goes_on (in_object no_properties ∷ fs)) a may.0, members_document ms fs no_properties ps.0 ps.1);
        finish = ap (λ x. put_value x fs) ps.2;
      }

  pub elements_document : (es : Elements) (fs : List Frame) (before xs : Documents Number) → elements_meaning limit (suc (length fs)) es ≡ Some xs
      → Run (in_array before ∷ fs) (element_tokens es) (in_array (join before xs) ∷ fs)
  elements_document no_elements fs before xs h =
      let is : no_documents ≡ xs = cc in
      ap (λ ds. in_array ds ∷ fs) (sym (join_none before) ∙ ap (join before) is)
  elements_document (element j es) fs before xs h =
      let first = some_of_then (λ d. option_map (item d) (elements_meaning limit (suc (length fs)) es)) (document_meaning limit (suc (length fs)) j) xs h in
      let others = some_of_map (item first.0) (elements_meaning limit (suc (length fs)) es) xs first.2 in
      run_on (in_array before ∷ fs) (in_array (add_element before first.0) ∷ fs) (in_array (join before xs) ∷ fs) (tokens j) (element_tokens es)
      (all_taken (in_array before ∷ fs) (tokens j) (in_array (add_element before first.0) ∷ fs) (tree_document j (in_array before ∷ fs) first.0 tt first.1))
      (subst (λ ds. Run (in_array (add_element before first.0) ∷ fs) (element_tokens es) (in_array ds ∷ fs)) (join_add before first.0 others.0 ∙ ap (join before) others.2)
      (elements_document es fs (add_element before first.0) others.0 others.1))

  pub members_document : (ms : Members) (fs : List Frame) (before : Properties Number) (pairs : List (List ℕ × Document Number)) → members_meaning limit (suc (length fs)) ms ≡ Some pairs
      → Run (in_object before ∷ fs) (member_tokens ms) (in_object (put_all before pairs) ∷ fs)
  members_document no_members fs before pairs h =
      let is : [] ≡ pairs = cc in
      ap (λ ps. in_object (put_all before ps) ∷ fs) is
  members_document (member raw j ms) fs before pairs h =
      let m = some_of_pair (unescaped raw) (document_meaning limit (suc (length fs)) j) (members_meaning limit (suc (length fs)) ms) pairs h in
      let name = m.0 in let d = m.1 in let rest = m.2 in
      let next = in_object (put_property name d before) ∷ fs in (
        behind_name before name ∷ fs,
        ap (name_step before fs) (ok_of (unescape raw) name m.3),
        run_on (behind_name before name ∷ fs) next (in_object (put_all before pairs) ∷ fs) (tokens j) (member_tokens ms)
            (all_taken (behind_name before name ∷ fs) (tokens j) next (tree_document j (behind_name before name ∷ fs) d tt m.4))
            (subst (λ ps. Run next (member_tokens ms) (in_object (put_all before ps) ∷ fs)) m.6
            (members_document ms fs (put_property name d before) rest m.5)),
      )

-- ---- over an iterator

module _ {T S : Type 0} (view : T → JsonToken) (place : T → ℕ) (steps : S → Option (Result T DeserializeError) → S → Type 0) where
  -- from s, with these containers open
  abbrev pub MakesFrom : List Frame → List T → S → Result kept.Document DeserializeError → S → Type 0
  MakesFrom fs taken s result t = Takes steps (λ frames token more. document_step frames (view token) ≡ goes_on more) (DocumentStops view place steps) taken fs s result t

  -- a token that is whole where the code stops
  stops_whole : (step : Step) (at : ℕ) (d : Document Number) (result : Result kept.Document DeserializeError) → step ≡ whole d → EndsWith step at result → IsDocument d result
  stops_whole step at d (Ok x) is h = let same : whole (document_view x) ≡ whole d = sym h ∙ is in cc
  stops_whole step at d (Err e) is (inl h) = absurd (subst (λ s. IsStepError s at e) is h)
  stops_whole step at d (Err e) is (inr h) = ap (λ x. x.kind) h.0

  -- a token that goes on where the code stops: memory ran out
  stops_on : (step : Step) (at : ℕ) (more : List Frame) (d : Document Number) (result : Result kept.Document DeserializeError) → step ≡ goes_on more → EndsWith step at result → IsDocument d result
  stops_on step at more d (Ok x) is h = let bad : whole (document_view x) ≡ goes_on more = sym h ∙ is in cc
  stops_on step at more d (Err e) is (inl h) = absurd (subst (λ s. IsStepError s at e) is h)
  stops_on step at more d (Err e) is (inr h) = ap (λ x. x.kind) h.0

  at_last : (fs : List Frame) (last : JsonToken) (d : Document Number) (after : Type 0) (it : Option (Result T DeserializeError)) (result : Result kept.Document DeserializeError)
      → document_step fs last ≡ whole d → IsItem view steps last after it → DocumentStops view place steps fs it result → IsDocument d result
  at_last fs last d after None result is h stops = absurd h
  at_last fs last d after (Some (Err e)) result is h stops = subst (IsDocument d) (sym stops) h
  at_last fs last d after (Some (Ok token)) result is h stops = stops_whole (document_step fs (view token)) (place token) d result (ap (document_step fs) h.0 ∙ is) stops

  before_last : (fs more : List Frame) (u : JsonToken) (d : Document Number) (after : Type 0) (it : Option (Result T DeserializeError)) (result : Result kept.Document DeserializeError)
      → document_step fs u ≡ goes_on more → IsItem view steps u after it → DocumentStops view place steps fs it result → IsDocument d result
  before_last fs more u d after None result is h stops = absurd h
  before_last fs more u d after (Some (Err e)) result is h stops = subst (IsDocument d) (sym stops) h
  before_last fs more u d after (Some (Ok token)) result is h stops = stops_on (document_step fs (view token)) (place token) more d result (ap (document_step fs) h.0 ∙ is) stops

  made_follows : (taken : List JsonToken) (last : JsonToken) (fs before : List Frame) (d : Document Number) (s : S) (got : List T) (result : Result kept.Document DeserializeError) (t : S)
      → Run fs taken before → document_step before last ≡ whole d → SurelyGives view steps (taken ++ last ∷ []) s → MakesFrom fs got s result t → IsDocument d result
  made_follows [] last fs before d s [] result t run is gives h =
      at_last fs last d _ h.0 result (ap (λ f. document_step f last) run ∙ is) (gives h.0 t h.1) h.2
  made_follows [] last fs before d s (p ∷ ps) result t run is gives h =
      let first = gives (Some (Ok p)) h.2.0 h.2.1 in
      let bad : goes_on h.0 ≡ whole d = sym h.1 ∙ ap (document_step fs) first.0 ∙ ap (λ f. document_step f last) run ∙ is in cc
  made_follows (u ∷ us) last fs before d s [] result t run is gives h =
      before_last fs run.0 u d _ h.0 result run.1 (gives h.0 t h.1) h.2
  made_follows (u ∷ us) last fs before d s (p ∷ ps) result t run is gives h =
      let first = gives (Some (Ok p)) h.2.0 h.2.1 in
      let both : goes_on h.0 ≡ goes_on run.0 = sym h.1 ∙ ap (document_step fs) first.0 ∙ run.1 in
      let same : h.0 ≡ run.0 = cc in
      made_follows us last run.0 before d h.2.0 ps result t run.2 is first.1 (subst (λ fs. MakesFrom fs ps h.2.0 result t) same h.2.2)

  -- where the iterator gives the tokens of a tree that means a document, this document is made, or memory runs out
  pub makes_meaning : (j : Json) (greatest : ℕ) (d : Document Number) (s : S) (got : List T) (result : Result kept.Document DeserializeError) (t : S) → greatest ≤ 256
      → document_meaning (Some greatest) 0 j ≡ Some d → SurelyGives view steps (tokens j) s → MakesDocument view place steps got s result t → IsDocument d result
  makes_meaning j greatest d s got result t most means gives h =
      let all = tree_document j [] d tt (document_deeper greatest 256 most j 0 d means) in
      made_follows all.taken all.last [] all.before d s got result t all.run all.finish (subst (λ ts. SurelyGives view steps ts s) all.split gives) h
