-- The form of a whole value: what a fresh serializer writes, how it is read back, and that its paths are distinct.
use Rattle.std.proofs.Common.{◌≡◌, ℕ, List, [], ◌∷◌, ◌++◌, All, map as mapped, true, false, Some, None, Ok, Err, option_to_list, option_map, unwrap_or, codes, refl, ap, ◌∙◌, arith}
use Rattle.std.specs.List.{AllByRecursion}
use Rattle.std.specs.Str.{byte}
use Rattle.std.proofs.lemmas.Bool.Decides.{nat_tests}
use Rattle.std.proofs.lemmas.List.Elements.{All-append, All-cons, All-nil}
use Rattle.percent_encoding.proofs.PercentLemmas.{IsByte}
use Rattle.smithy_declarations.specs.declared.place.Place.{Place}
use Rattle.smithy_schema.specs.declared.error.SerdeError.{SerdeError}
use Rattle.smithy_declarations.specs.Table.{Table}
use Rattle.smithy_declarations.specs.Names.{is_name_byte}
use Rattle.smithy_shapes.specs.Accepted.{IsAccepted}
use Rattle.smithy_shapes.specs.Fits.{Fits}
use Rattle.smithy_shapes.specs.Site.{Site, View}
use Rattle.smithy_declarations.specs.Value.{structure, MemberValues}
use Rattle.smithy_schema.specs.Writing.{write}
use Rattle.smithy_shapes.proofs.SiteLemmas.{site_at}
use Rattle.smithy_query.specs.Form.{Pair, form_head}
use Rattle.smithy_query.specs.Split.{pairs_of}
use Rattle.smithy_query.proofs.SplitLemmas.{IsPathByte, IsReadable, pairs_of_form}
use Rattle.smithy_query_codec.specs.Leaves.{Path, Leaf, neither, query_name, leaves, member_leaves}
use Rattle.smithy_query_codec.specs.Canonical.{path_text, pair_of_leaf, leaves_form, leaves_pairs, canonical_query}
use Rattle.smithy_query_codec.specs.Writable.{can_be_written}
use Rattle.smithy_query_codec.specs.Refusals.{refusal_of}
use Rattle.smithy_query_codec.specs.Counts.{HasPositions}
use Rattle.smithy_query_codec.specs.Distinct.{HaveDistinctPaths, HaveDistinctTexts}
use Rattle.smithy_query_codec.specs.Writing.{QueryState, fresh_state, query_after}
use Rattle.smithy_query_codec.proofs.AcceptedForms.{fit_has_form}
use Rattle.smithy_query_codec.proofs.ByteLemmas.{fit_has_bytes}
use Rattle.smithy_query_codec.proofs.DistinctTexts.{distinct_paths, distinct_texts}
use Rattle.smithy_query_codec.proofs.Forms.{HasForm}
use Rattle.smithy_query_codec.proofs.LeafLemmas.{leaves_text, under-nil}
use Rattle.smithy_query_codec.proofs.RefusalLemmas.{value_refused}
use Rattle.smithy_query_codec.proofs.ReadableLeaves.{IsReadableLeaf, leaves_readable}
use Rattle.smithy_query_codec.proofs.SegmentLemmas.{IsNameText}
use Rattle.smithy_query_codec.proofs.WritingLemmas.{at, value_adds}

-- ---- writing

abbrev pub whole_state : List ℕ → QueryState
whole_state out = at out [] [] 0 [] []

no_name : (view : View) → view.name ≡ None → option_to_list (query_name view) ≡ []
no_name view nameless = ap (λ o. option_to_list (option_map (λ name. unwrap_or view.xml_name name) o)) nameless

-- a fresh serializer writes the form of a structure that is no member's
pub whole_form : (site : Site) (ms : MemberValues) (action version : List ℕ) → site.view.name ≡ None → HasForm site (structure ms) → can_be_written site (structure ms) ≡ true
    → write query_after site (structure ms) (fresh_state action version) ≡ Ok (whole_state (canonical_query action version site (structure ms)))
whole_form site ms action version nameless h can =
    value_adds site (structure ms) (form_head action version) [] [] 0 [] [] [] [] h can (no_name site.view nameless) tt tt refl refl
    ∙ ap (λ ls. Ok (whole_state (form_head action version ++ leaves_text ls))) (under-nil (member_leaves site ms))

-- and refuses it where no form can express it
pub no_form : (site : Site) (ms : MemberValues) (action version : List ℕ) (e : SerdeError) → site.view.name ≡ None → HasForm site (structure ms) → refusal_of site (structure ms) ≡ Some e
    → write query_after site (structure ms) (fresh_state action version) ≡ Err e
no_form site ms action version e nameless h refused =
    value_refused site (structure ms) (form_head action version) [] [] 0 [] [] [] [] e h refused (no_name site.view nameless) tt tt refl refl

-- ---- reading back

name_cuts_nothing : (b : ℕ) → is_name_byte b ≡ true → IsPathByte b
name_cuts_nothing b h = record {
  no_ampersand = grind (arith, nat_tests);
  no_equals = grind (arith, nat_tests);
  no_percent = λ is. grind (arith, nat_tests);
}

point_cuts_nothing : IsPathByte (byte ".")
point_cuts_nothing = record { no_ampersand = refl; no_equals = refl; no_percent = λ is. omega (arith, is) }

segment_cuts_nothing : (s : List ℕ) → IsNameText s → All IsPathByte s
segment_cuts_nothing [] h = All-nil IsPathByte
segment_cuts_nothing (b ∷ s) h = All-cons IsPathByte b s (name_cuts_nothing b h.0) (segment_cuts_nothing s h.1)

path_cuts_nothing : (p : Path) → AllByRecursion IsNameText p → All IsPathByte (path_text p)
path_cuts_nothing [] h = All-nil IsPathByte
path_cuts_nothing (s ∷ []) h = segment_cuts_nothing s h.0
path_cuts_nothing (s ∷ t ∷ p) h =
    All-append IsPathByte s (byte "." ∷ path_text (t ∷ p)) (segment_cuts_nothing s h.0)
    (All-cons IsPathByte (byte ".") (path_text (t ∷ p)) point_cuts_nothing (path_cuts_nothing (t ∷ p) h.1))

pairs_readable : (ls : List Leaf) → AllByRecursion IsReadableLeaf ls → AllByRecursion IsReadable (mapped pair_of_leaf ls)
pairs_readable [] h = tt
pairs_readable (l ∷ ls) h = ((path_cuts_nothing l.path h.0.0, h.0.1), pairs_readable ls h.1)

pairs_of_leaves : (ls : List Leaf) → mapped {B = List ℕ × List ℕ} (λ (p : Pair). (p.path, p.text)) (mapped pair_of_leaf ls) ≡ mapped {B = List ℕ × List ℕ} (λ (l : Leaf). (path_text l.path, l.text)) ls
pairs_of_leaves [] = refl
pairs_of_leaves (l ∷ ls) = ap (λ (xs : List (List ℕ × List ℕ)). (path_text l.path, l.text) ∷ xs) (pairs_of_leaves ls)

pub form_is_read : (action version : List ℕ) (ls : List Leaf) → All IsByte action → All IsByte version → AllByRecursion IsReadableLeaf ls
    → pairs_of (leaves_form action version ls) ≡ leaves_pairs action version ls
form_is_read action version ls ha hv h =
    pairs_of_form action version (mapped pair_of_leaf ls) ha hv (pairs_readable ls h)
    ∙ ap (λ (xs : List (List ℕ × List ℕ)). (codes "Action", action) ∷ (codes "Version", version) ∷ xs) (pairs_of_leaves ls)

-- ---- values of a table

module _ (t : Table) (accepted : IsAccepted t) (p : Place) (view : View) (ms : MemberValues) (fits : Fits t p (structure ms)) (short : HasPositions (structure ms)) where
  has_form : HasForm (site_at t p view) (structure ms)
  has_form = fit_has_form t accepted p view false (structure ms) fits short

  readable : AllByRecursion IsReadableLeaf (leaves (site_at t p view) neither (structure ms))
  readable = leaves_readable (site_at t p view) neither (structure ms) has_form (fit_has_bytes t p false (structure ms) fits)

  -- what a form can express has its form
  pub fit_is_written : (action version : List ℕ) → view.name ≡ None → can_be_written (site_at t p view) (structure ms) ≡ true
      → write query_after (site_at t p view) (structure ms) (fresh_state action version)
      ≡ Ok (whole_state (canonical_query action version (site_at t p view) (structure ms)))
  fit_is_written action version nameless can = whole_form (site_at t p view) ms action version nameless has_form can

  -- what none can has none
  pub fit_is_refused : (action version : List ℕ) (e : SerdeError) → view.name ≡ None → refusal_of (site_at t p view) (structure ms) ≡ Some e
      → write query_after (site_at t p view) (structure ms) (fresh_state action version) ≡ Err e
  fit_is_refused action version e nameless refused = no_form (site_at t p view) ms action version e nameless has_form refused

  -- what is read is what was written
  pub fit_is_read : (action version : List ℕ) → All IsByte action → All IsByte version
      → pairs_of (canonical_query action version (site_at t p view) (structure ms)) ≡ leaves_pairs action version (leaves (site_at t p view) neither (structure ms))
  fit_is_read action version ha hv = form_is_read action version (leaves (site_at t p view) neither (structure ms)) ha hv readable

  -- no two leaves have one path, not even as they are written
  pub fit_is_distinct : HaveDistinctPaths (leaves (site_at t p view) neither (structure ms)) × HaveDistinctTexts (leaves (site_at t p view) neither (structure ms))
  fit_is_distinct =
      (distinct_paths (site_at t p view) neither (structure ms) has_form, distinct_texts (site_at t p view) neither ms has_form (fit_has_bytes t p false (structure ms) fits))
