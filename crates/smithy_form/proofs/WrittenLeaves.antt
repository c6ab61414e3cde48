-- The leaves of a plain value are read as they are written.
use Rattle.std.proofs.Common.{◌≡◌, ◌≢◌, ℕ, suc, List, [], ◌∷◌, Bool, true, false, None, refl, sym, ◌∙◌, ap}
use Rattle.std.specs.Prelude.{bytes_eq, IsUtf8}
use Rattle.std.specs.List.{AllByRecursion, list_any, slice_split}
use Rattle.std.proofs.lemmas.Slice.Eq.{bytes_eq-Decides}
use Rattle.smithy_declarations.specs.Table.{Table, IsStructure, kind_of, shape_place}
use Rattle.smithy_declarations.specs.Value.{Value}
use Rattle.smithy_shapes.specs.Accepted.{IsAccepted}
use Rattle.smithy_shapes.specs.Site.{shape_site}
use Rattle.smithy_query_codec.specs.Leaves.{Leaf, neither, leaves}
use Rattle.smithy_query_codec.specs.Canonical.{path_text, canonical_query}
use Rattle.smithy_query_codec.proofs.AcceptedForms.{fit_has_form}
use Rattle.smithy_query_codec.proofs.ByteLemmas.{fit_has_bytes}
use Rattle.smithy_query_codec.proofs.DistinctLemmas.{Differ, leaves_distinct}
use Rattle.smithy_query_codec.proofs.PairLemmas.{Pairwise}
use Rattle.smithy_query_codec.proofs.PathTexts.{is_point}
use Rattle.smithy_query_codec.proofs.ReadableLeaves.{IsReadableLeaf, leaves_readable}
use Rattle.smithy_form.specs.Plain.{IsPlain}
use Rattle.smithy_form.specs.Pairs.{leaf_pairs, greatest_depth}
use Rattle.smithy_form.specs.Forms.{first_repeated, parted, parts_of}
use Rattle.smithy_form.proofs.JoinedPaths.{IsCut, AreCut, structure_is_cut}
use Rattle.smithy_form.proofs.PlainValues.{whole_of}
use Rattle.smithy_form.proofs.TextLeaves.{IsText, leaves_are_texts}
use Rattle.smithy_form.proofs.WrittenForms.{IsReadAgain, path_is_quiet, written_parts_of}

-- ---- names that differ

none_is : (s : List ℕ) (before : List (List ℕ)) → AllByRecursion (λ b. s ≢ b) before → list_any (bytes_eq s) before ≡ false
none_is s [] h = refl
none_is s (b ∷ before) h = by (bytes_eq s b) refl (none_is s before h.1)
  where
    by : (t : Bool) → bytes_eq s b ≡ t → list_any (bytes_eq s) before ≡ false → list_any (bytes_eq s) (b ∷ before) ≡ false
    by true is again = absurd (h.0 ((bytes_eq-Decides s b).0 is))
    by false is again = rw is again

abbrev Avoids : List (List ℕ) → Leaf → Type 0
Avoids before l = AllByRecursion (λ b. path_text l.path ≢ b) before

avoid_one_more : (before : List (List ℕ)) (l : Leaf) (ls : List Leaf) → IsCut l.path → AreCut ls → AllByRecursion (Differ l) ls → AllByRecursion (Avoids before) ls
    → AllByRecursion (Avoids (path_text l.path ∷ before)) ls
avoid_one_more before l [] cut cuts apart avoid = tt
avoid_one_more before l (m ∷ ls) cut cuts apart avoid =
    ((λ same. apart.0 (sym cut ∙ ap (slice_split is_point) (sym same) ∙ cuts.0), avoid.0), avoid_one_more before l ls cut cuts.1 apart.1 avoid.1)

none_repeated : (before : List (List ℕ)) (n : ℕ) (ls : List Leaf) → AreCut ls → Pairwise Differ ls → AllByRecursion (Avoids before) ls
    → first_repeated before n (leaf_pairs ls) ≡ None
none_repeated before n [] cut apart avoid = refl
none_repeated before n (l ∷ ls) cut apart avoid =
    rw (none_is (path_text l.path) before avoid.0)
    (none_repeated (path_text l.path ∷ before) (suc n) ls cut.1 apart.1 (avoid_one_more before l ls cut.0 cut.1 apart.0 avoid.1))

avoid_nothing : (ls : List Leaf) → AllByRecursion (Avoids []) ls
avoid_nothing [] = tt
avoid_nothing (l ∷ ls) = (tt, avoid_nothing ls)

-- ---- leaves

read_again : (ls : List Leaf) → AllByRecursion IsReadableLeaf ls → AllByRecursion IsText ls → AllByRecursion IsReadAgain ls
read_again [] h t = tt
read_again (l ∷ ls) h t = ((path_is_quiet l.path h.0.0, t.0), read_again ls h.1 t.1)

-- the form of a plain value is parted into its leaves
pub written_value : (table : Table) → IsAccepted table → (root : ℕ) → IsStructure (kind_of table (shape_place root)) → (action version : List ℕ) (v : Value)
    → IsUtf8 action → IsUtf8 version → IsPlain (shape_site table root) greatest_depth v
    → parts_of (canonical_query action version (shape_site table root) v) ≡ parted action version (leaf_pairs (leaves (shape_site table root) neither v))
written_value table accepted root kind action version v ha hv plain =
    let site = shape_site table root in
    let ls = leaves site neither v in
    let form = fit_has_form table accepted site.place site.view false v plain.fits plain.counts in
    written_parts_of action version ls ha hv
    (read_again ls (leaves_readable site neither v form (fit_has_bytes table site.place false v plain.fits)) (leaves_are_texts site neither v (whole_of site accepted greatest_depth v plain)))
    (none_repeated [] 3 ls (structure_is_cut table accepted site.place site.view v kind plain.fits plain.counts) (leaves_distinct site neither v form) (avoid_nothing ls))
