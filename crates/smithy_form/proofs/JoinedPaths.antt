-- Leaves by their joined paths: where no segment holds a point, a joined path is one path.
use Rattle.std.proofs.Common.{◌≡◌, ℕ, List, [], ◌∷◌, Bool, true, false, Option, Some, None, refl, sym, ◌∙◌, ap, subst, ◌⊎◌, inl, inr}
use Rattle.std.specs.Prelude.{bytes_eq}
use Rattle.std.specs.List.{AllByRecursion, slice_split}
use Rattle.std.proofs.lemmas.Slice.Eq.{bytes_eq-Decides}
use Rattle.smithy_declarations.specs.declared.place.Place.{Place}
use Rattle.smithy_declarations.specs.Names.{named}
use Rattle.smithy_declarations.specs.Table.{Table, IsStructure, kind_of}
use Rattle.smithy_declarations.specs.Value.{Value, structure, MemberValues}
use Rattle.smithy_shapes.specs.Accepted.{IsAccepted}
use Rattle.smithy_shapes.specs.Fits.{FitsOr}
use Rattle.smithy_shapes.specs.Site.{Site, View, kind_at}
use Rattle.smithy_shapes.proofs.SiteLemmas.{site_at}
use Rattle.smithy_query_codec.specs.Leaves.{Path, Leaf, neither, leaves, member_leaves}
use Rattle.smithy_query_codec.specs.Canonical.{path_text}
use Rattle.smithy_query_codec.specs.Counts.{HasPositions}
use Rattle.smithy_query_codec.proofs.AcceptedForms.{fit_has_form}
use Rattle.smithy_query_codec.proofs.ByteLemmas.{fit_has_bytes}
use Rattle.smithy_query_codec.proofs.DistinctLemmas.{Begins, Among, members_begin}
use Rattle.smithy_query_codec.proofs.Forms.{names_of}
use Rattle.smithy_query_codec.proofs.PairLemmas.{each_weaker}
use Rattle.smithy_query_codec.proofs.PathTexts.{is_point, split_path}
use Rattle.smithy_query_codec.proofs.ReadableLeaves.{IsReadableLeaf, leaves_readable}
use Rattle.smithy_query_codec.proofs.SegmentLemmas.{IsNameText, HasNoPoint, no_point}
use Rattle.smithy_form.specs.Lookup.{inside, text_at, AreSame}
use Rattle.smithy_form.specs.Plain.{IsPlain}
use Rattle.smithy_form.specs.Pairs.{NamedText, leaf_pairs, AreLeavesOf}
use Rattle.smithy_form.proofs.LookupLemmas.{same_text, nothing_at}
use Rattle.smithy_form.proofs.PlainValues.{one_plain_value}
use Rattle.smithy_form.proofs.UniqueValues.{structure_value}

-- ---- the first leaf, or the others

pub first_or_other : (p q : Path) (t : List ℕ) (ls : List Leaf) → (p ≡ q) ⊎ (text_at p (record { path = q; text = t } ∷ ls) ≡ text_at p ls)
first_or_other [] [] t ls = inl refl
first_or_other [] (u ∷ q) t ls = inr refl
first_or_other (s ∷ p) [] t ls = inr refl
first_or_other (s ∷ p) (u ∷ q) t ls = by (bytes_eq s u) refl (first_or_other p q t (inside s ls))
  where
    by : (b : Bool) → bytes_eq s u ≡ b → (p ≡ q) ⊎ (text_at p (record { path = q; text = t } ∷ inside s ls) ≡ text_at p (inside s ls))
        → (s ∷ p ≡ u ∷ q) ⊎ (text_at (s ∷ p) (record { path = u ∷ q; text = t } ∷ ls) ≡ text_at (s ∷ p) ls)
    by true is (inl same) = let first = (bytes_eq-Decides s u).0 is in inl (rw (first, same) refl)
    by true is (inr other) = inr (rw is other)
    by false is either = inr (rw is refl)

pub first_found : (p : Path) (t : List ℕ) (ls : List Leaf) → text_at p (record { path = p; text = t } ∷ ls) ≡ Some t
first_found [] t ls = refl
first_found (s ∷ p) t ls = rw (same_text s) (first_found p t (inside s ls))

-- ---- joined paths

-- cut at its points, the joined path is the path
abbrev pub IsCut : Path → Type 0
IsCut p = slice_split is_point (path_text p) ≡ p

abbrev pub AreCut : List Leaf → Type 0
AreCut ls = AllByRecursion (λ (l : Leaf). IsCut l.path) ls

pub named_at : (ls : List Leaf) → AreCut ls → (p : Path) → IsCut p → named (leaf_pairs ls) (path_text p) ≡ text_at p ls
named_at [] cut p is = sym (nothing_at p)
named_at (l ∷ ls) cut p is = by (bytes_eq (path_text p) (path_text l.path)) refl (named_at ls cut.1 p is)
  where
    by : (b : Bool) → bytes_eq (path_text p) (path_text l.path) ≡ b → named (leaf_pairs ls) (path_text p) ≡ text_at p ls → named (leaf_pairs (l ∷ ls)) (path_text p) ≡ text_at p (l ∷ ls)
    by true same again =
        let text = (bytes_eq-Decides (path_text p) (path_text l.path)).0 same in
        let path : l.path ≡ p = sym cut.0 ∙ ap (slice_split is_point) (sym text) ∙ is in
        rw same (subst (λ q. Some l.text ≡ text_at q (l ∷ ls)) path (sym (first_found l.path l.text ls)))
    by false apart again = rw apart (again ∙ other (first_or_other p l.path l.text ls))
      where
        other : (p ≡ l.path) ⊎ (text_at p (l ∷ ls) ≡ text_at p ls) → text_at p ls ≡ text_at p (l ∷ ls)
        other (inl e) = absurd (let no : true ≡ false = sym ((bytes_eq-Decides (path_text p) (path_text l.path)).1 (ap path_text e)) ∙ apart in cc)
        other (inr h) = sym h

-- where leaves have a text, the path is one that is cut so
pub found_is_cut : (ls : List Leaf) → AreCut ls → (p : Path) (t : List ℕ) → text_at p ls ≡ Some t → IsCut p
found_is_cut [] cut p t found = absurd (let no : None ≡ Some t = sym (nothing_at p) ∙ found in cc)
found_is_cut (l ∷ ls) cut p t found = by (λ h. found_is_cut ls cut.1 p t h) (first_or_other p l.path l.text ls)
  where
    by : (text_at p ls ≡ Some t → IsCut p) → (p ≡ l.path) ⊎ (text_at p (l ∷ ls) ≡ text_at p ls) → IsCut p
    by again (inl e) = subst IsCut (sym e) cut.0
    by again (inr h) = again (sym h ∙ found)

-- leaves that are the same by joined paths are the same
pub same_by_names : (ls ms : List Leaf) → AreCut ls → AreCut ms → ((name : List ℕ) → named (leaf_pairs ls) name ≡ named (leaf_pairs ms) name) → AreSame ls ms
same_by_names ls ms cut_l cut_m same = λ p. by p (text_at p ls) (text_at p ms) refl refl
  where
    told : (p : Path) → IsCut p → text_at p ls ≡ text_at p ms
    told p is = sym (named_at ls cut_l p is) ∙ same (path_text p) ∙ named_at ms cut_m p is

    by : (p : Path) (x y : Option (List ℕ)) → text_at p ls ≡ x → text_at p ms ≡ y → text_at p ls ≡ text_at p ms
    by p (Some t) y hx hy = told p (found_is_cut ls cut_l p t hx)
    by p None (Some t) hx hy = told p (found_is_cut ms cut_m p t hy)
    by p None None hx hy = hx ∙ sym hy

-- ---- the leaves of a structure

cut_by : (P : List ℕ → Type 0) (ls : List Leaf) → AllByRecursion (Begins P) ls → AllByRecursion IsReadableLeaf ls → AreCut ls
cut_by P [] begin readable = tt
cut_by P (l ∷ ls) begin readable = (here l begin.0 readable.0.0, cut_by P ls begin.1 readable.1)
  where
    here : (l : Leaf) → Begins P l → AllByRecursion IsNameText l.path → IsCut l.path
    here l (s, rest, is, ok) names =
        subst IsCut (sym is) (split_path s rest (each_weaker IsNameText HasNoPoint no_point (s ∷ rest) (subst (AllByRecursion IsNameText) is names)))

pub structure_is_cut : (t : Table) → IsAccepted t → (p : Place) (view : View) (v : Value) → IsStructure (kind_of t p) → FitsOr t p false v → HasPositions v
    → AreCut (leaves (site_at t p view) neither v)
structure_is_cut t accepted p view v kind fits short =
    let is = structure_value (kind_of t p) t p v kind refl fits in
    subst (λ u. AreCut (leaves (site_at t p view) neither u)) (sym is.1)
    (of_members is.0 (subst (FitsOr t p false) is.1 fits) (subst HasPositions is.1 short))
  where
    of_members : (ms : MemberValues) → FitsOr t p false (structure ms) → HasPositions (structure ms) → AreCut (leaves (site_at t p view) neither (structure ms))
    of_members ms fits short =
        let form = fit_has_form t accepted p view false (structure ms) fits short in
        cut_by (Among (names_of (site_at t p view) ms)) (member_leaves (site_at t p view) ms)
        (members_begin (site_at t p view) ms form)
        (leaves_readable (site_at t p view) neither (structure ms) form (fit_has_bytes t p false (structure ms) fits))

-- pairs tell at most one plain value of a structure
pub one_told_value : (site : Site) → IsAccepted site.table → IsStructure (kind_at site) → (depth : ℕ) (pairs : List NamedText) (v w : Value)
    → IsPlain site depth v → IsPlain site depth w → AreLeavesOf site pairs v → AreLeavesOf site pairs w → v ≡ w
one_told_value site accepted kind depth pairs v w hv hw told_v told_w =
    one_plain_value site accepted depth v w hv hw
    (same_by_names (leaves site neither v) (leaves site neither w)
    (structure_is_cut site.table accepted site.place site.view v kind hv.fits hv.counts)
    (structure_is_cut site.table accepted site.place site.view w kind hw.fits hw.counts)
    (λ name. sym (told_v name) ∙ told_w name))
