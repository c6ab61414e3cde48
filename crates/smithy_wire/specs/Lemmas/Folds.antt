-- How the entries of a container of each kind fold.
use Rattle.std.specs.Prelude.{◌≡◌, ℕ, List, [], ◌∷◌, ◌++◌, Option, Some, None, Bool, true, false, refl, option_and_then, option_map, cond}
use Rattle.smithy_declarations.specs.Table.{Kind, structure_of, union_of, list_of, map_of, is_sparse}
use Rattle.smithy_declarations.specs.Value.{Value, list, map, structure, values_of, MemberValues, no_member_values, MapEntries, no_map_entries, put_entry}
use Rattle.smithy_shapes.specs.Container.{Entry, folded, is_type_mark, element_of, member_step, element_step, entry_step, container_of}
use Rattle.smithy_wire.specs.Node.{Form, as_array, as_object}
use Rattle.smithy_wire.specs.Rules.{Rules}
use Rattle.smithy_wire.specs.Meaning.{is_in}
use Rattle.smithy_shapes.specs.Lemmas.Entries.{entry_with}
use Rattle.smithy_shapes.specs.Lemmas.Variants.{first_variant, variant_step, variants_folded}
use Rattle.smithy_wire.specs.Lemmas.EntrySteps.{FoldsBy, structure_folds, union_folds, list_folds, map_folds}

-- what means more and may be skipped more steps no less
abbrev pub IsRising : {S : Type 0} → (Entry → S → Option S) → Type 0
IsRising {S = S} step =
    (key : Option (List ℕ)) (pos : Option ℕ) (m u : Option Value) (absent skips may nil : Bool) (s after : S) → ((v : Value) → m ≡ Some v → u ≡ Some v)
    → (skips ≡ true → may ≡ true) → step (entry_with key pos m absent skips nil) s ≡ Some after → step (entry_with key pos u absent may nil) s ≡ Some after

pub record Fold (k : Kind) : Type 1 where
  pub S : Type 0
  pub step : Entry → S → Option S
  pub first : S
  pub finish : S → Option Value
  pub rises : IsRising step
  pub whole : (es : List Entry) → container_of k es ≡ option_and_then finish (folded step first es)

pub mapped : {A : Type 0} (f : A → Value) (o : Option A) → option_map f o ≡ option_and_then (λ s. Some (f s)) o
mapped f None = refl
mapped f (Some s) = refl

pub members_rise : IsRising member_step
members_rise None pos m u absent skips may nil s after up let_pass h = cc
members_rise (Some key) pos m u true skips may nil s after up let_pass h = h
members_rise (Some key) None m u false true may nil s after up let_pass h = rw (let_pass refl) h
members_rise (Some key) None m u false false may nil s after up let_pass h = cc
members_rise (Some key) (Some n) None u false skips may nil s after up let_pass h = cc
members_rise (Some key) (Some n) (Some v) u false skips may nil s after up let_pass h = rw (up v refl) h

mark_rises : {S : Type 0} (mark skips may : Bool) (s after : S) (x y : Option S) → (skips ≡ true → may ≡ true) → (x ≡ Some after → y ≡ Some after)
    → cond mark (cond skips (Some s) None) x ≡ Some after → cond mark (cond may (Some s) None) y ≡ Some after
mark_rises true true may s after x y let_pass up h = rw (let_pass refl) h
mark_rises true false may s after x y let_pass up h = cc
mark_rises false skips may s after x y let_pass up h = up h

first_rises : (s : Option Value) (pos : Option ℕ) (m u : Option Value) (after : Option Value) → ((v : Value) → m ≡ Some v → u ≡ Some v)
    → first_variant s pos m ≡ Some after → first_variant s pos u ≡ Some after
first_rises (Some v) pos m u after up h = cc
first_rises None None m u after up h = cc
first_rises None (Some n) None u after up h = cc
first_rises None (Some n) (Some v) u after up h = rw (up v refl) h

pub variants_rise : IsRising variant_step
variants_rise None pos m u absent skips may nil s after up let_pass h = cc
variants_rise (Some key) pos m u true skips may nil s after up let_pass h = h
variants_rise (Some key) pos m u false skips may nil s after up let_pass h =
    mark_rises (is_type_mark pos key) skips may s after (first_variant s pos m) (first_variant s pos u) let_pass (first_rises s pos m u after up) h

element_rises : (sparse nil : Bool) (m u : Option Value) (v : Value) → ((v : Value) → m ≡ Some v → u ≡ Some v) → element_of sparse nil m ≡ Some v
    → element_of sparse nil u ≡ Some v
element_rises true true m u v up h = h
element_rises true false m u v up h = up v h
element_rises false true m u v up h = up v h
element_rises false false m u v up h = up v h

map_rises : {A B : Type 0} (f : A → B) (o u : Option A) (after : B) → ((v : A) → o ≡ Some v → u ≡ Some v) → option_map f o ≡ Some after → option_map f u ≡ Some after
map_rises f None u after up h = cc
map_rises f (Some v) u after up h = rw (up v refl) h

pub elements_rise : (sparse : Bool) → IsRising (element_step sparse)
elements_rise sparse key pos m u absent skips may nil s after up let_pass h =
    map_rises (λ v. s ++ v ∷ []) (element_of sparse nil m) (element_of sparse nil u) after (λ v. element_rises sparse nil m u v up) h

pub entries_rise : (sparse : Bool) → IsRising (entry_step sparse)
entries_rise sparse None pos m u absent skips may nil s after up let_pass h = cc
entries_rise sparse (Some key) pos m u absent skips may nil s after up let_pass h =
    map_rises (λ v. put_entry key v s) (element_of sparse nil m) (element_of sparse nil u) after (λ v. element_rises sparse nil m u v up) h

-- each kind of containers has a fold
unfoldable pub fold_of : (k : Kind) (f : Form) → is_in k f ≡ true → Fold k
fold_of (structure_of members) f h = record {
  S = MemberValues;
  step = member_step;
  first = no_member_values;
  finish = λ s. Some (structure s);
  rises = members_rise;
  whole = λ es. mapped structure (folded member_step no_member_values es);
}
fold_of (union_of members) f h = record {
  S = Option Value;
  step = variant_step;
  first = None;
  finish = λ s. s;
  rises = variants_rise;
  whole = variants_folded;
}
fold_of (list_of l) f h = record {
  S = List Value;
  step = element_step (is_sparse (list_of l));
  first = [];
  finish = λ s. Some (list (values_of s));
  rises = elements_rise (is_sparse (list_of l));
  whole = λ es. mapped (λ vs. list (values_of vs)) (folded (element_step (is_sparse (list_of l))) [] es);
}
fold_of (map_of m) f h = record {
  S = MapEntries;
  step = entry_step (is_sparse (map_of m));
  first = no_map_entries;
  finish = λ s. Some (map s);
  rises = entries_rise (is_sparse (map_of m));
  whole = λ es. mapped map (folded (entry_step (is_sparse (map_of m))) no_map_entries es);
}
fold_of _ f h = cc

-- what each entry of a container does to the container's fold
pub folds_by : {L : Type 0} (r : Rules L) (d : ℕ) (k : Kind) (f : Form) (within : is_in k f ≡ true) → FoldsBy r k f d (fold_of k f within).step
unfolding fold_of
folds_by r d (structure_of members) as_array h = cc
folds_by r d (structure_of members) as_object h = structure_folds r d members
folds_by r d (union_of members) as_array h = cc
folds_by r d (union_of members) as_object h = union_folds r d members
folds_by r d (list_of l) as_array h = list_folds r d l
folds_by r d (list_of l) as_object h = cc
folds_by r d (map_of m) as_array h = cc
folds_by r d (map_of m) as_object h = map_folds r d m
folds_by r d _ f h = cc
