-- What entries mean together fits a place, where what each means fits its own.
use Rattle.std.specs.Prelude.{◌≡◌, ◌⊎◌, ℕ, ◌<◌, List, [], ◌∷◌, ◌++◌, Option, Some, None, Bool, true, false, refl, IsUtf8}
use Rattle.std.specs.declared.cmp.Ordering.{Ordering}
use Rattle.std.specs.declared.cmp.Ordering.TheVariants.{Less, Equal, Greater}
use Rattle.std.specs.Ordering.{MatchOrdering, nat_cmp, match_ordering}
use Rattle.std.specs.Cmp.Lexicographic.{slice_cmp}
use Rattle.std.proofs.Common.{sym, subst, inl, inr}
use Rattle.std.proofs.lemmas.Cmp.{ranked}
use Rattle.smithy_declarations.specs.declared.place.Place.{Place}
use Rattle.smithy_declarations.specs.Table.{Table, ListShape, MapShape, Kind, list_of, map_of, place_in, is_sparse}
use Rattle.smithy_declarations.specs.Value.{Value, scalar_value, list, map, structure, union, null_element, document_value, values_of, MapEntries, no_map_entries, map_entry, put_entry, MemberValues, no_member_values, member_value, put_member}
use Rattle.smithy_shapes.specs.Container.{Entry, element_of, members_from}
use Rattle.smithy_shapes.specs.Fits.{FitsOr, ElementsFit, EntriesFit, MembersFit, Fits}
use Rattle.smithy_shapes.specs.Lemmas.ElementFolds.{element_apart}
use Rattle.smithy_shapes.specs.Lemmas.Entries.{entry_with}

-- ---- lists and maps

-- a value of a place fits it where nulls may stand, too
fits_or : (t : Table) (q : Place) (b : Bool) (v : Value) → FitsOr t q false v → FitsOr t q b v
fits_or t q b (scalar_value x) h = h
fits_or t q b (list vs) h = h
fits_or t q b (map es) h = h
fits_or t q b (structure ms) h = h
fits_or t q b (union n v) h = h
fits_or t q b null_element h = cc
fits_or t q b (document_value d) h = h

-- the value is an element of a list, or a value of a map
abbrev pub ElementFits : Table → Kind → Value → Type 0
ElementFits t k v = (q : Place) × (place_in k None ≡ Some q) × FitsOr t q (is_sparse k) v

pub one_more_fits : (t : Table) (k : Kind) (vs : List Value) (v : Value) → ElementsFit t k (values_of vs) → ElementFits t k v
    → ElementsFit t k (values_of (vs ++ v ∷ []))
one_more_fits t k [] v h w = (w, tt)
one_more_fits t k (u ∷ vs) v h w = (h.0, one_more_fits t k vs v h.1 w)

child_fits : (t : Table) (k : Kind) (q : Place) (nulls : Bool) → place_in k None ≡ Some q → is_sparse k ≡ nulls → (nil : Bool) (mean : Option Value) (v : Value)
    → ((w : Value) → mean ≡ Some w → Fits t q w) → element_of nulls nil mean ≡ Some v → ElementFits t k v
child_fits t k q nulls place sparse nil mean v fits h = fits_apart (element_apart nulls nil mean v h)
  where
    fits_apart : ((nulls ≡ true) × (nil ≡ true) × (v ≡ null_element)) ⊎ (mean ≡ Some v) → ElementFits t k v
    fits_apart (inl null) = (q, place, subst (FitsOr t q (is_sparse k)) (sym null.2) (rw sparse null.0))
    fits_apart (inr means) = (q, place, fits_or t q (is_sparse k) v (fits v means))

-- an element of a list fits, where what its entry means does
pub element_fits : (t : Table) (k : Kind) (l : ListShape) → k ≡ list_of l → (nil : Bool) (mean : Option Value) (v : Value)
    → ((w : Value) → mean ≡ Some w → Fits t l.place w) → element_of l.is_sparse nil mean ≡ Some v → ElementFits t k v
element_fits t k l kind = child_fits t k l.place l.is_sparse (rw kind refl) (rw kind refl)

-- a value of a map fits, where what its entry means does
pub map_value_fits : (t : Table) (k : Kind) (m : MapShape) → k ≡ map_of m → (nil : Bool) (mean : Option Value) (v : Value)
    → ((w : Value) → mean ≡ Some w → Fits t m.place w) → element_of m.is_sparse nil mean ≡ Some v → ElementFits t k v
map_value_fits t k m kind = child_fits t k m.place m.is_sparse (rw kind refl) (rw kind refl)

entry_placed_fits : (t : Table) (k : Kind) (key at : List ℕ) (v w : Value) (rest more : MapEntries) (order : Ordering)
    → IsUtf8 key → ElementFits t k v → IsUtf8 at → ElementFits t k w → EntriesFit t k rest → EntriesFit t k more
    → EntriesFit t k (match_ordering order (map_entry key v (map_entry at w rest)) (map_entry at v rest) (map_entry at w more))
entry_placed_fits t k key at v w rest more Less text one other_text other all next = (text, one, (other_text, other, all))
entry_placed_fits t k key at v w rest more Equal text one other_text other all next = (other_text, one, all)
entry_placed_fits t k key at v w rest more Greater text one other_text other all next = (other_text, other, next)

-- one more entry that fits
pub put_entry_fits : (t : Table) (k : Kind) (key : List ℕ) (v : Value) (es : MapEntries) → IsUtf8 key → ElementFits t k v → EntriesFit t k es
    → EntriesFit t k (put_entry key v es)
put_entry_fits t k key v no_map_entries text one h = (text, one, tt)
put_entry_fits t k key v (map_entry at w rest) text one h =
    entry_placed_fits t k key at v w rest (put_entry key v rest) (slice_cmp nat_cmp key at) text one h.0 h.1 h.2
    (put_entry_fits t k key v rest text one h.2)

-- ---- structures

abbrev pub MemberFits : Table → Kind → ℕ → Value → Type 0
MemberFits t k n v = (q : Place) × (place_in k (Some n) ≡ Some q) × FitsOr t q false v

placed_fits : (t : Table) (k : Kind) (n at : ℕ) (v w : Value) (rest more : MemberValues) (order : Ordering)
    → MatchOrdering order (n < at) (n ≡ at) (at < n)
    → MemberFits t k n v → MemberFits t k at w → MembersFit t k rest → MembersFit t k more
    → MembersFit t k (match_ordering order (member_value n v (member_value at w rest)) (member_value at v rest) (member_value at w more))
placed_fits t k n at v w rest more Less is one other all next = (one, (other, all))
placed_fits t k n at v w rest more Equal is one other all next = (subst (λ m. MemberFits t k m v) is one, all)
placed_fits t k n at v w rest more Greater is one other all next = (other, next)

-- one more member that fits
put_fits : (t : Table) (k : Kind) (n : ℕ) (v : Value) (fs : MemberValues) → MemberFits t k n v → MembersFit t k fs
    → MembersFit t k (put_member n v fs)
put_fits t k n v no_member_values one h = (one, tt)
put_fits t k n v (member_value at w rest) one h =
    placed_fits t k n at v w rest (put_member n v rest) (nat_cmp n at) (ranked n at (nat_cmp n at) refl) one h.0 h.1 (put_fits t k n v rest one h.1)

-- what an entry adds fits, where what it means does
pub entry_fits : (t : Table) (k : Kind) (key : Option (List ℕ)) (named : Option ℕ) (mean : Option Value) (absent skippable nil : Bool) (fs us : MemberValues) (xs : List Entry)
    → ((n : ℕ) (v : Value) → named ≡ Some n → mean ≡ Some v → MemberFits t k n v) → MembersFit t k fs
    → ((gs : MemberValues) → MembersFit t k gs → members_from gs xs ≡ Some us → MembersFit t k us)
    → members_from fs (entry_with key named mean absent skippable nil ∷ xs) ≡ Some us
    → MembersFit t k us
entry_fits t k None named mean absent skippable nil fs us xs fit h next folds = cc
entry_fits t k (Some key) named mean true skippable nil fs us xs fit h next folds = next fs h folds
entry_fits t k (Some key) None mean false true nil fs us xs fit h next folds = next fs h folds
entry_fits t k (Some key) None mean false false nil fs us xs fit h next folds = cc
entry_fits t k (Some key) (Some n) None false skippable nil fs us xs fit h next folds = cc
entry_fits t k (Some key) (Some n) (Some v) false skippable nil fs us xs fit h next folds =
    next (put_member n v fs) (put_fits t k n v fs (fit n v refl refl) h) folds
