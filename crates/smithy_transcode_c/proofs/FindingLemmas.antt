-- What is told of findings, one more at a time.
use Rattle.std.proofs.Common.{◌≡◌, ◌<◌, ◌+◌, ℕ, List, [], ◌∷◌, ◌++◌, map as mapped, flat_map, drop, get_or, length, refl, sym, append_assoc, append-nil, add-one, drop-cons}
use Rattle.smithy_lint.specs.Findings.{Found}

module _ {F : Type 0} (view : F → Found) (all : List F) (i : ℕ) (f : F) where
  next : i < length all → f ≡ get_or all i f → drop i all ≡ f ∷ drop (i + 1) all
  next within is = rw (drop-cons all i f within, ← is, add-one) refl

  -- a number of each finding
  pub number_told : (g : Found → ℕ) (whole old new : List ℕ) → i < length all → f ≡ get_or all i f
      → whole ≡ old ++ mapped g (mapped view (drop i all)) → new ≡ old ++ g (view f) ∷ [] → whole ≡ new ++ mapped g (mapped view (drop (i + 1) all))
  number_told g whole old new within is told put = let now = rw (next within is) at told in rw (put, append_assoc) now

  -- a text of each finding
  pub text_told : (g : Found → List ℕ) (whole old new : List ℕ) → i < length all → f ≡ get_or all i f
      → whole ≡ old ++ flat_map g (mapped view (drop i all)) → new ≡ old ++ g (view f) → whole ≡ new ++ flat_map g (mapped view (drop (i + 1) all))
  text_told g whole old new within is told put = let now = rw (next within is) at told in rw (put, append_assoc) now

-- after the last
pub all_numbers : {F : Type 0} (view : F → Found) (g : Found → ℕ) (rest : List F) (whole new : List ℕ) → rest ≡ []
    → whole ≡ new ++ mapped g (mapped view rest) → new ≡ whole
all_numbers view g rest whole new done told = sym (rw (done, append-nil) at told)

pub all_texts : {F : Type 0} (view : F → Found) (g : Found → List ℕ) (rest : List F) (whole new : List ℕ) → rest ≡ []
    → whole ≡ new ++ flat_map g (mapped view rest) → new ≡ whole
all_texts view g rest whole new done told = sym (rw (done, append-nil) at told)
