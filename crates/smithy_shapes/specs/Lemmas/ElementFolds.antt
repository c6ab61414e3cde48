-- What one more entry does to the elements of a list.
use Rattle.std.specs.Prelude.{◌≡◌, ◌⊎◌, List, [], ◌∷◌, ◌++◌, Option, Some, None, Bool, true, false, refl, option_and_then, option_map}
use Rattle.std.proofs.Common.{sym, ap, inl, inr}
use Rattle.smithy_declarations.specs.Value.{Value, null_element}
use Rattle.smithy_shapes.specs.Container.{Entry, elements_from, element_of}
use Rattle.smithy_shapes.specs.Lemmas.Options.{same_some}

-- an element is a null of a sparse list, or what its entry means
pub element_apart : (s b : Bool) (mean : Option Value) (v : Value) → element_of s b mean ≡ Some v
    → ((s ≡ true) × (b ≡ true) × (v ≡ null_element)) ⊎ (mean ≡ Some v)
element_apart s false mean v h = inr h
element_apart false true mean v h = inr h
element_apart true true mean v h = inl (refl, refl, sym (same_some null_element v h))

added_apart : (s : Bool) (o : Option Value) (vs us : List Value) (es : List Entry)
    → option_and_then (λ after. elements_from s after es) (option_map (λ v. vs ++ v ∷ []) o) ≡ Some us
    → (v : Value) × (o ≡ Some v) × (elements_from s (vs ++ v ∷ []) es ≡ Some us)
added_apart s (Some v) vs us es h = (v, refl, h)
added_apart s None vs us es h = cc

-- one entry after the other, the first by its fields: each gives an element
pub elements_apart : (s b : Bool) (mean : Option Value) (vs us : List Value) (es : List Entry)
    → option_and_then (λ after. elements_from s after es) (option_map (λ v. vs ++ v ∷ []) (element_of s b mean)) ≡ Some us
    → (v : Value) × (element_of s b mean ≡ Some v) × (elements_from s (vs ++ v ∷ []) es ≡ Some us)
elements_apart s b mean vs us es h = added_apart s (element_of s b mean) vs us es h

-- an element that an entry gives is added
pub element_adds : (s : Bool) (e : Entry) (v : Value) → element_of s e.is_null e.meaning ≡ Some v → (vs : List Value) (es : List Entry)
    → elements_from s vs (e ∷ es) ≡ elements_from s (vs ++ v ∷ []) es
element_adds s e v is vs es = ap (λ o. option_and_then (λ after. elements_from s after es) (option_map (λ v. vs ++ v ∷ []) o)) is
