-- What single calls leave open, for types whose members, elements or entries are written one by one.
use Rattle.std.proofs.Common.{◌≡◌, List, ◌∷◌, ℕ, Result, Ok, Err, OnOk, refl, sym, ap, ◌∙◌}
use Rattle.smithy_schema.specs.declared.error.SerdeError.{SerdeError}
use Rattle.smithy_shapes.specs.Site.{Site}
use Rattle.smithy_declarations.specs.Value.{ScalarValue, text}
use Rattle.smithy_schema.specs.Writing.{Writer, Open, open_map_at_key, open_map_at_value, IsNested, after_value, open_after, scalar_of}
use Rattle.smithy_schema.specs.Written.{IsInside}
use Rattle.smithy_schema.proofs.OpenLemmas.{scalar_taken}

same_open : (a b : List Open) → ◌≡◌ {A = Result (List Open) SerdeError} (Ok a) (Ok b) → a ≡ b
same_open a b h = cc

module _ {S : Type 0} (after : Writer S) (open_in : S → List Open) (nested : IsNested after open_in) where
  -- a scalar leaves a structure, a union or a list open as it is
  pub scalar_stays : (o : Open) → ((outer : List Open) → after_value (o ∷ outer) ≡ Ok (o ∷ outer))
      → (site : Site) (x : ScalarValue) (s t : S) (r : Result (Unit {0}) SerdeError) → IsInside o (open_in s) → OnOk r (after (scalar_of site x) s ≡ Ok t) → OnOk r (open_in t ≡ open_in s)
  scalar_stays o takes site x s t (Ok done) (outer, is) written =
      same_open (open_in t) (open_in s)
      (sym (nested.goes (scalar_of site x) s t written) ∙ ap (open_after (scalar_of site x)) is ∙ scalar_taken x (o ∷ outer) (o ∷ outer) (takes outer) ∙ ap Ok (sym is))
  scalar_stays o takes site x s t (Err e) inside written = tt

  -- a key and the scalar behind it leave a map open as it is
  pub entry_stays : (key_site site : Site) (key : List ℕ) (x : ScalarValue) (s t u : S) (r : Result (Unit {0}) SerdeError) → IsInside open_map_at_key (open_in s)
      → after (scalar_of key_site (text key)) s ≡ Ok t → OnOk r (after (scalar_of site x) t ≡ Ok u) → OnOk r (open_in u ≡ open_in s)
  entry_stays key_site site key x s t u (Ok done) (outer, is) keyed written =
      let at_value : open_in t ≡ open_map_at_value ∷ outer =
      same_open (open_in t) (open_map_at_value ∷ outer) (sym (nested.goes (scalar_of key_site (text key)) s t keyed) ∙ ap (open_after (scalar_of key_site (text key))) is) in
      same_open (open_in u) (open_in s)
      (sym (nested.goes (scalar_of site x) t u written) ∙ ap (open_after (scalar_of site x)) at_value
      ∙ scalar_taken x (open_map_at_value ∷ outer) (open_map_at_key ∷ outer) refl ∙ ap Ok (sym is))
  entry_stays key_site site key x s t u (Err e) inside keyed written = tt
