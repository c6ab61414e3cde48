-- Where a reader fails for its depth: at a container that is due, or by what is skipped or a document, where the wire limits these.
use Rattle.std.proofs.Common.{◌≡◌, ℕ, refl, ◌∙◌, arith, inl, inr}
use Rattle.smithy_declarations.specs.declared.place.Place.{Place}
use Rattle.smithy_declarations.specs.Table.{Table, kind_of, IsContainer}
use Rattle.smithy_schema.specs.Reading.{Cursor, depth, Relations, EndsTooDeep}
use Rattle.smithy_value.proofs.ReadWide.{Lying, StandsInside}

-- a container is due where so many are open as may be
abbrev due_at : ℕ → Lying
due_at max i t p d a e = (d ≡ max) × IsContainer (kind_of t p)

-- a container that is due isn't entered
pub ends_here : (w : Relations) (max : ℕ) (old new : Cursor) (t : Table) (p : Place) → depth new ≡ depth old → depth old ≡ max → IsContainer (kind_of t p) → EndsTooDeep w max old new t p
ends_here w max old new t p level deepest kind = inr (p, 0, omega (arith, level), refl, level ∙ deepest, kind)

-- inside of a child, it is so inside of the whole
pub ends_inside : (w : Relations) (max : ℕ) (s0 s1 s2 : Cursor) (t u : Table) (p q : Place) → ((lies : Lying) → StandsInside lies s1 s2 u q → StandsInside lies s0 s2 t p)
    → EndsTooDeep w max s1 s2 u q → EndsTooDeep w max s0 s2 t p
ends_inside w max s0 s1 s2 t u p q inside (inl limited) = inl limited
ends_inside w max s0 s1 s2 t u p q inside (inr (r, k, gone, within, full, kind)) =
    let there = inside (due_at max) (r, k, gone, within, (0, (full, kind))) in
    inr (there.0, there.1, there.2, there.3, there.4.1.0, there.4.1.1)
