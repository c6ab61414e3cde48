-- Where a structure or a union goes on to, as private functions answer it.
use Rattle.std.specs.Prelude.{◌≡◌, ◌<◌, ℕ, List, Bool, Some, None}
use Rattle.smithy_schema.specs.declared.step.Step.{Step}
use Rattle.smithy_schema.specs.declared.step.Step.TheVariants.{Member as ToMember, Unknown, End}
use Rattle.smithy_schema.specs.Reading.{Cursor, depth}
use Rattle.smithy_shapes.specs.Site.{Site, site_of, member_site, kind_at}
use Rattle.smithy_declarations.specs.Table.{Member, members_of, position_named}
use Rattle.smithy_cbor_values.specs.Standing.{end_mark, RestIsEmpty}

-- the structure was opened where nothing is left, and ends there
abbrev pub EndsEmpty : Bool → Cursor → ℕ → Type 0
EndsEmpty strict c at = (c.inner.mark ≡ end_mark) × RestIsEmpty strict c.input at × (0 < depth c)

-- the step that this name makes
abbrev pub StepsTo : Step → Site → List ℕ → Type 0
StepsTo (ToMember s) outer name =
    (n : ℕ) × (position_named (λ (m : Member). m.name) (members_of (kind_at outer)) name ≡ Some n)
    × (member_site outer n ≡ Some (site_of s))
StepsTo Unknown outer name = position_named (λ (m : Member). m.name) (members_of (kind_at outer)) name ≡ None
StepsTo End outer name = ⊥
