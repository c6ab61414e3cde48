-- Where a structure or a union goes on to, as private functions answer it.
use Rattle.std.specs.Prelude.{◌≡◌, ◌<◌, ℕ, List, length, Bool, not, Some, None, is_none}
use Rattle.smithy_schema.specs.declared.step.Step.{Step}
use Rattle.smithy_schema.specs.declared.step.Step.TheVariants.{Member, Unknown, End}
use Rattle.smithy_schema.specs.Reading.{Cursor, depth}
use Rattle.smithy_declarations.specs.Table.{members_of, member_place}
use Rattle.smithy_shapes.specs.Site.{Site, site_of, member_site, kind_at}
use Rattle.smithy_json_values.specs.Settings.{Settings}
use Rattle.smithy_json_values.specs.Meaning.{rules_of}
use Rattle.smithy_json_values.specs.Standing.{end_mark}
use Rattle.smithy_json_values.specs.Tokens.{IsOverBy}
use Rattle.smithy_json_codec.specs.Private.PassedEntries.{type_name, Passing}
use Rattle.smithy_wire.specs.Rules.{position_in}

-- the structure was opened where the input is over, and ends there
abbrev pub EndsEmpty : Bool → ℕ → Cursor → Type 0
EndsEmpty strict at c = (c.inner.mark ≡ end_mark) × IsOverBy strict c.input at (length c.input) × (0 < depth c)

-- the step that this name makes
abbrev pub StepsTo : Step → Settings → Site → List ℕ → Type 0
StepsTo (Member s) o outer name =
    (n : ℕ) × (position_in (rules_of o) (kind_at outer) (Some name) ≡ Some n) × (member_site outer n ≡ Some (site_of s))
StepsTo Unknown o outer name = position_in (rules_of o) (kind_at outer) (Some name) ≡ None
StepsTo End o outer name = ⊥

-- a null under this name is passed over: it names no member of documents, and the settings don't hand nulls on
abbrev pub passes_null : Settings → Site → List ℕ → Bool
passes_null o outer name =
    not ((rules_of o).keeps_null
    (member_place (members_of (kind_at outer)) (position_in (rules_of o) (kind_at outer) (Some name))))

-- no member has the name of a mark, so that each `__type` is one
abbrev pub passes_marks : Settings → Site → Bool
passes_marks o outer = is_none (position_in (rules_of o) (kind_at outer) (Some type_name))

-- what is passed over in an object at the site
abbrev pub passing : Settings → Site → Passing
passing o outer = record { marks = passes_marks o outer; nulls = passes_null o outer }
