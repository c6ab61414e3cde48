-- What a serializer hands out once one structure is written.
use Rattle.std.specs.Prelude.{◌≡◌, ℕ, List, Result, Ok, Err, None, true, false}
use Rattle.smithy_schema.specs.declared.error.SerdeError.{SerdeError}
use Rattle.smithy_shapes.specs.Accepted.{IsAccepted}
use Rattle.smithy_shapes.specs.Fits.{Fits}
use Rattle.smithy_shapes.specs.Site.{Site}
use Rattle.smithy_declarations.specs.Value.{MemberValues, structure}
use Rattle.smithy_shapes.specs.ScalarTest.{scalars_pass}
use Rattle.smithy_schema.specs.Writing.{Writer, begin_structure, end_structure, member_events}
use Rattle.smithy_schema.specs.Written.{Adds, Runs, Wraps}
use Rattle.smithy_json_codec.specs.Canonical.{canonical_json, can_write}
use Rattle.smithy_json_values.specs.Codec.{strict_settings}
use Rattle.smithy_json_codec.specs.Writing.{json_after}
use Rattle.smithy_cbor_body.specs.Canonical.{canonical_cbor, cbor_holds}
use Rattle.smithy_cbor_body.specs.Prefixes.{cbor_after}
use Rattle.smithy_query_codec.specs.Canonical.{canonical_query}
use Rattle.smithy_query_codec.specs.Counts.{HasPositions}
use Rattle.smithy_query_codec.specs.Writable.{can_be_written}
use Rattle.smithy_query_codec.specs.Writing.{query_after}

-- From this state on the structure begins, its members are written, and it ends: what is then handed out, or the error of the first
-- of these calls that is refused.
abbrev pub HandsOut : {S V : Type 0} → Writer S → (S → List ℕ) → Adds V → Site → V → S → Result (List ℕ) SerdeError → Type 0
HandsOut {S} after out adds site value s (Ok body) = (t : S) × Wraps after (begin_structure site) end_structure (adds S after value) false s (Ok t) × (out t ≡ body)
HandsOut {S} after out adds site value s (Err e) = Wraps after (begin_structure site) end_structure (adds S after value) false s (Err e)

-- Of a value that writes these members, whatever the state: each call of it adds what the calls of their values add.
abbrev pub WritesMembers : {S V : Type 0} → Writer S → Adds V → Site → V → MemberValues → Type 0
WritesMembers {S} after adds site value ms = (s : S) (result : Result S SerdeError) → adds S after value s result → Runs after (member_events site ms) s result

-- The body is the one JSON text of the structure that the value writes, for a place without a name, where JSON can write its scalars.
abbrev pub IsJsonBody : {V : Type 0} → Adds V → Site → V → List ℕ → Type 0
IsJsonBody adds site value body =
    (ms : MemberValues) → WritesMembers json_after adds site value ms → site.view.name ≡ None
    → scalars_pass (can_write (strict_settings false)) site (structure ms) ≡ true → body ≡ canonical_json (strict_settings false) site (structure ms)

-- The body is the one encoding in CBOR, without lengths of lists and maps, of the structure that the value writes, where CBOR can write its scalars.
abbrev pub IsCborBody : {V : Type 0} → Adds V → Site → V → List ℕ → Type 0
IsCborBody adds site value body =
    (ms : MemberValues) → WritesMembers cbor_after adds site value ms → scalars_pass cbor_holds site (structure ms) ≡ true
    → body ≡ canonical_cbor false site (structure ms)

-- The body is the one form of the structure that the value writes, for a place without a name in an accepted table where the structure
-- fits and a form can express it.
abbrev pub IsQueryBody : {V : Type 0} → Adds V → Site → V → List ℕ → List ℕ → List ℕ → Type 0
IsQueryBody adds site value action version body =
    (ms : MemberValues) → WritesMembers query_after adds site value ms → site.view.name ≡ None → IsAccepted site.table
    → Fits site.table site.place (structure ms) → HasPositions (structure ms) → can_be_written site (structure ms) ≡ true
    → body ≡ canonical_query action version site (structure ms)
