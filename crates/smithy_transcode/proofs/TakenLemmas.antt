-- That a value which a wire can express is taken wherever one may come.
use Rattle.std.proofs.Common.{◌≡◌, ℕ, List, [], ◌∷◌, Bool, true, false, None, Result, Ok, IsOk, refl, sym, ◌∙◌, ap, subst}
use Rattle.smithy_schema.specs.declared.error.SerdeError.{SerdeError}
use Rattle.smithy_shapes.specs.Accepted.{IsAccepted}
use Rattle.smithy_shapes.specs.Fits.{FitsOr}
use Rattle.smithy_shapes.specs.ScalarTest.{scalars_pass}
use Rattle.smithy_shapes.specs.Site.{Site}
use Rattle.smithy_declarations.specs.Value.{Value, scalar_value, list, map, structure, union, null_element, document_value}
use Rattle.smithy_schema.specs.Writing.{Open, after_value, write, events}
use Rattle.smithy_json_values.specs.Settings.{Settings}
use Rattle.smithy_json_values.specs.Codec.{strict_settings}
use Rattle.smithy_json_codec.specs.Canonical.{json_holds, can_write as json_can_write}
use Rattle.smithy_json_codec.specs.Writing.{JsonState, json_after}
use Rattle.smithy_json_codec.proofs.WritingLemmas.{value_adds}
use Rattle.smithy_cbor_body.specs.Canonical.{cbor_holds}
use Rattle.smithy_cbor_body.specs.Codec.{strict_settings as strict_cbor}
use Rattle.smithy_cbor_body.specs.Prefixes.{Prefix, CborState, cbor_after, no_prefix, with_prefix}
use Rattle.smithy_cbor_codec.proofs.PrefixLemmas.{unprefixed}
use Rattle.smithy_cbor_body.proofs.WritingLemmas.{value_adds as cbor_value_adds}
use Rattle.smithy_query_codec.specs.Canonical.{path_text}
use Rattle.smithy_query_codec.specs.Leaves.{Path}
use Rattle.smithy_query_codec.specs.Nulls.{holds_null}
use Rattle.smithy_query_codec.specs.Counts.{HasPositions}
use Rattle.smithy_query_codec.specs.Writing.{QueryState, query_after, child_path, innermost_key, innermost_value}
use Rattle.smithy_query_codec.proofs.AcceptedForms.{fit_has_form}
use Rattle.smithy_query_codec.proofs.Forms.{IsNoNull}
use Rattle.smithy_query_codec.proofs.PathLemmas.{AreSegments, segments-append}
use Rattle.smithy_query_codec.proofs.WritingLemmas.{member_placed, value_adds as form_value_adds}
use Rattle.smithy_transcode.specs.Wires.{Wire, json, cbor, query, unfit_at}
use Rattle.smithy_transcode.specs.Taken.{LetsCome, IsTaken}
use Rattle.smithy_transcode.specs.Private.Positions.{CanCount}
use Rattle.smithy_transcode.proofs.Bodies.{parts_at, json_takes, form_takes}

is_ok : {S : Type 0} (r : Result S SerdeError) (s : S) → r ≡ Ok s → IsOk r
is_ok r s is = subst IsOk (sym is) refl

json_taken : (b : Bool) (site : Site) (v : Value) (s : JsonState) (next : List Open) → scalars_pass (json_holds (strict_settings b)) site v ≡ true
    → s.settings ≡ strict_settings b → after_value s.frames ≡ Ok next → IsOk (write json_after site v s)
json_taken b site v s next held same due =
    let can = subst (λ (c : Settings). scalars_pass (json_can_write c) site v ≡ true) (sym same) (json_takes b site v held) in
    is_ok (write json_after site v s) _ (value_adds site v s.settings s.out s.needs_comma s.frames next can due)

cbor_taken : (definite : Bool) (site : Site) (v : Value) (s : CborState) (next : List Open) → scalars_pass cbor_holds site v ≡ true
    → s.body.settings ≡ record strict_cbor { use_definite_lengths = definite } → s.prefix ≡ no_prefix → after_value s.body.frames ≡ Ok next
    → IsOk (write cbor_after site v s)
cbor_taken definite site v s next held same bare due =
    let told = ap (λ c. c.use_definite_lengths) same in
    let b = s.body in
    let adds = cbor_value_adds b.settings definite told site v b.out b.frames next b.lengths held due in
    subst (λ (p : Prefix). IsOk (write cbor_after site v (record { body = s.body; prefix = p }))) (sym bare)
    (is_ok (write cbor_after site v (record { body = s.body; prefix = no_prefix })) _ (unprefixed (events site v) b ∙ ap (with_prefix no_prefix) adds))

-- ---- forms

-- a path as it is written, as one segment
abbrev one_segment : List ℕ → Path
one_segment [] = []
one_segment (b ∷ bs) = (b ∷ bs) ∷ []

is_written : (prefix : List ℕ) → path_text (one_segment prefix) ≡ prefix
is_written [] = refl
is_written (b ∷ bs) = refl

is_full : (prefix : List ℕ) → AreSegments (one_segment prefix)
is_full [] = tt
is_full (b ∷ bs) = (λ e. cc, tt)

no_null : (v : Value) → holds_null v ≡ false → IsNoNull v
no_null (scalar_value x) h = tt
no_null (list vs) h = tt
no_null (map es) h = tt
no_null (structure ms) h = tt
no_null (union n v) h = tt
no_null null_element h = cc
no_null (document_value d) h = tt

form_taken : (action version : List ℕ) (site : Site) (v : Value) (s : QueryState) (next : List Open) → IsAccepted site.table → FitsOr site.table site.place true v → HasPositions v
    → unfit_at (query action version) site v ≡ None → LetsCome s site → after_value s.opens ≡ Ok next → IsOk (write query_after site v s)
form_taken action version site v s next accepted fits counts fit lets due =
    let clear = (parts_at (query action version) site v fit).0 in
    let child = child_path s.opens s.count (innermost_key s.names s.marks) (innermost_value s.names s.marks) site.view in
    let full = segments-append (one_segment s.prefix) child (is_full s.prefix) lets.full in
    let placed = member_placed s.opens site.view v lets.named (no_null v clear) in
    let adds = form_value_adds site v s.out (one_segment s.prefix) s.names s.count s.opens next s.marks child
    (fit_has_form site.table accepted site.place site.view true v fits counts) (form_takes action version site v fit) refl full placed lets.room due in
    subst (λ (p : List ℕ). IsOk (write query_after site v (record s { prefix = p }))) (is_written s.prefix) (is_ok (write query_after site v (record s { prefix = path_text (one_segment s.prefix) })) _ adds)

-- ---- any wire

pub taken : (w : Wire) (site : Site) (v : Value) → IsAccepted site.table → FitsOr site.table site.place true v → CanCount w v → unfit_at w site v ≡ None → IsTaken w site v
taken (json b n) site v accepted fits counts fit = λ s next same due. json_taken b site v s next (parts_at (json b n) site v fit).1 same due
taken (cbor definite) site v accepted fits counts fit = λ s next same bare due. cbor_taken definite site v s next (parts_at (cbor definite) site v fit).1 same bare due
taken (query action version) site v accepted fits counts fit = λ s next lets due. form_taken action version site v s next accepted fits counts fit lets due
