-- A structure that a wire can express is written, or memory runs out.
use Rattle.std.proofs.Common.{◌≡◌, ℕ, List, true, false, None, Result, Ok, Err, refl, sym, ◌∙◌, ap, subst}
use Rattle.smithy_declarations.specs.declared.place.Place.{Place}
use Rattle.smithy_declarations.specs.Table.{Table, IsStructure, kind_of}
use Rattle.smithy_declarations.specs.Value.{Value, MemberValues, structure}
use Rattle.smithy_shapes.specs.Accepted.{IsAccepted}
use Rattle.smithy_shapes.specs.Fits.{Fits}
use Rattle.smithy_shapes.specs.Site.{Site, View}
use Rattle.smithy_shapes.proofs.SiteLemmas.{site_at}
use Rattle.smithy_schema.specs.declared.error.SerdeError.{SerdeError}
use Rattle.smithy_schema.specs.Writing.{Writer, begin_structure, end_structure, events, member_events, write}
use Rattle.smithy_schema.specs.Written.{Runs, ran, broke, Wraps}
use Rattle.smithy_schema.proofs.WrittenFields.{structure_runs}
use Rattle.smithy_value.proofs.WriteAnswers.{only_memory}
use Rattle.smithy_json_values.specs.Codec.{strict_settings}
use Rattle.smithy_json_codec.specs.Writing.{JsonState, json_after, fresh_state as fresh_json}
use Rattle.smithy_cbor_body.specs.Prefixes.{CborState, cbor_after, fresh_state as fresh_cbor}
use Rattle.smithy_query_codec.specs.Canonical.{canonical_query}
use Rattle.smithy_query_codec.specs.Counts.{HasPositions}
use Rattle.smithy_query_codec.specs.Writable.{can_be_written}
use Rattle.smithy_query_codec.specs.Writing.{QueryState, query_after, fresh_state as fresh_form}
use Rattle.smithy_query_codec.proofs.WholeForms.{fit_is_written, whole_state}
use Rattle.smithy_transcode.specs.Wires.{Wire, json, cbor, query, unfit_at}
use Rattle.smithy_transcode.proofs.Bodies.{parts_at, json_body, json_adds, cbor_settings, cbor_body, cbor_adds, form_takes}
use Rattle.smithy_replay.specs.TreeMembers.{members_in}
use Rattle.smithy_replay.specs.Writes.{IsBodyOrNoMemory, LeavesBody, WritesItsBody}
use Rattle.smithy_replay.proofs.RequestLemmas.{is_structure}

module _ {S : Type 0} (after : Writer S) (out : S → List ℕ) (site : Site) (ms : MemberValues) (s u : S) where
  answered : (r : Result S SerdeError) → write after site (structure ms) s ≡ Ok u → Runs after (events site (structure ms)) s r → IsBodyOrNoMemory out (out u) r
  answered (Ok t) can (ran is) = let same : t ≡ u = (let e : ◌≡◌ {A = Result S SerdeError} (Ok t) (Ok u) = sym is ∙ can in cc) in ap out same
  answered (Err e) can (broke sound fault) = only_memory e (λ h. let x : ◌≡◌ {A = Result S SerdeError} (Ok u) (Err e) = sym can ∙ fault h in cc) sound

-- what a structure adds to a state is left, where it can be added
leaves : {S : Type 0} (after : Writer S) (out : S → List ℕ) (site : Site) (v : Value) (ms : MemberValues) (s u : S) → v ≡ structure ms → write after site v s ≡ Ok u → LeavesBody after out site v s (out u)
leaves after out site v ms s u is can = λ r wraps.
    let can_whole = subst (λ x. write after site x s ≡ Ok u) is can in
    answered after out site ms s u r can_whole
    (structure_runs after site ms false s r refl (subst (λ x. Wraps after (begin_structure site) end_structure (Runs after (member_events site (members_in x))) false s r) is wraps))

pub writes_body : (wire : Wire) (t : Table) (p : Place) (view : View) (v : Value) → IsAccepted t → IsStructure (kind_of t p) → Fits t p v → view.name ≡ None → unfit_at wire (site_at t p view) v ≡ None
    → WritesItsBody wire (site_at t p view) v
writes_body (json b n) t p view v accepted kind fits nameless fit =
    let site = site_at t p view in
    leaves json_after (λ (s : JsonState). s.out) site v (members_in v) (fresh_json (strict_settings b)) (json_body b site v) (is_structure t p v kind fits)
    (json_adds b site v (fresh_json (strict_settings b)) refl nameless (parts_at (json b n) site v fit).1)
writes_body (cbor told) t p view v accepted kind fits nameless fit =
    let site = site_at t p view in
    leaves cbor_after (λ (s : CborState). s.body.out) site v (members_in v) (fresh_cbor (cbor_settings told)) (cbor_body told site v) (is_structure t p v kind fits)
    (cbor_adds told site v (fresh_cbor (cbor_settings told)) refl (parts_at (cbor told) site v fit).1)
writes_body (query action version) t p view v accepted kind fits nameless fit = λ short.
    let site = site_at t p view in
    let ms = members_in v in
    let is = is_structure t p v kind fits in
    let can = subst (λ x. can_be_written site x ≡ true) is (form_takes action version site v fit) in
    let written = fit_is_written t accepted p view ms (subst (Fits t p) is fits) (subst HasPositions is short) action version nameless can in
    leaves query_after (λ (s : QueryState). s.out) site v ms (fresh_form action version) (whole_state (canonical_query action version site v)) is
    (subst (λ x. write query_after site x (fresh_form action version) ≡ Ok (whole_state (canonical_query action version site x))) (sym is) written)
