use Rattle.std.proofs.Common.{◌≡◌, true, false, Err, sym, ◌∙◌, ap, subst, ⊎_elim}
use Rattle.smithy_declarations.specs.Table.{IsStructure, kind_of, shape_place}
use Rattle.smithy_declarations.specs.Value.{structure}
use Rattle.smithy_shapes.specs.Accepted.{IsAccepted}
use Rattle.smithy_shapes.specs.Fits.{Fits}
use Rattle.smithy_shapes.specs.Site.{Site, site_of, shape_site}
use Rattle.smithy_schema.specs.Writing.{member_events, begin_structure, end_structure}
use Rattle.smithy_schema.specs.Written.{Runs, Wraps}
use Rattle.smithy_query_codec.specs.Canonical.{canonical_query}
use Rattle.smithy_query_codec.specs.Counts.{HasPositions}
use Rattle.smithy_query_codec.specs.Writable.{can_be_written}
use Rattle.smithy_query_codec.specs.Writing.{query_after, fresh_state}
use Rattle.smithy_transcode.proofs.Bodies.{form_takes}
use Rattle.smithy_value.specs.View.{view}
use Rattle.smithy_replay.specs.TreeMembers.{members_in}
use Rattle.smithy_replay.proofs.RequestLemmas.{request_memory, is_structure}
use Rattle.smithy_replay.proofs.requests.request_of_value.Goals as goal

pub new-written-requires-clause-structure : goal.new-written-requires-clause-structure
new-written-requires-clause-structure c =
    subst (λ (x : Site). IsStructure (kind_of x.table x.place)) (sym c.schema-schema.ensures.site) c.requires.root

pub new-written-requires-clause-fits : goal.new-written-requires-clause-fits
new-written-requires-clause-fits c =
    subst (λ (x : Site). Fits x.table x.place (view c.args.value.now)) (sym c.schema-schema.ensures.site) c.requires.fits

pub returns-in-Ok-serialize_request-clause-body : goal.returns-in-Ok-serialize_request-clause-body
returns-in-Ok-serialize_request-clause-body c =
    let t = c.args.shapes.now in
    let root = c.args.root.0 in
    let v = view c.args.value.now in
    let at_root = c.schema-schema.ensures.site in
    let ms = members_in v in
    let is : v ≡ structure ms = is_structure t (shape_place root) v c.requires.root c.requires.fits in
    let can = form_takes c.args.action.now c.args.version.now (shape_site t root) v c.requires.fit in
    let has = rw (c.new.ensures, c.in-Ok.ensures) at c.in-Ok-serialize_request.ensures.canonical in
    has ms (λ s r runs. rw (c.new-written.ensures.shape, c.new-written.ensures.value) at runs)
    (ap (λ (s : Site). s.view.name) at_root) (subst (λ (s : Site). IsAccepted s.table) (sym at_root) c.schema-schema.ensures.accepted)
    (subst (λ (s : Site). Fits s.table s.place (structure ms)) (sym at_root) (subst (Fits t (shape_place root)) is c.requires.fits))
    (subst HasPositions is c.requires.positions)
    (subst (λ (s : Site). can_be_written s (structure ms) ≡ true) (sym at_root) (subst (λ u. can_be_written (shape_site t root) u ≡ true) is can))
    ∙ ap (λ (s : Site). canonical_query c.args.action.now c.args.version.now s (structure ms)) at_root
    ∙ ap (λ u. canonical_query c.args.action.now c.args.version.now (shape_site t root) u) (sym is)

pub no_memory-requires : goal.no_memory-requires
no_memory-requires c =
    let t = c.args.shapes.now in
    let root = c.args.root.0 in
    let v = view c.args.value.now in
    let e = c.in-Err-serialize_request.error in
    let ms = members_in v in
    let can = form_takes c.args.action.now c.args.version.now (shape_site t root) v c.requires.fit in
    let same = ap (λ x. member_events (site_of x) (members_in (view c.new-written.result.value.now))) c.new-written.ensures.shape ∙ ap (λ y. member_events (site_of c.schema-schema.result) (members_in (view y))) c.new-written.ensures.value in
    let why = rw (c.new.ensures, c.in-Ok.ensures) at c.in-Err-serialize_request.ensures.refused in
    ⊎_elim (λ same. same)
    (λ hands.
    request_memory c.args.action.now c.args.version.now t root v ms (site_of c.schema-schema.result) e c.schema-schema.ensures.site c.schema-schema.ensures.accepted c.requires.root c.requires.fits c.requires.positions can (is_structure t (shape_place root) v c.requires.root c.requires.fits)
    (subst (λ es. Wraps query_after (begin_structure (site_of c.schema-schema.result)) end_structure (Runs query_after es) false (fresh_state c.args.action.now c.args.version.now) (Err e)) same hands))
    why
