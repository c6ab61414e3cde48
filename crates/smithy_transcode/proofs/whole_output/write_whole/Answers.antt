use Rattle.std.proofs.Common.{◌≡◌, None, string_bytes, refl, ◌∙◌, ap, subst}
use Rattle.smithy_shapes.specs.Site.{Site, site_of, shape_site}
use Rattle.smithy_json_codec.specs.Serializing.{state_of}
use Rattle.smithy_json_codec.specs.Writing.{fresh_state}
use Rattle.smithy_cbor_codec.specs.Serializing.{state_of as cbor_state_of}
use Rattle.smithy_cbor_values.specs.Settings.{Settings as CborSettings}
use Rattle.smithy_cbor_body.specs.Prefixes.{fresh_state as fresh_cbor_state}
use Rattle.smithy_query_codec.specs.Serializing.{state_of as form_of}
use Rattle.smithy_transcode.specs.Wires.{wire_of, json, cbor, query, unfit}
use Rattle.smithy_transcode.specs.Private.Positions.{CanCount}
use Rattle.smithy_json_settings.specs.Settings.{CodecSettings}
use Rattle.smithy_transcode.proofs.Bodies.{reached, root_held, json_body, json_adds, json_is_body, cbor_body, cbor_adds, cbor_is_body, form_takes, form_state, form_adds, same_fresh, form_is_body}
use Rattle.smithy_transcode.proofs.whole_output.write_whole.Goals as goal

pub body_of_value-requires-clause-taken : goal.body_of_value-requires-clause-taken
body_of_value-requires-clause-taken g c =
    let site = site_of c.schema-schema.result in
    let fresh = c.create_serializer-sink.ensures.state ∙ ap (λ (s : CodecSettings). fresh_state s.json) c.strict-codec.ensures in
    let nameless = ap (λ (s : Site). s.view.name) c.schema-schema.ensures.site in
    let held = root_held (wire_of c.args.to.now) (json c.in-Json.use_json_name c.in-Json.integral) c.schema-schema.result c.args.shapes.now c.args.root.0 (g.P.Trees.view c.args.trees.now c.args.value.now) (ap wire_of c.in-Json.is) c.schema-schema.ensures.site c.requires.fit in
    (json_body c.in-Json.use_json_name site (g.P.Trees.view c.args.trees.now c.args.value.now), json_adds c.in-Json.use_json_name site (g.P.Trees.view c.args.trees.now c.args.value.now) (state_of c.create_serializer-sink.result) fresh nameless held, refl)

pub returns-in-Json-clause-ok : goal.returns-in-Json-clause-ok
returns-in-Json-clause-ok g c =
    let site = site_of c.schema-schema.result in
    let fresh = c.create_serializer-sink.ensures.state ∙ ap (λ (s : CodecSettings). fresh_state s.json) c.strict-codec.ensures in
    let nameless = ap (λ (s : Site). s.view.name) c.schema-schema.ensures.site in
    let held = root_held (wire_of c.args.to.now) (json c.in-Json.use_json_name c.in-Json.integral) c.schema-schema.result c.args.shapes.now c.args.root.0 (g.P.Trees.view c.args.trees.now c.args.value.now) (ap wire_of c.in-Json.is) c.schema-schema.ensures.site c.requires.fit in
    let adds = json_adds c.in-Json.use_json_name site (g.P.Trees.view c.args.trees.now c.args.value.now) (state_of c.create_serializer-sink.result) fresh nameless held in
    let is = json_is_body (wire_of c.args.to.now) c.in-Json.use_json_name c.in-Json.integral c.schema-schema.result c.args.shapes.now c.args.root.0 (g.P.Trees.view c.args.trees.now c.args.value.now) (ap wire_of c.in-Json.is) c.schema-schema.ensures.site in
    reached c.body_of_value.result _ _ c.body_of_value.ensures.ok (json_body c.in-Json.use_json_name site (g.P.Trees.view c.args.trees.now c.args.value.now)) _ adds is

pub body_of_value-requires-in-Cbor-clause-taken : goal.body_of_value-requires-in-Cbor-clause-taken
body_of_value-requires-in-Cbor-clause-taken g c =
    let site = site_of c.schema-schema.result in
    let told = c.in-Cbor.definite in
    let fresh = c.create_serializer-sink-in-Cbor.ensures.state
    ∙ ap fresh_cbor_state (c.new.ensures ∙ c.use_definite_lengths-settings.ensures ∙ ap (λ (o : CborSettings). record o { use_definite_lengths = told }) c.strict.ensures) in
    let held = root_held (wire_of c.args.to.now) (cbor told) c.schema-schema.result c.args.shapes.now c.args.root.0 (g.P.Trees.view c.args.trees.now c.args.value.now) (ap wire_of c.in-Cbor.is) c.schema-schema.ensures.site c.requires.fit in
    (cbor_body told site (g.P.Trees.view c.args.trees.now c.args.value.now), cbor_adds told site (g.P.Trees.view c.args.trees.now c.args.value.now) (cbor_state_of c.create_serializer-sink-in-Cbor.result) fresh held, refl)

pub returns-in-Cbor-clause-ok : goal.returns-in-Cbor-clause-ok
returns-in-Cbor-clause-ok g c =
    let site = site_of c.schema-schema.result in
    let told = c.in-Cbor.definite in
    let fresh = c.create_serializer-sink-in-Cbor.ensures.state
    ∙ ap fresh_cbor_state (c.new.ensures ∙ c.use_definite_lengths-settings.ensures ∙ ap (λ (o : CborSettings). record o { use_definite_lengths = told }) c.strict.ensures) in
    let held = root_held (wire_of c.args.to.now) (cbor told) c.schema-schema.result c.args.shapes.now c.args.root.0 (g.P.Trees.view c.args.trees.now c.args.value.now) (ap wire_of c.in-Cbor.is) c.schema-schema.ensures.site c.requires.fit in
    let adds = cbor_adds told site (g.P.Trees.view c.args.trees.now c.args.value.now) (cbor_state_of c.create_serializer-sink-in-Cbor.result) fresh held in
    let is = cbor_is_body (wire_of c.args.to.now) told c.schema-schema.result c.args.shapes.now c.args.root.0 (g.P.Trees.view c.args.trees.now c.args.value.now) (ap wire_of c.in-Cbor.is) c.schema-schema.ensures.site in
    reached c.body_of_value-in-Cbor.result _ _ c.body_of_value-in-Cbor.ensures.ok (cbor_body told site (g.P.Trees.view c.args.trees.now c.args.value.now)) _ adds is

pub body_of_value-requires-in-Query-clause-taken : goal.body_of_value-requires-in-Query-clause-taken
body_of_value-requires-in-Query-clause-taken g c =
    let v = g.P.Trees.view c.args.trees.now c.args.value.now in
    let action = string_bytes c.in-Query.action in
    let version = string_bytes c.in-Query.version in
    let counts = subst (λ w. CanCount w v) (ap wire_of c.in-Query.is) c.requires.positions in
    let can = form_takes action version (shape_site c.args.shapes.now c.args.root.0) v (subst (λ w. unfit w c.args.shapes.now c.args.root.0 v ≡ None) (ap wire_of c.in-Query.is) c.requires.fit) in
    let fresh = c.in_ok-sink-in-Query.ensures.state ∙ same_fresh _ action _ version c.as_str.ensures.value c.as_str-in-Query.ensures.value in (
      form_state (query action version) c.args.shapes.now c.args.root.0 v,
      form_adds action version (site_of c.schema-schema.result) c.args.shapes.now c.args.root.0 v (form_of c.in_ok-sink-in-Query.sink) c.schema-schema.ensures.site fresh
          c.schema-schema.ensures.accepted c.requires.root c.requires.fits counts can,
      refl,
    )

pub returns-in_ok-sink-in-Query-clause-ok : goal.returns-in_ok-sink-in-Query-clause-ok
returns-in_ok-sink-in-Query-clause-ok g c =
    let v = g.P.Trees.view c.args.trees.now c.args.value.now in
    let action = string_bytes c.in-Query.action in
    let version = string_bytes c.in-Query.version in
    let counts = subst (λ w. CanCount w v) (ap wire_of c.in-Query.is) c.requires.positions in
    let can = form_takes action version (shape_site c.args.shapes.now c.args.root.0) v (subst (λ w. unfit w c.args.shapes.now c.args.root.0 v ≡ None) (ap wire_of c.in-Query.is) c.requires.fit) in
    let fresh = c.in_ok-sink-in-Query.ensures.state ∙ same_fresh _ action _ version c.as_str.ensures.value c.as_str-in-Query.ensures.value in
    let adds = form_adds action version (site_of c.schema-schema.result) c.args.shapes.now c.args.root.0 v (form_of c.in_ok-sink-in-Query.sink) c.schema-schema.ensures.site fresh
    c.schema-schema.ensures.accepted c.requires.root c.requires.fits counts can in
    let is = form_is_body (wire_of c.args.to.now) action version c.args.shapes.now c.args.root.0 v (ap wire_of c.in-Query.is) in
    reached c.body_of_value-in-Query.result _ _ c.body_of_value-in-Query.ensures.ok (form_state (query action version) c.args.shapes.now c.args.root.0 v) _ adds is
