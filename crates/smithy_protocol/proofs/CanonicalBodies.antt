-- That what is handed out for a structure of a table is its one body in each wire.
use Rattle.std.proofs.Common.{◌≡◌, ℕ, List, [], ◌∷◌, ◌++◌, Bool, Result, Ok, Err, None, IfOk, true, false, refl, sym, subst, ap, ◌∙◌}
use Rattle.std.specs.declared.vec.Vec.{Vec}
use Rattle.std.specs.declared.alloc.Global.{Global}
use Rattle.smithy_schema.specs.declared.error.SerdeError.{SerdeError}
use Rattle.smithy_shapes.specs.Site.{Site, View}
use Rattle.smithy_declarations.specs.Value.{MemberValues, structure}
use Rattle.smithy_shapes.specs.ScalarTest.{scalars_pass}
use Rattle.smithy_schema.specs.Writing.{Event, Writer, begin_structure, end_structure, events, member_events, run, and_run, write}
use Rattle.smithy_schema.specs.Written.{Adds, Runs, ran, Wraps, whole}
use Rattle.smithy_schema.proofs.WritingLemmas.{child_written}
use Rattle.smithy_json_codec.specs.Canonical.{canonical_json, key_text, can_write}
use Rattle.smithy_json_values.specs.Codec.{strict_settings}
use Rattle.smithy_json_codec.specs.Writing.{JsonState, json_after, fresh_state}
use Rattle.smithy_json_codec.proofs.WritingLemmas.{value_adds}
use Rattle.smithy_cbor_body.specs.Canonical.{canonical_cbor, cbor_holds}
use Rattle.smithy_cbor_body.specs.Codec.{strict_settings as strict_cbor}
use Rattle.smithy_cbor_body.specs.Prefixes.{CborState, cbor_after, fresh_state as fresh_cbor, no_prefix, with_prefix}
use Rattle.smithy_cbor_body.specs.Writing.{fresh_body}
use Rattle.smithy_cbor_codec.proofs.PrefixLemmas.{unprefixed}
use Rattle.smithy_cbor_body.proofs.WritingLemmas.{value_adds as cbor_value_adds}
use Rattle.smithy_query_codec.specs.Canonical.{canonical_query}
use Rattle.smithy_query_codec.specs.Writing.{QueryState, query_after, fresh_state as fresh_query}
use Rattle.smithy_query_codec.proofs.WholeForms.{whole_state, fit_is_written}
use Rattle.smithy_protocol.specs.Bodies.{HandsOut, WritesMembers, IsJsonBody, IsCborBody, IsQueryBody}

ran_to : {S : Type 0} (after : Writer S) (events : List Event) (s t : S) → Runs after events s (Ok t) → run after events s ≡ Ok t
ran_to after events s t (ran is) = is

-- a structure that begins, whose members are written, and that ends, is written whole
whole_run : {S : Type 0} (after : Writer S) (site : Site) (ms : MemberValues) (adds : S → Result S SerdeError → Type 0) (s v : S)
    → ((t : S) (result : Result S SerdeError) → adds t result → Runs after (member_events site ms) t result)
    → Wraps after (begin_structure site) end_structure adds false s (Ok v) → write after site (structure ms) s ≡ Ok v
whole_run after site ms adds s v writes (whole {t} {u} sound begins added ends) =
    ap (and_run (run after (member_events site ms ++ end_structure ∷ []))) begins
    ∙ child_written after (member_events site ms) (end_structure ∷ []) t u (ran_to after (member_events site ms) t u (writes t (Ok u) added))
    ∙ ap (and_run (run after [])) ends

no_key : (b : Bool) (view : View) → view.name ≡ None → key_text b view ≡ []
no_key b view nameless = rw nameless refl

-- two states that one run reaches have the same text
same_text : {S : Type 0} (out : S → List ℕ) (r : Result S SerdeError) (s t : S) → r ≡ Ok s → r ≡ Ok t → out s ≡ out t
same_text out r s t first second = let same : s ≡ t = cc in ap out same

pub json_canonical : {V : Type 0} (adds : Adds V) (site : Site) (value : V) (ms : MemberValues) (body : List ℕ)
    → HandsOut json_after (λ s. s.out) adds site value (fresh_state (strict_settings false)) (Ok body) → WritesMembers json_after adds site value ms
    → site.view.name ≡ None → scalars_pass (can_write (strict_settings false)) site (structure ms) ≡ true
    → body ≡ canonical_json (strict_settings false) site (structure ms)
json_canonical adds site value ms body hands writes nameless can =
    let c = strict_settings false in
    let v = structure ms in
    sym hands.2
    ∙ same_text (λ (s : JsonState). s.out) (write json_after site v (fresh_state c)) hands.0 _ (whole_run json_after site ms (adds JsonState json_after value) (fresh_state c) hands.0 writes hands.1) (value_adds site v c [] false [] [] can refl)
    ∙ ap (λ key. key ++ canonical_json c site v) (no_key false site.view nameless)

pub cbor_canonical : {V : Type 0} (adds : Adds V) (site : Site) (value : V) (ms : MemberValues) (body : List ℕ)
    → HandsOut cbor_after (λ s. s.body.out) adds site value (fresh_cbor strict_cbor) (Ok body) → WritesMembers cbor_after adds site value ms
    → scalars_pass cbor_holds site (structure ms) ≡ true → body ≡ canonical_cbor false site (structure ms)
cbor_canonical adds site value ms body hands writes held =
    let v = structure ms in
    sym hands.2
    ∙ same_text (λ (s : CborState). s.body.out) (write cbor_after site v (fresh_cbor strict_cbor)) hands.0 _ (whole_run cbor_after site ms (adds CborState cbor_after value) (fresh_cbor strict_cbor) hands.0 writes hands.1) (unprefixed (events site v) (fresh_body strict_cbor) ∙ ap (with_prefix no_prefix) (cbor_value_adds strict_cbor false refl site v [] [] [] [] held refl))

pub json_bodies : {V : Type 0} (adds : Adds V) (site : Site) (value : V) (s : JsonState) (r : Result (Vec ℕ Global) SerdeError) → s ≡ fresh_state (strict_settings false)
    → IfOk r (λ body. HandsOut json_after (λ t. t.out) adds site value s (Ok body.items)) → IfOk r (λ body. IsJsonBody adds site value body.items)
json_bodies adds site value s (Ok body) fresh hands =
    λ ms writes nameless can. json_canonical adds site value ms body.items (subst (λ t. HandsOut json_after (λ u. u.out) adds site value t (Ok body.items)) fresh hands) writes nameless can
json_bodies adds site value s (Err e) fresh hands = tt

pub cbor_bodies : {V : Type 0} (adds : Adds V) (site : Site) (value : V) (s : CborState) (r : Result (Vec ℕ Global) SerdeError) → s ≡ fresh_cbor strict_cbor
    → IfOk r (λ body. HandsOut cbor_after (λ t. t.body.out) adds site value s (Ok body.items)) → IfOk r (λ body. IsCborBody adds site value body.items)
cbor_bodies adds site value s (Ok body) fresh hands =
    λ ms writes held. cbor_canonical adds site value ms body.items (subst (λ t. HandsOut cbor_after (λ u. u.body.out) adds site value t (Ok body.items)) fresh hands) writes held
cbor_bodies adds site value s (Err e) fresh hands = tt

pub query_canonical : {V : Type 0} (adds : Adds V) (site : Site) (value : V) (action version body : List ℕ)
    → HandsOut query_after (λ s. s.out) adds site value (fresh_query action version) (Ok body) → IsQueryBody adds site value action version body
query_canonical adds site value action version body hands = λ ms writes nameless accepted fits short can.
    sym hands.2
    ∙ same_text (λ (s : QueryState). s.out) (write query_after site (structure ms) (fresh_query action version)) hands.0 (whole_state (canonical_query action version site (structure ms)))
    (whole_run query_after site ms (adds QueryState query_after value) (fresh_query action version) hands.0 writes hands.1)
    (fit_is_written site.table accepted site.place site.view ms fits short action version nameless can)
