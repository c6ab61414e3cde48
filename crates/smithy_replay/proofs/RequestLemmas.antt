-- That a value is written as a request, and which transcoding its body is.
use Rattle.std.proofs.Common.{◌≡◌, ◌≢◌, ◌<◌, ◌^◌, length, ℕ, List, All, string_bytes, true, false, None, Result, Ok, Err, IfOk, IfErr, refl, sym, ◌∙◌, subst}
use Rattle.smithy_schema.specs.declared.error.SerdeError.{SerdeError}
use Rattle.smithy_schema.specs.declared.error.SerdeError.TheVariants as serde
use Rattle.smithy_schema.specs.Writing.{Writer, begin_structure, end_structure, events, member_events, write}
use Rattle.smithy_schema.specs.Written.{Runs, ran, broke, Wraps}
use Rattle.smithy_query_codec.specs.Counts.{HasPositions}
use Rattle.smithy_query_codec.specs.Writable.{can_be_written}
use Rattle.smithy_query_codec.specs.Writing.{query_after, fresh_state as fresh_form}
use Rattle.smithy_shapes.specs.Fits.{Fits}
use Rattle.smithy_transcode.proofs.Bodies.{form_state, form_adds}
use Rattle.smithy_schema.proofs.WrittenFields.{structure_runs}
use Rattle.smithy_value.proofs.WriteAnswers.{only_memory}
use Rattle.smithy_shapes.specs.Site.{Site, shape_site}
use Rattle.smithy_shapes.specs.Accepted.{IsAccepted}
use Rattle.smithy_declarations.specs.Table.{Table, IsStructure, kind_of, shape_place}
use Rattle.smithy_declarations.specs.Value.{Value, scalar_value, list, map, union, null_element, document_value, MemberValues, structure}
use Rattle.smithy_declarations.specs.declared.place.Place.{Place}
use Rattle.smithy_shapes.specs.Lemmas.Kinds.{no_list_and_structure}
use Rattle.smithy_replay.specs.TreeMembers.{members_in}
use Rattle.smithy_replay.proofs.MemberLemmas.{no_scalar, no_map, no_union, no_document}
use Rattle.smithy_protocol.specs.declared.message.Request.{Request}
use Rattle.smithy_transcode.specs.declared.wire.TranscodeError.{TranscodeError}
use Rattle.smithy_transcode.specs.declared.wire.TranscodeError.TheVariants.{InvalidInput, TooDeep, TooWide, NotCarried, Inexpressible, NoMemory}
use Rattle.smithy_transcode.specs.Wires.{Wire, json, cbor, query, wire_of, unfit}
use Rattle.smithy_transcode.specs.declared.wire.Wire as kept
use Rattle.smithy_transcode.specs.declared.wire.Wire.TheVariants as wires
use Rattle.smithy_transcode.specs.Spelling.{Spells, body}
use Rattle.smithy_transcode.specs.ReadBody.{IsRefusedFor}
use Rattle.smithy_transcode.specs.Transcoding.{Transcodes}
use Rattle.smithy_transcode.specs.Private.Positions.{CanCount}
use Rattle.smithy_transcode.proofs.Transcodings.{has_byte_texts, written, refused, unwritten}
use Rattle.smithy_replay.specs.Requests.{body_answer}

module _ {S : Type 0} (after : Writer S) (site : Site) (ms : MemberValues) (s v : S) where
  alone : (e : SerdeError) (r : Result S SerdeError) → r ≡ Err e → write after site (structure ms) s ≡ Ok v → Runs after (events site (structure ms)) s r → e ≡ serde.NoMemory
  alone e r same can (ran {t = t} is) = absurd (let x : ◌≡◌ {A = Result S SerdeError} (Ok t) (Err e) = same in cc)
  alone e r same can (broke {e = f} sound fault) =
      let is : f ≡ e = cc in
      sym is ∙ only_memory f (λ h. let x : ◌≡◌ {A = Result S SerdeError} (Ok v) (Err f) = sym can ∙ fault h in cc) sound

  -- a structure that can be written is refused for want of memory alone
  pub memory_alone : (e : SerdeError) → write after site (structure ms) s ≡ Ok v → Wraps after (begin_structure site) end_structure (Runs after (member_events site ms)) false s (Err e) → e ≡ serde.NoMemory
  memory_alone e can wraps = alone e (Err e) refl can (structure_runs after site ms false s (Err e) refl wraps)

-- what is a structure by its place is one
pub is_structure : (t : Table) (p : Place) (v : Value) → IsStructure (kind_of t p) → Fits t p v → v ≡ structure (members_in v)
is_structure t p (structure ms) kind fits = refl
is_structure t p (scalar_value x) kind fits = absurd (no_scalar (kind_of t p) x kind fits)
is_structure t p (list vs) kind fits = absurd (no_list_and_structure (kind_of t p) fits.0 kind)
is_structure t p (map es) kind fits = absurd (no_map (kind_of t p) kind fits.0)
is_structure t p (union n v) kind fits = absurd (no_union (kind_of t p) kind fits.0)
is_structure t p null_element kind fits = absurd (let e : false ≡ true = fits in cc)
is_structure t p (document_value d) kind fits = absurd (no_document (kind_of t p) kind fits.0)

-- and what has a form is refused for want of memory alone
pub request_memory : (action version : List ℕ) (t : Table) (root : ℕ) (v : Value) (ms : MemberValues) (site : Site) (e : SerdeError) → site ≡ shape_site t root → IsAccepted t → IsStructure (kind_of t (shape_place root))
    → Fits t (shape_place root) v → HasPositions v → can_be_written (shape_site t root) v ≡ true → v ≡ structure ms
    → Wraps query_after (begin_structure site) end_structure (Runs query_after (member_events site ms)) false (fresh_form action version) (Err e) → e ≡ serde.NoMemory
request_memory action version t root v ms site e at_root accepted kind fits short can is wraps =
    memory_alone query_after site ms (fresh_form action version) (form_state (query action version) t root v) e
    (subst (λ u. write query_after site u (fresh_form action version) ≡ Ok (form_state (query action version) t root v)) is
    (form_adds action version site t root v (fresh_form action version) at_root refl accepted kind fits short can)) wraps

-- a refusal of what was read is one of the transcoding
pub body_refused : (t : Table) (root : ℕ) (from : Wire) (i : List ℕ) (to : Wire) (e : TranscodeError) → (e ≢ NoMemory → IsRefusedFor from t root i e) → Transcodes t root from i to (Err e)
body_refused t root from i to InvalidInput why =
    let said = why (λ is. cc) in
    refused {A = Unit {0}} t root from i to (Err serde.InvalidInput) serde.InvalidInput InvalidInput refl refl (λ h. said.0) (λ h. said.1) (λ h. absurd cc) (λ h. absurd cc) (λ h. absurd cc)
body_refused t root from i to TooDeep why =
    let said = why (λ is. cc) in
    refused {A = Unit {0}} t root from i to (Err serde.TooDeep) serde.TooDeep TooDeep refl refl (λ h. said.0) (λ h. absurd h) (λ h. said.1) (λ h. absurd cc) (λ h. absurd cc)
body_refused t root from i to TooWide why =
    let said = why (λ is. cc) in
    refused {A = Unit {0}} t root from i to (Err serde.TooWide) serde.TooWide TooWide refl refl (λ h. said.0) (λ h. absurd h) (λ h. absurd cc) (λ h. said.1) (λ h. absurd cc)
body_refused t root from i to NotCarried why =
    let said = why (λ is. cc) in
    refused {A = Unit {0}} t root from i to (Err serde.NotCarried) serde.NotCarried NotCarried refl refl (λ h. said.0) (λ h. absurd h) (λ h. absurd cc) (λ h. absurd cc) (λ h. said.1)
body_refused t root from i to (Inexpressible u) why = absurd (why (λ is. cc))
body_refused t root from i to NoMemory why = unwritten t root from i to serde.NoMemory NoMemory refl refl

pub out_of_memory : (t : Table) (root : ℕ) (from : Wire) (i : List ℕ) (to : Wire) → Transcodes t root from i to (Err NoMemory)
out_of_memory t root from i to = unwritten t root from i to serde.NoMemory NoMemory refl refl

-- the action and the version of a form are texts of bytes
pub byte_texts : (w : kept.Wire) (action version : List ℕ) → wire_of w ≡ query action version → All (λ b. b < 256) action × All (λ b. b < 256) version
byte_texts (wires.Json b n) action version is = absurd (let e : json b n ≡ query action version = is in cc)
byte_texts (wires.Cbor told) action version is = absurd (let e : cbor told ≡ query action version = is in cc)
byte_texts (wires.Query x y) action version is =
    let both : query (string_bytes x) (string_bytes y) ≡ query action version = is in
    let first : string_bytes x ≡ action = cc in
    let second : string_bytes y ≡ version = cc in
    let texts = has_byte_texts (wires.Query x y) in
    (subst (All (λ b. b < 256)) first texts.0, subst (All (λ b. b < 256)) second texts.1)

-- a request whose body is that of the value is an answer, and so is want of memory
pub request_transcodes : (t : Table) (root : ℕ) (from : Wire) (i : List ℕ) (action version : List ℕ) (v : Value) (r : Result Request TranscodeError) → IsAccepted t → IsStructure (kind_of t (shape_place root)) → Spells from t root i v
    → unfit (query action version) t root v ≡ None → CanCount (query action version) v → All (λ b. b < 256) action × All (λ b. b < 256) version
    → IfOk r (λ q. q.body.items ≡ body (query action version) t root v) → IfOk r (λ q. length q.body.items < 2 ^ 64) → IfErr r (λ e. e ≡ NoMemory)
    → Transcodes t root from i (query action version) (body_answer r)
request_transcodes t root from i action version v (Ok q) accepted kind spelled fit counts texts is short memory = written t root from i (query action version) v q.body accepted kind spelled fit counts texts is short
request_transcodes t root from i action version v (Err e) accepted kind spelled fit counts texts is short memory =
    subst (λ x. Transcodes t root from i (query action version) (Err x)) (sym memory) (out_of_memory t root from i (query action version))
