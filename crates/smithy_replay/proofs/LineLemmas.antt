-- What the transcoding of a body says of the line that it is.
use Rattle.std.proofs.Common.{◌≡◌, ◌≢◌, ◌++◌, ℕ, List, Bool, true, Some, None, Result, Ok, Err, IfOk, OnOk, codes, refl, sym, ◌∙◌, ap, subst, inl, inr}
use Rattle.std.specs.Prelude.{if◌then◌else◌}
use Rattle.std.specs.Result.{is_ok}
use Rattle.smithy_declarations.specs.Table.{Table}
use Rattle.smithy_shapes.specs.Accepted.{IsAccepted}
use Rattle.smithy_transcode.specs.declared.wire.TranscodeError.{TranscodeError}
use Rattle.smithy_transcode.specs.declared.wire.TranscodeError.TheVariants.{InvalidInput, TooDeep, TooWide, NotCarried, Inexpressible, NoMemory}
use Rattle.smithy_transcode.specs.declared.wire.Wire as kept
use Rattle.smithy_transcode.specs.declared.wire.Wire.TheVariants as wires
use Rattle.smithy_transcode.specs.Wires.{Wire, wire_of}
use Rattle.smithy_transcode.specs.Spelling.{Spells, body}
use Rattle.smithy_transcode.specs.Transcoding.{Answer, Transcodes, TellsAgain, GivesOrNoMemory}
use Rattle.smithy_transcode.proofs.Transcodings.{spelled_is_small}
use Rattle.smithy_lines.specs.Lines.{HasNoFeed}
use Rattle.smithy_replay.specs.LineBodies.{line_of, body_of, RefusesBody, SpellsNoneFor}
use Rattle.smithy_replay.specs.Replayed.{front, refusal_text, AnswersLine, RefusesLong}
use Rattle.smithy_replay.specs.Private.LineAnswers.{LineGives}
use Rattle.smithy_replay.proofs.NoFeedBodies.{of_body, of_refusal, of_long}

-- the line of any wire but CBOR is its body
pub plain_body : (w : kept.Wire) (line : List ℕ) → ((definite : Bool) → w ≡ wires.Cbor definite → ⊥) → body_of (wire_of w) line ≡ Some line
plain_body (wires.Json b n) line other = refl
plain_body (wires.Cbor definite) line other = absurd (other definite refl)
plain_body (wires.Query action version) line other = refl

pub plain_line : (w : kept.Wire) (bytes : List ℕ) → ((definite : Bool) → w ≡ wires.Cbor definite → ⊥) → bytes ≡ line_of (wire_of w) bytes
plain_line (wires.Json b n) bytes other = refl
plain_line (wires.Cbor definite) bytes other = absurd (other definite refl)
plain_line (wires.Query action version) bytes other = refl

-- an answer of a transcoding is no body, where it refuses its input
refused_gives_none : (bytes : List ℕ) (e : TranscodeError) → e ≢ NoMemory → GivesOrNoMemory bytes (Err e) → ⊥
refused_gives_none bytes NoMemory some gives = some refl
refused_gives_none bytes InvalidInput some gives = gives
refused_gives_none bytes TooDeep some gives = gives
refused_gives_none bytes TooWide some gives = gives
refused_gives_none bytes NotCarried some gives = gives
refused_gives_none bytes (Inexpressible u) some gives = gives

refuses_body : (t : Table) (root : ℕ) (from to : Wire) (bytes : List ℕ) (e : TranscodeError) → e ≢ NoMemory → Transcodes t root from bytes to (Err e) → RefusesBody t root from to bytes e
refuses_body t root from to bytes InvalidInput some told = (told.answers_invalid_input refl, told.answers_invalid_without_limits refl)
refuses_body t root from to bytes TooDeep some told = told.answers_too_deep refl
refuses_body t root from to bytes TooWide some told = told.answers_too_wide refl
refuses_body t root from to bytes NotCarried some told = told.answers_not_carried refl
refuses_body t root from to bytes (Inexpressible u) some told = told.answers_inexpressible u refl
refuses_body t root from to bytes NoMemory some told = absurd (some refl)

one_body : (from : Wire) (line bytes other : List ℕ) → body_of from line ≡ Some bytes → body_of from line ≡ Some other → other ≡ bytes
one_body from line bytes other is also = let same : Some other ≡ Some bytes = sym also ∙ is in cc

-- a line is answered as its body is
pub line_gives : (t : Table) (root : ℕ) (from to : Wire) (line bytes : List ℕ) (r : Answer) → IsAccepted t → body_of from line ≡ Some bytes → Transcodes t root from bytes to r → LineGives t root from to line r
line_gives t root from to line bytes (Ok out) accepted is told =
    let ok = told.answers_ok in (
      ok.0,
      (bytes, is, ok.1),
      ok.2,
      ok.3,
      subst (λ b. TellsAgain to t root b ok.0) ok.3 ok.4,
      of_body to t root ok.0 accepted (spelled_is_small from t root bytes ok.0 ok.1).0,
    )
line_gives t root from to line bytes (Err e) accepted is told = λ some. (
  λ v spells fit.
      let same = one_body from line bytes spells.0 is spells.1 in
      refused_gives_none (body to t root v) e some (told.spelled_is_ok v (subst (λ b. Spells from t root b v) same spells.2) fit),
  inr (bytes, is, refuses_body t root from to bytes e some told),
)

no_body : (t : Table) (root : ℕ) (from to : Wire) (line : List ℕ) → body_of from line ≡ None → SpellsNoneFor t root from to line
no_body t root from to line none v spells fit = let clash : None ≡ Some spells.0 = sym none ∙ spells.1 in absurd cc

-- and a line that is no body spells nothing
pub line_refused : (t : Table) (root : ℕ) (from to : Wire) (line : List ℕ) (e : TranscodeError) → (e ≡ InvalidInput → body_of from line ≡ None) → ((e ≡ InvalidInput → ⊥) → e ≡ NoMemory) → LineGives t root from to line (Err e)
line_refused t root from to line InvalidInput none other some = (no_body t root from to line (none refl), inl (none refl, refl))
line_refused t root from to line TooDeep none other some = absurd (some (other (λ is. cc)))
line_refused t root from to line TooWide none other some = absurd (some (other (λ is. cc)))
line_refused t root from to line NotCarried none other some = absurd (some (other (λ is. cc)))
line_refused t root from to line (Inexpressible u) none other some = absurd (some (other (λ is. cc)))
line_refused t root from to line NoMemory none other some = absurd (some refl)

-- other bytes that are the same
pub same_added : {A E : Type 0} (r : Result A E) (old new xs ys : List ℕ) → xs ≡ ys → new ≡ (if is_ok r then old ++ xs else old) → OnOk r (new ≡ old ++ ys)
same_added (Ok x) old new xs ys same is = is ∙ ap (λ b. old ++ b) same
same_added (Err e) old new xs ys same is = tt

-- the answer to a line that is refused
pub refusal_answers : {E : Type 0} (t : Table) (root : ℕ) (from to : Wire) (numbered : Bool) (n : ℕ) (line old new : List ℕ) (e : TranscodeError) (r : Result Bool E) → LineGives t root from to line (Err e)
    → IfOk r (λ refused. (refused ≡ true) × (e ≢ NoMemory) × (new ≡ old ++ (front numbered n true ++ refusal_text e)))
    → IfOk r (λ refused. (answer : List ℕ) × (new ≡ old ++ answer) × HasNoFeed answer × AnswersLine t root from to numbered n line answer refused)
refusal_answers t root from to numbered n line old new e (Err x) gives told = tt
refusal_answers t root from to numbered n line old new e (Ok refused) gives (is, some, added) =
    let refuses = gives some in
    (front numbered n true ++ refusal_text e, added, of_refusal numbered n e, subst (AnswersLine t root from to numbered n line (front numbered n true ++ refusal_text e)) (sym is) (refuses.0, (e, refuses.1, refl)))

-- the answer to a line that is too long
pub long_answers : {E : Type 0} (numbered : Bool) (n : ℕ) (old new : List ℕ) (r : Result (Unit {0}) E) → OnOk r (new ≡ old ++ (front numbered n true ++ codes "too long"))
    → OnOk r ((answer : List ℕ) × (new ≡ old ++ answer) × HasNoFeed answer × RefusesLong numbered n answer)
long_answers numbered n old new (Err e) added = tt
long_answers numbered n old new (Ok x) added = (front numbered n true ++ codes "too long", added, of_long numbered n, refl)
