-- A value that is gone through with a test: what passes unseen.
use Rattle.std.proofs.Common.{◌≡◌, ◌&&◌, ◌||◌, Bool, true, false, not, Option, refl, sym, ◌∙◌}
use Rattle.std.proofs.lemmas.Bool.{or_parts}
use Rattle.smithy_declarations.specs.declared.shape_type.TimestampFormat.{TimestampFormat}
use Rattle.smithy_shapes.specs.Fits.{FitsOr}
use Rattle.smithy_shapes.specs.Holding.{may_hold}
use Rattle.smithy_declarations.specs.Table.{is_document_target}
use Rattle.smithy_shapes.specs.Targets.{is_timestamp_target}
use Rattle.smithy_shapes.specs.Site.{Site}
use Rattle.smithy_declarations.specs.Value.{ScalarValue, instant, Value}
use Rattle.smithy_shapes.proofs.TargetLemmas as seen
use Rattle.smithy_shapes.proofs.TargetLemmas.{IsNoInstant}
use Rattle.smithy_transcode.specs.declared.value_test.InstantTest.{InstantTest}
use Rattle.smithy_transcode.specs.declared.value_test.InstantTest.TheVariants.{Any, WholeSeconds, InForm}
use Rattle.smithy_transcode.specs.declared.value_test.ValueTest as kept
use Rattle.smithy_transcode.specs.Private.ValueTest.{AnswersTest, instant_passes, test_view}

by_kind : (t : InstantTest) (time : Option TimestampFormat) (x : ScalarValue) → IsNoInstant x → instant_passes t time x ≡ true
by_kind t time (instant n) h = absurd h
by_kind Any time _ h = refl
by_kind WholeSeconds time _ h = refl
by_kind (InForm default) time _ h = refl

-- what is no instant passes each test
pub other_passes : (t : kept.ValueTest) (time : Option TimestampFormat) (x : ScalarValue) → IsNoInstant x → (test_view t).scalar time x ≡ true
other_passes t time x h = by_kind t.instants time x h

and_no : (a b : Bool) → (not a && b) ≡ false → a ≡ false → b ≡ false
and_no true b h none = absurd (let e : true ≡ false = none in cc)
and_no false b h none = h

let_pass : (nulls : Bool) → not nulls ≡ false → nulls ≡ true
let_pass true h = refl
let_pass false h = absurd (let e : true ≡ false = h in cc)

-- where nulls pass, no timestamp can stand in a value, and no document that doesn't pass, the value passes
pub passes_unseen : (t : kept.ValueTest) (site : Site) (v : Value) (fails : Bool)
    → fails ≡ (not t.nulls || may_hold is_timestamp_target site || not t.documents && may_hold is_document_target site) → fails ≡ false
    → FitsOr site.table site.place true v → AnswersTest t site v true
passes_unseen t site v fails is none fits =
    let all = or_parts (not t.nulls || may_hold is_timestamp_target site) (not t.documents && may_hold is_document_target site) (sym is ∙ none) in
    let first = or_parts (not t.nulls) (may_hold is_timestamp_target site) all.0 in
    let nulls = let_pass t.nulls first.0 in
    let held = seen.passes_unseen (test_view t) (other_passes t) site true v first.1 (and_no t.documents (may_hold is_document_target site) all.1) fits in
    (rw (held, nulls) refl, λ _ missing. absurd (let e : true ≡ false = sym nulls ∙ missing in cc))
