use Rattle.std.proofs.Common.{◌≡◌, Some, None, sym, subst, ◌∙◌, ℕ, List}
use Rattle.std.proofs.lemmas.Result.{err_from_is_err_and}
use Rattle.smithy_cbor.specs.DecoderView.{input_of, position_of}
use Rattle.smithy_cbor.specs.Reading.{IsKindOf, IsHeadFault, IsOfType, OpensAt}
use Rattle.smithy_error_bodies.specs.Said.{said_by, nothing_said}
use Rattle.smithy_error_bodies.specs.CborErrors.{CborSays}
use Rattle.smithy_error_bodies.specs.Private.CborSteps.{Told}
use Rattle.smithy_error_bodies.specs.declared.error_body.ErrorBodyFault.TheVariants.{InvalidInput}
use Rattle.smithy_error_bodies.proofs.JsonObjects.{each_ok, each_err}
use Rattle.smithy_error_bodies.proofs.CborLemmas.{map_told, no_map, not_empty}
use Rattle.smithy_error_bodies.proofs.cbor.read_cbor_error.Goals as goal

pub returns-in_err-count-clause-err : goal.returns-in_err-count-clause-err
returns-in_err-count-clause-err c =
    let p = err_from_is_err_and c.from_residual.result c.from_residual.ensures.1 in
    let kind = c.in_err-count.field-0.0.kind in
    let fault = subst (λ (i : List ℕ). IsKindOf (IsHeadFault (IsOfType 5) i 0) kind) c.new-decoder.ensures.input
    (subst (λ (a : ℕ). IsKindOf (IsHeadFault (IsOfType 5) (input_of c.new-decoder.result) a) kind) c.new-decoder.ensures.start c.in_err-count.ensures.refused.cause) in
    let some = sym c.is_empty.ensures ∙ c.if-is_empty.false in
    rw p.1 (λ invalid. no_map c.args.body.now kind (not_empty c.args.body.now some) fault)

pub returns-clause-ok : goal.returns-clause-ok
returns-clause-ok c =
    let read = c.in_ok-count.ensures.read in
    let end = position_of c.map.new.self in
    let same = read.same_input ∙ c.new-decoder.ensures.input in
    let opens = subst (λ (i : List ℕ). OpensAt 5 c.in_ok-count.count i 0 end) c.new-decoder.ensures.input
    (subst (λ (a : ℕ). OpensAt 5 c.in_ok-count.count (input_of c.new-decoder.result) a end) c.new-decoder.ensures.start read.stands) in
    each_ok (λ b. Told c.in_ok-count.count nothing_said (input_of c.map.new.self) end (Some (said_by b))) (λ b. CborSays c.args.body.now (Some (said_by b))) c.read_map.result
    (λ b told. map_told c.args.body.now c.in_ok-count.count end (Some (said_by b)) opens (subst (λ (i : List ℕ). Told c.in_ok-count.count nothing_said i end (Some (said_by b))) same told)) c.read_map.ensures.ok

pub returns-clause-err : goal.returns-clause-err
returns-clause-err c =
    let read = c.in_ok-count.ensures.read in
    let end = position_of c.map.new.self in
    let same = read.same_input ∙ c.new-decoder.ensures.input in
    let opens = subst (λ (i : List ℕ). OpensAt 5 c.in_ok-count.count i 0 end) c.new-decoder.ensures.input
    (subst (λ (a : ℕ). OpensAt 5 c.in_ok-count.count (input_of c.new-decoder.result) a end) c.new-decoder.ensures.start read.stands) in
    each_err (λ e. e ≡ InvalidInput → Told c.in_ok-count.count nothing_said (input_of c.map.new.self) end None) (λ e. e ≡ InvalidInput → CborSays c.args.body.now None) c.read_map.result
    (λ e told invalid. map_told c.args.body.now c.in_ok-count.count end None opens (subst (λ (i : List ℕ). Told c.in_ok-count.count nothing_said i end None) same (told invalid))) c.read_map.ensures.err
