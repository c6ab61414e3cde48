-- Both parts behind the head of the array.
use Rattle.std.proofs.Common.{◌≡◌, ◌+◌, ◌∙◌, ap, arith, Some, None, rules}
use Rattle.std.proofs.lemmas.Grind.{common_steps}
use Rattle.cbor_item.specs.HeadView.{head_read}
use Rattle.smithy_cbor.proofs.TaggedLemmas.{head_opens}
use Rattle.smithy_cbor.proofs.DecimalLemmas.{pair_read, pair_read_until_break, pair_fault}
use Rattle.smithy_cbor.proofs.decimal.pair_at.Goals as goal

pub returns-in-4-Some : goal.returns-in-4-Some
returns-in-4-Some c =
    let two : c.in-4-Some.count ≡ 2 = omega arith in
    let body = c.args.at + c.from.result in
    let opens = head_opens (head_read c.in_ok-head.head) 4 (Some 2) c.args.input.now c.args.at body c.in_ok-head.ensures.found c.in-4-Some.is-0 (c.in-4-Some.is-1 ∙ ap Some two)
    (ap (λ n. c.args.at + n) c.from.ensures) in
    let parts = c.parts_at.ensures.finds in
    record {
      found = pair_read c.args.input.now c.args.at body c.parts_at.result opens parts.found;
      fits = parts.fits;
      refused = pair_fault c.args.input.now c.args.at body c.parts_at.result opens parts.refused;
    }

pub returns-in-4-None : goal.returns-in-4-None
returns-in-4-None c =
    let body = c.args.at + c.from.result in
    let opens = head_opens (head_read c.in_ok-head.head) 4 None c.args.input.now c.args.at body c.in_ok-head.ensures.found c.in-4-None.is-0 c.in-4-None.is-1
    (ap (λ n. c.args.at + n) c.from.ensures) in
    record {
      found = pair_read_until_break c.args.input.now c.args.at body c.parts_until_break.result opens c.parts_until_break.ensures.found;
      fits = c.parts_until_break.ensures.fits;
      refused = search rules;
    }

pub parts_at-requires : goal.parts_at-requires
parts_at-requires c = grind (arith, common_steps)

pub parts_until_break-requires : goal.parts_until_break-requires
parts_until_break-requires c = grind (arith, common_steps)

pub read_head-requires : goal.read_head-requires
read_head-requires c = grind (arith, common_steps)

pub overflow_add-body : goal.overflow_add-body
overflow_add-body c = grind (arith, common_steps)
