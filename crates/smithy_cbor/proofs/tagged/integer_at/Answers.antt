use Rattle.std.proofs.Common.{◌+◌, ◌∙◌, ap, arith}
use Rattle.std.proofs.lemmas.Grind.{common_steps}
use Rattle.std.specs.Int.{w128}
use Rattle.std.proofs.lemmas.Int.{to_z-of_z}
use Rattle.cbor_item.specs.HeadView.{head_read}
use Rattle.smithy_cbor.proofs.TaggedLemmas.{integer_read}
use Rattle.smithy_cbor.proofs.tagged.integer_at.Goals as goal

pub returns-in-0-Some-clause-finds : goal.returns-in-0-Some-clause-finds
returns-in-0-Some-clause-finds c =
    let value = to_z-of_z w128 c.integer_of.result c.integer_of.ensures.fits ∙ c.integer_of.ensures.value in
    record {
      found = integer_read (head_read c.in_ok-head.head) 0 c.in-0-Some.n c.args.input.now c.args.at (c.args.at + c.from.result) _ (omega arith) c.requires
          c.in_ok-head.ensures.found c.in-0-Some.is-0 c.in-0-Some.is-1 (ap (λ n. c.args.at + n) c.from.ensures) value;
      within = grind (arith, common_steps);
      refused = tt;
    }

pub returns-in-1-Some-clause-finds : goal.returns-in-1-Some-clause-finds
returns-in-1-Some-clause-finds c =
    let number = c.integer_of-in-1-Some in
    let value = to_z-of_z w128 number.result number.ensures.fits ∙ number.ensures.value in
    record {
      found = integer_read (head_read c.in_ok-head.head) 1 c.in-1-Some.n c.args.input.now c.args.at (c.args.at + c.from.result) _ (omega arith) c.requires
          c.in_ok-head.ensures.found c.in-1-Some.is-0 c.in-1-Some.is-1 (ap (λ n. c.args.at + n) c.from.ensures) value;
      within = grind (arith, common_steps);
      refused = tt;
    }

pub read_head-requires : goal.read_head-requires
read_head-requires c = grind (arith, common_steps)

pub overflow_add-end : goal.overflow_add-end
overflow_add-end c = grind (arith, common_steps)

pub integer_of-requires : goal.integer_of-requires
integer_of-requires c = grind (arith, common_steps)

pub integer_of-requires-in-1-Some : goal.integer_of-requires-in-1-Some
integer_of-requires-in-1-Some c = grind (arith, common_steps)
