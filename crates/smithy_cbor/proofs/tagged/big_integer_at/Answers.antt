use Rattle.std.proofs.Common.{◌≡◌, ◌+◌, ◌∙◌, ap, arith, refl, inl, inr, Some}
use Rattle.std.proofs.lemmas.Grind.{common_steps}
use Rattle.std.specs.Int.{w128}
use Rattle.std.proofs.lemmas.Int.{to_z-of_z}
use Rattle.cbor_item.specs.HeadView.{head_read}
use Rattle.smithy_cbor.proofs.TaggedLemmas.{integer_read, big_integer_there, head_opens, bignum_there, bignum_fault}
use Rattle.smithy_cbor.proofs.tagged.big_integer_at.Goals as goal

pub returns-in-0-Some : goal.returns-in-0-Some
returns-in-0-Some c =
    let number = c.integer_of in
    let there = integer_read (head_read c.in_ok-head.head) 0 c.in-0-Some.n c.args.input.now c.args.at (c.args.at + c.from.result) number.result (omega arith) c.requires
    c.in_ok-head.ensures.found c.in-0-Some.is-0 c.in-0-Some.is-1 (ap (λ n. c.args.at + n) c.from.ensures) number.ensures.value in
    record {
      found = (number.result, big_integer_there _ _ _ _ there, (number.ensures.fits, to_z-of_z w128 number.result number.ensures.fits));
      within = grind (arith, common_steps);
      refused = tt;
    }

pub returns-in-1-Some : goal.returns-in-1-Some
returns-in-1-Some c =
    let number = c.integer_of-in-1-Some in
    let there = integer_read (head_read c.in_ok-head.head) 1 c.in-1-Some.n c.args.input.now c.args.at (c.args.at + c.from.result) number.result (omega arith) c.requires
    c.in_ok-head.ensures.found c.in-1-Some.is-0 c.in-1-Some.is-1 (ap (λ n. c.args.at + n) c.from.ensures) number.ensures.value in
    record {
      found = (number.result, big_integer_there _ _ _ _ there, (number.ensures.fits, to_z-of_z w128 number.result number.ensures.fits));
      within = grind (arith, common_steps);
      refused = tt;
    }

pub returns-in-6-Some : goal.returns-in-6-Some
returns-in-6-Some c =
    let two : c.in-6-Some.number ≡ 2 = omega arith in
    let ends = ap (λ n. c.args.at + n) c.from.ensures in
    let opens = head_opens (head_read c.in_ok-head.head) 6 (Some 2) c.args.input.now c.args.at (c.args.at + c.from.result) c.in_ok-head.ensures.found c.in-6-Some.is-0
    (c.in-6-Some.is-1 ∙ ap Some two) ends in
    record {
      found = bignum_there 2 0 c.args.input.now c.args.at (c.args.at + c.from.result) c.bignum_at.result opens (λ n. refl) c.bignum_at.ensures.found;
      within = c.bignum_at.ensures.within;
      refused = bignum_fault c.args.input.now c.args.at (c.args.at + c.from.result) c.bignum_at.result (inl opens) c.bignum_at.ensures.refused;
    }

pub returns-in-6-Some-2 : goal.returns-in-6-Some-2
returns-in-6-Some-2 c =
    let call = c.bignum_at-in-6-Some-2 in
    let three : c.in-6-Some-2.number ≡ 3 = omega arith in
    let ends = ap (λ n. c.args.at + n) c.from.ensures in
    let opens = head_opens (head_read c.in_ok-head.head) 6 (Some 3) c.args.input.now c.args.at (c.args.at + c.from.result) c.in_ok-head.ensures.found c.in-6-Some.is-0
    (c.in-6-Some-2.is-1 ∙ ap Some three) ends in
    record {
      found = bignum_there 3 1 c.args.input.now c.args.at (c.args.at + c.from.result) call.result opens (λ n. refl) call.ensures.found;
      within = call.ensures.within;
      refused = bignum_fault c.args.input.now c.args.at (c.args.at + c.from.result) call.result (inr opens) call.ensures.refused;
    }

pub bignum_at-requires-clause-inside : goal.bignum_at-requires-clause-inside
bignum_at-requires-clause-inside c = grind (arith, common_steps)

pub bignum_at-requires-in-6-Some-2-clause-inside : goal.bignum_at-requires-in-6-Some-2-clause-inside
bignum_at-requires-in-6-Some-2-clause-inside c = grind (arith, common_steps)

pub read_head-requires : goal.read_head-requires
read_head-requires c = grind (arith, common_steps)

pub overflow_add-end : goal.overflow_add-end
overflow_add-end c = grind (arith, common_steps)

pub integer_of-requires : goal.integer_of-requires
integer_of-requires c = grind (arith, common_steps)

pub integer_of-requires-in-1-Some : goal.integer_of-requires-in-1-Some
integer_of-requires-in-1-Some c = grind (arith, common_steps)

pub bignum_at-requires-clause-integer_type : goal.bignum_at-requires-clause-integer_type
bignum_at-requires-clause-integer_type c = grind (arith, common_steps)

pub bignum_at-requires-in-6-Some-2-clause-integer_type : goal.bignum_at-requires-in-6-Some-2-clause-integer_type
bignum_at-requires-in-6-Some-2-clause-integer_type c = grind (arith, common_steps)
