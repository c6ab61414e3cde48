use Rattle.std.proofs.Common.{◌≡◌, arith, refl, sym, subst, suc, ◌+◌, ◌-◌, option_map, Some, None}
use Rattle.smithy_json_tokens.specs.TokenView.{token_view}
use Rattle.smithy_json_tokens.specs.IteratorView.{cursor_of, GivesNext}
use Rattle.smithy_json_tokens.specs.ContainerSize.{values_inside, Tells}
use Rattle.smithy_json_tokens.proofs.CountedValues.{one_token, last_token, none_left, error_left, told_none, begins_here, begins_inside, ends_here, ends_inside, names_one, stands_here, stands_inside, one_more, no_more}
use Rattle.smithy_json_tokens.proofs.counting.values_inside.Goals as goal

pub returns-in-Err : goal.returns-in-Err
returns-in-Err c =
    let step = subst (λ item. GivesNext c.loop-item.tokens (Some item) c.next.new.self) c.in-Err.is c.in-Some.ensures.steps in
    told_none (Tells (values_inside 0) (cursor_of c.args.tokens.now)) c.uncounted.result c.uncounted.ensures.none
    (λ fault. c.loop-item.invariant.told None (error_left (values_inside c.loop-item.within) c.loop-item.tokens c.next.new.self c.in-Err.error refl step fault))

pub loop-item-preserved-then-within-eq0 : goal.loop-item-preserved-then-within-eq0
loop-item-preserved-then-within-eq0 c =
    let inv = c.loop-item.invariant in
    let step = subst (λ item. GivesNext c.loop-item.tokens (Some item) c.next.new.self) c.in-Ok.is c.in-Some.ensures.steps in
    let t = token_view c.in-Ok.token in
    let further = c.in-Some.ensures.goes.on inv.ends in
    let few = inv.few in
    let shallow = inv.shallow in
    let less = further.2 in
    record {
      can = further.0;
      ends = further.1;
      few = omega (arith, few, less);
      shallow = omega (arith, shallow, few, less);
      told = λ r tells.
          subst (Tells (values_inside 0) (cursor_of c.args.tokens.now)) (sym (one_more c.loop-item.count r))
          (inv.told (option_map suc r) (one_token (values_inside c.loop-item.within) (values_inside 1) suc (cursor_of c.loop-item.tokens) (cursor_of c.next.new.self) t _ step.1.0 refl
          (begins_here t c.loop-item.within (sym c.in-Begins.ensures) c.if-within-eq0.true) r tells));
    }

pub loop-item-preserved-else-within-eq0 : goal.loop-item-preserved-else-within-eq0
loop-item-preserved-else-within-eq0 c =
    let inv = c.loop-item.invariant in
    let step = subst (λ item. GivesNext c.loop-item.tokens (Some item) c.next.new.self) c.in-Ok.is c.in-Some.ensures.steps in
    let t = token_view c.in-Ok.token in
    let further = c.in-Some.ensures.goes.on inv.ends in
    let few = inv.few in
    let shallow = inv.shallow in
    let less = further.2 in
    record {
      can = further.0;
      ends = further.1;
      few = omega (arith, few, less);
      shallow = omega (arith, shallow, few, less);
      told = λ r tells.
          subst (Tells (values_inside 0) (cursor_of c.args.tokens.now)) (sym (no_more c.loop-item.count r))
          (inv.told (option_map (λ m. m) r) (one_token (values_inside c.loop-item.within) (values_inside (c.loop-item.within + 1)) (λ m. m) (cursor_of c.loop-item.tokens) (cursor_of c.next.new.self) t _ step.1.0 refl
          (begins_inside t c.loop-item.within (sym c.in-Begins.ensures) c.if-within-eq0.false) r tells));
    }

pub returns-then-within-eq0-2 : goal.returns-then-within-eq0-2
returns-then-within-eq0-2 c =
    let step = subst (λ item. GivesNext c.loop-item.tokens (Some item) c.next.new.self) c.in-Ok.is c.in-Some.ensures.steps in
    let t = token_view c.in-Ok.token in
    let all : c.loop-item.count + 0 ≡ c.loop-item.count = omega arith in
    subst (λ n. Tells (values_inside 0) (cursor_of c.args.tokens.now) (Some n)) all
    (c.loop-item.invariant.told (Some 0) (last_token (values_inside c.loop-item.within) (cursor_of c.loop-item.tokens) (cursor_of c.next.new.self) t _ 0 step.1.0 (ends_here t c.loop-item.within (sym c.in-Ends.ensures) c.if-within-eq0-2.true)))

pub loop-item-preserved-in-Ends : goal.loop-item-preserved-in-Ends
loop-item-preserved-in-Ends c =
    let inv = c.loop-item.invariant in
    let step = subst (λ item. GivesNext c.loop-item.tokens (Some item) c.next.new.self) c.in-Ok.is c.in-Some.ensures.steps in
    let t = token_view c.in-Ok.token in
    let further = c.in-Some.ensures.goes.on inv.ends in
    let few = inv.few in
    let shallow = inv.shallow in
    let less = further.2 in
    record {
      can = further.0;
      ends = further.1;
      few = omega (arith, few, less);
      shallow = omega (arith, shallow, few, less);
      told = λ r tells.
          subst (Tells (values_inside 0) (cursor_of c.args.tokens.now)) (sym (no_more c.loop-item.count r))
          (inv.told (option_map (λ m. m) r) (one_token (values_inside c.loop-item.within) (values_inside (c.loop-item.within - 1)) (λ m. m) (cursor_of c.loop-item.tokens) (cursor_of c.next.new.self) t _ step.1.0 refl
          (ends_inside t c.loop-item.within (sym c.in-Ends.ensures) c.if-within-eq0-2.false) r tells));
    }

pub loop-item-preserved-in-Names : goal.loop-item-preserved-in-Names
loop-item-preserved-in-Names c =
    let inv = c.loop-item.invariant in
    let step = subst (λ item. GivesNext c.loop-item.tokens (Some item) c.next.new.self) c.in-Ok.is c.in-Some.ensures.steps in
    let t = token_view c.in-Ok.token in
    let further = c.in-Some.ensures.goes.on inv.ends in
    let few = inv.few in
    let shallow = inv.shallow in
    let less = further.2 in
    record {
      can = further.0;
      ends = further.1;
      few = omega (arith, few, less);
      shallow = omega (arith, shallow, few, less);
      told = λ r tells.
          subst (Tells (values_inside 0) (cursor_of c.args.tokens.now)) (sym (no_more c.loop-item.count r))
          (inv.told (option_map (λ m. m) r) (one_token (values_inside c.loop-item.within) (values_inside c.loop-item.within) (λ m. m) (cursor_of c.loop-item.tokens) (cursor_of c.next.new.self) t _ step.1.0 refl
          (names_one t c.loop-item.within (sym c.in-Names.ensures)) r tells));
    }

pub loop-item-preserved-then-within-eq0-3 : goal.loop-item-preserved-then-within-eq0-3
loop-item-preserved-then-within-eq0-3 c =
    let inv = c.loop-item.invariant in
    let step = subst (λ item. GivesNext c.loop-item.tokens (Some item) c.next.new.self) c.in-Ok.is c.in-Some.ensures.steps in
    let t = token_view c.in-Ok.token in
    let further = c.in-Some.ensures.goes.on inv.ends in
    let few = inv.few in
    let shallow = inv.shallow in
    let less = further.2 in
    record {
      can = further.0;
      ends = further.1;
      few = omega (arith, few, less);
      shallow = omega (arith, shallow, few, less);
      told = λ r tells.
          subst (Tells (values_inside 0) (cursor_of c.args.tokens.now)) (sym (one_more c.loop-item.count r))
          (inv.told (option_map suc r) (one_token (values_inside c.loop-item.within) (values_inside c.loop-item.within) suc (cursor_of c.loop-item.tokens) (cursor_of c.next.new.self) t _ step.1.0 refl
          (stands_here t c.loop-item.within (sym c.in-Stands.ensures) c.if-within-eq0-3.true) r tells));
    }

pub loop-item-preserved : goal.loop-item-preserved
loop-item-preserved c =
    let inv = c.loop-item.invariant in
    let step = subst (λ item. GivesNext c.loop-item.tokens (Some item) c.next.new.self) c.in-Ok.is c.in-Some.ensures.steps in
    let t = token_view c.in-Ok.token in
    let further = c.in-Some.ensures.goes.on inv.ends in
    let few = inv.few in
    let shallow = inv.shallow in
    let less = further.2 in
    record {
      can = further.0;
      ends = further.1;
      few = omega (arith, few, less);
      shallow = omega (arith, shallow, few, less);
      told = λ r tells.
          subst (Tells (values_inside 0) (cursor_of c.args.tokens.now)) (sym (no_more c.loop-item.count r))
          (inv.told (option_map (λ m. m) r) (one_token (values_inside c.loop-item.within) (values_inside c.loop-item.within) (λ m. m) (cursor_of c.loop-item.tokens) (cursor_of c.next.new.self) t _ step.1.0 refl
          (stands_inside t c.loop-item.within (sym c.in-Stands.ensures) c.if-within-eq0-3.false) r tells));
    }

pub returns : goal.returns
returns c = c.loop-item.invariant.told None (none_left (values_inside c.loop-item.within) c.loop-item.tokens c.next.new.self refl c.in_default.ensures.steps)
