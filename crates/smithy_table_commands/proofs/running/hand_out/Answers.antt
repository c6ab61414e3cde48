use Rattle.std.proofs.Common.{◌≡◌, ◌∙◌, List, ℕ, true, false, map, subst, sym, refl}
use Rattle.smithy_model_table.specs.declared.left.Left as kept
use Rattle.smithy_model_table.specs.Views.{left_view}
use Rattle.smithy_outside.specs.Outside.{Took, TookPrefix}
use Rattle.smithy_table_commands.specs.RunAnswer.{is_forbidden}
use Rattle.smithy_table_commands.proofs.running.hand_out.Goals as goal

pub returns-then-is_forbidden : goal.returns-then-is_forbidden
returns-then-is_forbidden g c =
    let forbidden = subst (λ (left : List kept.Left). is_forbidden (map left_view left) c.args.is_partial ≡ true) c.deref.ensures.value
    (sym c.is_forbidden.ensures ∙ c.if-is_forbidden.true) in
    (forbidden, (refl, refl))

pub returns-in-Ok : goal.returns-in-Ok
returns-in-Ok g c =
    let told = g.K.Sink.told in
    let allowed = subst (λ (left : List kept.Left). is_forbidden (map left_view left) c.args.is_partial ≡ false) c.deref.ensures.value
    (sym c.is_forbidden.ensures ∙ c.if-is_forbidden.false) in
    (allowed, c.in-Ok.ensures.written.0, subst (λ (bytes : List ℕ). Took bytes (told c.args.out.now) (told c.write_all.new.sink)) c.deref-2.ensures.value c.in-Ok.ensures.written.1, c.in-Ok.ensures.passed_on)

pub returns-in-Err : goal.returns-in-Err
returns-in-Err g c =
    let told = g.K.Sink.told in
    let allowed = subst (λ (left : List kept.Left). is_forbidden (map left_view left) c.args.is_partial ≡ false) c.deref.ensures.value
    (sym c.is_forbidden.ensures ∙ c.if-is_forbidden.false) in
    (allowed, c.in-Err.ensures.written.0, subst (λ (bytes : List ℕ). TookPrefix bytes (told c.args.out.now) (told c.write_all.new.sink)) c.deref-2.ensures.value c.in-Err.ensures.written.1)
