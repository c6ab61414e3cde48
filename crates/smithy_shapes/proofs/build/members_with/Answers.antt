use Rattle.std.proofs.Common.{ap, sym, ◌∙◌, ◌+◌, length, arith, refl, ◌≡◌}
use Rattle.std.proofs.lemmas.List.{length_push}
use Rattle.std.proofs.lemmas.Iterator.Adapters.{YieldsList-from_vec}
use Rattle.std.proofs.lemmas.Iterator.Consumers.{YieldsList-turn}
use Rattle.smithy_declarations.specs.DeclViews.{member_decl_of}
use Rattle.smithy_shapes.specs.Views.{member_of}
use Rattle.smithy_shapes.proofs.BuildLemmas.{member_pushed, read_at}
use Rattle.smithy_shapes.proofs.build.members_with.Goals as goal

pub loop-member-preserved-in_ok-push : goal.loop-member-preserved-in_ok-push
loop-member-preserved-in_ok-push c =
    let turn = YieldsList-turn (YieldsList-from_vec c.args.members.items (cc) (cc)) c.loop-member.yielded _ c.loop-member.yielded_by c.next.result c.next.new.self c.in-Some.member c.in-Some.is c.next.ensures.steps in
    let here : c.len-in-loop-member.result ≡ length c.loop-member.yielded = omega (arith, c.loop-member.shapes.ok.0, c.len-in-loop-member.ensures, c.loop-member.invariant.counted) in
    record {
      counted = ap length c.in_ok-push.ensures.items ∙ length_push c.loop-member.shapes.items _ ∙ ap (λ n. n + 1) c.loop-member.invariant.counted ∙ sym (length_push c.loop-member.yielded c.in-Some.member);
      so_far = member_pushed member_of member_decl_of c.push.new.self.items c.loop-member.shapes.items _ c.loop-member.yielded c.in-Some.member c.args.places.now _ c.in_ok-push.ensures.items c.loop-member.invariant.so_far refl (omega (arith, turn.0)) (read_at c.args.places.now c.len-in-loop-member.result (length c.loop-member.yielded) _ here (omega (arith, turn.0)));
    }

pub loop-member-preserved : goal.loop-member-preserved
loop-member-preserved c =
    let turn = YieldsList-turn (YieldsList-from_vec c.args.members.items (cc) (cc)) c.loop-member.yielded _ c.loop-member.yielded_by c.next.result c.next.new.self c.in-Some.member c.in-Some.is c.next.ensures.steps in
    let here : c.len-in-loop-member.result ≡ length c.loop-member.yielded = omega (arith, c.loop-member.shapes.ok.0, c.len-in-loop-member.ensures, c.loop-member.invariant.counted) in
    record {
      counted = ap length c.in_ok-push.ensures.items ∙ length_push c.loop-member.shapes.items _ ∙ ap (λ n. n + 1) c.loop-member.invariant.counted ∙ sym (length_push c.loop-member.yielded c.in-Some.member);
      so_far = member_pushed member_of member_decl_of c.push.new.self.items c.loop-member.shapes.items _ c.loop-member.yielded c.in-Some.member c.args.places.now _ c.in_ok-push.ensures.items c.loop-member.invariant.so_far refl (omega (arith, turn.0)) (read_at c.args.places.now c.len-in-loop-member.result (length c.loop-member.yielded) _ here (omega (arith, turn.0)));
    }
