use Rattle.std.proofs.Common.{rules, ◌≡◌, ◌≤◌, ◌+◌, ◌-◌, ◌++◌, length, take, Ok, refl, ap, ◌∙◌, arith}
use borrow.Rule.Slice.PartMut.{post_of, Post-is}
use Rattle.smithy_transcode_c.proofs.bodies.put_next.Goals as goal

pub returns-then-out-at : goal.returns-then-out-at
returns-then-out-at c =
    let body = c.in-Ok.body in
    let counted : c.len-count.result ≡ length body.items = search rules in
    record { put = (0, body.items, (Ok body, c.in-Ok.ensures, (refl, refl)), omega (arith, c.if-out-at.true, counted, c.requires.within), refl) }

pub returns-else-out-at : goal.returns-else-out-at
returns-else-out-at c =
    let at = c.args.at in
    let count = c.len-count.result in
    let room = c.args.out.now in
    let left = c.copy_from_slice.new.self in
    let body = c.in-Ok.body in
    let counted : count ≡ length body.items = search rules in
    let put : left ≡ body.items = c.copy_from_slice.ensures.after ∙ c.deref.ensures.value in
    let within : at + count ≤ length room = omega (arith, c.if-out-at.false, c.requires.within) in
    let rest = Post-is at (at + count) room (omega arith) in
    record {
      put = (
        body.items,
        (Ok body, c.in-Ok.ensures, (refl, refl)),
        ap (λ n. at + n) counted,
        within,
        ap (λ l. take at room ++ (l ++ post_of at (at + count - at) room)) put ∙ ap (λ l. take at room ++ (body.items ++ l)) rest,
      );
    }
