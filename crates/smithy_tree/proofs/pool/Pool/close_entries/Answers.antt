use Rattle.std.proofs.lemmas.Result.{IfOk-weaker}
use Rattle.smithy_tree.specs.Order.{key_cmp}
use Rattle.smithy_tree.specs.Seen.{bytes_of, Closes, ClosesEntries}
use Rattle.smithy_tree.proofs.Closing.{begins_still, closes_entries}
use Rattle.smithy_tree.proofs.pool.Pool.close_entries.Goals as goal

pub close-requires-clause-begins : goal.close-requires-clause-begins
close-requires-clause-begins c = begins_still c.args.self.now c.arrange.new.self (key_cmp (bytes_of c.args.self.now)) c.args.begin c.requires.begins c.in_ok-arrange.ensures.ok

pub returns : goal.returns
returns c =
    let p = c.args.self.now in
    let q = c.close.new.self in
    record {
      ok = IfOk-weaker c.close.result (λ r. Closes c.arrange.new.self q c.args.begin r.0 r.1) (λ r. ClosesEntries p q c.args.begin r.0 r.1)
          (λ r closed. closes_entries p c.arrange.new.self q c.args.begin r.0 r.1 c.requires.begins c.in_ok-arrange.ensures.ok closed) c.close.ensures.ok;
    }
