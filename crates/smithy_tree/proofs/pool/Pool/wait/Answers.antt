use Rattle.std.proofs.Common.{[], ◌∷◌, length, refl, sym}
use Rattle.std.specs.Prelude.{map as mapped}
use Rattle.std.proofs.lemmas.List.{append-nil}
use Rattle.smithy_tree.specs.Nodes.{rare_value}
use Rattle.smithy_tree.specs.Seen.{store, values}
use Rattle.smithy_tree.proofs.Growing.{values_over-append, nodes-append}
use Rattle.smithy_tree.proofs.pool.Pool.wait.Goals as goal

pub returns : goal.returns
returns c =
    let p = c.args.self.now in
    let s = store p in
    record {
      ok = record {
        grows = record {
          sound = record {
            nodes = c.requires.sound.nodes;
            waiting = rw c.in_ok-push.ensures.items (nodes-append s (length p.nodes.items) p.waiting.items (c.args.slot ∷ []) c.requires.sound.waiting (c.requires.holds, tt));
          };
          input = refl;
          copied = [];
          side = sym (append-nil p.side.items);
          kept = [];
          rare = sym (append-nil (mapped rare_value p.rare.items));
          counted = [];
          numbers = sym (append-nil p.numbers.items);
          more = [];
          values = sym (append-nil (values p));
        };
        waiting = rw c.in_ok-push.ensures.items (values_over-append s (values p) p.waiting.items (c.args.slot ∷ []));
      };
    }
