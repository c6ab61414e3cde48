use Rattle.smithy_tree.proofs.order.in_order.Goals as goal

pub returns-in-Positions : goal.returns-in-Positions
returns-in-Positions c = record { ok = rw c.in-Positions.is c.by_positions.ensures.ok }

pub returns-in-Keys : goal.returns-in-Keys
returns-in-Keys c = record { ok = rw c.in-Keys.is c.by_keys.ensures.ok }
