use Rattle.std.proofs.Common.{◌≡◌, ◌<◌, ℕ, true}
use Rattle.smithy_model.specs.Mixins.{is_done}
use Rattle.smithy_model.proofs.mixins.waiting.Given as goal

-- none so far waits
abbrev pub invariant-loop-number : goal.invariant-loop-number
invariant-loop-number l = (k : ℕ) → k < l.number → is_done l.done k ≡ true
