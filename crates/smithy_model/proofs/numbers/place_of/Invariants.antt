use Rattle.std.proofs.Common.{◌≡◌, map, drop, bytes_eq}
use Rattle.std.specs.List.{list_any}
use Rattle.smithy_model.proofs.numbers.place_of.Given as goal

abbrev pub invariant-loop-number : goal.invariant-loop-number
invariant-loop-number l =
    list_any (λ other. bytes_eq other l.id) (map (λ t. t.now) (drop l.number l.ids)) ≡ list_any (λ other. bytes_eq other l.id) (map (λ t. t.now) l.ids)
