-- Mixins that are taken in one shape after the other.
use Rattle.std.proofs.Common.{◌≡◌, ◌<◌, ◌∙◌, ℕ, List, ◌∷◌, [], ◌++◌, Err, refl, arith}
use Rattle.std.specs.Prelude.{Bool}
use Rattle.std.proofs.lemmas.List.{length-append}
use Rattle.smithy_model.specs.declared.fault.ModelFault.{ModelFault}
use Rattle.smithy_model.specs.Model.{Shape}
use Rattle.smithy_model.specs.Mixins.{uses_of}
use Rattle.smithy_model.specs.Mixing.{TakesIn, TakesInMore, TakesMixins, RefusesHere, count_of_waiting}
use Rattle.smithy_model.proofs.Mixing.{refused_before}

pub takes_none : (shapes : List Shape) (done : List Bool) (order : List ℕ) → TakesInMore shapes done order shapes done order
takes_none shapes done order = record { mixed = λ own half. half; uses = refl; fit = omega arith }

pub takes_both : {old shapes new : List Shape} {before done behind : List Bool} {order next new_order : List ℕ} → TakesInMore old before order shapes done next
    → TakesInMore shapes done next new behind new_order → TakesInMore old before order new behind new_order
takes_both one two = record {
  mixed = λ own half. two.mixed own (one.mixed own half);
  uses = two.uses ∙ one.uses;
  fit = omega (arith, one.fit, two.fit);
}

-- one shape more was given its mixins
pub takes_one : (old shapes new : List Shape) (before done behind : List Bool) (order next : List ℕ) (n : ℕ) → TakesInMore old before order shapes done next
    → TakesIn shapes new done behind → uses_of new ≡ uses_of shapes → count_of_waiting behind < count_of_waiting done
    → TakesInMore old before order new behind (next ++ n ∷ [])
takes_one old shapes new before done behind order next n so_far takes uses fewer = record {
  mixed = λ own half. takes own (so_far.mixed own half);
  uses = uses ∙ so_far.uses;
  fit = omega (arith, so_far.fit, fewer, length-append next (n ∷ []));
}

-- where one shape refuses, behind those that were taken in before
pub one_refuses : {A : Type 0} {new : List Shape} {behind : List Bool} (old shapes : List Shape) (before done : List Bool) (fault : ModelFault)
    → uses_of shapes ≡ uses_of old → TakesIn old shapes before done → RefusesHere shapes done fault → TakesMixins {A = A} old new before behind (Err fault)
one_refuses old shapes before done fault uses takes one =
    record { mixed = tt; uses = tt; refused = refused_before old shapes before done fault uses takes one }
