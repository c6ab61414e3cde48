use Rattle.std.proofs.Common.{refl}
use Rattle.std.proofs.lemmas.Result.{err_from_is_err_and}
use Rattle.smithy_schema.specs.Writing.{open_list}
use Rattle.smithy_schema.proofs.ConsumingLemmas.{was_sound}
use Rattle.smithy_schema.proofs.WrittenLemmas.{not_failed, inside_of, container_refused, container_broken, container_ends}
use Rattle.smithy_schema.proofs.write.ShapeSerializer.write_list_with_length.Goals as goal

pub returns-in_err-begin_list : goal.returns-in_err-begin_list
returns-in_err-begin_list g c =
    let p = err_from_is_err_and c.from_residual.result c.from_residual.ensures.1 in
    rw (p.1, p.2) (container_refused _ _ _ _ _ _ _ _ _ _ c.in_err-begin_list.ensures)

-- the value refused
pub returns-in-Err : goal.returns-in-Err
returns-in-Err g c = container_broken _ _ _ _ _ _ _ _ _ _ _ (was_sound _ _ c.in_ok-begin_list.ensures.failed) c.in_ok-begin_list.ensures.ok c.in-Err.ensures.adds c.fail.ensures

pub returns : goal.returns
returns g c =
    let added = c.in_default.ensures in
    container_ends _ _ _ _ _ _ _ g.met.Self.ShapeSerializer.nested open_list (λ os. refl) (λ os. refl) _ _ _ _ _ _ (was_sound _ _ c.in_ok-begin_list.ensures.failed) c.in_ok-begin_list.ensures.ok added.adds added.nests added.sound c.end_list.ensures

pub write-requires : goal.write-requires
write-requires g c = record {
  sound = not_failed _ _ c.in_ok-begin_list.ensures.broken;
  inside = (open_list, c.requires, inside_of _ _ g.met.Self.ShapeSerializer.nested _ open_list (λ os. refl) _ _ c.in_ok-begin_list.ensures.ok);
}
