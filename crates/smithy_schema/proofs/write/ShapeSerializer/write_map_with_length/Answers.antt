use Rattle.std.proofs.Common.{refl}
use Rattle.std.proofs.lemmas.Result.{err_from_is_err_and}
use Rattle.smithy_schema.specs.Writing.{open_map_at_key}
use Rattle.smithy_schema.proofs.ConsumingLemmas.{was_sound}
use Rattle.smithy_schema.proofs.WrittenLemmas.{not_failed, inside_of, container_refused, container_broken, container_ends}
use Rattle.smithy_schema.proofs.write.ShapeSerializer.write_map_with_length.Goals as goal

pub returns-in_err-begin_map : goal.returns-in_err-begin_map
returns-in_err-begin_map g c =
    let p = err_from_is_err_and c.from_residual.result c.from_residual.ensures.1 in
    rw (p.1, p.2) (container_refused _ _ _ _ _ _ _ _ _ _ c.in_err-begin_map.ensures)

-- the value refused
pub returns-in-Err : goal.returns-in-Err
returns-in-Err g c = container_broken _ _ _ _ _ _ _ _ _ _ _ (was_sound _ _ c.in_ok-begin_map.ensures.failed) c.in_ok-begin_map.ensures.ok c.in-Err.ensures.adds c.fail.ensures

pub returns : goal.returns
returns g c =
    let added = c.in_default.ensures in
    container_ends _ _ _ _ _ _ _ g.met.Self.ShapeSerializer.nested open_map_at_key (λ os. refl) (λ os. refl) _ _ _ _ _ _ (was_sound _ _ c.in_ok-begin_map.ensures.failed) c.in_ok-begin_map.ensures.ok added.adds added.nests added.sound c.end_map.ensures

pub write-requires : goal.write-requires
write-requires g c = record {
  sound = not_failed _ _ c.in_ok-begin_map.ensures.broken;
  inside = (open_map_at_key, c.requires, inside_of _ _ g.met.Self.ShapeSerializer.nested _ open_map_at_key (λ os. refl) _ _ c.in_ok-begin_map.ensures.ok);
}
