use Rattle.std.proofs.Common.{◌≡◌, ap, rules, refl, ◌∙◌, [], string_bytes}
use Rattle.std.proofs.lemmas.Result.{err_from_is_err_and}
use Rattle.smithy_shapes.specs.Site.{site_of, key_of, value_of}
use Rattle.smithy_declarations.specs.Value.{map_entry}
use Rattle.smithy_schema.specs.Writing.{end_map}
use Rattle.smithy_schema.proofs.WrittenFields.{called, not_had, has_broken}
use Rattle.smithy_schema.proofs.WrittenLemmas.{not_failed}
use Rattle.smithy_schema.proofs.HalfWritten.{map_fails, map_begun, key_fails, value_fails, entry_goes}
use Rattle.smithy_typed.specs.Values.{entries_with}
use Rattle.smithy_typed.proofs.Containers.{counts}
use Rattle.smithy_typed.proofs.maps.write_map.Goals as goal

pub returns-in_err-begin_map : goal.returns-in_err-begin_map
returns-in_err-begin_map g c =
    let view = g.T.Typed.value in
    let s = g.S.ShapeSerializer in
    let site = site_of c.args.schema.now in
    let first = s.state c.args.sink.now in
    let all = c.args.entries.now.entries in
    let told = c.len.ensures.len ∙ counts view all in
    let p = err_from_is_err_and c.from_residual.result c.from_residual.ensures.1 in
    let call = c.in_err-begin_map.ensures in
    record { writes = rw (p.1, p.2) (record { runs = map_fails s.after site (entries_with view all) _ first _ _ told c.requires.sound call.failed call.refused; sound = tt; broken = call.broken.0 refl }) }

pub loop-key-init : goal.loop-key-init
loop-key-init g c =
    let view = g.T.Typed.value in
    let s = g.S.ShapeSerializer in
    let site = site_of c.args.schema.now in
    let first = s.state c.args.sink.now in
    let all = c.args.entries.now.entries in
    let told = c.len.ensures.len ∙ counts view all in
    let begun = c.iter-left.ensures.rest in
    record {
      sound = not_failed _ _ c.in_ok-begin_map.ensures.broken;
      rest = λ r more. map_begun s.after site (entries_with view all) _ first _ r told c.in_ok-begin_map.ensures.ok (rw begun at more);
    }

pub write_to-requires : goal.write_to-requires
write_to-requires g c = record { sound = not_failed _ _ c.in_ok-write_string.ensures.broken }

pub returns-in_err-write_string : goal.returns-in_err-write_string
returns-in_err-write_string g c =
    let view = g.T.Typed.value in
    let s = g.S.ShapeSerializer in
    let site = site_of c.args.schema.now in
    let first = s.state c.args.sink.now in
    let all = c.args.entries.now.entries in
    let name = string_bytes c.in-Some.key.now in
    let value = view c.in-Some.value.now in
    let left = entries_with view c.loop-key.left in
    let rest = entries_with view c.next.new.self in
    let next : left ≡ map_entry name value rest = ap (entries_with view) c.in-Some.ensures.steps in
    let p = err_from_is_err_and c.from_residual-in_err-write_string.result c.from_residual-in_err-write_string.ensures.1 in
    let told = c.in_err-write_string.ensures in
    record {
      writes = rw (p.1, p.2) (record {
        runs = c.loop-key.invariant.rest _ (key_fails s.after (key_of site) (value_of site) name value left rest _ _ _ next c.loop-key.invariant.sound told.failed (rw (c.keys_under-key_schema.ensures, c.as_str.ensures.value) at told.refused));
        sound = tt;
        broken = told.broken.0 refl;
      });
    }

pub returns-in_err-write_to : goal.returns-in_err-write_to
returns-in_err-write_to g c =
    let view = g.T.Typed.value in
    let s = g.S.ShapeSerializer in
    let site = site_of c.args.schema.now in
    let first = s.state c.args.sink.now in
    let all = c.args.entries.now.entries in
    let name = string_bytes c.in-Some.key.now in
    let value = view c.in-Some.value.now in
    let left = entries_with view c.loop-key.left in
    let rest = entries_with view c.next.new.self in
    let next : left ≡ map_entry name value rest = ap (entries_with view) c.in-Some.ensures.steps in
    let p = err_from_is_err_and c.from_residual-in_err-write_to.result c.from_residual-in_err-write_to.ensures.1 in
    let key = rw (c.keys_under-key_schema.ensures, c.as_str.ensures.value) at c.in_ok-write_string.ensures.ok in
    let runs = rw c.values_under-value_schema.ensures at c.in_err-write_to.ensures.writes.runs in
    record {
      writes = rw (p.1, p.2) (record {
        runs = c.loop-key.invariant.rest _ (value_fails s.after (key_of site) (value_of site) name value left rest _ _ _ next key runs);
        sound = tt;
        broken = c.in_err-write_to.ensures.writes.broken;
      });
    }

pub loop-key-preserved : goal.loop-key-preserved
loop-key-preserved g c =
    let view = g.T.Typed.value in
    let s = g.S.ShapeSerializer in
    let site = site_of c.args.schema.now in
    let first = s.state c.args.sink.now in
    let all = c.args.entries.now.entries in
    let name = string_bytes c.in-Some.key.now in
    let value = view c.in-Some.value.now in
    let left = entries_with view c.loop-key.left in
    let rest = entries_with view c.next.new.self in
    let next : left ≡ map_entry name value rest = ap (entries_with view) c.in-Some.ensures.steps in
    let key = rw (c.keys_under-key_schema.ensures, c.as_str.ensures.value) at c.in_ok-write_string.ensures.ok in
    let runs = rw c.values_under-value_schema.ensures at c.in_ok-write_to.ensures.writes.runs in
    record {
      sound = c.in_ok-write_to.ensures.writes.sound;
      rest = λ r more. c.loop-key.invariant.rest r (entry_goes s.after (key_of site) (value_of site) name value left rest _ _ _ r next key runs more);
    }

pub returns : goal.returns
returns g c =
    let view = g.T.Typed.value in
    let s = g.S.ShapeSerializer in
    let site = site_of c.args.schema.now in
    let first = s.state c.args.sink.now in
    let over : c.loop-key.left ≡ [] = search rules in
    let told = c.end_map.ensures in
    record {
      writes = record {
        runs = (rw over at c.loop-key.invariant.rest) _ (called s.after end_map _ _ _ c.end_map.result c.loop-key.invariant.sound told.failed told.ok told.refused);
        sound = not_had c.end_map.result _ told.broken;
        broken = has_broken c.end_map.result _ told.broken;
      };
    }
