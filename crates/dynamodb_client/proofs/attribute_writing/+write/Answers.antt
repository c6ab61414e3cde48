use Rattle.std.proofs.Common.{◌≡◌, ap, subst, arith, rules, refl, ◌∙◌, ◌+◌, [], drop, length, string_bytes}
use Rattle.std.proofs.lemmas.Result.{err_from_is_err_and}
use Rattle.std.proofs.lemmas.List.{drop_all}
use Rattle.smithy_shapes.specs.Site.{site_of, member_of, element_of, key_of, value_of}
use Rattle.smithy_declarations.specs.Value.{nesting, text, bytes, boolean, list, map, values_of, map_entry}
use Rattle.smithy_schema.specs.Writing.{events, scalar_of, end_structure, end_list, end_map}
use Rattle.smithy_schema.proofs.WrittenFields.{called, not_had, has_broken}
use Rattle.smithy_schema.proofs.WrittenLemmas.{not_failed}
use Rattle.smithy_schema.proofs.WrittenLists.{next_element, element_nests}
use Rattle.dynamodb_client.specs.Attributes.{attribute_value, attribute_values, attribute_entries}
use Rattle.smithy_schema.specs.Typed.{WritesAs}
use Rattle.dynamodb_client.proofs.Variants.{is_union, view-S, view-N, view-B, view-Bool, view-Null, view-M, view-L}
use Rattle.smithy_schema.proofs.HalfWritten.{first_fails, union_fails, union_ends, list_fails, list_begun, element_fails, element_goes, map_fails, map_begun, key_fails, value_fails, entry_goes, entry_nests}
use Rattle.dynamodb_client.proofs.MapEntries.{counts}
use Rattle.dynamodb_client.proofs.attribute_writing.+write.Goals as goal

pub write_attribute_value-returns-in_err-begin_struct : goal.write_attribute_value-returns-in_err-begin_struct
write_attribute_value-returns-in_err-begin_struct g t c =
    let s = g.S.ShapeSerializer in
    let site = site_of c.args.schema.now in
    let first = s.state c.args.sink.now in
    let is = is_union c.args.value.now in
    let p = err_from_is_err_and c.from_residual.result c.from_residual.ensures.1 in
    let told = c.in_err-begin_struct.ensures in
    record { writes = rw (p.1, p.2, is.2) (record { runs = first_fails s.after _ _ first _ _ c.requires.sound told.failed told.refused; sound = tt; broken = told.broken.0 refl }) }

pub write_attribute_value-write_variant-requires : goal.write_attribute_value-write_variant-requires
write_attribute_value-write_variant-requires g t c κs within =
    (omega (arith, c.decreases), (search rules, not_failed _ _ c.in_ok-begin_struct.ensures.broken))

pub write_attribute_value-returns-in_err-write_variant : goal.write_attribute_value-returns-in_err-write_variant
write_attribute_value-returns-in_err-write_variant g t c =
    let s = g.S.ShapeSerializer in
    let site = site_of c.args.schema.now in
    let first = s.state c.args.sink.now in
    let is = is_union c.args.value.now in
    let p = err_from_is_err_and c.from_residual-in_err-write_variant.result c.from_residual-in_err-write_variant.ensures.1 in
    let runs = rw is.2 at c.in_err-write_variant.ensures.writes.runs in
    record { writes = rw (p.1, p.2, is.2) (record { runs = union_fails s.after site is.0 is.1 first _ _ c.in_ok-begin_struct.ensures.ok runs; sound = tt; broken = c.in_err-write_variant.ensures.writes.broken }) }

pub write_attribute_value-returns : goal.write_attribute_value-returns
write_attribute_value-returns g t c =
    let s = g.S.ShapeSerializer in
    let site = site_of c.args.schema.now in
    let first = s.state c.args.sink.now in
    let is = is_union c.args.value.now in
    let told = c.end_struct.ensures in
    let runs = rw is.2 at c.in_ok-write_variant.ensures.writes.runs in
    record {
      writes = rw is.2 (record {
        runs = union_ends s.after site is.0 is.1 first _ _ _ c.in_ok-begin_struct.ensures.ok runs
            (called s.after end_structure _ _ _ c.end_struct.result c.in_ok-write_variant.ensures.writes.sound told.failed told.ok told.refused);
        sound = not_had c.end_struct.result _ told.broken;
        broken = has_broken c.end_struct.result _ told.broken;
      });
    }

pub write_variant-returns-in-S : goal.write_variant-returns-in-S
write_variant-returns-in-S g t c =
    let s = g.S.ShapeSerializer in
    let site = site_of c.args.schema.now in
    let first = s.state c.args.sink.now in
    let told = c.write_string.ensures in
    record {
      writes = rw (c.in-S.is, view-S c.in-S.text) (record {
        runs = called s.after (scalar_of (member_of site 0) (text (string_bytes c.in-S.text))) first _ _ c.write_string.result c.requires.sound told.failed (rw (c.member_under.ensures, c.as_str.ensures.value) at told.ok) (rw (c.member_under.ensures, c.as_str.ensures.value) at told.refused);
        sound = not_had c.write_string.result _ told.broken;
        broken = has_broken c.write_string.result _ told.broken;
      });
    }

pub write_variant-returns-in-N : goal.write_variant-returns-in-N
write_variant-returns-in-N g t c =
    let s = g.S.ShapeSerializer in
    let site = site_of c.args.schema.now in
    let first = s.state c.args.sink.now in
    let told = c.write_string-in-N.ensures in
    record {
      writes = rw (c.in-N.is, view-N c.in-N.text) (record {
        runs = called s.after (scalar_of (member_of site 1) (text (string_bytes c.in-N.text))) first _ _ c.write_string-in-N.result c.requires.sound told.failed (rw (c.member_under-in-N.ensures, c.as_str-in-N.ensures.value) at told.ok) (rw (c.member_under-in-N.ensures, c.as_str-in-N.ensures.value) at told.refused);
        sound = not_had c.write_string-in-N.result _ told.broken;
        broken = has_broken c.write_string-in-N.result _ told.broken;
      });
    }

pub write_variant-returns-in-B : goal.write_variant-returns-in-B
write_variant-returns-in-B g t c =
    let s = g.S.ShapeSerializer in
    let site = site_of c.args.schema.now in
    let first = s.state c.args.sink.now in
    let told = c.write_blob.ensures in
    record {
      writes = rw (c.in-B.is, view-B c.in-B.bytes) (record {
        runs = called s.after (scalar_of (member_of site 2) (bytes c.in-B.bytes)) first _ _ c.write_blob.result c.requires.sound told.failed (rw c.member_under-in-B.ensures at told.ok) (rw c.member_under-in-B.ensures at told.refused);
        sound = not_had c.write_blob.result _ told.broken;
        broken = has_broken c.write_blob.result _ told.broken;
      });
    }

pub write_variant-returns-in-Bool : goal.write_variant-returns-in-Bool
write_variant-returns-in-Bool g t c =
    let s = g.S.ShapeSerializer in
    let site = site_of c.args.schema.now in
    let first = s.state c.args.sink.now in
    let told = c.write_boolean.ensures in
    record {
      writes = rw (c.in-Bool.is, view-Bool c.in-Bool.truth) (record {
        runs = called s.after (scalar_of (member_of site 3) (boolean c.in-Bool.truth)) first _ _ c.write_boolean.result c.requires.sound told.failed (rw c.member_under-in-Bool.ensures at told.ok) (rw c.member_under-in-Bool.ensures at told.refused);
        sound = not_had c.write_boolean.result _ told.broken;
        broken = has_broken c.write_boolean.result _ told.broken;
      });
    }

pub write_variant-returns-in-Null : goal.write_variant-returns-in-Null
write_variant-returns-in-Null g t c =
    let s = g.S.ShapeSerializer in
    let site = site_of c.args.schema.now in
    let first = s.state c.args.sink.now in
    let told = c.write_boolean-in-Null.ensures in
    record {
      writes = rw (c.in-Null.is, view-Null c.in-Null.truth) (record {
        runs = called s.after (scalar_of (member_of site 4) (boolean c.in-Null.truth)) first _ _ c.write_boolean-in-Null.result c.requires.sound told.failed (rw c.member_under-in-Null.ensures at told.ok) (rw c.member_under-in-Null.ensures at told.refused);
        sound = not_had c.write_boolean-in-Null.result _ told.broken;
        broken = has_broken c.write_boolean-in-Null.result _ told.broken;
      });
    }

pub write_variant-write_attributes-requires : goal.write_variant-write_attributes-requires
write_variant-write_attributes-requires g t c κs within =
    let deep = ap nesting (ap attribute_value c.in-M.is ∙ view-M c.in-M.entries) in
    (omega (arith, deep, c.decreases), (search rules, c.requires.sound))

pub write_variant-returns-in-M : goal.write_variant-returns-in-M
write_variant-returns-in-M g t c =
    let s = g.S.ShapeSerializer in
    let site = site_of c.args.schema.now in
    let first = s.state c.args.sink.now in
    let call = c.write_attributes in
    record {
      writes = rw (c.in-M.is, view-M c.in-M.entries)
          (subst (λ at. WritesAs s.after (events at (map (attribute_entries c.in-M.entries.entries))) first (s.failed call.new.sink) (s.state call.new.sink) call.result) c.member_under-in-M.ensures call.ensures.writes);
    }

pub write_variant-write_attribute_list-requires : goal.write_variant-write_attribute_list-requires
write_variant-write_attribute_list-requires g t c κs within =
    let deep = ap nesting (ap attribute_value c.in-L.is ∙ view-L c.in-L.values) in
    let same = ap (λ vs. nesting (list (values_of (attribute_values vs)))) c.as_slice.ensures.value in
    (omega (arith, deep, same, c.decreases), (search rules, c.requires.sound))

pub write_variant-returns-in-L : goal.write_variant-returns-in-L
write_variant-returns-in-L g t c =
    let s = g.S.ShapeSerializer in
    let site = site_of c.args.schema.now in
    let first = s.state c.args.sink.now in
    let call = c.write_attribute_list in
    record {
      writes = rw (c.in-L.is, view-L c.in-L.values, ← c.as_slice.ensures.value)
          (subst (λ at. WritesAs s.after (events at (list (values_of (attribute_values c.as_slice.result.now)))) first (s.failed call.new.sink) (s.state call.new.sink) call.result) c.member_under-in-L.ensures call.ensures.writes);
    }

pub write_attributes-returns-in_err-begin_map : goal.write_attributes-returns-in_err-begin_map
write_attributes-returns-in_err-begin_map g t c =
    let s = g.S.ShapeSerializer in
    let site = site_of c.args.schema.now in
    let first = s.state c.args.sink.now in
    let all = c.args.entries.now.entries in
    let told = c.len.ensures.len ∙ counts all in
    let p = err_from_is_err_and c.from_residual.result c.from_residual.ensures.1 in
    let call = c.in_err-begin_map.ensures in
    record { writes = rw (p.1, p.2) (record { runs = map_fails s.after site (attribute_entries all) _ first _ _ told c.requires.sound call.failed call.refused; sound = tt; broken = call.broken.0 refl }) }

pub write_attributes-loop-key-init : goal.write_attributes-loop-key-init
write_attributes-loop-key-init g t c =
    let s = g.S.ShapeSerializer in
    let site = site_of c.args.schema.now in
    let first = s.state c.args.sink.now in
    let all = c.args.entries.now.entries in
    let told = c.len.ensures.len ∙ counts all in
    let begun = c.iter-left.ensures.rest in
    record {
      sound = not_failed _ _ c.in_ok-begin_map.ensures.broken;
      rest = λ r more. map_begun s.after site (attribute_entries all) _ first _ r told c.in_ok-begin_map.ensures.ok (rw begun at more);
      nests = rw begun (omega arith);
    }

pub write_attributes-write_attribute_value-requires : goal.write_attributes-write_attribute_value-requires
write_attributes-write_attribute_value-requires g t c κs within =
    let s = g.S.ShapeSerializer in
    let site = site_of c.args.schema.now in
    let first = s.state c.args.sink.now in
    let all = c.args.entries.now.entries in
    let name = string_bytes c.in-Some.key.now in
    let value = attribute_value c.in-Some.value.now in
    let left = attribute_entries c.loop-key.left in
    let rest = attribute_entries c.next.new.self in
    let next : left ≡ map_entry name value rest = ap attribute_entries c.in-Some.ensures.steps in
    let smaller = (entry_nests (attribute_entries all) left name value rest next c.loop-key.invariant.nests).0 in
    (omega (arith, smaller, c.decreases), (search rules, not_failed _ _ c.in_ok-write_string.ensures.broken))

pub write_attributes-returns-in_err-write_string : goal.write_attributes-returns-in_err-write_string
write_attributes-returns-in_err-write_string g t c =
    let s = g.S.ShapeSerializer in
    let site = site_of c.args.schema.now in
    let first = s.state c.args.sink.now in
    let all = c.args.entries.now.entries in
    let name = string_bytes c.in-Some.key.now in
    let value = attribute_value c.in-Some.value.now in
    let left = attribute_entries c.loop-key.left in
    let rest = attribute_entries c.next.new.self in
    let next : left ≡ map_entry name value rest = ap attribute_entries c.in-Some.ensures.steps in
    let p = err_from_is_err_and c.from_residual-in_err-write_string.result c.from_residual-in_err-write_string.ensures.1 in
    let told = c.in_err-write_string.ensures in
    record {
      writes = rw (p.1, p.2) (record {
        runs = c.loop-key.invariant.rest _ (key_fails s.after (key_of site) (value_of site) name value left rest _ _ _ next c.loop-key.invariant.sound told.failed (rw (c.keys_under-key_schema.ensures, c.as_str.ensures.value) at told.refused));
        sound = tt;
        broken = told.broken.0 refl;
      });
    }

pub write_attributes-returns-in_err-write_attribute_value : goal.write_attributes-returns-in_err-write_attribute_value
write_attributes-returns-in_err-write_attribute_value g t c =
    let s = g.S.ShapeSerializer in
    let site = site_of c.args.schema.now in
    let first = s.state c.args.sink.now in
    let all = c.args.entries.now.entries in
    let name = string_bytes c.in-Some.key.now in
    let value = attribute_value c.in-Some.value.now in
    let left = attribute_entries c.loop-key.left in
    let rest = attribute_entries c.next.new.self in
    let next : left ≡ map_entry name value rest = ap attribute_entries c.in-Some.ensures.steps in
    let p = err_from_is_err_and c.from_residual-in_err-write_attribute_value.result c.from_residual-in_err-write_attribute_value.ensures.1 in
    let key = rw (c.keys_under-key_schema.ensures, c.as_str.ensures.value) at c.in_ok-write_string.ensures.ok in
    let runs = rw c.values_under-value_schema.ensures at c.in_err-write_attribute_value.ensures.writes.runs in
    record {
      writes = rw (p.1, p.2) (record {
        runs = c.loop-key.invariant.rest _ (value_fails s.after (key_of site) (value_of site) name value left rest _ _ _ next key runs);
        sound = tt;
        broken = c.in_err-write_attribute_value.ensures.writes.broken;
      });
    }

pub write_attributes-loop-key-preserved : goal.write_attributes-loop-key-preserved
write_attributes-loop-key-preserved g t c =
    let s = g.S.ShapeSerializer in
    let site = site_of c.args.schema.now in
    let first = s.state c.args.sink.now in
    let all = c.args.entries.now.entries in
    let name = string_bytes c.in-Some.key.now in
    let value = attribute_value c.in-Some.value.now in
    let left = attribute_entries c.loop-key.left in
    let rest = attribute_entries c.next.new.self in
    let next : left ≡ map_entry name value rest = ap attribute_entries c.in-Some.ensures.steps in
    let key = rw (c.keys_under-key_schema.ensures, c.as_str.ensures.value) at c.in_ok-write_string.ensures.ok in
    let runs = rw c.values_under-value_schema.ensures at c.in_ok-write_attribute_value.ensures.writes.runs in
    record {
      sound = c.in_ok-write_attribute_value.ensures.writes.sound;
      rest = λ r more. c.loop-key.invariant.rest r (entry_goes s.after (key_of site) (value_of site) name value left rest _ _ _ r next key runs more);
      nests = (entry_nests (attribute_entries all) left name value rest next c.loop-key.invariant.nests).1;
    }

pub write_attributes-returns : goal.write_attributes-returns
write_attributes-returns g t c =
    let s = g.S.ShapeSerializer in
    let site = site_of c.args.schema.now in
    let first = s.state c.args.sink.now in
    let over : c.loop-key.left ≡ [] = search rules in
    let told = c.end_map.ensures in
    record {
      writes = record {
        runs = (rw over at c.loop-key.invariant.rest) _ (called s.after end_map _ _ _ c.end_map.result c.loop-key.invariant.sound told.failed told.ok told.refused);
        sound = not_had c.end_map.result _ told.broken;
        broken = has_broken c.end_map.result _ told.broken;
      };
    }

pub write_attribute_list-returns-in_err-begin_list : goal.write_attribute_list-returns-in_err-begin_list
write_attribute_list-returns-in_err-begin_list g t c =
    let s = g.S.ShapeSerializer in
    let site = site_of c.args.schema.now in
    let first = s.state c.args.sink.now in
    let all = c.args.values.now in
    let p = err_from_is_err_and c.from_residual.result c.from_residual.ensures.1 in
    let call = c.in_err-begin_list.ensures in
    record { writes = rw (p.1, p.2) (record { runs = list_fails s.after attribute_value site all (length all) first _ _ refl c.requires.sound call.failed call.refused; sound = tt; broken = call.broken.0 refl }) }

pub write_attribute_list-loop-value-init : goal.write_attribute_list-loop-value-init
write_attribute_list-loop-value-init g t c =
    let s = g.S.ShapeSerializer in
    let site = site_of c.args.schema.now in
    let first = s.state c.args.sink.now in
    let all = c.args.values.now in
    record {
      sound = not_failed _ _ c.in_ok-begin_list.ensures.broken;
      rest = λ r more. list_begun s.after attribute_value site all (length all) first _ r refl c.in_ok-begin_list.ensures.ok more;
      nests = omega arith;
    }

pub write_attribute_list-write_attribute_value-requires : goal.write_attribute_list-write_attribute_value-requires
write_attribute_list-write_attribute_value-requires g t c κs within =
    let s = g.S.ShapeSerializer in
    let site = site_of c.args.schema.now in
    let first = s.state c.args.sink.now in
    let all = c.args.values.now in
    let next = next_element attribute_value all c.loop-value.value-index c.value-item.result _ c.loop-value-test.true c.value-item.is refl in
    let value = attribute_value c.value-item.result in
    let vs = attribute_values (drop c.loop-value.value-index all) in
    let ws = attribute_values (drop (c.loop-value.value-index + 1) all) in
    let smaller = (element_nests (attribute_values all) vs value ws next c.loop-value.invariant.nests).0 in
    (omega (arith, smaller, c.decreases), (search rules, c.loop-value.invariant.sound))

pub write_attribute_list-returns-in_err-write_attribute_value : goal.write_attribute_list-returns-in_err-write_attribute_value
write_attribute_list-returns-in_err-write_attribute_value g t c =
    let s = g.S.ShapeSerializer in
    let site = site_of c.args.schema.now in
    let first = s.state c.args.sink.now in
    let all = c.args.values.now in
    let inner = element_of site in
    let next = next_element attribute_value all c.loop-value.value-index c.value-item.result _ c.loop-value-test.true c.value-item.is refl in
    let value = attribute_value c.value-item.result in
    let vs = attribute_values (drop c.loop-value.value-index all) in
    let ws = attribute_values (drop (c.loop-value.value-index + 1) all) in
    let p = err_from_is_err_and c.from_residual-in_err-write_attribute_value.result c.from_residual-in_err-write_attribute_value.ensures.1 in
    let runs = rw c.elements_under-element_schema.ensures at c.in_err-write_attribute_value.ensures.writes.runs in
    record {
      writes = rw (p.1, p.2) (record {
        runs = c.loop-value.invariant.rest _ (element_fails s.after inner value vs ws _ _ next runs);
        sound = tt;
        broken = c.in_err-write_attribute_value.ensures.writes.broken;
      });
    }

pub write_attribute_list-loop-value-preserved : goal.write_attribute_list-loop-value-preserved
write_attribute_list-loop-value-preserved g t c =
    let s = g.S.ShapeSerializer in
    let site = site_of c.args.schema.now in
    let first = s.state c.args.sink.now in
    let all = c.args.values.now in
    let inner = element_of site in
    let next = next_element attribute_value all c.loop-value.value-index c.value-item.result _ c.loop-value-test.true c.value-item.is refl in
    let value = attribute_value c.value-item.result in
    let vs = attribute_values (drop c.loop-value.value-index all) in
    let ws = attribute_values (drop (c.loop-value.value-index + 1) all) in
    let runs = rw c.elements_under-element_schema.ensures at c.in_ok-write_attribute_value.ensures.writes.runs in
    record {
      sound = c.in_ok-write_attribute_value.ensures.writes.sound;
      rest = λ r more. c.loop-value.invariant.rest r (element_goes s.after inner value vs ws _ _ r next runs more);
      nests = (element_nests (attribute_values all) vs value ws next c.loop-value.invariant.nests).1;
    }

pub write_attribute_list-returns : goal.write_attribute_list-returns
write_attribute_list-returns g t c =
    let s = g.S.ShapeSerializer in
    let site = site_of c.args.schema.now in
    let first = s.state c.args.sink.now in
    let over = drop_all c.loop-value.value-index c.args.values.now c.loop-value-test.false in
    let told = c.end_list.ensures in
    record {
      writes = record {
        runs = (rw over at c.loop-value.invariant.rest) _ (called s.after end_list _ _ _ c.end_list.result c.loop-value.invariant.sound told.failed told.ok told.refused);
        sound = not_had c.end_list.result _ told.broken;
        broken = has_broken c.end_list.result _ told.broken;
      };
    }
