-- What the variants of an attribute's value stand for.
use Rattle.std.proofs.Common.{◌≡◌, Bool, List, ℕ, String, Vec, Global, sym, ◌∙◌, ap, string_bytes}
use Rattle.std.specs.BTreeMap.{BTreeMap}
use Rattle.smithy_declarations.specs.Value.{Value, boolean, text, bytes, scalar_value, list, map, union, values_of}
use Rattle.dynamodb_client.specs.Attributes.{map_entries_of, attribute_step, attribute_value, attribute_values, attribute_entries}
use Rattle.dynamodb_client.specs.declared.attribute_value.AttributeValue as kept
use Rattle.dynamodb_client.specs.declared.attribute_value.AttributeValue.TheOpen.{AttributeValue-F}
use Rattle.dynamodb_client.specs.declared.attribute_value.AttributeValue.TheFolds.{fold-roll-AttributeValue, fold_out-AttributeValue}
use Rattle.dynamodb_client.specs.declared.attribute_value.AttributeValue.TheViews as views
use Rattle.dynamodb_client.specs.declared.attribute_value.AttributeValue.TheVariants as variants

pub view-S : (s : String Global) → attribute_value (variants.S s) ≡ union 0 (scalar_value (text (string_bytes s)))
view-S s = ap attribute_value (sym (variants.rolls-S s)) ∙ fold-roll-AttributeValue Value attribute_step (AttributeValue-F.S s)

pub view-N : (s : String Global) → attribute_value (variants.N s) ≡ union 1 (scalar_value (text (string_bytes s)))
view-N s = ap attribute_value (sym (variants.rolls-N s)) ∙ fold-roll-AttributeValue Value attribute_step (AttributeValue-F.N s)

pub view-B : (b : List ℕ) → attribute_value (variants.B b) ≡ union 2 (scalar_value (bytes b))
view-B b = ap attribute_value (sym (variants.rolls-B b)) ∙ fold-roll-AttributeValue Value attribute_step (AttributeValue-F.B b)

pub view-Bool : (b : Bool) → attribute_value (variants.Bool b) ≡ union 3 (scalar_value (boolean b))
view-Bool b = ap attribute_value (sym (variants.rolls-Bool b)) ∙ fold-roll-AttributeValue Value attribute_step (AttributeValue-F.Bool b)

pub view-Null : (b : Bool) → attribute_value (variants.Null b) ≡ union 4 (scalar_value (boolean b))
view-Null b = ap attribute_value (sym (variants.rolls-Null b)) ∙ fold-roll-AttributeValue Value attribute_step (AttributeValue-F.Null b)

pub view-M : (m : BTreeMap (String Global) kept.AttributeValue) → attribute_value (views.M m) ≡ union 5 (map (attribute_entries m.entries))
view-M m = ap attribute_value (sym (views.rolls-M m)) ∙ fold-roll-AttributeValue Value attribute_step (AttributeValue-F.M m)

pub view-L : (v : Vec kept.AttributeValue Global) → attribute_value (views.L v) ≡ union 6 (list (values_of (attribute_values v.items)))
view-L v = ap attribute_value (sym (views.rolls-L v)) ∙ fold-roll-AttributeValue Value attribute_step (AttributeValue-F.L v)

-- each is a union of one member
step_union : (z : Value) (y : AttributeValue-F Value) → z ≡ attribute_step y → (n : ℕ) × (v : Value) × (z ≡ union n v)
step_union z (AttributeValue-F.S s) is = (0, scalar_value (text (string_bytes s)), is)
step_union z (AttributeValue-F.N s) is = (1, scalar_value (text (string_bytes s)), is)
step_union z (AttributeValue-F.B b) is = (2, scalar_value (bytes b), is)
step_union z (AttributeValue-F.Bool b) is = (3, scalar_value (boolean b), is)
step_union z (AttributeValue-F.Null b) is = (4, scalar_value (boolean b), is)
step_union z (AttributeValue-F.M m) is = (5, map (map_entries_of m.entries), is)
step_union z (AttributeValue-F.L v) is = (6, list (values_of v.items), is)

pub is_union : (x : kept.AttributeValue) → (n : ℕ) × (v : Value) × (attribute_value x ≡ union n v)
is_union x = step_union (attribute_value x) _ (fold_out-AttributeValue Value attribute_step x)
