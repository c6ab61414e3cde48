-- What the variants of a value of the program stand for.
use Rattle.std.proofs.Common.{◌≡◌, ℕ, ℤ, Bool, Global, String, Vec, sym, ◌∙◌, ap}
use Rattle.std.specs.BTreeMap.{BTreeMap}
use Rattle.std.specs.Cow.{cow_str_bytes, cow_slice_items}
use Rattle.std.specs.declared.borrow.CowSlice.{CowSlice}
use Rattle.std.specs.declared.borrow.CowStr.{CowStr}
use Rattle.std.specs.declared.boxed.Box.{Box}
use Rattle.smithy_declarations.specs.Value.{Value, boolean, text, bytes, decimal, instant, scalar_value, list, map, structure, union, values_of}
use Rattle.smithy_value.specs.declared.value.Value as kept
use Rattle.smithy_value.specs.declared.value.Value.TheOpen.{Value-F}
use Rattle.smithy_value.specs.declared.value.Value.TheFolds.{fold-roll-Value}
use Rattle.smithy_value.specs.declared.value.Value.TheViews as views
use Rattle.smithy_value.specs.declared.value.Value.TheVariants as variants
use Rattle.smithy_value.specs.View.{view, view_step, view_elements, view_entries, view_members}

pub view_boolean : (b : Bool) → view (variants.Boolean b) ≡ scalar_value (boolean b)
view_boolean b = ap view (sym (variants.rolls-Boolean b)) ∙ fold-roll-Value Value view_step (Value-F.Boolean b)

pub view_text : (s : CowStr Global) → view (variants.Text s) ≡ scalar_value (text (cow_str_bytes s))
view_text s = ap view (sym (variants.rolls-Text s)) ∙ fold-roll-Value Value view_step (Value-F.Text s)

pub view_bytes : (b : CowSlice ℕ Global) → view (variants.Bytes b) ≡ scalar_value (bytes (cow_slice_items b))
view_bytes b = ap view (sym (variants.rolls-Bytes b)) ∙ fold-roll-Value Value view_step (Value-F.Bytes b)

pub view_decimal : (m e : ℤ) → view (variants.Decimal m e) ≡ scalar_value (decimal m e)
view_decimal m e = ap view (sym (variants.rolls-Decimal m e)) ∙ fold-roll-Value Value view_step (Value-F.Decimal m e)

pub view_instant : (n : ℤ) → view (variants.Instant n) ≡ scalar_value (instant n)
view_instant n = ap view (sym (variants.rolls-Instant n)) ∙ fold-roll-Value Value view_step (Value-F.Instant n)

pub view_list : (v : Vec kept.Value Global) → view (views.List v) ≡ list (values_of (view_elements v.items))
view_list v = ap view (sym (views.rolls-List v)) ∙ fold-roll-Value Value view_step (Value-F.List v)

pub view_map : (m : BTreeMap (String Global) kept.Value) → view (views.Map m) ≡ map (view_entries m.entries)
view_map m = ap view (sym (views.rolls-Map m)) ∙ fold-roll-Value Value view_step (Value-F.Map m)

pub view_structure : (m : BTreeMap ℕ kept.Value) → view (views.Structure m) ≡ structure (view_members m.entries)
view_structure m = ap view (sym (views.rolls-Structure m)) ∙ fold-roll-Value Value view_step (Value-F.Structure m)

pub view_union : (n : ℕ) (b : Box kept.Value Global) → view (variants.Union n b) ≡ union n (view b.value)
view_union n b = ap view (sym (variants.rolls-Union n b)) ∙ fold-roll-Value Value view_step (Value-F.Union n b)
