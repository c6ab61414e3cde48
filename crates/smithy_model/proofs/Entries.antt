-- The parts of a value are those of the JSON that it stands for.
use Rattle.std.proofs.Common.{◌≡◌, ◌∙◌, ℕ, List, [], ◌∷◌, Bor, Global, Vec, map, Some, refl, sym, ap}
use Rattle.json.specs.declared.value.Value.{Value}
use Rattle.json.specs.declared.value.Value.TheOpen.{Value-F}
use Rattle.json.specs.declared.value.Value.TheFolds.{fold-roll-Value}
use Rattle.json.specs.declared.value.Value.TheViews as views
use Rattle.json.specs.Json.{Json, array, object}
use Rattle.json.specs.Value.{value_view, view_step, items_view, members_view}
use Rattle.smithy_model.specs.Objects as objects
use Rattle.smithy_model.specs.Views.{entry_view}

view-Object : (v : Vec (Bor (List ℕ) × Value Global) Global) → value_view (views.Object v) ≡ object (members_view v.items)
view-Object v = ap value_view (sym (views.rolls-Object v)) ∙ fold-roll-Value Global Json view_step (Value-F.Object v)

view-Array : (v : Vec (Value Global) Global) → value_view (views.Array v) ≡ array (items_view v.items)
view-Array v = ap value_view (sym (views.rolls-Array v)) ∙ fold-roll-Value Global Json view_step (Value-F.Array v)

members_kept : (ms : List (Bor (List ℕ) × Value Global)) → map entry_view ms ≡ objects.entries_of (members_view ms)
members_kept [] = refl
members_kept (m ∷ ms) = ap (λ rest. (m.0.now, value_view m.1) ∷ rest) (members_kept ms)

items_kept : (vs : List (Value Global)) → map value_view vs ≡ objects.items_of (items_view vs)
items_kept [] = refl
items_kept (v ∷ vs) = ap (λ rest. value_view v ∷ rest) (items_kept vs)

pub entries_kept : (v : Vec (Bor (List ℕ) × Value Global) Global) → Some (map entry_view v.items) ≡ objects.entries (value_view (views.Object v))
entries_kept v = rw (view-Object v) (ap Some (members_kept v.items))

pub all_items_kept : (v : Vec (Value Global) Global) → Some (map value_view v.items) ≡ objects.items (value_view (views.Array v))
all_items_kept v = rw (view-Array v) (ap Some (items_kept v.items))
