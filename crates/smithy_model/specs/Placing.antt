-- The places of members by their names, which are kept so that no member is compared with each before it.
use Rattle.std.specs.Prelude.{◌≡◌, ◌+◌, ℕ, List, [], ◌∷◌, Option, Some, None, option_map, if◌then◌else◌, bytes_eq}
use Rattle.std.specs.Borrow.{Bor}
use Rattle.std.specs.BTreeMap.{BTreeMap, get_by}
use Rattle.std.specs.Cmp.Lexicographic.{slice_cmp}
use Rattle.std.specs.Ordering.{nat_cmp}
use Rattle.smithy_model.specs.Model.{Member}

-- the place of the first of these members that has this name
abbrev pub position_of : List ℕ → List Member → Option ℕ
position_of name [] = None
position_of name (m ∷ members) =
    if bytes_eq m.name name then Some 0 else option_map (λ place. place + 1) (position_of name members)

-- the place that is kept under a name
abbrev pub place_in : BTreeMap (Bor (List ℕ)) ℕ → List ℕ → Option ℕ
place_in places name = get_by (λ (k : Bor (List ℕ)). slice_cmp nat_cmp name k.now) places

-- under each name the place of the first of these members that has it is kept
abbrev pub ArePlaces : List Member → BTreeMap (Bor (List ℕ)) ℕ → Type 0
ArePlaces members places = (name : List ℕ) → place_in places name ≡ position_of name members
