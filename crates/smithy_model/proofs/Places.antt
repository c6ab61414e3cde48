-- The places of members by their names.
use Rattle.std.proofs.Common.{◌≡◌, ◌<◌, ◌+◌, ◌∙◌, ℕ, suc, List, [], ◌∷◌, ◌++◌, Bor, length, map, take, get_or, bytes_eq, Option, Some, None, option_map, if◌then◌else◌, refl, sym, ap, subst, arith}
use Rattle.std.specs.Prelude.{Bool, true, false, cond, ◌||◌}
use Rattle.std.specs.List.{list_any}
use Rattle.std.specs.BTreeMap.{BTreeMap, UpdatesBy}
use Rattle.std.specs.Cmp.Lexicographic.{slice_cmp}
use Rattle.std.specs.Ordering.{nat_cmp}
use Rattle.std.proofs.lemmas.Option.{none-some}
use Rattle.std.proofs.lemmas.Map.Text.{btree_map_updates_str}
use Rattle.std.proofs.lemmas.Slice.Eq.{bytes_eq-Decides}
use Rattle.smithy_model.specs.Model.{Member}
use Rattle.smithy_model.specs.Mixins.{redefined, with_member}
use Rattle.smithy_model.specs.Placing.{position_of, place_in, ArePlaces}
use Rattle.smithy_model.proofs.Put.{has_name}

some_is : (x y : ℕ) → Some x ≡ Some y → x ≡ y
some_is x y is = cc (is)

-- where the place is that of one behind the first
behind : (o : Option ℕ) (n : ℕ) → option_map (λ place. place + 1) o ≡ Some n → (k : ℕ) × (o ≡ Some k) × (n ≡ suc k)
behind None n is = absurd (none-some n is)
behind (Some k) n is = (k, refl, omega (arith, some_is (k + 1) n is))

-- what stands at the place of a name
pub record Stands {W : Type 0} (v : W → Member) (ws : List W) (name : List ℕ) (i : ℕ) : Type 0 where
  pub within : i < length ws
  pub none : list_any (has_name name) (map v (take i ws)) ≡ false
  pub named : (d : W) → bytes_eq (v (get_or ws i d)).name name ≡ true

or_none : (a b : Bool) → a ≡ false → b ≡ false → (a || b) ≡ false
or_none true b is also = cc (is)
or_none false b is also = also

stands_by : {W : Type 0} (v : W → Member) (w : W) (ws : List W) (name : List ℕ) (i : ℕ) (b : Bool) → bytes_eq (v w).name name ≡ b
    → ((k : ℕ) → position_of name (map v ws) ≡ Some k → Stands v ws name k)
    → (if b then Some 0 else option_map (λ place. place + 1) (position_of name (map v ws))) ≡ Some i → Stands v (w ∷ ws) name i
stands_by v w ws name i true same rest is = subst (Stands v (w ∷ ws) name) (some_is 0 i is) (record { within = omega arith; none = refl; named = λ d. same })
stands_by v w ws name i false other rest is =
    let one = behind (position_of name (map v ws)) i is in
    let further = rest one.0 one.1 in
    subst (Stands v (w ∷ ws) name) (sym one.2) (record {
      within = omega (arith, further.within);
      none = or_none (has_name name (v w)) (list_any (has_name name) (map v (take one.0 ws))) other further.none;
      named = further.named;
    })

pub stands_at : {W : Type 0} (v : W → Member) (ws : List W) (name : List ℕ) (i : ℕ) → position_of name (map v ws) ≡ Some i → Stands v ws name i
stands_at v [] name i is = absurd (none-some i is)
stands_at v (w ∷ ws) name i is = stands_by v w ws name i (bytes_eq (v w).name name) refl (λ k at. stands_at v ws name k at) is

none_behind : (o : Option ℕ) → option_map (λ place. place + 1) o ≡ None → o ≡ None
none_behind None is = refl
none_behind (Some k) is = cc (is)

none_by : (m : Member) (ms : List Member) (name : List ℕ) (b : Bool) → bytes_eq m.name name ≡ b → (position_of name ms ≡ None → list_any (has_name name) ms ≡ false)
    → (if b then Some 0 else option_map (λ place. place + 1) (position_of name ms)) ≡ None → list_any (has_name name) (m ∷ ms) ≡ false
none_by m ms name true same rest is = cc (is)
none_by m ms name false other rest is = or_none (has_name name m) (list_any (has_name name) ms) other (rest (none_behind (position_of name ms) is))

-- no member has a name that has no place
pub none_at : (ms : List Member) (name : List ℕ) → position_of name ms ≡ None → list_any (has_name name) ms ≡ false
none_at [] name is = refl
none_at (m ∷ ms) name is = none_by m ms name (bytes_eq m.name name) refl (none_at ms name) is

again_by : (m : Member) (ms : List Member) (given : Member) (other : List ℕ) (i : ℕ) (b : Bool) → bytes_eq m.name given.name ≡ b
    → ((k : ℕ) → position_of given.name ms ≡ Some k → position_of other (with_member ms given) ≡ position_of other ms)
    → (if b then Some 0 else option_map (λ place. place + 1) (position_of given.name ms)) ≡ Some i
    → position_of other (if b then redefined m given ∷ ms else m ∷ with_member ms given) ≡ position_of other (m ∷ ms)
again_by m ms given other i true same rest is =
    ap (λ name. if bytes_eq name other then Some 0 else option_map (λ place. place + 1) (position_of other ms)) (sym ((bytes_eq-Decides m.name given.name).0 same))
again_by m ms given other i false differs rest is =
    let one = behind (position_of given.name ms) i is in
    ap (λ o. if bytes_eq m.name other then Some 0 else option_map (λ place. place + 1) o) (rest one.0 one.1)

-- a member that is defined again leaves each name at its place
position_again : (ms : List Member) (given : Member) (other : List ℕ) (i : ℕ) → position_of given.name ms ≡ Some i
    → position_of other (with_member ms given) ≡ position_of other ms
position_again [] given other i is = absurd (none-some i is)
position_again (m ∷ ms) given other i is = again_by m ms given other i (bytes_eq m.name given.name) refl (λ k at. position_again ms given other k at) is

pub places_again : (ms : List Member) (given : Member) (i : ℕ) (places : BTreeMap (Bor (List ℕ)) ℕ) → ArePlaces ms places → place_in places given.name ≡ Some i
    → ArePlaces (with_member ms given) places
places_again ms given i places are at = λ other. are other ∙ sym (position_again ms given other i (sym (are given.name) ∙ at))

moved : (b : Bool) (n : ℕ) (o : Option ℕ) → option_map (λ place. place + 1) (cond b (Some n) o) ≡ cond b (Some (n + 1)) (option_map (λ place. place + 1) o)
moved true n o = refl
moved false n o = refl

first_stays : (m given : Member) (other : List ℕ) (n : ℕ) (b : Bool) → bytes_eq given.name other ≡ b → bytes_eq m.name given.name ≡ false → bytes_eq m.name other ≡ true
    → Some 0 ≡ cond b (Some n) (Some 0)
first_stays m given other n false is differs same = refl
first_stays m given other n true is differs same =
    cc ((bytes_eq-Decides m.name given.name).1 ((bytes_eq-Decides m.name other).0 same ∙ sym ((bytes_eq-Decides given.name other).0 is)), differs)

new_at : (m : Member) (ms : List Member) (given : Member) (other : List ℕ) (b : Bool) → bytes_eq m.name other ≡ b → bytes_eq m.name given.name ≡ false
    → position_of other (ms ++ given ∷ []) ≡ cond (bytes_eq given.name other) (Some (length ms)) (position_of other ms)
    → (if b then Some 0 else option_map (λ place. place + 1) (position_of other (ms ++ given ∷ [])))
    ≡ cond (bytes_eq given.name other) (Some (length (m ∷ ms))) (if b then Some 0 else option_map (λ place. place + 1) (position_of other ms))
new_at m ms given other true same differs rest = first_stays m given other (length (m ∷ ms)) (bytes_eq given.name other) refl differs same
new_at m ms given other false past differs rest =
    ap (option_map (λ place. place + 1)) rest ∙ moved (bytes_eq given.name other) (length ms) (position_of other ms)
    ∙ ap (λ n. cond (bytes_eq given.name other) (Some n) (option_map (λ place. place + 1) (position_of other ms))) (omega arith)

new_by : (m : Member) (ms : List Member) (given : Member) (other : List ℕ) (b : Bool) → bytes_eq m.name given.name ≡ b
    → (position_of given.name ms ≡ None → position_of other (ms ++ given ∷ []) ≡ cond (bytes_eq given.name other) (Some (length ms)) (position_of other ms))
    → (if b then Some 0 else option_map (λ place. place + 1) (position_of given.name ms)) ≡ None
    → position_of other (m ∷ (ms ++ given ∷ [])) ≡ cond (bytes_eq given.name other) (Some (length (m ∷ ms))) (position_of other (m ∷ ms))
new_by m ms given other true same rest is = cc (is)
new_by m ms given other false differs rest is =
    new_at m ms given other (bytes_eq m.name other) refl differs (rest (none_behind (position_of given.name ms) is))

-- one more member of a new name
position_new : (ms : List Member) (given : Member) (other : List ℕ) → position_of given.name ms ≡ None
    → position_of other (ms ++ given ∷ []) ≡ cond (bytes_eq given.name other) (Some (length ms)) (position_of other ms)
position_new [] given other none = refl
position_new (m ∷ ms) given other none = new_by m ms given other (bytes_eq m.name given.name) refl (position_new ms given other) none

pub places_more : (ms : List Member) (given : Member) (n : ℕ) (places now : BTreeMap (Bor (List ℕ)) ℕ) → ArePlaces ms places → place_in places given.name ≡ None → n ≡ length ms
    → UpdatesBy (λ (x y : Bor (List ℕ)). slice_cmp nat_cmp x.now y.now) (λ (k : Bor (List ℕ)). slice_cmp nat_cmp given.name k.now) places now (Some n)
    → ArePlaces (ms ++ given ∷ []) now
places_more ms given n places now are none long updates = λ other.
    btree_map_updates_str given.name places now (Some n) updates other
    ∙ ap (cond (bytes_eq given.name other) (Some n)) (are other)
    ∙ ap (λ k. cond (bytes_eq given.name other) (Some k) (position_of other ms)) long
    ∙ sym (position_new ms given other (sym (are given.name) ∙ none))
