-- What nodes stand for stays as the pool grows.
use Rattle.std.proofs.Common.{◌≡◌, ◌∙◌, refl, ap, sym, ℕ, ◌+◌, ◌-◌, ◌<◌, ◌≤◌, List, [], ◌∷◌, ◌++◌, length, take, drop, get_or, append_assoc, length-append, length-drop, arith, suc, zero}
use Rattle.std.proofs.lemmas.List.{take-append-le, drop-append-le, append-nil, get_or_at, drop_at, take_all}
use Rattle.smithy_declarations.specs.Value.{Value, list, map, structure}
use Rattle.smithy_tree.specs.Items.{Item, nothing, elements_of, entries_of, members_of}
use Rattle.smithy_tree.specs.Nodes.{Store, bytes_in, slot_key, node_value, union_of, values_over, values_after, item, IsNode, IsSlot, AreNodes, AreBehind}
use Rattle.smithy_tree.specs.declared.node.Node.{Node}
use Rattle.smithy_tree.specs.declared.node.Slot.{Slot}
use Rattle.smithy_tree.specs.declared.node.Node.TheVariants as nodes

pub no_elements : {A : Type 0} (xs : List A) → length xs ≡ 0 → xs ≡ []
no_elements [] h = refl
no_elements (x ∷ xs) h = absurd (omega (arith, h))

pub length_values_over : (s : Store) (vs : List Item) (xs : List Slot) → length (values_over s vs xs) ≡ length xs
length_values_over s vs [] = refl
length_values_over s vs (x ∷ xs) = ap (λ (k : ℕ). suc k) (length_values_over s vs xs)

pub length_values_after : (s : Store) (vs : List Item) (xs : List Slot) → length (values_after s vs xs) ≡ length vs + length xs
length_values_after s vs [] = omega arith
length_values_after s vs (x ∷ xs) =
    let e : length (values_after s (vs ++ item s vs x ∷ []) xs) ≡ length (vs ++ item s vs x ∷ []) + length xs = length_values_after s (vs ++ item s vs x ∷ []) xs in
    omega (arith, e, length-append vs (item s vs x ∷ []))

pub part_stays : {A : Type 0} (at count : ℕ) (vs ws : List A) → at + count ≤ length vs → take count (drop at (vs ++ ws)) ≡ take count (drop at vs)
part_stays at count vs ws h =
    let a : at ≤ length vs = omega arith in
    let b : count ≤ length (drop at vs) = omega (arith, length-drop at vs) in
    rw (drop-append-le at vs ws a) (take-append-le count (drop at vs) ws b)

pub get_stays : {A : Type 0} (at : ℕ) (vs ws : List A) (d : A) → at < length vs → get_or (vs ++ ws) at d ≡ get_or vs at d
get_stays at [] ws d h = absurd (omega (arith, h))
get_stays zero (v ∷ vs) ws d h = refl
get_stays (suc at) (v ∷ vs) ws d h =
    let l : at < length vs = omega (arith, h) in
    get_stays at vs ws d l

-- more nodes behind it leave what a node stands for
pub value_stays : (s : Store) (vs ws : List Item) (n : Node) → IsNode s (length vs) n → node_value s (vs ++ ws) n ≡ node_value s vs n
value_stays s vs ws (nodes.Boolean b) h = refl
value_stays s vs ws (nodes.Whole n) h = refl
value_stays s vs ws (nodes.Timestamp nanos secs) h = refl
value_stays s vs ws (nodes.Text at size) h = refl
value_stays s vs ws (nodes.Bytes at size) h = refl
value_stays s vs ws (nodes.List at count) h = ap (λ (xs : List Item). list (elements_of xs)) (part_stays at count vs ws h)
value_stays s vs ws (nodes.Numbers at count) h = refl
value_stays s vs ws (nodes.Map at count) h = ap (λ (xs : List Item). map (entries_of xs)) (part_stays at count vs ws h)
value_stays s vs ws (nodes.Structure at count) h = ap (λ (xs : List Item). structure (members_of xs)) (part_stays at count vs ws h)
value_stays s vs ws (nodes.Union at) h = ap union_of (get_stays at vs ws nothing h)
value_stays s vs ws nodes.Null h = refl
value_stays s vs ws (nodes.Rare k) h = refl

pub item_stays : (s : Store) (vs ws : List Item) (x : Slot) → IsSlot s (length vs) x → item s (vs ++ ws) x ≡ item s vs x
item_stays s vs ws x h = ap (λ (v : Value). record { position = x.first; key = slot_key (bytes_in s) x; shown = v }) (value_stays s vs ws x.node h.0)

pub values_over_stay : (s : Store) (vs ws : List Item) (xs : List Slot) → AreNodes s (length vs) xs → values_over s (vs ++ ws) xs ≡ values_over s vs xs
values_over_stay s vs ws [] h = refl
values_over_stay s vs ws (x ∷ xs) h =
    rw (item_stays s vs ws x h.0) (ap (λ (ps : List Item). item s vs x ∷ ps) (values_over_stay s vs ws xs h.1))

pub values_after-append : (s : Store) (vs : List Item) (xs ys : List Slot) → values_after s vs (xs ++ ys) ≡ values_after s (values_after s vs xs) ys
values_after-append s vs [] ys = refl
values_after-append s vs (x ∷ xs) ys = values_after-append s (vs ++ item s vs x ∷ []) xs ys

-- nodes that all stand over the same add the values that they have there
pub values_moved : (s : Store) (vs ws : List Item) (xs : List Slot) → AreNodes s (length vs) xs → values_after s (vs ++ ws) xs ≡ (vs ++ ws) ++ values_over s vs xs
values_moved s vs ws [] h = sym (append-nil (vs ++ ws))
values_moved s vs ws (x ∷ xs) h =
    rw (item_stays s vs ws x h.0, append_assoc vs ws (item s vs x ∷ []), values_moved s vs (ws ++ item s vs x ∷ []) xs h.1) (
    rw (← append_assoc vs ws (item s vs x ∷ [])) (append_assoc (vs ++ ws) (item s vs x ∷ []) (values_over s vs xs)))

pub values_over-append : (s : Store) (vs : List Item) (xs ys : List Slot) → values_over s vs (xs ++ ys) ≡ values_over s vs xs ++ values_over s vs ys
values_over-append s vs [] ys = refl
values_over-append s vs (x ∷ xs) ys = ap (λ (ps : List Item). item s vs x ∷ ps) (values_over-append s vs xs ys)

pub values_over-take : (s : Store) (vs : List Item) (k : ℕ) (xs : List Slot) → values_over s vs (take k xs) ≡ take k (values_over s vs xs)
values_over-take s vs zero xs = refl
values_over-take s vs (suc k) [] = refl
values_over-take s vs (suc k) (x ∷ xs) = ap (λ (ps : List Item). item s vs x ∷ ps) (values_over-take s vs k xs)

pub values_over-drop : (s : Store) (vs : List Item) (k : ℕ) (xs : List Slot) → values_over s vs (drop k xs) ≡ drop k (values_over s vs xs)
values_over-drop s vs zero xs = refl
values_over-drop s vs (suc k) [] = refl
values_over-drop s vs (suc k) (x ∷ xs) = values_over-drop s vs k xs

pub node_stays : (s : Store) (k m : ℕ) (n : Node) → k ≤ m → IsNode s k n → IsNode s m n
node_stays s k m (nodes.Boolean b) h is = is
node_stays s k m (nodes.Whole n) h is = is
node_stays s k m (nodes.Timestamp nanos secs) h is = is
node_stays s k m (nodes.Text at size) h is = is
node_stays s k m (nodes.Bytes at size) h is = is
node_stays s k m (nodes.List at count) h is = omega (arith, is)
node_stays s k m (nodes.Numbers at count) h is = is
node_stays s k m (nodes.Map at count) h is = omega (arith, is)
node_stays s k m (nodes.Structure at count) h is = omega (arith, is)
node_stays s k m (nodes.Union at) h is = omega (arith, is)
node_stays s k m nodes.Null h is = is
node_stays s k m (nodes.Rare n) h is = is

pub slot_stays : (s : Store) (k m : ℕ) (x : Slot) → k ≤ m → IsSlot s k x → IsSlot s m x
slot_stays s k m x h is = (node_stays s k m x.node h is.0, is.1)

pub nodes_stay : (s : Store) (k m : ℕ) (xs : List Slot) → k ≤ m → AreNodes s k xs → AreNodes s m xs
nodes_stay s k m [] h are = tt
nodes_stay s k m (x ∷ xs) h are = (slot_stays s k m x h are.0, nodes_stay s k m xs h are.1)

pub nodes-append : (s : Store) (k : ℕ) (xs ys : List Slot) → AreNodes s k xs → AreNodes s k ys → AreNodes s k (xs ++ ys)
nodes-append s k [] ys a b = b
nodes-append s k (x ∷ xs) ys a b = (a.0, nodes-append s k xs ys a.1 b)

pub nodes-take : (s : Store) (k c : ℕ) (xs : List Slot) → AreNodes s k xs → AreNodes s k (take c xs)
nodes-take s k zero xs are = tt
nodes-take s k (suc c) [] are = tt
nodes-take s k (suc c) (x ∷ xs) are = (are.0, nodes-take s k c xs are.1)

pub nodes-drop : (s : Store) (k c : ℕ) (xs : List Slot) → AreNodes s k xs → AreNodes s k (drop c xs)
nodes-drop s k zero xs are = are
nodes-drop s k (suc c) [] are = tt
nodes-drop s k (suc c) (x ∷ xs) are = nodes-drop s k c xs are.1

over_behind : (s : Store) (k m : ℕ) (xs : List Slot) → k ≤ m → AreNodes s k xs → AreBehind s m xs
over_behind s k m [] h are = tt
over_behind s k m (x ∷ xs) h are =
    let j : k ≤ m + 1 = omega arith in
    (slot_stays s k m x h are.0, over_behind s k (m + 1) xs j are.1)

pub behind-append : (s : Store) (k m : ℕ) (xs ys : List Slot) → m ≡ k + length xs → AreBehind s k xs → AreNodes s m ys → AreBehind s k (xs ++ ys)
behind-append s k m [] ys e a b =
    let h : m ≤ k = omega arith in
    over_behind s m k ys h b
behind-append s k m (x ∷ xs) ys e a b =
    let h : m ≡ k + 1 + length xs = omega arith in
    (a.0, behind-append s (k + 1) m xs ys h a.1 b)

-- a node stands behind its children
pub child_stands : (s : Store) (k at m : ℕ) (xs : List Slot) (d : Slot) → m ≡ k + at → at < length xs → AreBehind s k xs → IsSlot s m (get_or xs at d)
child_stands s k zero m (x ∷ xs) d e h are =
    let j : k ≤ m = omega arith in
    slot_stays s k m x j are.0
child_stands s k (suc at) m (x ∷ xs) d e h are =
    let j : m ≡ k + 1 + at = omega arith in
    let l : at < length xs = omega arith in
    child_stands s (k + 1) at m xs d j l are.1
child_stands s k at m [] d e h are = absurd (omega arith)

pub values_extend : (s : Store) (vs : List Item) (xs : List Slot) → (more : List Item) × (values_after s vs xs ≡ vs ++ more)
values_extend s vs [] = ([], sym (append-nil vs))
values_extend s vs (x ∷ xs) =
    let r = values_extend s (vs ++ item s vs x ∷ []) xs in
    (item s vs x ∷ r.0, r.1 ∙ append_assoc vs (item s vs x ∷ []) r.0)

-- what a node of the pool stands for is the value at its place
pub child_value : (s : Store) (vs : List Item) (k at : ℕ) (xs : List Slot) (d : Slot) (e : Item) → k ≡ length vs + at → at < length xs → AreBehind s (length vs) xs → item s (values_after s vs xs) (get_or xs at d) ≡ get_or (values_after s vs xs) k e
child_value s vs k zero (x ∷ xs) d e same h are =
    let v = item s vs x in
    let r = values_extend s (vs ++ v ∷ []) xs in
    let m : length vs ≡ k = omega arith in
    let at_place : get_or (vs ++ v ∷ r.0) k e ≡ v = get_or_at vs v r.0 e k m in
    rw (r.1, append_assoc vs (v ∷ []) r.0, at_place) (item_stays s vs (v ∷ r.0) x are.0)
child_value s vs k (suc at) (x ∷ xs) d e same h are =
    let l : length (vs ++ item s vs x ∷ []) ≡ length vs + 1 = length-append vs (item s vs x ∷ []) in
    let m : k ≡ length (vs ++ item s vs x ∷ []) + at = omega arith in
    let j : at < length xs = omega arith in
    child_value s (vs ++ item s vs x ∷ []) k at xs d e m j (rw l are.1)
child_value s vs k at [] d e same h are = absurd (omega arith)

-- nodes that stand each behind those before it all stand over all of them
pub all_stand : (s : Store) (k m : ℕ) (xs : List Slot) → k + length xs ≤ m → AreBehind s k xs → AreNodes s m xs
all_stand s k m [] h are = tt
all_stand s k m (x ∷ xs) h are =
    let j : k ≤ m = omega arith in
    let l : k + 1 + length xs ≤ m = omega arith in
    (slot_stays s k m x j are.0, all_stand s (k + 1) m xs l are.1)

-- what the nodes of the pool stand for are its values
all_values : (s : Store) (vs : List Item) (xs : List Slot) → AreBehind s (length vs) xs → vs ++ values_over s (values_after s vs xs) xs ≡ values_after s vs xs
all_values s vs [] are = append-nil vs
all_values s vs (x ∷ xs) are =
    let v = item s vs x in
    let r = values_extend s (vs ++ v ∷ []) xs in
    let all = values_after s vs (x ∷ xs) in
    let l : length (vs ++ v ∷ []) ≡ length vs + 1 = length-append vs (v ∷ []) in
    let again : item s all x ≡ v = rw (r.1, append_assoc vs (v ∷ []) r.0) (item_stays s vs (v ∷ r.0) x are.0) in
    ap (λ (w : Item). vs ++ w ∷ values_over s all xs) again
    ∙ (sym (append_assoc vs (v ∷ []) (values_over s all xs)) ∙ all_values s (vs ++ v ∷ []) xs (rw l are.1))

pub children_stand : (s : Store) (at count : ℕ) (xs : List Slot) → AreBehind s 0 xs → AreNodes s (length xs) (take count (drop at xs))
children_stand s at count xs are =
    let all = all_stand s 0 (length xs) xs (omega arith) are in
    nodes-take s (length xs) count (drop at xs) (nodes-drop s (length xs) at xs all)

pub children_show : (s : Store) (at count : ℕ) (xs : List Slot) → AreBehind s 0 xs → values_over s (values_after s [] xs) (take count (drop at xs)) ≡ take count (drop at (values_after s [] xs))
children_show s at count xs are =
    let vs = values_after s [] xs in
    values_over-take s vs count (drop at xs)
    ∙ ap (λ (ws : List Item). take count ws) (values_over-drop s vs at xs ∙ ap (λ (ws : List Item). drop at ws) (all_values s [] xs are))

-- the children that move behind the others
pub values_added : (s : Store) (xs ms : List Slot) → AreNodes s (length xs) ms → values_after s [] (xs ++ ms) ≡ values_after s [] xs ++ values_over s (values_after s [] xs) ms
values_added s xs ms are =
    let vs = values_after s [] xs in
    let l : length xs ≡ length vs = omega (arith, length_values_after s [] xs) in
    let t : AreNodes s (length vs) ms = rw (← l) are in
    let m : values_after s (vs ++ []) ms ≡ (vs ++ []) ++ values_over s vs ms = values_moved s vs [] ms t in
    values_after-append s [] xs ms ∙ (rw (append-nil vs) at m)

pub waiting_left : (s : Store) (xs ms ws : List Slot) (b : ℕ) → AreNodes s (length xs) ms → AreNodes s (length xs) ws → values_over s (values_after s [] (xs ++ ms)) (take b ws) ≡ take b (values_over s (values_after s [] xs) ws)
waiting_left s xs ms ws b are w =
    let vs = values_after s [] xs in
    let l : length xs ≡ length vs = omega (arith, length_values_after s [] xs) in
    let t : AreNodes s (length vs) (take b ws) = rw (← l) (nodes-take s (length xs) b ws w) in
    rw (values_added s xs ms are) (values_over_stay s vs (values_over s vs ms) (take b ws) t ∙ values_over-take s vs b ws)

pub moved_shows : (s : Store) (xs ws : List Slot) (b start count : ℕ) → start ≡ length xs → count ≡ length ws - b → AreNodes s (length xs) ws → take count (drop start (values_after s [] (xs ++ drop b ws))) ≡ drop b (values_over s (values_after s [] xs) ws)
moved_shows s xs ws b start count is c w =
    let vs = values_after s [] xs in
    let ms = values_over s vs (drop b ws) in
    let l : length vs ≡ start = omega (arith, length_values_after s [] xs) in
    let k : length ms ≤ count = omega (arith, length_values_over s vs (drop b ws), length-drop b ws) in
    rw (values_added s xs (drop b ws) (nodes-drop s (length xs) b ws w), drop_at vs ms start l, take_all count ms k) (values_over-drop s vs b ws)
