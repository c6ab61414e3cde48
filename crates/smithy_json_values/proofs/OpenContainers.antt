-- What is left of a value on the way through it: the open containers end one after another.
use Rattle.std.proofs.Common.{◌≢◌, ◌-◌, ◌<◌, get_or, set, get_or-set_same, get_or-set_other, ◌≡◌, ◌+◌, ◌≤◌, ◌&&◌, ℕ, zero, suc, max, List, [], ◌∷◌, Bool, true, false, Option, Some, None, length, sym, ap, ◌∙◌, arith, refl, subst}
use Rattle.std.specs.Option.{option_map_or}
use Rattle.std.proofs.lemmas.Bool.{and_parts}
use Rattle.smithy_schema.specs.Reading.{Mark}
use Rattle.smithy_json_values.specs.Scalar.{JsonScalar, a_string}
use Rattle.smithy_json_values.specs.LexicalGrammar.{LexicalGrammar, is_skipped_in, frames_of, NodeLies}
use Rattle.smithy_json_values.specs.Spans.{Lies, IsByte, fresh_mark, entry_mark}
use Rattle.smithy_json_values.specs.Private.NextInContainer.{ClosesIn}
use Rattle.smithy_json_values.specs.Private.Skipping.{SkipsTo, ScalarLies, NoValueLies, form_of, opening, closing, ValueBegins}
use Rattle.smithy_json_values.specs.Private.Wire.{tokens_are_wire}
use Rattle.smithy_wire.specs.Node.{Form, Node, null_node, leaf, container, missing, Nodes, no_nodes, node, nesting, nodes_nesting, all_pass, nodes_pass}
use Rattle.smithy_wire.specs.Frames.{Lies as LiesAsNode, NodesLie}
use Rattle.smithy_wire.specs.Wire.{IsWire, a_container}
use Rattle.smithy_wire.specs.Lemmas.Nodes.{sort_of, lies_sort, one_node}

-- ---- nodes by their tokens

pub grammar_is_wire : (g : LexicalGrammar) → IsWire (frames_of g)
grammar_is_wire g = tokens_are_wire g.is_strict

-- the mark inside of a container, behind an entry or not
abbrev pub inside_mark : Bool → Mark
inside_mark entered = record { entered = entered; at_end = false; due = None }

-- what is no container lies inside any number of them
pub flat_lies : (g : LexicalGrammar) (test : JsonScalar → Bool) (i : List ℕ) (d n : ℕ) (x : Node JsonScalar) (a e : ℕ) → nesting x ≡ 0
    → NodeLies g test d x i a e → NodeLies g test n x i a e
flat_lies g test i d n null_node a e flat h = h
flat_lies g test i d n (leaf x) a e flat h = h
flat_lies g test i d n (container f xs) a e flat h = absurd (omega (arith, flat))
flat_lies g test i d n missing a e flat h = h

-- with an entry the value of the entry begins
module _ (g : LexicalGrammar) (test : JsonScalar → Bool) (i : List ℕ) (b : ℕ) (entered : Bool) (c : ℕ) where
  pub begins_entry : (k : Bool) → ValueBegins test i b k entered c
      → (key : Option JsonScalar) × (frames_of g).entry (form_of k) i b (inside_mark entered) key c entry_mark × (option_map_or test key true ≡ true)
  begins_entry true (raw, tokens, passes) = (Some (a_string raw), (raw, refl, refl, tokens), passes)
  begins_entry false begins = (None, (refl, refl, begins.0, begins.1), refl)

  pub entry_begins : (k : Bool) (key : Option JsonScalar) (n : Mark) → (frames_of g).entry (form_of k) i b (inside_mark entered) key c n
      → option_map_or test key true ≡ true → ValueBegins test i b k entered c
  entry_begins true key n (raw, is, mark, tokens) passes = (raw, tokens, rw is at passes)
  entry_begins false key n (none, mark, separated, real) passes = (separated, real)

-- the parts of a node that passes
pub node_parts : (test : JsonScalar → Bool) (key : Option JsonScalar) (x : Node JsonScalar) (xs : Nodes JsonScalar) → nodes_pass test (node key x xs) ≡ true
    → (option_map_or test key true ≡ true) × (all_pass test x ≡ true) × (nodes_pass test xs ≡ true)
node_parts test key x xs h =
    let parts = and_parts (option_map_or test key true && all_pass test x) (nodes_pass test xs) h in
    let own = and_parts (option_map_or test key true) (all_pass test x) parts.0 in
    (own.0, own.1, parts.1)

pub parts_node : (test : JsonScalar → Bool) (key : Option JsonScalar) (x : Node JsonScalar) (xs : Nodes JsonScalar) → option_map_or test key true ≡ true
    → all_pass test x ≡ true → nodes_pass test xs ≡ true → nodes_pass test (node key x xs) ≡ true
parts_node test key x xs h j k = rw (h, j, k) refl

-- with its bracket a container lies
module _ (g : LexicalGrammar) (i : List ℕ) (d : ℕ) (k : Bool) (a b : ℕ) (o : Lies (IsByte (opening k)) i a b) where
  -- and no other node
  pub bracket_only : (x : Node JsonScalar) (e : ℕ) → LiesAsNode (frames_of g) i d x a e
      → (xs : Nodes JsonScalar) × (x ≡ container (form_of k) xs) × NodesLie (frames_of g) (form_of k) i (suc d) xs b fresh_mark e × (frames_of g).follows i (suc d) e
  bracket_only x e lies = go x lies (sym (lies_sort (frames_of g) (grammar_is_wire g) i d x a e lies) ∙ (grammar_is_wire g).opens_sort (form_of k) i a b fresh_mark (refl, o))
    where
      one_form : (f h : Form) → a_container f ≡ a_container h → f ≡ h
      one_form f h is = cc

      go : (x : Node JsonScalar) → LiesAsNode (frames_of g) i d x a e → sort_of x ≡ a_container (form_of k)
          → (xs : Nodes JsonScalar) × (x ≡ container (form_of k) xs) × NodesLie (frames_of g) (form_of k) i (suc d) xs b fresh_mark e × (frames_of g).follows i (suc d) e
      go null_node lies is = cc
      go (leaf x) lies is = cc
      go missing lies is = cc
      go (container f xs) (c, m, opens, lie, follows) is =
          let form = one_form f (form_of k) is in
          let same = (grammar_is_wire g).same_opens (form_of k) i a c b m fresh_mark (subst (λ h. (frames_of g).opens h i a c m) form opens) (refl, o) in
          let there = subst (λ h. NodesLie (frames_of g) h i (suc d) xs c m e) form lie in
          let from = subst (λ y. NodesLie (frames_of g) (form_of k) i (suc d) xs y m e) same.0 there in
          (xs, ap (λ h. container h xs) form, subst (λ n. NodesLie (frames_of g) (form_of k) i (suc d) xs b n e) same.1 from, follows)

-- ---- what is left

-- how many containers are open, at least d; the innermost stands first, and objects are true
abbrev pub level : ℕ → List Bool → ℕ
level d [] = d
level d (k ∷ ks) = suc (level d ks)

-- from b on the inside of an object or an array ends at e, and it goes no deeper than the greatest depth
pub record InsideLies (g : LexicalGrammar) (greatest depth : ℕ) (k entered : Bool) (i : List ℕ) (b e : ℕ) : Type 0 where
  pub nodes : Nodes JsonScalar
  pub lie : NodesLie (frames_of g) (form_of k) i depth nodes b (inside_mark entered) e
  pub passes : nodes_pass (is_skipped_in g) nodes ≡ true
  pub shallow : depth + nodes_nesting nodes ≤ greatest
  pub follows : (frames_of g).follows i depth e

-- from b on the open containers end one after another, the last at e
abbrev pub Ends : LexicalGrammar → ℕ → ℕ → List Bool → Bool → List ℕ → ℕ → ℕ → Type 0
Ends g greatest d [] entered i b e = b ≡ e
Ends g greatest d (k ∷ ks) entered i b e = (f : ℕ) × InsideLies g greatest (suc (level d ks)) k entered i b f × Ends g greatest d ks true i f e

-- the same where a value is due first
abbrev pub EndsBehind : LexicalGrammar → ℕ → ℕ → List Bool → List ℕ → ℕ → ℕ → Type 0
EndsBehind g greatest d ks i c e = (f : ℕ) × SkipsTo g greatest (level d ks) i c f × Ends g greatest d ks true i f e

-- ---- a value is due

module _ (g : LexicalGrammar) (greatest d : ℕ) (ks : List Bool) (i : List ℕ) (c e : ℕ) where
  -- it is a scalar
  pub scalar_ends : (f : ℕ) → ScalarLies g (is_skipped_in g) i c f → level d ks ≤ greatest → Ends g greatest d ks true i f e → EndsBehind g greatest d ks i c e
  scalar_ends f scalar shallow ends = (
    f,
    record {
      node = scalar.node;
      lies = flat_lies g (is_skipped_in g) i 1 (level d ks) scalar.node c f scalar.flat scalar.lies;
      shallow = omega (arith, scalar.flat);
    },
    ends,
  )

  pub ends_scalar : (f : ℕ) → ScalarLies g (is_skipped_in g) i c f → EndsBehind g greatest d ks i c e → Ends g greatest d ks true i f e
  ends_scalar f scalar ends =
      let here = flat_lies g (is_skipped_in g) i 1 (level d ks) scalar.node c f scalar.flat scalar.lies in
      let same = (one_node (frames_of g) (grammar_is_wire g) i (level d ks) ends.1.node scalar.node c ends.0 f ends.1.lies.0 here.0).1 in
      subst (λ x. Ends g greatest d ks true i x e) same ends.2

  -- it is none
  pub no_value : NoValueLies g (is_skipped_in g) i c → EndsBehind g greatest d ks i c e → ⊥
  no_value none ends = none (level d ks) ends.1.node ends.0 ends.1.lies

-- ---- a container is due

-- a container is its bracket and its inside
module _ (g : LexicalGrammar) (greatest d : ℕ) (k : Bool) (i : List ℕ) (c b f : ℕ) (o : Lies (IsByte (opening k)) i c b) where
  opened : InsideLies g greatest (suc d) k false i b f → SkipsTo g greatest d i c f
  opened inside = record {
    node = container (form_of k) inside.nodes;
    lies = ((b, fresh_mark, (refl, o), inside.lie, inside.follows), inside.passes);
    shallow = omega (arith, inside.shallow);
  }

  inside_of : SkipsTo g greatest d i c f → InsideLies g greatest (suc d) k false i b f
  inside_of value =
      let (xs, is, lie, follows) = bracket_only g i d k c b o value.node f value.lies.0 in
      let passes : all_pass (is_skipped_in g) (container (form_of k) xs) ≡ true = ap (all_pass (is_skipped_in g)) (sym is) ∙ value.lies.1 in
      let deep = ap nesting is in
      record { nodes = xs; lie = lie; passes = passes; shallow = omega (arith, value.shallow, deep); follows = follows }

module _ (g : LexicalGrammar) (greatest d : ℕ) (ks : List Bool) (k : Bool) (i : List ℕ) (c b e : ℕ) (o : Lies (IsByte (opening k)) i c b) where
  pub container_ends : Ends g greatest d (k ∷ ks) false i b e → EndsBehind g greatest d ks i c e
  container_ends ends = (ends.0, opened g greatest (level d ks) k i c b ends.0 o ends.1, ends.2)

  pub ends_container : EndsBehind g greatest d ks i c e → Ends g greatest d (k ∷ ks) false i b e
  ends_container ends = (ends.0, inside_of g greatest (level d ks) k i c b ends.0 o ends.1, ends.2)

  -- no container opens at the greatest depth
  pub too_deep : greatest ≤ level d ks → EndsBehind g greatest d ks i c e → ⊥
  too_deep deep ends = omega (arith, deep, (inside_of g greatest (level d ks) k i c b ends.0 o ends.1).shallow)

-- ---- inside a container another value comes

max_bounds : (d a b n : ℕ) → d + a ≤ n → d + b ≤ n → d + max a b ≤ n
max_bounds d a b n h k = omega arith

module _ (g : LexicalGrammar) (greatest d : ℕ) (ks : List Bool) (i : List ℕ) (b c e : ℕ) (k entered : Bool) (begins : ValueBegins (is_skipped_in g) i b k entered c) where
  pub value_ends : EndsBehind g greatest d (k ∷ ks) i c e → Ends g greatest d (k ∷ ks) entered i b e
  value_ends (h, value, (f, inside, rest)) =
      let (key, entry, passes) = begins_entry g (is_skipped_in g) i b entered c k begins in (
        f,
        record {
          nodes = node key value.node inside.nodes;
          lie = (c, entry_mark, h, entry, value.lies.0, inside.lie);
          passes = parts_node (is_skipped_in g) key value.node inside.nodes passes value.lies.1 inside.passes;
          shallow = max_bounds (suc (level d ks)) (nesting value.node) (nodes_nesting inside.nodes) greatest value.shallow inside.shallow;
          follows = inside.follows;
        },
        rest,
      )

  -- and back
  pub ends_value : Ends g greatest d (k ∷ ks) entered i b e → EndsBehind g greatest d (k ∷ ks) i c e
  ends_value (f, inside, rest) = go inside.nodes inside.lie inside.passes inside.shallow
    where
      go : (xs : Nodes JsonScalar) → NodesLie (frames_of g) (form_of k) i (suc (level d ks)) xs b (inside_mark entered) f → nodes_pass (is_skipped_in g) xs ≡ true
          → suc (level d ks) + nodes_nesting xs ≤ greatest → EndsBehind g greatest d (k ∷ ks) i c e
      go no_nodes lie passes shallow =
          let (key, entry, named) = begins_entry g (is_skipped_in g) i b entered c k begins in
          absurd ((grammar_is_wire g).entry_or_end (form_of k) i b (inside_mark entered) key c f entry_mark entry lie)
      go (node key x xs) (at, n, h, there, lies, lie) passes shallow =
          let (other, entry, named) = begins_entry g (is_skipped_in g) i b entered c k begins in
          let same = (grammar_is_wire g).same_entry (form_of k) i b (inside_mark entered) key other at c n entry_mark there entry in
          let parts = node_parts (is_skipped_in g) key x xs passes in
          let first : suc (level d ks) + nesting x ≤ greatest = omega arith in
          let others : suc (level d ks) + nodes_nesting xs ≤ greatest = omega arith in (
            h,
            record { node = x; lies = (subst (λ y. LiesAsNode (frames_of g) i (suc (level d ks)) x y h) same.1 lies, parts.1); shallow = first },
            (
              f,
              record {
                nodes = xs;
                lie = subst (λ m. NodesLie (frames_of g) (form_of k) i (suc (level d ks)) xs h m f) same.2 lie;
                passes = parts.2;
                shallow = others;
                follows = inside.follows;
              },
              rest,
            ),
          )

-- ---- a container ends

module _ (g : LexicalGrammar) (greatest d : ℕ) (ks : List Bool) (i : List ℕ) (b f e : ℕ) (k entered : Bool) (closes : ClosesIn g (closing k) i b (suc (level d ks)) f) where
  pub container_left : suc (level d ks) ≤ greatest → Ends g greatest d ks true i f e → Ends g greatest d (k ∷ ks) entered i b e
  container_left shallow rest = (
    f,
    record { nodes = no_nodes; lie = closes.0; passes = refl; shallow = omega (arith, shallow); follows = closes.1 },
    rest,
  )

  pub left_container : Ends g greatest d (k ∷ ks) entered i b e → Ends g greatest d ks true i f e
  left_container (h, inside, rest) = go inside.nodes inside.lie
    where
      go : (xs : Nodes JsonScalar) → NodesLie (frames_of g) (form_of k) i (suc (level d ks)) xs b (inside_mark entered) h → Ends g greatest d ks true i f e
      go no_nodes lie =
          subst (λ y. Ends g greatest d ks true i y e) ((grammar_is_wire g).same_ends (form_of k) i b (inside_mark entered) h f lie closes.0) rest
      go (node key x xs) (at, n, end, entry, lies, lie) =
          absurd ((grammar_is_wire g).entry_or_end (form_of k) i b (inside_mark entered) key at f n entry closes.0)

-- ---- a container can't go on

pub cannot_go_on : (g : LexicalGrammar) (i : List ℕ) (b : ℕ) (entered : Bool) (depth : ℕ) (k : Bool) → ((c : ℕ) → ValueBegins (is_skipped_in g) i b k entered c → ⊥)
    → ((e : ℕ) → ClosesIn g (closing k) i b (suc depth) e → ⊥) → (greatest f : ℕ) → InsideLies g greatest (suc depth) k entered i b f → ⊥
cannot_go_on g i b entered depth k begins ends greatest f inside = go inside.nodes inside.lie inside.passes
  where
    go : (xs : Nodes JsonScalar) → NodesLie (frames_of g) (form_of k) i (suc depth) xs b (inside_mark entered) f → nodes_pass (is_skipped_in g) xs ≡ true → ⊥
    go no_nodes lie passes = ends f (lie, inside.follows)
    go (node key x xs) (c, n, end, entry, lies, lie) passes =
        begins c (entry_begins g (is_skipped_in g) i b entered c k key n entry (node_parts (is_skipped_in g) key x xs passes).0)

-- ---- the walk

-- the kinds of the containers that are open, by an array that holds them from the outermost on
abbrev pub stack_of : List Bool → ℕ → List Bool
stack_of kinds zero = []
stack_of kinds (suc n) = get_or kinds n false ∷ stack_of kinds n

-- what is left at a place, where a value is due or not
abbrev pub Left : LexicalGrammar → ℕ → ℕ → List Bool → Bool → Bool → List ℕ → ℕ → ℕ → Type 0
Left g greatest d ks true entered i at e = EndsBehind g greatest d ks i at e
Left g greatest d ks false entered i at e = Ends g greatest d ks entered i at e

-- the value that began at the start ends where what is left ends, whatever the greatest depth
pub record IsOnTheWay (g : LexicalGrammar) (least d : ℕ) (ks : List Bool) (due entered : Bool) (i : List ℕ) (start at : ℕ) : Type 0 where
  pub back : (greatest : ℕ) → least ≤ greatest → (e : ℕ) → Left g greatest d ks due entered i at e → SkipsTo g greatest d i start e
  pub forth : (greatest : ℕ) → least ≤ greatest → (e : ℕ) → SkipsTo g greatest d i start e → Left g greatest d ks due entered i at e

pub begin : (g : LexicalGrammar) (least d : ℕ) (entered : Bool) (i : List ℕ) (at : ℕ) → IsOnTheWay g least d [] true entered i at at
begin g least d entered i at = record {
  back = λ greatest bound e h. subst (λ x. SkipsTo g greatest d i at x) h.2 h.1;
  forth = λ greatest bound e h. (e, h, refl);
}

module _ (g : LexicalGrammar) (least d : ℕ) (ks : List Bool) (entered : Bool) (i : List ℕ) (start at : ℕ) (way : IsOnTheWay g least d ks true entered i start at) where
  pub past_scalar : (f : ℕ) → ScalarLies g (is_skipped_in g) i at f → level d ks ≤ least → (m : Bool) → m ≡ true → IsOnTheWay g least d ks false m i start f
  past_scalar f scalar shallow m is = rw is (record {
    back = λ greatest bound e h. way.back greatest bound e (scalar_ends g greatest d ks i at e f scalar (omega arith) h);
    forth = λ greatest bound e h. ends_scalar g greatest d ks i at e f scalar (way.forth greatest bound e h);
  })

  pub into_container : (k : Bool) (b : ℕ) → Lies (IsByte (opening k)) i at b → IsOnTheWay g least d (k ∷ ks) false false i start b
  into_container k b o = record {
    back = λ greatest bound e h. way.back greatest bound e (container_ends g greatest d ks k i at b e o h);
    forth = λ greatest bound e h. ends_container g greatest d ks k i at b e o (way.forth greatest bound e h);
  }

  pub not_so_deep : (k : Bool) (b : ℕ) → Lies (IsByte (opening k)) i at b → least ≤ level d ks → (e : ℕ) → SkipsTo g least d i start e → ⊥
  not_so_deep k b o deep e h = too_deep g least d ks k i at b e o deep (way.forth least (omega arith) e h)

-- a value with its own greatest depth, and any other
deeper : (g : LexicalGrammar) (greatest more d : ℕ) (i : List ℕ) (start e : ℕ) → greatest ≤ more → SkipsTo g greatest d i start e → SkipsTo g more d i start e
deeper g greatest more d i start e bound h = record { node = h.node; lies = h.lies; shallow = omega (arith, h.shallow) }

either_depth : (least greatest : ℕ) → (more : ℕ) × (least ≤ more) × (greatest ≤ more)
either_depth least greatest = (max least greatest, omega arith, omega arith)

-- where nothing is left under any depth, there is no value under any
nowhere : (g : LexicalGrammar) (least d : ℕ) (ks : List Bool) (due entered : Bool) (i : List ℕ) (start at : ℕ) → IsOnTheWay g least d ks due entered i start at
    → ((greatest e : ℕ) → Left g greatest d ks due entered i at e → ⊥) → (greatest e : ℕ) → SkipsTo g greatest d i start e → ⊥
nowhere g least d ks due entered i start at way none greatest e h =
    let more = either_depth least greatest in
    none more.0 e (way.forth more.0 more.1 e (deeper g greatest more.0 d i start e more.2 h))

pub no_value_due : (g : LexicalGrammar) (least d : ℕ) (ks : List Bool) (entered : Bool) (i : List ℕ) (start at : ℕ) → IsOnTheWay g least d ks true entered i start at
    → NoValueLies g (is_skipped_in g) i at → (greatest e : ℕ) → SkipsTo g greatest d i start e → ⊥
no_value_due g least d ks entered i start at way none =
    nowhere g least d ks true entered i start at way (λ greatest e h. no_value g greatest d ks i at e none h)

module _ (g : LexicalGrammar) (least d : ℕ) (k : Bool) (ks : List Bool) (entered : Bool) (i : List ℕ) (start at : ℕ)
    (way : IsOnTheWay g least d (k ∷ ks) false entered i start at) where
  pub to_value : (c : ℕ) → ValueBegins (is_skipped_in g) i at k entered c → IsOnTheWay g least d (k ∷ ks) true entered i start c
  to_value c begins = record {
    back = λ greatest bound e h. way.back greatest bound e (value_ends g greatest d ks i at c e k entered begins h);
    forth = λ greatest bound e h. ends_value g greatest d ks i at c e k entered begins (way.forth greatest bound e h);
  }

  pub out_of_container : (f : ℕ) → ClosesIn g (closing k) i at (suc (level d ks)) f → suc (level d ks) ≤ least → IsOnTheWay g least d ks false true i start f
  out_of_container f closes shallow = record {
    back = λ greatest bound e h. way.back greatest bound e (container_left g greatest d ks i at f e k entered closes (omega arith) h);
    forth = λ greatest bound e h. left_container g greatest d ks i at f e k entered closes (way.forth greatest bound e h);
  }

  pub no_way_on : ((c : ℕ) → ValueBegins (is_skipped_in g) i at k entered c → ⊥) → ((e : ℕ) → ClosesIn g (closing k) i at (suc (level d ks)) e → ⊥)
      → (greatest e : ℕ) → SkipsTo g greatest d i start e → ⊥
  no_way_on begins ends =
      nowhere g least d (k ∷ ks) false entered i start at way
      (λ greatest e h. cannot_go_on g i at entered (level d ks) k begins ends greatest h.0 h.1)

-- the containers that are open stay so when another opens
stack_of-set : (kinds : List Bool) (n j : ℕ) (k : Bool) → j ≤ n → stack_of (set kinds n k) j ≡ stack_of kinds j
stack_of-set kinds n zero k h = refl
stack_of-set kinds n (suc j) k h =
    let differ : j ≢ n = omega arith in
    ap (λ x. x ∷ stack_of (set kinds n k) j) (get_or-set_other kinds n j k false differ) ∙ ap (λ s. get_or kinds j false ∷ s) (stack_of-set kinds n j k (omega arith))

pub stack_of-push : (kinds : List Bool) (n m : ℕ) (k : Bool) → n < length kinds → m ≡ n + 1 → stack_of (set kinds n k) m ≡ k ∷ stack_of kinds n
stack_of-push kinds n m k within is =
    let next : m ≡ suc n = omega arith in
    ap (stack_of (set kinds n k)) next
    ∙ ap (λ x. x ∷ stack_of (set kinds n k) n) (get_or-set_same kinds n k false within)
    ∙ ap (λ s. k ∷ s) (stack_of-set kinds n n k (omega arith))

pub stack_of-pop : (kinds : List Bool) (n m : ℕ) → 0 < n → m ≡ n - 1 → stack_of kinds n ≡ get_or kinds m false ∷ stack_of kinds m
stack_of-pop kinds zero m some is = absurd (omega arith)
stack_of-pop kinds (suc n) m some is = let same : n ≡ m = omega arith in ap (λ x. get_or kinds x false ∷ stack_of kinds x) same

pub level-stack : (d : ℕ) (kinds : List Bool) (n : ℕ) → level d (stack_of kinds n) ≡ d + n
level-stack d kinds zero = omega arith
level-stack d kinds (suc n) = let more = level-stack d kinds n in omega (arith, more)
