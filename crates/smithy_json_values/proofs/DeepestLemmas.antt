-- What lies whole before the place that the walk through a skipped value has come to.
use Rattle.std.proofs.Common.{◌≡◌, ◌+◌, ◌-◌, ◌<◌, ◌≤◌, ℕ, zero, suc, length, List, [], ◌∷◌, drop, Bool, true, false, get_or, set, refl, sym, ap, subst, arith}
use Rattle.smithy_json_values.specs.Scalar.{JsonScalar}
use Rattle.smithy_json_values.specs.Spans.{Lies, IsByte, fresh_mark, entry_mark}
use Rattle.smithy_json_values.specs.Tokens.{BoundaryBy, EndsInside}
use Rattle.smithy_json_values.specs.LexicalGrammar.{LexicalGrammar, is_skipped_in, frames_of, NodeLies}
use Rattle.smithy_json_values.specs.Deepest.{has_come, EntriesLie, IsDueInside, OpensTooDeep}
use Rattle.smithy_json_values.specs.Private.NextInContainer.{ClosesIn}
use Rattle.smithy_json_values.specs.Private.NodeDepths.{deeper}
use Rattle.smithy_json_values.specs.Private.Skipping.{ScalarLies, form_of, opening, closing, ValueBegins}
use Rattle.smithy_wire.specs.Node.{Node, container, Nodes, no_nodes, node, nodes_pass}
use Rattle.smithy_wire.specs.Frames.{NodesLie}
use Rattle.smithy_json_values.proofs.OpenContainers.{inside_mark, begins_entry, parts_node, stack_of, stack_of-push, stack_of-pop}

module _ (g : LexicalGrammar) (test : JsonScalar → Bool) (i : List ℕ) where
  -- ---- entries and what comes behind them, from the first on

  abbrev Whole : Bool → ℕ → ℕ → Type 0
  Whole k b f = (xs : Nodes JsonScalar) × NodesLie (frames_of g) (form_of k) i 2 xs b fresh_mark f × (nodes_pass test xs ≡ true)

  whole_nodes : (k : Bool) (count b r f : ℕ) (xs : Nodes JsonScalar) → EntriesLie g test k count i b r
      → NodesLie (frames_of g) (form_of k) i 2 xs r (inside_mark (has_come count)) f → nodes_pass test xs ≡ true → Whole k b f
  whole_nodes k zero b r f xs entries lie passes = (xs, subst (λ y. NodesLie (frames_of g) (form_of k) i 2 xs y fresh_mark f) (sym entries) lie, passes)
  whole_nodes k (suc count) b r f xs (q, c, x, entries, begins, lies) lie passes =
      let (key, entry, named) = begins_entry g test i q (has_come count) c k begins in
      whole_nodes k count b q f (node key x xs) entries (c, entry_mark, r, entry, deeper g i 0 1 x c r lies.0, lie) (parts_node test key x xs named lies.1 passes)

  -- inside another container, one that closes behind its entries is a whole value
  whole : (k : Bool) (count q b p f : ℕ) → Lies (IsByte (opening k)) i q b → EntriesLie g test k count i b p
      → Lies (IsByte (closing k)) i p f → BoundaryBy g.is_strict (drop f i) → (x : Node JsonScalar) × NodeLies g test 1 x i q f
  whole k count q b p f o entries closes follows =
      let (xs, lie, passes) = whole_nodes k count b p f no_nodes entries closes refl in
      (container (form_of k) xs, ((b, fresh_mark, (refl, o), lie, follows), passes))

  boundary : (n f : ℕ) → 2 ≤ n → EndsInside (BoundaryBy g.is_strict) n (drop f i) → BoundaryBy g.is_strict (drop f i)
  boundary zero f deep h = absurd h
  boundary (suc zero) f deep h = absurd (omega arith)
  boundary (suc (suc n)) f deep h = h

-- ---- the walk

-- what has come where the walk is at p, and a value is due or not
abbrev pub HasCome : LexicalGrammar → (JsonScalar → Bool) → List Bool → Bool → Bool → List ℕ → ℕ → ℕ → Type 0
HasCome g test ks true entered i a p = IsDueInside g test ks i a p
HasCome g test [] false entered i a p = Unit {0}
HasCome g test (k ∷ ks) false entered i a p =
    (q b count : ℕ) × IsDueInside g test ks i a q × Lies (IsByte (opening k)) i q b × EntriesLie g test k count i b p × (entered ≡ has_come count)

module _ (g : LexicalGrammar) (test : JsonScalar → Bool) (i : List ℕ) (a : ℕ) where
  -- past a whole value
  pub passed : (ks : List Bool) (p f : ℕ) (x : Node JsonScalar) → IsDueInside g test ks i a p → NodeLies g test 1 x i p f → HasCome g test ks false true i a f
  passed [] p f x due lies = tt
  passed (k ∷ ks) p f x (q, b, count, r, outer, o, entries, begins) lies =
      (q, b, suc count, outer, o, (r, p, x, entries, begins, lies), refl)

  -- into a container
  pub entered : (k : Bool) (ks : List Bool) (p b : ℕ) → IsDueInside g test ks i a p → Lies (IsByte (opening k)) i p b → HasCome g test (k ∷ ks) false false i a b
  entered k ks p b due o = (p, b, 0, due, o, refl, refl)

  -- to the value of an entry
  pub gone_on : (k : Bool) (ks : List Bool) (some : Bool) (p c : ℕ) → HasCome g test (k ∷ ks) false some i a p → ValueBegins test i p k some c
      → IsDueInside g test (k ∷ ks) i a c
  gone_on k ks some p c (q, b, count, outer, o, entries, is) begins =
      (q, b, count, p, outer, o, entries, subst (λ y. ValueBegins test i p k y c) is begins)

  -- out of a container
  pub left : (k : Bool) (ks : List Bool) (some : Bool) (p n f : ℕ) → HasCome g test (k ∷ ks) false some i a p
      → ClosesIn g (closing k) i p n f → suc (length ks) ≤ n → HasCome g test ks false true i a f
  left k [] some p n f h closes deep = tt
  left k (j ∷ ks) some p n f (q, b, count, outer, o, entries, is) closes deep =
      let value = whole g test i k count q b p f o entries closes.0 (boundary g test i n f (omega (arith, deep)) closes.1) in
      passed (j ∷ ks) q f value.0 outer value.1

-- ---- the same by the array that holds the kinds

length-stack : (kinds : List Bool) (n : ℕ) → length (stack_of kinds n) ≡ n
length-stack kinds zero = refl
length-stack kinds (suc n) = ap suc (length-stack kinds n)

module _ (g : LexicalGrammar) (d : ℕ) (kinds : List Bool) (count : ℕ) (due some : Bool) (i : List ℕ) (start at : ℕ)
    (here : HasCome g (is_skipped_in g) (stack_of kinds count) due some i start at) where
  module _ (is : due ≡ true) where
    due_here : IsDueInside g (is_skipped_in g) (stack_of kinds count) i start at
    due_here = subst (λ b. HasCome g (is_skipped_in g) (stack_of kinds count) b some i start at) is here

    pub comes_past_scalar : (f : ℕ) → ScalarLies g (is_skipped_in g) i at f → HasCome g (is_skipped_in g) (stack_of kinds count) false true i start f
    comes_past_scalar f scalar = passed g (is_skipped_in g) i start (stack_of kinds count) at f scalar.node due_here scalar.lies

    pub comes_into_container : (k : Bool) (b : ℕ) → Lies (IsByte (opening k)) i at b → count < length kinds
        → HasCome g (is_skipped_in g) (stack_of (set kinds count k) (count + 1)) false false i start b
    comes_into_container k b o room =
        subst (λ ks. HasCome g (is_skipped_in g) ks false false i start b) (sym (stack_of-push kinds count (count + 1) k room refl))
        (entered g (is_skipped_in g) i start k (stack_of kinds count) at b due_here o)

    pub comes_too_deep : (k : Bool) (b max : ℕ) → Lies (IsByte (opening k)) i at b → d + count ≤ max → max ≤ d + count
        → OpensTooDeep g max d i start
    comes_too_deep k b max o shallow deep = record {
      containers = stack_of kinds count;
      is_object = k;
      at = at;
      inside = b;
      due = due_here;
      opens = o;
      deepest = omega (arith, shallow, deep, length-stack kinds count);
    }

  module _ (is : due ≡ false) (some_open : 0 < count) where
    abbrev pub kind : Bool
    kind = get_or kinds (count - 1) false

    inside_here : HasCome g (is_skipped_in g) (kind ∷ stack_of kinds (count - 1)) false some i start at
    inside_here =
        let none_due = subst (λ b. HasCome g (is_skipped_in g) (stack_of kinds count) b some i start at) is here in
        subst (λ ks. HasCome g (is_skipped_in g) ks false some i start at) (stack_of-pop kinds count (count - 1) some_open refl) none_due

    pub comes_to_value : (c : ℕ) → ValueBegins (is_skipped_in g) i at kind some c → HasCome g (is_skipped_in g) (stack_of kinds count) true some i start c
    comes_to_value c begins =
        subst (λ ks. HasCome g (is_skipped_in g) ks true some i start c) (sym (stack_of-pop kinds count (count - 1) some_open refl))
        (gone_on g (is_skipped_in g) i start kind (stack_of kinds (count - 1)) some at c inside_here begins)

    pub comes_out_of_container : (f : ℕ) → ClosesIn g (closing kind) i at (d + count) f → HasCome g (is_skipped_in g) (stack_of kinds (count - 1)) due true i start f
    comes_out_of_container f closes =
        let behind = left g (is_skipped_in g) i start kind (stack_of kinds (count - 1)) some at (d + count) f inside_here closes (omega (arith, length-stack kinds (count - 1))) in
        subst (λ b. HasCome g (is_skipped_in g) (stack_of kinds (count - 1)) b true i start f) (sym is) behind
