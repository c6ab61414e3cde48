-- The steps of the walk through a value that is skipped.
use Rattle.std.proofs.Common.{◌≡◌, ◌+◌, ◌-◌, ◌*◌, ◌<◌, ◌≤◌, ℕ, suc, List, ◌∷◌, Bool, true, false, None, length, get_or, set, cond, sym, arith, refl, subst, inl, inr}
use Rattle.smithy_json_values.specs.Scalar.{JsonScalar}
use Rattle.smithy_json_values.specs.Spans.{Lies, IsByte}
use Rattle.smithy_json_values.specs.LexicalGrammar.{LexicalGrammar, is_skipped_in, NodeLies, frames_of}
use Rattle.smithy_json_values.specs.Private.TokenPlaces.{names_ahead}
use Rattle.smithy_json_values.specs.Private.NextInContainer.{ClosesIn}
use Rattle.smithy_json_values.specs.Private.Skipping.{SkipsTo, ScalarLies, NoValueLies, opening, closing, ValueBegins, GoesOnInside, IsNextStep}
use Rattle.smithy_wire.specs.Node.{Node, null_node, leaf, container, missing, all_pass}
use Rattle.smithy_wire.specs.Wire.{no_value}
use Rattle.smithy_wire.specs.Lemmas.Nodes.{sort_of, lies_ahead}
use Rattle.smithy_json_values.proofs.OpenContainers.{grammar_is_wire, flat_lies, IsOnTheWay, stack_of, stack_of-push, stack_of-pop, level, level-stack, past_scalar, into_container, not_so_deep, no_value_due, to_value, out_of_container, no_way_on}

module _ (g : LexicalGrammar) (least d : ℕ) (kinds : List Bool) (count : ℕ) (due entered : Bool) (i : List ℕ) (start at : ℕ)
    (way : IsOnTheWay g least d (stack_of kinds count) due entered i start at) (within : at ≤ length i) (shallow : d + count ≤ least) where
  module _ (is : due ≡ true) where
    way_due : IsOnTheWay g least d (stack_of kinds count) true entered i start at
    way_due = subst (λ b. IsOnTheWay g least d (stack_of kinds count) b entered i start at) is way

    pub scalar_passed : (f : ℕ) → ScalarLies g (is_skipped_in g) i at f → IsOnTheWay g least d (stack_of kinds count) false true i start f
    scalar_passed f scalar =
        past_scalar g least d (stack_of kinds count) entered i start at way_due f scalar (omega (arith, level-stack d kinds count)) true refl

    pub container_opened : (k : Bool) (b : ℕ) → Lies (IsByte (opening k)) i at b → count < length kinds
        → IsOnTheWay g least d (stack_of (set kinds count k) (count + 1)) false false i start b
    container_opened k b o room =
        subst (λ ks. IsOnTheWay g least d ks false false i start b) (sym (stack_of-push kinds count (count + 1) k room refl))
        (into_container g least d (stack_of kinds count) entered i start at way_due k b o)

    pub opens_too_deep : (k : Bool) (b : ℕ) → Lies (IsByte (opening k)) i at b → least ≤ d + count → (e : ℕ) → SkipsTo g least d i start e → ⊥
    opens_too_deep k b o deep =
        not_so_deep g least d (stack_of kinds count) entered i start at way_due k b o (omega (arith, level-stack d kinds count))

    pub value_missing : NoValueLies g (is_skipped_in g) i at → (greatest e : ℕ) → SkipsTo g greatest d i start e → ⊥
    value_missing none = no_value_due g least d (stack_of kinds count) entered i start at way_due none

  module _ (is : due ≡ false) (some : 0 < count) where
    abbrev pub kind : Bool
    kind = get_or kinds (count - 1) false

    abbrev pub others : List Bool
    others = stack_of kinds (count - 1)

    way_inside : IsOnTheWay g least d (kind ∷ others) false entered i start at
    way_inside =
        let none_due = subst (λ b. IsOnTheWay g least d (stack_of kinds count) b entered i start at) is way in
        subst (λ ks. IsOnTheWay g least d ks false entered i start at) (stack_of-pop kinds count (count - 1) some refl) none_due

    depth_is : d + count ≡ suc (level d others)
    depth_is = omega (arith, level-stack d kinds (count - 1))

    pub value_begun : (c : ℕ) → ValueBegins (is_skipped_in g) i at kind entered c → IsOnTheWay g least d (stack_of kinds count) true entered i start c
    value_begun c begins =
        subst (λ ks. IsOnTheWay g least d ks true entered i start c) (sym (stack_of-pop kinds count (count - 1) some refl))
        (to_value g least d kind others entered i start at way_inside c begins)

    pub container_closed : (f : ℕ) → ClosesIn g (closing kind) i at (d + count) f → IsOnTheWay g least d others due true i start f
    container_closed f closes =
        subst (λ b. IsOnTheWay g least d others b true i start f) (sym is)
        (out_of_container g least d kind others entered i start at way_inside f
        (subst (λ n. ClosesIn g (closing kind) i at n f) depth_is closes) (omega (arith, depth_is)))

    pub cannot_continue : GoesOnInside g i at kind entered (d + count) None → (greatest e : ℕ) → SkipsTo g greatest d i start e → ⊥
    cannot_continue none =
        no_way_on g least d kind others entered i start at way_inside none.0
        (λ e closes. none.1 e (subst (λ n. ClosesIn g (closing kind) i at n e) (sym depth_is) closes))

  -- where no step is, no value is skipped
  pub no_next_step : (due ≡ false → 0 < count) → IsNextStep g i at due (get_or kinds (count - 1) false) entered (d + count) None
      → (greatest e : ℕ) → SkipsTo g greatest d i start e → ⊥
  no_next_step some (inl (is, none)) = value_missing is none
  no_next_step some (inr (is, none)) = cannot_continue is (some is) none

  pub walked : due ≡ false → count ≡ 0 → SkipsTo g least d i start at
  walked is none =
      let here = subst (λ b. IsOnTheWay g least d (stack_of kinds count) b entered i start at) is way in
      let outside = subst (λ n. IsOnTheWay g least d (stack_of kinds n) false entered i start at) none here in
      outside.back least (omega arith) at refl

-- ---- where the walk comes to

-- a node that passes a test takes bytes
pub node_ahead : (g : LexicalGrammar) (test : JsonScalar → Bool) (i : List ℕ) (d : ℕ) (x : Node JsonScalar) (a e : ℕ) → NodeLies g test d x i a e → (a < e) × (e ≤ length i)
node_ahead g test i d x a e h = lies_ahead (frames_of g) (grammar_is_wire g) i d x a e h.0 (there x h.1)
  where
    there : (x : Node JsonScalar) → all_pass test x ≡ true → sort_of x ≡ no_value → ⊥
    there null_node passes is = cc
    there (leaf x) passes is = cc
    there (container f xs) passes is = cc
    there missing passes is = let no : false ≡ true = passes in cc

pub scalar_ahead : (g : LexicalGrammar) (test : JsonScalar → Bool) (i : List ℕ) (at f : ℕ) → ScalarLies g test i at f → (at < f) × (f ≤ length i)
scalar_ahead g test i at f h = node_ahead g test i 1 h.node at f h.lies

-- a scalar is skipped
pub scalar_skips : (g : LexicalGrammar) (greatest d : ℕ) (i : List ℕ) (at f : ℕ) → ScalarLies g (is_skipped_in g) i at f → d ≤ greatest → SkipsTo g greatest d i at f
scalar_skips g greatest d i at f scalar shallow = record {
  node = scalar.node;
  lies = flat_lies g (is_skipped_in g) i 1 d scalar.node at f scalar.flat scalar.lies;
  shallow = omega (arith, scalar.flat, shallow);
}

-- what is skipped takes bytes
pub skips_ahead : (g : LexicalGrammar) (greatest d : ℕ) (i : List ℕ) (at e : ℕ) → SkipsTo g greatest d i at e → (at < e) × (e ≤ length i)
skips_ahead g greatest d i at e h = node_ahead g (is_skipped_in g) i d h.node at e h.lies

pub value_place : (test : JsonScalar → Bool) (i : List ℕ) (at : ℕ) (k entered : Bool) (c : ℕ) → ValueBegins test i at k entered c → at ≤ length i
    → (at ≤ c) × (c ≤ length i)
value_place test i at true entered c h within =
    let ahead = names_ahead i entered at h.0 c h.1 in (omega (arith, ahead), h.1.2.1)
value_place test i at false true c h within = (h.0.0, h.0.1)
value_place test i at false false c h within = (omega (arith, h.0), omega (arith, h.0, within))

-- ---- the walk falls

pub falls_ahead : (n at e : ℕ) (due : Bool) → at < e → e ≤ n → 2 * (n - e) + 1 < 2 * (n - at) + cond due 0 1
falls_ahead n at e true h k = omega arith
falls_ahead n at e false h k = omega arith

pub falls_to_value : (n at c : ℕ) (due : Bool) → due ≡ false → at ≤ c → c ≤ n → 2 * (n - c) + 0 < 2 * (n - at) + cond due 0 1
falls_to_value n at c true is h k = cc
falls_to_value n at c false is h k = omega arith

pub falls_on : (n at e : ℕ) (due : Bool) → at < e → e ≤ n → 2 * (n - e) + cond due 0 1 < 2 * (n - at) + cond due 0 1
falls_on n at e true h k = omega arith
falls_on n at e false h k = omega arith
