-- Lists that are half built, as the pool grows and they become whole.
use Rattle.std.proofs.Common.{◌≡◌, ◌∙◌, refl, ap, sym, ℕ, ℤ, List, [], ◌∷◌, ◌++◌, ◌+◌, ◌-◌, ◌≤◌, map as mapped, length, take, drop, suc, append_assoc, length-append, length-drop, arith}
use Rattle.std.proofs.lemmas.List.{append-nil, map-append, drop-append-le, drop_all, drop_at, take_all}
use Rattle.smithy_declarations.specs.Value.{Value, Values, value, values_of, list}
use Rattle.smithy_tree.specs.Items.{Item, shown_of, whole_value, whole_values, elements_of}
use Rattle.smithy_tree.specs.Nodes.{Store, values_over, values_after, number_slot, AreNodes}
use Rattle.smithy_tree.specs.Seen.{store, values, waiting, IsSound, Grows, Waits, Closes, ElementsStand, numbers_in, elements_in, PutsElement, PutsElements, ClosesElements}
use Rattle.smithy_tree.specs.declared.elements.Elements.{Elements}
use Rattle.smithy_tree.specs.declared.node.Node.TheVariants as nodes
use Rattle.smithy_tree.specs.declared.node.Slot.{Slot}
use Rattle.smithy_tree.specs.declared.pool.Pool.{Pool}
use Rattle.smithy_tree.proofs.Growing.{part_stays, nodes_stay, behind-append, values_added, values_over_stay, length_values_over, length_values_after}
use Rattle.smithy_tree.proofs.Storing.{more, behind_kept, nodes_kept, values_after_kept, values_over_kept}
use Rattle.smithy_tree.proofs.Seeing.{grows_self, grows_twice}

-- ---- as the pool grows

pub half_still : (q r : Pool) (e : Elements) → Grows q r → waiting r ≡ waiting q → ElementsStand q e → ElementsStand r e
half_still q r e g w h = record {
  ordered = h.ordered;
  numbers = rw g.numbers (omega (arith, h.numbers, length-append q.numbers.items g.counted));
  waiting = rw w h.waiting;
}

pub numbers_still : (q r : Pool) (e : Elements) → Grows q r → ElementsStand q e → numbers_in r e ≡ numbers_in q e
numbers_still q r e g h =
    let within : e.numbers_from + (e.numbers_to - e.numbers_from) ≤ length q.numbers.items = omega (arith, h.ordered, h.numbers) in
    ap (λ (ns : List ℤ). take (e.numbers_to - e.numbers_from) (drop e.numbers_from ns)) g.numbers
    ∙ part_stays e.numbers_from (e.numbers_to - e.numbers_from) q.numbers.items g.counted within

pub elements_still : (q r : Pool) (e : Elements) → Grows q r → waiting r ≡ waiting q → ElementsStand q e → elements_in r e ≡ elements_in q e
elements_still q r e g w h =
    ap (λ (ns : List ℤ). whole_values ns ++ shown_of (drop e.waiting_from (waiting r))) (numbers_still q r e g h)
    ∙ ap (λ (ws : List Item). whole_values (numbers_in q e) ++ shown_of (drop e.waiting_from ws)) w

-- ---- one more element

shown-append : (xs ys : List Item) → shown_of (xs ++ ys) ≡ shown_of xs ++ shown_of ys
shown-append [] ys = refl
shown-append (x ∷ xs) ys = ap (λ (vs : List Value). x.shown ∷ vs) (shown-append xs ys)

-- it waits
pub waits_behind : (p q : Pool) (e : Elements) (x : Item) → Waits p q x → ElementsStand p e → PutsElement p q e e x.shown
waits_behind p q e x w h =
    let b = e.waiting_from in
    let ws = waiting p in
    let before = whole_values (numbers_in p e) in
    record {
      grows = w.grows;
      half = record {
        ordered = h.ordered;
        numbers = rw w.grows.numbers (omega (arith, h.numbers, length-append p.numbers.items w.grows.counted));
        waiting = rw w.waiting (omega (arith, h.waiting, length-append ws (x ∷ [])));
      };
      begins = refl;
      added = x ∷ [];
      waiting = w.waiting;
      elements = ap (λ (ns : List ℤ). whole_values ns ++ shown_of (drop b (waiting q))) (numbers_still p q e w.grows h)
          ∙ (ap (λ (xs : List Item). before ++ shown_of (drop b xs)) w.waiting
          ∙ (ap (λ (xs : List Item). before ++ shown_of xs) (drop-append-le b ws (x ∷ []) h.waiting)
          ∙ (ap (λ (vs : List Value). before ++ vs) (shown-append (drop b ws) (x ∷ []))
          ∙ sym (append_assoc before (shown_of (drop b ws)) (x.shown ∷ [])))));
    }

-- nothing else is changed where numbers come behind those of the pool
module _ (p q : Pool) (ns : List ℤ) (sound : IsSound p) (is : store q ≡ more (store p) [] [] ns) (nodes_are : q.nodes.items ≡ p.nodes.items) (waiting_are : q.waiting.items ≡ p.waiting.items) where
  same_values : values q ≡ values p
  same_values =
      ap (λ (s : Store). values_after s [] q.nodes.items) is
      ∙ (ap (λ (xs : List Slot). values_after (more (store p) [] [] ns) [] xs) nodes_are
      ∙ values_after_kept (store p) [] [] ns [] 0 p.nodes.items sound.nodes)

  pub same_waiting : waiting q ≡ waiting p
  same_waiting =
      ap (λ (s : Store). values_over s (values q) q.waiting.items) is
      ∙ (ap (λ (vs : List Item). values_over (more (store p) [] [] ns) vs q.waiting.items) same_values
      ∙ (ap (λ (xs : List Slot). values_over (more (store p) [] [] ns) (values p) xs) waiting_are
      ∙ values_over_kept (store p) [] [] ns (values p) (length p.nodes.items) p.waiting.items sound.waiting))

  pub numbers_grow : Grows p q
  numbers_grow = record {
    sound = record {
      nodes = rw (is, nodes_are) (behind_kept (store p) [] [] ns 0 p.nodes.items sound.nodes);
      waiting = rw (is, nodes_are, waiting_are) (nodes_kept (store p) [] [] ns (length p.nodes.items) p.waiting.items sound.waiting);
    };
    input = ap (λ (s : Store). s.input) is;
    copied = [];
    side = ap (λ (s : Store). s.side) is;
    kept = [];
    rare = ap (λ (s : Store). s.rare) is;
    counted = ns;
    numbers = ap (λ (s : Store). s.numbers) is;
    more = [];
    values = same_values ∙ sym (append-nil (values p));
  }

-- numbers from a place on
run_of : (from to : ℕ) (ns : List ℤ) → length ns ≤ to → take (to - from) (drop from ns) ≡ drop from ns
run_of from to ns ends = take_all (to - from) (drop from ns) (omega (arith, ends, length-drop from ns))

run_more : (from to after : ℕ) (ns ms : List ℤ) → from ≤ to → to ≡ length ns → after ≡ to + length ms → take (after - from) (drop from (ns ++ ms)) ≡ take (to - from) (drop from ns) ++ ms
run_more from to after ns ms ordered ends next =
    run_of from after (ns ++ ms) (omega (arith, ends, next, length-append ns ms))
    ∙ (drop-append-le from ns ms (omega (arith, ordered, ends))
    ∙ ap (λ (xs : List ℤ). xs ++ ms) (sym (run_of from to ns (omega (arith, ends)))))

-- they are numbers behind the others
pub numbers_behind : (p q : Pool) (e f : Elements) (ms : List ℤ) → IsSound p → ElementsStand p e → store q ≡ more (store p) [] [] ms → q.nodes.items ≡ p.nodes.items → q.waiting.items ≡ p.waiting.items
    → length (waiting p) ≡ e.waiting_from → length p.numbers.items ≡ e.numbers_to → f.numbers_from ≡ e.numbers_from → f.numbers_to ≡ e.numbers_to + length ms → f.waiting_from ≡ e.waiting_from → PutsElements p q e f (whole_values ms)
numbers_behind p q e f ms sound h is nodes_are waiting_are none_waits ends from to begins =
    let ns = p.numbers.items in
    let still = same_waiting p q ms sound is nodes_are waiting_are in
    let grows = numbers_grow p q ms sound is nodes_are waiting_are in
    let more_numbers : q.numbers.items ≡ ns ++ ms = ap (λ (s : Store). s.numbers) is in
    let vs = whole_values ms in
    let before = whole_values (numbers_in p e) in
    let nothing_behind : drop e.waiting_from (waiting p) ≡ [] = drop_all e.waiting_from (waiting p) (omega (arith, none_waits)) in
    let counted : numbers_in q f ≡ numbers_in p e ++ ms =
    ap (λ (xs : List ℤ). take (f.numbers_to - f.numbers_from) (drop f.numbers_from xs)) more_numbers
    ∙ (ap (λ (k : ℕ). take (f.numbers_to - k) (drop k (ns ++ ms))) from
    ∙ run_more e.numbers_from e.numbers_to f.numbers_to ns ms h.ordered (sym ends) to) in
    let behind : drop f.waiting_from (waiting q) ≡ [] =
    ap (λ (ws : List Item). drop f.waiting_from ws) still ∙ (ap (λ (k : ℕ). drop k (waiting p)) begins ∙ nothing_behind) in
    record {
      grows = grows;
      half = record {
        ordered = omega (arith, h.ordered, from, to);
        numbers = rw more_numbers (omega (arith, ends, to, length-append ns ms));
        waiting = rw still (omega (arith, begins, h.waiting));
      };
      begins = begins;
      added = [];
      waiting = still ∙ sym (append-nil (waiting p));
      elements = ap (λ (xs : List ℤ). whole_values xs ++ shown_of (drop f.waiting_from (waiting q))) counted
          ∙ (ap (λ (ws : List Item). whole_values (numbers_in p e ++ ms) ++ shown_of ws) behind
          ∙ (append-nil (whole_values (numbers_in p e ++ ms))
          ∙ (map-append whole_value (numbers_in p e) ms
          ∙ (ap (λ (us : List Value). us ++ vs) (sym (append-nil before))
          ∙ ap (λ (ws : List Item). (before ++ shown_of ws) ++ vs) (sym nothing_behind)))));
    }

-- it is a number behind the others
pub counts_behind : (p q : Pool) (e f : Elements) (n : ℤ) → IsSound p → ElementsStand p e → store q ≡ more (store p) [] [] (n ∷ []) → q.nodes.items ≡ p.nodes.items → q.waiting.items ≡ p.waiting.items
    → length (waiting p) ≡ e.waiting_from → length p.numbers.items ≡ e.numbers_to → f.numbers_from ≡ e.numbers_from → f.numbers_to ≡ e.numbers_to + 1 → f.waiting_from ≡ e.waiting_from → PutsElement p q e f (whole_value n)
counts_behind p q e f n sound h is nodes_are waiting_are none_waits ends from to begins =
    let one = numbers_behind p q e f (n ∷ []) sound h is nodes_are waiting_are none_waits ends from to begins in
    record { grows = one.grows; half = one.half; begins = one.begins; added = one.added; waiting = one.waiting; elements = one.elements }

-- ---- several more elements

-- none has come yet
pub none_behind : (p : Pool) (e : Elements) → IsSound p → ElementsStand p e → PutsElements p p e e []
none_behind p e sound h = record {
  grows = grows_self p sound;
  half = h;
  begins = refl;
  added = [];
  waiting = sym (append-nil (waiting p));
  elements = sym (append-nil (elements_in p e));
}

-- one more has come behind those
pub one_behind : (p q r : Pool) (e f g : Elements) (vs : List Value) (v : Value) → PutsElements p q e f vs → PutsElement q r f g v → PutsElements p r e g (vs ++ v ∷ [])
one_behind p q r e f g vs v h k = record {
  grows = grows_twice p q r h.grows k.grows;
  half = k.half;
  begins = k.begins ∙ h.begins;
  added = h.added ++ k.added;
  waiting = k.waiting ∙ (ap (λ (ws : List Item). ws ++ k.added) h.waiting ∙ append_assoc (waiting p) h.added k.added);
  elements = k.elements ∙ (ap (λ (us : List Value). us ++ v ∷ []) h.elements ∙ append_assoc (elements_in p e) vs (v ∷ []));
}

-- ---- a list that is whole

pub shown_elements : (xs : List Item) → elements_of xs ≡ values_of (shown_of xs)
shown_elements [] = refl
shown_elements (x ∷ xs) = ap (λ (vs : Values). value x.shown vs) (shown_elements xs)

-- no numbers stand before those that wait
pub closes_waiting : (p q : Pool) (e : Elements) (at count : ℕ) → ElementsStand p e → e.numbers_to - e.numbers_from ≡ 0 → Closes p q e.waiting_from at count → ClosesElements p q e (nodes.List at count)
closes_waiting p q e at count h none c =
    let ws = drop e.waiting_from (waiting p) in
    record {
      grows = c.grows;
      holds = c.holds;
      shows = ap list (ap elements_of c.shows ∙ (shown_elements ws
          ∙ ap (λ (k : ℕ). values_of (whole_values (take k (drop e.numbers_from p.numbers.items)) ++ shown_of ws)) (sym none)));
      waiting = c.waiting;
    }

-- nothing waits behind the numbers
pub closes_numbers : (p : Pool) (e : Elements) (at count : ℕ) → IsSound p → ElementsStand p e → length (waiting p) ≡ e.waiting_from → at ≡ e.numbers_from → count ≡ e.numbers_to - e.numbers_from → ClosesElements p p e (nodes.Numbers at count)
closes_numbers p e at count sound h none_waits begins counted =
    let ns = numbers_in p e in
    record {
      grows = grows_self p sound;
      holds = omega (arith, h.ordered, h.numbers, begins, counted);
      shows = rw (begins, counted) (ap (λ (vs : List Value). list (values_of vs))
          (sym (append-nil (whole_values ns)) ∙ ap (λ (ws : List Item). whole_values ns ++ shown_of ws) (sym (drop_all e.waiting_from (waiting p) (omega (arith, none_waits))))));
      waiting = sym (take_all e.waiting_from (waiting p) (omega (arith, none_waits)));
    }

-- numbers as nodes
pub number_nodes : (s : Store) (k : ℕ) (ns : List ℤ) → AreNodes s k (mapped number_slot ns)
number_nodes s k [] = tt
number_nodes s k (n ∷ ns) = ((tt, record { key = λ some. absurd (omega (arith, some)) }), number_nodes s k ns)

numbers_shown : (s : Store) (vs : List Item) (ns : List ℤ) → shown_of (values_over s vs (mapped number_slot ns)) ≡ whole_values ns
numbers_shown s vs [] = refl
numbers_shown s vs (n ∷ ns) = ap (λ (ws : List Value). whole_value n ∷ ws) (numbers_shown s vs ns)

-- more nodes stand behind those that were there
module _ (p q : Pool) (ms : List Slot) (sound : IsSound p) (are : AreNodes (store p) (length p.nodes.items) ms) (is : store q ≡ store p) (nodes_are : q.nodes.items ≡ p.nodes.items ++ ms) (waiting_are : q.waiting.items ≡ p.waiting.items) where
  -- what they stand for
  abbrev added : List Item
  added = values_over (store p) (values p) ms

  values_more : values q ≡ values p ++ added
  values_more =
      ap (λ (s : Store). values_after s [] q.nodes.items) is
      ∙ (ap (λ (xs : List Slot). values_after (store p) [] xs) nodes_are ∙ values_added (store p) p.nodes.items ms are)

  longer : length p.nodes.items ≤ length (p.nodes.items ++ ms)
  longer = omega (arith, length-append p.nodes.items ms)

  over_values : AreNodes (store p) (length (values p)) p.waiting.items
  over_values =
      let l : length p.nodes.items ≡ length (values p) = omega (arith, length_values_after (store p) [] p.nodes.items) in
      rw (← l) sound.waiting

  pub waiting_same : waiting q ≡ waiting p
  waiting_same =
      ap (λ (s : Store). values_over s (values q) q.waiting.items) is
      ∙ (ap (λ (vs : List Item). values_over (store p) vs q.waiting.items) values_more
      ∙ (ap (λ (xs : List Slot). values_over (store p) (values p ++ added) xs) waiting_are
      ∙ values_over_stay (store p) (values p) added p.waiting.items over_values))

  pub nodes_grow : Grows p q
  nodes_grow = record {
    sound = record {
      nodes = rw (is, nodes_are) (behind-append (store p) 0 (length p.nodes.items) p.nodes.items ms (omega arith) sound.nodes are);
      waiting = rw (is, nodes_are, waiting_are) (nodes_stay (store p) (length p.nodes.items) (length (p.nodes.items ++ ms)) p.waiting.items longer sound.waiting);
    };
    input = ap (λ (s : Store). s.input) is;
    copied = [];
    side = ap (λ (s : Store). s.side) is ∙ sym (append-nil p.side.items);
    kept = [];
    rare = ap (λ (s : Store). s.rare) is ∙ sym (append-nil (store p).rare);
    counted = [];
    numbers = ap (λ (s : Store). s.numbers) is ∙ sym (append-nil p.numbers.items);
    more = added;
    values = values_more;
  }

-- so many of two runs of which the first is taken whole
take_both : {A : Type 0} (xs ys : List A) (all count : ℕ) → all ≡ length xs + count → take all (xs ++ ys) ≡ xs ++ take count ys
take_both {A} [] ys all count is =
    let same : all ≡ count = omega (arith, is) in
    ap (λ (k : ℕ). take k ys) same
take_both {A} (x ∷ xs) ys all count is =
    let next : all ≡ suc (length xs + count) = omega (arith, is) in
    ap (λ (k : ℕ). take k (x ∷ (xs ++ ys))) next ∙ ap (λ (zs : List A). x ∷ zs) (take_both xs ys (length xs + count) count refl)

-- the numbers have become nodes, and those that wait others behind them
pub closes_mixed : (p q r : Pool) (e : Elements) (at count start all : ℕ) → IsSound p → ElementsStand p e → store q ≡ store p → q.nodes.items ≡ p.nodes.items ++ mapped number_slot (numbers_in p e) → q.waiting.items ≡ p.waiting.items
    → Closes q r e.waiting_from at count → start ≡ length p.nodes.items → all ≡ at - start + count → ClosesElements p r e (nodes.List start all)
closes_mixed p q r e at count start all sound h is nodes_are waiting_are c begins sum =
    let ns = numbers_in p e in
    let ms = mapped number_slot ns in
    let are = number_nodes (store p) (length p.nodes.items) ns in
    let first = values_over (store p) (values p) ms in
    let ws = drop e.waiting_from (waiting p) in
    let grows = nodes_grow p q ms sound are is nodes_are waiting_are in
    let still = waiting_same p q ms sound are is nodes_are waiting_are in
    let more_values : values q ≡ values p ++ first = values_more p q ms sound are is nodes_are waiting_are in
    let ends : at ≡ start + length ms = c.behind ∙ (ap length nodes_are ∙ omega (arith, begins, length-append p.nodes.items ms)) in
    let counted : length first ≡ length ms = length_values_over (store p) (values p) ms in
    let before : length (values p) ≡ start = omega (arith, begins, length_values_after (store p) [] p.nodes.items) in
    let all_values : values r ≡ values p ++ (first ++ c.grows.more) =
    c.grows.values ∙ (ap (λ (vs : List Item). vs ++ c.grows.more) more_values ∙ append_assoc (values p) first c.grows.more) in
    let from_start : drop start (values r) ≡ first ++ c.grows.more = ap (λ (vs : List Item). drop start vs) all_values ∙ drop_at (values p) (first ++ c.grows.more) start before in
    let behind_first : drop at (values r) ≡ c.grows.more =
    ap (λ (vs : List Item). drop at vs) (c.grows.values ∙ ap (λ (vs : List Item). vs ++ c.grows.more) more_values)
    ∙ drop_at (values p ++ first) c.grows.more at (omega (arith, before, counted, ends, length-append (values p) first)) in
    let rest : take count c.grows.more ≡ ws = ap (λ (vs : List Item). take count vs) (sym behind_first) ∙ (c.shows ∙ ap (λ (vs : List Item). drop e.waiting_from vs) still) in
    let shown : take all (drop start (values r)) ≡ first ++ ws =
    ap (λ (vs : List Item). take all vs) from_start
    ∙ (take_both first c.grows.more all count (omega (arith, sum, ends, counted)) ∙ ap (λ (vs : List Item). first ++ vs) rest) in
    record {
      grows = grows_twice p q r grows c.grows;
      holds = omega (arith, c.holds, ends, sum);
      shows = ap list (ap elements_of shown ∙ (shown_elements (first ++ ws)
          ∙ ap values_of (shown-append first ws ∙ ap (λ (vs : List Value). vs ++ shown_of ws) (numbers_shown (store p) (values p) ns))));
      waiting = c.waiting ∙ ap (λ (vs : List Item). take e.waiting_from vs) still;
    }
