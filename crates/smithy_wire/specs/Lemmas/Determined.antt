-- How a container goes on and ends is determined, and where it goes on it doesn't end.
use Rattle.std.specs.Prelude.{◌≡◌, ◌||◌, ◌&&◌, ℕ, zero, suc, List, Option, Bool, true, false, refl}
use Rattle.std.proofs.Common.{sym, ◌∙◌, ap, subst}
use Rattle.smithy_schema.specs.Reading.{Mark}
use Rattle.smithy_declarations.specs.Table.{Kind, structure_of, union_of, list_of, map_of}
use Rattle.smithy_wire.specs.Node.{Form, as_array, as_object, Node, null_node, leaf, container, missing}
use Rattle.smithy_wire.specs.Rules.{Rules, key_text, position_in, drops_null, is_absent, is_mark, may_skip, is_dropped}
use Rattle.smithy_wire.specs.Meaning.{is_in}
use Rattle.smithy_wire.specs.Frames.{Frames, Lies, Drops, DropsAll, StepsIn, EndsIn}
use Rattle.smithy_wire.specs.Wire.{IsWire}
use Rattle.smithy_wire.specs.Lemmas.Nodes.{one_node}

-- a kind has one form
pub one_form : (k : Kind) (f g : Form) → is_in k f ≡ true → is_in k g ≡ true → f ≡ g
one_form (structure_of members) as_array g h j = cc
one_form (structure_of members) as_object as_array h j = cc
one_form (structure_of members) as_object as_object h j = refl
one_form (union_of members) as_array g h j = cc
one_form (union_of members) as_object as_array h j = cc
one_form (union_of members) as_object as_object h j = refl
one_form (list_of l) as_array as_array h j = refl
one_form (list_of l) as_array as_object h j = cc
one_form (list_of l) as_object g h j = cc
one_form (map_of m) as_array g h j = cc
one_form (map_of m) as_object as_array h j = cc
one_form (map_of m) as_object as_object h j = refl
one_form _ f g h j = cc

-- an entry that no reader hands on
abbrev pub is_droppable : {L : Type 0} → Rules L → Kind → Option (List ℕ) → Node L → Bool
is_droppable r k key x = is_absent r k key x || is_mark r k key

dropped_where : (absent mark skips : Bool) → (absent || mark && skips) ≡ true → (absent || mark) ≡ true
dropped_where true mark skips h = refl
dropped_where false true skips h = refl
dropped_where false false skips h = h

-- what is dropped may be
pub droppable : {L : Type 0} (r : Rules L) (k : Kind) (d : ℕ) (key : Option (List ℕ)) (x : Node L) → is_dropped r k d key x ≡ true → is_droppable r k key x ≡ true
droppable r k d key x h = dropped_where (is_absent r k key x) (is_mark r k key) (may_skip r d x) h

neither : (a b : Bool) → a ≡ false → b ≡ false → (a || b) ≡ false
neither true b h j = cc
neither false b h j = j

module _ {L : Type 0} (w : Frames L) (r : Rules L) (i : List ℕ) (k : Kind) (d : ℕ) where
  -- where no null lies that is dropped, and behind a key that is no mark, whatever lies there is handed on
  pub handed_on : (text : Option (List ℕ)) (c e : ℕ) (x : Node L) → is_mark r k text ≡ false
      → ((e : ℕ) → w.null i d c e → drops_null r k (position_in r k text) ≡ false) → Lies w i d x c e → is_droppable r k text x ≡ false
  handed_on text c e null_node unmarked stays lies = neither (drops_null r k (position_in r k text)) (is_mark r k text) (stays e lies) unmarked
  handed_on text c e (leaf x) unmarked stays lies = unmarked
  handed_on text c e (container f xs) unmarked stays lies = unmarked
  handed_on text c e missing unmarked stays lies = unmarked

  -- dropped entries and one more
  pub drops_one_more : (f : Form) (count b : ℕ) (m : Mark) (c : ℕ) (n : Mark) (e : ℕ) (j : Mark) → DropsAll w r k f count i d b m c n
      → Drops w r k f i d c n e j → DropsAll w r k f (suc count) i d b m e j
  drops_one_more f zero b m c n e j h one = (e, j, rw (h.0, h.1) one, (refl, refl))
  drops_one_more f (suc count) b m c n e j h one = (h.0, h.1, h.2, drops_one_more f count h.0 h.1 c n e j h.3 one)

  pub step_hands_on : (f : Form) (b : ℕ) (m : Mark) (text : Option (List ℕ)) (c : ℕ) (n : Mark) (step : StepsIn w r k f i d b m text c n)
      → (x : Node L) (e : ℕ) → Lies w i d x c e → is_droppable r k (key_text r f step.key) x ≡ false
  step_hands_on f b m text c n step x e lies = rw step.names (handed_on text c e x step.unmarked step.stays lies)

module _ {L : Type 0} (w : Frames L) (r : Rules L) (wire : IsWire w) (i : List ℕ) (k : Kind) (f : Form) (d : ℕ) where
  entry_back : (b at : ℕ) (m j : Mark) (key : Option L) (c : ℕ) (n : Mark) → (b ≡ at) × (m ≡ j) → w.entry f i at j key c n → w.entry f i b m key c n
  entry_back b at m j key c n h entry = rw (h.0, h.1) entry

  end_back : (b at : ℕ) (m j : Mark) (e : ℕ) → (b ≡ at) × (m ≡ j) → w.ends f i at j e → w.ends f i b m e
  end_back b at m j e h ends = rw (h.0, h.1) ends

  -- one entry that is dropped is determined
  same_drop : (b : ℕ) (m : Mark) (c e : ℕ) (n o : Mark) → Drops w r k f i d b m c n → Drops w r k f i d b m e o → (c ≡ e) × (n ≡ o)
  same_drop b m c e n o h j =
      let entry = wire.same_entry f i b m h.key j.key h.at j.at n o h.entry j.entry in
      let node = one_node w wire i d h.child j.child h.at c e h.lies (rw entry.1 j.lies) in
      (node.1, entry.2)

  -- an entry isn't both dropped and handed on
  no_drop : (b : ℕ) (m : Mark) (key : Option L) (c : ℕ) (n : Mark) (e : ℕ) (o : Mark) → w.entry f i b m key c n
      → ((x : Node L) (e : ℕ) → Lies w i d x c e → is_droppable r k (key_text r f key) x ≡ false) → Drops w r k f i d b m e o → ⊥
  no_drop b m key c n e o entry stays h =
      let same = wire.same_entry f i b m key h.key c h.at n o entry h.entry in
      let kept = stays h.child e (rw same.1 h.lies) in
      let drop = droppable r k d (key_text r f h.key) h.child h.dropped in
      let other : is_droppable r k (key_text r f key) h.child ≡ true = rw same.0 drop in
      let clash = sym kept ∙ other in cc

  same_step_in : (x y b : ℕ) (m : Mark) (c e at at' : ℕ) (j j' n o : Mark) (key key' : Option L)
      → DropsAll w r k f x i d b m at j → w.entry f i at j key c n
      → ((z : Node L) (e : ℕ) → Lies w i d z c e → is_droppable r k (key_text r f key) z ≡ false)
      → DropsAll w r k f y i d b m at' j' → w.entry f i at' j' key' e o
      → ((z : Node L) (g : ℕ) → Lies w i d z e g → is_droppable r k (key_text r f key') z ≡ false)
      → (key ≡ key') × (c ≡ e) × (n ≡ o)
  same_step_in zero zero b m c e at at' j j' n o key key' p entry stays q entry' stays' =
      wire.same_entry f i b m key key' c e n o (entry_back b at m j key c n p entry) (entry_back b at' m j' key' e o q entry')
  same_step_in zero (suc y) b m c e at at' j j' n o key key' p entry stays q entry' stays' =
      absurd (no_drop b m key c n q.0 q.1 (entry_back b at m j key c n p entry) stays q.2)
  same_step_in (suc x) zero b m c e at at' j j' n o key key' p entry stays q entry' stays' =
      absurd (no_drop b m key' e o p.0 p.1 (entry_back b at' m j' key' e o q entry') stays' p.2)
  same_step_in (suc x) (suc y) b m c e at at' j j' n o key key' p entry stays q entry' stays' =
      let one = same_drop b m p.0 q.0 p.1 q.1 p.2 q.2 in
      same_step_in x y p.0 p.1 c e at at' j j' n o key key' p.3 entry stays (rw (one.0, one.1) q.3) entry' stays'

  pub same_step : (b : ℕ) (m : Mark) (text text' : Option (List ℕ)) (c e : ℕ) (n o : Mark) → StepsIn w r k f i d b m text c n → StepsIn w r k f i d b m text' e o
      → (text ≡ text') × (c ≡ e) × (n ≡ o)
  same_step b m text text' c e n o h j =
      let first = step_hands_on w r i k d f b m text c n h in
      let second = step_hands_on w r i k d f b m text' e o j in
      let one = same_step_in h.count j.count b m c e h.at j.at h.mark j.mark n o h.key j.key h.drops h.entry first j.drops j.entry second in
      (sym h.names ∙ ap (key_text r f) one.0 ∙ j.names, one.1, one.2)

  same_close_in : (x y b : ℕ) (m : Mark) (c e at at' : ℕ) (j j' : Mark) → DropsAll w r k f x i d b m at j → w.ends f i at j c
      → DropsAll w r k f y i d b m at' j' → w.ends f i at' j' e → c ≡ e
  same_close_in zero zero b m c e at at' j j' p ends q ends' = wire.same_ends f i b m c e (end_back b at m j c p ends) (end_back b at' m j' e q ends')
  same_close_in zero (suc y) b m c e at at' j j' p ends q ends' =
      absurd (wire.entry_or_end f i b m q.2.key q.2.at c q.1 q.2.entry (end_back b at m j c p ends))
  same_close_in (suc x) zero b m c e at at' j j' p ends q ends' =
      absurd (wire.entry_or_end f i b m p.2.key p.2.at e p.1 p.2.entry (end_back b at' m j' e q ends'))
  same_close_in (suc x) (suc y) b m c e at at' j j' p ends q ends' =
      let one = same_drop b m p.0 q.0 p.1 q.1 p.2 q.2 in
      same_close_in x y p.0 p.1 c e at at' j j' p.3 ends (rw (one.0, one.1) q.3) ends'

  pub same_close : (b : ℕ) (m : Mark) (c e : ℕ) → EndsIn w r k f i d b m c → EndsIn w r k f i d b m e → c ≡ e
  same_close b m c e h j = same_close_in h.0 j.0 b m c e h.1 j.1 h.2 j.2 h.3 h.4 j.3 j.4

  step_or_close_in : (x y b : ℕ) (m : Mark) (c e at at' : ℕ) (j j' n : Mark) (key : Option L) → DropsAll w r k f x i d b m at j → w.entry f i at j key c n
      → ((z : Node L) (e : ℕ) → Lies w i d z c e → is_droppable r k (key_text r f key) z ≡ false)
      → DropsAll w r k f y i d b m at' j' → w.ends f i at' j' e → ⊥
  step_or_close_in zero zero b m c e at at' j j' n key p entry stays q ends = wire.entry_or_end f i b m key c e n (entry_back b at m j key c n p entry) (end_back b at' m j' e q ends)
  step_or_close_in zero (suc y) b m c e at at' j j' n key p entry stays q ends = no_drop b m key c n q.0 q.1 (entry_back b at m j key c n p entry) stays q.2
  step_or_close_in (suc x) zero b m c e at at' j j' n key p entry stays q ends =
      wire.entry_or_end f i b m p.2.key p.2.at e p.1 p.2.entry (end_back b at' m j' e q ends)
  step_or_close_in (suc x) (suc y) b m c e at at' j j' n key p entry stays q ends =
      let one = same_drop b m p.0 q.0 p.1 q.1 p.2 q.2 in
      step_or_close_in x y p.0 p.1 c e at at' j j' n key p.3 entry stays (rw (one.0, one.1) q.3) ends

  pub step_or_close : (b : ℕ) (m : Mark) (text : Option (List ℕ)) (c : ℕ) (n : Mark) (e : ℕ) → StepsIn w r k f i d b m text c n → EndsIn w r k f i d b m e → ⊥
  step_or_close b m text c n e h j =
      step_or_close_in h.count j.0 b m c e h.at j.1 h.mark j.2 n h.key h.drops h.entry (step_hands_on w r i k d f b m text c n h) j.3 j.4

  -- where the input ends a structure neither goes on nor ends
  module _ (object : f ≡ as_object) (b o : ℕ) (m : Mark) (over : w.is_over i b o) (is : m ≡ w.over_mark) where
    no_entry : (key : Option L) (c : ℕ) (n : Mark) → w.entry f i b m key c n → ⊥
    no_entry key c n entry =
        wire.no_entry_over i b o key c n over (subst (λ s. w.entry s i b w.over_mark key c n) object (subst (λ z. w.entry f i b z key c n) is entry))

    no_end : (e : ℕ) → w.ends f i b m e → ⊥
    no_end e ends = wire.no_end_over i b o e over (subst (λ s. w.ends s i b w.over_mark e) object (subst (λ z. w.ends f i b z e) is ends))

    no_entry_all : (x at : ℕ) (j : Mark) (key : Option L) (c : ℕ) (n : Mark) → DropsAll w r k f x i d b m at j → w.entry f i at j key c n → ⊥
    no_entry_all zero at j key c n p entry = no_entry key c n (entry_back b at m j key c n p entry)
    no_entry_all (suc x) at j key c n p entry = no_entry p.2.key p.2.at p.1 p.2.entry

    pub no_step_over : (text : Option (List ℕ)) (c : ℕ) (n : Mark) → StepsIn w r k f i d b m text c n → ⊥
    no_step_over text c n h = no_entry_all h.count h.at h.mark h.key c n h.drops h.entry

    no_end_all : (x at : ℕ) (j : Mark) (e : ℕ) → DropsAll w r k f x i d b m at j → w.ends f i at j e → ⊥
    no_end_all zero at j e p ends = no_end e (end_back b at m j e p ends)
    no_end_all (suc x) at j e p ends = no_entry p.2.key p.2.at p.1 p.2.entry

    pub no_end_over : (e : ℕ) → EndsIn w r k f i d b m e → ⊥
    no_end_over e h = no_end_all h.0 h.1 h.2 e h.3 h.4
