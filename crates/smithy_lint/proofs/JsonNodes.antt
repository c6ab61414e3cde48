-- How the nodes of a JSON text begin, go on and end, by what the scanners found.
use Rattle.std.specs.Prelude.{◌≡◌, ◌≤◌, ◌<◌, ◌+◌, ◌&&◌, ℕ, suc, length, slice_range, List, Bool, true, false, Option, Some, None, Result, Ok, Err, is_ok, IfOk, OnErr, nat_le, refl}
use Rattle.std.specs.Option.{option_map_or}
use Rattle.std.proofs.Common.{sym, ◌∙◌, ap, arith, subst}
use Rattle.std.proofs.lemmas.Bool.Decides.{nat_tests}
use Rattle.smithy_json_grammar.specs.Ascii.{begin_array, begin_object, end_array, end_object, name_separator, is_ws}
use Rattle.smithy_json_grammar.specs.Standing.{IsRunAt, IsQuotedAt}
use Rattle.smithy_json_grammar.proofs.LenientTextLemmas.{one_closing}
use Rattle.smithy_json_values.specs.Scalar.{JsonScalar, a_string}
use Rattle.smithy_json_values.specs.Spans.{Lies, IsByte, fresh_mark, entry_mark, opening}
use Rattle.smithy_json_values.specs.Tokens.{IsNameToken, NameTokens}
use Rattle.smithy_json_values.specs.LexicalGrammar.{LexicalGrammar, grammar_of, rfc_8259, frames_of, is_skipped_in}
use Rattle.smithy_json_values.specs.Private.NextInContainer.{IsNotFirst, ClosesIn, ElementBegins, NameIsDue}
use Rattle.smithy_json_values.specs.Private.Skipping.{SkipsTo}
use Rattle.smithy_json_values.proofs.OpenContainers.{grammar_is_wire, node_parts}
use Rattle.smithy_json_values.proofs.NextInContainerLemmas.{name_there}
use Rattle.smithy_json_values.proofs.ScannedStrings.{name_lies, name_stands, colon_lies}
use Rattle.smithy_json_codec.specs.WireSettings.{wire_settings}
use Rattle.smithy_wire.specs.declared.walk.Mark.{Mark}
use Rattle.smithy_wire.specs.Node.{Form, as_array, as_object, Node, null_node, leaf, container, missing, Nodes, no_nodes, node, nesting, all_pass, nodes_pass}
use Rattle.smithy_wire.specs.Frames.{Frames, Lies as LiesAs, NodesLie}
use Rattle.smithy_wire.specs.Walking.{mark_of}
use Rattle.smithy_schema.specs.Reading.{Mark as Reading}
use Rattle.smithy_wire.specs.Wire.{IsWire, a_null, a_container}
use Rattle.smithy_wire.specs.Lemmas.Nodes.{sort_of, lies_sort, one_node, lies_ahead}
use Rattle.smithy_lint.specs.declared.body.Beginning.{Beginning}
use Rattle.smithy_lint.specs.declared.body.Beginning.TheVariants as begun
use Rattle.smithy_lint.specs.declared.body.Next.TheVariants.{Entry, End}
use Rattle.smithy_lint.specs.Private.Bodies.{Holding, HasValue, HasRest, HasKey, BeginsAs, Begins, KeyLies, GoesOn}
use Rattle.smithy_lint.specs.Private.JsonPlaces.{ValueLies, RestLies, KeyStands, holding_of}

-- under the settings of a wire the grammar is that of the standard, by computing
pub wire_is_standard : (use_json_name integral : Bool) → grammar_of (wire_settings use_json_name integral) ≡ rfc_8259
wire_is_standard use_json_name integral = refl

-- how a container of a form begins
abbrev opened : Form → ℕ → Mark → Beginning
opened as_array inside m = begun.Array inside m
opened as_object inside m = begun.Object inside m

module _ (g : LexicalGrammar) (i : List ℕ) where
  abbrev w : Frames JsonScalar
  w = frames_of g

  abbrev h : Holding JsonScalar
  h = holding_of g i

  wire : IsWire (frames_of g)
  wire = grammar_is_wire g

  -- ---- values

  pub value_ahead : (d : ℕ) (x : Node JsonScalar) (at e : ℕ) → ValueLies g i d x at e → (at < e) × (e ≤ length i)
  value_ahead d null_node at e v = lies_ahead w wire i d null_node at e v.0.0 (λ no. cc)
  value_ahead d (leaf x) at e v = lies_ahead w wire i d (leaf x) at e v.0.0 (λ no. cc)
  value_ahead d (container f xs) at e v = lies_ahead w wire i d (container f xs) at e v.0.0 (λ no. cc)
  value_ahead d missing at e v = absurd (let no : false ≡ true = v.0.1 in cc)

  pub value_within : (d at : ℕ) → HasValue h d at → at ≤ length i
  value_within d at there = let a = value_ahead d there.0 at there.1 there.2 in omega (arith, a.0, a.1)

  pub value_shallow : (d at : ℕ) → HasValue h d at → d ≤ 512
  value_shallow d at there = omega (arith, there.2.1)

  -- ---- how values begin

  container_begins : (f : Form) (xs : Nodes JsonScalar) (d e b : ℕ) (m : Mark) → RestLies g i f (suc d) xs b m e → BeginsAs h d (container f xs) e (opened f b m)
  container_begins as_array xs d e b m rest = (b, m, refl, rest)
  container_begins as_object xs d e b m rest = (b, m, refl, rest)

  same_form : (f k : Form) → a_container f ≡ a_container k → k ≡ f
  same_form f k same = cc

  pub container_begun : (f : Form) (at inside : ℕ) (m : Mark) → mark_of m ≡ fresh_mark → Lies (IsByte (opening f)) i at inside → Begins h at (opened f inside m)
  container_begun f at inside m fresh lies d x e v = by x v (sym (lies_sort w wire i d x at e v.0.0) ∙ wire.opens_sort f i at inside fresh_mark (refl, lies))
    where
      by : (x : Node JsonScalar) → ValueLies g i d x at e → sort_of x ≡ a_container f → BeginsAs h d x e (opened f inside m)
      by null_node v sort = cc
      by (leaf y) v sort = cc
      by missing v sort = cc
      by (container k xs) (((b, n, opens, lie, follows), passes), bound) sort =
          let is = same_form f k (sym sort) in
          let there : w.opens f i at b n = subst (λ (s : Form). w.opens s i at b n) is opens in
          let same = wire.same_opens f i at b inside n fresh_mark there (refl, lies) in
          let within = wire.opens_ahead f i at b n there in
          let rest : NodesLie w k i (suc d) xs inside (mark_of m) e =
          subst (λ (p : ℕ × Reading). NodesLie w k i (suc d) xs p.0 p.1 e) (λ j. (same.0 j, (same.1 ∙ sym fresh) j)) lie in
          subst (λ (o : Beginning). BeginsAs h d (container k xs) e o) (ap (λ (s : Form). opened s inside m) is)
          (container_begins k xs d e inside m (rest, passes, follows, subst (λ n. n ≤ length i) same.0 within.1, omega (arith, bound)))

  pub null_begun : (at end : ℕ) → w.null i 0 at end → Begins h at (begun.Null end)
  null_begun at end lies d x e v = by x v (sym (lies_sort w wire i d x at e v.0.0) ∙ wire.null_sort i 0 at end lies)
    where
      by : (x : Node JsonScalar) → ValueLies g i d x at e → sort_of x ≡ a_null → BeginsAs h d x e (begun.Null end)
      by null_node v sort = ap begun.Null (wire.same_null i 0 at end e lies v.0.0)
      by (leaf y) v sort = cc
      by missing v sort = cc
      by (container k xs) v sort = cc

  pub scalar_begun : (at : ℕ) → ((e : ℕ) → Lies (IsByte begin_array) i at e → ⊥) → ((e : ℕ) → Lies (IsByte begin_object) i at e → ⊥)
      → ((e : ℕ) → w.null i 0 at e → ⊥) → Begins h at begun.Scalar
  scalar_begun at no_array no_object no_null d null_node e v = absurd (no_null e v.0.0)
  scalar_begun at no_array no_object no_null d (leaf x) e v = refl
  scalar_begun at no_array no_object no_null d (container as_array xs) e v = absurd (no_array v.0.0.0 v.0.0.2.1)
  scalar_begun at no_array no_object no_null d (container as_object xs) e v = absurd (no_object v.0.0.0 v.0.0.2.1)
  scalar_begun at no_array no_object no_null d missing e v = absurd (let no : false ≡ true = v.0.1 in cc)

  -- ---- how containers go on

  pub rest_within : (f : Form) (d at : ℕ) (m : Mark) → HasRest h f d at m → at ≤ length i
  rest_within f d at m there = there.2.3

  -- with an entry that begins there
  pub entry_goes : (f : Form) (d at : ℕ) (m : Mark) (key : Option JsonScalar) (k c : ℕ) (n : Mark) → w.entry f i at (mark_of m) key c (mark_of n) → KeyLies h f key k
      → GoesOn h f d at m (Entry k c n)
  entry_goes f d at m key k c n entry named no_nodes e rest = absurd (wire.entry_or_end f i at (mark_of m) key c e (mark_of n) entry rest.0)
  entry_goes f d at m key k c n entry named (node name x xs) e ((c', n', f', entry', lies, lie), passes, follows, within, bound) =
      let same = wire.same_entry f i at (mark_of m) name key c' c n' (mark_of n) entry' entry in
      let parts = node_parts (is_skipped_in g) name x xs passes in
      let value : ValueLies g i d x c f' = ((subst (λ j. LiesAs w i d x j f') same.1 lies, parts.1), omega (arith, bound)) in
      let ahead = value_ahead d x c f' value in
      let up = wire.entry_ahead f i at (mark_of m) key c (mark_of n) entry in (
        k,
        c,
        n,
        f',
        refl,
        subst (λ o. KeyLies h f o k) (sym same.0) named,
        value,
        (subst (λ (o : Reading). NodesLie w f i d xs f' o e) same.2 lie, parts.2, follows, ahead.1, omega (arith, bound)),
        omega (arith, ahead.0, ahead.1, up),
      )

  -- or with its end
  pub end_goes : (f : Form) (d at : ℕ) (m : Mark) (end : ℕ) → w.ends f i at (mark_of m) end → GoesOn h f d at m (End end)
  end_goes f d at m end ends no_nodes e rest = ap End (wire.same_ends f i at (mark_of m) end e ends rest.0)
  end_goes f d at m end ends (node name x xs) e ((c, n, f', entry, lies, lie), passes, follows, within, bound) =
      absurd (wire.entry_or_end f i at (mark_of m) name c end n entry ends)

  -- one of both comes
  pub list_goes : (d at : ℕ) (m : Mark) → HasRest h as_array d at m → ((c : ℕ) → ElementBegins i at m.entered c → ⊥) → ((e : ℕ) → ClosesIn g end_array i at d e → ⊥) → ⊥
  list_goes d at m (no_nodes, e, (ends, passes, follows, within, bound)) no_element no_end = no_end e (ends, follows)
  list_goes d at m (node name x xs, e, ((c, n, f, entry, lies, lie), passes, follows, within, bound)) no_element no_end = no_element c (entry.2, entry.3)

  pub object_goes : (d at : ℕ) (m : Mark) → HasRest h as_object d at m → ((raw : List ℕ) (c : ℕ) → NameTokens m.entered i at raw c → ⊥)
      → ((e : ℕ) → ClosesIn g end_object i at d e → ⊥) → ⊥
  object_goes d at m (no_nodes, e, (ends, passes, follows, within, bound)) no_name no_end = no_end e (ends, follows)
  object_goes d at m (node name x xs, e, ((c, n, f, entry, lies, lie), passes, follows, within, bound)) no_name no_end = no_name entry.0 c entry.3

  -- ---- keys

  module _ (standard : g ≡ rfc_8259) where
    text_in : (raw : List ℕ) → is_skipped_in g (a_string raw) ≡ true → g.is_text raw ≡ true
    text_in raw = subst (λ (l : LexicalGrammar). is_skipped_in l (a_string raw) ≡ true → l.is_text raw ≡ true) (sym standard) (λ passes. passes)

    -- where a name is due, one lies, with its colon behind it
    pub name_due : (d at : ℕ) (m : Mark) (place : ℕ) → HasRest h as_object d at m → NameIsDue i at m.entered place
        → (raw : List ℕ) × (c : ℕ) × Lies (IsNameToken raw) i place c × (g.is_text raw ≡ true)
    name_due d at m place (no_nodes, e, (ends, passes, follows, within, bound)) due = absurd (due.1 e ends)
    name_due d at m place (node name x xs, e, ((c, n, f, entry, lies, lie), passes, follows, within, bound)) due =
        let raw = entry.0 in
        let parts = node_parts (is_skipped_in g) name x xs passes in
        let named : is_skipped_in g (a_string raw) ≡ true = subst (λ o. option_map_or (is_skipped_in g) o true ≡ true) entry.1 parts.0 in
        (raw, c, name_there i at m.entered place due raw c entry.3, text_in raw named)

    module _ (d at : ℕ) (m : Mark) (place start : ℕ) (there : HasRest h as_object d at m) (due : NameIsDue i at m.entered place) (run : IsRunAt is_ws i place start) where
      -- so its string stands behind the white space
      pub string_due : ((closing : ℕ) → IsQuotedAt i start closing → g.is_text (slice_range i (start + 1) closing) ≡ false) → ⊥
      string_due none =
          let name = name_due d at m place there due in
          let stands = name_stands i place start run name.0 name.1 name.2 in
          let fails = none (start + 1 + length name.0) stands.0 in
          let passes = ap g.is_text stands.1 ∙ name.3 in
          cc

      pub colon_due : (closing : ℕ) → IsQuotedAt i start closing → IsNotFirst name_separator i (closing + 1) → ⊥
      colon_due closing here none =
          let name = name_due d at m place there due in
          none name.1 (colon_lies i place start run name.0 name.1 name.2 closing here)

      pub name_goes : (closing : ℕ) (text : List ℕ) → IsQuotedAt i start closing → text ≡ slice_range i (start + 1) closing → g.is_text text ≡ true
          → (value : ℕ) → Lies (IsByte name_separator) i (closing + 1) value → (n : Mark) → mark_of n ≡ entry_mark → GoesOn h as_object d at m (Entry start value n)
      name_goes closing text here is valid value colon n entered =
          let raw = slice_range i (start + 1) closing in
          let lies = name_lies i place start run closing here value colon in
          let stands = name_stands i place start run raw value lies in
          entry_goes as_object d at m (Some (a_string raw)) start value n (raw, refl, entered, (place, due.0, lies))
          (raw, refl, stands.0, stands.1, subst (λ t. g.is_text t ≡ true) is valid)

  -- the key that stands there has this text
  pub key_within : (at : ℕ) → HasKey h at → at ≤ length i
  key_within at there = let quoted = there.1.2 in omega (arith, quoted.ordered, quoted.within)

  pub key_due : (at : ℕ) → HasKey h at → ((closing : ℕ) → IsQuotedAt i at closing → g.is_text (slice_range i (at + 1) closing) ≡ false) → ⊥
  key_due at there none =
      let raw = there.1.0 in
      let fails = none (at + 1 + length raw) there.1.2 in
      let passes = ap g.is_text there.1.3 ∙ there.1.4 in
      cc

  pub key_is : (at closing : ℕ) (text : List ℕ) → IsQuotedAt i at closing → text ≡ slice_range i (at + 1) closing → (k : JsonScalar) → KeyStands g i k at → k ≡ a_string text
  key_is at closing text here is k stands =
      let raw = stands.0 in
      let same : closing ≡ at + 1 + length raw = one_closing i at closing (at + 1 + length raw) here stands.2 in
      stands.1 ∙ ap a_string (sym (is ∙ ap (slice_range i (at + 1)) same ∙ stands.3))

  -- ---- ends

  module _ (l : LexicalGrammar) (most : ℕ) (same : l ≡ g) (is : most ≡ 512) where
    skips_same : (d at e : ℕ) → SkipsTo l most d i at e → SkipsTo g 512 d i at e
    skips_same d at e = subst (λ (p : LexicalGrammar × ℕ). SkipsTo l most d i at e → SkipsTo p.0 p.1 d i at e) (λ j. (same j, is j)) (λ s. s)

    skips_back : (d at e : ℕ) → SkipsTo g 512 d i at e → SkipsTo l most d i at e
    skips_back d at e = subst (λ (p : LexicalGrammar × ℕ). SkipsTo p.0 p.1 d i at e → SkipsTo l most d i at e) (λ j. (same j, is j)) (λ s. s)

    pub end_is : (d at end : ℕ) → SkipsTo l most d i at end → (x : Node JsonScalar) (e : ℕ) → ValueLies g i d x at e → end ≡ e
    end_is d at end skips x e v =
        let s = skips_same d at end skips in (one_node w wire i d s.node x at end e s.lies.0 v.0.0).1

    pub ends_there : (d at : ℕ) → HasValue h d at → ((e : ℕ) → SkipsTo l most d i at e → ⊥) → ⊥
    ends_there d at there none = none there.1 (skips_back d at there.1 (record { node = there.0; lies = there.2.0; shallow = there.2.1 }))

  -- ---- what may be skipped

  mutual
    all_there : (x : Node JsonScalar) → all_pass (is_skipped_in g) x ≡ true → all_pass (λ y. true) x ≡ true
    all_there null_node passes = refl
    all_there (leaf x) passes = refl
    all_there (container f xs) passes = nodes_there xs passes
    all_there missing passes = passes

    nodes_there : (xs : Nodes JsonScalar) → nodes_pass (is_skipped_in g) xs ≡ true → nodes_pass (λ y. true) xs ≡ true
    nodes_there no_nodes passes = refl
    nodes_there (node None x xs) passes = let parts = node_parts (is_skipped_in g) None x xs passes in rw (all_there x parts.1, nodes_there xs parts.2) refl
    nodes_there (node (Some k) x xs) passes = let parts = node_parts (is_skipped_in g) (Some k) x xs passes in rw (all_there x parts.1, nodes_there xs parts.2) refl

  not_low : (n most : ℕ) → (n ≤ most → ⊥) → nat_le n most ≡ false
  not_low n most deep = by (nat_le n most) refl
    where
      by : (t : Bool) → nat_le n most ≡ t → nat_le n most ≡ false
      by true is = absurd (deep (grind (arith, nat_tests)))
      by false is = is

  skips_when : (x : Node JsonScalar) (d most : ℕ) (skips : Bool) → all_pass (is_skipped_in g) x ≡ true → nat_le (d + nesting x) most ≡ skips
      → skips ≡ (all_pass (λ y. true) x && nat_le (d + nesting x) most)
  skips_when x d most skips passes is = sym is ∙ ap (λ b. b && nat_le (d + nesting x) most) (sym (all_there x passes))

  -- nothing inside of too many containers
  pub skips_not : (d at most : ℕ) → most < d → (x : Node JsonScalar) (e : ℕ) → ValueLies g i d x at e → false ≡ (all_pass (λ y. true) x && nat_le (d + nesting x) most)
  skips_not d at most deep x e v = skips_when x d most false v.0.1 (not_low (d + nesting x) most (λ low. omega (arith, deep, low)))

  -- and else what has an end
  pub skips_by : {E : Type 0} (d at most : ℕ) (r : Result ℕ E) → IfOk r (λ end. SkipsTo g most d i at end) → OnErr r ((e : ℕ) → SkipsTo g most d i at e → ⊥)
      → (x : Node JsonScalar) (e : ℕ) → ValueLies g i d x at e → is_ok r ≡ (all_pass (λ y. true) x && nat_le (d + nesting x) most)
  skips_by d at most (Ok end) ok refused x e v =
      let same = (one_node w wire i d ok.node x at end e ok.lies.0 v.0.0).0 in
      let low : d + nesting x ≤ most = subst (λ (y : Node JsonScalar). d + nesting y ≤ most) same ok.shallow in
      skips_when x d most true v.0.1 (grind (arith, nat_tests))
  skips_by d at most (Err error) ok refused x e v =
      skips_when x d most false v.0.1 (not_low (d + nesting x) most (λ low. refused e (record { node = x; lies = v.0; shallow = low })))
