-- A node that means something under RFC 8259, told by its tokens, has tokens of the grammar alone.
use Rattle.std.specs.Prelude.{◌≡◌, ◌⊎◌, ◌&&◌, ◌||◌, ℕ, suc, filter, List, [], ◌∷◌, Bool, true, false, not, Option, Some, None, option_map, option_and_then, is_some, if◌then◌else◌, refl}
use Rattle.std.specs.Option.{option_map_or}
use Rattle.std.proofs.Common.{sym, ◌∙◌, ap, inl, inr}
use Rattle.std.proofs.lemmas.Bool.{and_parts}
use Rattle.smithy_types.specs.Document.{Document, Documents, null, item, with_pair}
use Rattle.smithy_types.specs.declared.number.Number.{Number}
use Rattle.smithy_declarations.specs.declared.place.Place.{Place}
use Rattle.smithy_declarations.specs.declared.shape_type.TimestampFormat.{TimestampFormat}
use Rattle.smithy_shapes.specs.Container.{Entry, folded, set_by, member_step, marks_type, is_variant, is_regular, all_regular, variant_of, element_of, element_step, entry_step, container_of}
use Rattle.smithy_shapes.specs.Limits.{Limits}
use Rattle.smithy_shapes.specs.Lemmas.Options.{step_apart, chosen, made}
use Rattle.smithy_declarations.specs.Table.{Table, Kind, scalar, document, structure_of, union_of, list_of, map_of, kind_of, place_in, where_document}
use Rattle.smithy_declarations.specs.Value.{Value, MemberValues, MapEntries, null_element}
use Rattle.smithy_schema.specs.Reading.{Mark}
use Rattle.smithy_declarations.specs.declared.shape_type.Scalar.{Scalar}
use Rattle.smithy_declarations.specs.declared.shape_type.Scalar.TheVariants as scalars
use Rattle.smithy_json_values.specs.Settings.{Settings}
use Rattle.smithy_json_values.specs.Scalar.{JsonScalar, text_of, document_says}
use Rattle.smithy_json_values.specs.Meaning.{rules_of}
use Rattle.smithy_json_values.specs.Standing.{json_frames}
use Rattle.smithy_json_values.specs.Tokens.{EntryTokens}
use Rattle.smithy_json_values.specs.Private.TokenGrammar.{in_good}
use Rattle.smithy_json_values.specs.LexicalGrammar.{rfc_8259, in_grammar, is_skipped_in, token_rules}
use Rattle.smithy_wire.specs.Node.{Form, as_array, as_object, Node, null_node, leaf, container, missing, Nodes, no_nodes, node, all_pass, nodes_pass, is_null}
use Rattle.smithy_wire.specs.Rules.{Answer, no_meaning, settled, Rules, is_shallow, at_depth, key_text, position_in}
use Rattle.smithy_wire.specs.Documents.{document_of, elements_of, pairs_of, document_meaning}
use Rattle.smithy_wire.specs.Meaning.{leaf_meaning, is_in, entry_at, meaning, entries}
use Rattle.smithy_wire.specs.Frames.{Frames, Lies as NodeLies, NodesLie}

-- ---- what a container asks of each entry

-- the child is passed over, a null, or means something
abbrev pub Counts : Entry → Type 0
Counts e = (e.is_absent ≡ true) ⊎ ((e.is_skippable ≡ true) ⊎ ((e.is_null ≡ true) ⊎ ((v : Value) × (e.meaning ≡ Some v))))

-- and in an object its key is a text
abbrev pub Serves : Form → Entry → Type 0
Serves as_array e = Counts e
Serves as_object e = ((text : List ℕ) × (e.key ≡ Some text)) × Counts e

abbrev pub AllServe : Form → List Entry → Type 0
AllServe f [] = Unit {0}
AllServe f (e ∷ es) = Serves f e × AllServe f es

fold_serves : {S : Type 0} (f : Form) (step : Entry → S → Option S) → ((e : Entry) (s u : S) → step e s ≡ Some u → Serves f e)
    → (es : List Entry) (s u : S) → folded step s es ≡ Some u → AllServe f es
fold_serves f step serves [] s u h = tt
fold_serves f step serves (e ∷ es) s u h =
    let one = step_apart (step e s) (λ after. folded step after es) u h in
    (serves e s one.0 one.1, fold_serves f step serves es one.0 u one.2)

either : {A : Type 0} (b : Bool) → (b ≡ true → A) → (b ≡ false → A) → A
either true yes' no' = yes' refl
either false yes' no' = no' refl

set_counts : (e : Entry) (position : Option ℕ) (s u : MemberValues) → set_by e position s ≡ Some u → Counts e
set_counts e None s u h = inr (inl (chosen e.is_skippable (Some s) u h).0)
set_counts e (Some n) s u h = let v = made _ e.meaning u h in inr (inr (inr (v.0, v.1)))

member_serves : (e : Entry) (s u : MemberValues) → member_step e s ≡ Some u → Serves as_object e
member_serves e s u h =
    let key = step_apart e.key (λ key. if e.is_absent then Some s else set_by e e.position s) u h in (
      (key.0, key.1),
      either e.is_absent (λ is. inl is)
          (λ is. set_counts e e.position s u (sym (ap (λ b. if b then Some s else set_by e e.position s) is) ∙ key.2)),
    )

element_counts : (e : Entry) (is_sparse : Bool) (u : Value) → element_of is_sparse e.is_null e.meaning ≡ Some u → Counts e
element_counts e is_sparse u h = either (e.is_null && is_sparse)
    (λ is. inr (inr (inl (and_parts e.is_null is_sparse is).0)))
    (λ is. inr (inr (inr (u, sym (ap (λ b. if b then Some null_element else e.meaning) is) ∙ h))))

element_serves : (is_sparse : Bool) (e : Entry) (s u : List Value) → element_step is_sparse e s ≡ Some u → Serves as_array e
element_serves is_sparse e s u h = let v = made _ (element_of is_sparse e.is_null e.meaning) u h in element_counts e is_sparse v.0 v.1

entry_serves : (is_sparse : Bool) (e : Entry) (s u : MapEntries) → entry_step is_sparse e s ≡ Some u → Serves as_object e
entry_serves is_sparse e s u h =
    let key = step_apart e.key _ u h in
    let v = made _ (element_of is_sparse e.is_null e.meaning) u key.2 in
    ((key.0, key.1), element_counts e is_sparse v.0 v.1)

-- ---- unions

some_is : (o : Option (List ℕ)) → is_some o ≡ true → (text : List ℕ) × (o ≡ Some text)
some_is None h = absurd (let no : false ≡ true = h in cc)
some_is (Some text) h = (text, refl)

regular_counts : (absent marks skippable : Bool) → not (absent || marks) ≡ false → (absent || not marks || skippable) ≡ true → (absent ≡ true) ⊎ (skippable ≡ true)
regular_counts true marks skippable h k = inl refl
regular_counts false true skippable h k = inr k
regular_counts false false skippable h k = absurd (let no : true ≡ false = h in cc)

regular_key : (e : Entry) → is_regular e ≡ true → (text : List ℕ) × (e.key ≡ Some text)
regular_key e h = some_is e.key (and_parts (is_some e.key) (e.is_absent || not (marks_type e) || e.is_skippable) h).0

other_counts : (e : Entry) → is_regular e ≡ true → is_variant e ≡ false → Counts e
other_counts e h is = elim (regular_counts e.is_absent (marks_type e) e.is_skippable is (and_parts (is_some e.key) (e.is_absent || not (marks_type e) || e.is_skippable) h).1) [
  | inl absent ↦ inl absent
  | inr skippable ↦ inr (inl skippable)
]

none_serve : (es : List Entry) → all_regular es ≡ true → filter is_variant es ≡ [] → AllServe as_object es
none_serve [] all h = tt
none_serve (e ∷ es) all h =
    let parts = and_parts (is_regular e) (all_regular es) all in
    either (is_variant e)
    (λ is. absurd (let no : e ∷ filter is_variant es ≡ [] = sym (ap (λ b. if b then e ∷ filter is_variant es else filter is_variant es) is) ∙ h in cc))
    (λ is. (
      (regular_key e parts.0, other_counts e parts.0 is),
      none_serve es parts.1 (sym (ap (λ b. if b then e ∷ filter is_variant es else filter is_variant es) is) ∙ h),
    ))

one_variant : (e : Entry) (es : List Entry) (u : Value) → variant_of (e ∷ es) ≡ Some u → (es ≡ []) × ((v : Value) × (e.meaning ≡ Some v))
one_variant e [] u h =
    let n = step_apart e.position _ u h in
    let v = made _ e.meaning u n.2 in
    (refl, (v.0, v.1))
one_variant e (f ∷ es) u h = absurd (let no : None ≡ Some u = h in cc)

union_serves : (es : List Entry) (u : Value) → all_regular es ≡ true → variant_of (filter is_variant es) ≡ Some u → AllServe as_object es
union_serves [] u all h = tt
union_serves (e ∷ es) u all h =
    let parts = and_parts (is_regular e) (all_regular es) all in
    either (is_variant e)
    (λ is.
    let one = one_variant e (filter is_variant es) u (sym (ap (λ b. variant_of (if b then e ∷ filter is_variant es else filter is_variant es)) is) ∙ h) in
    ((regular_key e parts.0, inr (inr (inr one.1))), none_serve es parts.1 one.0))
    (λ is. (
      (regular_key e parts.0, other_counts e parts.0 is),
      union_serves es u parts.1 (sym (ap (λ b. variant_of (if b then e ∷ filter is_variant es else filter is_variant es)) is) ∙ h),
    ))

-- ---- each container

pub container_serves : (k : Kind) (f : Form) (es : List Entry) (u : Value) → is_in k f ≡ true → container_of k es ≡ Some u → AllServe f es
container_serves (structure_of members) as_object es u is h =
    let s = made _ _ u h in fold_serves as_object member_step member_serves es _ s.0 s.1
container_serves (union_of members) as_object es u is h =
    let one = chosen (all_regular es) (variant_of (filter is_variant es)) u h in union_serves es u one.0 one.1
container_serves (list_of l) as_array es u is h =
    let s = made _ _ u h in fold_serves as_array (element_step l.is_sparse) (element_serves l.is_sparse) es _ s.0 s.1
container_serves (map_of m) as_object es u is h =
    let s = made _ _ u h in fold_serves as_object (entry_step m.is_sparse) (entry_serves m.is_sparse) es _ s.0 s.1
container_serves _ _ es u is h = cc

-- ---- nodes

where_either : {A : Type 0} (k : Kind) (here elsewhere : Option A) (v : A) → where_document k here elsewhere ≡ Some v → (here ≡ Some v) ⊎ (elsewhere ≡ Some v)
where_either document here elsewhere v h = inl h
where_either _ here elsewhere v h = inr h

guarded : {A : Type 0} (limits : Limits) (nil : A) (s : Scalar) (x : JsonScalar) (a : Answer A) (v : A)
    → settled limits nil (if in_grammar rfc_8259 s x then a else no_meaning) ≡ Some v → is_skipped_in rfc_8259 x ≡ true
guarded limits nil s x a v h = either (in_grammar rfc_8259 s x) (λ is. in_good s x is)
    (λ is. absurd (let no : None ≡ Some v = sym (ap (λ b. settled limits nil (if b then a else no_meaning)) is) ∙ h in cc))

null_good : (x : Node JsonScalar) → is_null x ≡ true → all_pass (is_skipped_in rfc_8259) x ≡ true
null_good null_node h = refl
null_good (leaf x) h = cc
null_good (container f xs) h = cc
null_good missing h = cc

pair_parts : (name : Option (List ℕ)) (d : Option (Document Number)) (pairs : Option (List (List ℕ × Document Number))) (us : List (List ℕ × Document Number))
    → with_pair name d pairs ≡ Some us
    → ((text : List ℕ) × (name ≡ Some text)) × ((u : Document Number) × (d ≡ Some u)) × ((vs : List (List ℕ × Document Number)) × (pairs ≡ Some vs))
pair_parts (Some text) (Some u) (Some vs) us h = ((text, refl), (u, refl), (vs, refl))
pair_parts (Some text) (Some u) None us h = cc
pair_parts (Some text) None pairs us h = cc
pair_parts None d pairs us h = cc

counts_of : (f : Form) (e : Entry) → Serves f e → Counts e
counts_of as_array e h = h
counts_of as_object e h = h.1

module _ (c : Settings) (i : List ℕ) where
  abbrev r : Rules JsonScalar
  r = token_rules rfc_8259 c

  abbrev says : JsonScalar → Answer (Document Number)
  says x = if in_grammar rfc_8259 scalars.BigDecimal x then document_says x else no_meaning

  abbrev good : JsonScalar → Bool
  good = is_skipped_in rfc_8259

  abbrev w : Frames JsonScalar
  w = json_frames

  key_good : (key : Option JsonScalar) (text : List ℕ) → option_and_then r.text_of key ≡ Some text → option_map_or good key true ≡ true
  key_good None text h = refl
  key_good (Some x) text h = in_good scalars.String x (chosen (in_grammar rfc_8259 scalars.String x) (text_of x) text h).0

  key_sound : (f : Form) (k : Kind) (d b : ℕ) (m : Mark) (key : Option JsonScalar) (x : Node JsonScalar) (at : ℕ) (n : Mark) (mean : Place → Option Value)
      → EntryTokens f i b m key at n → Serves f (entry_at r k f d key x mean) → option_map_or good key true ≡ true
  key_sound as_array k d b m key x at n mean entry serves = rw entry.0 refl
  key_sound as_object k d b m key x at n mean entry serves = key_good key serves.0.0 serves.0.1

  -- ---- where a document is due

  mutual
    pub document_sound : (d : ℕ) (x : Node JsonScalar) (a e : ℕ) (u : Document Number) → NodeLies w i d x a e → document_of r says d x ≡ Some u → all_pass good x ≡ true
    document_sound d null_node a e u lies h = refl
    document_sound d (leaf x) a e u lies h =
        guarded c.limits null scalars.BigDecimal x (document_says x) u (chosen (is_shallow r (suc d)) (settled r.limits null (says x)) u h).1
    document_sound d (container as_array xs) a e u lies h =
        let inside = made _ (elements_of r says (suc d) xs) u (chosen (is_shallow r (suc d)) _ u h).1 in
        elements_sound (suc d) xs lies.0 lies.1 e inside.0 lies.3 inside.1
    document_sound d (container as_object xs) a e u lies h =
        let inside = made _ (pairs_of r says (suc d) xs) u (chosen (is_shallow r (suc d)) _ u h).1 in
        pairs_sound (suc d) xs lies.0 lies.1 e inside.0 lies.3 inside.1
    document_sound d missing a e u lies h = cc

    elements_sound : (d : ℕ) (xs : Nodes JsonScalar) (b : ℕ) (m : Mark) (e : ℕ) (us : Documents Number) → NodesLie w as_array i d xs b m e
        → elements_of r says d xs ≡ Some us → nodes_pass good xs ≡ true
    elements_sound d no_nodes b m e us lies h = refl
    elements_sound d (node key x xs) b m e us lies h =
        let one = step_apart (document_of r says d x) (λ u. option_map (item u) (elements_of r says d xs)) us h in
        let rest = made (item one.0) (elements_of r says d xs) us one.2 in
        let child = document_sound d x lies.0 lies.2 one.0 lies.4 one.1 in
        let behind = elements_sound d xs lies.2 lies.1 e rest.0 lies.5 rest.1 in
        rw (lies.3.0, child, behind) refl

    pairs_sound : (d : ℕ) (xs : Nodes JsonScalar) (b : ℕ) (m : Mark) (e : ℕ) (us : List (List ℕ × Document Number)) → NodesLie w as_object i d xs b m e
        → pairs_of r says d xs ≡ Some us → nodes_pass good xs ≡ true
    pairs_sound d no_nodes b m e us lies h = refl
    pairs_sound d (node key x xs) b m e us lies h =
        let parts = pair_parts (key_text r as_object key) (document_of r says d x) (pairs_of r says d xs) us h in
        let child = document_sound d x lies.0 lies.2 parts.1.0 lies.4 parts.1.1 in
        let behind = pairs_sound d xs lies.2 lies.1 e parts.2.0 lies.5 parts.2.1 in
        rw (key_good key parts.0.0 parts.0.1, child, behind) refl

  -- ---- at any place

  leaf_sound : (k : Kind) (time : Option TimestampFormat) (d : ℕ) (x : JsonScalar) (v : Value)
      → where_document k (document_meaning r d (leaf x)) (leaf_meaning r k time x) ≡ Some v → good x ≡ true
  leaf_sound (scalar s) time d x v h = guarded c.limits null_element s x ((rules_of c).says s time x) v h
  leaf_sound document time d x v h =
      let u = made _ (document_of r says d (leaf x)) v h in
      guarded c.limits null scalars.BigDecimal x (document_says x) u.0 (chosen (is_shallow r (suc d)) (settled r.limits null (says x)) u.0 u.1).1
  leaf_sound _ time d x v h = cc

  child_sound : (t : Table) (k : Kind) (f : Form) (d : ℕ) (key : Option JsonScalar) (x : Node JsonScalar)
      → ((q : Place) (v : Value) → meaning r t q d x ≡ Some v → all_pass good x ≡ true)
      → Counts (entry_at r k f d key x (λ q. meaning r t q d x)) → all_pass good x ≡ true
  child_sound t k f d key x at_place (inl absent) = null_good x (and_parts (is_null x) _ absent).0
  child_sound t k f d key x at_place (inr (inl skippable)) = (and_parts (all_pass good x) _ skippable).0
  child_sound t k f d key x at_place (inr (inr (inl nil))) = null_good x nil
  child_sound t k f d key x at_place (inr (inr (inr (v, is)))) =
      let q = step_apart (place_in k (position_in r k (key_text r f key))) (λ q. meaning r t q d x) v is in
      at_place q.0 v q.2

  module _ (full : i ≡ [] → ⊥) where
    mutual
      pub sound : (t : Table) (p : Place) (d : ℕ) (x : Node JsonScalar) (a e : ℕ) (v : Value) → NodeLies w i d x a e → meaning r t p d x ≡ Some v → all_pass good x ≡ true
      sound t p d null_node a e v lies h = refl
      sound t p d (leaf x) a e v lies h = leaf_sound (kind_of t p) p.time d x v h
      sound t p d (container f xs) a e v lies h =
          elim (where_either (kind_of t p) (document_meaning r d (container f xs)) (at_depth r (suc d) (if is_in (kind_of t p) f then container_of (kind_of t p) (entries r t p f (suc d) xs) else None)) v h) [
            | inl here ↦ let u = made _ (document_of r says d (container f xs)) v here in document_sound d (container f xs) a e u.0 lies u.1
            | inr there ↦
                let inside = chosen (is_shallow r (suc d)) _ v there in
                let own = chosen (is_in (kind_of t p) f) (container_of (kind_of t p) (entries r t p f (suc d) xs)) v inside.1 in
                nodes_sound t p f (suc d) xs lies.0 lies.1 e lies.3 (container_serves (kind_of t p) f (entries r t p f (suc d) xs) v own.0 own.1)
          ]
      sound t p d missing a e v lies h = absurd (full lies.0.0)

      nodes_sound : (t : Table) (p : Place) (f : Form) (d : ℕ) (xs : Nodes JsonScalar) (b : ℕ) (m : Mark) (e : ℕ) → NodesLie w f i d xs b m e
          → AllServe f (entries r t p f d xs) → nodes_pass good xs ≡ true
      nodes_sound t p f d no_nodes b m e lies serves = refl
      nodes_sound t p f d (node key x xs) b m e lies serves =
          let one = entry_at r (kind_of t p) f d key x (λ q. meaning r t q d x) in
          let name = key_sound f (kind_of t p) d b m key x lies.0 lies.1 (λ q. meaning r t q d x) lies.3 serves.0 in
          let child = child_sound t (kind_of t p) f d key x (λ q v is. sound t q d x lies.0 lies.2 v lies.4 is) (counts_of f one serves.0) in
          let behind = nodes_sound t p f d xs lies.2 lies.1 e lies.5 serves.1 in
          rw (name, child, behind) refl
