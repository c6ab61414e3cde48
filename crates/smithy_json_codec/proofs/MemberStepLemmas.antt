-- Where a structure or a union goes on to, as the contract of reading says it.
use Rattle.std.proofs.Common.{◌≡◌, ◌≤◌, ◌<◌, ◌+◌, ℕ, zero, suc, length, drop, List, [], ◌∷◌, Bool, true, false, Some, None, refl, sym, ap, subst, ◌∙◌, arith}
use Rattle.std.proofs.lemmas.Bool.Decides.{nat_tests}
use Rattle.std.specs.Prelude.{◌↔◌, ◌&&◌, ◌||◌, not, is_none, IsTrue, Option, option_and_then, option_map, slice_get, cond, nat_lt}
use Rattle.std.specs.List.{position_or_len}
use Rattle.std.specs.Option.{option_map_or}
use Rattle.smithy_declarations.specs.declared.place.Place.{Place}
use Rattle.smithy_declarations.specs.declared.place.Target.{Target}
use Rattle.smithy_declarations.specs.declared.place.Target.TheVariants.{Simple, Document, Declared}
use Rattle.smithy_schema.specs.declared.step.Step.{Step}
use Rattle.smithy_schema.specs.declared.step.Step.TheVariants.{Member as ToMember, Unknown, End}
use Rattle.smithy_shapes.specs.declared.schema.Schema.{Schema}
use Rattle.smithy_declarations.specs.Table.{Table, Member, Kind, structure_of, union_of, members_of, member_place, kind_of, kind_of_target, is_document_target, is_document_place, IsDocument, IsStructure, HasMembers}
use Rattle.smithy_shapes.specs.Lemmas.Kinds.{document_place_is}
use Rattle.smithy_shapes.specs.Lemmas.Options.{made}
use Rattle.smithy_shapes.specs.Site.{Site, site_of, member_site, kind_at, site_of_member}
use Rattle.smithy_schema.specs.Reading.{Cursor, depth, Steps, Leaves, MatchStep, CannotGoOn, passed_to, in_structure}
use Rattle.smithy_json_grammar.specs.Unescape.{unescaped}
use Rattle.smithy_json_codec.specs.Cursor.{inside_of}
use Rattle.smithy_wire.specs.Walking.{gone_on_to}
use Rattle.smithy_json_values.specs.Settings.{Settings, kept, without_limits, is_shallow}
use Rattle.smithy_json_values.specs.Meaning.{rules_of}
use Rattle.smithy_json_values.specs.LexicalGrammar.{LexicalGrammar, is_skipped_in}
use Rattle.smithy_json_values.specs.Standing.{json_grammar, json_relations}
use Rattle.smithy_json_values.specs.Tokens.{BoundaryBy, IsOverBy, EndsInside}
use Rattle.smithy_json_values.specs.Private.Wire.{over_is_end}
use Rattle.smithy_json_codec.specs.Private.PassedEntries.{type_name, Passing, StepsToMember, ClosesMembers, NoSkip, NoSkipWithin, NothingComes}
use Rattle.smithy_json_values.specs.Openers.{json_openers}
use Rattle.smithy_json_codec.specs.Private.MemberSteps.{EndsEmpty, StepsTo, passes_null}
use Rattle.smithy_json_values.specs.Private.Skipping.{SkipsTo}
use Rattle.smithy_json_codec.proofs.DeserializerLemmas.{kept_shallow, shallow_kept}
use Rattle.smithy_json_codec.proofs.ReaderLemmas.{steps_to_member, closes_members, members_are_stuck}
use Rattle.smithy_json_codec.proofs.SkippedValues.{skips_are}
use Rattle.smithy_wire.specs.Node.{nesting}
use Rattle.smithy_wire.specs.Rules.{position_in, drops_null, is_mark}
use Rattle.smithy_json_values.proofs.OpenersLemmas.{node_takes_none}
use Rattle.smithy_json_values.proofs.SkipSteps.{node_ahead}

-- ---- a member's name and its step

first_within : {X : Type 0} (p : X → Bool) (xs : List X) (test : Bool) → nat_lt (position_or_len p xs) (length xs) ≡ test → (n : ℕ)
    → cond test (Some (position_or_len p xs)) None ≡ Some n → n < length xs
first_within p xs true less n h =
    let same : position_or_len p xs ≡ n = cc in
    subst (λ k. k < length xs) same (grind (arith, nat_tests, less))
first_within p xs false less n h = absurd (let none : None ≡ Some n = h in cc)

gets : {X : Type 0} (xs : List X) (n : ℕ) → n < length xs → slice_get xs n ≡ None → ⊥
gets [] n within h = omega (arith, within)
gets (x ∷ xs) zero within h = cc
gets (x ∷ xs) (suc n) within h = gets xs n (omega (arith, within)) h

no_site : {A B : Type 0} (f : A → B) (found : Option A) → option_map f found ≡ None → found ≡ None
no_site f None h = refl
no_site f (Some x) h = absurd (let none : Some (f x) ≡ None = h in cc)

-- the position of a member is one of the members
pub named_site : (o : Settings) (outer : Site) (name : List ℕ) (found : Option ℕ) → position_in (rules_of o) (kind_at outer) (Some name) ≡ found
    → option_and_then (member_site outer) found ≡ None → found ≡ None
named_site o outer name None is h = refl
named_site o outer name (Some n) is h =
    let members = members_of (kind_at outer) in
    absurd (gets members n (first_within _ members _ refl n is) (no_site (site_of_member outer.table n) (slice_get members n) h))

pub site_found : (o : Settings) (outer : Site) (found : Option ℕ) (s : Schema)
    → option_and_then (member_site outer) found ≡ Some (site_of s) → (n : ℕ) × (found ≡ Some n) × (member_site outer n ≡ Some (site_of s))
site_found o outer None s h = absurd (let none : None ≡ Some (site_of s) = h in cc)
site_found o outer (Some n) s h = (n, refl, h)

-- a `__type` is a mark exactly where it names no member
unnamed : (b : Bool) → b ≡ (true && (b && true))
unnamed true = refl
unnamed false = refl

pub mark_is_unnamed : (o : Settings) (k : Kind) → HasMembers k → is_none (position_in (rules_of o) k (Some type_name)) ≡ is_mark (rules_of o) k (Some type_name)
mark_is_unnamed o (structure_of members) h = unnamed (is_none (position_in (rules_of o) (structure_of members) (Some type_name)))
mark_is_unnamed o (union_of members) h = unnamed (is_none (position_in (rules_of o) (union_of members) (Some type_name)))
mark_is_unnamed o _ h = absurd h

-- a null is passed over exactly where it is dropped
pub null_is_unkept : (o : Settings) (outer : Site) → HasMembers (kind_at outer) → (text : List ℕ)
    → passes_null o outer text ≡ drops_null (rules_of o) (kind_at outer) (position_in (rules_of o) (kind_at outer) (Some text))
null_is_unkept o outer has text = by (kind_at outer) has (position_in (rules_of o) (kind_at outer) (Some text))
  where
    by : (k : Kind) → HasMembers k → (n : Option ℕ) → not ((rules_of o).keeps_null (member_place (members_of k) n)) ≡ drops_null (rules_of o) k n
    by (structure_of members) h n = refl
    by (union_of members) h n = refl
    by _ h n = absurd h

-- where the target says so, a document stands
target_is_document : (t : Table) (target : Target) → is_document_target target ≡ true → IsDocument (kind_of_target t target)
target_is_document t (Simple s) h = cc
target_is_document t Document h = tt
target_is_document t (Declared r) h = cc

document_test : (t : Table) (p : Place) (b : Bool) → IsTrue b ↔ IsDocument (kind_of t p) → not b ≡ not (is_document_place p)
document_test t p true h = ap not (sym (document_place_is t p (h.0 refl)))
document_test t p false h = by (is_document_place p) refl
  where
    by : (test : Bool) → is_document_place p ≡ test → not false ≡ not (is_document_place p)
    by true is = absurd (let clash : false ≡ true = h.1 (target_is_document t p.target is) in cc)
    by false is = ap not (sym is)

-- where the settings hand nulls on, none is passed over
pub dispatch_passes_none : (o : Settings) (outer : Site) (name : List ℕ) → o.dispatch_null_members ≡ true → false ≡ passes_null o outer name
dispatch_passes_none o outer name on =
    let found = member_place (members_of (kind_at outer)) (position_in (rules_of o) (kind_at outer) (Some name)) in
    sym (ap (λ b. not (b || option_map_or is_document_place found false)) on)

module _ (o : Settings) (outer : Site) (name : List ℕ) (off : o.dispatch_null_members ≡ false) where
  by_member : (found : Option Place) → not (option_map_or is_document_place found false) ≡ not ((rules_of o).keeps_null found)
  by_member found = sym (ap (λ b. not (b || option_map_or is_document_place found false)) off)

  -- else a null is passed over where its member is no document
  pub member_passes_null : (s : Schema) (b : Bool)
      → (n : ℕ) × (position_in (rules_of o) (kind_at outer) (Some name) ≡ Some n) × (member_site outer n ≡ Some (site_of s))
      → IsTrue b ↔ IsDocument (kind_at (site_of s)) → not b ≡ passes_null o outer name
  member_passes_null s b (n, position, site) test =
      let members = members_of (kind_at outer) in
      let m = made (site_of_member outer.table n) (slice_get members n) (site_of s) site in
      let place : member_place members (Some n) ≡ Some m.0.place = ap (option_map (λ (x : Member). x.place)) m.1 in
      let here : IsTrue b ↔ IsDocument (kind_of outer.table m.0.place) = subst (λ (x : Site). IsTrue b ↔ IsDocument (kind_at x)) (sym m.2) test in
      document_test outer.table m.0.place b here
      ∙ sym (ap (λ found. not (option_map_or is_document_place (member_place members found) false)) position
      ∙ ap (λ found. not (option_map_or is_document_place found false)) place)
      ∙ by_member (member_place members (position_in (rules_of o) (kind_at outer) (Some name)))

  pub unknown_passes_null : position_in (rules_of o) (kind_at outer) (Some name) ≡ None → true ≡ passes_null o outer name
  unknown_passes_null none =
      let members = members_of (kind_at outer) in
      sym (ap (λ found. not (option_map_or is_document_place (member_place members found) false)) none)
      ∙ by_member (member_place members (position_in (rules_of o) (kind_at outer) (Some name)))

-- ---- which settings pass over what

-- under limits that are kept what is skipped is skipped within them, and under others whatever its depth
pub skips_within : (o : Settings) (input : List ℕ) (d greatest : ℕ) → o.limits ≡ kept → o.max_depth ≡ greatest → (c e : ℕ) → SkipsTo (json_grammar o) greatest d input c e → (json_relations o).skips input d c e
skips_within o input d greatest limits most c e h =
    (skips_are (json_grammar o) o input d c e).0 (h.node, h.lies, shallow_kept o (d + nesting h.node) limits (subst (λ n. d + nesting h.node ≤ n) (sym most) h.shallow))

pub skips_lifted : (o : Settings) (input : List ℕ) (d greatest : ℕ) (c e : ℕ) → SkipsTo (json_grammar o) greatest d input c e → (json_relations (without_limits o)).skips input d c e
skips_lifted o input d greatest c e h = (skips_are (json_grammar o) (without_limits o) input d c e).0 (h.node, h.lies, refl)

pub unskipped_within : (o : Settings) (input : List ℕ) (d greatest : ℕ) → o.limits ≡ kept → o.max_depth ≡ greatest → (c : ℕ) → NoSkipWithin (json_grammar o) greatest d input c
    → (e : ℕ) → (json_relations o).skips input d c e → ⊥
unskipped_within o input d greatest limits most c none e skips =
    let s = (skips_are (json_grammar o) o input d c e).1 skips in
    none e (record { node = s.0; lies = s.1; shallow = subst (λ n. d + nesting s.0 ≤ n) most (kept_shallow o (d + nesting s.0) limits s.2) })

pub unskipped_lifted : (o : Settings) (input : List ℕ) (d : ℕ) (c : ℕ) → NoSkip (json_grammar o) d input c → (e : ℕ) → (json_relations (without_limits o)).skips input d c e → ⊥
unskipped_lifted o input d c none e skips =
    let s = (skips_are (json_grammar o) (without_limits o) input d c e).1 skips in
    none (d + nesting s.0) e (record { node = s.0; lies = s.1; shallow = omega arith })

-- ---- steps and ends

module _ (o : Settings) (c new : Cursor) (at : ℕ) (outer : Site) (kind : HasMembers (kind_at outer)) (passing : Passing) (marked : passing.marks ≡ is_mark (rules_of o) (kind_at outer) (Some type_name))
    (dropped : (text : List ℕ) → passing.nulls text ≡ drops_null (rules_of o) (kind_at outer) (position_in (rules_of o) (kind_at outer) (Some text))) (greatest : ℕ) (skips : (b e : ℕ) → SkipsTo (json_grammar o) greatest (depth c) c.input b e → (json_relations o).skips c.input (depth c) b e) where
  member_comes : (value : ℕ) (raw name : List ℕ) → c.inner.within ≡ in_structure → c.failed ≡ false
      → new ≡ gone_on_to c value (inside_of in_structure true) → unescaped raw ≡ Some name
      → StepsToMember (json_grammar o) passing greatest (depth c) c.input at c.inner.mark.entered raw value → Steps (json_relations o) (passed_to c at) new outer.table outer.place (Some name)
  member_comes value raw name within sound is some s = rw is (record {
    steps = steps_to_member o c.input outer.table outer.place kind passing marked dropped greatest (depth c) skips s.0 at c.inner.mark s.1 s.2 raw name value
        s.3 s.4 some s.5 s.6;
    input = refl;
    within = sym within;
    outer = refl;
    due = refl;
    failed = sound;
  })

  -- the step to a member, or to an unknown entry
  pub steps_to : (value : ℕ) (raw name : List ℕ) (step : Step) → c.inner.within ≡ in_structure → c.failed ≡ false
      → new ≡ gone_on_to c value (inside_of in_structure true) → unescaped raw ≡ Some name
      → StepsToMember (json_grammar o) passing greatest (depth c) c.input at c.inner.mark.entered raw value → StepsTo step o outer name → MatchStep step (json_relations o) (passed_to c at) new outer
  steps_to value raw name (ToMember s) within sound is some steps leads =
      (name, leads.0, member_comes value raw name within sound is some steps, leads.1, leads.2)
  steps_to value raw name Unknown within sound is some steps leads =
      (name, member_comes value raw name within sound is some steps, leads)
  steps_to value raw name End within sound is some steps leads = absurd leads

  -- the bracket ends it
  pub bracket_closes : (e : ℕ) → ClosesMembers (json_grammar o) passing greatest (depth c) c.input at c.inner.mark.entered e × EndsInside (BoundaryBy o.enforce_strictness) (depth c) (drop e c.input)
      → (json_relations o).closes c.input outer.table outer.place (depth c) at c.inner.mark e
  bracket_closes e h =
      let s = h.0 in
      closes_members o c.input outer.table outer.place kind passing marked dropped greatest (depth c) skips s.0 at c.inner.mark s.1 s.2 e s.3 s.4 h.1

  -- neither a member nor the end comes
  pub cannot_step : is_shallow o (depth c) ≡ true → (Stays : ℕ → Type 0) → ((b : ℕ) → Stays b → (e : ℕ) → (json_relations o).skips c.input (depth c) b e → ⊥)
      → NothingComes (json_grammar o) Stays passing greatest (depth c) c.input at c.inner.mark.entered → (IsStructure (kind_at outer) → EndsEmpty o.enforce_strictness at c → ⊥)
      → CannotGoOn (json_relations o) (passed_to c at) outer.table outer.place
  cannot_step shallow Stays stays h full =
      members_are_stuck o c.input outer.table outer.place kind passing marked dropped greatest (depth c) skips shallow Stays stays h.count at c.inner.mark h.place h.after h.passes
      h.missing (λ structure' at_end e over inside.
      full structure' (at_end, subst (IsOverBy o.enforce_strictness c.input at) (over_is_end o.enforce_strictness c.input at e over).1 over, inside))

-- the structure or union ends, in its bracket or in an empty input
pub leaves_at : (o : Settings) (c new : Cursor) (at : ℕ) (outer : Site) (e : ℕ) → (json_relations o).closes c.input outer.table outer.place (depth c) at c.inner.mark e
    → new.input ≡ c.input → new.at ≡ e → c.outer ≡ new.inner ∷ new.outer → new.due ≡ false → new.failed ≡ c.failed → c.failed ≡ false
    → Leaves (json_relations o) (passed_to c at) new outer.table outer.place
leaves_at o c new at outer e closes input place around due failed sound = record {
  closes = rw place closes;
  input = input;
  outer = around;
  due = due;
  failed = failed ∙ sound;
}

-- what is too deep behind a value that is skipped is so from that value on
module _ (g : LexicalGrammar) (input : List ℕ) (greatest held at end : ℕ) (skips : SkipsTo g greatest held input at end) where
  pub reaches_behind : (max d : ℕ) → max ≤ d + json_openers (drop end input) → max ≤ d + json_openers (drop at input)
  reaches_behind max d deep = omega (arith, node_takes_none g (is_skipped_in g) input held skips.node at end skips.lies.0 skips.lies.1, deep)

  pub too_deep_behind : (Opens : ℕ → Type 0) → (q : ℕ) × (end ≤ q) × Opens q → (q : ℕ) × (at ≤ q) × Opens q
  too_deep_behind Opens h = (h.0, omega (arith, node_ahead g (is_skipped_in g) input held skips.node at end skips.lies, h.1), h.2)
