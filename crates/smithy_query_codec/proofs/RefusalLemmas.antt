-- A value that no form can express is refused for the first of its parts that none can, wherever it is written.
use Rattle.std.proofs.Common.{◌≡◌, ◌≢◌, ◌<◌, ◌+◌, ◌||◌, ◌&&◌, not, ℕ, suc, List, [], ◌∷◌, ◌++◌, length, Bool, true, false, is_some, is_none, Option, Some, None, option_to_list, if◌then◌else◌, Ok, Err, refl, sym, ◌∙◌, ap, ◌⊎◌, inl, inr, ⊎_elim, arith, codes, decimal}
use Rattle.std.specs.Option.{option_or}
use Rattle.std.proofs.lemmas.Bool.{lt-ltb}
use Rattle.smithy_schema.specs.declared.error.SerdeError.{SerdeError}
use Rattle.smithy_schema.specs.declared.error.SerdeError.TheVariants.{Unsupported, Unwritable}
use Rattle.smithy_shapes.specs.Site.{Site, element_of, key_of, value_of, member_of}
use Rattle.smithy_declarations.specs.Value.{text, Value, scalar_value, list, map, structure, union, null_element, document_value, Values, no_values, value, MapEntries, no_map_entries, map_entry, MemberValues, no_member_values, member_value}
use Rattle.smithy_shapes.specs.ScalarTest.{scalars_pass, elements_pass, entries_pass, members_pass}
use Rattle.smithy_schema.specs.Writing.{Event, Open, open_structure, open_list, open_map_at_key, open_map_at_value, begin_structure, begin_list, begin_map, null_of, scalar_of, document_of, end_structure, end_list, end_map, after_value, after_scalar, and_run, run, events, element_events, entry_events, member_events, count_of, entry_count}
use Rattle.smithy_shapes.specs.Lemmas.Options.{same_some}
use Rattle.smithy_schema.proofs.WritingLemmas.{child_refused, call_made}
use Rattle.smithy_query_codec.specs.Leaves.{Path, neither, under, query_name, element_name, key_name, value_name, inner_path, leaves}
use Rattle.smithy_query_codec.specs.Nulls.{holds_null, elements_hold_null, entries_hold_null, members_hold_null}
use Rattle.smithy_query_codec.specs.Canonical.{path_text}
use Rattle.smithy_query_codec.specs.Writable.{can_write, can_be_written}
use Rattle.smithy_query_codec.specs.Refusals.{refusal_of, elements_refusal, entries_refusal, members_refusal}
use Rattle.smithy_query_codec.specs.Writing.{Mark, QueryState, child_path, child_role, child_count, has_room, is_placed, innermost_key, innermost_value, member_length, made, allowed, where_taken, where_supported, query_after}
use Rattle.smithy_query_codec.proofs.PathLemmas.{AreSegments, segments-append}
use Rattle.smithy_query_codec.proofs.SegmentLemmas.{name_full, decimal_full}
use Rattle.smithy_query_codec.proofs.LeafLemmas.{leaves_text}
use Rattle.smithy_query_codec.proofs.Forms.{HasForm, ElementsHaveForm, EntriesHaveForm, MembersHaveForm}
use Rattle.smithy_query_codec.proofs.WritingLemmas.{at, mark, step, both_true, Placed, part_placed, member_placed, inner_segments, entry_full, value_is, structure_begun, list_begun, map_begun, key_adds, value_adds, elements_can_be_written, entries_can_be_written, members_can_be_written}

-- ---- which values are refused

-- parts can be written where each can
both_can : (a b p q : Bool) (x y : Option SerdeError) → (not a && p) ≡ is_none x → (not b && q) ≡ is_none y → (not (a || b) && (p && q)) ≡ is_none (option_or x y)
both_can true b p q None y h k = cc
both_can true b p q (Some e) y h k = refl
both_can false b false q None y h k = cc
both_can false b false q (Some e) y h k = and_false (not b)
  where
    and_false : (n : Bool) → (n && false) ≡ false
    and_false true = refl
    and_false false = refl
both_can false b true q None y h k = k
both_can false b true q (Some e) y h k = cc

scalar_can : (can : Bool) → can ≡ is_none (if can then None else Some Unwritable)
scalar_can true = refl
scalar_can false = refl

mutual
  -- a value can be written exactly where it isn't refused
  pub written_or_refused : (site : Site) (v : Value) → can_be_written site v ≡ is_none (refusal_of site v)
  written_or_refused site (scalar_value x) = scalar_can (can_write.scalar site.place.time x)
  written_or_refused site null_element = refl
  written_or_refused site (document_value d) = refl
  written_or_refused site (list vs) = elements_written_or_refused (element_of site) vs
  written_or_refused site (map es) = entries_written_or_refused (value_of site) es
  written_or_refused site (structure ms) = members_written_or_refused site ms
  written_or_refused site (union n v) = written_or_refused (member_of site n) v

  elements_written_or_refused : (site : Site) (vs : Values) → elements_can_be_written site vs ≡ is_none (elements_refusal site vs)
  elements_written_or_refused site no_values = refl
  elements_written_or_refused site (value v vs) =
      both_can (holds_null v) (elements_hold_null vs) (scalars_pass can_write site v) (elements_pass can_write site vs) (refusal_of site v) (elements_refusal site vs)
      (written_or_refused site v) (elements_written_or_refused site vs)

  entries_written_or_refused : (site : Site) (es : MapEntries) → entries_can_be_written site es ≡ is_none (entries_refusal site es)
  entries_written_or_refused site no_map_entries = refl
  entries_written_or_refused site (map_entry key v es) =
      both_can (holds_null v) (entries_hold_null es) (scalars_pass can_write site v) (entries_pass can_write site es) (refusal_of site v) (entries_refusal site es)
      (written_or_refused site v) (entries_written_or_refused site es)

  members_written_or_refused : (site : Site) (ms : MemberValues) → members_can_be_written site ms ≡ is_none (members_refusal site ms)
  members_written_or_refused site no_member_values = refl
  members_written_or_refused site (member_value n v ms) =
      both_can (holds_null v) (members_hold_null ms) (scalars_pass can_write (member_of site n) v) (members_pass can_write site ms) (refusal_of (member_of site n) v) (members_refusal site ms)
      (written_or_refused (member_of site n) v) (members_written_or_refused site ms)

-- ---- how

-- a first part is refused, or it can be written and what follows is refused
first_refusal : (site : Site) (v : Value) (rest : Option SerdeError) (e : SerdeError) → option_or (refusal_of site v) rest ≡ Some e
    → (refusal_of site v ≡ Some e) ⊎ ((can_be_written site v ≡ true) × (rest ≡ Some e))
first_refusal site v rest e h = by (refusal_of site v) refl h
  where
    by : (o : Option SerdeError) → refusal_of site v ≡ o → option_or o rest ≡ Some e → (refusal_of site v ≡ Some e) ⊎ ((can_be_written site v ≡ true) × (rest ≡ Some e))
    by None is h = inr (written_or_refused site v ∙ ap is_none is, h)
    by (Some f) is h = inl (is ∙ h)

scalar_refused : (can : Bool) (e : SerdeError) → (if can then None else Some Unwritable) ≡ Some e → (can ≡ false) × (e ≡ Unwritable)
scalar_refused true e h = cc
scalar_refused false e h = (refl, cc)

abbrev Refused : SerdeError → List Event → QueryState → Type 0
Refused e es s = run query_after es s ≡ Err e

mutual
  pub value_refused : (site : Site) (v : Value) (o : List ℕ) (path : Path) (names : List ℕ) (c : ℕ) (os after : List Open) (ms : List Mark) (child : Path)
      → (e : SerdeError) → HasForm site v → refusal_of site v ≡ Some e
      → child_path os c (innermost_key names ms) (innermost_value names ms) site.view ≡ child → AreSegments (path ++ child)
      → Placed os site.view v → has_room os c ≡ true → after_value os ≡ Ok after
      → Refused e (events site v) (at o path names c os ms)
  value_refused site (scalar_value x) o path names c os after ms child e form refused is full placed room taken =
      let is = scalar_refused (can_write.scalar site.place.time x) e refused in
      ap (λ b. and_run (run query_after []) (where_taken (made (scalar_of site x) (at o path names c os ms)) (allowed (b && (is_placed os site.view && has_room os c)) (after_scalar x os)))) is.0
      ∙ ap Err (sym is.1)
  value_refused site null_element o path names c os after ms child e form refused is full placed room taken =
      ap (λ b. and_run (run query_after []) (where_taken (made (null_of site) (at o path names c os ms)) (allowed b (after_value os)))) placed
      ∙ ap Err (same_some Unwritable e refused)
  value_refused site (document_value d) o path names c os after ms child e form refused is full placed room taken =
      let s = at o path names c os ms in
      ap (λ b. and_run (run query_after []) (where_supported false (where_taken (made (document_of site d) s) (allowed b (after_value os)))))
      (both_true (is_placed os site.view) (has_room os c) placed room)
      ∙ ap (λ r. and_run (run query_after []) (where_supported false (where_taken (made (document_of site d) s) r))) taken
      ∙ ap Err (same_some Unsupported e refused)
  value_refused site (list vs) o path names c os after ms child e form refused is full placed room taken =
      let stand = child_role os site.view in
      let inner = inner_path stand (element_name site) in
      let inside = segments-append (path ++ child) inner full (inner_segments stand (element_name site) (name_full (element_name site) form.0)) in
      let small : 0 + count_of vs < 18446744073709551616 = omega (arith, form.1) in
      call_made query_after (begin_list site (Some (count_of vs))) (element_events (element_of site) vs ++ end_list ∷ []) (at o path names c os ms) _
      (list_begun site (Some (count_of vs)) o path names c os after ms child is full inside room taken)
      ∙ child_refused query_after (element_events (element_of site) vs) (end_list ∷ []) _ e
      (elements_refused (element_of site) vs o ((path ++ child) ++ inner) names 0 after (mark path (child_count os c) o (member_length stand (length (path_text (path ++ child)))) names 0) ms e form.2 refused inside small)
  value_refused site (map es) o path names c os after ms child e form refused is full placed room taken =
      let inner = inner_path (child_role os site.view) (codes "entry") in
      let inside = segments-append (path ++ child) inner full (inner_segments (child_role os site.view) (codes "entry") entry_full) in
      let small : 0 + entry_count es < 18446744073709551616 = omega (arith, form.1) in
      let key = key_name site in
      let val = value_name site in
      call_made query_after (begin_map site (Some (entry_count es))) (entry_events (key_of site) (value_of site) es ++ end_map ∷ []) (at o path names c os ms) _
      (map_begun site (Some (entry_count es)) o path names c os after ms child is full inside room taken)
      ∙ child_refused query_after (entry_events (key_of site) (value_of site) es) (end_map ∷ []) _ e
      (entries_refused (key_of site) (value_of site) es o ((path ++ child) ++ inner) names key val 0 after (mark path (child_count os c) o None names (length key)) ms refl refl
      (name_full key form.0.key_fits) (name_full val form.0.value_fits) e form.2 refused inside small)
  value_refused site (structure vs) o path names c os after ms child e form refused is full placed room taken =
      call_made query_after (begin_structure site) (member_events site vs ++ end_structure ∷ []) (at o path names c os ms) _
      (structure_begun site o path names c os after ms child is full room taken)
      ∙ child_refused query_after (member_events site vs) (end_structure ∷ []) _ e
      (members_refused site vs o (path ++ child) names 0 after (mark path (child_count os c) o None names 0 ∷ ms) e form refused full)
  value_refused site (union n v) o path names c os after ms child e form refused is full placed room taken =
      let inner = member_of site n in
      let name = option_to_list (query_name inner.view) in
      let segment : AreSegments name = rw form.0.1 (name_full form.0.0 form.0.2, tt) in
      let marks = mark path (child_count os c) o None names 0 ∷ ms in
      call_made query_after (begin_structure site) (events inner v ++ end_structure ∷ []) (at o path names c os ms) _
      (structure_begun site o path names c os after ms child is full room taken)
      ∙ child_refused query_after (events inner v) (end_structure ∷ []) _ e
      (value_refused inner v o (path ++ child) names 0 (open_structure ∷ after) (open_structure ∷ after) marks name
      e form.2 refused refl (segments-append (path ++ child) name full segment) (member_placed (open_structure ∷ after) inner.view v (ap is_some form.0.1) form.1) refl refl)

  elements_refused : (site : Site) (vs : Values) (o : List ℕ) (path : Path) (names : List ℕ) (c : ℕ) (os : List Open) (m : Mark) (ms : List Mark)
      → (e : SerdeError) → ElementsHaveForm site vs → elements_refusal site vs ≡ Some e → AreSegments path → c + count_of vs < 18446744073709551616
      → Refused e (element_events site vs) (at o path names c (open_list ∷ os) (m ∷ ms))
  elements_refused site no_values o path names c os m ms e form refused full small = cc
  elements_refused site (value v vs) o path names c os m ms e form refused full small =
      let here : c < 18446744073709551615 = omega (arith, small) in
      let less : suc c + count_of vs < 18446744073709551616 = omega (arith, small) in
      let segments : AreSegments (path ++ decimal (suc c) ∷ []) = segments-append path _ full (decimal_full (suc c) (omega (arith, here)), tt) in
      let placed = part_placed (open_list ∷ os) site.view v refl refl in
      let room = lt-ltb c 18446744073709551615 here in
      let s = at o path names c (open_list ∷ os) (m ∷ ms) in
      ⊎_elim
      (λ here. child_refused query_after (events site v) (element_events site vs) s e
      (value_refused site v o path names c (open_list ∷ os) (open_list ∷ os) (m ∷ ms) (decimal (suc c) ∷ []) e form.0 here refl segments placed room refl))
      (λ can. step (events site v) (element_events site vs) s _ _
      (value_adds site v o path names c (open_list ∷ os) (open_list ∷ os) (m ∷ ms) (decimal (suc c) ∷ []) form.0 can.0 refl segments placed room refl)
      (elements_refused site vs _ path names (suc c) os m ms e form.1 can.1 full less))
      (first_refusal site v (elements_refusal site vs) e refused)

  entries_refused : (key_site site : Site) (es : MapEntries) (o : List ℕ) (path : Path) (names key val : List ℕ) (c : ℕ) (os : List Open) (m : Mark) (ms : List Mark)
      → m.names_length ≡ length names → m.key_length ≡ length key → key ≢ [] → val ≢ []
      → (e : SerdeError) → EntriesHaveForm site es → entries_refusal site es ≡ Some e → AreSegments path → c + entry_count es < 18446744073709551616
      → Refused e (entry_events key_site site es) (at o path ((names ++ key) ++ val) c (open_map_at_key ∷ os) (m ∷ ms))
  entries_refused key_site site no_map_entries o path names key val c os m ms before long kf vf e form refused full small = cc
  entries_refused key_site site (map_entry k v es) o path names key val c os m ms before long kf vf e form refused full small =
      let here : c < 18446744073709551615 = omega (arith, small) in
      let less : suc c + entry_count es < 18446744073709551616 = omega (arith, small) in
      let number = decimal_full (suc c) (omega (arith, here)) in
      let all = (names ++ key) ++ val in
      let key_path : AreSegments (path ++ decimal (suc c) ∷ key ∷ []) = segments-append path _ full (number, (kf, tt)) in
      let value_path : AreSegments (path ++ decimal (suc c) ∷ val ∷ []) = segments-append path _ full (number, (vf, tt)) in
      let named : innermost_value all (m ∷ ms) ≡ val = rw (before, long) (value_is names key val) in
      let placed = part_placed (open_map_at_value ∷ os) site.view v refl refl in
      let keyed = o ++ leaves_text (under (path ++ decimal (suc c) ∷ key ∷ []) (record { path = []; text = k } ∷ [])) in
      let valued = keyed ++ leaves_text (under (path ++ decimal (suc c) ∷ val ∷ []) (leaves site neither v)) in
      let s = at keyed path all (suc c) (open_map_at_value ∷ os) (m ∷ ms) in
      let t = at valued path all (suc c) (open_map_at_key ∷ os) (m ∷ ms) in
      call_made query_after (scalar_of key_site (text k)) (events site v ++ entry_events key_site site es) (at o path all c (open_map_at_key ∷ os) (m ∷ ms)) s
      (key_adds key_site k o path names key val c os m ms before long key_path (lt-ltb c 18446744073709551615 here))
      ∙ ⊎_elim
      (λ (here : refusal_of site v ≡ Some e). child_refused query_after (events site v) (entry_events key_site site es) s e
      (value_refused site v keyed path all (suc c) (open_map_at_value ∷ os) (open_map_at_key ∷ os) (m ∷ ms) (decimal (suc c) ∷ val ∷ []) e form.0 here
      (ap (λ x. decimal (suc c) ∷ x ∷ []) named) value_path placed refl refl))
      (λ (can : (can_be_written site v ≡ true) × (entries_refusal site es ≡ Some e)). step (events site v) (entry_events key_site site es) s t (Err e)
      (value_adds site v keyed path all (suc c) (open_map_at_value ∷ os) (open_map_at_key ∷ os) (m ∷ ms) (decimal (suc c) ∷ val ∷ []) form.0 can.0
      (ap (λ x. decimal (suc c) ∷ x ∷ []) named) value_path placed refl refl)
      (entries_refused key_site site es valued path names key val (suc c) os m ms before long kf vf e form.1 can.1 full less))
      (first_refusal site v (entries_refusal site es) e refused)

  members_refused : (site : Site) (vs : MemberValues) (o : List ℕ) (path : Path) (names : List ℕ) (c : ℕ) (os : List Open) (ms : List Mark)
      → (e : SerdeError) → MembersHaveForm site vs → members_refusal site vs ≡ Some e → AreSegments path
      → Refused e (member_events site vs) (at o path names c (open_structure ∷ os) ms)
  members_refused site no_member_values o path names c os ms e form refused full = cc
  members_refused site (member_value n v vs) o path names c os ms e form refused full =
      let child = member_of site n in
      let name = option_to_list (query_name child.view) in
      let segment : AreSegments name = rw form.0.1 (name_full form.0.0 form.0.2, tt) in
      let segments = segments-append path name full segment in
      let placed = member_placed (open_structure ∷ os) child.view v (ap is_some form.0.1) form.1 in
      let s = at o path names c (open_structure ∷ os) ms in
      ⊎_elim
      (λ here. child_refused query_after (events child v) (member_events site vs) s e
      (value_refused child v o path names c (open_structure ∷ os) (open_structure ∷ os) ms name e form.2 here refl segments placed refl refl))
      (λ can. step (events child v) (member_events site vs) s _ _
      (value_adds child v o path names c (open_structure ∷ os) (open_structure ∷ os) ms name form.2 can.0 refl segments placed refl refl)
      (members_refused site vs _ path names c os ms e form.3 can.1 full))
      (first_refusal child v (members_refusal site vs) e refused)
