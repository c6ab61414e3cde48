-- What comes behind entries that are passed over.
use Rattle.std.proofs.Common.{◌≡◌, ◌<◌, ◌≤◌, ◌+◌, ℕ, zero, suc, length, List, drop, Bool, true, Some, refl, sym, ◌∙◌, ap, arith, inl, inr}
use Rattle.smithy_shapes.specs.Lemmas.Options.{same_some}
use Rattle.smithy_json_codec.specs.declared.members.EntryFault.TheVariants.{NoEntry, TooDeep}
use Rattle.smithy_json_codec.specs.declared.members.Next.{Next}
use Rattle.smithy_json_codec.specs.declared.members.Next.TheVariants.{Member, End}
use Rattle.smithy_json_values.specs.declared.skip.SkipFault.{SkipFault}
use Rattle.smithy_json_values.specs.declared.skip.SkipFault.TheVariants as skip_faults
use Rattle.smithy_json_grammar.specs.Unescape.{unescaped}
use Rattle.smithy_json_values.specs.Deepest.{OpensTooDeep}
use Rattle.smithy_json_values.specs.Openers.{json_openers}
use Rattle.smithy_json_values.specs.LexicalGrammar.{LexicalGrammar, is_skipped_in, frames_of}
use Rattle.smithy_json_values.proofs.SkipSteps.{node_ahead}
use Rattle.smithy_json_values.specs.Private.NextInContainer.{NamesIn}
use Rattle.smithy_json_values.specs.Private.TokenPlaces.{names_ahead}
use Rattle.smithy_json_values.specs.Private.OpenersAtPlaces.{across_null, across_name_token}
use Rattle.smithy_json_values.proofs.OpenersLemmas.{node_takes_none}
use Rattle.smithy_json_values.specs.Private.Skipping.{SkipsTo}
use Rattle.smithy_json_codec.specs.Private.PassedEntries.{entry_fault, type_name, Passing, NoNull, IsPassed, Passes, PassesTo, StepsToMember, ClosesMembers, IsKept, IsNext, EntryMissing, NothingComes}

module _ (g : LexicalGrammar) (passing : Passing) (greatest depth : ℕ) (input : List ℕ) where
  -- one more at the end
  passes_one : (k : ℕ) (b : ℕ) (m : Bool) (c : ℕ) (n : Bool) (raw : List ℕ) (d e : ℕ) → Passes g passing greatest depth k input b m c n → NamesIn g n input c raw d
      → IsPassed g passing greatest depth input raw d e → Passes g passing greatest depth (suc k) input b m e true
  passes_one zero b m c n raw d e h k l = (raw, d, e, rw (h.0, h.1) k, l, (refl, refl))
  passes_one (suc j) b m c n raw d e h k l = (h.0, h.1, h.2, h.3, h.4, passes_one j h.2 true c n raw d e h.5 k l)

  -- the value of an entry lies ahead, and as many containers open from its end on at most as from its start on
  passed_ahead : (raw : List ℕ) (c e : ℕ) → IsPassed g passing greatest depth input raw c e → (c ≤ e) × (json_openers (drop e input) ≤ json_openers (drop c input))
  passed_ahead raw c e (inl null_value) = (null_value.0.0.0, omega (arith, across_null input c e null_value.0.0))
  passed_ahead raw c e (inr mark) =
      let ahead = node_ahead g (is_skipped_in g) input depth mark.2.node c e mark.2.lies in
      (omega (arith, ahead.0), node_takes_none g (is_skipped_in g) input depth mark.2.node c e mark.2.lies.0 mark.2.lies.1)

  -- and so do entries that are passed over
  pub passes_ahead : (k : ℕ) (b : ℕ) (m : Bool) (c : ℕ) (n : Bool) → Passes g passing greatest depth k input b m c n
      → (b ≤ c) × (json_openers (drop c input) ≤ json_openers (drop b input))
  passes_ahead zero b m c n h = (omega (arith, h.0), rw h.0 (omega arith))
  passes_ahead (suc k) b m c n h =
      let rest = passes_ahead k h.2 true c n h.5 in
      let value = passed_ahead h.0 h.1 h.2 h.4 in
      (omega (arith, names_ahead input m b h.0 h.1 h.3.0, value.0, rest.0), omega (arith, across_name_token input m b h.0 h.1 h.3.0, value.1, rest.1))

  -- an entry that is passed over ends further on, in the input
  passed_end : (raw : List ℕ) (c e : ℕ) → IsPassed g passing greatest depth input raw c e → e ≤ length input
  passed_end raw c e (inl null_value) = null_value.0.0.1
  passed_end raw c e (inr mark) = (node_ahead g (is_skipped_in g) input depth mark.2.node c e mark.2.lies).1

  pub passed_further : (b : ℕ) (m : Bool) (e : ℕ) → PassesTo g passing greatest depth input b m e → (b < e) × (e ≤ length input)
  passed_further b m e h =
      (omega (arith, names_ahead input m b h.raw h.value h.names.0, (passed_ahead h.raw h.value e h.passed).0), passed_end h.raw h.value e h.passed)

  -- ---- one entry, by its name and its value's place

  module _ (at : ℕ) (entered : Bool) (raw : List ℕ) (value : ℕ) (names : NamesIn g entered input at raw value) where
    pub null_passes : (text : List ℕ) → unescaped raw ≡ Some text → passing.nulls text ≡ true → (e : ℕ) → (frames_of g).null input 0 value e
        → PassesTo g passing greatest depth input at entered e
    null_passes text is passes e lies = record { raw = raw; value = value; names = names; passed = inl (lies, (text, is, passes)) }

    -- where none is passed over under this name, none does
    pub null_kept : (text : List ℕ) → unescaped raw ≡ Some text → ((e : ℕ) → (frames_of g).null input 0 value e → passing.nulls text ≡ true → ⊥)
        → NoNull g passing input raw value
    null_kept text is stays e lies (other, same, passes) =
        let one = same_some text other (sym is ∙ same) in stays e lies (ap passing.nulls one ∙ passes)

    -- a mark is passed over where its value may be skipped, and stays where it may not
    module _ (passes_marks : passing.marks ≡ true) (is : unescaped raw ≡ Some type_name) where
      pub mark_passes : (e : ℕ) → SkipsTo g greatest depth input value e → PassesTo g passing greatest depth input at entered e
      mark_passes e skips = record { raw = raw; value = value; names = names; passed = inr (passes_marks, is, skips) }

      pub mark_stays : (Stays : ℕ → Type 0) → Stays value → EntryMissing g Stays passing depth input at entered
      mark_stays Stays stays = inr (inr (record {
        raw = raw;
        value = value;
        passes_marks = passes_marks;
        names = names;
        is_mark = is;
        stays = stays;
      }))

    pub reaches_from_name : (max : ℕ) → max ≤ depth + json_openers (drop value input) → max ≤ depth + json_openers (drop at input)
    reaches_from_name max deep = omega (arith, across_name_token input entered at raw value names.0, deep)

    pub too_deep_from_name : (max : ℕ) → OpensTooDeep g max depth input value → (q : ℕ) × (at ≤ q) × OpensTooDeep g max depth input q
    too_deep_from_name max opens = (value, omega (arith, names_ahead input entered at raw value names.0), opens)

  -- ---- the place of a member's value, and of an end

  pub value_place : (b : ℕ) (m : Bool) (raw : List ℕ) (c : ℕ) → StepsToMember g passing greatest depth input b m raw c → (b ≤ c) × (c ≤ length input)
  value_place b m raw c s =
      let ahead = passes_ahead s.0 b m s.1 s.2 s.3 in
      let further = names_ahead input s.2 s.1 raw c s.4.0 in
      (omega (arith, ahead.0, further), s.4.0.2.1)

  pub end_place : (b : ℕ) (m : Bool) (e : ℕ) → ClosesMembers g passing greatest depth input b m e → (b ≤ e) × (e ≤ length input)
  end_place b m e s =
      let ahead = passes_ahead s.0 b m s.1 s.2 s.3 in
      (omega (arith, ahead.0, s.4.0), s.4.1)

  module _ (at : ℕ) (entered : Bool) (count place : ℕ) (after : Bool) (passes : Passes g passing greatest depth count input at entered place after) where
    -- one more is passed over
    pub passed : (e : ℕ) → PassesTo g passing greatest depth input place after e → (count : ℕ) × Passes g passing greatest depth count input at entered e true
    passed e h = (suc count, passes_one count at entered place after h.raw h.value e passes h.names h.passed)

    pub kept : (next : Next) → IsKept g passing depth input place after next → IsNext g passing greatest depth input at entered next
    kept (Member text c) h = (h.0, h.1, (count, place, after, passes, h.2, h.3, h.4))
    kept (End e) h = ((count, place, after, passes, h.0), h.1)

    pub nothing_kept : (Stays : ℕ → Type 0) → EntryMissing g Stays passing depth input place after → NothingComes g Stays passing greatest depth input at entered
    nothing_kept Stays h = record { count = count; place = place; after = after; passes = passes; missing = h }

    pub too_deep_from : (Opens : ℕ → Type 0) → (q : ℕ) × (place ≤ q) × Opens q → (q : ℕ) × (at ≤ q) × Opens q
    too_deep_from Opens h = (h.0, omega (arith, (passes_ahead count at entered place after passes).0, h.1), h.2)

    -- where containers open from there on as deep as may be, they do so from the first entry on
    pub reaches_from : (held max : ℕ) → max ≤ held + json_openers (drop place input) → max ≤ held + json_openers (drop at input)
    reaches_from held max deep = let ahead = passes_ahead count at entered place after passes in omega (arith, ahead.1, deep)

-- ---- why a mark isn't passed over

pub unskipped_mark : (f : SkipFault) → entry_fault f ≡ NoEntry → f ≡ skip_faults.NoValue
unskipped_mark skip_faults.NoValue h = refl
unskipped_mark skip_faults.TooDeep h = cc

pub too_deep_mark : (f : SkipFault) → entry_fault f ≡ TooDeep → f ≡ skip_faults.TooDeep
too_deep_mark skip_faults.NoValue h = cc
too_deep_mark skip_faults.TooDeep h = refl
