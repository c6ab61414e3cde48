-- The relations of reading at small inputs: what opens, what comes next and what a container ends with, and
-- what doesn't.
use Rattle.std.proofs.Common.{◌≡◌, inl, inr, ℕ, ◌-◌, List, [], ◌∷◌, ◌++◌, map, take, true, false, Option, Some, None, refl, sym, ap, ◌∙◌, subst, arith, pos, codes, ◌≤◌}
use Rattle.std.specs.Prelude.{slice_range}
use Rattle.smithy_declarations.specs.declared.shape_type.Scalar.TheVariants as scalars
use Rattle.smithy_declarations.specs.Table.{Table, shape_place}
use Rattle.smithy_schema.specs.Reading.{Relations, Mark}
use Rattle.smithy_declarations.specs.Value.{Value}
use Rattle.cbor_item.specs.Head as widths
use Rattle.cbor_item.specs.Item.{Item, unsigned}
use Rattle.cbor_item.specs.WellFormed.{IsItemAt, IsEncodingOf}
use Rattle.cbor_item.proofs.FirstByte.{not_empty}
use Rattle.cbor_item.proofs.HeadLemmas.{front_begins_low, opening_begins}
use Rattle.smithy_cbor.specs.Scalar.{text_of}
use Rattle.smithy_cbor_values.specs.Meaning.{rules_of}
use Rattle.smithy_cbor_values.specs.Standing.{cbor_frames, cbor_relations, mark_with, end_mark, HasEntry, IsOver}
use Rattle.smithy_cbor_values.specs.Laws.{lawful}
use Rattle.smithy_cbor_values.specs.Private.ScalarAtPlace.{IsNullAt}
use Rattle.smithy_cbor_values.specs.Private.ContainerBytes.{opens_within}
use Rattle.smithy_cbor_values.specs.Private.ItemPlaces.{one_item}
use Rattle.smithy_cbor_codec.specs.Private.PassedEntries.{HasKey}
use Rattle.smithy_cbor_codec.proofs.OnLiterals.{smithy_cbor_codec_on_literals}
use Rattle.smithy_cbor_codec.proofs.Examples.{whole_value, one_long, map_of_longs, two_variants, lists_of_strings, long_place, strict, empty_structure}
use Rattle.smithy_cbor_codec.proofs.EncodedItems.{in_one_byte, a_key, z_key, type_key, no_text, small}
use Rattle.smithy_cbor_codec.proofs.ReaderLemmas.{opens_list, steps_in_list, closes_list, list_is_stuck, opens_no_map, steps_in_map, closes_map, map_is_stuck, opens_members, opens_no_members, opens_empty, steps_to_member, closes_members, closes_empty, members_are_stuck}
use Rattle.smithy_cbor_codec.proofs.SkippedValues.{skips_are}
use Rattle.smithy_wire.specs.Node.{leaf, missing}
use Rattle.smithy_wire.specs.Readers.{stands_scalar}

abbrev strictly : Relations
strictly = cbor_relations strict

-- from a position on with a mark no step is made, and the container doesn't end
abbrev StepsNot : List ℕ → Table → ℕ → ℕ → ℕ → Mark → Type 0
StepsNot input t root depth b m = (key : Option (List ℕ)) (c : ℕ) (n : Mark) → strictly.steps input t (shape_place root) depth b m key c n → ⊥

abbrev ClosesNot : List ℕ → Table → ℕ → ℕ → ℕ → Mark → Type 0
ClosesNot input t root depth b m = (e : ℕ) → strictly.closes input t (shape_place root) depth b m e → ⊥

-- ---- lemmas

-- no null stands where another byte does
no_null : (input : List ℕ) (c depth : ℕ) → strictly.begins_null input c ≡ false → (e : ℕ) → IsNullAt input c depth e → ⊥
no_null input c depth h e null = let wrong : false ≡ true = sym h ∙ null.0 in cc

-- an item without a text is no key
no_key : (input : List ℕ) (b e : ℕ) (m : Mark) (i : Item) → IsItemAt i input b e → text_of i ≡ None → (text : List ℕ) (c : ℕ) (n : Mark) → HasKey input b m text c n → ⊥
no_key input b e m i there none text c n (entry, (k, other, is)) =
    let same = ap text_of (one_item i k input b e c there other).0 in
    let wrong : ◌≡◌ {A = Option (List ℕ)} None (Some text) = sym none ∙ same ∙ is in cc

-- ---- openings

-- a1, b8 01 and bf open a structure, with one entry due, or with none told
pub openings : strictly.opens (0xa1 ∷ []) one_long (shape_place 0) 0 0 1 (mark_with (Some 1))
    × strictly.opens (0xb8 ∷ 0x01 ∷ []) one_long (shape_place 0) 0 0 2 (mark_with (Some 1))
    × strictly.opens (0xbf ∷ []) one_long (shape_place 0) 0 0 1 (mark_with None)
openings = (
  opens_members strict (0xa1 ∷ []) one_long (shape_place 0) tt 0 0 1 (Some 1) (omega arith, front_begins_low 5 1 (0xa1 ∷ []) [] (omega arith) (in_one_byte 5 1 (omega arith))),
  opens_members strict (0xb8 ∷ 0x01 ∷ []) one_long (shape_place 0) tt 0 0 2 (Some 1) (omega arith, front_begins_low 5 1 (0xb8 ∷ 0x01 ∷ []) [] (omega arith) (record { width = widths.one; fits = omega arith; spelled = refl })),
  opens_members strict (0xbf ∷ []) one_long (shape_place 0) tt 0 0 1 None (omega arith, opening_begins 5 [] (inl (omega arith, omega arith))),
)

-- 82 and 9f open a list
pub list_openings : strictly.opens (0x82 ∷ []) (lists_of_strings false) (shape_place 0) 0 0 1 (mark_with (Some 2))
    × strictly.opens (0x9f ∷ []) (lists_of_strings false) (shape_place 0) 0 0 1 (mark_with None)
list_openings = (
  opens_list strict (0x82 ∷ []) (lists_of_strings false) (shape_place 0) tt 0 0 1 (Some 2) (omega arith, front_begins_low 4 2 (0x82 ∷ []) [] (omega arith) (in_one_byte 4 2 (omega arith))),
  opens_list strict (0x9f ∷ []) (lists_of_strings false) (shape_place 0) tt 0 0 1 None (omega arith, opening_begins 4 [] (inl (omega arith, omega arith))),
)

-- ---- elements

-- [_ 1]: an element at 1, and the end behind the break
pub in_indefinite_list : strictly.steps (0x9f ∷ 0x01 ∷ 0xff ∷ []) (lists_of_strings false) (shape_place 0) 1 1 (mark_with None) None 1 (mark_with None)
    × strictly.closes (0x9f ∷ 0x01 ∷ 0xff ∷ []) (lists_of_strings false) (shape_place 0) 1 2 (mark_with None) 3
in_indefinite_list = (
  steps_in_list strict (0x9f ∷ 0x01 ∷ 0xff ∷ []) (lists_of_strings false) (shape_place 0) tt 1 1 (mark_with None) (mark_with None) (omega arith, inr (refl, refl, refl)),
  closes_list strict (0x9f ∷ 0x01 ∷ 0xff ∷ []) (lists_of_strings false) (shape_place 0) tt 1 2 (mark_with None) 3 (inr (refl, refl, refl)) refl,
)

-- [1]: an element at 1, and the end behind it
pub in_definite_list : strictly.steps (0x81 ∷ 0x01 ∷ []) (lists_of_strings false) (shape_place 0) 1 1 (mark_with (Some 1)) None 1 (mark_with (Some 0))
    × strictly.closes (0x81 ∷ 0x01 ∷ []) (lists_of_strings false) (shape_place 0) 1 2 (mark_with (Some 0)) 2
in_definite_list = (
  steps_in_list strict (0x81 ∷ 0x01 ∷ []) (lists_of_strings false) (shape_place 0) tt 1 1 (mark_with (Some 1)) (mark_with (Some 0)) (omega arith, inl (0, refl, refl)),
  closes_list strict (0x81 ∷ 0x01 ∷ []) (lists_of_strings false) (shape_place 0) tt 1 2 (mark_with (Some 0)) 2 (inl (refl, refl)) refl,
)

-- an element that is announced isn't due where the input ends: 82 01
pub missing_element : StepsNot (0x82 ∷ 0x01 ∷ []) (lists_of_strings false) 0 1 2 (mark_with (Some 1)) × ClosesNot (0x82 ∷ 0x01 ∷ []) (lists_of_strings false) 0 1 2 (mark_with (Some 1))
missing_element = list_is_stuck strict (0x82 ∷ 0x01 ∷ []) (lists_of_strings false) (shape_place 0) tt 1 2 (mark_with (Some 1)) none (λ e over follows. shut e over)
  where
    none : (n : Mark) → HasEntry (0x82 ∷ 0x01 ∷ []) 2 (mark_with (Some 1)) n → ⊥
    none n (within, next) = omega arith

    shut : (e : ℕ) → IsOver (0x82 ∷ 0x01 ∷ []) 2 (mark_with (Some 1)) e → ⊥
    shut e (inl (due, at)) = cc
    shut e (inr (none, break, at)) = cc

-- in a list of indefinite length nothing comes where the input ends: 9f 01
pub missing_break : StepsNot (0x9f ∷ 0x01 ∷ []) (lists_of_strings false) 0 1 2 (mark_with None) × ClosesNot (0x9f ∷ 0x01 ∷ []) (lists_of_strings false) 0 1 2 (mark_with None)
missing_break = list_is_stuck strict (0x9f ∷ 0x01 ∷ []) (lists_of_strings false) (shape_place 0) tt 1 2 (mark_with None) none (λ e over follows. shut e over)
  where
    none : (n : Mark) → HasEntry (0x9f ∷ 0x01 ∷ []) 2 (mark_with None) n → ⊥
    none n (within, next) = omega arith

    shut : (e : ℕ) → IsOver (0x9f ∷ 0x01 ∷ []) 2 (mark_with None) e → ⊥
    shut e (inl (due, at)) = cc
    shut e (inr (none, break, at)) = cc

-- ---- members

-- {"z": null, "a": 1}: the step passes the null and goes on to 1, and the map ends behind it
pub null_is_dropped : strictly.steps (0xa2 ∷ 0x61 ∷ 0x7a ∷ 0xf6 ∷ 0x61 ∷ 0x61 ∷ 0x01 ∷ []) one_long (shape_place 0) 1 1 (mark_with (Some 2)) (Some (codes "a")) 6 (mark_with (Some 0))
    × strictly.closes (0xa2 ∷ 0x61 ∷ 0x7a ∷ 0xf6 ∷ 0x61 ∷ 0x61 ∷ 0x01 ∷ []) one_long (shape_place 0) 1 7 (mark_with (Some 0)) 7
unfolding smithy_cbor_codec_on_literals
null_is_dropped = (
  steps_to_member strict (0xa2 ∷ 0x61 ∷ 0x7a ∷ 0xf6 ∷ 0x61 ∷ 0x61 ∷ 0x01 ∷ []) one_long (shape_place 0) tt 1 1 (mark_with (Some 2)) (codes "a") 6 (mark_with (Some 0))
      (1, 4, mark_with (Some 1), (codes "z", 3, 4, mark_with (Some 1), ((omega arith, inl (1, refl, refl)), (z_key.item, (omega arith, z_key.is), refl)), inl (refl, (refl, refl, tt)), (refl, refl)), ((omega arith, inl (0, refl, refl)), (a_key.item, (omega arith, a_key.is), refl)), (refl, λ e null. absurd (no_null (0xa2 ∷ 0x61 ∷ 0x7a ∷ 0xf6 ∷ 0x61 ∷ 0x61 ∷ 0x01 ∷ []) 6 1 refl e null))),
  closes_members strict (0xa2 ∷ 0x61 ∷ 0x7a ∷ 0xf6 ∷ 0x61 ∷ 0x61 ∷ 0x01 ∷ []) one_long (shape_place 0) tt 1 7 (mark_with (Some 0)) 7 (0, 7, mark_with (Some 0), (refl, refl), inl (refl, refl)) refl,
)

-- {"a": null} and {_ "a": null} end behind the null, and behind the break
pub null_before_the_end : strictly.closes (0xa1 ∷ 0x61 ∷ 0x61 ∷ 0xf6 ∷ []) one_long (shape_place 0) 1 1 (mark_with (Some 1)) 4
    × strictly.closes (0xbf ∷ 0x61 ∷ 0x61 ∷ 0xf6 ∷ 0xff ∷ []) one_long (shape_place 0) 1 1 (mark_with None) 5
unfolding smithy_cbor_codec_on_literals
null_before_the_end = (
  closes_members strict (0xa1 ∷ 0x61 ∷ 0x61 ∷ 0xf6 ∷ []) one_long (shape_place 0) tt 1 1 (mark_with (Some 1)) 4
      (1, 4, mark_with (Some 0), (codes "a", 3, 4, mark_with (Some 0), ((omega arith, inl (0, refl, refl)), (a_key.item, (omega arith, a_key.is), refl)), inl (refl, (refl, refl, tt)), (refl, refl)), inl (refl, refl)) refl,
  closes_members strict (0xbf ∷ 0x61 ∷ 0x61 ∷ 0xf6 ∷ 0xff ∷ []) one_long (shape_place 0) tt 1 1 (mark_with None) 5
      (1, 4, mark_with None, (codes "a", 3, 4, mark_with None, ((omega arith, inr (refl, refl, refl)), (a_key.item, (omega arith, a_key.is), refl)), inl (refl, (refl, refl, tt)), (refl, refl)), inr (refl, refl, refl)) refl,
)

-- undefined is no null: {"a": undefined} goes on to its value
pub undefined_is_due : strictly.steps (0xa1 ∷ 0x61 ∷ 0x61 ∷ 0xf7 ∷ []) one_long (shape_place 0) 1 1 (mark_with (Some 1)) (Some (codes "a")) 3 (mark_with (Some 0))
unfolding smithy_cbor_codec_on_literals
undefined_is_due =
    steps_to_member strict (0xa1 ∷ 0x61 ∷ 0x61 ∷ 0xf7 ∷ []) one_long (shape_place 0) tt 1 1 (mark_with (Some 1)) (codes "a") 3 (mark_with (Some 0))
    (0, 1, mark_with (Some 1), (refl, refl), ((omega arith, inl (0, refl, refl)), (a_key.item, (omega arith, a_key.is), refl)), (refl, λ e null. absurd (no_null (0xa1 ∷ 0x61 ∷ 0x61 ∷ 0xf7 ∷ []) 3 1 refl e null)))

-- a null under a key that isn't UTF-8 isn't dropped: a1 61 ff f6
pub null_without_key : StepsNot (0xa1 ∷ 0x61 ∷ 0xff ∷ 0xf6 ∷ []) one_long 0 1 1 (mark_with (Some 1)) × ClosesNot (0xa1 ∷ 0x61 ∷ 0xff ∷ 0xf6 ∷ []) one_long 0 1 1 (mark_with (Some 1))
unfolding smithy_cbor_codec_on_literals
null_without_key =
    members_are_stuck strict (0xa1 ∷ 0x61 ∷ 0xff ∷ 0xf6 ∷ []) one_long (shape_place 0) tt 1 0 1 (mark_with (Some 1)) 1 (Some 1) (refl, refl) (inl (
      λ text c n has. no_key (0xa1 ∷ 0x61 ∷ 0xff ∷ 0xf6 ∷ []) 1 3 (mark_with (Some 1)) no_text.item (omega arith, no_text.is) refl text c n has,
      λ e over. going e over,
    )) (λ is at_end empty some. cc)
  where
    going : (e : ℕ) → IsOver (0xa1 ∷ 0x61 ∷ 0xff ∷ 0xf6 ∷ []) 1 (mark_with (Some 1)) e → ⊥
    going e (inl (due, at)) = cc
    going e (inr (due, break, at)) = cc

-- a pair that is announced and doesn't come: a2 61 61 01
pub missing_pair : ClosesNot (0xa2 ∷ 0x61 ∷ 0x61 ∷ 0x01 ∷ []) one_long 0 1 4 (mark_with (Some 1))
missing_pair =
    (members_are_stuck strict (0xa2 ∷ 0x61 ∷ 0x61 ∷ 0x01 ∷ []) one_long (shape_place 0) tt 1 0 4 (mark_with (Some 1)) 4 (Some 1) (refl, refl) (inl (
      λ text c n has. let (entry, (i, (within, there), text_is)) = has in nothing_there c within i there,
      λ e over. going e over,
    )) (λ is at_end rest some. let wrong : ◌≡◌ {A = ℕ} 4 0 = rest.1 refl in omega arith)).1
  where
    nothing_there : (c : ℕ) → c ≤ 4 → (i : Item) → IsEncodingOf i (slice_range (0xa2 ∷ 0x61 ∷ 0x61 ∷ 0x01 ∷ []) 4 c) → ⊥
    nothing_there c within i there = let none : c - 4 ≡ 0 = omega arith in not_empty i (subst (λ (x : ℕ). IsEncodingOf i (take x [])) none there)

    going : (e : ℕ) → IsOver (0xa2 ∷ 0x61 ∷ 0x61 ∷ 0x01 ∷ []) 4 (mark_with (Some 1)) e → ⊥
    going e (inl (due, at)) = cc
    going e (inr (due, break, at)) = cc

-- and a break that doesn't: bf 61 61 01
pub missing_break_of_map : StepsNot (0xbf ∷ 0x61 ∷ 0x61 ∷ 0x01 ∷ []) one_long 0 1 4 (mark_with None) × ClosesNot (0xbf ∷ 0x61 ∷ 0x61 ∷ 0x01 ∷ []) one_long 0 1 4 (mark_with None)
missing_break_of_map =
    members_are_stuck strict (0xbf ∷ 0x61 ∷ 0x61 ∷ 0x01 ∷ []) one_long (shape_place 0) tt 1 0 4 (mark_with None) 4 None (refl, refl) (inl (
      λ text c n has. none n has.0,
      λ e over. going e over,
    )) (λ is at_end rest some. let wrong : ◌≡◌ {A = ℕ} 4 0 = rest.1 refl in omega arith)
  where
    none : (n : Mark) → HasEntry (0xbf ∷ 0x61 ∷ 0x61 ∷ 0x01 ∷ []) 4 (mark_with None) n → ⊥
    none n (within, next) = omega arith

    going : (e : ℕ) → IsOver (0xbf ∷ 0x61 ∷ 0x61 ∷ 0x01 ∷ []) 4 (mark_with None) e → ⊥
    going e (inl (due, at)) = cc
    going e (inr (due, break, at)) = cc

-- a null is f6 alone: neither undefined nor simple(22) in two bytes begins so, nor false, nor 22
pub begins_null : map (λ bytes. strictly.begins_null bytes 0) ((0xf6 ∷ []) ∷ (0xf7 ∷ []) ∷ (0xf8 ∷ 0x16 ∷ []) ∷ (0xf4 ∷ []) ∷ (0x16 ∷ []) ∷ [] ∷ [])
    ≡ true ∷ false ∷ false ∷ false ∷ false ∷ false ∷ []
begins_null = refl

-- {"__type": 1, "a": 1}: the step passes the mark, whatever it holds, and goes on to the member
pub mark_is_passed_over : strictly.steps (0xa2 ∷ 0x66 ∷ (codes "__type" ++ 0x01 ∷ 0x61 ∷ 0x61 ∷ 0x01 ∷ [])) one_long (shape_place 0) 1 1 (mark_with (Some 2)) (Some (codes "a")) 11 (mark_with (Some 0))
unfolding smithy_cbor_codec_on_literals
mark_is_passed_over =
    steps_to_member strict (0xa2 ∷ 0x66 ∷ (codes "__type" ++ 0x01 ∷ 0x61 ∷ 0x61 ∷ 0x01 ∷ [])) one_long (shape_place 0) tt 1 1 (mark_with (Some 2)) (codes "a") 11 (mark_with (Some 0)) (
      1,
      9,
      mark_with (Some 1),
      (codes "__type", 8, 9, mark_with (Some 1), ((omega arith, inl (1, refl, refl)), (type_key.item, (omega arith, type_key.is), refl)), inr (refl, record { found = unsigned 1; stands = (omega arith, (small 1 (omega arith)).is); follows = tt }), (refl, refl)),
      ((omega arith, inl (0, refl, refl)), (a_key.item, (omega arith, a_key.is), refl)),
      (refl, λ e null. absurd (no_null (0xa2 ∷ 0x66 ∷ (codes "__type" ++ 0x01 ∷ 0x61 ∷ 0x61 ∷ 0x01 ∷ [])) 11 1 refl e null)),
    )

-- ---- entries of a map

-- {"a": null}: an entry with its key, whose null is due, and the end behind it
pub in_definite_map : strictly.steps (0xa1 ∷ 0x61 ∷ 0x61 ∷ 0xf6 ∷ []) (map_of_longs true) (shape_place 0) 1 1 (mark_with (Some 1)) (Some (codes "a")) 3 (mark_with (Some 0))
    × strictly.closes (0xa1 ∷ 0x61 ∷ 0x61 ∷ 0xf6 ∷ []) (map_of_longs true) (shape_place 0) 1 4 (mark_with (Some 0)) 4
unfolding smithy_cbor_codec_on_literals
in_definite_map = (
  steps_in_map strict (0xa1 ∷ 0x61 ∷ 0x61 ∷ 0xf6 ∷ []) (map_of_longs true) (shape_place 0) tt 1 1 (mark_with (Some 1)) (codes "a") 3 (mark_with (Some 0)) ((omega arith, inl (0, refl, refl)), (a_key.item, (omega arith, a_key.is), refl)),
  closes_map strict (0xa1 ∷ 0x61 ∷ 0x61 ∷ 0xf6 ∷ []) (map_of_longs true) (shape_place 0) tt 1 4 (mark_with (Some 0)) 4 (inl (refl, refl)) refl,
)

-- a key that isn't UTF-8 is none: a1 61 ff 01
pub entry_without_key : StepsNot (0xa1 ∷ 0x61 ∷ 0xff ∷ 0x01 ∷ []) (map_of_longs true) 0 1 1 (mark_with (Some 1)) × ClosesNot (0xa1 ∷ 0x61 ∷ 0xff ∷ 0x01 ∷ []) (map_of_longs true) 0 1 1 (mark_with (Some 1))
unfolding smithy_cbor_codec_on_literals
entry_without_key =
    map_is_stuck strict (0xa1 ∷ 0x61 ∷ 0xff ∷ 0x01 ∷ []) (map_of_longs true) (shape_place 0) tt 1 1 (mark_with (Some 1))
    (λ text c n has. no_key (0xa1 ∷ 0x61 ∷ 0xff ∷ 0x01 ∷ []) 1 3 (mark_with (Some 1)) no_text.item (omega arith, no_text.is) refl text c n has)
    (λ e over follows. going e over)
  where
    going : (e : ℕ) → IsOver (0xa1 ∷ 0x61 ∷ 0xff ∷ 0x01 ∷ []) 1 (mark_with (Some 1)) e → ⊥
    going e (inl (due, at)) = cc
    going e (inr (due, break, at)) = cc

-- ---- what follows

-- a number and {_ } with a byte behind them stand inside a container, and not outside of all
pub byte_behind : strictly.stands (0x01 ∷ 0x00 ∷ []) one_long long_place 1 0 (whole_value (pos 1)) 1
    × strictly.skips (0x01 ∷ 0x00 ∷ []) 1 0 1
    × strictly.closes (0xbf ∷ 0xff ∷ 0x00 ∷ []) one_long (shape_place 0) 2 1 (mark_with None) 2
    × ((v : Value) → strictly.stands (0x01 ∷ 0x00 ∷ []) one_long long_place 0 0 v 1 → ⊥)
    × (strictly.skips (0x01 ∷ 0x00 ∷ []) 0 0 1 → ⊥)
    × (strictly.closes (0xbf ∷ 0xff ∷ 0x00 ∷ []) one_long (shape_place 0) 1 1 (mark_with None) 2 → ⊥)
byte_behind = (
  (leaf (unsigned 1), (refl, (omega arith, (small 1 (omega arith)).is), tt), refl, tt),
  (skips_are strict (0x01 ∷ 0x00 ∷ []) 1 0 1).0 (record { found = unsigned 1; stands = (omega arith, (small 1 (omega arith)).is); follows = tt }),
  closes_members strict (0xbf ∷ 0xff ∷ 0x00 ∷ []) one_long (shape_place 0) tt 2 1 (mark_with None) 2 (0, 1, mark_with None, (refl, refl), inr (refl, refl, refl)) tt,
  λ v h. let wrong : ◌≡◌ {A = ℕ} 1 2 = (stands_scalar (cbor_frames true) (rules_of strict) (0x01 ∷ 0x00 ∷ []) one_long long_place scalars.Long refl 0 0 v 1 h).1.2 in absurd (omega arith),
  λ h. let wrong : ◌≡◌ {A = ℕ} 1 2 = ((skips_are strict (0x01 ∷ 0x00 ∷ []) 0 0 1).1 h).follows in absurd (omega arith),
  closes,
)
  where
    closes : strictly.closes (0xbf ∷ 0xff ∷ 0x00 ∷ []) one_long (shape_place 0) 1 1 (mark_with None) 2 → ⊥
    closes (inl (f, is, ends, follows)) = let wrong : ◌≡◌ {A = ℕ} 2 3 = follows in omega arith
    closes (inr h) = let wrong : ◌≡◌ {A = ℕ} 1 3 = h.1.0.0 in omega arith

-- ---- an empty input

-- it opens and ends a structure, and stands for the one without members
pub empty_input : strictly.opens [] one_long (shape_place 0) 0 0 0 end_mark
    × strictly.closes [] one_long (shape_place 0) 1 0 end_mark 0
    × strictly.stands [] one_long (shape_place 0) 0 0 empty_structure 0
empty_input = (
  opens_empty strict [] one_long (shape_place 0) tt 0 0 (refl, λ strict. refl),
  closes_empty strict [] one_long (shape_place 0) tt 1 0 end_mark refl (refl, λ strict. refl) (omega arith),
  (missing, ((refl, λ strict. refl), refl), refl, tt),
)

-- no union and no map opens there
pub no_union_in_it : (b : ℕ) (m : Mark) → strictly.opens [] two_variants (shape_place 0) 0 0 b m → ⊥
no_union_in_it =
    opens_no_members strict [] two_variants (shape_place 0) tt 0 0 (λ due b h. let some = opens_within 5 due [] 0 b h in omega (arith, some)) (λ is empty. absurd is)

pub no_map_in_it : (b : ℕ) (m : Mark) → strictly.opens [] (map_of_longs true) (shape_place 0) 0 0 b m → ⊥
no_map_in_it = opens_no_map strict [] (map_of_longs true) (shape_place 0) tt 0 0 (λ due b h. let some = opens_within 5 due [] 0 b h in omega (arith, some))

-- it steps to nothing, and holds neither a null nor what can be skipped
pub nothing_in_it : StepsNot [] one_long 0 1 0 end_mark
    × ((e : ℕ) → strictly.nulls [] 0 0 e → ⊥)
    × ((e : ℕ) → strictly.skips [] 0 0 e → ⊥)
nothing_in_it = (
  λ key c n step. (lawful strict).step_or_close [] one_long (shape_place 0) 1 0 end_mark key c n 0 step empty_input.1,
  (λ e h. absurd (let wrong : false ≡ true = h.0 in cc)),
  λ e h. let some = (lawful strict).skips_within [] 0 0 e h in absurd (omega arith),
)
