-- What a form holds can be written in it, and what passes one test passes another.
use Rattle.std.proofs.Common.{◌≡◌, ℤ, Bool, true, Option, Some, None, refl}
use Rattle.std.specs.Prelude.{◌&&◌, is_some, option_map}
use Rattle.std.proofs.lemmas.Bool.{and_parts}
use Rattle.smithy_instants.specs.Calendar.{civil_date}
use Rattle.smithy_instants.specs.WrittenDate.{day_of}
use Rattle.smithy_declarations.specs.declared.shape_type.TimestampFormat.{TimestampFormat}
use Rattle.smithy_declarations.specs.declared.shape_type.TimestampFormat.TheVariants.{EpochSeconds, DateTime, HttpDate}
use Rattle.smithy_shapes.specs.Site.{Site, element_of, value_of, member_of}
use Rattle.smithy_declarations.specs.Value.{ScalarValue, instant, Value, scalar_value, list, map, structure, union, null_element, document_value, Values, no_values, value, MapEntries, no_map_entries, map_entry, MemberValues, no_member_values, member_value}
use Rattle.smithy_declarations.specs.TimeForms.{form_writes, form_holds}
use Rattle.smithy_shapes.specs.ScalarTest.{ValueTest, scalars_pass, elements_pass, entries_pass, members_pass}

-- ---- forms

mapped_is_some : {A B : Type 0} (f : A → B) (o : Option A) → is_some o ≡ true → is_some (option_map f o) ≡ true
mapped_is_some f None h = h
mapped_is_some f (Some x) h = refl

-- an instant that a form holds is written in it
held_instant_writes : (form : TimestampFormat) (n : ℤ) → form_holds form (instant n) ≡ true → form_writes form (instant n) ≡ true
held_instant_writes EpochSeconds n h = refl
held_instant_writes DateTime n h = mapped_is_some _ (civil_date (day_of n)) (and_parts _ (is_some (civil_date (day_of n))) h).1
held_instant_writes HttpDate n h = mapped_is_some _ (civil_date (day_of n)) (and_parts _ (is_some (civil_date (day_of n))) h).1

pub held_writes : (form : TimestampFormat) (x : ScalarValue) → form_holds form x ≡ true → form_writes form x ≡ true
held_writes form (instant n) h = held_instant_writes form n h
held_writes form _ h = refl

-- ---- tests of all scalars

both : (a b c d : Bool) → (a ≡ true → c ≡ true) → (b ≡ true → d ≡ true) → (a && b) ≡ true → (c && d) ≡ true
both a b c d first second h = let parts = and_parts a b h in rw (first parts.0, second parts.1) refl

module _ (P Q : ValueTest) (more : (time : Option TimestampFormat) (x : ScalarValue) → P.scalar time x ≡ true → Q.scalar time x ≡ true)
    (documents : P.documents ≡ true → Q.documents ≡ true) where
  mutual
    pub more_pass : (v : Value) (site : Site) → scalars_pass P site v ≡ true → scalars_pass Q site v ≡ true
    more_pass (scalar_value x) site h = more site.place.time x h
    more_pass (list vs) site h = more_elements_pass vs (element_of site) h
    more_pass (map es) site h = more_entries_pass es (value_of site) h
    more_pass (structure ms) site h = more_members_pass ms site h
    more_pass (union n v) site h = more_pass v (member_of site n) h
    more_pass null_element site h = refl
    more_pass (document_value d) site h = documents h

    more_elements_pass : (vs : Values) (site : Site) → elements_pass P site vs ≡ true → elements_pass Q site vs ≡ true
    more_elements_pass no_values site h = refl
    more_elements_pass (value v vs) site h = both _ _ _ _ (more_pass v site) (more_elements_pass vs site) h

    more_entries_pass : (es : MapEntries) (site : Site) → entries_pass P site es ≡ true → entries_pass Q site es ≡ true
    more_entries_pass no_map_entries site h = refl
    more_entries_pass (map_entry key v es) site h = both _ _ _ _ (more_pass v site) (more_entries_pass es site) h

    more_members_pass : (ms : MemberValues) (site : Site) → members_pass P site ms ≡ true → members_pass Q site ms ≡ true
    more_members_pass no_member_values site h = refl
    more_members_pass (member_value n v ms) site h = both _ _ _ _ (more_pass v (member_of site n)) (more_members_pass ms site) h

-- ---- two tests at once

abbrev both_tests : ValueTest → ValueTest → ValueTest
both_tests P Q = record { scalar = λ time x. P.scalar time x && Q.scalar time x; documents = P.documents && Q.documents }

and_true : (a b : Bool) → a ≡ true → b ≡ true → (a && b) ≡ true
and_true a b h k = rw (h, k) refl

module _ (P Q : ValueTest) where
  abbrev R : ValueTest
  R = both_tests P Q

  mutual
    -- a value that passes each of them passes both
    pub both_pass : (v : Value) (site : Site) → scalars_pass P site v ≡ true → scalars_pass Q site v ≡ true → scalars_pass R site v ≡ true
    both_pass (scalar_value x) site h k = and_true (P.scalar site.place.time x) (Q.scalar site.place.time x) h k
    both_pass (list vs) site h k = both_elements_pass vs (element_of site) h k
    both_pass (map es) site h k = both_entries_pass es (value_of site) h k
    both_pass (structure ms) site h k = both_members_pass ms site h k
    both_pass (union n v) site h k = both_pass v (member_of site n) h k
    both_pass null_element site h k = refl
    both_pass (document_value d) site h k = and_true P.documents Q.documents h k

    both_elements_pass : (vs : Values) (site : Site) → elements_pass P site vs ≡ true → elements_pass Q site vs ≡ true → elements_pass R site vs ≡ true
    both_elements_pass no_values site h k = refl
    both_elements_pass (value v vs) site h k =
        let x = and_parts (scalars_pass P site v) (elements_pass P site vs) h in
        let y = and_parts (scalars_pass Q site v) (elements_pass Q site vs) k in
        and_true _ _ (both_pass v site x.0 y.0) (both_elements_pass vs site x.1 y.1)

    both_entries_pass : (es : MapEntries) (site : Site) → entries_pass P site es ≡ true → entries_pass Q site es ≡ true → entries_pass R site es ≡ true
    both_entries_pass no_map_entries site h k = refl
    both_entries_pass (map_entry key v es) site h k =
        let x = and_parts (scalars_pass P site v) (entries_pass P site es) h in
        let y = and_parts (scalars_pass Q site v) (entries_pass Q site es) k in
        and_true _ _ (both_pass v site x.0 y.0) (both_entries_pass es site x.1 y.1)

    both_members_pass : (ms : MemberValues) (site : Site) → members_pass P site ms ≡ true → members_pass Q site ms ≡ true → members_pass R site ms ≡ true
    both_members_pass no_member_values site h k = refl
    both_members_pass (member_value n v ms) site h k =
        let x = and_parts (scalars_pass P (member_of site n) v) (members_pass P site ms) h in
        let y = and_parts (scalars_pass Q (member_of site n) v) (members_pass Q site ms) k in
        and_true _ _ (both_pass v (member_of site n) x.0 y.0) (both_members_pass ms site x.1 y.1)
