-- Integers that stand one after another in an array are read by the element calls in turn.
use Rattle.std.proofs.Common.{◌≡◌, ◌≤◌, ◌<◌, ℕ, ℤ, length, drop, List, [], ◌∷◌, Bool, true, false, Some, Result, Ok, refl, sym, subst, ◌∙◌, ap, arith}
use Rattle.smithy_declarations.specs.declared.shape_type.Scalar.TheVariants as scalars
use Rattle.smithy_declarations.specs.Value.{whole}
use Rattle.smithy_shapes.specs.Site.{Site}
use Rattle.smithy_schema.specs.Containers.{GoesOnInList}
use Rattle.smithy_schema.specs.Reading.{Cursor, ReadsScalar, in_list, passed_to}
use Rattle.smithy_schema.specs.Runs.{ReadsInTurn}
use Rattle.smithy_schema.specs.declared.error.SerdeError.{SerdeError}
use Rattle.smithy_json_codec.specs.Cursor.{inside_of, reading_settings_of}
use Rattle.smithy_json_codec.specs.declared.deserializer.JsonDeserializer.{JsonDeserializer}
use Rattle.smithy_json_values.specs.Settings.{Settings}
use Rattle.smithy_json_values.specs.LexicalGrammar.{grammar_of}
use Rattle.smithy_json_values.specs.Spans.{without_ws}
use Rattle.smithy_json_values.specs.Standing.{json_reader}
use Rattle.smithy_json_values.specs.TypeMismatch.{scalar_mismatches}
use Rattle.smithy_wire.specs.Finding.{told}
use Rattle.smithy_json_values.specs.Private.LongRuns.{IsNextLong, LongsAt}
use Rattle.smithy_json_values.specs.Private.BytePlaces.{separated_ahead}
use Rattle.smithy_json_values.proofs.IntegerReads.{integer_lies}
use Rattle.smithy_json_values.proofs.PlainIntegers.{plain_stands}
use Rattle.smithy_json_codec.proofs.DeserializerLemmas.{element_steps}
use Rattle.smithy_json_codec.proofs.NumberReads.{reads_integer}
use Rattle.smithy_wire.proofs.ListAnswers.{list_goes_on}
use Rattle.smithy_wire.specs.Walking.{gone_on_to}

-- behind these elements the reader stands here
abbrev pub behind : Cursor → ℕ → Cursor
behind c end = passed_to (gone_on_to c end (inside_of in_list true)) end

-- an answer is told as it is
told_ok : (other : Bool) (n : ℤ) → ◌≡◌ {A = Result ℤ SerdeError} (told other (Ok n)) (Ok n)
told_ok true n = refl
told_ok false n = refl

module _ (d : JsonDeserializer) (site : Site) where
  abbrev o : Settings
  o = reading_settings_of d

  -- one element
  pub one_long : (c : Cursor) (n : ℤ) (next : ℕ) → c.failed ≡ false → c.due ≡ false → c.inner.within ≡ in_list → (h : IsNextLong c.input c.at c.inner.mark.entered n next)
      → GoesOnInList (json_reader o) c (gone_on_to c h.place (inside_of in_list true)) (Ok true)
      × ReadsScalar {A = ℤ} (json_reader o) (gone_on_to c h.place (inside_of in_list true)) (behind c next) site scalars.Long whole (Ok n)
  one_long c n next sound undue within h =
      let due = gone_on_to c h.place (inside_of in_list true) in
      let here : h.place ≤ length c.input = omega (arith, h.ws.ordered, h.ws.within) in
      let lies = integer_lies o c.input h.place h.start h.ws n next (plain_stands o c.input h.start next n h.stands) in
      let other = scalar_mismatches o scalars.Long site.place.time (without_ws (drop h.place c.input)) in (
        list_goes_on _ _ _ c sound due h.place true undue refl refl (separated_ahead c.input c.inner.mark.entered c.at h.place h.begins.0) here
            (λ t p list. element_steps o c due t p h.place list within sound refl h.begins),
        subst (λ (r : Result ℤ SerdeError). ReadsScalar {A = ℤ} (json_reader o) due (behind c next) site scalars.Long whole r) (told_ok other n)
            (reads_integer (grammar_of o) o due site sound refl here scalars.Long 64 (record { says_whole = λ x. refl; test = λ raw. refl }) (behind c next) (Some (n, next)) (Ok n)
            lies tt (refl, refl) (λ is. refl) (λ is. cc) tt tt),
      )

  -- those behind an element
  longs_behind : (c d : Cursor) (ns : List ℤ) (end : ℕ) → c.failed ≡ false → c.due ≡ false → c.inner ≡ inside_of in_list true
      → LongsAt c.input c.at true ns end → d ≡ behind c end → ReadsInTurn (json_reader o) site scalars.Long c ns d
  longs_behind c d [] end sound undue within at is =
      ap (λ a. record c { at = a }) at ∙ ap (λ f. record c { at = end; inner = f }) within
      ∙ ap (λ b. record c { at = end; inner = inside_of in_list true; due = b }) undue ∙ sym is
  longs_behind c d (n ∷ ns) end sound undue within (next, h, rest) is =
      let there : IsNextLong c.input c.at c.inner.mark.entered n next = rw within h in
      let one = one_long c n next sound undue (ap (λ f. f.within) within) there in
      (gone_on_to c there.place (inside_of in_list true), behind c next, one.0, one.1, longs_behind (behind c next) d ns end sound refl refl rest is)

  -- all in turn, where there are some
  pub longs_in_turn : (c d : Cursor) (ns : List ℤ) (end : ℕ) → c.failed ≡ false → c.due ≡ false → c.inner.within ≡ in_list → 0 < length ns
      → LongsAt c.input c.at c.inner.mark.entered ns end → d ≡ behind c end → ReadsInTurn (json_reader o) site scalars.Long c ns d
  longs_in_turn c d [] end sound undue within some longs is = absurd (omega (arith, some))
  longs_in_turn c d (n ∷ ns) end sound undue within some (next, h, rest) is =
      let one = one_long c n next sound undue within h in
      (gone_on_to c h.place (inside_of in_list true), behind c next, one.0, one.1, longs_behind (behind c next) d ns end sound refl refl rest is)
