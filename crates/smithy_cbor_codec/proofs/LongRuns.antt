-- Integers that stand one after another in an array are read by the element calls in turn.
use Rattle.std.proofs.Common.{◌≡◌, ◌≤◌, ◌<◌, ℕ, ℤ, suc, zero, length, List, [], ◌∷◌, Bool, true, false, Option, Some, Ok, refl, sym, ◌∙◌, ap, arith}
use Rattle.std.specs.Prelude.{FitsSigned}
use Rattle.std.specs.Int.{w64}
use Rattle.smithy_declarations.specs.declared.shape_type.Scalar.TheVariants as scalars
use Rattle.smithy_declarations.specs.Value.{whole}
use Rattle.smithy_shapes.specs.Site.{Site}
use Rattle.smithy_schema.specs.Containers.{GoesOnInList}
use Rattle.smithy_schema.specs.Reading.{Cursor, depth, ReadsScalar, in_list, passed_to}
use Rattle.smithy_schema.specs.Runs.{ReadsInTurn}
use Rattle.smithy_cbor_codec.specs.Cursor.{inside_of}
use Rattle.smithy_cbor_values.specs.Settings.{Settings}
use Rattle.smithy_cbor_values.specs.Standing.{Follows, HasEntry, mark_with, end_depth, cbor_reader}
use Rattle.smithy_cbor_values.specs.Private.LongRuns.{LongsAt}
use Rattle.smithy_cbor_values.specs.Private.ScalarAtPlace.{IsWholeAt}
use Rattle.smithy_cbor_values.proofs.ScalarReads.{reads_whole}
use Rattle.smithy_cbor_values.proofs.InstantPlaces.{fits_long}
use Rattle.smithy_cbor.specs.Reading.{IsIntegerAt}
use Rattle.smithy_cbor_codec.proofs.DeserializerLemmas.{element_steps}
use Rattle.smithy_wire.proofs.ListAnswers.{list_goes_on}
use Rattle.smithy_wire.specs.Walking.{gone_on_to}

-- inside of a container anything may follow a value
follows_inside : (strict : Bool) (d : ℕ) (input : List ℕ) (e : ℕ) → 0 < d → Follows (end_depth strict d) input e
follows_inside strict zero input e within = absurd (omega (arith, within))
follows_inside true (suc d) input e within = tt
follows_inside false (suc d) input e within = tt

-- behind these elements the reader stands here
abbrev pub behind : Cursor → ℕ → Option ℕ → Cursor
behind c end left = passed_to (gone_on_to c end (inside_of in_list left)) end

module _ (o : Settings) (site : Site) where
  -- one element
  pub one_long : (c : Cursor) (n : ℤ) (next : ℕ) (after : Option ℕ) → c.failed ≡ false → c.due ≡ false → c.inner.within ≡ in_list → 0 < depth c → c.at ≤ length c.input
      → HasEntry c.input c.at (mark_with c.inner.mark.due) (mark_with after) → IsIntegerAt n c.input c.at next → FitsSigned w64 n
      → GoesOnInList (cbor_reader o) c (gone_on_to c c.at (inside_of in_list after)) (Ok true)
      × ReadsScalar {A = ℤ} (cbor_reader o) (gone_on_to c c.at (inside_of in_list after)) (behind c next after) site scalars.Long whole (Ok n)
  one_long c n next after sound undue within inside here entry there fits =
      let due = gone_on_to c c.at (inside_of in_list after) in
      let stands : IsWholeAt 64 n c.input c.at (end_depth o.enforce_strictness (depth c)) next = record {
        found = there.0;
        stands = there.1;
        is = there.2;
        fits = fits_long n fits;
        follows = follows_inside o.enforce_strictness (depth c) c.input next inside;
      } in (
        list_goes_on _ _ _ c sound due c.at true undue refl refl (omega arith) here
            (λ t p list. element_steps o c t p list due after within sound refl entry),
        reads_whole o due site sound refl here scalars.Long 64 (λ x. refl) (behind c next after) (Some (n, next)) (Ok n) stands tt (refl, refl) (λ is. refl) (λ is. cc) tt tt,
      )

  -- those behind an element
  longs_behind : (c d : Cursor) (ns : List ℤ) (end : ℕ) (left : Option ℕ) → c.failed ≡ false → c.due ≡ false → c.inner ≡ inside_of in_list c.inner.mark.due → 0 < depth c → c.at ≤ length c.input
      → LongsAt c.input c.at c.inner.mark.due ns end left → d ≡ behind c end left → ReadsInTurn (cbor_reader o) site scalars.Long c ns d
  longs_behind c d [] end left sound undue within inside here (at, left_is) is =
      ap (λ a. record c { at = a }) at ∙ ap (λ f. record c { at = end; inner = f }) (within ∙ ap (λ l. inside_of in_list l) left_is)
      ∙ ap (λ b. record c { at = end; inner = inside_of in_list left; due = b }) undue ∙ sym is
  longs_behind c d (n ∷ ns) end left sound undue within inside here (after, next, entry, there, fits, rest) is =
      let one = one_long c n next after sound undue (ap (λ f. f.within) within) inside here entry there fits in (
        gone_on_to c c.at (inside_of in_list after),
        behind c next after,
        one.0,
        one.1,
        longs_behind (behind c next after) d ns end left sound refl refl inside there.1.0 rest is,
      )

  -- all in turn, where there are some
  pub longs_in_turn : (c d : Cursor) (ns : List ℤ) (end : ℕ) (left : Option ℕ) → c.failed ≡ false → c.due ≡ false → c.inner.within ≡ in_list → 0 < depth c → c.at ≤ length c.input → 0 < length ns
      → LongsAt c.input c.at c.inner.mark.due ns end left → d ≡ behind c end left → ReadsInTurn (cbor_reader o) site scalars.Long c ns d
  longs_in_turn c d [] end left sound undue within inside here some longs is = absurd (omega (arith, some))
  longs_in_turn c d (n ∷ ns) end left sound undue within inside here some (after, next, entry, there, fits, rest) is =
      let one = one_long c n next after sound undue within inside here entry there fits in (
        gone_on_to c c.at (inside_of in_list after),
        behind c next after,
        one.0,
        one.1,
        longs_behind (behind c next after) d ns end left sound refl refl inside there.1.0 rest is,
      )
