-- What a call that writes an instant makes of a serializer's state.
use Rattle.std.proofs.Common.{◌≡◌, ℤ, true, false, Result, Err, ◌∙◌, ap}
use Rattle.std.specs.Prelude.{◌==◌}
use Rattle.smithy_schema.specs.declared.error.SerdeError.{SerdeError}
use Rattle.smithy_schema.specs.declared.error.SerdeError.TheVariants.{Unwritable}
use Rattle.smithy_shapes.specs.Site.{Site}
use Rattle.smithy_declarations.specs.Value.{instant}
use Rattle.smithy_schema.specs.Writing.{scalar_of, after_value}
use Rattle.smithy_instants.specs.Instant.{subsecond_of}
use Rattle.smithy_cbor_body.specs.Writing.{BodyState, made, where_taken, where_writable, body_after}

module _ (s : BodyState) (site : Site) (n : ℤ) where
  abbrev taken_as : Result BodyState SerdeError
  taken_as = where_taken (made (scalar_of site (instant n)) s) (after_value s.frames)

  -- whole seconds are written
  pub instant_written : (r : Result BodyState SerdeError) → (subsecond_of n == 0) ≡ true → where_taken (made (scalar_of site (instant n)) s) (after_value s.frames) ≡ r
      → body_after (scalar_of site (instant n)) s ≡ r
  instant_written r whole taken = ap (λ b. where_writable b taken_as) whole ∙ taken

  -- and a fraction of a second is refused
  pub instant_refused : (subsecond_of n == 0) ≡ false → body_after (scalar_of site (instant n)) s ≡ Err Unwritable
  instant_refused broken = ap (λ b. where_writable b taken_as) broken
