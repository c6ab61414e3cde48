-- What a call that writes an instant makes of a serializer's state.
use Rattle.std.proofs.Common.{◌≡◌, ℕ, ℤ, List, [], Option, Some, Result, Ok, Err, ◌∙◌, ap, subst, cond}
use Rattle.std.specs.Prelude.{is_some, unwrap_or, OnOk}
use Rattle.smithy_schema.specs.declared.error.SerdeError.{SerdeError}
use Rattle.smithy_schema.specs.declared.error.SerdeError.TheVariants.{Unwritable}
use Rattle.smithy_declarations.specs.declared.shape_type.TimestampFormat.{TimestampFormat}
use Rattle.smithy_shapes.specs.Site.{Site}
use Rattle.smithy_declarations.specs.TimeForms.{format_of}
use Rattle.smithy_declarations.specs.Value.{instant}
use Rattle.smithy_schema.specs.Writing.{scalar_of, after_value}
use Rattle.smithy_instants.specs.WrittenDate.{date_text}
use Rattle.smithy_json_codec.specs.Canonical.{in_form}
use Rattle.smithy_json_codec.specs.Writing.{JsonState, form_at, wrote, where_taken, json_after}

module _ (s : JsonState) (site : Site) (n : ℤ) where
  abbrev written_as : Option (List ℕ) → Result JsonState SerdeError
  written_as o = cond (is_some o) (where_taken (wrote s site.view (in_form (form_at s site) (unwrap_or o []))) (after_value s.frames)) (Err Unwritable)

  -- its text is written
  instant_written : (form : TimestampFormat) (t : List ℕ) (r : Result JsonState SerdeError) → form ≡ form_at s site → date_text (format_of form) n ≡ Some t
      → where_taken (wrote s site.view (in_form form t)) (after_value s.frames) ≡ r → json_after (scalar_of site (instant n)) s ≡ r
  instant_written form t r same is taken =
      let there : date_text (format_of (form_at s site)) n ≡ Some t = subst (λ (f : TimestampFormat). date_text (format_of f) n ≡ Some t) same is in
      let made_there : where_taken (wrote s site.view (in_form (form_at s site) t)) (after_value s.frames) ≡ r =
      subst (λ (f : TimestampFormat). where_taken (wrote s site.view (in_form f t)) (after_value s.frames) ≡ r) same taken in
      ap written_as there ∙ made_there

  -- and so it is by a call that is done
  pub call_written : (form : TimestampFormat) (t : List ℕ) (result : Result Unit SerdeError) (made : JsonState) → form ≡ form_at s site → date_text (format_of form) n ≡ Some t
      → OnOk result (where_taken (wrote s site.view (in_form form t)) (after_value s.frames) ≡ Ok made) → OnOk result (json_after (scalar_of site (instant n)) s ≡ Ok made)
  call_written form t (Ok x) made same is taken = instant_written form t (Ok made) same is taken
  call_written form t (Err e) made same is taken = tt
