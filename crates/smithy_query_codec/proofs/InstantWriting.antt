-- What a call that writes an instant makes of a serializer's state.
use Rattle.std.proofs.Common.{◌≡◌, ◌&&◌, ℕ, ℤ, List, [], Bool, false, Option, Some, Result, Err, ◌∙◌, ap}
use Rattle.std.specs.Prelude.{is_some, unwrap_or}
use Rattle.smithy_schema.specs.declared.error.SerdeError.{SerdeError}
use Rattle.smithy_schema.specs.declared.error.SerdeError.TheVariants.{Unwritable}
use Rattle.smithy_shapes.specs.Site.{Site}
use Rattle.smithy_declarations.specs.TimeForms.{format_of, form_writes}
use Rattle.smithy_declarations.specs.Value.{instant}
use Rattle.smithy_schema.specs.Writing.{scalar_of, after_value}
use Rattle.smithy_instants.specs.WrittenDate.{date_text}
use Rattle.smithy_query_codec.specs.Leaves.{form_at}
use Rattle.smithy_query_codec.specs.Writing.{QueryState, has_room, is_placed, made, wrote, allowed, where_taken, query_after}

module _ (s : QueryState) (site : Site) (n : ℤ) where
  abbrev placed : Bool
  placed = is_placed s.opens site.view && has_room s.opens s.count

  abbrev written_as : Option (List ℕ) → Result QueryState SerdeError
  written_as o = where_taken (wrote s site.view (unwrap_or o [])) (allowed (is_some o && placed) (after_value s.opens))

  -- its text is written
  pub instant_written : (t : List ℕ) (r : Result QueryState SerdeError) → date_text (format_of (form_at site)) n ≡ Some t
      → where_taken (wrote s site.view t) (allowed (is_placed s.opens site.view && has_room s.opens s.count) (after_value s.opens)) ≡ r
      → query_after (scalar_of site (instant n)) s ≡ r
  instant_written t r is taken = ap written_as is ∙ taken

  -- and where there is none it is refused
  pub instant_refused : form_writes (form_at site) (instant n) ≡ false → query_after (scalar_of site (instant n)) s ≡ Err Unwritable
  instant_refused none = ap (λ b. where_taken (made (scalar_of site (instant n)) s) (allowed (b && placed) (after_value s.opens))) none
