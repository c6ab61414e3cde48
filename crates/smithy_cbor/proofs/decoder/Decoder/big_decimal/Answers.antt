-- What was found is within its limits, or leaves them.
use Rattle.std.proofs.Common.{◌∙◌, ℤ, ap, inl, inr, refl, sym, subst, Option, to_z, of_z}
use Rattle.std.specs.Prelude.{FitsSigned}
use Rattle.std.specs.Option.{SomeIff}
use Rattle.std.specs.Int.{w64, w128}
use Rattle.std.proofs.lemmas.Int.{to_z-of_z}
use Rattle.smithy_texts.specs.Decimal.{decimal_text}
use Rattle.smithy_texts.specs.Ranges.{is_exponent}
use Rattle.smithy_cbor.proofs.decoder.Decoder.big_decimal.Goals as goal

pub returns-in_default : goal.returns-in_default
returns-in_default c =
    let parts = c.in-Ok.found in
    let found = c.in-Ok.ensures.found in
    let same = ap is_exponent (to_z-of_z w128 parts.0 c.in-Ok.ensures.fits) in
    record {
      read = tt;
      refused = record {
        cause = inr (inl (ap (λ e. e.kind) c.too_wide.ensures, (parts.0, found.0, parts.2, found.1, λ fits. c.in_default.ensures.value (same ∙ fits.0))));
        place = ap (λ e. e.at) c.too_wide.ensures;
      };
      stays = refl;
    }

pub returns-in_default-mantissa : goal.returns-in_default-mantissa
returns-in_default-mantissa c =
    let parts = c.in-Ok.found in
    let found = c.in-Ok.ensures.found in
    let wide = c.too_wide-in_default-mantissa.ensures in
    let misfit = subst (λ (o : Option ℤ). SomeIff o (FitsSigned w128 found.0) found.0) c.in_default-mantissa.is found.2 in
    record {
      read = tt;
      refused = record {
        cause = inr (inl (ap (λ e. e.kind) wide, (parts.0, found.0, parts.2, found.1, λ fits. misfit fits.1)));
        place = ap (λ e. e.at) wide;
      };
      stays = refl;
    }

pub returns-in-Ok-from_parts : goal.returns-in-Ok-from_parts
returns-in-Ok-from_parts c =
    let parts = c.in-Ok.found in
    let found = c.in-Ok.ensures.found in
    let e = c.in-Some.exponent in
    let m = c.in-Some-mantissa.mantissa in
    let kept = to_z-of_z w128 parts.0 c.in-Ok.ensures.fits in
    let exponent = c.in-Some.ensures.value in
    let mantissa = subst (λ (o : Option ℤ). SomeIff o (FitsSigned w128 found.0) found.0) c.in-Some-mantissa.is found.2 in
    let wide = subst (FitsSigned w128) (sym mantissa.1) mantissa.0 in
    let text = c.in-Ok-from_parts.ensures.text ∙ ap (λ z. decimal_text z (to_z w64 (of_z w64 e))) (to_z-of_z w128 m wide ∙ mantissa.1)
    ∙ ap (decimal_text found.0) (to_z-of_z w64 e c.in-Some.ensures.fits ∙ exponent.1 ∙ kept) in
    record {
      read = record {
        same_input = refl;
        stands = (parts.0, found.0, found.1, (sym (ap is_exponent kept) ∙ exponent.0, mantissa.0), text);
      };
      refused = tt;
      stays = tt;
    }

pub returns-in-Err-from_parts : goal.returns-in-Err-from_parts
returns-in-Err-from_parts c =
    let parts = c.in-Ok.found in
    let found = c.in-Ok.ensures.found in
    let kept = to_z-of_z w128 parts.0 c.in-Ok.ensures.fits in
    let mantissa = subst (λ (o : Option ℤ). SomeIff o (FitsSigned w128 found.0) found.0) c.in-Some-mantissa.is found.2 in
    let refused = c.refused-in-Err-from_parts.ensures in
    record {
      read = tt;
      refused = record {
        cause = inr (inr (refused.kind, (parts.0, found.0, parts.2, found.1, (sym (ap is_exponent kept) ∙ c.in-Some.ensures.value.0, mantissa.0))));
        place = refused.place;
      };
      stays = refl;
    }
