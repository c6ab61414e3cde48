-- What an item is as an instant, which instants are written and how, by computing.
use Rattle.std.proofs.Common.{◌≡◌, ◌^◌, ◌-◌, [], ◌∷◌, map, true, false, Some, None, Ok, Err, refl, pos, neg_ℤ, codes}
use Rattle.smithy_schema.specs.declared.error.SerdeError.TheVariants.{Unwritable}
use Rattle.smithy_declarations.specs.declared.shape_type.Scalar.TheVariants as scalars
use Rattle.smithy_declarations.specs.declared.shape_type.TimestampFormat.TheVariants.{HttpDate}
use Rattle.smithy_shapes.specs.Site.{shape_site, member_of}
use Rattle.smithy_declarations.specs.Table as table
use Rattle.smithy_declarations.specs.Table.{Table, scalar_place}
use Rattle.smithy_declarations.specs.Value.{instant, scalar_value, null_element}
use Rattle.smithy_schema.specs.Writing.{scalar_of}
use Rattle.cbor_item.specs.Item.{unsigned, negative, tag, simple, float}
use Rattle.smithy_wire.specs.Rules.{means, no_meaning, uncarried}
use Rattle.smithy_cbor_values.specs.Scalar.{says}
use Rattle.smithy_cbor_body.specs.Canonical.{scalar_bytes, cbor_holds}
use Rattle.smithy_cbor_body.specs.Codec.{strict_settings}
use Rattle.smithy_cbor_body.specs.Writing.{fresh_body, body_after}
use Rattle.smithy_cbor_codec.proofs.OnLiterals.{smithy_cbor_codec_on_literals}
use Rattle.smithy_cbor_codec.proofs.Examples.{plain_member, named, a_text, alone, first_alone, means_at, would_mean_at}

-- integers of seconds within 64 bits
pub dates : map (says scalars.Timestamp None) (tag 1 (unsigned 1) ∷ tag 1 (negative 0) ∷ tag 1 (unsigned (2 ^ 63 - 1)) ∷ tag 1 (negative (2 ^ 63 - 1)) ∷ [])
    ≡ map (λ n. means (scalar_value (instant n))) (pos 1_000_000_000 ∷ neg_ℤ (pos 1_000_000_000) ∷ pos 9_223_372_036_854_775_807_000_000_000 ∷ neg_ℤ (pos 9_223_372_036_854_775_808_000_000_000) ∷ [])
dates = refl

-- a float isn't carried, whatever its value is
pub floats : map (says scalars.Timestamp None) (tag 1 (float (0 ∷ 0 ∷ [])) ∷ tag 1 (float (0x7e ∷ 0 ∷ [])) ∷ []) ≡ uncarried ∷ uncarried ∷ []
floats = refl

-- seconds beyond 64 bits, no tag, another tag, two tags, a text, a bignum and a null
pub no_dates : map (says scalars.Timestamp None) (tag 1 (unsigned (2 ^ 63)) ∷ tag 1 (negative (2 ^ 63)) ∷ unsigned 1 ∷ float (0 ∷ 0 ∷ []) ∷ tag 0 (unsigned 1) ∷ tag 1 (tag 1 (unsigned 1)) ∷ tag 1 (a_text (codes "1")) ∷ tag 1 (tag 2 (a_text [])) ∷ tag 1 (simple 22) ∷ [])
    ≡ no_meaning ∷ no_meaning ∷ no_meaning ∷ no_meaning ∷ no_meaning ∷ no_meaning ∷ no_meaning ∷ no_meaning ∷ no_meaning ∷ []
no_dates = refl

-- structure S / member a timestamp time=http-date
abbrev timed : Table
timed = named (codes "S") (table.structure (plain_member (codes "a") (scalar_place scalars.Timestamp (Some HttpDate)) ∷ [])) ∷ []

-- the form of the place is nothing here; without limits a float means a null
pub at_a_place : (means_at timed 0 (alone (codes "a") (tag 1 (unsigned 1))) ≡ Some (first_alone (scalar_value (instant (pos 1_000_000_000)))))
    × (means_at timed 0 (alone (codes "a") (tag 1 (float (0 ∷ 0 ∷ [])))) ≡ None)
    × (would_mean_at timed 0 (alone (codes "a") (tag 1 (float (0 ∷ 0 ∷ [])))) ≡ Some (first_alone null_element))
unfolding smithy_cbor_codec_on_literals
at_a_place = (refl, refl, refl)

-- whole seconds are written, and no others
pub bytes : map (λ n. scalar_bytes (instant n)) (pos 1_000_000_000 ∷ neg_ℤ (pos 1_000_000_000) ∷ pos 1_494_956_157_000_000_000 ∷ [])
    ≡ (0xc1 ∷ 0x01 ∷ []) ∷ (0xc1 ∷ 0x20 ∷ []) ∷ (0xc1 ∷ 0x1a ∷ 0x59 ∷ 0x1b ∷ 0x38 ∷ 0x7d ∷ []) ∷ []
bytes = refl

pub held : map (λ n. cbor_holds.scalar None (instant n)) (pos 0 ∷ pos 1_000_000_000 ∷ pos 1 ∷ neg_ℤ (pos 1) ∷ pos 1_500_000_000 ∷ []) ≡ true ∷ true ∷ false ∷ false ∷ false ∷ []
held = refl

pub no_fractions : (body_after (scalar_of (member_of (shape_site timed 0) 0) (instant (pos 1))) (fresh_body strict_settings) ≡ Err Unwritable)
    × (body_after (scalar_of (member_of (shape_site timed 0) 0) (instant (pos 1_000_000_000))) (fresh_body strict_settings) ≡ Ok (record (fresh_body strict_settings) { out = 0xc1 ∷ 0x01 ∷ [] }))
no_fractions = (refl, refl)
