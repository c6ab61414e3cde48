-- The prefix of rows is one entry.
use Rattle.std.specs.Prelude.{◌<◌, ℕ, [], ◌∷◌, Ok, refl}
use Rattle.std.proofs.Common.{arith}
use Rattle.cbor_item.specs.Head.{initial_byte, immediate, IsHead}
use Rattle.cbor_item.specs.Item.{definite, unsigned, text_string, no_pairs, pair}
use Rattle.cbor_item.specs.WellFormed.{IsEncodingOf}
use Rattle.smithy_cbor_body.specs.Prefixes.{AreEntries}

-- a head of one byte
in_one_byte : (major n : ℕ) → n < 24 → IsHead major n (initial_byte major n ∷ [])
in_one_byte major n fits = record { width = immediate; fits = fits; spelled = refl }

key : IsEncodingOf (text_string definite ((0x70 ∷ []) ∷ [])) (0x61 ∷ 0x70 ∷ [])
key = (refl, (0x61 ∷ 0x70 ∷ [], [], (0x61 ∷ [], in_one_byte 3 1 (omega arith), refl), refl, refl))

-- `p` and 1
pub mark_is_an_entry : AreEntries (Ok (0x61 ∷ 0x70 ∷ 0x01 ∷ []))
mark_is_an_entry =
    (pair (text_string definite ((0x70 ∷ []) ∷ [])) (unsigned 1) no_pairs, (0x61 ∷ 0x70 ∷ [], 0x01 ∷ [], [], key, in_one_byte 0 1 (omega arith), refl, refl))
