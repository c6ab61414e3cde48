-- What is skipped is an item, of any depth.
use Rattle.std.proofs.Common.{◌≡◌, ◌↔◌, ℕ, List, true, refl}
use Rattle.std.proofs.lemmas.Bool.{and_parts}
use Rattle.cbor_item.specs.Item.{Item}
use Rattle.smithy_cbor_values.specs.Settings.{Settings}
use Rattle.smithy_cbor_values.specs.Meaning.{node_of}
use Rattle.smithy_cbor_values.specs.Standing.{end_depth, cbor_relations}
use Rattle.smithy_cbor_values.specs.Private.Skipping.{SkipsTo}
use Rattle.smithy_cbor_values.specs.Private.NodePlaces.{item_lies, lies_item, none_missing}
use Rattle.smithy_wire.specs.Node.{all_pass}

pub skips_are : (c : Settings) (i : List ℕ) (d a e : ℕ) → SkipsTo i a (end_depth c.enforce_strictness d) e ↔ (cbor_relations c).skips i d a e
skips_are c i d a e = (to, from)
  where
    to : SkipsTo i a (end_depth c.enforce_strictness d) e → (cbor_relations c).skips i d a e
    to h =
        let whole : all_pass (λ (x : Item). true) (node_of h.found) ≡ true = none_missing h.found in
        (node_of h.found, item_lies c.enforce_strictness d h.found i a e h.stands h.follows, rw whole refl)

    from : (cbor_relations c).skips i d a e → SkipsTo i a (end_depth c.enforce_strictness d) e
    from (y, lies, may) =
        let there = (and_parts (all_pass (λ (x : Item). true) y) true may).0 in
        let x = lies_item c.enforce_strictness d y i a e there lies in
        record { found = x.0; stands = x.1; follows = x.2 }
