-- How a container goes on depends on how many entries are due, and on nothing else of its mark.
use Rattle.std.proofs.Common.{◌≡◌, ◌<◌, inl, inr, ℕ, List, sym, ap, ◌∙◌}
use Rattle.smithy_schema.specs.Reading.{Mark}
use Rattle.smithy_shapes.specs.Lemmas.Options.{same_some}
use Rattle.smithy_cbor.specs.Scalar.{text_of}
use Rattle.smithy_cbor_values.specs.Standing.{HasEntry, IsOver}
use Rattle.smithy_cbor_values.specs.Private.ScalarAtPlace.{HasTextAt}
use Rattle.smithy_cbor_values.specs.Private.ItemPlaces.{item_ahead, one_item}
use Rattle.smithy_cbor_codec.specs.Private.PassedEntries.{HasKey}

pub entry_by_due : (i : List ℕ) (b : ℕ) (m k n : Mark) → m.due ≡ k.due → HasEntry i b m n → HasEntry i b k n
entry_by_due i b m k n same (some, inl (count, due, after)) = (some, inl (count, sym same ∙ due, after))
entry_by_due i b m k n same (some, inr (due, other, after)) = (some, inr (sym same ∙ due, other, after))

pub over_by_due : (i : List ℕ) (b : ℕ) (m k : Mark) (e : ℕ) → m.due ≡ k.due → IsOver i b m e → IsOver i b k e
over_by_due i b m k e same (inl (due, end)) = inl (sym same ∙ due, end)
over_by_due i b m k e same (inr (due, comes, end)) = inr (sym same ∙ due, comes, end)

pub key_by_due : (i : List ℕ) (b : ℕ) (m k : Mark) (text : List ℕ) (c : ℕ) (n : Mark) → m.due ≡ k.due → HasKey i b m text c n → HasKey i b k text c n
key_by_due i b m k text c n same (entry, key) = (entry_by_due i b m k n same entry, key)

pub key_text : (i : List ℕ) (b : ℕ) (m : Mark) (text : List ℕ) (c : ℕ) (n : Mark) → HasKey i b m text c n → HasTextAt text i b c
key_text i b m text c n (entry, (k, there, is)) = record { found = k; stands = there; is = is }

pub key_of : (i : List ℕ) (b : ℕ) (m : Mark) (text : List ℕ) (c : ℕ) (n : Mark) → HasEntry i b m n → HasTextAt text i b c → HasKey i b m text c n
key_of i b m text c n entry h = (entry, (h.found, h.stands, h.is))

pub key_ahead : (i : List ℕ) (b : ℕ) (m : Mark) (text : List ℕ) (c : ℕ) (n : Mark) → HasKey i b m text c n → b < c
key_ahead i b m text c n h = item_ahead h.1.0 i b c h.1.1

-- a key is determined, with its end
pub one_key : (i : List ℕ) (b : ℕ) (m : Mark) (s r : List ℕ) (c e : ℕ) (n o : Mark) → HasKey i b m s c n → HasKey i b m r e o → (s ≡ r) × (c ≡ e)
one_key i b m s r c e n o h j =
    let one = one_item h.1.0 j.1.0 i b c e h.1.1 j.1.1 in
    (same_some s r (sym h.1.2 ∙ (ap text_of one.0 ∙ j.1.2)), one.1)
