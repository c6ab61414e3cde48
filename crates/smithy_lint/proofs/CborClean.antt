-- In a body of CBOR nothing is found exactly where it spells a value and knows all of it.
use Rattle.std.proofs.Common.{◌≡◌, ◌∷◌, inl, inr, ℕ, List, [], true, ◌&&◌, Option, Some, None, refl, ◌∙◌, sym, ap, subst}
use Rattle.std.specs.Prelude.{◌↔◌, is_some}
use Rattle.std.proofs.lemmas.Bool.{and_parts}
use Rattle.smithy_declarations.specs.declared.place.Place.{Place}
use Rattle.smithy_declarations.specs.Table.{Table, kind_of, IsStructure}
use Rattle.smithy_declarations.specs.Value.{Value, structure, no_member_values}
use Rattle.cbor_item.specs.Item.{Item}
use Rattle.cbor_item.specs.WellFormed.{IsEncodingOf}
use Rattle.cbor_item.proofs.FirstByte.{not_empty}
use Rattle.cbor_item.proofs.OneItem.{same_item}
use Rattle.smithy_cbor_body.specs.Codec.{strict_settings}
use Rattle.smithy_cbor_values.specs.Meaning.{node_of, rules_of, cbor_meaning}
use Rattle.smithy_cbor_values.specs.Spelling.{cbor_spells}
use Rattle.smithy_lint.specs.Findings.{Found, findings, all_known}
use Rattle.smithy_lint.proofs.Law.{is_clean}
use Rattle.smithy_lint.proofs.Whole.{nothing_found}

-- all that the bytes are an encoding of is known
abbrev pub KnowsItems : Table → Place → List ℕ → Type 0
KnowsItems t p input = (i : Item) → IsEncodingOf i input → all_known (rules_of strict_settings) t p (node_of i) ≡ true

abbrev pub SpellsKnown : Table → Place → List ℕ → Type 0
SpellsKnown t p input = ((v : Value) × cbor_spells strict_settings t p input v) × KnowsItems t p input

pub clean_is_empty : (l : List Found) → is_clean l ≡ true → l ≡ []
clean_is_empty [] h = refl
clean_is_empty (f ∷ fs) h = cc

pub some_there : (o : Option Value) → is_some o ≡ true → (v : Value) × (o ≡ Some v)
some_there (Some v) h = (v, refl)
some_there None h = cc

-- of an item
pub item_clean : (t : Table) (p : Place) (input : List ℕ) (i : Item) (l : List Found) → IsEncodingOf i input → l ≡ findings (rules_of strict_settings) t p 0 [] (node_of i)
    → (l ≡ []) ↔ SpellsKnown t p input
item_clean t p input i l encoded is = (out, back)
  where
    law : is_clean l ≡ (is_some (cbor_meaning strict_settings t p 0 i) && all_known (rules_of strict_settings) t p (node_of i))
    law = ap is_clean is ∙ nothing_found Item (rules_of strict_settings) refl t p 0 [] (node_of i)

    out : l ≡ [] → SpellsKnown t p input
    out none =
        let both = and_parts (is_some (cbor_meaning strict_settings t p 0 i)) (all_known (rules_of strict_settings) t p (node_of i)) (sym law ∙ ap is_clean none) in
        let (v, means) = some_there (cbor_meaning strict_settings t p 0 i) both.0 in
        ((v, inl (i, encoded, means)), λ j other. ap (λ x. all_known (rules_of strict_settings) t p (node_of x)) (same_item j i input other encoded) ∙ both.1)

    clean : (v : Value) → cbor_meaning strict_settings t p 0 i ≡ Some v → all_known (rules_of strict_settings) t p (node_of i) ≡ true → l ≡ []
    clean v means known = clean_is_empty l (law ∙ rw (means, known) refl)

    back : SpellsKnown t p input → l ≡ []
    back ((v, inl (j, other, means)), knows) =
        clean v (ap (cbor_meaning strict_settings t p 0) (same_item i j input encoded other) ∙ means) (knows i encoded)
    back ((v, inr (empty, kind, shallow, none)), knows) = absurd (not_empty i (subst (IsEncodingOf i) empty encoded))

-- of an empty body
pub empty_clean : (t : Table) (p : Place) (input : List ℕ) (l : List Found) → IsStructure (kind_of t p) → input ≡ [] → l ≡ [] → (l ≡ []) ↔ SpellsKnown t p input
empty_clean t p input l kind empty none = (
  λ _. ((structure no_member_values, inr (empty, kind, refl, refl)), λ i encoded. absurd (not_empty i (subst (IsEncodingOf i) empty encoded))),
  λ _. none,
)
