-- What a token of a grammar says as a kind stands at the place of a scalar, and nothing else does; whatever the grammar.
use Rattle.std.specs.Prelude.{◌≡◌, ℕ, List, Bool, true, false, Some, None, if◌then◌else◌, refl}
use Rattle.std.proofs.Common.{◌∙◌, ap}
use Rattle.smithy_declarations.specs.declared.shape_type.Scalar.{Scalar}
use Rattle.smithy_declarations.specs.declared.place.Place.{Place}
use Rattle.smithy_shapes.specs.Limits.{Limits}
use Rattle.smithy_declarations.specs.Table.{scalar_place}
use Rattle.smithy_shapes.specs.Site.{Site}
use Rattle.smithy_declarations.specs.Value.{Value, null_element}
use Rattle.smithy_schema.specs.Reading.{Cursor, depth, StandsNot, Exceeds, Uncarried}
use Rattle.smithy_json_values.specs.Settings.{Settings}
use Rattle.smithy_json_values.specs.Scalar.{JsonScalar, says}
use Rattle.smithy_json_values.specs.LexicalGrammar.{LexicalGrammar, frames_of, in_grammar, token_rules, token_relations, LiesInGrammar}
use Rattle.smithy_json_values.specs.Private.Wire.{tokens_are_wire}
use Rattle.smithy_wire.specs.Frames.{Frames}
use Rattle.smithy_wire.specs.Rules.{Answer, no_meaning, wide, uncarried, settled, Rules}
use Rattle.smithy_wire.specs.Readers.{scalar_stands, stands_scalar, scalar_exceeds, exceeds_scalar, scalar_uncarried, uncarried_scalar}

-- what passes the test says what it says without the test
tested : {A : Type 0} (test : Bool) (a : Answer A) → test ≡ true → (if test then a else no_meaning) ≡ a
tested test a h = ap (λ b. if b then a else no_meaning) h

-- and what says something passes it
answered : {A : Type 0} (test : Bool) (a b : Answer A) → (no_meaning ≡ b → ⊥) → (if test then a else no_meaning) ≡ b → (test ≡ true) × (a ≡ b)
answered true a b other h = (refl, h)
answered false a b other h = absurd (other h)

settled_where : {A : Type 0} (limits : Limits) (nil : A) (test : Bool) (a : Answer A) (v : A) → settled limits nil (if test then a else no_meaning) ≡ Some v
    → (test ≡ true) × (settled limits nil a ≡ Some v)
settled_where limits nil true a v h = (refl, h)
settled_where limits nil false a v h = absurd (let no : None ≡ Some v = h in cc)

-- at one place lies one scalar of the grammar
pub one_in_grammar : (g : LexicalGrammar) (s : Scalar) (i : List ℕ) (x y : JsonScalar) (a e f : ℕ) → LiesInGrammar g s x i a e → LiesInGrammar g s y i a f → x ≡ y
one_in_grammar g s i x y a e f h k = ((tokens_are_wire g.is_strict).same_scalar i 0 x y a e f h.0 k.0).0

module _ (g : LexicalGrammar) (o : Settings) (c : Cursor) (site : Site) (s : Scalar) where
  abbrev w : Frames JsonScalar
  w = frames_of g

  abbrev r : Rules JsonScalar
  r = token_rules g o

  abbrev place : Place
  place = scalar_place s site.place.time

  -- what the token says at the site
  abbrev said : JsonScalar → Answer Value
  said x = says o s site.place.time x

  pub says_stands : (x : JsonScalar) (v : Value) (e : ℕ) → LiesInGrammar g s x c.input c.at e → settled o.limits null_element (said x) ≡ Some v
      → (token_relations g o).stands c.input site.table place (depth c) c.at v e
  says_stands x v e lies means =
      scalar_stands w r c.input site.table place s refl (depth c) c.at v e
      (x, lies.0, ap (settled o.limits null_element) (tested (in_grammar g s x) (said x) lies.1) ∙ means)

  pub nothing_stands : ((x : JsonScalar) (v : Value) (e : ℕ) → LiesInGrammar g s x c.input c.at e → settled o.limits null_element (said x) ≡ Some v → ⊥)
      → StandsNot (token_relations g o) c site.table place
  nothing_stands none v e stands =
      let x = stands_scalar w r c.input site.table place s refl (depth c) c.at v e stands in
      let there = settled_where o.limits null_element (in_grammar g s x.0) (said x.0) v x.2 in
      none x.0 v e (x.1, there.0) there.1

  pub says_exceeds : (x : JsonScalar) (e : ℕ) → LiesInGrammar g s x c.input c.at e → said x ≡ wide → Exceeds (token_relations g o) c site.table place
  says_exceeds x e lies is =
      (e, scalar_exceeds w r c.input site.table place s refl (depth c) c.at x e lies.0 (tested (in_grammar g s x) (said x) lies.1 ∙ is))

  pub nothing_exceeds : ((x : JsonScalar) (e : ℕ) → LiesInGrammar g s x c.input c.at e → said x ≡ wide → ⊥) → Exceeds (token_relations g o) c site.table place → ⊥
  nothing_exceeds none (e, there) =
      let x = exceeds_scalar w r c.input site.table place s refl (depth c) c.at e there in
      let passed = answered (in_grammar g s x.0) (said x.0) wide (λ no. cc) x.2 in
      none x.0 e (x.1, passed.0) passed.1

  pub says_uncarried : (x : JsonScalar) (e : ℕ) → LiesInGrammar g s x c.input c.at e → said x ≡ uncarried → Uncarried (token_relations g o) c site.table place
  says_uncarried x e lies is =
      (e, scalar_uncarried w r c.input site.table place s refl (depth c) c.at x e lies.0 (tested (in_grammar g s x) (said x) lies.1 ∙ is))

  pub nothing_uncarried : ((x : JsonScalar) (e : ℕ) → LiesInGrammar g s x c.input c.at e → said x ≡ uncarried → ⊥) → Uncarried (token_relations g o) c site.table place → ⊥
  nothing_uncarried none (e, there) =
      let x = uncarried_scalar w r c.input site.table place s refl (depth c) c.at e there in
      let passed = answered (in_grammar g s x.0) (said x.0) uncarried (λ no. cc) x.2 in
      none x.0 e (x.1, passed.0) passed.1
