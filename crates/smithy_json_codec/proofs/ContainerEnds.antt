-- A list or a map that ends in its bracket is left.
use Rattle.std.proofs.Common.{◌≡◌, ℕ, List, ◌∷◌, drop, true, false, refl, subst, ◌∙◌, inl}
use Rattle.smithy_declarations.specs.declared.place.Place.{Place}
use Rattle.smithy_declarations.specs.Table.{Table, kind_of, IsList, IsMap}
use Rattle.smithy_schema.specs.Reading.{Cursor, Mark, Leaves, depth}
use Rattle.smithy_json_grammar.specs.Ascii.{end_array, end_object}
use Rattle.smithy_json_values.specs.Settings.{Settings}
use Rattle.smithy_json_values.specs.Standing.{Lies, IsByte, closing, json_grammar, json_relations}
use Rattle.smithy_json_values.specs.Tokens.{BoundaryBy, EndsInside}
use Rattle.smithy_json_values.specs.Private.NextInContainer.{ClosesIn}
use Rattle.smithy_wire.specs.Lemmas.Places.{list_is_array, map_is_object}
use Rattle.smithy_wire.specs.Meaning.{is_in}
use Rattle.smithy_wire.specs.Node.{Form, as_array, as_object}

closes : (form : Form) (o : Settings) (i : List ℕ) (t : Table) (p : Place) → is_in (kind_of t p) form ≡ true → (d b : ℕ) (m : Mark) (e : ℕ) → Lies (IsByte (closing form)) i b e
    → EndsInside (BoundaryBy o.enforce_strictness) d (drop e i) → (json_relations o).closes i t p d b m e
closes form o i t p kind d b m e lies follows = inl (form, kind, (0, b, m, (refl, refl), lies), follows)

left : (form : Form) (o : Settings) (old new : Cursor) (t : Table) (p : Place) → is_in (kind_of t p) form ≡ true → old.failed ≡ false → (held : ℕ) → held ≡ depth old
    → (e : ℕ) → ClosesIn (json_grammar o) (closing form) old.input old.at held e → new.input ≡ old.input → new.at ≡ e → old.outer ≡ new.inner ∷ new.outer → new.due ≡ false
    → new.failed ≡ old.failed → Leaves (json_relations o) old new t p
left form o old new t p kind sound held same e closed input place around due failed =
    let there = subst (λ d. ClosesIn (json_grammar o) (closing form) old.input old.at d e) same closed in
    record {
      closes = rw place (closes form o old.input t p kind (depth old) old.at old.inner.mark e there.0 there.1);
      input = input;
      outer = around;
      due = due;
      failed = failed ∙ sound;
    }

pub list_left : (o : Settings) (old new : Cursor) (t : Table) (p : Place) → IsList (kind_of t p) → old.failed ≡ false → (held : ℕ) → held ≡ depth old
    → (e : ℕ) → ClosesIn (json_grammar o) end_array old.input old.at held e → new.input ≡ old.input → new.at ≡ e → old.outer ≡ new.inner ∷ new.outer → new.due ≡ false
    → new.failed ≡ old.failed → Leaves (json_relations o) old new t p
list_left o old new t p kind = left as_array o old new t p (list_is_array (kind_of t p) kind)

pub map_left : (o : Settings) (old new : Cursor) (t : Table) (p : Place) → IsMap (kind_of t p) → old.failed ≡ false → (held : ℕ) → held ≡ depth old
    → (e : ℕ) → ClosesIn (json_grammar o) end_object old.input old.at held e → new.input ≡ old.input → new.at ≡ e → old.outer ≡ new.inner ∷ new.outer → new.due ≡ false
    → new.failed ≡ old.failed → Leaves (json_relations o) old new t p
map_left o old new t p kind = left as_object o old new t p (map_is_object (kind_of t p) kind)
