-- Examples of how deep a table nests. Of CBOR no body is too deep for one that nests no container, however deep the item nests where a
-- document is due.
use Rattle.std.proofs.Common.{◌≡◌, ℕ, zero, suc, List, [], ◌∷◌, Option, Some, None, IsErrOf, false, refl, subst, codes}
use Rattle.smithy_declarations.specs.declared.place.Place.{Place}
use Rattle.smithy_declarations.specs.Table as table
use Rattle.smithy_declarations.specs.Table.{Table, document_place, shape_place, kind_of, place_in, IsInside}
use Rattle.smithy_transcode.specs.declared.wire.TranscodeError.TheVariants.{TooDeep}
use Rattle.smithy_transcode.specs.Wires.{Wire, cbor}
use Rattle.smithy_transcode.specs.Causes.{NestsTo, MayNest}
use Rattle.smithy_transcode.specs.Transcoding.{Answer, Transcodes}

-- structure S / member x document
abbrev a_document : Table
a_document = record {
  name = codes "S";
  shape = table.structure (record { name = codes "x"; json_name = None; xml_name = None; is_flat = false; place = document_place None } ∷ []);
} ∷ []

the_child : (n : Option ℕ) (q : Place) → place_in (kind_of a_document (shape_place 0)) n ≡ Some q → q ≡ document_place None
the_child None q is = cc
the_child (Some zero) q is = cc
the_child (Some (suc n)) q is = cc

none_below : (q : Place) (count : ℕ) → IsInside a_document (shape_place 0) (suc (suc count)) q → ⊥
none_below q count (child, n, is, (inner, m, there, rest)) =
    let none : None ≡ Some inner = subst (λ (p : Place). place_in (kind_of a_document p) m ≡ Some inner) (the_child n child is) there in
    cc

nests_nothing : MayNest (cbor false) a_document 0 → ⊥
nests_nothing (q, zero, is, inside, kind) = cc
nests_nothing (q, suc zero, is, inside, kind) = cc
nests_nothing (q, suc (suc count), is, inside, kind) = none_below q count inside

pub never_too_deep : (input : List ℕ) (to : Wire) (answer : Answer) → Transcodes a_document 0 (cbor false) input to answer → IsErrOf answer TooDeep → ⊥
never_too_deep input to answer told is = nests_nothing (told.answers_too_deep is).1.1

-- structure S / member s S: it nests to any depth
abbrev a_nest : Table
a_nest = record {
  name = codes "S";
  shape = table.structure (record { name = codes "s"; json_name = None; xml_name = None; is_flat = false; place = shape_place 0 } ∷ []);
} ∷ []

inside_itself : (count : ℕ) → IsInside a_nest (shape_place 0) count (shape_place 0)
inside_itself zero = refl
inside_itself (suc count) = (shape_place 0, Some 0, refl, inside_itself count)

nests_to : (greatest : ℕ) → NestsTo greatest a_nest 0
nests_to greatest = (shape_place 0, greatest, refl, inside_itself greatest, tt)

pub may_be_too_deep : MayNest (cbor false) a_nest 0
may_be_too_deep = nests_to 128
