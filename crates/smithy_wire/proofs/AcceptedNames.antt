-- Members of an accepted table have names by which they can be written, in either way of naming them, and nulls are told from
-- documents.
use Rattle.std.specs.Prelude.{◌≡◌, ℕ, zero, suc, List, [], ◌∷◌, Some, None, slice_get, IsUtf8}
use Rattle.std.specs.List.{AllByRecursion}
use Rattle.std.proofs.Common.{subst}
use Rattle.smithy_declarations.specs.declared.place.Place.{Place}
use Rattle.smithy_declarations.specs.Table.{Table, Member, kind_of, members_of, json_name_of}
use Rattle.smithy_shapes.specs.Accepted.{IsAccepted}
use Rattle.smithy_shapes.specs.Lemmas.Options.{same_some}
use Rattle.smithy_wire.specs.Written.{TellsApart}

-- what holds of all holds of each
each_has : {X : Type 0} (P : X → Type 0) (xs : List X) (n : ℕ) (x : X) → AllByRecursion P xs → slice_get xs n ≡ Some x → P x
each_has P [] n x all found = absurd (let none : None ≡ Some x = found in cc)
each_has P (y ∷ xs) zero x all found = subst P (same_some y x found) all.0
each_has P (y ∷ xs) (suc n) x all found = each_has P xs n x all.1 found

module _ (t : Table) (accepted : IsAccepted t) where
  -- both names of a member are texts
  names_are_texts : (at : Place) (n : ℕ) (m : Member) → slice_get (members_of (kind_of t at)) n ≡ Some m → IsUtf8 m.name × IsUtf8 (json_name_of m)
  names_are_texts at n m found =
      each_has (λ (m : Member). IsUtf8 m.name × IsUtf8 (json_name_of m)) (members_of (kind_of t at)) n m (accepted.names_are_texts at) found

  pub named_by_name : TellsApart (λ m. m.name) t
  named_by_name = record {
    names_differ = λ at. (accepted.members_are_accepted at).names_differ;
    names_are_texts = λ at n m found. (names_are_texts at n m found).0;
    sparse_without_documents = accepted.sparse_without_documents;
  }

  pub named_by_json_name : TellsApart json_name_of t
  named_by_json_name = record {
    names_differ = λ at. (accepted.members_are_accepted at).json_names_differ;
    names_are_texts = λ at n m found. (names_are_texts at n m found).1;
    sparse_without_documents = accepted.sparse_without_documents;
  }
