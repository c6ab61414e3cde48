-- Documents in maps, by what contracts see of them.
use Rattle.std.proofs.Common.{◌≡◌, List, [], ◌∷◌, ◌++◌, Bor, String, Global, Ordering, Less, Equal, Greater, string_bytes, string_cmp, nat_cmp, refl, ap, ◌∙◌}
use Rattle.std.proofs.lemmas.Cmp.{nat_list_cmp_total}
use Rattle.std.proofs.lemmas.Map.Text.{is_eq-slice_cmp}
use Rattle.std.specs.BTreeMap.{insert_entry}
use Rattle.std.specs.Cmp.Lexicographic.{slice_cmp}
use Rattle.std.specs.List.{AllByRecursion}
use Rattle.std.specs.List.Sorted.{IsStrictlySortedBy}
use Rattle.std.specs.Map.{keys_of, lookup, remove_entry}
use Rattle.std.specs.Ordering.{is_eq, match_ordering, ordering_reverse}
use Rattle.std.specs.Prelude.{ℕ, Bool, true, false, Option, Some, None, cond, option_map, option_copied}
use Rattle.smithy_types.specs.Identifier.{under, without}
use Rattle.smithy_types.specs.Document as documents
use Rattle.smithy_types.specs.Document.{Properties, property, put_property}
use Rattle.smithy_types.specs.declared.number.Number.{Number}
use Rattle.smithy_types.specs.DocumentView.{document_view, properties_view}
use Rattle.smithy_types.specs.declared.document.Document.{Document}

abbrev pub Entry : Type 0
Entry = String Global × Document

view-match_ordering : (o : Ordering) (a b c : List Entry) → properties_view (match_ordering o a b c) ≡ match_ordering o (properties_view a) (properties_view b) (properties_view c)
view-match_ordering Less a b c = refl
view-match_ordering Equal a b c = refl
view-match_ordering Greater a b c = refl

-- what is inserted into the map is put among the properties
pub view-insert_entry : (es : List Entry) (name : String Global) (d : Document) → properties_view (insert_entry string_cmp es name d) ≡ put_property (string_bytes name) (document_view d) (properties_view es)
view-insert_entry [] name d = refl
view-insert_entry (e ∷ es) name d = view-match_ordering (string_cmp name e.0) _ _ _ ∙ rw (view-insert_entry es name d)

below : (first : Entry) (es : List Entry) (e : Entry) (more : List Entry) → AllByRecursion (λ y. string_cmp first.0 y ≡ Less) (keys_of (es ++ e ∷ more)) → string_cmp first.0 e.0 ≡ Less
below first [] e more h = h.0
below first (x ∷ es) e more h = below first es e more h.1

-- a name behind all others goes last
pub put_last : (done : List Entry) (e : Entry) (more : List Entry) → IsStrictlySortedBy string_cmp (keys_of (done ++ e ∷ more))
    → put_property (string_bytes e.0) (document_view e.1) (properties_view done) ≡ properties_view (done ++ e ∷ [])
unfolding IsStrictlySortedBy
put_last [] e more h = refl
put_last (first ∷ done) e more h =
    let above : slice_cmp nat_cmp (string_bytes e.0) (string_bytes first.0) ≡ Greater =
    nat_list_cmp_total.antisymm (string_bytes e.0) (string_bytes first.0) ∙ ap ordering_reverse (below first done e more h.0) in
    rw above (ap (property (string_bytes first.0) (document_view first.1)) (put_last done e more h.1))

-- ---- the document under a name

-- a document that is lent is seen as the document itself
pub copied_view : (r : Option (Bor Document)) → option_map (λ d. document_view d.now) r ≡ option_map document_view (option_copied r)
copied_view None = refl
copied_view (Some d) = refl

mapped : (b : Bool) (d : Document) (rest : Option Document) (there : Option (documents.Document Number)) → option_map document_view rest ≡ there
    → option_map document_view (cond b (Some d) rest) ≡ cond b (Some (document_view d)) there
mapped true d rest there h = refl
mapped false d rest there h = h

-- what is found in the map is the document under the name
pub view-lookup : (name : List ℕ) (es : List Entry) → option_map document_view (lookup (λ k. is_eq (slice_cmp nat_cmp name (string_bytes k))) es) ≡ under name (properties_view es)
view-lookup name [] = refl
view-lookup name (e ∷ es) =
    mapped (is_eq (slice_cmp nat_cmp name (string_bytes e.0))) e.1 _ _ (view-lookup name es)
    ∙ ap (λ b. cond b (Some (document_view e.1)) (under name (properties_view es))) (is_eq-slice_cmp name (string_bytes e.0))

removed : (b : Bool) (e : Entry) (es rest : List Entry) (there : Properties Number) → properties_view rest ≡ there
    → properties_view (cond b es (e ∷ rest)) ≡ cond b (properties_view es) (property (string_bytes e.0) (document_view e.1) there)
removed true e es rest there h = refl
removed false e es rest there h = ap (property (string_bytes e.0) (document_view e.1)) h

-- what is left of the map are the properties without the one under the name
pub view-remove_entry : (name : List ℕ) (es : List Entry) → properties_view (remove_entry (λ k. is_eq (slice_cmp nat_cmp name (string_bytes k))) es) ≡ without name (properties_view es)
view-remove_entry name [] = refl
view-remove_entry name (e ∷ es) =
    removed (is_eq (slice_cmp nat_cmp name (string_bytes e.0))) e es _ _ (view-remove_entry name es)
    ∙ ap (λ b. cond b (properties_view es) (property (string_bytes e.0) (document_view e.1) (without name (properties_view es)))) (is_eq-slice_cmp name (string_bytes e.0))
