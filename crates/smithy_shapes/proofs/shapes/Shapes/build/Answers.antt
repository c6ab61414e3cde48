use Rattle.std.proofs.Common.{ap, sym, ◌∙◌, ◌≡◌, length, map, arith, List, ℕ, subst, Vec, Global}
use Rattle.std.specs.Option.{option_map_or}
use Rattle.std.proofs.lemmas.List.{length-map}
use Rattle.std.proofs.lemmas.Simd.{map-map}
use Rattle.smithy_declarations.specs.declared.place.Place.{Place}
use Rattle.smithy_declarations.specs.Acceptance.{Fault, refused, accepted, table_from}
use Rattle.smithy_shapes.specs.Accepted.{HaveTextNames}
use Rattle.smithy_declarations.specs.DeclViews.{decl_of}
use Rattle.smithy_declarations.specs.Table.{Table, kind_of, members_of, is_document_target}
use Rattle.smithy_shapes.specs.Targets.{is_timestamp_target, table_has}
use Rattle.smithy_shapes.specs.Views.{declaration_of}
use Rattle.smithy_declarations.specs.Private.Order.{IsOrderOf}
use Rattle.smithy_shapes.specs.Private.Placed.{table_with}
use Rattle.smithy_shapes.proofs.BuildLemmas.{table_placed, lengths_of_places, names_kept}
use Rattle.smithy_shapes.proofs.AcceptedLemmas.{passes, few_declarations, accepted_table}
use Rattle.smithy_shapes.proofs.NameLemmas.{names_are_texts}
use Rattle.smithy_shapes.proofs.shapes.Shapes.build.Goals as goal

pub all_places-requires-clause-few : goal.all_places-requires-clause-few
all_places-requires-clause-few c =
    let ok = rw c.as_slice-2.ensures.value at c.in_ok-check.ensures.passed in
    let few = few_declarations (map decl_of c.args.decls.items) (passes (map decl_of c.args.decls.items) ok) in
    omega (arith, few, length-map c.args.decls.items decl_of, ap length c.as_slice-4.ensures.value)

pub declarations_with-requires : goal.declarations_with-requires
declarations_with-requires c =
    let placed = rw c.as_slice-4.ensures.value at c.in_ok-places.ensures in
    ap (map (λ (p : Vec Place Global). length p.items)) c.as_slice-6.ensures.value ∙ sym (map-map length (λ (p : Vec Place Global). p.items) c.in_ok-places.places.items)
    ∙ ap (map length) placed ∙ lengths_of_places (map decl_of c.args.decls.items) decl_of c.args.decls.items

pub invariant_of-result : goal.invariant_of-result
invariant_of-result c =
    let ds = map decl_of c.args.decls.items in
    let ok = rw c.as_slice-2.ensures.value at c.in_ok-check.ensures.passed in
    let placed = rw c.as_slice-4.ensures.value at c.in_ok-places.ensures in
    let kept : map declaration_of c.in_ok-declarations.declarations.items ≡ table_from ds =
    c.in_ok-declarations.ensures ∙ ap (λ all. table_with ds (map (λ (p : Vec Place Global). p.items) all)) c.as_slice-6.ensures.value ∙ ap (table_with ds) placed
    ∙ table_placed ds decl_of c.args.decls.items in
    let in_order = rw c.as_slice.ensures.value at c.in_ok-by_name.ensures in
    let P : List (List ℕ) → Type 0 = λ names. IsOrderOf names c.in_ok-by_name.by_name.items in
    let Q : Table → Type 0 = λ t. (at : Place) → HaveTextNames (members_of (kind_of t at)) in
    let texts = subst Q kept (names_are_texts c.in_ok-declarations.declarations.items) in (
      rw kept (accepted_table ds ok texts),
      subst P (sym (names_kept ds decl_of c.args.decls.items declaration_of c.in_ok-declarations.declarations.items kept)) in_order,
      c.stand_in-has_timestamps.ensures ∙ ap (λ declared. table_has is_timestamp_target (map declaration_of declared)) c.as_slice-7.ensures.value,
      c.stand_in-has_documents.ensures ∙ ap (λ declared. table_has is_document_target (map declaration_of declared)) c.as_slice-8.ensures.value,
    )

pub returns-clause-built : goal.returns-clause-built
returns-clause-built c =
    let ds = map decl_of c.args.decls.items in
    let ok = rw c.as_slice-2.ensures.value at c.in_ok-check.ensures.passed in
    let placed = rw c.as_slice-4.ensures.value at c.in_ok-places.ensures in
    let kept : map declaration_of c.in_ok-declarations.declarations.items ≡ table_from ds =
    c.in_ok-declarations.ensures ∙ ap (λ all. table_with ds (map (λ (p : Vec Place Global). p.items) all)) c.as_slice-6.ensures.value ∙ ap (table_with ds) placed
    ∙ table_placed ds decl_of c.args.decls.items in
    ap (λ o. option_map_or (λ (f : Fault × ℕ). refused f.0 f.1) o (accepted (table_from ds))) ok ∙ ap accepted (sym kept)
