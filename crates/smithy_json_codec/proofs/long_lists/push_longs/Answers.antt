use Rattle.std.proofs.Common.{◌≡◌, ◌++◌, ◌∷◌, [], ◌∙◌, ◌+◌, ℤ, List, map, drop, get_or, pos, to_z, of_z, true, false, sym, ap, append_assoc, rules}
use Rattle.std.specs.Int.{w64}
use Rattle.std.specs.Fmt.{signed_decimal}
use Rattle.std.proofs.lemmas.List.{drop_all}
use Rattle.smithy_declarations.specs.Value.{Value, scalar_value, whole, values_of}
use Rattle.smithy_shapes.specs.Site.{element_of}
use Rattle.smithy_schema.proofs.WrittenLists.{next_number}
use Rattle.smithy_json_grammar.specs.Ascii.{begin_array, end_array}
use Rattle.smithy_json_codec.specs.Canonical.{element_texts}
use Rattle.smithy_json_codec.specs.Writing.{comma_text}
use Rattle.smithy_json_codec.proofs.LongLists.{next_text, texts_left}
use Rattle.smithy_json_codec.proofs.long_lists.push_longs.Goals as goal

pub loop-number-init : goal.loop-number-init
loop-number-init c = record {
  rest = λ o site.
      sym (append_assoc c.args.out.now.items (begin_array ∷ []) (texts_left o site false c.args.numbers.now))
      ∙ ap (λ out. out ++ texts_left o site false c.args.numbers.now) (sym c.in_ok-push.ensures.items);
}

pub loop-number-preserved : goal.loop-number-preserved
loop-number-preserved c =
    let ns = c.args.numbers.now in
    let i = c.loop-number.number-index in
    let n = get_or ns i (pos 0) in
    let number : to_z w64 (of_z w64 n) ≡ n = search rules in
    let next = next_number (λ n. scalar_value (whole n)) ns i (pos 0) c.loop-number-test.true in
    let out = c.loop-number.out.items in
    let parting = comma_text c.loop-number.needs_comma in
    record {
      rest = λ o site.
          let more = element_texts o (element_of site) (comma_text true) (values_of (map (λ n. scalar_value (whole n)) (drop (i + 1) ns))) in
          c.loop-number.invariant.rest o site
          ∙ ap (λ (vs : List Value). out ++ (element_texts o (element_of site) parting (values_of vs) ++ end_array ∷ [])) next
          ∙ next_text out parting (signed_decimal n) more (end_array ∷ [])
          ∙ ap (λ (z : ℤ). ((out ++ parting) ++ signed_decimal z) ++ (more ++ end_array ∷ [])) (sym number)
          ∙ ap (λ x. (x ++ signed_decimal (to_z w64 (of_z w64 n))) ++ (more ++ end_array ∷ [])) (sym c.in_ok-push_comma.ensures)
          ∙ ap (λ x. x ++ (more ++ end_array ∷ [])) (sym c.in_ok-push_long.ensures);
    }

pub returns : goal.returns
returns c =
    let ns = c.args.numbers.now in
    let over = drop_all c.loop-number.number-index ns c.loop-number-test.false in
    λ o site.
    let rest = ap (λ (ms : List ℤ). c.loop-number.out.items ++ texts_left o site c.loop-number.needs_comma ms) over in
    c.in_ok-push-2.ensures.items ∙ sym (c.loop-number.invariant.rest o site ∙ rest)
