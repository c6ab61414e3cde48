use Rattle.std.proofs.Common.{◌+◌, ◌++◌, [], ◌∷◌, drop, sym, ap, ◌∙◌, subst, rules, OnErr}
use Rattle.smithy_types.specs.DocumentView.{document_view, elements_view, properties_view}
use Rattle.smithy_json_grammar.specs.Ascii.{begin_array, end_array, begin_object, end_object}
use Rattle.smithy_json.specs.Appending.{AddsFront}
use Rattle.smithy_json.specs.Escape.{quoted}
use Rattle.smithy_json.specs.DocumentText.{comma, document_text, elements_text, properties_text}
use Rattle.smithy_json.specs.ValueTexts.{name_text}
use Rattle.smithy_json.proofs.EscapingLemmas.{front_written, front_kept}
use Rattle.smithy_json.proofs.AppendingLemmas.{part_refused, inside_refused, closing_refused, parted_refused, parted_rest, parted_longer}
use Rattle.smithy_json.proofs.DocumentTextLemmas.{next_of, next_property, written_text}
use Rattle.smithy_json.proofs.document_writer.+document.Goals as goal

pub push_array-returns-in_err-push_elements-clause-err :
    goal.push_array-returns-in_err-push_elements-clause-err
push_array-returns-in_err-push_elements-clause-err g t c =
    inside_refused c.from_residual-in_err-push_elements.result (g.T.AppendText.bytes c.args.out.now) (begin_array ∷ []) (elements_text [] (elements_view c.args.elements.now)) (end_array ∷ []) _ _ c.in_ok-append_text.ensures.ok c.in_err-push_elements.ensures.err

pub push_array-returns-clause-err : goal.push_array-returns-clause-err
push_array-returns-clause-err g t c =
    closing_refused c.append_text-2.result (g.T.AppendText.bytes c.args.out.now) (begin_array ∷ []) (elements_text [] (elements_view c.args.elements.now)) (end_array ∷ []) _ _ c.in_ok-append_text.ensures.ok _ c.in_ok-push_elements.ensures.ok c.append_text-2.ensures.err

pub push_elements-returns-in_err-append_text-clause-err :
    goal.push_elements-returns-in_err-append_text-clause-err
push_elements-returns-in_err-append_text-clause-err g t c =
    let l = c.loop-element in
    front_kept c.from_residual.result _ _ (g.T.AppendText.bytes l.out) _ c.in_err-append_text.ensures.err
    (front_written (g.T.AppendText.bytes c.args.out.now) _ _ (elements_text [] (elements_view c.args.elements.now)) l.invariant.all l.invariant.longer)

pub push_elements-returns-in_err-push_document-clause-err :
    goal.push_elements-returns-in_err-push_document-clause-err
push_elements-returns-in_err-push_document-clause-err g t c =
    let l = c.loop-element in
    let xs = c.args.elements.now in
    let next = next_of xs l.element-index c.element-item.result c.loop-element-test.true c.element-item.is in
    parted_refused _ _ _ l.parting.now (document_text (document_view c.element-item.result)) (elements_text comma (elements_view (drop (l.element-index + 1) xs))) _ c.in_ok-append_text.ensures.ok
    (ap (λ es. g.T.AppendText.bytes l.out ++ elements_text l.parting.now (elements_view es)) (sym next) ∙ l.invariant.all) l.invariant.longer
    c.from_residual-in_err-push_document.result _ c.in_err-push_document.ensures.err

pub push_elements-loop-element-preserved : goal.push_elements-loop-element-preserved
push_elements-loop-element-preserved g t c =
    let l = c.loop-element in
    let xs = c.args.elements.now in
    let part = document_text (document_view c.element-item.result) in
    let rest = elements_text comma (elements_view (drop (l.element-index + 1) xs)) in
    let next = next_of xs l.element-index c.element-item.result c.loop-element-test.true c.element-item.is in
    let parts = ap (λ es. g.T.AppendText.bytes l.out ++ elements_text l.parting.now (elements_view es)) (sym next) ∙ l.invariant.all in
    record {
      all = parted_rest _ _ _ l.parting.now part rest _ c.in_ok-append_text.ensures.ok parts l.invariant.longer _ c.in_ok-push_document.ensures.ok;
      longer = parted_longer _ _ _ l.parting.now part rest _ c.in_ok-append_text.ensures.ok parts l.invariant.longer _ c.in_ok-push_document.ensures.ok;
      utf8 = search rules;
    }

pub push_object-returns-in_err-push_properties-clause-err :
    goal.push_object-returns-in_err-push_properties-clause-err
push_object-returns-in_err-push_properties-clause-err g t c =
    inside_refused c.from_residual-in_err-push_properties.result (g.T.AppendText.bytes c.args.out.now) (begin_object ∷ []) (properties_text [] (properties_view c.args.properties.now.entries)) (end_object ∷ []) _ _ c.in_ok-append_text.ensures.ok c.in_err-push_properties.ensures.err

pub push_object-returns-clause-err : goal.push_object-returns-clause-err
push_object-returns-clause-err g t c =
    closing_refused c.append_text-2.result (g.T.AppendText.bytes c.args.out.now) (begin_object ∷ []) (properties_text [] (properties_view c.args.properties.now.entries)) (end_object ∷ []) _ _ c.in_ok-append_text.ensures.ok _ c.in_ok-push_properties.ensures.ok c.append_text-2.ensures.err

pub push_properties-returns-in_err-push_name-clause-err :
    goal.push_properties-returns-in_err-push_name-clause-err
push_properties-returns-in_err-push_name-clause-err g t c =
    let l = c.loop-name in
    let name = c.as_str.result.now in
    let next = next_property l.parting.now l.name-iterator c.next.new.self c.in-Some.name.now c.in-Some.property.now name c.in-Some.ensures.steps c.as_str.ensures.value in
    part_refused c.from_residual.result _ _ (g.T.AppendText.bytes l.out) (l.parting.now ++ name_text name) _ _
    (ap (λ s. g.T.AppendText.bytes l.out ++ s) (sym next) ∙ l.invariant.all) l.invariant.longer c.in_err-push_name.ensures.err

pub push_properties-returns-in_err-push_document-clause-err :
    goal.push_properties-returns-in_err-push_document-clause-err
push_properties-returns-in_err-push_document-clause-err g t c =
    let l = c.loop-name in
    let name = c.as_str.result.now in
    let part = document_text (document_view c.in-Some.property.now) in
    let rest = properties_text comma (properties_view c.next.new.self) in
    let next = next_property l.parting.now l.name-iterator c.next.new.self c.in-Some.name.now c.in-Some.property.now name c.in-Some.ensures.steps c.as_str.ensures.value in
    parted_refused _ _ _ (l.parting.now ++ name_text name) part rest _ c.in_ok-push_name.ensures.ok
    (ap (λ s. g.T.AppendText.bytes l.out ++ s) (sym next) ∙ l.invariant.all) l.invariant.longer
    c.from_residual-in_err-push_document.result _ c.in_err-push_document.ensures.err

pub push_properties-loop-name-preserved : goal.push_properties-loop-name-preserved
push_properties-loop-name-preserved g t c =
    let l = c.loop-name in
    let name = c.as_str.result.now in
    let part = document_text (document_view c.in-Some.property.now) in
    let rest = properties_text comma (properties_view c.next.new.self) in
    let next = next_property l.parting.now l.name-iterator c.next.new.self c.in-Some.name.now c.in-Some.property.now name c.in-Some.ensures.steps c.as_str.ensures.value in
    let parts = ap (λ s. g.T.AppendText.bytes l.out ++ s) (sym next) ∙ l.invariant.all in
    record {
      all = parted_rest _ _ _ (l.parting.now ++ name_text name) part rest _ c.in_ok-push_name.ensures.ok parts l.invariant.longer _ c.in_ok-push_document.ensures.ok;
      longer = parted_longer _ _ _ (l.parting.now ++ name_text name) part rest _ c.in_ok-push_name.ensures.ok parts l.invariant.longer _ c.in_ok-push_document.ensures.ok;
      utf8 = search rules;
    }

pub push_document-returns-in-String-clause-err : goal.push_document-returns-in-String-clause-err
push_document-returns-in-String-clause-err g t c =
    let same = ap quoted c.as_str.ensures.value ∙ sym (written_text c.args.document.now c.in-String.text c.in-String.is) in
    subst (λ text. OnErr c.push_string.result (AddsFront (g.T.AppendText.bytes c.args.out.now) text (g.T.AppendText.bytes c.push_string.new.out))) same c.push_string.ensures.err
