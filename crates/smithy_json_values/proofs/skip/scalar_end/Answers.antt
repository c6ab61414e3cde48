use Rattle.std.proofs.Common.{◌≡◌, ◌⊎◌, inl, inr, refl}
use Rattle.smithy_wire.proofs.ScalarReads.{if_some, if_none}
use Rattle.smithy_wire.specs.Node.{null_node, leaf}
use Rattle.smithy_json_values.specs.Codec.{held_settings, held_grammar}
use Rattle.smithy_json_values.specs.LexicalGrammar.{is_skipped_in}
use Rattle.smithy_json_values.specs.Scalar.{a_boolean, a_number, a_string}
use Rattle.smithy_json_values.proofs.ScalarLemmas.{no_string, no_null, no_boolean, only_number}
use Rattle.smithy_json_values.proofs.NumberSorts.{skipped_number, number_skipped}
use Rattle.smithy_json_values.proofs.skip.scalar_end.Goals as goal
use Rattle.smithy_json_values.proofs.skip.scalar_end.Goals.{then-first-eq116-via-then-first-eq116, then-first-eq116-via-else-first-eq116+then-first-eq102}

pub returns-then-first-eq34-clause-found : goal.returns-then-first-eq34-clause-found
returns-then-first-eq34-clause-found c =
    if_some c.skipped_string_end.result _ _ (λ e h. record { node = leaf (a_string h.0); lies = h.1; flat = refl }) c.skipped_string_end.ensures.found

pub returns-then-first-eq34-clause-none : goal.returns-then-first-eq34-clause-none
returns-then-first-eq34-clause-none c =
    let g = held_grammar c.args.settings.now in
    if_none c.skipped_string_end.result _ _
    (no_string g (is_skipped_in g) c.args.input.now c.args.at c.args.first c.args.at c.requires.first c.if-first-eq34.true) c.skipped_string_end.ensures.none

pub returns-then-first-eq110-clause-found : goal.returns-then-first-eq110-clause-found
returns-then-first-eq110-clause-found c =
    if_some c.null_end.result _ _ (λ e h. record { node = null_node; lies = (h, refl); flat = refl }) c.null_end.ensures.found

pub returns-then-first-eq110-clause-none : goal.returns-then-first-eq110-clause-none
returns-then-first-eq110-clause-none c =
    let g = held_grammar c.args.settings.now in
    if_none c.null_end.result _ _
    (λ none. no_null g (is_skipped_in g) c.args.input.now c.args.at c.args.first c.args.at c.requires.first c.if-first-eq110.true (λ e h. none e h.0)) c.null_end.ensures.none

pub returns-then-first-eq116-clause-found : goal.returns-then-first-eq116-clause-found
returns-then-first-eq116-clause-found c = record { node = leaf (a_boolean _); lies = (c.in_ok-end.ensures.found, refl); flat = refl }

pub returns-in_err-end-clause-none : goal.returns-in_err-end-clause-none
returns-in_err-end-clause-none c =
    let g = held_grammar c.args.settings.now in
    let is : (c.args.first ≡ 0x74) ⊎ (c.args.first ≡ 0x66) = elim c.then-first-eq116.branch [
      | then-first-eq116-via-then-first-eq116 w ↦ inl w.if-first-eq116.true
      | then-first-eq116-via-else-first-eq116+then-first-eq102 w ↦ inr w.if-first-eq102.true
    ] in
    rw c.from_residual.ensures (no_boolean g (is_skipped_in g) c.args.input.now c.args.at c.args.first c.args.at c.requires.first is (λ b e h. c.in_err-end.ensures.none b e h.0))

pub returns-in_err-end-2-clause-none : goal.returns-in_err-end-2-clause-none
returns-in_err-end-2-clause-none c =
    let g = held_grammar c.args.settings.now in
    rw c.from_residual-in_err-end-2.ensures (only_number g (is_skipped_in g) c.args.input.now c.args.at c.args.first c.args.at c.requires.first c.if-first-eq34.false c.if-first-eq110.false
    c.if-first-eq116.false c.if-first-eq102.false c.requires.no_array c.requires.no_object
    (λ raw e h. c.in_err-end-2.ensures.none raw e (skipped_number (held_settings c.args.settings.now) c.args.input.now c.args.at raw e h)))

pub returns-clause-found : goal.returns-clause-found
returns-clause-found c = record {
  node = leaf (a_number _);
  lies = number_skipped (held_settings c.args.settings.now) c.args.input.now c.args.at _ _ c.in_ok-end-2.ensures.found;
  flat = refl;
}
