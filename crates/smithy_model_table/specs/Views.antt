-- What the types of the crate stand for.
use Rattle.std.specs.Prelude.{ℕ, List, map}
use Rattle.smithy_model_table.specs.declared.wanted.Wanted as kept_wanted
use Rattle.smithy_model_table.specs.declared.wanted.Wanted.TheVariants as wanteds
use Rattle.smithy_model_table.specs.Wanted.{Wanted, input, output, shape, service}
use Rattle.smithy_model_table.specs.declared.bindings.Bindings as kept_bindings
use Rattle.smithy_model_table.specs.Bindings.{Bindings}
use Rattle.smithy_model_table.specs.declared.names.Names as kept_names
use Rattle.smithy_model_table.specs.declared.left.Reason as kept
use Rattle.smithy_model_table.specs.declared.left.Reason.TheVariants as reasons
use Rattle.smithy_model_table.specs.declared.left.Left as kept_left
use Rattle.smithy_model_table.specs.declared.outcomes.Outcome as kept_outcome
use Rattle.smithy_model_table.specs.declared.outcomes.Outcome.TheVariants as outcomes
use Rattle.smithy_declarations.specs.DeclViews.{member_decl_of}
use Rattle.smithy_model_table.specs.Outcomes.{Outcome, declared, left_out, LeftOut}
use Rattle.smithy_model_table.specs.Leaving.{Reason, float, event_stream, outside, clash}

abbrev pub reason_view : kept.Reason → Reason
reason_view reasons.Float = float
reason_view reasons.EventStream = event_stream
reason_view reasons.Outside = outside
reason_view reasons.Clash = clash

abbrev pub bindings_view : kept_bindings.Bindings → Bindings
bindings_view b = record { headers = b.headers; request_line = b.request_line; status_line = b.status_line }

abbrev pub names_view : kept_names.Names → List (List ℕ)
names_view n = map (λ t. t.now) n.names.items

abbrev pub left_view : kept_left.Left → LeftOut
left_view l = record { shape = l.shape.now; member = l.member.now; reason = reason_view l.reason }

-- what becomes of the member of this name
abbrev pub outcome_view : List ℕ → kept_outcome.Outcome → Outcome
outcome_view name (outcomes.Declared d) = declared (member_decl_of d)
outcome_view name (outcomes.Left reason) = left_out name (reason_view reason)

abbrev pub wanted_view : kept_wanted.Wanted → Wanted
wanted_view (wanteds.Input name) = input name.now
wanted_view (wanteds.Output name) = output name.now
wanted_view (wanteds.Shape name) = shape name.now
wanted_view wanteds.Service = service
