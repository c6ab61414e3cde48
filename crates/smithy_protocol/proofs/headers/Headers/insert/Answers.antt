use Rattle.std.proofs.Common.{◌≡◌, length, map, string_bytes, sym, ap, ◌∙◌, arith, true, get_or}
use Rattle.std.proofs.lemmas.Result.{err_from_is_err_and}
use Rattle.smithy_protocol.specs.declared.headers.Header.{Header as Kept}
use Rattle.smithy_protocol.specs.Headers.{header_of, is_under, inserted, value_under}
use Rattle.smithy_protocol.proofs.HeaderLemmas.{replaced, appended, not_there}
use Rattle.smithy_protocol.proofs.headers.Headers.insert.Goals as goal

pub returns-then-is_named-clause-put : goal.returns-then-is_named-clause-put
returns-then-is_named-clause-put c =
    let new : Kept = record { name = c.args.name; value = c.args.value } in
    let items = c.loop-at.self-inside.entries.items in
    let long = ap (λ h. length h.entries.items) c.loop-at.invariant.same in
    let held = ap (λ h. map header_of h.entries.items) c.loop-at.invariant.same ∙ c.self.view_is in
    let here : is_under (header_of new).0 (header_of (get_or items c.loop-at.at c.index.result.now)) ≡ true =
    ap (λ h. is_under (header_of new).0 (header_of h)) (sym c.index.ensures) ∙ ap (λ n. is_under n (header_of c.index.result.now)) (sym c.deref.ensures) ∙ sym c.if-is_named.ensures in
    replaced new items c.loop-at.at c.index.result.now (omega (arith, long)) here c.loop-at.invariant.behind ∙ ap (inserted (header_of new)) held

pub returns-in_err-push-clause-kept : goal.returns-in_err-push-clause-kept
returns-in_err-push-clause-kept c =
    let held = ap (λ h. map header_of h.entries.items) c.loop-at.invariant.same ∙ c.self.view_is in
    let p = err_from_is_err_and c.from_residual.result c.from_residual.ensures.1 in
    rw (p.1, p.2) (ap (map header_of) c.in_err-push.ensures.items ∙ held)

pub returns-in_err-push-clause-memory : goal.returns-in_err-push-clause-memory
returns-in_err-push-clause-memory c =
    let new : Kept = record { name = c.args.name; value = c.args.value } in
    let items = c.loop-at.self-inside.entries.items in
    let long = ap (λ h. length h.entries.items) c.loop-at.invariant.same in
    let held = ap (λ h. map header_of h.entries.items) c.loop-at.invariant.same ∙ c.self.view_is in
    let p = err_from_is_err_and c.from_residual.result c.from_residual.ensures.1 in
    rw (p.1, p.2) (ap (value_under (string_bytes c.args.name)) (sym held) ∙ not_there new items c.loop-at.at (omega (arith, long)) c.loop-at.invariant.behind)

pub returns-clause-put : goal.returns-clause-put
returns-clause-put c =
    let new : Kept = record { name = c.args.name; value = c.args.value } in
    let items = c.loop-at.self-inside.entries.items in
    let long = ap (λ h. length h.entries.items) c.loop-at.invariant.same in
    let held = ap (λ h. map header_of h.entries.items) c.loop-at.invariant.same ∙ c.self.view_is in
    ap (map header_of) c.in_ok-push.ensures.items ∙ appended new items c.loop-at.at (omega (arith, long)) c.loop-at.invariant.behind ∙ ap (inserted (header_of new)) held
