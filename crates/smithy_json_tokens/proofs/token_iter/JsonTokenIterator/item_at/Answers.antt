use Rattle.std.proofs.Common.{◌≡◌, ◌≤◌, ◌<◌, ◌∙◌, drop, length, ap, sym, arith}
use Rattle.smithy_json_tokens.specs.TokenRules.{behind, found, turn_answer, state_turn}
use Rattle.smithy_json_tokens.specs.TokenView.{token_view, token_offset}
use Rattle.smithy_json_tokens.specs.IteratorView.{input_of, outer_of, cursor_of}
use Rattle.smithy_json_tokens.proofs.TurnLemmas.{in_turn, token_answer, if_ok, on_ok}
use Rattle.smithy_json_tokens.proofs.token_iter.JsonTokenIterator.item_at.Goals as goal

pub advance-requires : goal.advance-requires
advance-requires c =
    let s = c.args.self.now in
    let turn = in_turn (input_of s) c.args.at c.in_ok-turn.turn (state_turn s.state (drop c.args.at (input_of s))) c.in_ok-turn.ensures.0 c.in_ok-turn.ensures.1 in
    record { end = turn.within }

pub returns-clause-index : goal.returns-clause-index
returns-clause-index c =
    let s = c.args.self.now in
    let turn = in_turn (input_of s) c.args.at c.in_ok-turn.turn (state_turn s.state (drop c.args.at (input_of s))) c.in_ok-turn.ensures.0 c.in_ok-turn.ensures.1 in
    on_ok c.advance.result (c.advance.new.self.index ≡ c.in_ok-turn.turn.scanned.end) (c.args.at < c.advance.new.self.index) c.advance.ensures.index (λ e. omega (arith, e, turn.ordered, turn.some))

pub returns-clause-token : goal.returns-clause-token
returns-clause-token c =
    let s = c.args.self.now in
    let t = c.in_ok-turn.turn in
    let place = state_turn s.state (drop c.args.at (input_of s)) in
    let turn = in_turn (input_of s) c.args.at t place c.in_ok-turn.ensures.0 c.in_ok-turn.ensures.1 in
    if_ok c.advance.result t.scanned.token
    (cursor_of c.advance.new.self ≡ behind (token_view t.scanned.token) t.after (outer_of s) (drop t.scanned.end (input_of s)))
    (λ token. (turn_answer (outer_of s) place ≡ found (token_view token) (drop (token_offset token) (input_of s)) (cursor_of c.advance.new.self)) × (token_offset token ≤ length (input_of s)))
    c.advance.ensures.token c.advance.ensures.ok
    (λ e. (token_answer (input_of s) c.args.at (outer_of s) t place turn ∙ ap (found (token_view t.scanned.token) (drop (token_offset t.scanned.token) (input_of s))) (sym e), omega (arith, turn.some, turn.within)))
