use Rattle.std.proofs.Common.{◌+◌, ◌<◌, ◌≡◌, ℕ, List, [], sym, ap, ◌∙◌, arith, false, get_or, inl, inr}
use Rattle.std.proofs.lemmas.Bool.Decides.{eqb_tells}
use Rattle.std.specs.Str.{bytes_eq}
use Rattle.smithy_declarations.proofs.Positions.{position_found, position_missing}
use Rattle.smithy_declarations.proofs.names.position_among_few.Goals as goal

none_up_to : (names : List (List ℕ)) (key : List ℕ) (i : ℕ) → ((k : ℕ) → k < i → bytes_eq (get_or names k []) key ≡ false) → bytes_eq (get_or names i []) key ≡ false
    → (k : ℕ) → k < i + 1 → bytes_eq (get_or names k []) key ≡ false
none_up_to names key i before here k within = elim (eqb_tells k i) [
  | inl same ↦ rw same.1 here
  | inr other ↦ before k (omega (arith, other.1))
]

pub returns-then-eq : goal.returns-then-eq
returns-then-eq g c =
    let here = ap (λ n. bytes_eq n c.args.name.now) (sym c.name_at.ensures) ∙ sym c.eq.ensures ∙ c.if-eq.true in
    sym (position_found (λ n. bytes_eq n c.args.name.now) (g.N.Named.names c.args.named.now) c.loop-position.position [] (omega arith) c.loop-position.invariant.before here)

pub loop-position-preserved : goal.loop-position-preserved
loop-position-preserved g c =
    let here = ap (λ n. bytes_eq n c.args.name.now) (sym c.name_at.ensures) ∙ sym c.eq.ensures ∙ c.if-eq.false in
    record {
      within = omega arith;
      before = none_up_to (g.N.Named.names c.args.named.now) c.args.name.now c.loop-position.position c.loop-position.invariant.before here;
    }

pub returns : goal.returns
returns g c =
    sym (position_missing (λ n. bytes_eq n c.args.name.now) (g.N.Named.names c.args.named.now) [] (λ k h. c.loop-position.invariant.before k (omega (arith, h))))
