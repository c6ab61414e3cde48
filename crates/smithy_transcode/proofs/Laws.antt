-- A law over two transcodings: bodies of one wire are equal exactly where the inputs spell equal values.
use Rattle.std.specs.Prelude.{◌≡◌, ◌↔◌, ℕ, List, Ok}
use Rattle.std.proofs.Common.{sym, ◌∙◌}
use Rattle.std.specs.declared.vec.Vec.{Vec}
use Rattle.std.specs.declared.alloc.Global.{Global}
use Rattle.smithy_declarations.specs.Table.{Table}
use Rattle.smithy_declarations.specs.Value.{Value}
use Rattle.smithy_transcode.specs.Spelling.{Spells}
use Rattle.smithy_transcode.specs.Transcoding.{Transcodes}
use Rattle.smithy_transcode.specs.Wires.{Wire, IsReadable}

-- Two answers that are bodies of one wire which is read are equal exactly where the inputs spell equal values, whichever
-- wires these came from. It follows from what the contract says of each run.
pub equal_outputs : (t : Table) (root : ℕ) (from from' to : Wire) (i i' : List ℕ) (out out' : Vec ℕ Global) → IsReadable to
    → Transcodes t root from i to (Ok out) → Transcodes t root from' i' to (Ok out')
    → (v u : Value) → Spells from t root i v → Spells from' t root i' u → (out.items ≡ out'.items) ↔ (v ≡ u)
equal_outputs t root from from' to i i' out out' read answer answer' v u spelled spelled' =
    let other = answer'.answers_ok in
    let is = (answer'.equal_bodies read u other.0 spelled' (from', i', other.1) other.2).0 other.3 in
    let alike = answer.equal_bodies read v other.0 spelled (from', i', other.1) other.2 in
    (λ same. alike.0 (same ∙ other.3) ∙ sym is, λ same. alike.1 (same ∙ is) ∙ sym other.3)
