-- What is answered for a value that is to be written as a whole body.
use Rattle.std.proofs.Common.{◌≡◌, ℕ, Some, None, Ok, Err, ap, subst}
use Rattle.std.specs.declared.vec.Vec.{Vec}
use Rattle.std.specs.declared.alloc.Global.{Global}
use Rattle.smithy_schema.specs.declared.error.SerdeError.{SerdeError}
use Rattle.smithy_schema.specs.declared.error.SerdeError.TheVariants as serde
use Rattle.smithy_declarations.specs.Table.{Table}
use Rattle.smithy_declarations.specs.Value.{Value}
use Rattle.smithy_transcode.specs.declared.wire.Unfit.{Unfit}
use Rattle.smithy_transcode.specs.declared.wire.TranscodeError.{TranscodeError}
use Rattle.smithy_transcode.specs.declared.wire.TranscodeError.TheVariants.{Inexpressible, NoMemory}
use Rattle.smithy_transcode.specs.Wires.{Wire, unfit}
use Rattle.smithy_transcode.specs.Spelling.{body}
use Rattle.smithy_transcode.specs.Refusal.{IsToldAs}
use Rattle.smithy_transcode.specs.WriteBody.{WritesBody}
use Rattle.smithy_transcode.proofs.Transcodings.{not_both, same_unfit}

pub body_lacking : (t : Table) (root : ℕ) (to : Wire) (v : Value) (u : Unfit) → unfit to t root v ≡ Some u → WritesBody t root to v (Err (Inexpressible u))
body_lacking t root to v u is = record {
  lacking = λ w other. ap (λ x. Err (Inexpressible x)) (same_unfit (unfit to t root v) w u other is);
  written = λ none. absurd (not_both (unfit to t root v) u none is);
}

pub body_written : (t : Table) (root : ℕ) (to : Wire) (v : Value) (out : Vec ℕ Global) → unfit to t root v ≡ None → out.items ≡ body to t root v → WritesBody t root to v (Ok out)
body_written t root to v out none made = record {
  lacking = λ u is. absurd (not_both (unfit to t root v) u none is);
  written = λ fit. made;
}

pub body_unwritten : (t : Table) (root : ℕ) (to : Wire) (v : Value) (e : SerdeError) (refusal : TranscodeError) → unfit to t root v ≡ None → e ≡ serde.NoMemory → IsToldAs e refusal
    → WritesBody t root to v (Err refusal)
body_unwritten t root to v e refusal none is tells =
    let same : refusal ≡ NoMemory = subst (λ x. IsToldAs x refusal) is tells in
    rw same (record { lacking = λ u lack. absurd (not_both (unfit to t root v) u none lack); written = λ fit. tt })
