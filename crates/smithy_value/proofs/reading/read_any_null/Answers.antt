use Rattle.std.proofs.Common.{◌≡◌, true, false, refl, sym, ◌∙◌}
use Rattle.smithy_value.proofs.ReadItems.{null_returned}
use Rattle.smithy_value.proofs.reading.read_any_null.Goals as goal
use Rattle.smithy_value.proofs.reading.read_any_null.Goals.{else-sparse-via-then-sparse+else-is_null, else-sparse-via-else-sparse}

pub returns-in_err-read_null : goal.returns-in_err-read_null
returns-in_err-read_null g c =
    record {
      same = c.read_null.ensures.same;
      null = null_returned _ _ c.from_residual.ensures.1 (c.if-sparse.true, sym c.is_null.ensures ∙ c.if-is_null.true) c.in_err-read_null.ensures.reads;
    }

pub returns-then-is_null : goal.returns-then-is_null
returns-then-is_null g c =
    record {
      same = c.read_null.ensures.same;
      null = ((c.if-sparse.true, sym c.is_null.ensures ∙ c.if-is_null.true), c.in_ok-read_null.ensures.reads);
    }

pub returns : goal.returns
returns g c =
    record {
      same = refl;
      null = (
        λ sparse. elim c.else-sparse.branch [
          | else-sparse-via-then-sparse+else-is_null w ↦ sym w.is_null.ensures ∙ w.if-is_null.false
          | else-sparse-via-else-sparse w ↦ absurd (let found : true ≡ false = sym sparse ∙ w.if-sparse.false in cc)
        ],
        refl,
      );
    }
