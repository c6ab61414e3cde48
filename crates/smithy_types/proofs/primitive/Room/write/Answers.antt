use Rattle.std.proofs.Common.{IsUtf8, subst, sym}
use Rattle.std.proofs.lemmas.Str.{IsUtf8-from_ascii}
use Rattle.smithy_types.proofs.primitive.Room.write.Goals as goal

pub returns-in-Signed-clause-utf8 : goal.returns-in-Signed-clause-utf8
returns-in-Signed-clause-utf8 c =
    let written = c.write.ensures in subst IsUtf8 (sym written.written) (IsUtf8-from_ascii _ written.ascii)

pub returns-in-Unsigned-clause-utf8 : goal.returns-in-Unsigned-clause-utf8
returns-in-Unsigned-clause-utf8 c =
    let written = c.write-in-Unsigned.ensures in subst IsUtf8 (sym written.written) (IsUtf8-from_ascii _ written.ascii)
