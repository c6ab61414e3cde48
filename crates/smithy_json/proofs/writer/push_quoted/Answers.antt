use Rattle.std.proofs.Common.{◌≡◌, length, string_bytes, arith}
use Rattle.std.proofs.lemmas.Str.{IsUtf8-string_bytes}
use Rattle.smithy_json_grammar.proofs.SliceLemmas.{can_cut}
use Rattle.smithy_json.proofs.writer.push_quoted.Goals as goal

pub truncate-requires : goal.truncate-requires
truncate-requires c =
    let old = c.args.out.now in
    let new = c.append_quoted-done.new.out in
    let size : c.len-length.result ≡ length (string_bytes old) = omega (arith, c.len-length.ensures, old.bytes.ok.0) in
    let boundary = can_cut (string_bytes old) (string_bytes new) c.len-length.result (IsUtf8-string_bytes old) (IsUtf8-string_bytes new) size c.append_quoted-done.ensures.front in
    λ _. (boundary.0, λ _. boundary.1)
