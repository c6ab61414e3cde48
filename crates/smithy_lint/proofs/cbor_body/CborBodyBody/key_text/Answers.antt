use Rattle.std.specs.Cow.{cow_str_bytes}
use Rattle.smithy_lint.proofs.CborBodies.{key_within, key_text_there, no_key_text}
use Rattle.smithy_lint.proofs.cbor_body.CborBodyBody.key_text.Goals as goal

pub text_at-requires : goal.text_at-requires
text_at-requires c = key_within c.args.self.now.bytes.now c.args.at c.requires.there

pub returns-in-Some : goal.returns-in-Some
returns-in-Some c =
    key_text_there c.args.self.now.bytes.now c.args.at (cow_str_bytes c.in-Some.text) c.in-Some.field-0-1 (rw c.in-Some.is at c.in_ok-text.ensures.found)

pub returns-in-None : goal.returns-in-None
returns-in-None c = no_key_text c.args.self.now.bytes.now c.args.at (rw c.in-None.is at c.in_ok-text.ensures.found)
