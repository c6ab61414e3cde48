-- Where the nodes and the keys of a JSON text lie.
use Rattle.std.specs.Prelude.{◌≡◌, ◌≤◌, ◌<◌, ◌+◌, ◌-◌, ◌^◌, ℕ, length, slice_range, List, true, false, refl}
use Rattle.std.proofs.Common.{ap, arith}
use Rattle.smithy_shapes.specs.Limits.{kept}
use Rattle.smithy_json_grammar.specs.Standing.{IsQuotedAt}
use Rattle.smithy_json_values.specs.Codec.{held_settings, held_grammar}
use Rattle.smithy_json_values.specs.LexicalGrammar.{LexicalGrammar, frames_of, is_skipped_in, NodeLies}
use Rattle.smithy_json_values.specs.Meaning.{rules_of}
use Rattle.smithy_json_values.specs.Scalar.{JsonScalar, a_string}
use Rattle.smithy_wire.specs.declared.walk.Mark.{Mark}
use Rattle.smithy_wire.specs.Node.{Form, Node, missing, Nodes, nesting, nodes_nesting, nodes_pass}
use Rattle.smithy_wire.specs.Rules.{Rules}
use Rattle.smithy_wire.specs.Frames.{NodesLie}
use Rattle.smithy_wire.specs.Walking.{mark_of}
use Rattle.smithy_lint.specs.declared.json_body.JsonBody.{JsonBody}
use Rattle.smithy_lint.specs.Private.Bodies.{Holding}

-- a node lies there in the grammar, and no more than 512 containers are open in it
abbrev pub ValueLies : LexicalGrammar → List ℕ → ℕ → Node JsonScalar → ℕ → ℕ → Type 0
ValueLies g i depth x a e = NodeLies g (is_skipped_in g) depth x i a e × (depth + nesting x ≤ 512)

-- these children are left of a container, which may end where they do
abbrev pub RestLies : LexicalGrammar → List ℕ → Form → ℕ → Nodes JsonScalar → ℕ → Mark → ℕ → Type 0
RestLies g i f depth xs b m e =
    NodesLie (frames_of g) f i depth xs b (mark_of m) e × (nodes_pass (is_skipped_in g) xs ≡ true) × (frames_of g).follows i depth e
    × (b ≤ length i) × (depth + nodes_nesting xs ≤ 512)

-- the string of a key begins there with its quotation mark
abbrev pub KeyStands : LexicalGrammar → List ℕ → JsonScalar → ℕ → Type 0
KeyStands g i k at =
    (raw : List ℕ) × (k ≡ a_string raw) × IsQuotedAt i at (at + 1 + length raw) × (slice_range i (at + 1) (at + 1 + length raw) ≡ raw)
    × (g.is_text raw ≡ true)

abbrev pub holding_of : LexicalGrammar → List ℕ → Holding JsonScalar
holding_of g i = record {
  value = ValueLies g i;
  rest = RestLies g i;
  key = KeyStands g i;
  left = λ at m. length i - at;
}

abbrev pub json_holding : JsonBody → Holding JsonScalar
json_holding b = holding_of (held_grammar b.settings) b.bytes.now

abbrev pub json_rules : JsonBody → Rules JsonScalar
json_rules b = rules_of (held_settings b.settings)

-- ---- the laws of a body

pub no_missing : (g : LexicalGrammar) (i : List ℕ) (depth at e : ℕ) → ValueLies g i depth missing at e → ⊥
no_missing g i depth at e h = let no : false ≡ true = h.0.1 in cc

pub json_limits : (b : JsonBody) → ((json_rules b).limits ≡ kept) × ((json_rules b).max_depth ≡ 128)
json_limits b = (refl, ap (λ c. c.max_depth) b.standard)

pub json_bounded : (b : JsonBody) (at : ℕ) (m : Mark) → (json_holding b).left at m < 2 ^ 64
json_bounded b at m = omega (arith, b.bound)
