-- Why a body isn't gone through, and what is known of one that is.
use Rattle.std.specs.Prelude.{◌≡◌, ◌≤◌, ℕ, [], List, Bool, map as mapped}
use Rattle.std.specs.declared.vec.Vec.{Vec}
use Rattle.std.specs.declared.alloc.Global.{Global}
use Rattle.smithy_declarations.specs.Table.{Table, shape_place}
use Rattle.smithy_json_grammar.specs.Tree.{Json, nesting}
use Rattle.smithy_json_grammar.specs.Grammar.{IsJsonText}
use Rattle.smithy_json_values.specs.Meaning.{node_of, rules_of}
use Rattle.smithy_json_codec.specs.WireSettings.{wire_settings}
use Rattle.smithy_transcode.specs.Wires.{Wire}
use Rattle.smithy_wire.specs.Node.{Node}
use Rattle.smithy_wire.specs.Rules.{Rules}
use Rattle.smithy_lint.specs.declared.finding.Finding.{Finding}
use Rattle.smithy_lint.specs.declared.json_body.JsonBody.{JsonBody}
use Rattle.smithy_lint.specs.declared.linting.LintError.{LintError}
use Rattle.smithy_lint.specs.declared.linting.LintError.TheVariants.{NotWellFormed, TooNested, NoMemory}
use Rattle.smithy_lint.specs.Findings.{findings}
use Rattle.smithy_lint.specs.Lint.{IsTextWithin, opening_bytes}
use Rattle.smithy_lint.specs.View.{found_of}
use Rattle.smithy_lint.specs.Private.Bodies.{Holding}
use Rattle.smithy_lint.specs.Private.JsonPlaces.{json_holding, json_rules}

-- the body is no text, or more than 512 containers nest in it
abbrev pub IsRefusedFor : Wire → List ℕ → LintError → Type 0
IsRefusedFor wire body NotWellFormed = (most : ℕ) → IsTextWithin wire most body → ⊥
IsRefusedFor wire body TooNested = (IsTextWithin wire 512 body → ⊥) × (513 ≤ opening_bytes wire body)
IsRefusedFor wire body NoMemory = ⊥

-- the bytes are the text of a tree in which at most 512 containers nest, and its node lies in them
pub record HoldsText (use_json_name integral : Bool) (bytes : List ℕ) (body : JsonBody) : Type 0 where
  pub tree : Json
  pub end : ℕ
  pub text : IsJsonText tree bytes
  pub nests : nesting tree ≤ 512
  pub lies : (json_holding body).value 0 (node_of tree) 0 end
  pub rules : json_rules body ≡ rules_of (wire_settings use_json_name integral)

-- all that is found in what lies at the start of a body
abbrev pub FindsAll : {L : Type 0} → Holding L → Rules L → Table → ℕ → Vec Finding Global → Type 0
FindsAll {L = L} h r table root found =
    (x : Node L) (e : ℕ) → h.value 0 x 0 e → mapped found_of found.items ≡ findings r table (shape_place root) 0 [] x
