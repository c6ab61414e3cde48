-- What `lint` promises, for every table, root, wire and body.
use Rattle.std.specs.Prelude.{◌≡◌, ◌≤◌, ◌⊎◌, ◌↔◌, ◌==◌, ◌||◌, ℕ, List, [], map as mapped, true, Result, IfOk, IfErr, IsErrOf}
use Rattle.std.specs.List.{count_by}
use Rattle.std.specs.Int.{is_in_range}
use Rattle.std.specs.declared.vec.Vec.{Vec}
use Rattle.std.specs.declared.alloc.Global.{Global}
use Rattle.smithy_declarations.specs.Table.{Table, shape_place}
use Rattle.smithy_declarations.specs.Value.{Value}
use Rattle.smithy_json_grammar.specs.Ascii.{begin_array, begin_object}
use Rattle.smithy_json_grammar.specs.Tree.{Json, nesting}
use Rattle.smithy_json_grammar.specs.Grammar.{IsJsonText}
use Rattle.smithy_json_values.specs.Meaning.{node_of, rules_of}
use Rattle.smithy_json_codec.specs.WireSettings.{wire_settings}
use Rattle.cbor_item.specs.Item.{Item}
use Rattle.cbor_item.specs.WellFormed.{IsEncodingOf}
use Rattle.smithy_cbor_values.specs.Meaning.{node_of as cbor_node, rules_of as cbor_rules}
use Rattle.smithy_cbor_body.specs.Codec.{strict_settings as strict_cbor}
use Rattle.smithy_transcode.specs.Wires.{Wire, json, cbor, query}
use Rattle.smithy_transcode.specs.Spelling.{Spells}
use Rattle.smithy_lint.specs.declared.finding.Finding.{Finding}
use Rattle.smithy_lint.specs.declared.linting.LintError.{LintError}
use Rattle.smithy_lint.specs.declared.linting.LintError.TheVariants.{NotWellFormed, TooNested, NoMemory}
use Rattle.smithy_lint.specs.Findings.{Found, findings, all_known}
use Rattle.smithy_lint.specs.Nesting.{item_nesting}
use Rattle.smithy_lint.specs.View.{found_of}

-- what `lint` answers
abbrev pub Answer : Type 0
Answer = Result (Vec Finding Global) LintError

-- the body is the text of a tree, or of an item, in which no more than so many containers nest; in CBOR tags count
abbrev pub IsTextWithin : Wire → ℕ → List ℕ → Type 0
IsTextWithin (json use_json_name integral) most body = (x : Json) × IsJsonText x body × (nesting x ≤ most)
IsTextWithin (cbor definite_lengths) most body = (i : Item) × IsEncodingOf i body × (item_nesting i ≤ most)
IsTextWithin (query action version) most body = ⊥

-- the body is the text of a tree, or of an item, in which at most 512 containers nest, and this is found in it
abbrev pub IsFoundIn : Wire → Table → ℕ → List ℕ → List Found → Type 0
IsFoundIn (json use_json_name integral) table root body found =
    (x : Json) × IsJsonText x body × (nesting x ≤ 512)
    × (found ≡ findings (rules_of (wire_settings use_json_name integral)) table (shape_place root) 0 [] (node_of x))
IsFoundIn (cbor definite_lengths) table root body found =
    (i : Item) × IsEncodingOf i body × (item_nesting i ≤ 512)
    × (found ≡ findings (cbor_rules strict_cbor) table (shape_place root) 0 [] (cbor_node i))
IsFoundIn (query action version) table root body found = ⊥

-- the body is empty, of a wire whose bodies are read
abbrev pub IsEmptyBody : Wire → List ℕ → Type 0
IsEmptyBody (json use_json_name integral) body = body ≡ []
IsEmptyBody (cbor definite_lengths) body = body ≡ []
IsEmptyBody (query action version) body = ⊥

-- exactly this is found in the body, in this order, and in an empty one nothing
abbrev pub HasFindings : Wire → Table → ℕ → List ℕ → List Found → Type 0
HasFindings wire table root body found = (IsEmptyBody wire body × (found ≡ [])) ⊎ IsFoundIn wire table root body found

-- no entry of a structure or a union in the body is unknown
abbrev pub KnowsAll : Wire → Table → ℕ → List ℕ → Type 0
KnowsAll (json use_json_name integral) table root body =
    (x : Json) → IsJsonText x body → all_known (rules_of (wire_settings use_json_name integral)) table (shape_place root) (node_of x) ≡ true
KnowsAll (cbor definite_lengths) table root body =
    (i : Item) → IsEncodingOf i body → all_known (cbor_rules strict_cbor) table (shape_place root) (cbor_node i) ≡ true
KnowsAll (query action version) table root body = Unit {0}

-- how many bytes may open a container: brackets and braces, in CBOR those of arrays, maps and tags
abbrev pub opening_bytes : Wire → List ℕ → ℕ
opening_bytes (json use_json_name integral) body = count_by (λ b. b == begin_object || b == begin_array) body
opening_bytes (cbor definite_lengths) body = count_by (is_in_range 0x80 0xdb) body
opening_bytes (query action version) body = 0

pub record Lints (table : Table) (root : ℕ) (wire : Wire) (body : List ℕ) (answer : Answer) : Type 0 where
  -- a list holds exactly what is found in the body, in order
  pub found : IfOk answer (λ l. HasFindings wire table root body (mapped found_of l.items))
  -- where the body is empty, or a text in which at most 512 containers nest, there is a list, want of memory aside
  pub whole : IsEmptyBody wire body ⊎ IsTextWithin wire 512 body → IfErr answer (λ e. e ≡ NoMemory)
  -- the body is no text, whatever may nest in it
  pub not_well_formed : IsErrOf answer NotWellFormed → (most : ℕ) → IsTextWithin wire most body → ⊥
  -- no text within the limit, and 513 of its bytes may open a container
  pub too_nested : IsErrOf answer TooNested → (IsTextWithin wire 512 body → ⊥) × (513 ≤ opening_bytes wire body)
  -- the list is empty exactly where the body spells a value of the root and no entry in it is unknown
  pub clean : IfOk answer (λ l. (mapped found_of l.items ≡ []) ↔ (((v : Value) × Spells wire table root body v) × KnowsAll wire table root body))
