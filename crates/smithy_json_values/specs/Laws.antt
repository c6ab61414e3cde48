-- The laws of reading, for JSON.
use Rattle.std.specs.Prelude.{◌≡◌, ◌↔◌, ℕ, List, true, false, option_map}
use Rattle.smithy_types.specs.Document.{Document, whole_document}
use Rattle.smithy_types.specs.declared.number.Number.{Number}
use Rattle.smithy_declarations.specs.declared.place.Place.{Place}
use Rattle.smithy_declarations.specs.Table.{Table, document, kind_of}
use Rattle.smithy_json_grammar.specs.Tree.{Json}
use Rattle.smithy_json.specs.DocumentMeaning.{document_meaning}
use Rattle.smithy_schema.specs.Nulls.{DropsNulls}
use Rattle.smithy_schema.specs.Reading.{IsLawful, StandsFit, CountsOpeners, IsBelow}
use Rattle.smithy_json_values.specs.Settings.{Settings, kept, without_limits}
use Rattle.smithy_json_values.specs.LexicalGrammar.{frames_of}
use Rattle.smithy_json_values.specs.Meaning.{json_meaning}
use Rattle.smithy_json_values.specs.Standing.{json_grammar, json_rules, json_relations}
use Rattle.smithy_json_values.specs.Documents.{depth_limit, DocumentStands}
use Rattle.smithy_json_values.specs.Private.DocumentNodes as documents
use Rattle.smithy_json_values.specs.Private.TokenLaws as tokens
use Rattle.smithy_json_values.specs.Private.Wire.{tokens_are_wire}
use Rattle.smithy_declarations.specs.Value.{document_value}
use Rattle.smithy_wire.specs.Wire.{RulesFit}
use Rattle.smithy_wire.specs.Laws as wire

-- the relations obey their laws, whatever the settings
pub lawful : (c : Settings) → IsLawful (json_relations c)
lawful c = tokens.lawful (json_grammar c) c

-- what scalars mean is of their kind, and keys are texts
pub rules_fit : (c : Settings) → RulesFit (frames_of (json_grammar c)) (json_rules c)
rules_fit = tokens.fit_by_settings

-- what stands with the limits kept is a value of its place, with bytes for all values inside of it
pub fit : (c : Settings) → c.limits ≡ kept → StandsFit (json_relations c)
fit c keeps = wire.stands_fit (frames_of (json_grammar c)) (json_rules c) (tokens_are_wire (json_grammar c).is_strict) keeps (rules_fit c)

-- nulls are dropped where the settings hand none on, but those of documents
pub drops_nulls : (c : Settings) → c.dispatch_null_members ≡ false → DropsNulls (json_relations c)
drops_nulls c off = wire.drops_nulls (frames_of (json_grammar c)) (json_rules c) λ place keeps. rw off at keeps

-- brackets are counted, where an empty rest is no structure
pub counts : (c : Settings) → c.enforce_strictness ≡ true → CountsOpeners (json_relations c)
counts c = tokens.counts (json_grammar c) c

-- what holds within the limits holds without them
pub above : (c : Settings) → IsBelow (json_relations c) (json_relations (without_limits c))
above c = tokens.above (json_grammar c) c

-- From a to e stands a document where a node lies there that means it inside so many containers, and behind it comes what may
-- follow a container.
pub documents_are : (c : Settings) (i : List ℕ) (d a : ℕ) (x : Document Number) (e : ℕ)
    → (json_relations c).documents i d a x e ↔ DocumentStands (json_grammar c) c d i a x e
documents_are c = documents.documents_are (json_grammar c) c

-- where a document is due, a tree means what it means as a document, and of each number the whole number alone
pub means_document : (c : Settings) (t : Table) (p : Place) → kind_of t p ≡ document → (d : ℕ) (x : Json)
    → json_meaning c t p d x ≡ option_map (λ u. document_value (whole_document u)) (document_meaning (depth_limit c.limits c.max_depth) d x)
means_document = documents.means_document_of
