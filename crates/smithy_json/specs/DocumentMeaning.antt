-- The document that a JSON value means. The limits are the greatest depth, or none where they are lifted.
use Rattle.std.specs.Prelude.{ℕ, suc, nat_le, List, [], Option, Some, None, option_map, option_and_then, if◌then◌else◌}
use Rattle.smithy_types.specs.Document.{Document, null, boolean, number, text, array, object, Documents, no_documents, item, properties_by, with_pair}
use Rattle.smithy_types.specs.declared.number.Number.{Number}
use Rattle.smithy_json_grammar.specs.Tree.{Json, Elements, no_elements, element, Members, no_members, member}
use Rattle.smithy_json_grammar.specs.HeldNumber.{number_of}
use Rattle.smithy_json_grammar.specs.Unescape.{unescaped}

-- what means something at a depth, where that is at most the greatest
abbrev pub at_depth : {A : Type 0} → Option ℕ → ℕ → Option A → Option A
at_depth None depth meaning = meaning
at_depth (Some greatest) depth meaning = if nat_le depth greatest then meaning else None

-- a number that no document holds means nothing, and a null where the limits are lifted
abbrev pub other_number : Option ℕ → Option (Document Number)
other_number None = Some null
other_number (Some greatest) = None

-- a number without fraction and exponent from -2^63 to 2^64-1 means itself
abbrev pub number_meaning : Option ℕ → Option Number → Option (Document Number)
number_meaning limits (Some n) = Some (number n)
number_meaning limits None = other_number limits

abbrev mutual
  -- the document of a value inside so many others
  pub document_meaning : Option ℕ → ℕ → Json → Option (Document Number)
  document_meaning limits depth Json.null = at_depth limits (suc depth) (Some null)
  document_meaning limits depth (Json.boolean b) = at_depth limits (suc depth) (Some (boolean b))
  document_meaning limits depth (Json.number raw) =
      at_depth limits (suc depth) (number_meaning limits (number_of raw))
  document_meaning limits depth (Json.string raw) =
      at_depth limits (suc depth) (option_map text (unescaped raw))
  document_meaning limits depth (Json.array es) =
      at_depth limits (suc depth) (option_map array (elements_meaning limits (suc depth) es))
  document_meaning limits depth (Json.object ms) =
      at_depth limits (suc depth)
      (option_map (λ pairs. object (properties_by pairs)) (members_meaning limits (suc depth) ms))

  -- each child means a document
  pub elements_meaning : Option ℕ → ℕ → Elements → Option (Documents Number)
  elements_meaning limits depth no_elements = Some no_documents
  elements_meaning limits depth (element j es) =
      option_and_then (λ d. option_map (item d) (elements_meaning limits depth es))
      (document_meaning limits depth j)

  -- each name is a text, and each child means a document
  pub members_meaning : Option ℕ → ℕ → Members → Option (List (List ℕ × Document Number))
  members_meaning limits depth no_members = Some []
  members_meaning limits depth (member name j ms) =
      with_pair (unescaped name) (document_meaning limits depth j) (members_meaning limits depth ms)
