-- By the grammar of RFC 8259 a document stands at a place exactly where a tree lies that means it.
use Rattle.std.proofs.Common.{◌≡◌, ℕ, List, sym, ◌∙◌, ap, subst}
use Rattle.smithy_types.specs.Document.{Document}
use Rattle.smithy_types.specs.declared.number.Number.{Number}
use Rattle.smithy_json_values.specs.Settings.{Settings}
use Rattle.smithy_json_values.specs.Scalar.{document_says}
use Rattle.smithy_json_values.specs.Meaning.{node_of, rules_of}
use Rattle.smithy_json_values.specs.LexicalGrammar.{LexicalGrammar, rfc_8259}
use Rattle.smithy_json_values.specs.Documents.{DocumentStands, NoDocumentStands, TreeDocumentStands, NoTreeDocumentStands}
use Rattle.smithy_json_values.specs.Private.NodeDepths.{lies_with}
use Rattle.smithy_json_values.specs.Private.NodePlaces.{tree_lies, lies_tree}
use Rattle.smithy_json_values.specs.Private.TokenMeaning.{document_sound}
use Rattle.smithy_json_values.specs.Private.TokenRules.{same_document as same_by_tokens}
use Rattle.smithy_json_values.specs.Private.DocumentNodes.{limit, same_document}
use Rattle.smithy_wire.specs.Documents.{document_of}

module _ (c : Settings) (d : ℕ) (i : List ℕ) (a : ℕ) where
  node_tree : (x : Document Number) (e : ℕ) → DocumentStands rfc_8259 c d i a x e → TreeDocumentStands (limit c) d i a x e
  node_tree x e (there, follows) =
      let passes = document_sound c i d there.node a e x (lies_with rfc_8259 i 1 d there.node a e follows there.lies) there.means in
      let t = lies_tree 1 there.node i a e passes there.lies in
      record {
        tree = t.0;
        lies = t.1;
        means = sym (same_document c d t.0) ∙ (ap (document_of (rules_of c) document_says d) t.2 ∙ (sym (same_by_tokens c d there.node passes) ∙ there.means));
        follows = follows;
      }

  tree_node : (x : Document Number) (e : ℕ) → TreeDocumentStands (limit c) d i a x e → DocumentStands rfc_8259 c d i a x e
  tree_node x e there =
      let node = tree_lies 1 there.tree i a e there.lies in (
        record {
          node = node_of there.tree;
          lies = node.0;
          means = same_by_tokens c d (node_of there.tree) node.1 ∙ (same_document c d there.tree ∙ there.means);
        },
        there.follows,
      )

  module _ (g : LexicalGrammar) (standard : g ≡ rfc_8259) where
    pub tree_stands : (x : Document Number) (e : ℕ) → DocumentStands g c d i a x e → TreeDocumentStands (limit c) d i a x e
    tree_stands x e there = node_tree x e (subst (λ g. DocumentStands g c d i a x e) standard there)

    pub no_tree_stands : NoDocumentStands g c d i a → NoTreeDocumentStands (limit c) d i a
    no_tree_stands none x e there = none x e (subst (λ g. DocumentStands g c d i a x e) (sym standard) (tree_node x e there))
