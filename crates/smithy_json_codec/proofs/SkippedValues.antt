-- What is skipped is a node of the grammar that isn't too deep.
use Rattle.std.proofs.Common.{◌≡◌, ◌↔◌, ◌+◌, ℕ, List, true, refl}
use Rattle.std.proofs.lemmas.Bool.{and_parts}
use Rattle.smithy_json_values.specs.Scalar.{JsonScalar}
use Rattle.smithy_json_values.specs.LexicalGrammar.{LexicalGrammar, is_skipped_in, NodeLies, token_relations}
use Rattle.smithy_json_values.specs.Settings.{Settings, is_shallow}
use Rattle.smithy_wire.specs.Node.{Node, nesting, all_pass}

-- from a to e lies a node that may be skipped inside so many containers
abbrev pub Skips : LexicalGrammar → Settings → List ℕ → ℕ → ℕ → ℕ → Type 0
Skips g c i d a e = (x : Node JsonScalar) × NodeLies g (is_skipped_in g) d x i a e × (is_shallow c (d + nesting x) ≡ true)

pub skips_are : (g : LexicalGrammar) (c : Settings) (i : List ℕ) (d a e : ℕ) → Skips g c i d a e ↔ (token_relations g c).skips i d a e
skips_are g c i d a e = (to, from)
  where
    to : Skips g c i d a e → (token_relations g c).skips i d a e
    to (x, lies, deep) = (x, lies.0, rw (lies.1, deep) refl)

    from : (token_relations g c).skips i d a e → Skips g c i d a e
    from (x, lies, may) =
        let both = and_parts (all_pass (is_skipped_in g) x) (is_shallow c (d + nesting x)) may in
        (x, (lies, both.0), both.1)
