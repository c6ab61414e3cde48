-- The pairs of a form as a finite map from joined paths to texts.
use Rattle.std.specs.Prelude.{◌≡◌, ℕ, List, map as mapped}
use Rattle.smithy_declarations.specs.Names.{named}
use Rattle.smithy_declarations.specs.Value.{Value}
use Rattle.smithy_shapes.specs.Site.{Site}
use Rattle.smithy_query_codec.specs.Leaves.{Leaf, neither, leaves}
use Rattle.smithy_query_codec.specs.Canonical.{path_text}
use Rattle.smithy_form.specs.Plain.{IsPlain}

-- a name and a text, decoded
abbrev pub NamedText : Type 0
NamedText = List ℕ × List ℕ

-- leaves as pairs, each under its path as it is joined
abbrev pub leaf_pairs : List Leaf → List NamedText
leaf_pairs ls = mapped (λ (l : Leaf). (path_text l.path, l.text)) ls

-- the pairs are, as a finite map from joined paths to texts, the leaves of the value
abbrev pub AreLeavesOf : Site → List NamedText → Value → Type 0
AreLeavesOf site pairs v = (name : List ℕ) → named pairs name ≡ named (leaf_pairs (leaves site neither v)) name

-- how many containers of a value that is read may be nested
abbrev pub greatest_depth : ℕ
greatest_depth = 128

-- the pairs are the leaves of this plain value of the site
abbrev pub Tell : Site → List NamedText → Value → Type 0
Tell site pairs v = IsPlain site greatest_depth v × AreLeavesOf site pairs v

-- and of no other
abbrev pub TellAlone : Site → List NamedText → Value → Type 0
TellAlone site pairs v = Tell site pairs v × ((w : Value) → Tell site pairs w → w ≡ v)
