-- The parts of a text, with what follows it.
use Rattle.std.specs.Prelude.{◌≡◌, ℕ, suc, List, [], ◌∷◌, ◌++◌}
use Rattle.std.proofs.Common.{ap, append_assoc}
use Rattle.smithy_json_grammar.specs.Ascii.{quotation_mark, name_separator}
use Rattle.smithy_json_grammar.specs.Tree.{Json, null, boolean, number, string, array, object}
use Rattle.smithy_json_grammar.specs.Grammar.{IsBoundary}
use Rattle.smithy_json_values.specs.Standing.{Follows}

-- a member with its value, and what comes behind it
pub member_parts : (one before name middle value inner text after more r : List ℕ)
    → one ≡ before ++ (quotation_mark ∷ (name ++ (quotation_mark ∷ (middle ++ (name_separator ∷ value))))) → value ≡ inner ++ (text ++ after)
    → (one ++ more) ++ r
    ≡ before ++ (quotation_mark ∷ (name ++ (quotation_mark ∷ (middle ++ (name_separator ∷ (inner ++ (text ++ (after ++ (more ++ r)))))))))
member_parts one before name middle value inner text after more r h k = rw (h, k) (simp append_assoc)

-- an element, and what comes behind it
pub element_parts : (one before text after more r : List ℕ) → one ≡ before ++ (text ++ after)
    → (one ++ more) ++ r ≡ before ++ (text ++ (after ++ (more ++ r)))
element_parts one before text after more r h = rw h (simp append_assoc)

-- an array or object, and what comes behind it
pub bracketed_parts : (b c : ℕ) (s inside r t : List ℕ) → s ≡ b ∷ (inside ++ c ∷ []) → inside ++ c ∷ r ≡ t → s ++ r ≡ b ∷ t
bracketed_parts b c s inside r t h k = rw (h, append_assoc) (ap (λ t. b ∷ t) k)

-- a boundary may follow any value inside a container
pub follows_inside : (d : ℕ) (x : Json) (s : List ℕ) → IsBoundary s → Follows (suc d) x s
follows_inside d null s h = h
follows_inside d (boolean b) s h = h
follows_inside d (number raw) s h = h
follows_inside d (string raw) s h = h
follows_inside d (array es) s h = h
follows_inside d (object ms) s h = h
