-- What has a meaning as a document: its parts, and that the meaning stays under a greater depth.
use Rattle.std.proofs.Common.{◌≡◌, ◌≤◌, ℕ, suc, List, ◌∷◌, Bool, true, false, cond, nat_le, Option, Some, None, option_map, option_and_then, refl, sym, ap, ◌∙◌, arith}
use Rattle.std.proofs.lemmas.Bool.Decides.{nat_tests}
use Rattle.smithy_types.specs.Document.{Document, null, boolean, number, text, array, object, Documents, item, properties_by, with_pair}
use Rattle.smithy_types.specs.declared.number.Number.{Number}
use Rattle.smithy_json_grammar.specs.Tree.{Json, Elements, no_elements, element, Members, no_members, member}
use Rattle.smithy_json_grammar.specs.Tree as tree
use Rattle.smithy_json_grammar.specs.HeldNumber.{number_of}
use Rattle.smithy_json_grammar.specs.Unescape.{unescaped}
use Rattle.smithy_json.specs.DocumentMeaning.{at_depth, number_meaning, document_meaning, elements_meaning, members_meaning}

-- ---- what has a value

pub some_of_map : {A B : Type 0} (f : A → B) (o : Option A) (y : B) → option_map f o ≡ Some y → (x : A) × (o ≡ Some x) × (f x ≡ y)
some_of_map f None y h = cc
some_of_map f (Some x) y h = (x, refl, cc)

pub some_of_then : {A B : Type 0} (f : A → Option B) (o : Option A) (y : B) → option_and_then f o ≡ Some y → (x : A) × (o ≡ Some x) × (f x ≡ Some y)
some_of_then f None y h = cc
some_of_then f (Some x) y h = (x, refl, h)

pub some_of_pair : (k : Option (List ℕ)) (d : Option (Document Number)) (ps : Option (List (List ℕ × Document Number))) (all : List (List ℕ × Document Number)) → with_pair k d ps ≡ Some all
    → (name : List ℕ) × (x : Document Number) × (rest : List (List ℕ × Document Number)) × (k ≡ Some name) × (d ≡ Some x) × (ps ≡ Some rest) × ((name, x) ∷ rest ≡ all)
some_of_pair (Some name) (Some x) (Some rest) all h = (name, x, rest, refl, refl, refl, cc)
some_of_pair (Some name) (Some x) None all h = cc
some_of_pair (Some name) None ps all h = cc
some_of_pair None d ps all h = cc

-- a value that isn't too deep
pub allowed : {A : Type 0} (greatest depth : ℕ) (m : Option A) (x : A) → at_depth (Some greatest) depth m ≡ Some x → (nat_le depth greatest ≡ true) × (m ≡ Some x)
allowed greatest depth m x h = go (nat_le depth greatest) refl
  where
    go : (may : Bool) → nat_le depth greatest ≡ may → (nat_le depth greatest ≡ true) × (m ≡ Some x)
    go true e = (e, ap (λ b. cond b m None) (sym e) ∙ h)
    go false e = let bad : None ≡ Some x = ap (λ b. cond b m None) (sym e) ∙ h in cc

-- a number that means something is one that is held
pub held : (greatest : ℕ) (m : Option Number) (d : Document Number) → number_meaning (Some greatest) m ≡ Some d → (n : Number) × (m ≡ Some n) × (number n ≡ d)
held greatest None d h = cc
held greatest (Some n) d h = (n, refl, cc)

-- ---- a greater depth

module _ (few many : ℕ) (more : few ≤ many) where
  still : (depth : ℕ) → nat_le depth few ≡ true → nat_le depth many ≡ true
  still depth h = grind (arith, nat_tests)

  raised : {A : Type 0} (depth : ℕ) (m : Option A) (x : A) → nat_le depth few ≡ true → m ≡ Some x → at_depth (Some many) depth m ≡ Some x
  raised depth m x h e = ap (λ b. cond b m None) (still depth h) ∙ e

  number_same : (m : Option Number) → number_meaning (Some few) m ≡ number_meaning (Some many) m
  number_same None = refl
  number_same (Some n) = refl

  mutual
    -- what means a document under one greatest depth, means it under a greater one
    pub document_deeper : (j : Json) (depth : ℕ) (d : Document Number) → document_meaning (Some few) depth j ≡ Some d → document_meaning (Some many) depth j ≡ Some d
    document_deeper tree.null depth d h =
        let may = allowed few (suc depth) (Some null) d h in raised (suc depth) (Some null) d may.0 may.1
    document_deeper (tree.boolean b) depth d h =
        let may = allowed few (suc depth) (Some (boolean b)) d h in raised (suc depth) (Some (boolean b)) d may.0 may.1
    document_deeper (tree.number raw) depth d h =
        let may = allowed few (suc depth) (number_meaning (Some few) (number_of raw)) d h in
        raised (suc depth) (number_meaning (Some many) (number_of raw)) d may.0 (sym (number_same (number_of raw)) ∙ may.1)
    document_deeper (tree.string raw) depth d h =
        let may = allowed few (suc depth) (option_map text (unescaped raw)) d h in raised (suc depth) (option_map text (unescaped raw)) d may.0 may.1
    document_deeper (tree.array es) depth d h =
        let may = allowed few (suc depth) (option_map array (elements_meaning (Some few) (suc depth) es)) d h in
        let ds = some_of_map array (elements_meaning (Some few) (suc depth) es) d may.1 in
        raised (suc depth) (option_map array (elements_meaning (Some many) (suc depth) es)) d may.0
        (ap (option_map array) (elements_deeper es (suc depth) ds.0 ds.1) ∙ ap (λ x. Some x) ds.2)
    document_deeper (tree.object ms) depth d h =
        let whole = λ (pairs : List (List ℕ × Document Number)). object (properties_by pairs) in
        let may = allowed few (suc depth) (option_map whole (members_meaning (Some few) (suc depth) ms)) d h in
        let ps = some_of_map whole (members_meaning (Some few) (suc depth) ms) d may.1 in
        raised (suc depth) (option_map whole (members_meaning (Some many) (suc depth) ms)) d may.0
        (ap (option_map whole) (members_deeper ms (suc depth) ps.0 ps.1) ∙ ap (λ x. Some x) ps.2)

    pub elements_deeper : (es : Elements) (depth : ℕ) (xs : Documents Number) → elements_meaning (Some few) depth es ≡ Some xs → elements_meaning (Some many) depth es ≡ Some xs
    elements_deeper no_elements depth xs h = h
    elements_deeper (element j es) depth xs h =
        let first = some_of_then (λ d. option_map (item d) (elements_meaning (Some few) depth es)) (document_meaning (Some few) depth j) xs h in
        let others = some_of_map (item first.0) (elements_meaning (Some few) depth es) xs first.2 in
        ap (option_and_then (λ d. option_map (item d) (elements_meaning (Some many) depth es))) (document_deeper j depth first.0 first.1)
        ∙ ap (option_map (item first.0)) (elements_deeper es depth others.0 others.1) ∙ ap (λ x. Some x) others.2

    pub members_deeper : (ms : Members) (depth : ℕ) (pairs : List (List ℕ × Document Number)) → members_meaning (Some few) depth ms ≡ Some pairs → members_meaning (Some many) depth ms ≡ Some pairs
    members_deeper no_members depth pairs h = h
    members_deeper (member raw j ms) depth pairs h =
        let m = some_of_pair (unescaped raw) (document_meaning (Some few) depth j) (members_meaning (Some few) depth ms) pairs h in
        ap (λ k. with_pair k (document_meaning (Some many) depth j) (members_meaning (Some many) depth ms)) m.3
        ∙ ap (λ x. with_pair (Some m.0) x (members_meaning (Some many) depth ms)) (document_deeper j depth m.1 m.4)
        ∙ ap (λ ps. with_pair (Some m.0) (Some m.1) ps) (members_deeper ms depth m.2 m.5) ∙ ap (λ x. Some x) m.6
