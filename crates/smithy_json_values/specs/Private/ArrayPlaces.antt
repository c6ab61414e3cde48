-- The text of an array as a chain of positions, element by element, and back.
use Rattle.std.specs.Prelude.{◌≡◌, ℕ, suc, ◌≤◌, length, drop, List, [], ◌∷◌, ◌++◌, Bool, true, false, refl}
use Rattle.std.proofs.Common.{◌∙◌, ap, arith, subst, append_assoc}
use Rattle.smithy_json_grammar.specs.Ascii.{value_separator, begin_array, end_array}
use Rattle.smithy_json_grammar.specs.Tree.{Json, null, boolean, number, string, array, object, Elements, no_elements, element}
use Rattle.smithy_json_grammar.specs.Grammar.{IsWs, IsPadded, IsBoundary, IsValue, AreMoreElements}
use Rattle.smithy_json_values.specs.Standing.{IsFront, Lies, FollowsContainer, Follows, TreeLies, IsByte, IsSeparated}
use Rattle.smithy_json_values.specs.Private.Lexical.{ws_boundary, elements_boundary}
use Rattle.smithy_json_values.specs.Private.TextParts.{element_parts, bracketed_parts, follows_inside}
use Rattle.smithy_json_values.specs.Private.BytePlaces.{settle, settle_at}

-- ---- a value inside a container

-- from a to e lies a text of the tree, and then a boundary
abbrev pub ChildLies : Json → List ℕ → ℕ → ℕ → Type 0
ChildLies x i a e = Lies (IsValue x) i a e × IsBoundary (drop e i)

follows_boundary : (d : ℕ) (x : Json) (s : List ℕ) → Follows (suc d) x s → IsBoundary s
follows_boundary d null s h = h
follows_boundary d (boolean b) s h = h
follows_boundary d (number raw) s h = h
follows_boundary d (string raw) s h = h
follows_boundary d (array es) s h = h
follows_boundary d (object ms) s h = h

-- a tree that lies inside of a container lies there as an element or a member's value does
pub child_lies : (d : ℕ) (x : Json) (i : List ℕ) (a e : ℕ) → TreeLies (suc d) x i a e → ChildLies x i a e
child_lies d x i a e h = (h.0, follows_boundary d x (drop e i) h.1)

-- a tree that lies as an element or a member's value does lies inside of a container
pub lies_inside : (d : ℕ) (x : Json) (i : List ℕ) (a e : ℕ) → ChildLies x i a e → TreeLies (suc d) x i a e
lies_inside d x i a e h = (h.0, follows_inside d x (drop e i) h.1)

-- ---- parts of texts

-- white space, the other children and the closing byte
pub record RestLies (P : List ℕ → Type 0) (closing : ℕ) (s r : List ℕ) : Type 0 where
  pub after : List ℕ
  pub more : List ℕ
  pub is : s ≡ after ++ (more ++ closing ∷ r)
  pub ws : IsWs after
  pub others : P more

-- a byte, with the rest behind it
pub byte_front : (b : ℕ) (s r : List ℕ) → (h : IsFront (IsByte b) s r) → s ≡ h.0 ++ (b ∷ r)
byte_front b s r h = h.2 ∙ ap (λ t. h.0 ++ (t ++ r)) h.4

-- a text, with what comes in its rest
pub front_then : (s before text r after more : List ℕ) → s ≡ before ++ (text ++ r) → r ≡ after ++ more
    → s ≡ before ++ (text ++ (after ++ more))
front_then s before text r after more h k = rw (h, k) refl

then_parts : (before text after more : List ℕ) (b : ℕ) (r : List ℕ)
    → before ++ (text ++ (after ++ (more ++ b ∷ r))) ≡ ((before ++ (text ++ after)) ++ more) ++ b ∷ r
then_parts before text after more b r = simp append_assoc

-- a bracketed text, with what follows it
pub bracket_parts : (b : ℕ) (inside : List ℕ) (c : ℕ) (r : List ℕ) → b ∷ (inside ++ c ∷ r) ≡ (b ∷ (inside ++ c ∷ [])) ++ r
bracket_parts b inside c r = simp append_assoc

-- the text of a container, from its opening byte on
pub bracketed_front : (i : List ℕ) (a b e opening closing : ℕ) (inside : List ℕ) → (o : Lies (IsByte opening) i a b)
    → drop b i ≡ inside ++ closing ∷ drop e i → drop a i ≡ o.2.0 ++ ((opening ∷ (inside ++ closing ∷ [])) ++ drop e i)
bracketed_front i a b e opening closing inside o h =
    byte_front opening (drop a i) (drop b i) o.2 ∙ ap (λ t. o.2.0 ++ (opening ∷ t)) h
    ∙ ap (λ t. o.2.0 ++ t) (bracket_parts opening inside closing (drop e i))

-- ---- the chain

-- from b on these elements come, with their commas, and then the array ends at e
abbrev pub ElementsLie : Elements → Bool → List ℕ → ℕ → ℕ → Type 0
ElementsLie no_elements entered i b e = Lies (IsByte end_array) i b e
ElementsLie (element x es) entered i b e =
    (c f : ℕ) × IsSeparated entered i b c × ChildLies x i c f × ElementsLie es true i f e

elements_within : (es : Elements) (m : Bool) (i : List ℕ) (b e : ℕ) → ElementsLie es m i b e → e ≤ length i
elements_within no_elements m i b e h = h.1
elements_within (element x es) m i b e h = elements_within es true i h.1 e h.4

elements_ahead : (es : Elements) (m : Bool) (i : List ℕ) (b e : ℕ) → ElementsLie es m i b e → b ≤ e
elements_ahead no_elements m i b e h = h.0
elements_ahead (element x es) false i b e h =
    let r = elements_ahead es true i h.1 e h.4 in omega (arith, h.2, h.3.0.0, r)
elements_ahead (element x es) true i b e h =
    let r = elements_ahead es true i h.1 e h.4 in omega (arith, h.2.0, h.3.0.0, r)

-- the positions of the other elements give their text
elements_rest : (es : Elements) (i : List ℕ) (b e : ℕ) → ElementsLie es true i b e
    → RestLies (AreMoreElements es) end_array (drop b i) (drop e i)
elements_rest no_elements i b e h =
    record { after = h.2.0; more = []; is = byte_front end_array (drop b i) (drop e i) h.2; ws = h.2.3; others = refl }
elements_rest (element x es) i b e h =
    let c = h.0 in
    let f = h.1 in
    let comma = h.2.2 in
    let val = h.3.0.2 in
    let rest = elements_rest es i f e h.4 in
    let one = val.0 ++ (val.1 ++ rest.after) in
    let inner : drop c i ≡ (one ++ rest.more) ++ end_array ∷ drop e i =
    front_then (drop c i) val.0 val.1 (drop f i) rest.after (rest.more ++ end_array ∷ drop e i) val.2 rest.is
    ∙ then_parts val.0 val.1 rest.after rest.more end_array (drop e i) in
    record {
      after = comma.0;
      more = value_separator ∷ (one ++ rest.more);
      is = byte_front value_separator (drop b i) (drop c i) comma ∙ ap (λ t. comma.0 ++ (value_separator ∷ t)) inner;
      ws = comma.3;
      others = (refl, (one, rest.more, refl, (val.0, val.1, rest.after, refl, val.3, val.4, rest.ws), rest.others));
    }

-- the positions of all elements, behind the opening bracket, give the array
pub elements_text : (d : ℕ) (es : Elements) (i : List ℕ) (a b e : ℕ) → Lies (IsByte begin_array) i a b → ElementsLie es false i b e
    → FollowsContainer d (drop e i) → TreeLies d (array es) i a e
elements_text d no_elements i a b e o h follows =
    let inside = h.2.0 in
    let is = bracketed_front i a b e begin_array end_array inside o (byte_front end_array (drop b i) (drop e i) h.2) in
    ((omega (arith, o.0, h.0), h.1, (o.2.0, begin_array ∷ (inside ++ end_array ∷ []), is, o.2.3, (inside, refl, h.2.3))), follows)
elements_text d (element x es) i a b e o h follows =
    let f = h.1 in
    let val = subst (λ y. IsFront (IsValue x) (drop y i) (drop f i)) h.2 h.3.0.2 in
    let rest = elements_rest es i f e h.4 in
    let one = val.0 ++ (val.1 ++ rest.after) in
    let inside = one ++ rest.more in
    let inner : drop b i ≡ inside ++ end_array ∷ drop e i =
    front_then (drop b i) val.0 val.1 (drop f i) rest.after (rest.more ++ end_array ∷ drop e i) val.2 rest.is
    ∙ then_parts val.0 val.1 rest.after rest.more end_array (drop e i) in
    let is = bracketed_front i a b e begin_array end_array inside o inner in
    let ahead = elements_ahead es true i f e h.4 in
    let text : IsPadded (IsValue x) one = (val.0, val.1, rest.after, refl, val.3, val.4, rest.ws) in (
      (
        omega (arith, o.0, h.2, h.3.0.0, ahead),
        elements_within es true i f e h.4,
        (o.2.0, begin_array ∷ (inside ++ end_array ∷ []), is, o.2.3, (inside, refl, (one, rest.more, refl, text, rest.others))),
      ),
      follows,
    )

-- ---- and back

rest_elements : (es : Elements) (i : List ℕ) (b e : ℕ) (after more : List ℕ) → b ≤ length i → e ≤ length i
    → drop b i ≡ after ++ (more ++ end_array ∷ drop e i) → IsWs after → AreMoreElements es more → ElementsLie es true i b e
rest_elements no_elements i b e after more w u h a s =
    settle_at (IsByte end_array) i b e after (end_array ∷ []) w u (h ∙ ap (λ t. after ++ (t ++ end_array ∷ drop e i)) s) a refl
rest_elements (element x es) i b e after [] w u h a s = absurd s
rest_elements (element x es) i b e after (k ∷ more) w u h a s =
    let one = s.1.3 in
    let end = s.1.1 ++ end_array ∷ drop e i in
    let tail = one.2 ++ end in
    let comma = settle (IsByte value_separator) i b after (value_separator ∷ []) (more ++ end_array ∷ drop e i) w
    (h ∙ ap (λ t. after ++ (t ∷ (more ++ end_array ∷ drop e i))) s.0) a refl in
    let flat : more ++ end_array ∷ drop e i ≡ one.0 ++ (one.1 ++ tail) =
    ap (λ t. t ++ end_array ∷ drop e i) s.1.2 ∙ element_parts s.1.0 one.0 one.1 one.2 s.1.1 (end_array ∷ drop e i) one.3 in
    let val = settle (IsValue x) i comma.at one.0 one.1 tail comma.lies.1 (comma.rest ∙ flat) one.4 one.5 in
    let boundary : IsBoundary (drop val.at i) = rw val.rest (ws_boundary one.2 end one.6 (elements_boundary es s.1.1 (drop e i) s.1.4)) in
    (comma.at, val.at, comma.lies, (val.lies, boundary), rest_elements es i val.at e one.2 s.1.1 val.lies.1 u val.rest one.6 s.1.4)

-- an array gives the positions of its bracket and of its elements
pub text_elements : (d : ℕ) (es : Elements) (i : List ℕ) (a e : ℕ) → a ≤ length i → TreeLies d (array es) i a e
    → (b : ℕ) × Lies (IsByte begin_array) i a b × ElementsLie es false i b e
text_elements d no_elements i a e w h =
    let l = h.0.2 in
    let inside = l.4.0 in
    let behind = inside ++ end_array ∷ drop e i in
    let flat : l.1 ++ drop e i ≡ begin_array ∷ behind = bracketed_parts begin_array end_array l.1 inside (drop e i) behind l.4.1 refl in
    let opening = settle (IsByte begin_array) i a l.0 (begin_array ∷ []) behind w (l.2 ∙ ap (λ t. l.0 ++ t) flat) l.3 refl in
    (opening.at, opening.lies, settle_at (IsByte end_array) i opening.at e inside (end_array ∷ []) opening.lies.1 h.0.1 opening.rest l.4.2 refl)
text_elements d (element x es) i a e w h =
    let l = h.0.2 in
    let s = l.4.2 in
    let one = s.3 in
    let end = s.1 ++ end_array ∷ drop e i in
    let tail = one.2 ++ end in
    let inner = ap (λ t. t ++ end_array ∷ drop e i) s.2 ∙ element_parts s.0 one.0 one.1 one.2 s.1 (end_array ∷ drop e i) one.3 in
    let flat : l.1 ++ drop e i ≡ begin_array ∷ (one.0 ++ (one.1 ++ tail)) =
    bracketed_parts begin_array end_array l.1 l.4.0 (drop e i) (one.0 ++ (one.1 ++ tail)) l.4.1 inner in
    let opening = settle (IsByte begin_array) i a l.0 (begin_array ∷ []) (one.0 ++ (one.1 ++ tail)) w (l.2 ∙ ap (λ t. l.0 ++ t) flat) l.3 refl in
    let val = settle (IsValue x) i opening.at one.0 one.1 tail opening.lies.1 opening.rest one.4 one.5 in
    let boundary : IsBoundary (drop val.at i) = rw val.rest (ws_boundary one.2 end one.6 (elements_boundary es s.1 (drop e i) s.4)) in (
      opening.at,
      opening.lies,
      (opening.at, val.at, refl, (val.lies, boundary), rest_elements es i val.at e one.2 s.1 val.lies.1 h.0.1 val.rest one.6 s.4),
    )
