-- The text of an object as a chain of positions, member by member, and back.
use Rattle.std.specs.Prelude.{◌≡◌, ℕ, ◌≤◌, length, drop, List, [], ◌∷◌, ◌++◌, Bool, true, false, refl}
use Rattle.std.proofs.Common.{sym, ◌∙◌, ap, arith, subst}
use Rattle.smithy_json_grammar.specs.Ascii.{quotation_mark, value_separator, name_separator, begin_object, end_object}
use Rattle.smithy_json_grammar.specs.Tree.{Json, object, Members, no_members, member}
use Rattle.smithy_json_grammar.specs.Grammar.{IsWs, IsMember, IsBoundary, IsStringText, IsValue, AreMoreMembers}
use Rattle.smithy_json_values.specs.Standing.{IsFront, Lies, FollowsContainer, TreeLies, IsByte, IsName, Names}
use Rattle.smithy_json_values.specs.Private.Lexical.{ws_boundary, members_boundary}
use Rattle.smithy_json_values.specs.Private.TextParts.{member_parts, bracketed_parts}
use Rattle.smithy_json_values.specs.Private.BytePlaces.{settle, settle_at, separated_ahead}
use Rattle.smithy_json_values.specs.Private.NamePlaces.{name_parts}
use Rattle.smithy_json_values.specs.Private.ArrayPlaces.{ChildLies, RestLies, byte_front, front_then, bracketed_front}

-- from b on these members come, with their commas, and then the object ends at e
abbrev pub MembersLie : Members → Bool → List ℕ → ℕ → ℕ → Type 0
MembersLie no_members entered i b e = Lies (IsByte end_object) i b e
MembersLie (member name x ms) entered i b e =
    (c f : ℕ) × Names entered i b name c × ChildLies x i c f × MembersLie ms true i f e

members_within : (ms : Members) (m : Bool) (i : List ℕ) (b e : ℕ) → MembersLie ms m i b e → e ≤ length i
members_within no_members m i b e h = h.1
members_within (member name x ms) m i b e h = members_within ms true i h.1 e h.4

members_ahead : (ms : Members) (m : Bool) (i : List ℕ) (b e : ℕ) → MembersLie ms m i b e → b ≤ e
members_ahead no_members m i b e h = h.0
members_ahead (member name x ms) m i b e h =
    let r = members_ahead ms true i h.1 e h.4 in
    omega (arith, separated_ahead i m b h.2.0 h.2.1, h.2.2.0, h.3.0.0, r)

-- ---- one member

-- a name and a value, with what follows the colon
name_front : (raw s r t : List ℕ) → (h : IsFront (IsName raw) s r) → r ≡ t
    → s ≡ h.0 ++ (quotation_mark ∷ (raw ++ (quotation_mark ∷ (h.4.0 ++ (name_separator ∷ t)))))
name_front raw s r t h k =
    h.2 ∙ (ap (λ x. h.0 ++ (x ++ r)) h.4.1 ∙ (ap (λ x. h.0 ++ x) (name_parts raw h.4.0 r)
    ∙ ap (λ x. h.0 ++ (quotation_mark ∷ (raw ++ (quotation_mark ∷ (h.4.0 ++ (name_separator ∷ x)))))) k))

-- the text of a member, and the text of the members behind it
record MemberText (P Q : List ℕ → Type 0) (name : List ℕ) (s r : List ℕ) : Type 0 where
  one : List ℕ
  more : List ℕ
  is : s ≡ (one ++ more) ++ end_object ∷ r
  text : IsMember name P one
  others : Q more

-- the text of a member, and the text of the members behind it, follow from their positions
member_text : (x : Json) (Q : List ℕ → Type 0) (name : List ℕ) (i : List ℕ) (d c f e : ℕ) → Lies (IsName name) i d c → Lies (IsValue x) i c f
    → RestLies Q end_object (drop f i) (drop e i) → MemberText (IsValue x) Q name (drop d i) (drop e i)
member_text x Q name i d c f e k v rest =
    let val = v.2 in
    let key = k.2 in
    let r = rest.after ++ (rest.more ++ end_object ∷ drop e i) in
    let value = val.0 ++ (val.1 ++ rest.after) in
    let one = key.0 ++ (quotation_mark ∷ (name ++ (quotation_mark ∷ (key.4.0 ++ (name_separator ∷ value))))) in
    let inner : drop c i ≡ val.0 ++ (val.1 ++ r) =
    front_then (drop c i) val.0 val.1 (drop f i) rest.after (rest.more ++ end_object ∷ drop e i) val.2 rest.is in
    record {
      one = one;
      more = rest.more;
      is = name_front name (drop d i) (drop c i) (val.0 ++ (val.1 ++ r)) key inner
          ∙ sym (member_parts one key.0 name key.4.0 value val.0 val.1 rest.after rest.more (end_object ∷ drop e i) refl refl);
      text = (key.0, key.4.0, value, refl, key.3, key.4.2, key.4.3, (val.0, val.1, rest.after, refl, val.3, val.4, rest.ws));
      others = rest.others;
    }

-- ---- all members

-- the positions of the other members give their text
members_rest : (ms : Members) (i : List ℕ) (b e : ℕ) → MembersLie ms true i b e → RestLies (AreMoreMembers ms) end_object (drop b i) (drop e i)
members_rest no_members i b e h =
    record { after = h.2.0; more = []; is = byte_front end_object (drop b i) (drop e i) h.2; ws = h.2.3; others = refl }
members_rest (member name x ms) i b e h =
    let comma = h.2.1.2 in
    let p = member_text x (AreMoreMembers ms) name i h.2.0 h.0 h.1 e h.2.2 h.3.0 (members_rest ms i h.1 e h.4) in
    record {
      after = comma.0;
      more = value_separator ∷ (p.one ++ p.more);
      is = byte_front value_separator (drop b i) (drop h.2.0 i) comma ∙ ap (λ t. comma.0 ++ (value_separator ∷ t)) p.is;
      ws = comma.3;
      others = (refl, (p.one, p.more, refl, p.text, p.others));
    }

-- the positions of all members, behind the opening bracket, give the object
pub members_text : (d : ℕ) (ms : Members) (i : List ℕ) (a b e : ℕ) → Lies (IsByte begin_object) i a b → MembersLie ms false i b e
    → FollowsContainer d (drop e i) → TreeLies d (object ms) i a e
members_text d no_members i a b e o h follows =
    let inside = h.2.0 in
    let is = bracketed_front i a b e begin_object end_object inside o (byte_front end_object (drop b i) (drop e i) h.2) in
    ((omega (arith, o.0, h.0), h.1, (o.2.0, begin_object ∷ (inside ++ end_object ∷ []), is, o.2.3, (inside, refl, h.2.3))), follows)
members_text d (member name x ms) i a b e o h follows =
    let key = subst (λ y. Lies (IsName name) i y h.0) h.2.1 h.2.2 in
    let p = member_text x (AreMoreMembers ms) name i b h.0 h.1 e key h.3.0 (members_rest ms i h.1 e h.4) in
    let inside = p.one ++ p.more in
    let is = bracketed_front i a b e begin_object end_object inside o p.is in
    let ahead = members_ahead (member name x ms) false i b e h in (
      (
        omega (arith, o.0, ahead),
        members_within (member name x ms) false i b e h,
        (o.2.0, begin_object ∷ (inside ++ end_object ∷ []), is, o.2.3, (inside, refl, (p.one, p.more, refl, p.text, p.others))),
      ),
      follows,
    )

-- ---- and back

-- a member whose text comes next in what is left, as one that lies in the input
record MemberSettled (x : Json) (name : List ℕ) (i : List ℕ) (d : ℕ) (tail : List ℕ) : Type 0 where
  colon : ℕ
  at : ℕ
  named : Lies (IsName name) i d colon
  lies : Lies (IsValue x) i colon at
  rest : drop at i ≡ tail

settle_member : (x : Json) (name : List ℕ) (i : List ℕ) (d : ℕ) (before middle inner text tail : List ℕ) → d ≤ length i
    → drop d i ≡ before ++ (quotation_mark ∷ (name ++ (quotation_mark ∷ (middle ++ (name_separator ∷ (inner ++ (text ++ tail)))))))
    → IsWs before → IsStringText name → IsWs middle → IsWs inner → IsValue x text → MemberSettled x name i d tail
settle_member x name i d before middle inner text tail w h b raw m n s =
    let key = quotation_mark ∷ (name ++ (quotation_mark ∷ (middle ++ name_separator ∷ []))) in
    let behind = inner ++ (text ++ tail) in
    let k = settle (IsName name) i d before key behind w (h ∙ ap (λ t. before ++ t) (sym (name_parts name middle behind))) b (middle, refl, raw, m) in
    let v = settle (IsValue x) i k.at inner text tail k.lies.1 k.rest n s in
    record { colon = k.at; at = v.at; named = k.lies; lies = v.lies; rest = v.rest }

rest_members : (ms : Members) (i : List ℕ) (b e : ℕ) (after more : List ℕ) → b ≤ length i → e ≤ length i
    → drop b i ≡ after ++ (more ++ end_object ∷ drop e i) → IsWs after → AreMoreMembers ms more → MembersLie ms true i b e
rest_members no_members i b e after more w u h a s =
    settle_at (IsByte end_object) i b e after (end_object ∷ []) w u (h ∙ ap (λ t. after ++ (t ++ end_object ∷ drop e i)) s) a refl
rest_members (member name x ms) i b e after [] w u h a s = absurd s
rest_members (member name x ms) i b e after (k ∷ more) w u h a s =
    let pair = s.1.3 in
    let one = pair.7 in
    let end = s.1.1 ++ end_object ∷ drop e i in
    let tail = one.2 ++ end in
    let comma = settle (IsByte value_separator) i b after (value_separator ∷ []) (more ++ end_object ∷ drop e i) w
    (h ∙ ap (λ t. after ++ (t ∷ (more ++ end_object ∷ drop e i))) s.0) a refl in
    let flat = ap (λ t. t ++ end_object ∷ drop e i) s.1.2
    ∙ member_parts s.1.0 pair.0 name pair.1 pair.2 one.0 one.1 one.2 s.1.1 (end_object ∷ drop e i) pair.3 one.3 in
    let q = settle_member x name i comma.at pair.0 pair.1 one.0 one.1 tail comma.lies.1 (comma.rest ∙ flat) pair.4 pair.5 pair.6 one.4 one.5 in
    let boundary : IsBoundary (drop q.at i) = rw q.rest (ws_boundary one.2 end one.6 (members_boundary ms s.1.1 (drop e i) s.1.4)) in
    (q.colon, q.at, (comma.at, comma.lies, q.named), (q.lies, boundary), rest_members ms i q.at e one.2 s.1.1 q.lies.1 u q.rest one.6 s.1.4)

-- an object gives the positions of its bracket and of its members
pub text_members : (d : ℕ) (ms : Members) (i : List ℕ) (a e : ℕ) → a ≤ length i → TreeLies d (object ms) i a e
    → (b : ℕ) × Lies (IsByte begin_object) i a b × MembersLie ms false i b e
text_members d no_members i a e w h =
    let l = h.0.2 in
    let inside = l.4.0 in
    let behind = inside ++ end_object ∷ drop e i in
    let flat : l.1 ++ drop e i ≡ begin_object ∷ behind = bracketed_parts begin_object end_object l.1 inside (drop e i) behind l.4.1 refl in
    let opening = settle (IsByte begin_object) i a l.0 (begin_object ∷ []) behind w (l.2 ∙ ap (λ t. l.0 ++ t) flat) l.3 refl in
    (opening.at, opening.lies, settle_at (IsByte end_object) i opening.at e inside (end_object ∷ []) opening.lies.1 h.0.1 opening.rest l.4.2 refl)
text_members d (member name x ms) i a e w h =
    let l = h.0.2 in
    let s = l.4.2 in
    let pair = s.3 in
    let one = pair.7 in
    let end = s.1 ++ end_object ∷ drop e i in
    let tail = one.2 ++ end in
    let inside = pair.0 ++ (quotation_mark ∷ (name ++ (quotation_mark ∷ (pair.1 ++ (name_separator ∷ (one.0 ++ (one.1 ++ tail))))))) in
    let inner = ap (λ t. t ++ end_object ∷ drop e i) s.2
    ∙ member_parts s.0 pair.0 name pair.1 pair.2 one.0 one.1 one.2 s.1 (end_object ∷ drop e i) pair.3 one.3 in
    let flat : l.1 ++ drop e i ≡ begin_object ∷ inside = bracketed_parts begin_object end_object l.1 l.4.0 (drop e i) inside l.4.1 inner in
    let opening = settle (IsByte begin_object) i a l.0 (begin_object ∷ []) inside w (l.2 ∙ ap (λ t. l.0 ++ t) flat) l.3 refl in
    let q = settle_member x name i opening.at pair.0 pair.1 one.0 one.1 tail opening.lies.1 opening.rest pair.4 pair.5 pair.6 one.4 one.5 in
    let boundary : IsBoundary (drop q.at i) = rw q.rest (ws_boundary one.2 end one.6 (members_boundary ms s.1 (drop e i) s.4)) in (
      opening.at,
      opening.lies,
      (q.colon, q.at, (opening.at, refl, q.named), (q.lies, boundary), rest_members ms i q.at e one.2 s.1 q.lies.1 h.0.1 q.rest one.6 s.4),
    )
