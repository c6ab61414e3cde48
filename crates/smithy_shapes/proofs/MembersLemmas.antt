-- The members that are left.
use Rattle.std.proofs.Common.{◌≡◌, ℕ, ◌+◌, ◌≤◌, List, [], ◌∷◌, map, length, drop, Option, Some, None, refl, sym, ap, ◌∙◌, arith, rules, suc, zero}
use Rattle.std.specs.List.{enumerate_from, slice_get}
use Rattle.std.specs.Option.{option_map, MatchOption}
use Rattle.std.specs.Iterator.{MakesProgress, item_count}
use Rattle.std.proofs.lemmas.List.{drop_all, length-map}
use Rattle.std.proofs.lemmas.List.FromFn.{length-enumerate_from}
use Rattle.smithy_declarations.specs.Table.{Member, members_of}
use Rattle.smithy_shapes.specs.Site.{Site, site_of_member, member_site, member_sites, kind_at}

abbrev numbered : (ℕ → Member → Site) → ℕ → List Member → List Site
numbered f n ms = map (λ (m : ℕ × Member). f m.0 m.1) (enumerate_from n ms)

some_site : (a b : Site) → Some a ≡ Some b → a ≡ b
some_site a b e = cc

left_from : (f : ℕ → Member → Site) (ms : List Member) (n p : ℕ) (s : Site) → option_map (f (n + p)) (slice_get ms p) ≡ Some s
    → drop p (numbered f n ms) ≡ s ∷ drop (p + 1) (numbered f n ms)
left_from f [] n p s found = absurd (let e : None ≡ Some s = found in cc)
left_from f (m ∷ ms) n zero s found =
    let same : f (n + 0) m ≡ s = some_site (f (n + 0) m) s found in
    ap (λ x. x ∷ numbered f (n + 1) ms) (ap (λ k. f k m) (let e : n ≡ n + 0 = omega arith in e) ∙ same)
left_from f (m ∷ ms) n (suc p) s found =
    left_from f ms (n + 1) p s (ap (λ k. option_map (f k) (slice_get ms p)) (let e : n + 1 + p ≡ n + suc p = omega arith in e) ∙ found)
    ∙ ap (λ k. s ∷ drop k (numbered f n (m ∷ ms))) (let e : suc (p + 1) ≡ suc p + 1 = omega arith in e)

-- the member at a position is the first that is left from there
pub left_at : (outer : Site) (p : ℕ) (s : Site) → member_site outer p ≡ Some s → drop p (member_sites outer) ≡ s ∷ drop (p + 1) (member_sites outer)
left_at outer p s found =
    left_from (site_of_member outer.table) (members_of (kind_at outer)) 0 p s
    (ap (λ k. option_map (site_of_member outer.table k) (slice_get (members_of (kind_at outer)) p)) (let e : 0 + p ≡ p = omega arith in e) ∙ found)

pub length-member_sites : (outer : Site) → length (member_sites outer) ≡ length (members_of (kind_at outer))
length-member_sites outer =
    length-map (enumerate_from 0 (members_of (kind_at outer))) (λ (m : ℕ × Member). site_of_member outer.table m.0 m.1)
    ∙ length-enumerate_from 0 (members_of (kind_at outer))

pub none_left : (outer : Site) (p : ℕ) → length (members_of (kind_at outer)) ≤ p → drop p (member_sites outer) ≡ []
none_left outer p past = drop_all p (member_sites outer) (omega (arith, length-member_sites outer))

slice_get_within : {X : Type 0} (xs : List X) (p : ℕ) → suc p ≤ length xs → (x : X) × (slice_get xs p ≡ Some x)
slice_get_within [] p within = absurd (omega arith)
slice_get_within (x ∷ xs) zero within = (x, refl)
slice_get_within (x ∷ xs) (suc p) within = slice_get_within xs p (omega arith)

-- there is a member at each position
pub member_within : (outer : Site) (p : ℕ) → suc p ≤ length (members_of (kind_at outer)) → (s : Site) × (member_site outer p ≡ Some s)
member_within outer p within =
    let at = slice_get_within (members_of (kind_at outer)) p within in
    (site_of_member outer.table p at.0, ap (option_map (site_of_member outer.table p)) at.1)

-- one call of `next` where a member is left
pub one_left : {X : Type 0} (view : X → Site) (outer : Site) (p : ℕ) (r : Option X) → option_map view r ≡ member_site outer p → suc p ≤ length (members_of (kind_at outer))
    → MatchOption r ((drop p (member_sites outer) ≡ []) × (drop (p + 1) (member_sites outer) ≡ [])) (λ x. drop p (member_sites outer) ≡ view x ∷ drop (p + 1) (member_sites outer))
one_left view outer p None found within =
    absurd (let at = member_within outer p within in let e : None ≡ Some at.0 = found ∙ at.1 in cc)
one_left view outer p (Some x) found within = left_at outer p (view x) (sym found)

pub one_fewer : {X S : Type 0} (view : X → Site) (outer : Site) (p : ℕ) (r : Option X) → option_map view r ≡ member_site outer p → suc p ≤ length (members_of (kind_at outer))
    → (left : S → List Site) (s t : S) → left s ≡ drop p (member_sites outer) → left t ≡ drop (p + 1) (member_sites outer) → MakesProgress (λ _. Unit {0}) (item_count left) s r t
one_fewer view outer p None found within left s t before after =
    absurd (let at = member_within outer p within in let e : None ≡ Some at.0 = found ∙ at.1 in cc)
one_fewer view outer p (Some x) found within left s t before after =
    let shorter = ap length (before ∙ left_at outer p (view x) (sym found) ∙ ap (λ xs. view x ∷ xs) (sym after)) in
    search rules
