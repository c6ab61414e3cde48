-- What is found in an entry of a structure or a union, by the member that its key names.
use Rattle.std.specs.Prelude.{◌≡◌, ◌<◌, ◌&&◌, ◌||◌, not, ℕ, zero, suc, length, nat_lt, List, [], ◌∷◌, ◌++◌, Bool, true, false, Option, Some, None, is_some, option_map, option_and_then, slice_get, cond, codes, bytes_eq, position as first_position, if◌then◌else◌, refl}
use Rattle.std.specs.List.{position_or_len}
use Rattle.std.proofs.Common.{sym, ◌∙◌, ap, arith, subst}
use Rattle.std.proofs.lemmas.Bool.Decides.{nat_tests}
use Rattle.smithy_declarations.specs.declared.place.Place.{Place}
use Rattle.smithy_declarations.specs.Table.{Table, Member, Kind, structure_of, union_of, members_of, member_place, place_in, position_named, has_members, HasMembers}
use Rattle.smithy_shapes.specs.Site.{Site, kind_at, member_site, member_named, site_of_member}
use Rattle.smithy_wire.specs.Node.{Node, null_node, leaf, container, missing, as_array, as_object, is_null}
use Rattle.smithy_wire.specs.Rules.{Rules, position_in, drops_null, is_absent, is_mark}
use Rattle.smithy_wire.specs.Entries.{member_is_no_mark}
use Rattle.smithy_compare.specs.Tree.{Step, member as to_member, key as to_key}
use Rattle.smithy_lint.specs.Findings.{Found, one, unnamed, named, child_findings, findings}
use Rattle.smithy_lint.specs.declared.body.Beginning.{Beginning}
use Rattle.smithy_lint.specs.declared.body.Beginning.TheVariants as begun
use Rattle.smithy_lint.specs.declared.finding.Kind.TheVariants.{Key}
use Rattle.smithy_lint.specs.declared.linter.Linter.{Linter}
use Rattle.smithy_lint.specs.Private.Bodies.{Holding, BeginsAs, Begins, IsKeyText}
use Rattle.smithy_lint.specs.Private.Walks.{path_of, found_of, Adds, dropped_end, PassesWith, PassesUnder, VisitsEntry, VisitsMember, IsMemberSite, IsVariantEntry}
use Rattle.smithy_lint.proofs.Docs.{append_nil}

-- ---- nulls that are dropped

pub dropped_is : {L : Type 0} (h : Holding L) (d : ℕ) (x : Node L) (e : ℕ) (b : Beginning) (keeps : Bool) → BeginsAs h d x e b
    → is_some (dropped_end b keeps) ≡ (is_null x && not keeps)
dropped_is h d null_node e b true begins = ap (λ b. is_some (dropped_end b true)) begins
dropped_is h d null_node e b false begins = ap (λ b. is_some (dropped_end b false)) begins
dropped_is h d (leaf x) e b keeps begins = ap (λ b. is_some (dropped_end b keeps)) begins
dropped_is h d (container as_array xs) e b keeps begins = ap (λ b. is_some (dropped_end b keeps)) begins.2
dropped_is h d (container as_object xs) e b keeps begins = ap (λ b. is_some (dropped_end b keeps)) begins.2
dropped_is h d missing e b keeps begins = absurd begins

drops_at : (b : Beginning) (keeps : Bool) (end : ℕ) → dropped_end b keeps ≡ Some end → b ≡ begun.Null end
drops_at (begun.Null e) true end is = cc
drops_at (begun.Null e) false end is = let same : e ≡ end = cc in ap begun.Null same
drops_at (begun.Array i m) keeps end is = cc
drops_at (begun.Object i m) keeps end is = cc
drops_at begun.Scalar keeps end is = cc

null_ends : {L : Type 0} (h : Holding L) (d : ℕ) (x : Node L) (e end : ℕ) → BeginsAs h d x e (begun.Null end) → end ≡ e
null_ends h d null_node e end begins = cc
null_ends h d (leaf x) e end begins = cc
null_ends h d (container as_array xs) e end begins = let k = begins.2 in cc
null_ends h d (container as_object xs) e end begins = let k = begins.2 in cc
null_ends h d missing e end begins = absurd begins

-- ---- members by their names

there_is : {X : Type 0} (xs : List X) (n : ℕ) → n < length xs → slice_get xs n ≡ None → ⊥
there_is [] n low none = omega (arith, low)
there_is (x ∷ xs) zero low none = cc
there_is (x ∷ xs) (suc n) low none = there_is xs n (omega (arith, low)) none

none_of : {A B : Type 0} (f : A → B) (o : Option A) → None ≡ option_map f o → o ≡ None
none_of f None h = refl
none_of f (Some a) h = cc

no_place : (outer : Site) (n : ℕ) (b : Bool) → nat_lt n (length (members_of (kind_at outer))) ≡ b → None ≡ option_and_then (member_site outer) (cond b (Some n) None)
    → cond b (Some n) None ≡ None
no_place outer n true low is =
    absurd (there_is (members_of (kind_at outer)) n (grind (arith, nat_tests)) (none_of (site_of_member outer.table n) (slice_get (members_of (kind_at outer)) n) is))
no_place outer n false low is = refl

-- where no site is that of the member, its name has no position
pub no_position : (outer : Site) (test : Member → Bool) → None ≡ option_and_then (member_site outer) (first_position test (members_of (kind_at outer)))
    → first_position test (members_of (kind_at outer)) ≡ None
no_position outer test is =
    let n = position_or_len test (members_of (kind_at outer)) in
    no_place outer n (nat_lt n (length (members_of (kind_at outer)))) refl is

-- and where one is, the name has its position
pub at_position : (outer inner : Site) (pos : Option ℕ) → Some inner ≡ option_and_then (member_site outer) pos
    → (n : ℕ) × (m : Member) × (pos ≡ Some n) × (slice_get (members_of (kind_at outer)) n ≡ Some m) × (inner ≡ site_of_member outer.table n m)
at_position outer inner None is = cc
at_position outer inner (Some n) is = by (slice_get (members_of (kind_at outer)) n) refl is
  where
    by : (o : Option Member) → slice_get (members_of (kind_at outer)) n ≡ o → Some inner ≡ option_map (site_of_member outer.table n) o
        → (j : ℕ) × (m : Member) × (Some n ≡ Some j) × (slice_get (members_of (kind_at outer)) j ≡ Some m) × (inner ≡ site_of_member outer.table j m)
    by None found is = cc
    by (Some m) found is = (n, m, refl, found, cc)

-- the place of the member is that of its site
pub same_place : (outer : Site) (pos : Option ℕ) → option_map (λ (s : Site). s.place) (option_and_then (member_site outer) pos) ≡ member_place (members_of (kind_at outer)) pos
same_place outer None = refl
same_place outer (Some n) = by (slice_get (members_of (kind_at outer)) n)
  where
    by : (o : Option Member) → option_map (λ (s : Site). s.place) (option_map (site_of_member outer.table n) o) ≡ option_map (λ (m : Member). m.place) o
    by None = refl
    by (Some m) = refl

pub map_twice : {A B C : Type 0} (f : A → B) (g : B → C) (o : Option A) → option_map (λ a. g (f a)) o ≡ option_map g (option_map f o)
map_twice f g None = refl
map_twice f g (Some a) = refl

-- ---- structures and unions

drops_by : {L : Type 0} (r : Rules L) (k : Kind) (pos : Option ℕ) → HasMembers k → drops_null r k pos ≡ not (r.keeps_null (member_place (members_of k) pos))
drops_by r (structure_of ms) pos kind = refl
drops_by r (union_of ms) pos kind = refl
drops_by r _ pos kind = absurd kind

keyless : {L : Type 0} (r : Rules L) (t : Table) (k : Kind) (depth : ℕ) (path : List Step) (i : ℕ) (x : Node L) (found : Place → List Step → List Found) → HasMembers k
    → child_findings r t k depth path i None x found ≡ one path Key
keyless r t (structure_of ms) depth path i x found kind = refl
keyless r t (union_of ms) depth path i x found kind = refl
keyless r t _ depth path i x found kind = absurd kind

with_key : {L : Type 0} (r : Rules L) (t : Table) (k : Kind) (depth : ℕ) (path : List Step) (i : ℕ) (s : List ℕ) (x : Node L) (found : Place → List Step → List Found) → HasMembers k
    → child_findings r t k depth path i (Some s) x found
    ≡ (if is_absent r k (Some s) x then [] else named r k depth path s x found (position_in r k (Some s)))
with_key r t (structure_of ms) depth path i s x found kind = refl
with_key r t (union_of ms) depth path i s x found kind = refl
with_key r t _ depth path i s x found kind = absurd kind

mark_by : {L : Type 0} (r : Rules L) (k : Kind) (s : List ℕ) → HasMembers k → position_in r k (Some s) ≡ None → is_mark r k (Some s) ≡ bytes_eq s (codes "__type")
mark_by r (structure_of ms) s kind none = rw none refl
mark_by r (union_of ms) s kind none = rw none refl
mark_by r _ s kind none = absurd kind

no_mark : {L : Type 0} (r : Rules L) (k : Kind) → is_mark r k None ≡ false
no_mark r k = by (has_members k)
  where
    by : (b : Bool) → (b && false) ≡ false
    by true = refl
    by false = refl

placed_by : (k : Kind) (n : ℕ) (m : Member) → HasMembers k → slice_get (members_of k) n ≡ Some m → place_in k (Some n) ≡ Some m.place
placed_by (structure_of ms) n m kind is = ap (option_map (λ (m : Member). m.place)) is
placed_by (union_of ms) n m kind is = ap (option_map (λ (m : Member). m.place)) is
placed_by _ n m kind is = absurd kind

or_nothing : (b : Bool) → (b || false) ≡ b
or_nothing true = refl
or_nothing false = refl

-- ---- the ways out of an entry

module _ {L : Type 0} (h : Holding L) (r : Rules L) (site : Site) (kind : HasMembers (kind_at site)) (depth name at : ℕ) (b : Beginning) (begins : Begins h at b) (old : Linter) where
  abbrev k : Kind
  k = kind_at site

  abbrev found_in : Node L → Place → List Step → List Found
  found_in x q inner = findings r site.table q depth inner x

  -- an entry is absent where its null is dropped
  absent_by : (text : Option (List ℕ)) (keeps : Bool) → keeps ≡ r.keeps_null (member_place (members_of k) (position_in r k text)) → (x : Node L) (e : ℕ) → h.value depth x at e
      → is_absent r k text x ≡ is_some (dropped_end b keeps)
  absent_by text keeps is x e v =
      ap (λ d. is_null x && d) (drops_by r k (position_in r k text) kind ∙ ap not (sym is)) ∙ sym (dropped_is h depth x e b keeps (begins depth x e v))

  -- by the member that the key names, or none
  keeps_by : (s : List ℕ) (member : Option Site) (keeps : Bool) → member ≡ member_named r.name_of site s → keeps ≡ r.keeps_null (option_map (λ (s : Site). s.place) member)
      → keeps ≡ r.keeps_null (member_place (members_of k) (position_in r k (Some s)))
  keeps_by s member keeps named is =
      is ∙ ap (λ o. r.keeps_null (option_map (λ (s : Site). s.place) o)) named ∙ ap r.keeps_null (same_place site (position_named r.name_of (members_of k) s))

  -- a key without a text
  pub keyless_found : IsKeyText h r name None → (new : Linter) (end : ℕ) → PassesWith h depth at Key old new end → VisitsEntry h r site depth name at old new end
  keyless_found text new end passes i key key_at x e v =
      let p = passes x e v in (
        p.0,
        subst (Adds old new) (sym (keyless r site.table k depth (path_of old) i x (found_in x) kind)
            ∙ ap (λ o. child_findings r site.table k depth (path_of old) i o x (found_in x)) (sym (text key key_at))) p.1,
      )

  pub keyless_variant : IsKeyText h r name None → (keeps : Bool) → keeps ≡ r.keeps_null None → IsVariantEntry h r k depth name at (not (is_some (dropped_end b keeps)))
  keyless_variant text keeps is key key_at x e v =
      ap not (sym (absent_by None keeps is x e v) ∙ sym (or_nothing (is_absent r k None x)) ∙ ap (λ m. is_absent r k None x || m) (sym (no_mark r k)))
      ∙ ap (λ o. not (is_absent r k o x || is_mark r k o)) (sym (text key key_at))

  module _ (s : List ℕ) (text : IsKeyText h r name (Some s)) (member : Option Site) (names : member ≡ member_named r.name_of site s)
      (keeps : Bool) (is : keeps ≡ r.keeps_null (option_map (λ (s : Site). s.place) member)) where
    absent_is : (x : Node L) (e : ℕ) → h.value depth x at e → is_absent r k (Some s) x ≡ is_some (dropped_end b keeps)
    absent_is = absent_by (Some s) keeps (keeps_by s member keeps names is)

    child_is : (i : ℕ) (key : L) → h.key key name → (x : Node L) (e : ℕ) → h.value depth x at e → (path : List Step)
        → child_findings r site.table k depth path i (r.text_of key) x (found_in x)
        ≡ (if is_some (dropped_end b keeps) then [] else named r k depth path s x (found_in x) (position_in r k (Some s)))
    child_is i key key_at x e v path =
        ap (λ o. child_findings r site.table k depth path i o x (found_in x)) (text key key_at)
        ∙ with_key r site.table k depth path i s x (found_in x) kind
        ∙ ap (λ a. if a then [] else named r k depth path s x (found_in x) (position_in r k (Some s))) (absent_is x e v)

    variant_is : (key : L) → h.key key name → (x : Node L) (e : ℕ) → h.value depth x at e
        → not (is_absent r k (r.text_of key) x || is_mark r k (r.text_of key)) ≡ not (is_some (dropped_end b keeps) || is_mark r k (Some s))
    variant_is key key_at x e v =
        ap (λ o. not (is_absent r k o x || is_mark r k o)) (text key key_at) ∙ ap (λ a. not (a || is_mark r k (Some s))) (absent_is x e v)

    -- a null that is dropped
    module _ (end : ℕ) (drops : dropped_end b keeps ≡ Some end) where
      pub dropped_passes : (x : Node L) (e : ℕ) → h.value depth x at e → end ≡ e
      dropped_passes x e v = null_ends h depth x e end (subst (BeginsAs h depth x e) (drops_at b keeps end drops) (begins depth x e v))

      pub dropped_found : VisitsEntry h r site depth name at old old end
      dropped_found i key key_at x e v =
          let nothing : child_findings r site.table k depth (path_of old) i (r.text_of key) x (found_in x) ≡ [] =
          child_is i key key_at x e v (path_of old)
          ∙ ap (λ d. if is_some d then [] else named r k depth (path_of old) s x (found_in x) (position_in r k (Some s))) drops in
          (dropped_passes x e v, (refl, sym (append_nil (found_of old)) ∙ ap (λ u. found_of old ++ u) (sym nothing)))

      pub dropped_variant : IsVariantEntry h r k depth name at false
      dropped_variant key key_at x e v = sym (variant_is key key_at x e v ∙ ap (λ d. not (is_some d || is_mark r k (Some s))) drops)

    module _ (stays : dropped_end b keeps ≡ None) where
      named_is : (i : ℕ) (key : L) → h.key key name → (x : Node L) (e : ℕ) → h.value depth x at e → (path : List Step)
          → child_findings r site.table k depth path i (r.text_of key) x (found_in x) ≡ named r k depth path s x (found_in x) (position_in r k (Some s))
      named_is i key key_at x e v path =
          child_is i key key_at x e v path
          ∙ ap (λ d. if is_some d then [] else named r k depth path s x (found_in x) (position_in r k (Some s))) stays

      marks_only : (key : L) → h.key key name → (x : Node L) (e : ℕ) → h.value depth x at e
          → not (is_absent r k (r.text_of key) x || is_mark r k (r.text_of key)) ≡ not (is_mark r k (Some s))
      marks_only key key_at x e v = variant_is key key_at x e v ∙ ap (λ d. not (is_some d || is_mark r k (Some s))) stays

      -- no member
      module _ (none : member ≡ None) where
        nowhere : position_in r k (Some s) ≡ None
        nowhere = no_position site (λ (m : Member). bytes_eq (r.name_of m) s) (sym none ∙ names)

        pub unnamed_found : (new : Linter) (end : ℕ) → PassesUnder h r depth at s old new end → VisitsEntry h r site depth name at old new end
        unnamed_found new end passes i key key_at x e v =
            let p = passes x e v in
            let path = path_of old in (
              p.0,
              subst (Adds old new)
                  (sym (named_is i key key_at x e v path
                  ∙ ap (named r k depth path s x (found_in x)) nowhere
                  ∙ ap (λ m. unnamed r depth (path ++ to_key s ∷ []) m x) (mark_by r k s kind nowhere))) p.1,
            )

        pub unnamed_variant : IsVariantEntry h r k depth name at (not (bytes_eq s (codes "__type")))
        unnamed_variant key key_at x e v = sym (marks_only key key_at x e v ∙ ap not (mark_by r k s kind nowhere))

      -- a member
      module _ (inner : Site) (some : member ≡ Some inner) where
        place : (n : ℕ) × (m : Member) × (position_in r k (Some s) ≡ Some n) × (slice_get (members_of k) n ≡ Some m) × (inner ≡ site_of_member site.table n m)
        place = at_position site inner (position_in r k (Some s)) (sym some ∙ names)

        pub is_member : IsMemberSite inner
        is_member = (place.0, ap (λ (s : Site). s.view.index) place.4)

        pub member_found : (new : Linter) (end : ℕ) → VisitsMember h r inner depth at old new end → VisitsEntry h r site depth name at old new end
        member_found new end visits i key key_at x e v =
            let n = place.0 in
            let m = place.1 in
            let p = visits n (ap (λ (s : Site). s.view.index) place.4) x e v in
            let path = path_of old in
            let same : named r k depth path s x (found_in x) (position_in r k (Some s)) ≡ findings r inner.table inner.place depth (path ++ to_member n ∷ []) x =
            rw (place.2, placed_by k n m kind place.3) (ap (λ (u : Site). findings r u.table u.place depth (path ++ to_member n ∷ []) x) (sym place.4)) in
            (p.0, subst (Adds old new) (sym (named_is i key key_at x e v path ∙ same)) p.1)

        pub member_variant : IsVariantEntry h r k depth name at true
        member_variant key key_at x e v = sym (marks_only key key_at x e v ∙ ap not (member_is_no_mark r k s place.0 place.2))
