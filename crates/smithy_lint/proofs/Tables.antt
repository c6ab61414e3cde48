-- What a walk through a container of a table has found, by what came so far.
use Rattle.std.specs.Prelude.{◌≡◌, ◌+◌, ◌||◌, not, ℕ, suc, List, [], ◌∷◌, ◌++◌, Bool, true, false, Some, None, option_map, refl, if◌then◌else◌}
use Rattle.std.proofs.Common.{sym, ◌∙◌, ap, arith, subst, append_assoc}
use Rattle.smithy_declarations.specs.declared.place.Place.{Place}
use Rattle.smithy_declarations.specs.Table.{Table, Kind, scalar, document, nothing, list_of, map_of, structure_of, union_of, kind_of, place_in, type_of, scalar_type, where_document, list_shape_of, map_shape_of, is_sparse, IsSparse, HasMembers}
use Rattle.smithy_declarations.specs.declared.shape_type.Scalar.{Scalar}
use Rattle.smithy_declarations.specs.declared.shape_type.Scalar.TheVariants as scalars
use Rattle.smithy_declarations.specs.declared.shape_type.ShapeType.TheVariants as types
use Rattle.smithy_wire.specs.Meaning.{is_in}
use Rattle.std.specs.Option.{option_or}
use Rattle.smithy_shapes.specs.Site.{Site, kind_at, site_of_element, site_of_value, inner_site}
use Rattle.smithy_lint.specs.declared.body.Beginning.TheVariants as begun
use Rattle.smithy_wire.specs.declared.walk.Mark.{Mark}
use Rattle.smithy_wire.specs.Node.{as_array, as_object, Node, null_node, leaf, container, missing, Nodes, no_nodes, node, is_null}
use Rattle.smithy_wire.specs.Rules.{Rules, is_absent, is_mark}
use Rattle.smithy_compare.specs.Tree.{Step, element as to_element, key as to_key}
use Rattle.smithy_lint.specs.Findings.{Found, one, within, leaf_findings, findings_as_document, collected, child_findings, union_findings, variants, findings, entry_findings}
use Rattle.smithy_lint.specs.declared.finding.Kind.TheVariants.{Mismatch, Null}
use Rattle.smithy_lint.specs.Private.Bodies.{Holding, Begins, HasValue, GoesOnAs, GoesOn, IsKeyText}
use Rattle.smithy_lint.specs.Private.Walks.{path_of, found_of, Adds, PassesWith, VisitsCollected, VisitsEntries, VisitsEntry, IsVariantEntry, IsContainerOf, HalfEntries, HalfMap, HalfMembers}
use Rattle.smithy_lint.specs.declared.body.Next.TheVariants.{Entry, End}
use Rattle.smithy_lint.specs.declared.linter.Linter.{Linter}
use Rattle.smithy_lint.proofs.Docs.{append_nil, null_only}

-- ---- one child, between a step and the step back

module _ {L : Type 0} (h : Holding L) (depth c : ℕ) (path : List Step) (s : Step) (old mid after last : Linter) (each : List Step → Node L → List Found)
    (entered : path_of mid ≡ path_of old ++ s ∷ []) (kept_found : found_of mid ≡ found_of old) (same : path_of old ≡ path) (end : ℕ)
    (visits : (x : Node L) (e : ℕ) → h.value depth x c e → (end ≡ e) × Adds mid after (each (path_of mid) x))
    (left : (path : List Step) (s : Step) → path_of after ≡ path ++ s ∷ [] → path_of last ≡ path) (told_same : found_of last ≡ found_of after) where
  inside : path_of mid ≡ path ++ s ∷ []
  inside = entered ∙ ap (λ p. p ++ s ∷ []) same

  pub child_path : HasValue h depth c → path_of last ≡ path
  child_path there = left path s ((visits there.0 there.1 there.2).1.0 ∙ inside)

  pub child_visited : (x : Node L) (e : ℕ) → h.value depth x c e → (end ≡ e) × (found_of last ≡ found_of old ++ each (path ++ s ∷ []) x)
  child_visited x e v =
      let p = visits x e v in
      (p.0, told_same ∙ p.1.1 ∙ ap (λ u. u ++ each (path_of mid) x) kept_found ∙ ap (λ q. found_of old ++ each q x) inside)

-- ---- elements of a list

-- where the kind is that of a list, its elements have a place, and what is found in one is what is found there
pub list_child : {L : Type 0} (r : Rules L) (t : Table) (k : Kind) → IsContainerOf k true → (depth : ℕ) (path : List Step) (i : ℕ) (x : Node L) (found : Place → List Step → List Found)
    → (q : Place) × (place_in k None ≡ Some q) × (child_findings r t k depth path i None x found ≡ collected t k (is_null x) (path ++ to_element i ∷ []) found q)
list_child r t (list_of l) is depth path i x found = (l.place, refl, refl)
list_child r t _ is depth path i x found = absurd is

-- the place of a list's elements
pub list_place : (k : Kind) → IsContainerOf k true → (q : Place) × (place_in k None ≡ Some q)
list_place (list_of l) is = (l.place, refl)
list_place _ is = absurd is

module _ {L : Type 0} (h : Holding L) (r : Rules L) (site : Site) (depth at : ℕ) (m : Mark) where
  abbrev child : List Step → ℕ → Node L → List Found
  child path i x = child_findings r site.table (kind_at site) depth path i None x (λ q inner. findings r site.table q depth inner x)

  abbrev rest_found : List Step → ℕ → Nodes L → List Found
  rest_found path i xs = entry_findings r site.table site.place as_array depth path i xs

  element_apart : (path : List Step) (i now : ℕ) (n : Mark) (ys : Nodes L) (e k c : ℕ) (o : Mark) → GoesOnAs h as_array depth ys now n e (Entry k c o)
      → (x : Node L) × (zs : Nodes L) × (g : ℕ) × (rest_found path i ys ≡ child path i x ++ rest_found path (suc i) zs) × h.value depth x c g × h.rest as_array depth zs g o e
  element_apart path i now n no_nodes e k c o goes = cc
  element_apart path i now n (node name x zs) e k c o goes =
      let same = goes.4 in
      let at : goes.1 ≡ c = cc in
      let mark : goes.2 ≡ o = cc in (
        x,
        zs,
        goes.3,
        refl,
        subst (λ j. h.value depth x j goes.3) at goes.6,
        subst (λ j. h.rest as_array depth zs goes.3 j e) mark goes.7,
      )

  elements_end : (path : List Step) (i now : ℕ) (n : Mark) (ys : Nodes L) (e end : ℕ) → GoesOnAs h as_array depth ys now n e (End end) → (end ≡ e) × (rest_found path i ys ≡ [])
  elements_end path i now n no_nodes e end goes = (cc, refl)
  elements_end path i now n (node name x zs) e end goes = let same = goes.4 in cc

  pub half_elements_step : (path : List Step) (before : List Found) (i now : ℕ) (n : Mark) (found : List Found)
      → HalfEntries h r site.table site.place as_array depth at m path before i now n found
      → (k c : ℕ) (o : Mark) → GoesOn h as_array depth now n (Entry k c o) → IsContainerOf (kind_at site) true → (end : ℕ) (more : List Found)
      → ((q : Place) → place_in (kind_at site) None ≡ Some q → (x : Node L) (e : ℕ) → h.value depth x c e
      → (end ≡ e) × (more ≡ found ++ collected site.table (kind_at site) (is_null x) (path ++ to_element i ∷ []) (λ p inner. findings r site.table p depth inner x) q))
      → (next : ℕ) → suc i ≡ next → HalfEntries h r site.table site.place as_array depth at m path before next end o more
  half_elements_step path before i now n found half k c o goes list end more visits next is xs e rest =
      let so_far = half xs e rest in
      let one = element_apart path i now n so_far.0 e k c o (goes so_far.0 e so_far.1) in
      let x = one.0 in
      let zs = one.1 in
      let of = list_child r site.table (kind_at site) list depth path i x (λ p inner. findings r site.table p depth inner x) in
      let visited = visits of.0 of.1 x one.2 one.4 in
      let here : more ≡ found ++ child path i x = visited.1 ∙ ap (λ u. found ++ u) (sym of.2) in (
        zs,
        subst (λ j. h.rest as_array depth zs j o e) (sym visited.0) one.5,
        ap (λ u. u ++ rest_found path next zs) here ∙ ap (λ j. (found ++ child path i x) ++ rest_found path j zs) (sym is)
            ∙ append_assoc found (child path i x) (rest_found path (suc i) zs) ∙ ap (λ u. found ++ u) (sym one.3) ∙ so_far.2,
      )

  pub half_elements_end : (old new : Linter) (i now : ℕ) (n : Mark) → HalfEntries h r site.table site.place as_array depth at m (path_of old) (found_of old) i now n (found_of new)
      → path_of new ≡ path_of old → (end : ℕ) → GoesOn h as_array depth now n (End end) → VisitsEntries h r site.table site.place as_array depth at m old new end
  half_elements_end old new i now n half same end goes xs e rest =
      let so_far = half xs e rest in
      let last = elements_end (path_of old) i now n so_far.0 e end (goes so_far.0 e so_far.1) in
      (last.0, (same, sym (append_nil (found_of new)) ∙ ap (λ u. found_of new ++ u) (sym last.1) ∙ so_far.2))

-- ---- objects, before any entry came

pub half_map_begins : {L : Type 0} (h : Holding L) (r : Rules L) (t : Table) (p : Place) (depth at : ℕ) (m : Mark) (path : List Step) (before : List Found)
    → HalfMap h r t p depth at m path before at m before
half_map_begins h r t p depth at m path before xs e rest = (0, xs, rest, refl)

pub half_members_begin : {L : Type 0} (h : Holding L) (r : Rules L) (t : Table) (p : Place) (depth at : ℕ) (m : Mark) (path : List Step) (before : List Found)
    → HalfMembers h r t p depth at m path before 0 at m before
half_members_begin h r t p depth at m path before xs e rest = (0, xs, rest, refl, omega arith)

-- ---- where a document is due

no_scalar : (s : Scalar) → types.Document ≡ scalar_type s → ⊥
no_scalar scalars.Boolean h = cc
no_scalar scalars.Byte h = cc
no_scalar scalars.Short h = cc
no_scalar scalars.Integer h = cc
no_scalar scalars.Long h = cc
no_scalar scalars.String h = cc
no_scalar scalars.Blob h = cc
no_scalar scalars.Timestamp h = cc
no_scalar scalars.BigInteger h = cc
no_scalar scalars.BigDecimal h = cc

pub document_kind : (k : Kind) → Some types.Document ≡ type_of k → k ≡ document
document_kind document h = refl
document_kind (scalar s) h = absurd (no_scalar s (let e : types.Document ≡ scalar_type s = cc in e))
document_kind (structure_of ms) h = cc
document_kind (union_of ms) h = cc
document_kind (list_of l) h = cc
document_kind (map_of m) h = cc
document_kind nothing h = cc

pub as_placed : {L : Type 0} (r : Rules L) (t : Table) (p : Place) (depth : ℕ) (path : List Step) (x : Node L) → kind_of t p ≡ document → (x ≡ missing → ⊥)
    → findings_as_document r r.documents depth path x ≡ findings r t p depth path x
as_placed r t p depth path null_node is there =
    sym (ap (λ k. where_document k (findings_as_document r r.documents depth path null_node) (one path Mismatch)) is)
as_placed r t p depth path (leaf x) is there =
    sym (ap (λ k. where_document k (findings_as_document r r.documents depth path (leaf x)) (leaf_findings r k p.time path x)) is)
as_placed r t p depth path (container f xs) is there =
    sym (ap (λ k. where_document k (findings_as_document r r.documents depth path (container f xs))
    (if is_in k f then within r (suc depth) path (entry_findings r t p f (suc depth) path 0 xs ++ union_findings k path (variants r k f xs)) else one path Mismatch)) is)
as_placed r t p depth path missing is there = absurd (there refl)

-- ---- entries of a map

pub map_place : (k : Kind) → IsContainerOf k false → (HasMembers k → ⊥) → (q : Place) × (place_in k None ≡ Some q)
map_place (map_of m) is no_members = (m.place, refl)
map_place (structure_of ms) is no_members = absurd (no_members tt)
map_place (union_of ms) is no_members = absurd (no_members tt)
map_place _ is no_members = absurd is

pub map_child : {L : Type 0} (r : Rules L) (t : Table) (k : Kind) → IsContainerOf k false → (HasMembers k → ⊥) → (depth : ℕ) (path : List Step) (i : ℕ) (s : List ℕ) (x : Node L) (found : Place → List Step → List Found)
    → (q : Place) → place_in k None ≡ Some q
    → child_findings r t k depth path i (Some s) x found ≡ collected t k (is_null x) (path ++ to_key s ∷ []) found q
map_child r t (map_of m) is no_members depth path i s x found q place =
    let same : m.place ≡ q = cc in ap (collected t (map_of m) (is_null x) (path ++ to_key s ∷ []) found) same
map_child r t (structure_of ms) is no_members depth path i s x found q place = absurd (no_members tt)
map_child r t (union_of ms) is no_members depth path i s x found q place = absurd (no_members tt)
map_child r t _ is no_members depth path i s x found q place = absurd is

pub map_entry_found : {L : Type 0} (h : Holding L) (r : Rules L) (site : Site) (depth name at : ℕ) (old last : Linter) (end : ℕ) (s : List ℕ)
    → IsContainerOf (kind_at site) false → (HasMembers (kind_at site) → ⊥) → IsKeyText h r name (Some s) → (q : Place) → place_in (kind_at site) None ≡ Some q
    → path_of last ≡ path_of old
    → ((x : Node L) (e : ℕ) → h.value depth x at e
    → (end ≡ e) × (found_of last ≡ found_of old ++ collected site.table (kind_at site) (is_null x) (path_of old ++ to_key s ∷ []) (λ p inner. findings r site.table p depth inner x) q))
    → VisitsEntry h r site depth name at old last end
map_entry_found h r site depth name at old last end s is no_members text q place same visits i k key_at x e v =
    let p = visits x e v in
    let found : Place → List Step → List Found = λ p inner. findings r site.table p depth inner x in (
      p.0,
      (
        same,
        p.1 ∙ ap (λ u. found_of old ++ u)
            (sym (map_child r site.table (kind_at site) is no_members depth (path_of old) i s x found q place)
            ∙ ap (λ o. child_findings r site.table (kind_at site) depth (path_of old) i o x found) (sym (text k key_at))),
      ),
    )

module _ {L : Type 0} (h : Holding L) (r : Rules L) (site : Site) (depth at : ℕ) (m : Mark) where
  abbrev entry_found : List Step → ℕ → L → Node L → List Found
  entry_found path i k x = child_findings r site.table (kind_at site) depth path i (r.text_of k) x (λ q inner. findings r site.table q depth inner x)

  abbrev rest_of : List Step → ℕ → Nodes L → List Found
  rest_of path i xs = entry_findings r site.table site.place as_object depth path i xs

  entry_apart : (path : List Step) (i now : ℕ) (n : Mark) (ys : Nodes L) (e k c : ℕ) (o : Mark) → GoesOnAs h as_object depth ys now n e (Entry k c o)
      → (name : L) × (x : Node L) × (zs : Nodes L) × (g : ℕ) × (rest_of path i ys ≡ entry_found path i name x ++ rest_of path (suc i) zs)
      × h.key name k × h.value depth x c g × h.rest as_object depth zs g o e
      × (variants r (kind_at site) as_object ys
      ≡ (if is_absent r (kind_at site) (r.text_of name) x || is_mark r (kind_at site) (r.text_of name) then variants r (kind_at site) as_object zs else suc (variants r (kind_at site) as_object zs)))
  entry_apart path i now n no_nodes e k c o goes = cc
  entry_apart path i now n (node None x zs) e k c o goes = absurd goes.5
  entry_apart path i now n (node (Some name) x zs) e k c o goes =
      let same = goes.4 in
      let key_at : goes.0 ≡ k = cc in
      let at : goes.1 ≡ c = cc in
      let mark : goes.2 ≡ o = cc in (
        name,
        x,
        zs,
        goes.3,
        refl,
        subst (λ j. h.key name j) key_at goes.5,
        subst (λ j. h.value depth x j goes.3) at goes.6,
        subst (λ j. h.rest as_object depth zs goes.3 j e) mark goes.7,
        refl,
      )

  pub half_map_step : (path : List Step) (before : List Found) (now : ℕ) (n : Mark) (old new : Linter)
      → HalfMap h r site.table site.place depth at m path before now n (found_of old) → path_of old ≡ path
      → (k c : ℕ) (o : Mark) → GoesOn h as_object depth now n (Entry k c o) → (end : ℕ) → VisitsEntry h r site depth k c old new end
      → HalfMap h r site.table site.place depth at m path before end o (found_of new)
  half_map_step path before now n old new half same k c o goes end visits xs e rest =
      let so_far = half xs e rest in
      let i = so_far.0 in
      let one = entry_apart path i now n so_far.1 e k c o (goes so_far.1 e so_far.2) in
      let name = one.0 in
      let x = one.1 in
      let zs = one.2 in
      let visited = visits i name one.5 x one.3 one.6 in
      let here : found_of new ≡ found_of old ++ entry_found path i name x = visited.1.1 ∙ ap (λ q. found_of old ++ entry_found q i name x) same in (
        suc i,
        zs,
        subst (λ j. h.rest as_object depth zs j o e) (sym visited.0) one.7,
        ap (λ u. u ++ rest_of path (suc i) zs) here ∙ append_assoc (found_of old) (entry_found path i name x) (rest_of path (suc i) zs)
            ∙ ap (λ u. found_of old ++ u) (sym one.4) ∙ so_far.3,
      )

  count_step : (b counts : Bool) (came next v : ℕ) → counts ≡ not b → next ≡ (if counts then suc came else came) → next + v ≡ came + (if b then v else suc v)
  count_step true counts came next v is now = let e : next ≡ came = now ∙ ap (λ u. if u then suc came else came) is in omega (arith, e)
  count_step false counts came next v is now = let e : next ≡ suc came = now ∙ ap (λ u. if u then suc came else came) is in omega (arith, e)

  pub half_members_step : (path : List Step) (before : List Found) (came now : ℕ) (n : Mark) (old new : Linter)
      → HalfMembers h r site.table site.place depth at m path before came now n (found_of old) → path_of old ≡ path
      → (k c : ℕ) (o : Mark) → GoesOn h as_object depth now n (Entry k c o) → (end : ℕ) → VisitsEntry h r site depth k c old new end
      → (counts : Bool) → IsVariantEntry h r (kind_at site) depth k c counts → (next : ℕ) → next ≡ (if counts then suc came else came)
      → HalfMembers h r site.table site.place depth at m path before next end o (found_of new)
  half_members_step path before came now n old new half same k c o goes end visits counts variant next is xs e rest =
      let so_far = half xs e rest in
      let i = so_far.0 in
      let one = entry_apart path i now n so_far.1 e k c o (goes so_far.1 e so_far.2) in
      let name = one.0 in
      let x = one.1 in
      let zs = one.2 in
      let visited = visits i name one.5 x one.3 one.6 in
      let here : found_of new ≡ found_of old ++ entry_found path i name x = visited.1.1 ∙ ap (λ q. found_of old ++ entry_found q i name x) same in
      let dropped = is_absent r (kind_at site) (r.text_of name) x || is_mark r (kind_at site) (r.text_of name) in (
        suc i,
        zs,
        subst (λ j. h.rest as_object depth zs j o e) (sym visited.0) one.7,
        ap (λ u. u ++ rest_of path (suc i) zs) here ∙ append_assoc (found_of old) (entry_found path i name x) (rest_of path (suc i) zs)
            ∙ ap (λ u. found_of old ++ u) (sym one.4) ∙ so_far.3,
        count_step dropped counts came next (variants r (kind_at site) as_object zs) (variant name one.5 x one.3 one.6) is ∙ ap (λ v. came + v) (sym one.8) ∙ so_far.4,
      )

pub counted_one : (b : Bool) (n next : ℕ) → b ≡ true → next ≡ suc n → next ≡ (if b then suc n else n)
counted_one true n next is h = h
counted_one false n next is h = cc

pub counted_none : (b : Bool) (n : ℕ) → b ≡ false → n ≡ (if b then suc n else n)
counted_none true n is = cc
counted_none false n is = refl

-- ---- a null that is a finding

not_true : (b : Bool) → (b ≡ true → ⊥) → b ≡ false
not_true true h = absurd (h refl)
not_true false h = refl

sparse_not : (k : Kind) → (IsSparse k → ⊥) → is_sparse k ≡ false
sparse_not (list_of l) h = not_true l.is_sparse h
sparse_not (map_of m) h = not_true m.is_sparse h
sparse_not document h = refl
sparse_not (scalar s) h = refl
sparse_not (structure_of ms) h = refl
sparse_not (union_of ms) h = refl
sparse_not nothing h = refl

no_document : (k : Kind) (found other : List Found) → (k ≡ document → ⊥) → where_document k found other ≡ other
no_document document found other h = absurd (h refl)
no_document (scalar s) found other h = refl
no_document (structure_of ms) found other h = refl
no_document (union_of ms) found other h = refl
no_document (list_of l) found other h = refl
no_document (map_of m) found other h = refl
no_document nothing found other h = refl

inner_place : (t : Table) (k : Kind) (s : Site) (q : Place) → Some s ≡ option_or (option_map (site_of_element t) (list_shape_of k)) (option_map (site_of_value t) (map_shape_of k))
    → place_in k None ≡ Some q → (s.table ≡ t) × (s.place ≡ q)
inner_place t (list_of l) s q is place = let same : s ≡ site_of_element t l = cc in let at : l.place ≡ q = cc in (ap (λ u. u.table) same, ap (λ u. u.place) same ∙ at)
inner_place t (map_of m) s q is place = let same : s ≡ site_of_value t m = cc in let at : m.place ≡ q = cc in (ap (λ u. u.table) same, ap (λ u. u.place) same ∙ at)
inner_place t document s q is place = cc
inner_place t (scalar x) s q is place = cc
inner_place t (structure_of ms) s q is place = cc
inner_place t (union_of ms) s q is place = cc
inner_place t nothing s q is place = cc

pub null_found : {L : Type 0} (h : Holding L) (r : Rules L) (site s : Site) (depth at : ℕ) (old new : Linter) (b end : ℕ)
    → Begins h at (begun.Null b) → (IsSparse (kind_at site) → ⊥) → Some s ≡ inner_site site → (kind_at s ≡ document → ⊥)
    → PassesWith h depth at Null old new end → VisitsCollected h r site depth at old new end
null_found h r site s depth at old new b end begins sparse inner other passes q place x e v =
    let p = passes x e v in
    let is = (null_only h depth x e b (begins depth x e v)).0 in
    let there = inner_place site.table (kind_at site) s q inner place in
    let path = path_of old in
    let each : Place → List Step → List Found = λ p inner. findings r site.table p depth inner x in
    let not_document : kind_of site.table q ≡ document → ⊥ = λ d. other (subst (λ (u : Table × Place). kind_of u.0 u.1 ≡ document) (λ j. (sym there.0 j, sym there.1 j)) d) in
    let found : collected site.table (kind_at site) true path each q ≡ one path Null =
    ap (λ b. if b then [] else where_document (kind_of site.table q) (each q path) (one path Null)) (sparse_not (kind_at site) sparse)
    ∙ no_document (kind_of site.table q) (each q path) (one path Null) not_document in
    (p.0, subst (Adds old new) (sym (ap (λ y. collected site.table (kind_at site) (is_null y) path each q) is ∙ found)) p.1)
