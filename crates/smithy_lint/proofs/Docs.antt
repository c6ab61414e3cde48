-- What a walk through documents has found, by how a node begins and by what came so far.
use Rattle.std.specs.Prelude.{◌≡◌, ◌≤◌, ◌<◌, ℕ, suc, List, [], ◌∷◌, ◌++◌, true, false, Option, Some, None, is_some, Result, Ok, Err, IfOk, if◌then◌else◌, refl}
use Rattle.std.proofs.Common.{sym, ◌∙◌, ap, arith, subst, append_assoc}
use Rattle.std.proofs.lemmas.Bool.Decides.{nat_tests}
use Rattle.smithy_types.specs.Document.{Document}
use Rattle.smithy_types.specs.declared.number.Number.{Number}
use Rattle.smithy_shapes.specs.Limits.{Limits, kept, lifted, is_within}
use Rattle.smithy_wire.specs.declared.walk.Mark.{Mark}
use Rattle.smithy_wire.specs.Node.{Form, as_array, as_object, Node, null_node, leaf, container, missing, Nodes, no_nodes, node}
use Rattle.smithy_wire.specs.Rules.{Answer, means, no_meaning, wide, uncarried, Rules, is_shallow}
use Rattle.smithy_compare.specs.Tree.{Step, element as to_element, key as to_key}
use Rattle.smithy_lint.specs.Findings.{Found, one, told_by, under, document_findings, item_findings, property_findings, findings_as_document}
use Rattle.smithy_lint.specs.Private.Bodies.{Holding, HasValue, HasRest, HasKey, BeginsAs, Begins, GoesOnAs, GoesOn, IsKeyText, verdict, IsDocumentVerdict, Ends}
use Rattle.smithy_lint.specs.Private.Walks.{path_of, found_of, Adds, told, PassesWith, VisitsDocument, VisitsItems, VisitsProperties, VisitsProperty, HalfItems, HalfProperties}
use Rattle.smithy_lint.specs.declared.body.Beginning.{Beginning}
use Rattle.smithy_lint.specs.declared.body.Beginning.TheVariants as begun
use Rattle.smithy_lint.specs.declared.body.Next.TheVariants.{Entry, End}
use Rattle.smithy_lint.specs.declared.finding.Kind.{Kind}
use Rattle.smithy_lint.specs.declared.finding.Kind.TheVariants.{NotCarried, Deep, Key}
use Rattle.smithy_lint.specs.declared.linter.Linter.{Linter}

pub map_ok : {A E : Type 0} {P Q : A → Type 0} (r : Result A E) → ((x : A) → P x → Q x) → IfOk r P → IfOk r Q
map_ok (Ok x) f h = f x h
map_ok (Err e) f h = tt

-- ---- how a node begins

pub null_only : {L : Type 0} (h : Holding L) (d : ℕ) (x : Node L) (e end : ℕ) → BeginsAs h d x e (begun.Null end) → (x ≡ null_node) × (end ≡ e)
null_only h d null_node e end b = (refl, cc)
null_only h d (leaf x) e end b = cc
null_only h d (container as_array xs) e end b = let k = b.2 in cc
null_only h d (container as_object xs) e end b = let k = b.2 in cc
null_only h d missing e end b = absurd b

pub scalar_only : {L : Type 0} (h : Holding L) (d : ℕ) (x : Node L) (e : ℕ) → BeginsAs h d x e begun.Scalar → (y : L) × (x ≡ leaf y)
scalar_only h d null_node e b = cc
scalar_only h d (leaf x) e b = (x, refl)
scalar_only h d (container as_array xs) e b = let k = b.2 in cc
scalar_only h d (container as_object xs) e b = let k = b.2 in cc
scalar_only h d missing e b = absurd b

pub array_only : {L : Type 0} (h : Holding L) (d : ℕ) (x : Node L) (e inside : ℕ) (m : Mark) → BeginsAs h d x e (begun.Array inside m)
    → (xs : Nodes L) × (x ≡ container as_array xs) × h.rest as_array (suc d) xs inside m e
array_only h d null_node e inside m b = cc
array_only h d (leaf x) e inside m b = cc
array_only h d (container as_array xs) e inside m b =
    let k = b.2 in
    let i : b.0 ≡ inside = cc in
    let n : b.1 ≡ m = cc in
    (xs, refl, subst (λ (p : ℕ × Mark). h.rest as_array (suc d) xs p.0 p.1 e) (λ j. (i j, n j)) b.3)
array_only h d (container as_object xs) e inside m b = let k = b.2 in cc
array_only h d missing e inside m b = absurd b

pub object_only : {L : Type 0} (h : Holding L) (d : ℕ) (x : Node L) (e inside : ℕ) (m : Mark) → BeginsAs h d x e (begun.Object inside m)
    → (xs : Nodes L) × (x ≡ container as_object xs) × h.rest as_object (suc d) xs inside m e
object_only h d null_node e inside m b = cc
object_only h d (leaf x) e inside m b = cc
object_only h d (container as_array xs) e inside m b = let k = b.2 in cc
object_only h d (container as_object xs) e inside m b =
    let k = b.2 in
    let i : b.0 ≡ inside = cc in
    let n : b.1 ≡ m = cc in
    (xs, refl, subst (λ (p : ℕ × Mark). h.rest as_object (suc d) xs p.0 p.1 e) (λ j. (i j, n j)) b.3)
object_only h d missing e inside m b = absurd b

-- ---- depth

shallow_by : (limits : Limits) (most d : ℕ) → limits ≡ kept → most ≡ 128 → d < 128 → is_within limits most (suc d) ≡ true
shallow_by lifted most d keeps is low = cc
shallow_by kept most d keeps is low = rw is (grind (arith, nat_tests))

deep_by : (limits : Limits) (most d : ℕ) → limits ≡ kept → most ≡ 128 → 128 ≤ d → is_within limits most (suc d) ≡ false
deep_by lifted most d keeps is high = cc
deep_by kept most d keeps is high = rw is (grind (arith, nat_tests))

-- ---- what is found

as_none : {L : Type 0} (r : Rules L) (o : Option (L → Answer (Document Number))) (d : ℕ) (path : List Step) (x : Node L) → is_some o ≡ false
    → one path NotCarried ≡ findings_as_document r o d path x
as_none r None d path x h = refl
as_none r (Some says) d path x h = cc

as_deep : {L : Type 0} (h : Holding L) (r : Rules L) (o : Option (L → Answer (Document Number))) (d e : ℕ) (b : Beginning) (path : List Step) (x : Node L)
    → is_some o ≡ true → BeginsAs h d x e b → is_shallow r (suc d) ≡ false → one path Deep ≡ findings_as_document r o d path x
as_deep h r None d e b path x some begins deep = cc
as_deep h r (Some says) d e b path null_node some begins deep = sym (ap (λ s. if s then [] else one path Deep) deep)
as_deep h r (Some says) d e b path (leaf x) some begins deep = sym (ap (λ s. if s then told_by path (says x) else one path Deep) deep)
as_deep h r (Some says) d e b path (container as_array xs) some begins deep =
    sym (ap (λ s. if s then item_findings r says (suc d) path 0 xs else one path Deep) deep)
as_deep h r (Some says) d e b path (container as_object xs) some begins deep =
    sym (ap (λ s. if s then property_findings r says (suc d) path xs else one path Deep) deep)
as_deep h r (Some says) d e b path missing some begins deep = absurd begins

told_verdict : {A : Type 0} (path : List Step) (a : Answer A) → told path (verdict a) ≡ told_by path a
told_verdict path (means v) = refl
told_verdict path no_meaning = refl
told_verdict path wide = refl
told_verdict path uncarried = refl

-- ---- the arms of a walk through a document

module _ {L : Type 0} (h : Holding L) (r : Rules L) (limits : (r.limits ≡ kept) × (r.max_depth ≡ 128)) (depth at : ℕ) (old new : Linter) where
  pub not_carried : is_some r.documents ≡ false → (end : ℕ) → PassesWith h depth at NotCarried old new end → VisitsDocument h r depth at old new end
  not_carried none end passes x e v =
      let p = passes x e v in
      (p.0, subst (Adds old new) (as_none r r.documents depth (path_of old) x none) p.1)

  pub too_deep : is_some r.documents ≡ true → 128 ≤ depth → (b : Beginning) → Begins h at b → (end : ℕ) → PassesWith h depth at Deep old new end
      → VisitsDocument h r depth at old new end
  too_deep some high b begins end passes x e v =
      let p = passes x e v in (
        p.0,
        subst (Adds old new)
            (as_deep h r r.documents depth e b (path_of old) x some (begins depth x e v) (deep_by r.limits r.max_depth depth limits.0 limits.1 high)) p.1,
      )

-- ---- items, one after another

-- before any came
pub half_begins : {L : Type 0} (h : Holding L) (r : Rules L) (depth at : ℕ) (m : Mark) (path : List Step) (before : List Found)
    → HalfItems h r depth at m path before 0 at m before
half_begins h r depth at m path before says is xs e rest = (xs, rest, refl)

-- behind one more
step_apart : {L : Type 0} (h : Holding L) (r : Rules L) (says : L → Answer (Document Number)) (depth : ℕ) (path : List Step) (i now : ℕ) (n : Mark) (ys : Nodes L) (e k c : ℕ) (o : Mark)
    → GoesOnAs h as_array depth ys now n e (Entry k c o)
    → (x : Node L) × (zs : Nodes L) × (g : ℕ) × (item_findings r says depth path i ys ≡ document_findings r says depth (path ++ to_element i ∷ []) x ++ item_findings r says depth path (suc i) zs)
    × h.value depth x c g × h.rest as_array depth zs g o e
step_apart h r says depth path i now n no_nodes e k c o goes = cc
step_apart h r says depth path i now n (node name x zs) e k c o goes =
    let same = goes.4 in
    let at : goes.1 ≡ c = cc in
    let mark : goes.2 ≡ o = cc in (
      x,
      zs,
      goes.3,
      refl,
      subst (λ j. h.value depth x j goes.3) at goes.6,
      subst (λ j. h.rest as_array depth zs goes.3 j e) mark goes.7,
    )

documents_some : {L : Type 0} (r : Rules L) (o : Option (L → Answer (Document Number))) (says : L → Answer (Document Number)) (d : ℕ) (path : List Step) (x : Node L)
    → o ≡ Some says → findings_as_document r o d path x ≡ document_findings r says d path x
documents_some r o says d path x is = rw is refl

pub half_steps : {L : Type 0} (h : Holding L) (r : Rules L) (depth at : ℕ) (m : Mark) (path : List Step) (before : List Found) (i now : ℕ) (n : Mark) (found : List Found)
    → HalfItems h r depth at m path before i now n found
    → (k c : ℕ) (o : Mark) → GoesOn h as_array depth now n (Entry k c o)
    → (end : ℕ) (more : List Found)
    → ((x : Node L) (e : ℕ) → h.value depth x c e → (end ≡ e) × (more ≡ found ++ findings_as_document r r.documents depth (path ++ to_element i ∷ []) x))
    → HalfItems h r depth at m path before (suc i) end o more
half_steps h r depth at m path before i now n found half k c o goes end more visits says is xs e rest =
    let so_far = half says is xs e rest in
    let ys = so_far.0 in
    let one = step_apart h r says depth path i now n ys e k c o (goes ys e so_far.1) in
    let x = one.0 in
    let zs = one.1 in
    let visited = visits x one.2 one.4 in
    let inside = path ++ to_element i ∷ [] in
    let here : more ≡ found ++ document_findings r says depth inside x =
    visited.1 ∙ ap (λ u. found ++ u) (documents_some r r.documents says depth inside x is) in (
      zs,
      subst (λ j. h.rest as_array depth zs j o e) (sym visited.0) one.5,
      ap (λ u. u ++ item_findings r says depth path (suc i) zs) here
          ∙ append_assoc found (document_findings r says depth inside x) (item_findings r says depth path (suc i) zs)
          ∙ ap (λ u. found ++ u) (sym one.3) ∙ so_far.2,
    )

pub append_nil : (xs : List Found) → xs ++ [] ≡ xs
append_nil [] = refl
append_nil (x ∷ xs) = ap (λ t. x ∷ t) (append_nil xs)

ends_apart : {L : Type 0} (h : Holding L) (r : Rules L) (says : L → Answer (Document Number)) (depth : ℕ) (path : List Step) (i now : ℕ) (n : Mark) (ys : Nodes L) (e end : ℕ)
    → GoesOnAs h as_array depth ys now n e (End end) → (end ≡ e) × (item_findings r says depth path i ys ≡ [])
ends_apart h r says depth path i now n no_nodes e end goes = (cc, refl)
ends_apart h r says depth path i now n (node name x zs) e end goes = let same = goes.4 in cc

-- at the end
pub half_ends : {L : Type 0} (h : Holding L) (r : Rules L) (depth at : ℕ) (m : Mark) (old new : Linter) (i now : ℕ) (n : Mark)
    → HalfItems h r depth at m (path_of old) (found_of old) i now n (found_of new) → path_of new ≡ path_of old
    → (end : ℕ) → GoesOn h as_array depth now n (End end)
    → VisitsItems h r depth at m old new end
half_ends h r depth at m old new i now n half same end goes says is xs e rest =
    let so_far = half says is xs e rest in
    let last = ends_apart h r says depth (path_of old) i now n so_far.0 e end (goes so_far.0 e so_far.1) in
    (last.0, (same, sym (append_nil (found_of new)) ∙ ap (λ u. found_of new ++ u) (sym last.1) ∙ so_far.2))

-- ---- what lies where an entry comes

pub item_there : {L : Type 0} (h : Holding L) (f : Form) (depth now : ℕ) (n : Mark) (k c : ℕ) (o : Mark) → HasRest h f depth now n → GoesOn h f depth now n (Entry k c o)
    → HasValue h depth c
item_there {L = L} h f depth now n k c o there goes = by there.0 (goes there.0 there.1 there.2)
  where
    by : (xs : Nodes L) → GoesOnAs h f depth xs now n there.1 (Entry k c o) → HasValue h depth c
    by no_nodes goes = cc
    by (node name x zs) goes =
        let same = goes.4 in
        let at : goes.1 ≡ c = cc in
        (x, goes.3, subst (λ j. h.value depth x j goes.3) at goes.6)

pub key_there : {L : Type 0} (h : Holding L) (depth now : ℕ) (n : Mark) (k c : ℕ) (o : Mark) → HasRest h as_object depth now n → GoesOn h as_object depth now n (Entry k c o)
    → HasKey h k
key_there {L = L} h depth now n k c o there goes = by there.0 (goes there.0 there.1 there.2)
  where
    by : (xs : Nodes L) → GoesOnAs h as_object depth xs now n there.1 (Entry k c o) → HasKey h k
    by no_nodes goes = cc
    by (node None x zs) goes = absurd goes.5
    by (node (Some name) x zs) goes =
        let same = goes.4 in
        let at : goes.0 ≡ k = cc in
        (name, subst (λ j. h.key name j) at goes.5)

-- the rest lies behind the value that was gone past, and less is left
pub rest_there : {L : Type 0} (h : Holding L) (f : Form) (depth now : ℕ) (n : Mark) (k c : ℕ) (o : Mark) (end : ℕ) → HasRest h f depth now n → GoesOn h f depth now n (Entry k c o)
    → ((x : Node L) (e : ℕ) → h.value depth x c e → end ≡ e)
    → HasRest h f depth end o × (h.left end o < h.left now n)
rest_there {L = L} h f depth now n k c o end there goes ends = by there.0 (goes there.0 there.1 there.2)
  where
    by : (xs : Nodes L) → GoesOnAs h f depth xs now n there.1 (Entry k c o) → HasRest h f depth end o × (h.left end o < h.left now n)
    by no_nodes goes = cc
    by (node name x zs) goes =
        let same = goes.4 in
        let at : goes.1 ≡ c = cc in
        let mark : goes.2 ≡ o = cc in
        let is : end ≡ goes.3 = ends x goes.3 (subst (λ j. h.value depth x j goes.3) at goes.6) in (
          (zs, there.1, subst (λ (p : ℕ × Mark). h.rest f depth zs p.0 p.1 there.1) (λ j. (sym is j, mark j)) goes.7),
          subst (λ (p : ℕ × Mark). h.left p.0 p.1 < h.left now n) (λ j. (sym is j, mark j)) goes.8,
        )

-- ---- one item, between a step and the step back

module _ {L : Type 0} (h : Holding L) (r : Rules L) (depth c : ℕ) (path : List Step) (s : Step) (old mid after last : Linter)
    (there : HasValue h depth c) (entered : path_of mid ≡ path_of old ++ s ∷ []) (kept_found : found_of mid ≡ found_of old)
    (same : path_of old ≡ path) (end : ℕ) (visits : VisitsDocument h r depth c mid after end)
    (left : (path : List Step) (s : Step) → path_of after ≡ path ++ s ∷ [] → path_of last ≡ path) (told_same : found_of last ≡ found_of after) where
  inside : path_of mid ≡ path ++ s ∷ []
  inside = entered ∙ ap (λ p. p ++ s ∷ []) same

  pub item_path : path_of last ≡ path
  item_path = left path s ((visits there.0 there.1 there.2).1.0 ∙ inside)

  pub item_ends : (x : Node L) (e : ℕ) → h.value depth x c e → end ≡ e
  item_ends x e v = (visits x e v).0

  pub item_visited : (x : Node L) (e : ℕ) → h.value depth x c e
      → (end ≡ e) × (found_of last ≡ found_of old ++ findings_as_document r r.documents depth (path ++ s ∷ []) x)
  item_visited x e v =
      let p = visits x e v in (
        p.0,
        told_same ∙ p.1.1 ∙ ap (λ u. u ++ findings_as_document r r.documents depth (path_of mid) x) kept_found
            ∙ ap (λ q. found_of old ++ findings_as_document r r.documents depth q x) inside,
      )

-- ---- the other arms of a walk through a document

none_more : (l : Linter) → Adds l l []
none_more l = (refl, sym (append_nil (found_of l)))

module _ {L : Type 0} (h : Holding L) (r : Rules L) (limits : (r.limits ≡ kept) × (r.max_depth ≡ 128)) (depth at : ℕ) (some : is_some r.documents ≡ true) (low : depth < 128) where
  shallow : is_shallow r (suc depth) ≡ true
  shallow = shallow_by r.limits r.max_depth depth limits.0 limits.1 low

  as_null : (o : Option (L → Answer (Document Number))) (path : List Step) → is_some o ≡ true → [] ≡ findings_as_document r o depth path null_node
  as_null None path some = cc
  as_null (Some says) path some = sym (ap (λ s. if s then [] else one path Deep) shallow)

  pub at_null : (old : Linter) (end : ℕ) → Begins h at (begun.Null end) → VisitsDocument h r depth at old old end
  at_null old end begins x e v =
      let is = null_only h depth x e end (begins depth x e v) in
      (is.1, subst (Adds old old) (as_null r.documents (path_of old) some ∙ ap (findings_as_document r r.documents depth (path_of old)) (sym is.0)) (none_more old))

  as_leaf : (o : Option (L → Answer (Document Number))) (path : List Step) (y : L) (e : ℕ) (found : Option Kind) → is_some o ≡ true
      → IsDocumentVerdict h depth at o found → h.value depth (leaf y) at e → told path found ≡ findings_as_document r o depth path (leaf y)
  as_leaf None path y e found some says v = cc
  as_leaf (Some says) path y e found some told_of v =
      ap (told path) (told_of y e v) ∙ told_verdict path (says y) ∙ sym (ap (λ s. if s then told_by path (says y) else one path Deep) shallow)

  pub at_scalar : (old new : Linter) (found : Option Kind) (end : ℕ) → Begins h at begun.Scalar → IsDocumentVerdict h depth at r.documents found
      → Adds old new (told (path_of old) found) → Ends h depth at end → VisitsDocument h r depth at old new end
  at_scalar old new found end begins says adds ends x e v =
      let y = scalar_only h depth x e (begins depth x e v) in (
        ends x e v,
        subst (Adds old new)
            (as_leaf r.documents (path_of old) y.0 e found some says (subst (λ u. h.value depth u at e) y.1 v)
            ∙ ap (findings_as_document r r.documents depth (path_of old)) (sym y.1)) adds,
      )

  as_array' : (o : Option (L → Answer (Document Number))) (says : L → Answer (Document Number)) (path : List Step) (xs : Nodes L) → o ≡ Some says
      → item_findings r says (suc depth) path 0 xs ≡ findings_as_document r o depth path (container as_array xs)
  as_array' o says path xs is = sym (documents_some r o says depth path (container as_array xs) is ∙ ap (λ s. if s then item_findings r says (suc depth) path 0 xs else one path Deep) shallow)

  as_object' : (o : Option (L → Answer (Document Number))) (says : L → Answer (Document Number)) (path : List Step) (xs : Nodes L) → o ≡ Some says
      → property_findings r says (suc depth) path xs ≡ findings_as_document r o depth path (container as_object xs)
  as_object' o says path xs is = sym (documents_some r o says depth path (container as_object xs) is ∙ ap (λ s. if s then property_findings r says (suc depth) path xs else one path Deep) shallow)

  says_there : (o : Option (L → Answer (Document Number))) → is_some o ≡ true → (says : L → Answer (Document Number)) × (o ≡ Some says)
  says_there None some = cc
  says_there (Some says) some = (says, refl)

  pub at_array : (inner : ℕ) → inner ≡ suc depth → (old new : Linter) (inside : ℕ) (m : Mark) (end : ℕ) → Begins h at (begun.Array inside m)
      → VisitsItems h r inner inside m old new end → VisitsDocument h r depth at old new end
  at_array inner deeper old new inside m end begins visits x e v =
      let xs = array_only h depth x e inside m (begins depth x e v) in
      let says = says_there r.documents some in
      let p = visits says.0 says.1 xs.0 e (subst (λ d. h.rest as_array d xs.0 inside m e) (sym deeper) xs.2) in (
        p.0,
        subst (Adds old new)
            (ap (λ d. item_findings r says.0 d (path_of old) 0 xs.0) deeper ∙ as_array' r.documents says.0 (path_of old) xs.0 says.1
            ∙ ap (findings_as_document r r.documents depth (path_of old)) (sym xs.1)) p.1,
      )

  pub at_object : (inner : ℕ) → inner ≡ suc depth → (old new : Linter) (inside : ℕ) (m : Mark) (end : ℕ) → Begins h at (begun.Object inside m)
      → VisitsProperties h r inner inside m old new end → VisitsDocument h r depth at old new end
  at_object inner deeper old new inside m end begins visits x e v =
      let xs = object_only h depth x e inside m (begins depth x e v) in
      let says = says_there r.documents some in
      let p = visits says.0 says.1 xs.0 e (subst (λ d. h.rest as_object d xs.0 inside m e) (sym deeper) xs.2) in (
        p.0,
        subst (Adds old new)
            (ap (λ d. property_findings r says.0 d (path_of old) xs.0) deeper ∙ as_object' r.documents says.0 (path_of old) xs.0 says.1
            ∙ ap (findings_as_document r r.documents depth (path_of old)) (sym xs.1)) p.1,
      )

-- what lies inside of a container that begins
pub array_there : {L : Type 0} (h : Holding L) (inner at inside : ℕ) (m : Mark) (depth : ℕ) → inner ≡ suc depth → HasValue h depth at → Begins h at (begun.Array inside m) → HasRest h as_array inner inside m
array_there h inner at inside m depth deeper there begins =
    let xs = array_only h depth there.0 there.1 inside m (begins depth there.0 there.1 there.2) in
    (xs.0, there.1, subst (λ d. h.rest as_array d xs.0 inside m there.1) (sym deeper) xs.2)

pub object_there : {L : Type 0} (h : Holding L) (inner at inside : ℕ) (m : Mark) (depth : ℕ) → inner ≡ suc depth → HasValue h depth at → Begins h at (begun.Object inside m) → HasRest h as_object inner inside m
object_there h inner at inside m depth deeper there begins =
    let xs = object_only h depth there.0 there.1 inside m (begins depth there.0 there.1 there.2) in
    (xs.0, there.1, subst (λ d. h.rest as_object d xs.0 inside m there.1) (sym deeper) xs.2)

-- ---- properties

pub half_properties_begin : {L : Type 0} (h : Holding L) (r : Rules L) (depth at : ℕ) (m : Mark) (path : List Step) (before : List Found)
    → HalfProperties h r depth at m path before at m before
half_properties_begin h r depth at m path before says is xs e rest = (xs, rest, refl)

property_apart : {L : Type 0} (h : Holding L) (r : Rules L) (says : L → Answer (Document Number)) (depth : ℕ) (path : List Step) (now : ℕ) (n : Mark) (ys : Nodes L) (e k c : ℕ) (o : Mark)
    → GoesOnAs h as_object depth ys now n e (Entry k c o)
    → (name : L) × (x : Node L) × (zs : Nodes L) × (g : ℕ)
    × (property_findings r says depth path ys ≡ under path (r.text_of name) (λ text. document_findings r says depth (path ++ to_key text ∷ []) x) ++ property_findings r says depth path zs)
    × h.key name k × h.value depth x c g × h.rest as_object depth zs g o e
property_apart h r says depth path now n no_nodes e k c o goes = cc
property_apart h r says depth path now n (node None x zs) e k c o goes = absurd goes.5
property_apart h r says depth path now n (node (Some name) x zs) e k c o goes =
    let same = goes.4 in
    let key_at : goes.0 ≡ k = cc in
    let at : goes.1 ≡ c = cc in
    let mark : goes.2 ≡ o = cc in (
      name,
      x,
      zs,
      goes.3,
      refl,
      subst (λ j. h.key name j) key_at goes.5,
      subst (λ j. h.value depth x j goes.3) at goes.6,
      subst (λ j. h.rest as_object depth zs goes.3 j e) mark goes.7,
    )

pub half_properties_step : {L : Type 0} (h : Holding L) (r : Rules L) (depth at : ℕ) (m : Mark) (path : List Step) (before : List Found) (now : ℕ) (n : Mark) (old new : Linter)
    → HalfProperties h r depth at m path before now n (found_of old) → path_of old ≡ path
    → (k c : ℕ) (o : Mark) → GoesOn h as_object depth now n (Entry k c o) → (end : ℕ) → VisitsProperty h r depth k c old new end
    → HalfProperties h r depth at m path before end o (found_of new)
half_properties_step h r depth at m path before now n old new half same k c o goes end visits says is xs e rest =
    let so_far = half says is xs e rest in
    let ys = so_far.0 in
    let one = property_apart h r says depth path now n ys e k c o (goes ys e so_far.1) in
    let found : List Step → List Found = λ q. under q (r.text_of one.0) (λ text. document_findings r says depth (q ++ to_key text ∷ []) one.1) in
    let visited = visits says is one.0 one.5 one.1 one.3 one.6 in
    let here : found_of new ≡ found_of old ++ found path = visited.1.1 ∙ ap (λ q. found_of old ++ found q) same in (
      one.2,
      subst (λ j. h.rest as_object depth one.2 j o e) (sym visited.0) one.7,
      ap (λ u. u ++ property_findings r says depth path one.2) here
          ∙ append_assoc (found_of old) (found path) (property_findings r says depth path one.2)
          ∙ ap (λ u. found_of old ++ u) (sym one.4) ∙ so_far.2,
    )

properties_end : {L : Type 0} (h : Holding L) (r : Rules L) (says : L → Answer (Document Number)) (depth : ℕ) (path : List Step) (now : ℕ) (n : Mark) (ys : Nodes L) (e end : ℕ)
    → GoesOnAs h as_object depth ys now n e (End end) → (end ≡ e) × (property_findings r says depth path ys ≡ [])
properties_end h r says depth path now n no_nodes e end goes = (cc, refl)
properties_end h r says depth path now n (node name x zs) e end goes = let same = goes.4 in cc

pub half_properties_end : {L : Type 0} (h : Holding L) (r : Rules L) (depth at : ℕ) (m : Mark) (old new : Linter) (now : ℕ) (n : Mark)
    → HalfProperties h r depth at m (path_of old) (found_of old) now n (found_of new) → path_of new ≡ path_of old
    → (end : ℕ) → GoesOn h as_object depth now n (End end)
    → VisitsProperties h r depth at m old new end
half_properties_end h r depth at m old new now n half same end goes says is xs e rest =
    let so_far = half says is xs e rest in
    let last = properties_end h r says depth (path_of old) now n so_far.0 e end (goes so_far.0 e so_far.1) in
    (last.0, (same, sym (append_nil (found_of new)) ∙ ap (λ u. found_of new ++ u) (sym last.1) ∙ so_far.2))

-- one property, whose key has a text or has none
pub no_text : {L : Type 0} (h : Holding L) (r : Rules L) (depth name at : ℕ) (old new : Linter) (end : ℕ) → IsKeyText h r name None → PassesWith h depth at Key old new end
    → VisitsProperty h r depth name at old new end
no_text h r depth name at old new end text passes says is k key_at x e v =
    let p = passes x e v in
    (p.0, subst (Adds old new) (ap (λ o. under (path_of old) o (λ s. document_findings r says depth (path_of old ++ to_key s ∷ []) x)) (sym (text k key_at))) p.1)

pub with_text : {L : Type 0} (h : Holding L) (r : Rules L) (depth name at : ℕ) (old last : Linter) (end : ℕ) (s : List ℕ) → IsKeyText h r name (Some s)
    → path_of last ≡ path_of old
    → ((x : Node L) (e : ℕ) → h.value depth x at e → (end ≡ e) × (found_of last ≡ found_of old ++ findings_as_document r r.documents depth (path_of old ++ to_key s ∷ []) x))
    → VisitsProperty h r depth name at old last end
with_text h r depth name at old last end s text same visits says is k key_at x e v =
    let p = visits x e v in
    let inside = path_of old ++ to_key s ∷ [] in (
      p.0,
      (
        same,
        p.1 ∙ ap (λ u. found_of old ++ u) (documents_some r r.documents says depth inside x is
            ∙ ap (λ o. under (path_of old) o (λ s. document_findings r says depth (path_of old ++ to_key s ∷ []) x)) (sym (text k key_at))),
      ),
    )

-- behind one more item, at the next index
pub half_steps_to : {L : Type 0} (h : Holding L) (r : Rules L) (depth at : ℕ) (m : Mark) (path : List Step) (before : List Found) (i now : ℕ) (n : Mark) (found : List Found)
    → HalfItems h r depth at m path before i now n found
    → (k c : ℕ) (o : Mark) → GoesOn h as_array depth now n (Entry k c o)
    → (end : ℕ) (more : List Found)
    → ((x : Node L) (e : ℕ) → h.value depth x c e → (end ≡ e) × (more ≡ found ++ findings_as_document r r.documents depth (path ++ to_element i ∷ []) x))
    → (next : ℕ) → suc i ≡ next → HalfItems h r depth at m path before next end o more
half_steps_to h r depth at m path before i now n found half k c o goes end more visits next is =
    subst (λ j. HalfItems h r depth at m path before j end o more) is (half_steps h r depth at m path before i now n found half k c o goes end more visits)
