-- Nothing is found exactly where the node means something and nothing in it is unknown.
use Rattle.std.specs.Prelude.{◌≡◌, ℕ, suc, ◌==◌, ◌&&◌, ◌||◌, not, List, [], ◌++◌, Bool, true, false, Option, None, is_some, if◌then◌else◌, refl}
use Rattle.std.specs.Option.{option_map_or}
use Rattle.std.proofs.Common.{sym, ◌∙◌, ap}
use Rattle.smithy_declarations.specs.declared.place.Place.{Place}
use Rattle.smithy_declarations.specs.declared.shape_type.TimestampFormat.{TimestampFormat}
use Rattle.smithy_declarations.specs.Table.{Table, Kind, scalar, document, structure_of, union_of, list_of, map_of, nothing, kind_of, has_members, where_document}
use Rattle.smithy_declarations.specs.Value.{Value, null_element}
use Rattle.smithy_shapes.specs.Limits.{kept}
use Rattle.smithy_shapes.specs.Container.{is_type_mark, container_of}
use Rattle.smithy_wire.specs.Node.{Form, Node, null_node, leaf, container, missing, Nodes, no_nodes, node, is_null}
use Rattle.smithy_wire.specs.Rules.{Rules, is_shallow, key_text, position_in, is_absent}
use Rattle.smithy_wire.specs.Documents.{document_meaning}
use Rattle.smithy_wire.specs.Meaning.{leaf_meaning, is_in, missing_meaning, entry_at, meaning, entries}
use Rattle.smithy_compare.specs.Tree.{Step}
use Rattle.smithy_lint.specs.Findings.{Found, one, leaf_findings, findings_as_document, child_findings, variants, union_findings, missing_findings, findings, entry_findings, is_known, all_known, entries_known}
use Rattle.smithy_lint.proofs.Law.{is_clean, NothingFound}
use Rattle.smithy_lint.proofs.Clean.{clean_both, within_clean, told_clean, as_document_clean, all_are, entry_ok, count_variants, count_ok, container_ok, NullMeans, child_clean}
use Rattle.smithy_lint.specs.declared.finding.Kind.TheVariants.{Mismatch, Deep, Union}

-- ---- Bools

apart : (a k b m : Bool) → ((a && k) && (b && m)) ≡ ((a && b) && (k && m))
apart true true b m = refl
apart true false true m = refl
apart true false false m = refl
apart false k b m = refl

turned : (a k c : Bool) → ((a && k) && c) ≡ ((a && c) && k)
turned true true true = refl
turned true true false = refl
turned true false true = refl
turned true false false = refl
turned false k c = refl

and_true : (b : Bool) → b ≡ (b && true)
and_true true = refl
and_true false = refl

-- ---- by what is due at the place

split_clean : (k : Kind) (a b : List Found) (u v : Option Value) (kn : Bool) → is_clean a ≡ is_some u → is_clean b ≡ (is_some v && kn)
    → is_clean (where_document k a b) ≡ (is_some (where_document k u v) && where_document k true kn)
split_clean document a b u v kn h g = h ∙ and_true (is_some u)
split_clean (scalar s) a b u v kn h g = g
split_clean (structure_of ms) a b u v kn h g = g
split_clean (union_of ms) a b u v kn h g = g
split_clean (list_of l) a b u v kn h g = g
split_clean (map_of m) a b u v kn h g = g
split_clean nothing a b u v kn h g = g

split_plain : (k : Kind) (a b : List Found) (u v : Option Value) → is_clean a ≡ is_some u → is_clean b ≡ is_some v
    → is_clean (where_document k a b) ≡ (is_some (where_document k u v) && true)
split_plain document a b u v h g = h ∙ and_true (is_some u)
split_plain (scalar s) a b u v h g = g ∙ and_true (is_some v)
split_plain (structure_of ms) a b u v h g = g ∙ and_true (is_some v)
split_plain (union_of ms) a b u v h g = g ∙ and_true (is_some v)
split_plain (list_of l) a b u v h g = g ∙ and_true (is_some v)
split_plain (map_of m) a b u v h g = g ∙ and_true (is_some v)
split_plain nothing a b u v h g = g ∙ and_true (is_some v)

-- a null means nothing where no document is due
null_nowhere : (k : Kind) (v : Option Value) → where_document k None (where_document k v None) ≡ None
null_nowhere document v = refl
null_nowhere (scalar s) v = refl
null_nowhere (structure_of ms) v = refl
null_nowhere (union_of ms) v = refl
null_nowhere (list_of l) v = refl
null_nowhere (map_of m) v = refl
null_nowhere nothing v = refl

in_clean : (inside shallow : Bool) (path : List Step) (found : List Found) (v : Option Value) (kn : Bool) → (inside ≡ true → is_clean found ≡ (is_some v && kn))
    → is_clean (if inside then (if shallow then found else one path Deep) else one path Mismatch)
    ≡ (is_some (if shallow then (if inside then v else None) else None) && kn)
in_clean true true path found v kn h = h refl
in_clean true false path found v kn h = refl
in_clean false true path found v kn h = refl
in_clean false false path found v kn h = refl

missing_clean : (k : Kind) (path : List Step) → is_clean (missing_findings k path) ≡ is_some (missing_meaning k)
missing_clean document path = refl
missing_clean (scalar s) path = refl
missing_clean (structure_of ms) path = refl
missing_clean (union_of ms) path = refl
missing_clean (list_of l) path = refl
missing_clean (map_of m) path = refl
missing_clean nothing path = refl

-- ---- unions

one_or_union : (b : Bool) (path : List Step) → is_clean (if b then [] else one path Union) ≡ b
one_or_union true path = refl
one_or_union false path = refl

count_clean : (k : Kind) (path : List Step) (n m : ℕ) → (has_members k ≡ true → n ≡ m) → is_clean (union_findings k path n) ≡ count_ok k m
count_clean (union_of ms) path n m h = one_or_union (n == 1) path ∙ ap (λ u. u == 1) (h refl)
count_clean document path n m h = refl
count_clean (scalar s) path n m h = refl
count_clean (structure_of ms) path n m h = refl
count_clean (list_of l) path n m h = refl
count_clean (map_of l) path n m h = refl
count_clean nothing path n m h = refl

one_counted : (absent members mark : Bool) (n m : ℕ) → members ≡ true → n ≡ m
    → (if absent || (members && mark) then n else suc n) ≡ (if not (absent || mark) then suc m else m)
one_counted absent false mark n m is h = cc
one_counted true true mark n m is h = h
one_counted false true true n m is h = h
one_counted false true false n m is h = ap suc h

module _ {L : Type 0} (r : Rules L) (keeps : r.limits ≡ kept) (t : Table) where
  counted : (p : Place) (f : Form) (depth : ℕ) (xs : Nodes L) → has_members (kind_of t p) ≡ true
      → variants r (kind_of t p) f xs ≡ count_variants (entries r t p f depth xs)
  counted p f depth no_nodes is = refl
  counted p f depth (node name x xs) is =
      let k = kind_of t p in
      let text = key_text r f name in
      one_counted (is_absent r k text x) (has_members k) (option_map_or (is_type_mark (position_in r k text)) text false)
      (variants r k f xs) (count_variants (entries r t p f depth xs)) is (counted p f depth xs is)

  null_means : (depth : ℕ) (x : Node L) → is_null x ≡ true → NullMeans t (λ q. meaning r t q depth x) (λ q. all_known r t q x)
  null_means depth null_node is q = (refl, null_nowhere (kind_of t q) (document_meaning r depth null_node))
  null_means depth (leaf x) is q = cc
  null_means depth (container f xs) is q = cc
  null_means depth missing is q = cc

  leaf_clean : (k : Kind) (time : Option TimestampFormat) (path : List Step) (x : L) → is_clean (leaf_findings r k time path x) ≡ is_some (leaf_meaning r k time x)
  leaf_clean (scalar s) time path x = told_clean r.limits keeps null_element path (r.says s time x)
  leaf_clean document time path x = refl
  leaf_clean (structure_of ms) time path x = refl
  leaf_clean (union_of ms) time path x = refl
  leaf_clean (list_of l) time path x = refl
  leaf_clean (map_of m) time path x = refl
  leaf_clean nothing time path x = refl

  whole_clean : (p : Place) (f : Form) → is_in (kind_of t p) f ≡ true → (depth : ℕ) (path : List Step) (xs : Nodes L)
      → is_clean (entry_findings r t p f (suc depth) path 0 xs)
      ≡ (all_are (entry_ok (kind_of t p)) (entries r t p f (suc depth) xs) && entries_known r t p f xs)
      → is_clean (entry_findings r t p f (suc depth) path 0 xs ++ union_findings (kind_of t p) path (variants r (kind_of t p) f xs))
      ≡ (is_some (container_of (kind_of t p) (entries r t p f (suc depth) xs)) && entries_known r t p f xs)
  whole_clean p f is depth path xs each =
      let k = kind_of t p in
      let es = entries r t p f (suc depth) xs in
      let found = entry_findings r t p f (suc depth) path 0 xs in
      let rest = union_findings k path (variants r k f xs) in
      clean_both found rest
      ∙ ap (λ b. b && is_clean rest) each
      ∙ ap (λ b. (all_are (entry_ok k) es && entries_known r t p f xs) && b)
      (count_clean k path (variants r k f xs) (count_variants es) (counted p f (suc depth) xs))
      ∙ turned (all_are (entry_ok k) es) (entries_known r t p f xs) (count_ok k (count_variants es))
      ∙ ap (λ b. b && entries_known r t p f xs) (sym (container_ok k f is es))

  mutual
    pub findings_clean : (p : Place) (depth : ℕ) (path : List Step) (x : Node L)
        → is_clean (findings r t p depth path x) ≡ (is_some (meaning r t p depth x) && all_known r t p x)
    findings_clean p depth path null_node =
        split_plain (kind_of t p) (findings_as_document r r.documents depth path null_node) (one path Mismatch)
        (document_meaning r depth null_node) None (as_document_clean r keeps r.documents depth path null_node) refl
    findings_clean p depth path (leaf x) =
        split_plain (kind_of t p) (findings_as_document r r.documents depth path (leaf x)) (leaf_findings r (kind_of t p) p.time path x)
        (document_meaning r depth (leaf x)) (leaf_meaning r (kind_of t p) p.time x)
        (as_document_clean r keeps r.documents depth path (leaf x)) (leaf_clean (kind_of t p) p.time path x)
    findings_clean p depth path (container f xs) =
        let k = kind_of t p in
        let es = entries r t p f (suc depth) xs in
        let found = entry_findings r t p f (suc depth) path 0 xs ++ union_findings k path (variants r k f xs) in
        split_clean k (findings_as_document r r.documents depth path (container f xs))
        (if is_in k f then (if is_shallow r (suc depth) then found else one path Deep) else one path Mismatch)
        (document_meaning r depth (container f xs))
        (if is_shallow r (suc depth) then (if is_in k f then container_of k es else None) else None)
        (entries_known r t p f xs)
        (as_document_clean r keeps r.documents depth path (container f xs))
        (in_clean (is_in k f) (is_shallow r (suc depth)) path found (container_of k es) (entries_known r t p f xs)
        (λ is. whole_clean p f is depth path xs (entries_clean p f is (suc depth) path 0 xs)))
    findings_clean p depth path missing =
        within_clean (is_shallow r (suc depth)) path (missing_findings (kind_of t p) path) (missing_meaning (kind_of t p)) (missing_clean (kind_of t p) path)
        ∙ and_true (is_some (if is_shallow r (suc depth) then missing_meaning (kind_of t p) else None))

    entries_clean : (p : Place) (f : Form) → is_in (kind_of t p) f ≡ true → (depth : ℕ) (path : List Step) (i : ℕ) (xs : Nodes L)
        → is_clean (entry_findings r t p f depth path i xs)
        ≡ (all_are (entry_ok (kind_of t p)) (entries r t p f depth xs) && entries_known r t p f xs)
    entries_clean p f is depth path i no_nodes = refl
    entries_clean p f is depth path i (node name x xs) =
        let k = kind_of t p in
        let child = child_findings r t k depth path i (key_text r f name) x (λ q inner. findings r t q depth inner x) in
        let rest = entry_findings r t p f depth path (suc i) xs in
        let e = entry_at r k f depth name x (λ q. meaning r t q depth x) in
        let knows = is_known r k (key_text r f name) x (λ q. all_known r t q x) in
        let es = entries r t p f depth xs in
        clean_both child rest
        ∙ ap (λ b. b && is_clean rest)
        (child_clean r t depth path i x (λ q inner. findings r t q depth inner x) (λ q. meaning r t q depth x) (λ q. all_known r t q x)
        (λ q inner. findings_clean q depth inner x) (null_means depth x) k f is name)
        ∙ ap (λ b. (entry_ok k e && knows) && b) (entries_clean p f is depth path (suc i) xs)
        ∙ apart (entry_ok k e) knows (all_are (entry_ok k) es) (entries_known r t p f xs)

pub nothing_found : (L : Type 0) → NothingFound L
nothing_found L r keeps t p depth path x = findings_clean r keeps t p depth path x
