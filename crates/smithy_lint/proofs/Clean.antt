-- What is found of one child and of the children of a container, by what they mean.
use Rattle.std.specs.Prelude.{◌≡◌, ℕ, suc, ◌==◌, ◌&&◌, ◌||◌, not, List, [], ◌∷◌, ◌++◌, length, filter, Bool, true, false, cond, Option, Some, None, is_some, option_map, option_and_then, if◌then◌else◌, refl}
use Rattle.std.specs.Option.{option_map_or}
use Rattle.std.proofs.Common.{sym, ◌∙◌, ap, arith}
use Rattle.std.proofs.lemmas.Bool.Decides.{nat_tests}
use Rattle.smithy_types.specs.Document.{Document, item, array, object, null, whole_document, properties_by, with_pair}
use Rattle.smithy_types.specs.declared.number.Number.{Number}
use Rattle.smithy_declarations.specs.declared.place.Place.{Place}
use Rattle.smithy_declarations.specs.Table.{Table, Member, ListShape, MapShape, Kind, structure_of, union_of, list_of, map_of, kind_of, place_in, is_sparse, where_document, scalar, document, nothing}
use Rattle.smithy_declarations.specs.Value.{Value, list, map, structure, union, null_element, document_value, values_of, MemberValues, no_member_values, MapEntries, no_map_entries, put_entry}
use Rattle.smithy_shapes.specs.Limits.{Limits, kept, lifted}
use Rattle.smithy_shapes.specs.Container.{Entry, folded, set_by, member_step, members_from, is_variant, is_regular, all_regular, variant_of, element_of, element_step, elements_from, entry_step, entries_from, container_of}
use Rattle.smithy_shapes.specs.Lemmas.Entries.{entry_with}
use Rattle.smithy_wire.specs.Node.{Form, as_array, as_object, Node, null_node, leaf, container, missing, Nodes, no_nodes, node, is_null}
use Rattle.smithy_wire.specs.Rules.{Answer, means, no_meaning, wide, uncarried, settled, Rules, is_shallow, may_skip, key_text, position_in, is_absent, is_mark}
use Rattle.smithy_wire.specs.Documents.{document_of, elements_of, pairs_of, document_by}
use Rattle.smithy_wire.specs.Meaning.{is_in, entry_at}
use Rattle.smithy_wire.specs.Entries.{member_is_no_mark}
use Rattle.smithy_compare.specs.Tree.{Step, member as to_member, element as to_element, key as to_key}
use Rattle.smithy_lint.specs.Findings.{Found, one, told_by, under, document_findings, item_findings, property_findings, findings_as_document, at_place, named, collected, child_findings, is_known}
use Rattle.smithy_lint.proofs.Law.{is_clean}
use Rattle.smithy_lint.specs.declared.finding.Kind.TheVariants.{Unknown, Deep, Null}

pub clean_both : (a b : List Found) → is_clean (a ++ b) ≡ (is_clean a && is_clean b)
clean_both [] b = refl
clean_both (f ∷ fs) b = refl

-- ---- options

pub some_map : {A B : Type 0} (f : A → B) (o : Option A) → is_some (option_map f o) ≡ is_some o
some_map f None = refl
some_map f (Some a) = refl

pub some_then : {A B : Type 0} (f : A → Option B) (o : Option A) (rest : Bool) → ((a : A) → is_some (f a) ≡ rest)
    → is_some (option_and_then f o) ≡ (is_some o && rest)
some_then f None rest h = refl
some_then f (Some a) rest h = h a

pub within_clean : {A : Type 0} (shallow : Bool) (path : List Step) (found : List Found) (v : Option A) → is_clean found ≡ is_some v
    → is_clean (if shallow then found else one path Deep) ≡ is_some (if shallow then v else None)
within_clean true path found v h = h
within_clean false path found v h = refl

pub told_clean : {A : Type 0} (limits : Limits) → limits ≡ kept → (nil : A) (path : List Step) (a : Answer A)
    → is_clean (told_by path a) ≡ is_some (settled limits nil a)
told_clean lifted keeps nil path a = cc
told_clean kept keeps nil path (means v) = refl
told_clean kept keeps nil path no_meaning = refl
told_clean kept keeps nil path wide = refl
told_clean kept keeps nil path uncarried = refl

-- ---- documents

some_pair : {N : Type 0} (name : Option (List ℕ)) (d : Option (Document N)) (pairs : Option (List (List ℕ × Document N)))
    → is_some (with_pair name d pairs) ≡ (is_some name && is_some d && is_some pairs)
some_pair None d pairs = refl
some_pair (Some name) None pairs = refl
some_pair (Some name) (Some d) None = refl
some_pair (Some name) (Some d) (Some pairs) = refl

under_clean : (path : List Step) (text : Option (List ℕ)) (found : List ℕ → List Found) (clean : Bool) → ((s : List ℕ) → is_clean (found s) ≡ clean)
    → is_clean (under path text found) ≡ (is_some text && clean)
under_clean path None found clean h = refl
under_clean path (Some s) found clean h = h s

module _ {L : Type 0} (r : Rules L) (keeps : r.limits ≡ kept) (says : L → Answer (Document Number)) where
  mutual
    pub document_clean : (d : ℕ) (path : List Step) (x : Node L) → is_clean (document_findings r says d path x) ≡ is_some (document_of r says d x)
    document_clean d path null_node = within_clean (is_shallow r (suc d)) path [] (Some null) refl
    document_clean d path (leaf x) =
        within_clean (is_shallow r (suc d)) path (told_by path (says x)) (settled r.limits null (says x)) (told_clean r.limits keeps null path (says x))
    document_clean d path (container as_array xs) =
        within_clean (is_shallow r (suc d)) path (item_findings r says (suc d) path 0 xs) (option_map array (elements_of r says (suc d) xs))
        (items_clean (suc d) path 0 xs ∙ sym (some_map array (elements_of r says (suc d) xs)))
    document_clean d path (container as_object xs) =
        within_clean (is_shallow r (suc d)) path (property_findings r says (suc d) path xs)
        (option_map (λ pairs. object (properties_by pairs)) (pairs_of r says (suc d) xs))
        (properties_clean (suc d) path xs ∙ sym (some_map (λ pairs. object (properties_by pairs)) (pairs_of r says (suc d) xs)))
    document_clean d path missing = refl

    items_clean : (d : ℕ) (path : List Step) (i : ℕ) (xs : Nodes L) → is_clean (item_findings r says d path i xs) ≡ is_some (elements_of r says d xs)
    items_clean d path i no_nodes = refl
    items_clean d path i (node name x xs) =
        clean_both (document_findings r says d (path ++ to_element i ∷ []) x) (item_findings r says d path (suc i) xs)
        ∙ ap (λ b. b && is_clean (item_findings r says d path (suc i) xs)) (document_clean d (path ++ to_element i ∷ []) x)
        ∙ ap (λ b. is_some (document_of r says d x) && b) (items_clean d path (suc i) xs)
        ∙ sym (some_then (λ u. option_map (item u) (elements_of r says d xs)) (document_of r says d x) (is_some (elements_of r says d xs))
        (λ u. some_map (item u) (elements_of r says d xs)))

    properties_clean : (d : ℕ) (path : List Step) (xs : Nodes L) → is_clean (property_findings r says d path xs) ≡ is_some (pairs_of r says d xs)
    properties_clean d path no_nodes = refl
    properties_clean d path (node name x xs) =
        clean_both (under path (key_text r as_object name) (λ text. document_findings r says d (path ++ to_key text ∷ []) x)) (property_findings r says d path xs)
        ∙ ap (λ b. b && is_clean (property_findings r says d path xs))
        (under_clean path (key_text r as_object name) (λ text. document_findings r says d (path ++ to_key text ∷ []) x) (is_some (document_of r says d x))
        (λ text. document_clean d (path ++ to_key text ∷ []) x))
        ∙ ap (λ b. (is_some (key_text r as_object name) && is_some (document_of r says d x)) && b) (properties_clean d path xs)
        ∙ sym (some_pair (key_text r as_object name) (document_of r says d x) (pairs_of r says d xs))

null_clean : {L : Type 0} (r : Rules L) (limits : Limits) → limits ≡ kept → (x : Node L) → false ≡ is_some (document_by (record r { limits = limits }) None 0 x)
null_clean r lifted keeps x = cc
null_clean r kept keeps null_node = refl
null_clean r kept keeps (leaf y) = refl
null_clean r kept keeps (container f xs) = refl
null_clean r kept keeps missing = refl

pub as_document_clean : {L : Type 0} (r : Rules L) → r.limits ≡ kept → (documents : Option (L → Answer (Document Number))) (d : ℕ) (path : List Step) (x : Node L)
    → is_clean (findings_as_document r documents d path x) ≡ is_some (document_by r documents d x)
as_document_clean r keeps None d path x = null_clean r r.limits keeps x
as_document_clean r keeps (Some says) d path x =
    document_clean r keeps says d path x ∙ sym (some_map (λ u. document_value (whole_document u)) (document_of r says d x))

-- ---- what an entry has to be in a container of each kind

abbrev pub all_are : (Entry → Bool) → List Entry → Bool
all_are ok [] = true
all_are ok (e ∷ es) = ok e && all_are ok es

-- what an entry of a structure or a union has to be behind its key, by the position of the member that it names
abbrev pub named_ok : Option ℕ → Option Value → Bool → Bool
named_ok None mean skips = skips
named_ok (Some n) mean skips = is_some mean

abbrev pub member_ok : Entry → Bool
member_ok e = is_some e.key && (e.is_absent || named_ok e.position e.meaning e.is_skippable)

-- a variant has to name a member and mean something
abbrev pub is_good : Entry → Bool
is_good e = is_some (option_and_then (λ n. option_map (union n) e.meaning) e.position)

abbrev pub variant_ok : Entry → Bool
variant_ok e = is_regular e && (not (is_variant e) || is_good e)

abbrev pub element_ok : Bool → Entry → Bool
element_ok sparse e = is_some (element_of sparse e.is_null e.meaning)

abbrev pub pair_ok : Bool → Entry → Bool
pair_ok sparse e = is_some e.key && is_some (element_of sparse e.is_null e.meaning)

abbrev pub entry_ok : Kind → Entry → Bool
entry_ok (structure_of members) e = member_ok e
entry_ok (union_of members) e = variant_ok e
entry_ok (list_of l) e = element_ok l.is_sparse e
entry_ok (map_of m) e = pair_ok m.is_sparse e
entry_ok _ e = false

-- ---- what entries mean together

folded_ok : {S : Type 0} (step : Entry → S → Option S) (ok : Entry → Bool) → ((e : Entry) (s : S) → is_some (step e s) ≡ ok e)
    → (s : S) (es : List Entry) → is_some (folded step s es) ≡ all_are ok es
folded_ok step ok h s [] = refl
folded_ok step ok h s (e ∷ es) =
    some_then (λ after. folded step after es) (step e s) (all_are ok es) (λ after. folded_ok step ok h after es)
    ∙ ap (λ b. b && all_are ok es) (h e s)

set_ok : (pos : Option ℕ) (mean : Option Value) (skips : Bool) (key : Option (List ℕ)) (absent nil : Bool) (s : MemberValues)
    → is_some (set_by (entry_with key pos mean absent skips nil) pos s) ≡ named_ok pos mean skips
set_ok None mean true key absent nil s = refl
set_ok None mean false key absent nil s = refl
set_ok (Some n) None skips key absent nil s = refl
set_ok (Some n) (Some v) skips key absent nil s = refl

step_ok : (key : Option (List ℕ)) (pos : Option ℕ) (mean : Option Value) (absent skips nil : Bool) (s : MemberValues)
    → is_some (member_step (entry_with key pos mean absent skips nil) s) ≡ (is_some key && (absent || named_ok pos mean skips))
step_ok None pos mean absent skips nil s = refl
step_ok (Some key) pos mean true skips nil s = refl
step_ok (Some key) pos mean false skips nil s = set_ok pos mean skips (Some key) false nil s

pair_step_ok : (sparse : Bool) (key : Option (List ℕ)) (o : Option Value) (s : MapEntries)
    → is_some (option_and_then (λ key. option_map (λ v. put_entry key v s) o) key) ≡ (is_some key && is_some o)
pair_step_ok sparse None o s = refl
pair_step_ok sparse (Some key) o s = some_map (λ v. put_entry key v s) o

-- how many variants
abbrev pub count_variants : List Entry → ℕ
count_variants [] = 0
count_variants (e ∷ es) = if is_variant e then suc (count_variants es) else count_variants es

more_than_one : (n : ℕ) → (suc (suc n) == 1) ≡ false
more_than_one n = grind (arith, nat_tests)

variant_one : (fs : List Entry) → is_some (variant_of fs) ≡ (all_are is_good fs && (length fs == 1))
variant_one [] = refl
variant_one (e ∷ []) = sym (by (is_good e))
  where
    by : (b : Bool) → ((b && true) && true) ≡ b
    by true = refl
    by false = refl
variant_one (e ∷ f ∷ es) = sym (by (all_are is_good (e ∷ f ∷ es)) (suc (suc (length es)) == 1) (more_than_one (length es)))
  where
    by : (a b : Bool) → b ≡ false → (a && b) ≡ false
    by true b h = h
    by false b h = refl

variants_apart : (regular variant good all_reg all_good : Bool) (es : List Entry) (e : Entry)
    → ((regular && (not variant || good)) && (all_reg && all_good)) ≡ ((regular && all_reg) && (if variant then good && all_good else all_good))
variants_apart true true true all_reg all_good es e = refl
variants_apart true true false true all_good es e = refl
variants_apart true true false false all_good es e = refl
variants_apart true false good all_reg all_good es e = refl
variants_apart false variant good all_reg all_good es e = refl

kept_good : (b : Bool) (e : Entry) (fs : List Entry) → all_are is_good (cond b (e ∷ fs) fs) ≡ (if b then is_good e && all_are is_good fs else all_are is_good fs)
kept_good true e fs = refl
kept_good false e fs = refl

regular_and_good : (es : List Entry) → all_are variant_ok es ≡ (all_regular es && all_are is_good (filter is_variant es))
regular_and_good [] = refl
regular_and_good (e ∷ es) =
    ap (λ b. variant_ok e && b) (regular_and_good es)
    ∙ variants_apart (is_regular e) (is_variant e) (is_good e) (all_regular es) (all_are is_good (filter is_variant es)) es e
    ∙ ap (λ b. (is_regular e && all_regular es) && b) (sym (kept_good (is_variant e) e (filter is_variant es)))

kept_length : (b : Bool) (e : Entry) (fs : List Entry) (n : ℕ) → length fs ≡ n → length (cond b (e ∷ fs) fs) ≡ (if b then suc n else n)
kept_length true e fs n h = ap suc h
kept_length false e fs n h = h

counted : (es : List Entry) → length (filter is_variant es) ≡ count_variants es
counted [] = refl
counted (e ∷ es) = kept_length (is_variant e) e (filter is_variant es) (count_variants es) (counted es)

where_regular : (regular good one : Bool) (o : Option Value) → is_some o ≡ (good && one) → is_some (if regular then o else None) ≡ ((regular && good) && one)
where_regular true good one o h = h
where_regular false good one o h = refl

-- a union has one variant; nothing is asked of others
abbrev pub count_ok : Kind → ℕ → Bool
count_ok (union_of members) n = n == 1
count_ok _ n = true

and_true : (b : Bool) → b ≡ (b && true)
and_true true = refl
and_true false = refl

pub container_ok : (k : Kind) (f : Form) → is_in k f ≡ true → (es : List Entry)
    → is_some (container_of k es) ≡ (all_are (entry_ok k) es && count_ok k (count_variants es))
container_ok (structure_of members) f is es =
    some_map structure (members_from no_member_values es)
    ∙ folded_ok member_step member_ok (λ e s. step_ok e.key e.position e.meaning e.is_absent e.is_skippable e.is_null s) no_member_values es
    ∙ and_true (all_are member_ok es)
container_ok (union_of members) f is es =
    where_regular (all_regular es) (all_are is_good (filter is_variant es)) (length (filter is_variant es) == 1) (variant_of (filter is_variant es)) (variant_one (filter is_variant es))
    ∙ ap (λ b. b && (length (filter is_variant es) == 1)) (sym (regular_and_good es))
    ∙ ap (λ n. all_are variant_ok es && (n == 1)) (counted es)
container_ok (list_of l) f is es =
    some_map (λ vs. list (values_of vs)) (elements_from l.is_sparse [] es)
    ∙ folded_ok (element_step l.is_sparse) (element_ok l.is_sparse) (λ e s. some_map (λ v. s ++ v ∷ []) (element_of l.is_sparse e.is_null e.meaning)) [] es
    ∙ and_true (all_are (element_ok l.is_sparse) es)
container_ok (map_of m) f is es =
    some_map map (entries_from m.is_sparse no_map_entries es)
    ∙ folded_ok (entry_step m.is_sparse) (pair_ok m.is_sparse) (λ e s. pair_step_ok m.is_sparse e.key (element_of m.is_sparse e.is_null e.meaning) s) no_map_entries es
    ∙ and_true (all_are (pair_ok m.is_sparse) es)
container_ok _ f is es = cc

-- ---- one child

unnamed_clean : (mark skips : Bool) (path : List Step) (x y : List Found) → is_clean x ≡ false → is_clean y ≡ false
    → is_clean ((if mark then [] else x) ++ (if skips then [] else y)) ≡ (skips && (mark || false))
unnamed_clean true true path x y h k = refl
unnamed_clean true false path x y h k = k
unnamed_clean false true path x y h k = clean_both x [] ∙ ap (λ b. b && true) h
unnamed_clean false false path x y h k = clean_both x y ∙ ap (λ b. b && is_clean y) h

placed_clean : (found : Place → List Step → List Found) (mean : Place → Option Value) (known : Place → Bool) (other : Bool)
    → ((q : Place) (inner : List Step) → is_clean (found q inner) ≡ (is_some (mean q) && known q))
    → (path : List Step) (place : Option Place)
    → is_clean (at_place found path place) ≡ (is_some (option_and_then mean place) && option_map_or known place other)
placed_clean found mean known other h path None = refl
placed_clean found mean known other h path (Some q) = h q path

absent_or : (absent b c : Bool) (found : List Found) → is_clean found ≡ (b && c) → is_clean (if absent then [] else found) ≡ ((true && (absent || b)) && (absent || c))
absent_or true b c found h = refl
absent_or false b c found h = h

-- of a null child: nothing else stands there, and where no document is due it means nothing
abbrev pub NullMeans : Table → (Place → Option Value) → (Place → Bool) → Type 0
NullMeans t mean known = (q : Place) → (known q ≡ true) × (where_document (kind_of t q) None (mean q) ≡ None)

null_elsewhere : (k : Kind) (mean : Option Value) (known sparse : Bool) (found other : List Found) → known ≡ true
    → where_document k None mean ≡ None → is_clean found ≡ (is_some mean && known) → is_clean other ≡ false
    → is_clean (if sparse then [] else where_document k found other) ≡ (is_some (if sparse then Some null_element else mean) && known)
null_elsewhere k mean known true found other all none h bare = sym all
null_elsewhere document mean known false found other all none h bare = h
null_elsewhere (scalar s) None known false found other all none h bare = bare
null_elsewhere (scalar s) (Some v) known false found other all none h bare = cc
null_elsewhere (structure_of ms) None known false found other all none h bare = bare
null_elsewhere (structure_of ms) (Some v) known false found other all none h bare = cc
null_elsewhere (union_of ms) None known false found other all none h bare = bare
null_elsewhere (union_of ms) (Some v) known false found other all none h bare = cc
null_elsewhere (list_of l) None known false found other all none h bare = bare
null_elsewhere (list_of l) (Some v) known false found other all none h bare = cc
null_elsewhere (map_of m) None known false found other all none h bare = bare
null_elsewhere (map_of m) (Some v) known false found other all none h bare = cc
null_elsewhere nothing None known false found other all none h bare = bare
null_elsewhere nothing (Some v) known false found other all none h bare = cc

collected_clean : (t : Table) (k : Kind) (nil : Bool) (path : List Step) (found : Place → List Step → List Found) (mean : Place → Option Value) (known : Place → Bool)
    → ((q : Place) (inner : List Step) → is_clean (found q inner) ≡ (is_some (mean q) && known q))
    → (nil ≡ true → NullMeans t mean known) → (q : Place)
    → is_clean (collected t k nil path found q) ≡ (is_some (element_of (is_sparse k) nil (mean q)) && known q)
collected_clean t k false path found mean known h nulls q = h q path
collected_clean t k true path found mean known h nulls q =
    let null' = nulls refl q in
    null_elsewhere (kind_of t q) (mean q) (known q) (is_sparse k) (found q path) (one path Null) null'.0 null'.1 (h q path) refl

-- ---- one child by the kind of its container

variant_cases : (absent mark skips : Bool) (pos : Option ℕ) (m : Option Value) (kn : Bool) (found : List Found)
    → is_clean found ≡ (named_ok pos m skips && kn) → (pos ≡ None → kn ≡ (mark || false)) → ((n : ℕ) → pos ≡ Some n → mark ≡ false)
    → is_clean (if absent then [] else found)
    ≡ (((true && (absent || not mark || skips)) && (not (not (absent || mark)) || is_some (option_and_then (λ n. option_map (union n) m) pos))) && (absent || kn))
variant_cases true mark skips pos m kn found h none some = refl
variant_cases false true true None m kn found h none some = h
variant_cases false true false None m kn found h none some = h
variant_cases false false true None m kn found h none some = h ∙ none refl
variant_cases false false false None m kn found h none some = h
variant_cases false true skips (Some n) m kn found h none some = absurd (let e : true ≡ false = some n refl in cc)
variant_cases false false skips (Some n) None kn found h none some = h
variant_cases false false skips (Some n) (Some v) kn found h none some = h

never_absent : (b c : Bool) → c ≡ ((b && false) || c)
never_absent true c = refl
never_absent false c = refl

module _ {L : Type 0} (r : Rules L) (t : Table) (depth : ℕ) (path : List Step) (i : ℕ) (x : Node L) where
  module _ (found : Place → List Step → List Found) (mean : Place → Option Value) (known : Place → Bool)
      (h : (q : Place) (inner : List Step) → is_clean (found q inner) ≡ (is_some (mean q) && known q))
      (nulls : is_null x ≡ true → NullMeans t mean known) where
    structure_clean : (ms : List Member) (s : List ℕ) (pos : Option ℕ)
        → is_clean (named r (structure_of ms) depth path s x found pos)
        ≡ (named_ok pos (option_and_then mean (place_in (structure_of ms) pos)) (may_skip r depth x)
        && option_map_or known (place_in (structure_of ms) pos) (is_mark r (structure_of ms) (Some s) || false))
    structure_clean ms s None =
        unnamed_clean (is_mark r (structure_of ms) (Some s)) (may_skip r depth x) path (one (path ++ to_key s ∷ []) Unknown) (one (path ++ to_key s ∷ []) Deep) refl refl
    structure_clean ms s (Some n) =
        placed_clean found mean known (is_mark r (structure_of ms) (Some s) || false) h (path ++ to_member n ∷ []) (place_in (structure_of ms) (Some n))

    union_clean : (ms : List Member) (s : List ℕ) (pos : Option ℕ)
        → is_clean (named r (union_of ms) depth path s x found pos)
        ≡ (named_ok pos (option_and_then mean (place_in (union_of ms) pos)) (may_skip r depth x)
        && option_map_or known (place_in (union_of ms) pos) (is_mark r (union_of ms) (Some s) || false))
    union_clean ms s None =
        unnamed_clean (is_mark r (union_of ms) (Some s)) (may_skip r depth x) path (one (path ++ to_key s ∷ []) Unknown) (one (path ++ to_key s ∷ []) Deep) refl refl
    union_clean ms s (Some n) =
        placed_clean found mean known (is_mark r (union_of ms) (Some s) || false) h (path ++ to_member n ∷ []) (place_in (union_of ms) (Some n))

    -- an entry of the container as one of its fields, by the text of its key
    abbrev entry_of : Kind → Option (List ℕ) → Entry
    entry_of k text =
        entry_with text (position_in r k text) (option_and_then mean (place_in k (position_in r k text))) (is_absent r k text x) (may_skip r depth x) (is_null x)

    in_structure : (ms : List Member) (text : Option (List ℕ))
        → is_clean (child_findings r t (structure_of ms) depth path i text x found)
        ≡ (member_ok (entry_of (structure_of ms) text) && is_known r (structure_of ms) text x known)
    in_structure ms None = refl
    in_structure ms (Some s) =
        let k = structure_of ms in
        let pos = position_in r k (Some s) in
        absent_or (is_absent r k (Some s) x) (named_ok pos (option_and_then mean (place_in k pos)) (may_skip r depth x))
        (option_map_or known (place_in k pos) (is_mark r k (Some s) || false)) (named r k depth path s x found pos) (structure_clean ms s pos)

    in_union : (ms : List Member) (text : Option (List ℕ))
        → is_clean (child_findings r t (union_of ms) depth path i text x found)
        ≡ (variant_ok (entry_of (union_of ms) text) && is_known r (union_of ms) text x known)
    in_union ms None = refl
    in_union ms (Some s) =
        let k = union_of ms in
        let pos = position_in r k (Some s) in
        variant_cases (is_absent r k (Some s) x) (is_mark r k (Some s)) (may_skip r depth x) pos (option_and_then mean (place_in k pos))
        (option_map_or known (place_in k pos) (is_mark r k (Some s) || false)) (named r k depth path s x found pos) (union_clean ms s pos)
        (λ none. ap (λ o. option_map_or known (place_in k o) (is_mark r k (Some s) || false)) none)
        (λ n some. member_is_no_mark r k s n some)

    in_list : (l : ListShape) (text : Option (List ℕ))
        → is_clean (child_findings r t (list_of l) depth path i text x found)
        ≡ (element_ok l.is_sparse (entry_of (list_of l) text) && is_known r (list_of l) text x known)
    in_list l text =
        collected_clean t (list_of l) (is_null x) (path ++ to_element i ∷ []) found mean known h nulls l.place
        ∙ ap (λ b. is_some (element_of l.is_sparse (is_null x) (mean l.place)) && b) (never_absent (is_null x) (known l.place))

    in_map : (m : MapShape) (text : Option (List ℕ))
        → is_clean (child_findings r t (map_of m) depth path i text x found)
        ≡ (pair_ok m.is_sparse (entry_of (map_of m) text) && is_known r (map_of m) text x known)
    in_map m None = refl
    in_map m (Some s) =
        collected_clean t (map_of m) (is_null x) (path ++ to_key s ∷ []) found mean known h nulls m.place
        ∙ ap (λ b. is_some (element_of m.is_sparse (is_null x) (mean m.place)) && b) (never_absent (is_null x) (known m.place))

    pub child_clean : (k : Kind) (f : Form) → is_in k f ≡ true → (name : Option L)
        → is_clean (child_findings r t k depth path i (key_text r f name) x found)
        ≡ (entry_ok k (entry_at r k f depth name x mean) && is_known r k (key_text r f name) x known)
    child_clean (structure_of ms) f is name = in_structure ms (key_text r f name)
    child_clean (union_of ms) f is name = in_union ms (key_text r f name)
    child_clean (list_of l) f is name = in_list l (key_text r f name)
    child_clean (map_of m) f is name = in_map m (key_text r f name)
    child_clean _ f is name = cc
