-- Declarations that pass every test are an accepted table.
use Rattle.std.proofs.Common.{◌≡◌, ◌≢◌, ℕ, ◌+◌, ◌-◌, ◌<◌, ◌≤◌, List, [], ◌∷◌, map, length, take, get_or, Bool, true, false, not, cond, ltb, ◌&&◌, ◌||◌, Option, Some, None, refl, sym, ap, ◌∙◌, arith, subst, suc, zero, eqb, inl, inr}
use Rattle.std.specs.Prelude.{codes}
use Rattle.std.specs.Str.{bytes_eq}
use Rattle.std.specs.Option.{option_map, option_map_or, option_or, is_some, unwrap_or}
use Rattle.std.specs.List.{AllByRecursion, list_any, list_all, position, find, enumerate_from, slice_get}
use Rattle.std.proofs.lemmas.Bool.{true≢false, cases_Bool, and_parts}
use Rattle.std.proofs.lemmas.Bool.Decides.{nat_tests}
use Rattle.std.proofs.lemmas.List.{length-map, get_or-map, get_or-take, length-take}
use Rattle.std.proofs.lemmas.List.Folds.{list_any_at, list_any_none, Any-from_list_any}
use Rattle.std.proofs.lemmas.Simd.{map-map}
use Rattle.smithy_declarations.specs.declared.place.Place.{Place}
use Rattle.smithy_declarations.specs.declared.place.Target.{Target}
use Rattle.smithy_declarations.specs.declared.place.Target.TheVariants.{Simple, Document, Declared}
use Rattle.smithy_declarations.specs.declared.shape_type.Scalar.{Scalar}
use Rattle.smithy_declarations.specs.declared.shape_type.ShapeRef.{ShapeRef}
use Rattle.smithy_declarations.specs.Table as table
use Rattle.smithy_declarations.specs.Table.{Kind, scalar, document, structure_of, nothing, kind_of_shape, kind_of, kind_of_target, place_in, list_shape_of, map_shape_of, element_name_of, is_document_target, IsDocument, IsSparse, IsClosed}
use Rattle.smithy_declarations.specs.Names.{simple_targets, named, is_document_name, is_reserved, has_equal_texts, is_query_name}
use Rattle.smithy_declarations.specs.Decl.{PlaceWords, MemberDecl, MapDecl, Form, structure, union, list, map as map_form, Decl}
use Rattle.smithy_declarations.specs.Acceptance.{Fault, Test, tests, members_of, place_of_member, place_of_elements, place_of_values, places_of, query_names_of, element_name_of as written_name_of, key_name_of, value_name_of, is_declared, place_of, member_of, list_shape_of as shape_of_list, map_shape_of as shape_of_map, shape_of, table_from, json_name_of, query_name_of, has_unknown_shape, is_duplicate, has_clash, has_unfit_name, has_one_entry_name, has_key_value_name, has_sparse_documents, is_sparse_document, is_too_many, first_failing, first_fault}
use Rattle.smithy_declarations.specs.Private.PlaceTests.{has_unknown_target}
use Rattle.smithy_shapes.specs.Accepted.{AreAcceptedMembers, AreAcceptedNames, HaveTextNames, IsAccepted}
use Rattle.smithy_shapes.specs.Lemmas.Kinds.{document_target_is}
use Rattle.smithy_declarations.proofs.OrderLemmas.{first_of, false_if, not_both, no_equal_texts, le_or_lt}

-- ---- each declaration passes each test

or_none : {A : Type 0} (a b : Option A) → option_or a b ≡ None → (a ≡ None) × (b ≡ None)
or_none None b h = (refl, h)
or_none (Some x) b h = absurd (let e : Some x ≡ None = h in cc)

map_none : {A B : Type 0} (f : A → B) (o : Option A) → option_map f o ≡ None → o ≡ None
map_none f None h = refl
map_none f (Some x) h = absurd (let e : Some (f x) ≡ None = h in cc)

first_passes : (b : Bool) (p : ℕ × Decl) (o : Option (ℕ × Decl)) → option_map (λ (q : ℕ × Decl). q.0) (cond b (Some p) o) ≡ None → (b ≡ false) × (option_map (λ (q : ℕ × Decl). q.0) o ≡ None)
first_passes true p o h = absurd (let e : Some p.0 ≡ None = h in cc)
first_passes false p o h = (refl, h)

none_fails : (test : ℕ → Decl → Bool) (n : ℕ) (ds : List Decl) → option_map (λ (q : ℕ × Decl). q.0) (find (λ (p : ℕ × Decl). test p.0 p.1) (enumerate_from n ds)) ≡ None
    → (i : ℕ) (d : Decl) → i < length ds → test (n + i) (get_or ds i d) ≡ false
none_fails test n [] none i d within = absurd (omega arith)
none_fails test n (x ∷ xs) none zero d within =
    ap (λ k. test k x) (let e : n + 0 ≡ n = omega arith in e) ∙ (first_passes (test n x) (n, x) (find (λ (p : ℕ × Decl). test p.0 p.1) (enumerate_from (n + 1) xs)) none).0
none_fails test n (x ∷ xs) none (suc i) d within =
    ap (λ k. test k (get_or xs i d)) (let e : n + suc i ≡ n + 1 + i = omega arith in e)
    ∙ none_fails test (n + 1) xs (first_passes (test n x) (n, x) (find (λ (p : ℕ × Decl). test p.0 p.1) (enumerate_from (n + 1) xs)) none).1 i d (omega arith)

-- what is used of them, by position from 0
pub record Passes (ds : List Decl) : Type 0 where
  pub known : (i : ℕ) (d : Decl) → i < length ds → has_unknown_shape ds (1 + i) (get_or ds i d) ≡ false
  pub single : (i : ℕ) (d : Decl) → i < length ds → is_duplicate ds (1 + i) (get_or ds i d) ≡ false
  pub distinct : (i : ℕ) (d : Decl) → i < length ds → has_clash ds (1 + i) (get_or ds i d) ≡ false
  pub fit : (i : ℕ) (d : Decl) → i < length ds → has_unfit_name ds (1 + i) (get_or ds i d) ≡ false
  pub told_apart : (i : ℕ) (d : Decl) → i < length ds → has_key_value_name ds (1 + i) (get_or ds i d) ≡ false
  pub dense : (i : ℕ) (d : Decl) → i < length ds → is_sparse_document ds (1 + i) (get_or ds i d) ≡ false
  pub few : (i : ℕ) (d : Decl) → i < length ds → is_too_many ds (1 + i) (get_or ds i d) ≡ false

abbrev EachPasses : List Decl → List (Fault × Test) → Type 0
EachPasses ds [] = Unit {0}
EachPasses ds (t ∷ ts) = ((i : ℕ) (d : Decl) → i < length ds → t.1 ds (1 + i) (get_or ds i d) ≡ false) × EachPasses ds ts

each_passes : (ds : List Decl) (ts : List (Fault × Test)) → first_fault ds ts ≡ None → EachPasses ds ts
each_passes ds [] none = tt
each_passes ds (t ∷ ts) none =
    let both = or_none (option_map (λ n. (t.0, n)) (first_failing ds t.1)) (first_fault ds ts) none in
    (none_fails (t.1 ds) 1 ds (map_none (λ n. (t.0, n)) (first_failing ds t.1) both.0), each_passes ds ts both.1)

pub passes : (ds : List Decl) → first_fault ds tests ≡ None → Passes ds
passes ds none =
    let all = each_passes ds tests none in
    let behind_places = all.1.1.1 in
    let behind_names = behind_places.1.1.1 in
    record {
      known = all.1.0;
      single = behind_places.0;
      distinct = behind_places.1.0;
      fit = behind_places.1.1.0;
      told_apart = behind_names.0;
      dense = behind_names.1.0;
      few = behind_names.1.1.0;
    }

or_false : (a b : Bool) → a || b ≡ false → (a ≡ false) × (b ≡ false)
or_false true b h = absurd (true≢false h)
or_false false b h = (refl, h)

some_decl : Decl
some_decl = record { name = []; form = structure [] }

pub few_declarations : (ds : List Decl) → Passes ds → length ds ≤ 65535
few_declarations ds p = elim (le_or_lt (length ds) 65535) [
  | inl h ↦ h
  | inr h ↦
      let last = (or_false (ltb 65535 (length (members_of (get_or ds 65535 some_decl).form))) (eqb (1 + 65535) 65536) (p.few 65535 some_decl h)).1 in
      absurd (true≢false last)
]

-- ---- names of declarations

name_at : (ds : List Decl) (i : ℕ) → i < length ds → get_or (map (λ (d : Decl). d.name) ds) i [] ≡ (get_or ds i some_decl).name
name_at ds i within = get_or-map (λ (d : Decl). d.name) ds i some_decl [] within

names_differ : (ds : List Decl) → Passes ds → has_equal_texts (map (λ (d : Decl). d.name) ds) ≡ false
names_differ ds p = no_equal_texts (map (λ (d : Decl). d.name) ds) (λ i j up within.
    let w : j < length ds = omega (arith, length-map ds (λ (d : Decl). d.name)) in
    let name_j = (get_or ds j some_decl).name in
    let earlier = (or_false (is_reserved name_j) (is_declared (take (1 + j - 1) ds) name_j) (p.single j some_decl w)).1 in
    ap (λ n. bytes_eq n (get_or (map (λ (d : Decl). d.name) ds) j [])) (name_at ds i (omega arith)) ∙ ap (bytes_eq (get_or ds i some_decl).name) (name_at ds j w)
    ∙ false_if (bytes_eq (get_or ds i some_decl).name name_j) (λ equal.
    not_both (is_declared (take (1 + j - 1) ds) name_j)
    (list_any_at (λ (d : Decl). bytes_eq d.name name_j) (take (1 + j - 1) ds) i some_decl (omega (arith, length-take (1 + j - 1) ds))
    (ap (λ (d : Decl). bytes_eq d.name name_j) (get_or-take (1 + j - 1) ds i some_decl (omega arith)) ∙ equal))
    earlier))

names_are_free : (ds : List Decl) → Passes ds → list_any is_reserved (map (λ (d : Decl). d.name) ds) ≡ false
names_are_free ds p = list_any_none is_reserved (map (λ (d : Decl). d.name) ds) (λ i d h.
    let w : i < length ds = omega (arith, length-map ds (λ (d : Decl). d.name)) in
    ap is_reserved (get_or-map (λ (d : Decl). d.name) ds i some_decl d w)
    ∙ (or_false (is_reserved (get_or ds i some_decl).name) (is_declared (take (1 + i - 1) ds) (get_or ds i some_decl).name) (p.single i some_decl w)).0)

-- ---- members

not_false : (b : Bool) → not b ≡ false → b ≡ true
not_false true h = refl
not_false false h = absurd (true≢false h)

le_from_ltb : (n k : ℕ) → ltb k n ≡ false → n ≤ k
le_from_ltb n k h = grind (arith, nat_tests)

members_accepted : (ds : List Decl) (ms : List MemberDecl) → ltb 65535 (length ms) ≡ false
    → (has_equal_texts (map (λ (m : MemberDecl). m.name) ms) || has_equal_texts (map json_name_of ms)) || has_equal_texts (map query_name_of ms) ≡ false
    → not (list_all is_query_name (map query_name_of ms)) ≡ false → AreAcceptedMembers (map (member_of ds) ms)
members_accepted ds ms few distinct fit =
    let all = or_false (has_equal_texts (map (λ (m : MemberDecl). m.name) ms) || has_equal_texts (map json_name_of ms)) (has_equal_texts (map query_name_of ms)) distinct in
    let first = or_false (has_equal_texts (map (λ (m : MemberDecl). m.name) ms)) (has_equal_texts (map json_name_of ms)) all.0 in
    record {
      are_few = omega (arith, length-map ms (member_of ds), le_from_ltb (length ms) 65535 few);
      names_differ = ap has_equal_texts (map-map (λ (m : table.Member). m.name) (member_of ds) ms) ∙ first.0;
      json_names_differ = ap has_equal_texts (map-map table.json_name_of (member_of ds) ms) ∙ first.1;
      query_names_differ = ap has_equal_texts (map-map table.query_name_of (member_of ds) ms) ∙ all.1;
      query_names_fit = ap (list_all is_query_name) (map-map table.query_name_of (member_of ds) ms) ∙ not_false (list_all is_query_name (map query_name_of ms)) fit;
    }

no_members : AreAcceptedMembers []
no_members = record { are_few = omega arith; names_differ = refl; json_names_differ = refl; query_names_differ = refl; query_names_fit = refl }

-- those of a structure or a union
form_accepted : (ds : List Decl) (n : ℕ) (d : Decl) (form : Form) → ltb 65535 (length (members_of form)) ≡ false
    → has_clash ds n (record { name = d.name; form = form }) ≡ false → not (list_all is_query_name (query_names_of form)) ≡ false
    → AreAcceptedMembers (table.members_of (kind_of_shape (shape_of ds form)))
form_accepted ds n d (structure ms) few distinct fit = members_accepted ds ms few distinct fit
form_accepted ds n d (union ms) few distinct fit = members_accepted ds ms few distinct fit
form_accepted ds n d (list l) few distinct fit = no_members
form_accepted ds n d (map_form m) few distinct fit = no_members

-- ---- what stands at the places of the table

some_equal : {A : Type 0} (a b : A) → Some a ≡ Some b → a ≡ b
some_equal a b e = cc

declared_at : {X : Type 0} (ds : List X) (n : ℕ) (d : X) → slice_get ds n ≡ Some d → (n < length ds) × (get_or ds n d ≡ d)
declared_at [] n d found = absurd (let e : None ≡ Some d = found in cc)
declared_at (x ∷ xs) zero d found = (omega arith, some_equal x d found)
declared_at (x ∷ xs) (suc n) d found = let more = declared_at xs n d found in (omega (arith, more.0), more.1)

slice_get-map : {X Y : Type 0} (f : X → Y) (xs : List X) (n : ℕ) → slice_get (map f xs) n ≡ option_map f (slice_get xs n)
slice_get-map f [] n = refl
slice_get-map f (x ∷ xs) zero = refl
slice_get-map f (x ∷ xs) (suc n) = slice_get-map f xs n

abbrev to_declaration : List Decl → Decl → table.Declaration
to_declaration ds d = record { name = d.name; shape = shape_of ds d.form }

-- a fact of each kind that the table can have
module _ (ds : List Decl) (P : Kind → Type 0) (of_scalar : (s : Scalar) → P (scalar s)) (of_document : P document) (of_nothing : P nothing)
    (of_form : (n : ℕ) (d : Decl) → n < length ds → get_or ds n d ≡ d → P (kind_of_shape (shape_of ds d.form))) where
  of_found : (n : ℕ) (o : Option Decl) → slice_get ds n ≡ o → P (option_map_or kind_of_shape (option_map (λ (d : table.Declaration). d.shape) (option_map (to_declaration ds) o)) nothing)
  of_found n None found = of_nothing
  of_found n (Some d) found = let at = declared_at ds n d found in of_form n d at.0 at.1

  of_target : (target : Target) → P (kind_of_target (table_from ds) target)
  of_target (Simple s) = of_scalar s
  of_target Document = of_document
  of_target (Declared r) =
      let Q : Option table.Declaration → Type 0 = λ o. P (option_map_or kind_of_shape (option_map (λ (d : table.Declaration). d.shape) o) nothing) in
      subst Q (sym (slice_get-map (to_declaration ds) ds r.0)) (of_found r.0 (slice_get ds r.0) refl)

  pub of_place : (at : Place) → P (kind_of (table_from ds) at)
  of_place at = of_target at.target

members_in_table : (ds : List Decl) → Passes ds → (at : Place) → AreAcceptedMembers (table.members_of (kind_of (table_from ds) at))
members_in_table ds p = of_place ds (λ kind. AreAcceptedMembers (table.members_of kind)) (λ s. no_members) no_members no_members (λ n d within is.
    form_accepted ds (1 + n) d d.form
    (ap (λ (d : Decl). ltb 65535 (length (members_of d.form))) (sym is) ∙ (or_false (ltb 65535 (length (members_of (get_or ds n d).form))) (eqb (1 + n) 65536) (p.few n d within)).0)
    (ap (λ d. has_clash ds (1 + n) d) (sym is) ∙ p.distinct n d within)
    (ap (λ d. has_unfit_name ds (1 + n) d) (sym is) ∙ p.fit n d within))

-- ---- elements

first_of_all : (name : List ℕ) → not (list_all is_query_name (name ∷ [])) ≡ false → is_query_name name ≡ true
first_of_all name fit = elim (cases_Bool (is_query_name name)) [
  | inl fits ↦ fits
  | inr unfit ↦ absurd (true≢false (rw unfit at fit))
]

element_fits : (ds : List Decl) (form : Form) → not (list_all is_query_name (query_names_of form)) ≡ false → (l : table.ListShape) → list_shape_of (kind_of_shape (shape_of ds form)) ≡ Some l
    → is_query_name (element_name_of l) ≡ true
element_fits ds (structure ms) fit l found = absurd (let e : None ≡ Some l = found in cc)
element_fits ds (union ms) fit l found = absurd (let e : None ≡ Some l = found in cc)
element_fits ds (map_form m) fit l found = absurd (let e : None ≡ Some l = found in cc)
element_fits ds (list k) fit l found =
    ap (λ (l : table.ListShape). is_query_name (element_name_of l)) (sym (some_equal (shape_of_list ds k) l found)) ∙ first_of_all (written_name_of k) fit

elements_in_table : (ds : List Decl) → Passes ds → (at : Place) (l : table.ListShape) → list_shape_of (kind_of (table_from ds) at) ≡ Some l → is_query_name (element_name_of l) ≡ true
elements_in_table ds p = of_place ds (λ kind. (l : table.ListShape) → list_shape_of kind ≡ Some l → is_query_name (element_name_of l) ≡ true)
    (λ s l found. absurd (let e : None ≡ Some l = found in cc)) (λ l found. absurd (let e : None ≡ Some l = found in cc))
    (λ l found. absurd (let e : None ≡ Some l = found in cc))
    (λ n d within is. element_fits ds d.form (ap (λ d. has_unfit_name ds (1 + n) d) (sym is) ∙ p.fit n d within))

-- ---- keys and values of maps

both_of_all : (key value : List ℕ) → not (list_all is_query_name (key ∷ value ∷ [])) ≡ false → (is_query_name key ≡ true) × (is_query_name value ≡ true)
both_of_all key value fit =
    let all = not_false (list_all is_query_name (key ∷ value ∷ [])) fit in
    let parts = and_parts (is_query_name key) (list_all is_query_name (value ∷ [])) all in
    (parts.0, (and_parts (is_query_name value) true parts.1).0)

map_names_accepted : (ds : List Decl) (m : MapDecl) → not (list_all is_query_name (query_names_of (map_form m))) ≡ false → has_one_entry_name (map_form m) ≡ false
    → AreAcceptedNames (shape_of_map ds m)
map_names_accepted ds m fit apart =
    let both = both_of_all (key_name_of m) (value_name_of m) fit in
    record { key_name_fits = both.0; value_name_fits = both.1; names_differ = apart }

entry_names_accepted : (ds : List Decl) (form : Form) → not (list_all is_query_name (query_names_of form)) ≡ false → has_one_entry_name form ≡ false
    → (m : table.MapShape) → map_shape_of (kind_of_shape (shape_of ds form)) ≡ Some m → AreAcceptedNames m
entry_names_accepted ds (structure ms) fit apart m found = absurd (let e : None ≡ Some m = found in cc)
entry_names_accepted ds (union ms) fit apart m found = absurd (let e : None ≡ Some m = found in cc)
entry_names_accepted ds (list l) fit apart m found = absurd (let e : None ≡ Some m = found in cc)
entry_names_accepted ds (map_form k) fit apart m found =
    subst AreAcceptedNames (some_equal (shape_of_map ds k) m found) (map_names_accepted ds k fit apart)

entry_names_in_table : (ds : List Decl) → Passes ds → (at : Place) (m : table.MapShape) → map_shape_of (kind_of (table_from ds) at) ≡ Some m → AreAcceptedNames m
entry_names_in_table ds p = of_place ds (λ kind. (m : table.MapShape) → map_shape_of kind ≡ Some m → AreAcceptedNames m)
    (λ s m found. absurd (let e : None ≡ Some m = found in cc)) (λ m found. absurd (let e : None ≡ Some m = found in cc))
    (λ m found. absurd (let e : None ≡ Some m = found in cc))
    (λ n d within is. entry_names_accepted ds d.form
    (ap (λ d. has_unfit_name ds (1 + n) d) (sym is) ∙ p.fit n d within)
    (ap (λ d. has_key_value_name ds (1 + n) d) (sym is) ∙ p.told_apart n d within))

-- ---- targets

-- a scalar or a document
abbrev IsSimple : Target → Type 0
IsSimple (Declared r) = ⊥
IsSimple _ = Unit {0}

shape_is_something : (s : table.Shape) → kind_of_shape s ≢ nothing
shape_is_something (table.Shape.structure ms) e = cc
shape_is_something (table.Shape.union ms) e = cc
shape_is_something (table.Shape.list l) e = cc
shape_is_something (table.Shape.map m) e = cc

slice_get_at : {X : Type 0} (xs : List X) (n : ℕ) (d : X) → n < length xs → slice_get xs n ≡ Some (get_or xs n d)
slice_get_at [] n d within = absurd (omega arith)
slice_get_at (x ∷ xs) zero d within = refl
slice_get_at (x ∷ xs) (suc n) d within = slice_get_at xs n d (omega arith)

declared_is_something : (ds : List Decl) (m : ℕ) → m < length ds → kind_of_target (table_from ds) (Declared (record { 0 = m })) ≢ nothing
declared_is_something ds m within none =
    let found : slice_get (table_from ds) m ≡ Some (to_declaration ds (get_or ds m some_decl)) =
    slice_get-map (to_declaration ds) ds m ∙ ap (option_map (to_declaration ds)) (slice_get_at ds m some_decl within) in
    shape_is_something (shape_of ds (get_or ds m some_decl).form)
    (sym (ap (λ o. option_map_or kind_of_shape (option_map (λ (d : table.Declaration). d.shape) o) nothing) found) ∙ none)

-- a name of no declaration, with what it names
record IsNamed (name : List ℕ) (t : Target) : Type 0 where
  is_simple : IsSimple t
  names_documents : is_document_target t ≡ true → name ≡ codes "document"

scalar_named : (name : List ℕ) (s : Scalar) → IsNamed name (Simple s)
scalar_named name s = record { is_simple = tt; names_documents = λ is. cc }

each_named : AllByRecursion (λ (p : List ℕ × Target). IsNamed p.0 p.1) simple_targets
each_named =
    let one : (name : List ℕ) (s : Scalar) → IsNamed name (Simple s) = scalar_named in
    let documents : IsNamed (codes "document") Document = record { is_simple = tt; names_documents = λ is. refl } in
    (one _ _, (one _ _, (one _ _, (one _ _, (one _ _, (one _ _, (one _ _, (one _ _, (one _ _, (one _ _, (documents, tt)))))))))))

abbrev FoundNamed : List ℕ → Target → Type 0
FoundNamed word t = (name : List ℕ) × IsNamed name t × (bytes_eq word name ≡ true)

one_named : (b : Bool) (p : List ℕ × Target) (o : Option (List ℕ × Target)) (word : List ℕ) (t : Target) → bytes_eq word p.0 ≡ b → IsNamed p.0 p.1
    → (option_map (λ (q : List ℕ × Target). q.1) o ≡ Some t → FoundNamed word t) → option_map (λ (q : List ℕ × Target). q.1) (cond b (Some p) o) ≡ Some t → FoundNamed word t
one_named true p o word t is named more found = (p.0, subst (IsNamed p.0) (some_equal p.1 t found) named, is)
one_named false p o word t is named more found = more found

found_named : (names : List (List ℕ × Target)) → AllByRecursion (λ (p : List ℕ × Target). IsNamed p.0 p.1) names → (word : List ℕ) (t : Target) → named names word ≡ Some t
    → FoundNamed word t
found_named [] all word t found = absurd (let e : None ≡ Some t = found in cc)
found_named (p ∷ ps) all word t found =
    one_named (bytes_eq word p.0) p (find (λ (q : List ℕ × Target). bytes_eq word q.0) ps) word t refl all.0 (λ more. found_named ps all.1 word t more) found

simple_is_something : (ds : List Decl) (t : Target) → IsSimple t → kind_of_target (table_from ds) t ≢ nothing
simple_is_something ds (Simple s) is none = let e : scalar s ≡ nothing = none in cc
simple_is_something ds Document is none = let e : document ≡ nothing = none in cc
simple_is_something ds (Declared r) is none = absurd is

named_is_something : (ds : List Decl) (target : List ℕ) (o : Option Target) → ((t : Target) → o ≡ Some t → IsSimple t) → not (is_some o) && not (is_declared ds target) ≡ false
    → kind_of_target (table_from ds) (unwrap_or o (Declared (record { 0 = unwrap_or (position (λ (d : Decl). bytes_eq d.name target) ds) 0 }))) ≢ nothing
named_is_something ds target (Some t) simple known none = simple_is_something ds t (simple t refl) none
named_is_something ds target None simple known none =
    let any = Any-from_list_any (λ (d : Decl). bytes_eq d.name target) ds (not_false (is_declared ds target) known) in
    let first = first_of (λ (d : Decl). bytes_eq d.name target) ds any.0 any.1 any.2 (ap (λ (d : Decl). bytes_eq d.name target) any.3 ∙ any.4) in
    declared_is_something ds first.0 (omega (arith, first.1, any.2))
    (ap (λ o. kind_of_target (table_from ds) (Declared (record { 0 = unwrap_or o 0 }))) (sym first.2) ∙ none)

known_is_something : (ds : List Decl) (p : PlaceWords) → has_unknown_target ds p ≡ false → kind_of (table_from ds) (place_of ds p) ≢ nothing
known_is_something ds p known =
    named_is_something ds p.target (named simple_targets p.target) (λ t is. (found_named simple_targets each_named p.target t is).1.is_simple) known

some_place : PlaceWords
some_place = record { target = []; time = None }

member_found : (ds : List Decl) (ms : List MemberDecl) → list_any (has_unknown_target ds) (map place_of_member ms) ≡ false
    → (inner : Place) (k : ℕ) → place_in (structure_of (map (member_of ds) ms)) (Some k) ≡ Some inner → (o : Option MemberDecl) → slice_get ms k ≡ o → kind_of (table_from ds) inner ≢ nothing
member_found ds ms known inner k found None here =
    absurd (let e : None ≡ Some inner = sym (ap (option_map (λ (m : table.Member). m.place)) (slice_get-map (member_of ds) ms k ∙ ap (option_map (member_of ds)) here)) ∙ found in cc)
member_found ds ms known inner k found (Some m) here =
    let at = declared_at ms k m here in
    let place : place_of ds (place_of_member m) ≡ inner =
    some_equal (place_of ds (place_of_member m)) inner (sym (ap (option_map (λ (m : table.Member). m.place)) (slice_get-map (member_of ds) ms k ∙ ap (option_map (member_of ds)) here)) ∙ found) in
    let is_known : has_unknown_target ds (place_of_member m) ≡ false = false_if (has_unknown_target ds (place_of_member m)) (λ unknown.
    not_both (list_any (has_unknown_target ds) (map place_of_member ms))
    (list_any_at (has_unknown_target ds) (map place_of_member ms) k some_place (omega (arith, at.0, length-map ms place_of_member))
    (ap (has_unknown_target ds) (get_or-map place_of_member ms k m some_place at.0 ∙ ap place_of_member at.1) ∙ unknown))
    known) in
    let P : Place → Type 0 = λ p. kind_of (table_from ds) p ≢ nothing in
    subst P place (known_is_something ds (place_of_member m) is_known)

member_known : (ds : List Decl) (ms : List MemberDecl) → list_any (has_unknown_target ds) (map place_of_member ms) ≡ false
    → (inner : Place) (n : Option ℕ) → place_in (structure_of (map (member_of ds) ms)) n ≡ Some inner → kind_of (table_from ds) inner ≢ nothing
member_known ds ms known inner None found = absurd (let e : None ≡ Some inner = found in cc)
member_known ds ms known inner (Some k) found = member_found ds ms known inner k found (slice_get ms k) refl

only_place_known : (ds : List Decl) (p : PlaceWords) (inner : Place) → Some (place_of ds p) ≡ Some inner → list_any (has_unknown_target ds) (p ∷ []) ≡ false
    → kind_of (table_from ds) inner ≢ nothing
only_place_known ds p inner found known =
    let P : Place → Type 0 = λ p. kind_of (table_from ds) p ≢ nothing in
    subst P (some_equal (place_of ds p) inner found) (known_is_something ds p (or_false (has_unknown_target ds p) false known).0)

place_known : (ds : List Decl) (form : Form) → list_any (has_unknown_target ds) (places_of form) ≡ false
    → (inner : Place) (n : Option ℕ) → place_in (kind_of_shape (shape_of ds form)) n ≡ Some inner → kind_of (table_from ds) inner ≢ nothing
place_known ds (structure ms) known inner n found = member_known ds ms known inner n found
place_known ds (union ms) known inner n found = member_known ds ms known inner n found
place_known ds (list l) known inner n found = only_place_known ds (place_of_elements l) inner found known
place_known ds (map_form m) known inner n found = only_place_known ds (place_of_values m) inner found known

closed : (ds : List Decl) → Passes ds → IsClosed (table_from ds)
closed ds p outer inner n = of_place ds (λ kind. place_in kind n ≡ Some inner → kind_of (table_from ds) inner ≢ nothing)
    (λ s found. absurd (let e : None ≡ Some inner = found in cc)) (λ found. absurd (let e : None ≡ Some inner = found in cc))
    (λ found. absurd (let e : None ≡ Some inner = found in cc))
    (λ k d within is found. place_known ds d.form
    (ap (λ d. has_unknown_shape ds (1 + k) d) (sym is) ∙ p.known k d within) inner n found) outer

-- ---- sparse lists and maps

named_is_no_document : (ds : List Decl) (word : List ℕ) (o : Option Target) (other : ShapeRef) → named simple_targets word ≡ o → is_document_name word ≡ false
    → IsDocument (kind_of_target (table_from ds) (unwrap_or o (Declared other))) → ⊥
named_is_no_document ds word None other found unnamed is = let no' = document_target_is (table_from ds) (Declared other) is in cc
named_is_no_document ds word (Some t) other found unnamed is =
    let n = found_named simple_targets each_named word t found in
    not_both (is_document_name word) (ap (bytes_eq word) (sym (n.1.names_documents (document_target_is (table_from ds) t is))) ∙ n.2) unnamed

-- the place of what a sparse list or map has
dense_place : (ds : List Decl) (p : PlaceWords) (sparse : Bool) (inner : Place) → sparse && is_document_name p.target ≡ false → sparse ≡ true
    → Some (place_of ds p) ≡ Some inner → IsDocument (kind_of (table_from ds) inner) → ⊥
dense_place ds p false inner dense sparse found is = cc
dense_place ds p true inner dense sparse found is =
    named_is_no_document ds p.target (named simple_targets p.target) _ refl dense
    (subst (λ q. IsDocument (kind_of (table_from ds) q)) (sym (some_equal (place_of ds p) inner found)) is)

form_is_dense : (ds : List Decl) (form : Form) → has_sparse_documents form ≡ false → (inner : Place) (n : Option ℕ) → IsSparse (kind_of_shape (shape_of ds form))
    → place_in (kind_of_shape (shape_of ds form)) n ≡ Some inner → IsDocument (kind_of (table_from ds) inner) → ⊥
form_is_dense ds (structure ms) dense inner n sparse found is = sparse
form_is_dense ds (union ms) dense inner n sparse found is = sparse
form_is_dense ds (list l) dense inner n sparse found is = dense_place ds (place_of_elements l) l.is_sparse inner dense sparse found is
form_is_dense ds (map_form m) dense inner n sparse found is = dense_place ds (place_of_values m) m.is_sparse inner dense sparse found is

dense : (ds : List Decl) → Passes ds → (at inner : Place) (n : Option ℕ) → IsSparse (kind_of (table_from ds) at) → place_in (kind_of (table_from ds) at) n ≡ Some inner
    → IsDocument (kind_of (table_from ds) inner) → ⊥
dense ds p at inner n = of_place ds (λ kind. IsSparse kind → place_in kind n ≡ Some inner → IsDocument (kind_of (table_from ds) inner) → ⊥)
    (λ s sparse found is. sparse) (λ sparse found is. sparse) (λ sparse found is. sparse)
    (λ k d within is. form_is_dense ds d.form (ap (λ d. is_sparse_document ds (1 + k) d) (sym is) ∙ p.dense k d within) inner n) at

pub accepted_table : (ds : List Decl) → first_fault ds tests ≡ None
    → ((at : Place) → HaveTextNames (table.members_of (kind_of (table_from ds) at))) → IsAccepted (table_from ds)
accepted_table ds none texts =
    let p = passes ds none in
    record {
      is_closed = closed ds p;
      are_few = omega (arith, few_declarations ds p, length-map ds (to_declaration ds));
      names_differ = ap has_equal_texts (map-map (λ (d : table.Declaration). d.name) (to_declaration ds) ds) ∙ names_differ ds p;
      names_are_free = ap (list_any is_reserved) (map-map (λ (d : table.Declaration). d.name) (to_declaration ds) ds) ∙ names_are_free ds p;
      names_are_texts = texts;
      members_are_accepted = members_in_table ds p;
      element_names_fit = elements_in_table ds p;
      entry_names_are_accepted = entry_names_in_table ds p;
      sparse_without_documents = dense ds p;
    }
