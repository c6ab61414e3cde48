-- The bodies of operations, and the first declaration.
use Rattle.std.proofs.Common.{◌≡◌, ◌<◌, ◌∙◌, ℕ, List, [], ◌∷◌, ◌++◌, length, slice_get, append_assoc, Option, Some, None, option_map, refl, sym, ap, subst, lt-ltb}
use Rattle.std.specs.Prelude.{Bool, true, cond, is_some, flat_map, option_to_list}
use Rattle.std.specs.List.{AllZip}
use Rattle.std.specs.Option.{option_and_then}
use Rattle.std.proofs.lemmas.Option.{slice_get_within}
use Rattle.smithy_model.specs.Model as model
use Rattle.smithy_model.specs.Model.{Member, Kind, Shape, Reference, Operation, Model}
use Rattle.smithy_declarations.specs.Decl.{Decl}
use Rattle.smithy_model_table.specs.Declaring.{Names, name_of}
use Rattle.smithy_model_table.specs.Outcomes.{LeftOut, Part, IsPart, IsPartOf, IsPartAt, AreParts}
use Rattle.smithy_model_table.specs.Naming.{is_declared}
use Rattle.smithy_model_table.specs.Reaching.{targets_at, first_of_each, within, AreReached}
use Rattle.smithy_model_table.specs.Wanted.{Wanted, input, output, shape, service, members_of, structure_at, body_of, body_at, body_if, bodies_of, AreRoots}

-- the shape of this number has a declaration
abbrev pub IsDeclaredAt : Model → ℕ → Type 0
IsDeclaredAt m n = (s : Shape) × (slice_get m.shapes n ≡ Some s) × (is_declared s.kind ≡ true)

kind_there : (kind : Kind) → is_some (members_of kind) ≡ true → is_declared kind ≡ true
kind_there (model.structure members) is = refl
kind_there (model.union members) is = refl
kind_there (model.list element) is = refl
kind_there (model.map key value) is = refl
kind_there (model.simple word) is = cc (is)
kind_there model.float is = cc (is)
kind_there model.event_stream is = cc (is)

structure_there : (o : Option Shape) → is_some (option_and_then (λ (s : Shape). members_of s.kind) o) ≡ true
    → (s : Shape) × (o ≡ Some s) × (is_declared s.kind ≡ true)
structure_there None is = absurd (cc (is))
structure_there (Some s) is = (s, refl, kind_there s.kind is)

at_declared : (m : Model) (number root : ℕ) (members : Option (List Member))
    → option_and_then (λ ms. option_map (λ _. body_of m number ms) (structure_at m (body_of m number ms))) members ≡ Some root → IsDeclaredAt m root
at_declared m number root None is = absurd (cc (is))
at_declared m number root (Some ms) is = by (structure_at m (body_of m number ms)) refl is
  where
    by : (o : Option (List Member)) → structure_at m (body_of m number ms) ≡ o → option_map (λ _. body_of m number ms) o ≡ Some root → IsDeclaredAt m root
    by None there made = absurd (cc (made))
    by (Some inner) there made =
        let same : body_of m number ms ≡ root = cc (made) in
        subst (IsDeclaredAt m) same (structure_there (slice_get m.shapes (body_of m number ms)) (ap is_some there))

body_declared : (m : Model) (number root : ℕ) → body_at m number ≡ Some root → IsDeclaredAt m root
body_declared m number root is = at_declared m number root (structure_at m number) is

given_declared : (m : Model) (given : Option Reference) (root : ℕ) → body_if m given ≡ Some root → IsDeclaredAt m root
given_declared m None root is = absurd (cc (is))
given_declared m (Some r) root is = body_declared m r.number root is

first_is : (root n : ℕ) (rest roots : List ℕ) → roots ≡ root ∷ rest → slice_get roots 0 ≡ Some n → root ≡ n
first_is root n rest roots made is = cc (ap (λ (xs : List ℕ). slice_get xs 0) made, is)

-- the first of what may be missing and of what stands behind it
first_of : (m : Model) (o : Option ℕ) (rest : List ℕ) (n : ℕ) → ((root : ℕ) → o ≡ Some root → IsDeclaredAt m root)
    → (slice_get rest 0 ≡ Some n → IsDeclaredAt m n) → slice_get (option_to_list o ++ rest) 0 ≡ Some n → IsDeclaredAt m n
first_of m None rest n one behind is = behind is
first_of m (Some root) rest n one behind is = let same : root ≡ n = cc (is) in subst (IsDeclaredAt m) same (one root refl)

errors_first : (m : Model) (errors : List Reference) (rest : List ℕ) (n : ℕ) → (slice_get rest 0 ≡ Some n → IsDeclaredAt m n)
    → slice_get (flat_map (λ (r : Reference). option_to_list (body_at m r.number)) errors ++ rest) 0 ≡ Some n → IsDeclaredAt m n
errors_first m [] rest n behind is = behind is
errors_first m (r ∷ errors) rest n behind is =
    let bodies = λ (x : Reference). option_to_list (body_at m x.number) in
    first_of m (body_at m r.number) (flat_map bodies errors ++ rest) n (λ root. body_declared m r.number root) (errors_first m errors rest n behind)
    (subst (λ l. slice_get l 0 ≡ Some n) (append_assoc (bodies r) (flat_map bodies errors) rest) is)

bodies_first : (m : Model) (operations : List Operation) (n : ℕ) → slice_get (flat_map (bodies_of m) operations) 0 ≡ Some n → IsDeclaredAt m n
bodies_first m [] n is = absurd (cc (is))
bodies_first m (o ∷ operations) n is =
    let rest = flat_map (bodies_of m) operations in
    let a = option_to_list (body_if m o.input) in
    let b = option_to_list (body_if m o.output) in
    let e = flat_map (λ (r : Reference). option_to_list (body_at m r.number)) o.errors in
    first_of m (body_if m o.input) (b ++ (e ++ rest)) n (given_declared m o.input)
    (first_of m (body_if m o.output) (e ++ rest) n (given_declared m o.output) (errors_first m o.errors rest n (bodies_first m operations n)))
    (subst (λ l. slice_get l 0 ≡ Some n) (append_assoc a (b ++ e) rest ∙ ap (λ l. a ++ l) (append_assoc b e rest)) is)

root_declared : (m : Model) (marks : List Bool) (w : Wanted) (roots : List ℕ) (n : ℕ) → AreRoots m marks w roots → slice_get roots 0 ≡ Some n → IsDeclaredAt m n
root_declared m marks (input name) roots n (o, root, named, body, made) is =
    subst (IsDeclaredAt m) (first_is root n [] roots made is) (given_declared m o.input root body)
root_declared m marks (output name) roots n (o, root, named, body, made) is =
    subst (IsDeclaredAt m) (first_is root n [] roots made is) (given_declared m o.output root body)
root_declared m marks (shape name) roots n (root, (s, named, at, declared, unmarked), made) is =
    subst (IsDeclaredAt m) (first_is root n [] roots made is) (s, at, declared)
root_declared m marks service roots n made is =
    bodies_first m m.operations n (subst (λ l. slice_get l 0 ≡ Some n) made is)

-- what is declared first
abbrev pub IsFirst : List Decl → List ℕ → Type 0
IsFirst decls name = option_map (λ (d : Decl). d.name) (slice_get decls 0) ≡ Some name

part_first : (m : Model) (marks : List Bool) (names : Names) (n : ℕ) (s : Shape) (kind : Kind) (p : Part) (more : List Decl)
    → IsPart m marks names n s kind p → is_declared kind ≡ true → IsFirst (p.decls ++ more) (name_of names n)
part_first m marks names n s (model.structure members) p more is declared = rw (is.2) refl
part_first m marks names n s (model.union members) p more is declared = rw (is.2) refl
part_first m marks names n s (model.list element) p more is declared = rw (is) refl
part_first m marks names n s (model.map key value) p more is declared = rw (is) refl
part_first m marks names n s (model.simple word) p more is declared = cc (declared)
part_first m marks names n s model.float p more is declared = cc (declared)
part_first m marks names n s model.event_stream p more is declared = cc (declared)

parts_first : (m : Model) (marks : List Bool) (names : Names) (order : List ℕ) (parts : List Part) (n : ℕ) → slice_get order 0 ≡ Some n
    → AllZip (IsPartAt m marks names) order parts → IsDeclaredAt m n → IsFirst (flat_map (λ (p : Part). p.decls) parts) (name_of names n)
parts_first m marks names [] parts n is all declared = absurd (cc (is))
parts_first m marks names (k ∷ order) [] n is all declared = absurd all
parts_first m marks names (k ∷ order) (p ∷ parts) n is all (s, at, declared) =
    let same : k ≡ n = cc (is) in
    let one = subst (λ (j : ℕ). IsPartAt m marks names j p) same all.0 in
    part_first m marks names n s s.kind p (flat_map (λ (q : Part). q.decls) parts) (subst (λ o. IsPartOf m marks names n o p) at one) declared

first_reached : (m : Model) (marks : List Bool) (roots order : List ℕ) (n : ℕ) → n < length m.shapes → AreReached m marks roots order
    → slice_get roots 0 ≡ Some n → slice_get order 0 ≡ Some n
first_reached m marks [] order n near reached is = absurd (cc (is))
first_reached m marks (root ∷ roots) order n near reached is =
    let same : root ≡ n = cc (is) in
    let count = length m.shapes in
    let rest = within count (roots ++ flat_map (targets_at m marks) order) in
    ap (λ l. slice_get l 0) reached.in_order
    ∙ ap (λ b. slice_get (first_of_each (cond b (root ∷ rest) rest)) 0) (lt-ltb root count (subst (λ k. k < count) (sym same) near))
    ∙ ap Some same

-- the first wanted shape is the first declaration
pub root_first : (m : Model) (marks : List Bool) (names : Names) (w : Wanted) (roots order : List ℕ) (decls : List Decl) (left : List LeftOut)
    → AreRoots m marks w roots → AreReached m marks roots order → AreParts m marks names order decls left
    → (n : ℕ) → slice_get roots 0 ≡ Some n → option_map (λ (d : Decl). d.name) (slice_get decls 0) ≡ Some (name_of names n)
root_first m marks names w roots order decls left wanted reached (parts, all, made, told) n is =
    let declared = root_declared m marks w roots n wanted is in
    let begins = first_reached m marks roots order n (slice_get_within m.shapes n declared.0 declared.1) reached is in
    rw (made) (parts_first m marks names order parts n begins all declared)
