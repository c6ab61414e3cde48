-- Declarations with their places are the table.
use Rattle.std.proofs.Common.{◌≡◌, ℕ, ◌<◌, List, [], ◌∷◌, ◌++◌, map, length, get_or, refl, sym, ap, ◌∙◌, arith}
use Rattle.std.proofs.lemmas.List.{map-append, length-map, get_or-map, get_or_default}
use Rattle.std.proofs.lemmas.Simd.{map-map}
use Rattle.smithy_declarations.specs.declared.place.Place.{Place}
use Rattle.smithy_declarations.specs.Table as table
use Rattle.smithy_declarations.specs.Decl.{MemberDecl, Form, structure, union, list, map as map_form, Decl}
use Rattle.smithy_declarations.specs.Acceptance.{place_of_member, places_of, place_of, member_of, shape_of}
use Rattle.smithy_shapes.specs.Private.Placed.{member_with, members_with, shape_with, declaration_with, table_with}

members_with_push : (ms : List MemberDecl) (m : MemberDecl) (ps : List Place) (p : Place) → length ms < length ps → p ≡ get_or ps (length ms) p
    → members_with (ms ++ m ∷ []) ps ≡ members_with ms ps ++ member_with m p ∷ []
members_with_push [] m [] p within here = absurd (omega arith)
members_with_push [] m (q ∷ ps) p within here = ap (λ p. member_with m p ∷ []) (sym here)
members_with_push (x ∷ ms) m [] p within here = absurd (omega arith)
members_with_push (x ∷ ms) m (q ∷ ps) p within here = ap (λ more. member_with x q ∷ more) (members_with_push ms m ps p (omega arith) here)

-- one member more, as it is kept
pub member_pushed : {X Y : Type 0} (view : Y → table.Member) (read : X → MemberDecl) (new kept : List Y) (v : Y) (ms : List X) (m : X) (ps : List Place) (p : Place)
    → new ≡ kept ++ v ∷ [] → map view kept ≡ members_with (map read ms) ps → view v ≡ member_with (read m) p → length ms < length ps → p ≡ get_or ps (length ms) p
    → map view new ≡ members_with (map read (ms ++ m ∷ [])) ps
member_pushed view read new kept v ms m ps p is so_far here within place =
    ap (map view) is ∙ map-append view kept (v ∷ []) ∙ ap (λ xs. xs ++ view v ∷ []) so_far ∙ ap (λ x. members_with (map read ms) ps ++ x ∷ []) here
    ∙ sym (ap (λ xs. members_with xs ps) (map-append read ms (m ∷ []))
    ∙ members_with_push (map read ms) (read m) ps p (omega (arith, length-map ms read)) (place ∙ ap (λ n. get_or ps n p) (sym (length-map ms read))))

table_with_push : (ds : List Decl) (d : Decl) (all : List (List Place)) (ps : List Place) → length ds < length all → ps ≡ get_or all (length ds) ps
    → table_with (ds ++ d ∷ []) all ≡ table_with ds all ++ declaration_with d ps ∷ []
table_with_push [] d [] ps within here = absurd (omega arith)
table_with_push [] d (q ∷ all) ps within here = ap (λ p. declaration_with d p ∷ []) (sym here)
table_with_push (x ∷ ds) d [] ps within here = absurd (omega arith)
table_with_push (x ∷ ds) d (q ∷ all) ps within here = ap (λ more. declaration_with x q ∷ more) (table_with_push ds d all ps (omega arith) here)

-- one declaration more
pub declaration_pushed : {X Y : Type 0} (view : Y → table.Declaration) (read : X → Decl) (new kept : List Y) (v : Y) (ds : List X) (d : X) (all : List (List Place)) (ps : List Place)
    → new ≡ kept ++ v ∷ [] → map view kept ≡ table_with (map read ds) all → view v ≡ declaration_with (read d) ps → length ds < length all → ps ≡ get_or all (length ds) ps
    → map view new ≡ table_with (map read (ds ++ d ∷ [])) all
declaration_pushed view read new kept v ds d all ps is so_far here within places =
    ap (map view) is ∙ map-append view kept (v ∷ []) ∙ ap (λ xs. xs ++ view v ∷ []) so_far ∙ ap (λ x. table_with (map read ds) all ++ x ∷ []) here
    ∙ sym (ap (λ xs. table_with xs all) (map-append read ds (d ∷ []))
    ∙ table_with_push (map read ds) (read d) all ps (omega (arith, length-map ds read)) (places ∙ ap (λ n. get_or all n ps) (sym (length-map ds read))))

-- ---- the places that the declarations give

members_placed : (ds : List Decl) (ms : List MemberDecl) → members_with ms (map (place_of ds) (map place_of_member ms)) ≡ map (member_of ds) ms
members_placed ds [] = refl
members_placed ds (m ∷ ms) = ap (λ more. member_of ds m ∷ more) (members_placed ds ms)

shape_placed : (ds : List Decl) (form : Form) → shape_with form (map (place_of ds) (places_of form)) ≡ shape_of ds form
shape_placed ds (structure ms) = ap table.Shape.structure (members_placed ds ms)
shape_placed ds (union ms) = ap table.Shape.union (members_placed ds ms)
shape_placed ds (list l) = refl
shape_placed ds (map_form m) = refl

pub table_placed : {X : Type 0} (ds : List Decl) (read : X → Decl) (xs : List X)
    → table_with (map read xs) (map (λ x. map (place_of ds) (places_of (read x).form)) xs) ≡ map (λ (d : Decl). record { name = d.name; shape = shape_of ds d.form }) (map read xs)
table_placed ds read [] = refl
table_placed ds read (x ∷ xs) =
    ap (λ (s : table.Shape). record { name = (read x).name; shape = s } ∷ table_with (map read xs) (map (λ x. map (place_of ds) (places_of (read x).form)) xs)) (shape_placed ds (read x).form)
    ∙ ap (λ more. record { name = (read x).name; shape = shape_of ds (read x).form } ∷ more) (table_placed ds read xs)

-- ---- lengths

pub lengths_at : {X Y : Type 0} (f : X → ℕ) (g : Y → ℕ) (xs : List X) (ys : List Y) → map f xs ≡ map g ys → (i : ℕ) (x : X) (y : Y) → i < length ys
    → f (get_or xs i x) ≡ g (get_or ys i y)
lengths_at f g xs ys same i x y within =
    let all : length xs ≡ length ys = sym (length-map xs f) ∙ ap length same ∙ length-map ys g in
    sym (get_or-map f xs i x 0 (omega arith)) ∙ ap (λ ns. get_or ns i 0) same ∙ get_or-map g ys i y 0 within

pub lengths_of_places : {X : Type 0} (ds : List Decl) (read : X → Decl) (xs : List X)
    → map length (map (λ x. map (place_of ds) (places_of (read x).form)) xs) ≡ map (λ x. length (places_of (read x).form)) xs
lengths_of_places ds read [] = refl
lengths_of_places ds read (x ∷ xs) =
    ap (λ n. n ∷ map length (map (λ x. map (place_of ds) (places_of (read x).form)) xs)) (length-map (places_of (read x).form) (place_of ds))
    ∙ ap (λ more. length (places_of (read x).form) ∷ more) (lengths_of_places ds read xs)

-- a read at a place that is known by another name
pub read_at : {X : Type 0} (xs : List X) (i j : ℕ) (d : X) → i ≡ j → j < length xs → get_or xs i d ≡ get_or xs j (get_or xs i d)
read_at xs i j d same within = ap (λ k. get_or xs k d) same ∙ get_or_default xs j d (get_or xs i d) within

-- the names of a table that is kept
pub names_kept : {X Y : Type 0} (ds : List Decl) (read : X → Decl) (xs : List X) (view : Y → table.Declaration) (ys : List Y)
    → map view ys ≡ map (λ (d : Decl). record { name = d.name; shape = shape_of ds d.form }) (map read xs) → map (λ y. (view y).name) ys ≡ map (λ x. (read x).name) xs
names_kept ds read xs view ys same =
    sym (map-map (λ (d : table.Declaration). d.name) view ys) ∙ ap (map (λ (d : table.Declaration). d.name)) same
    ∙ map-map (λ (d : table.Declaration). d.name) (λ (d : Decl). record { name = d.name; shape = shape_of ds d.form }) (map read xs)
    ∙ map-map (λ (d : Decl). d.name) read xs
