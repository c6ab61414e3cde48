-- What stands at the places of a closed table.
use Rattle.std.proofs.Common.{◌≡◌, ◌≢◌, ℕ, List, Option, Some, None, option_map, refl, sym, ap, ◌∙◌, [], arith, map, length, ◌≤◌}
use Rattle.std.proofs.lemmas.List.{length-map}
use Rattle.std.specs.List.{slice_get}
use Rattle.std.specs.Option.{option_map_or, IfSome}
use Rattle.std.proofs.lemmas.Option.{slice_get_past, slice_get-map}
use Rattle.smithy_declarations.specs.Table.{Table, Shape, list, map as map_shape, ListShape, MapShape, Member, Kind, structure_of, union_of, nothing, kind_of_shape, kind_of, shape_place, shape_declared, place_in, members_of, IsClosed}

-- the elements of a list that is declared
pub elements_known : (t : Table) (n : ℕ) (l : ListShape) → IsClosed t → Some (list l) ≡ shape_declared t n → kind_of t l.place ≢ nothing
elements_known t n l closed declared = closed (shape_place n) l.place None (rw (sym declared) refl)

-- the values of a map that is declared
pub values_known : (t : Table) (n : ℕ) (m : MapShape) → IsClosed t → Some (map_shape m) ≡ shape_declared t n → kind_of t m.place ≢ nothing
values_known t n m closed declared = closed (shape_place n) m.place None (rw (sym declared) refl)

-- a member has its place in the structure or the union
member_place : (kind : Kind) (k : ℕ) (m : Member) → Some m ≡ slice_get (members_of kind) k → place_in kind (Some k) ≡ Some m.place
member_place (structure_of members) k m found = rw (sym found) refl
member_place (union_of members) k m found = rw (sym found) refl
member_place _ k m found = absurd (let none : Some m ≡ None = found ∙ slice_get_past [] k (omega arith) in cc)

-- so it is known, where it is found among members that are seen through f
pub member_if_known : {X : Type 0} (f : X → Member) (t : Table) (n k : ℕ) (o : Option X) → IsClosed t → option_map f o ≡ slice_get (members_of (kind_of t (shape_place n))) k
    → IfSome o (λ x. kind_of t (f x).place ≢ nothing)
member_if_known f t n k None closed found = tt
member_if_known f t n k (Some x) closed found = closed (shape_place n) (f x).place (Some k) (member_place _ k (f x) found)

-- so each of them is, among the members of a structure or a union that is declared
pub members_known : {X : Type 0} (f : X → Member) (t : Table) (n : ℕ) (xs : List X) → IsClosed t → map f xs ≡ members_of (kind_of t (shape_place n))
    → (k : ℕ) (x : X) → slice_get xs k ≡ Some x → kind_of t (f x).place ≢ nothing
members_known f t n xs closed is k x found =
    closed (shape_place n) (f x).place (Some k) (member_place _ k (f x) (sym (ap (option_map f) found) ∙ sym (slice_get-map f xs k) ∙ ap (λ ms. slice_get ms k) is))

-- the members of a structure or a union that is declared
pub declared_members : (s : Shape) (t : Table) (n : ℕ) → Some s ≡ shape_declared t n → members_of (kind_of_shape s) ≡ members_of (kind_of t (shape_place n))
declared_members s t n declared = ap (λ o. members_of (option_map_or kind_of_shape o nothing)) declared

-- as many as the structure or the union that is declared has
pub few_if_declared : {X : Type 0} (f : X → Member) (xs : List X) (s : Shape) (o : Option Shape) (n : ℕ) → members_of (kind_of_shape s) ≡ map f xs → Some s ≡ o
    → length (members_of (option_map_or kind_of_shape o nothing)) ≤ n → length xs ≤ n
few_if_declared f xs s o n has declared few =
    let e : length (members_of (option_map_or kind_of_shape o nothing)) ≡ length xs = rw (← declared, has) (length-map xs f) in omega arith
