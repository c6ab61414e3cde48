-- A container has at most one value more than what its entries mean.
use Rattle.std.proofs.Common.{◌≡◌, ◌⊎◌, ◌≤◌, ◌+◌, ℕ, suc, List, [], ◌∷◌, ◌++◌, Bool, true, false, Option, Some, None, refl, sym, arith, subst, inl, inr}
use Rattle.std.specs.declared.cmp.Ordering.{Ordering}
use Rattle.std.specs.declared.cmp.Ordering.TheVariants.{Less, Equal, Greater}
use Rattle.std.specs.Ordering.{nat_cmp, match_ordering}
use Rattle.std.specs.Cmp.Lexicographic.{slice_cmp}
use Rattle.std.specs.Prelude.{filter, if◌then◌else◌, option_map, option_and_then}
use Rattle.smithy_declarations.specs.Table.{Kind, structure_of, union_of, list_of, map_of}
use Rattle.smithy_declarations.specs.Value.{Value, list, map, structure, union, null_element, values_of, MapEntries, no_map_entries, map_entry, put_entry, MemberValues, no_member_values, member_value, put_member}
use Rattle.smithy_shapes.specs.Container.{Entry, element_of, elements_from, entry_step, entries_from, member_step, members_from, is_variant, all_regular, variant_of, container_of}
use Rattle.smithy_shapes.specs.Lemmas.ElementFolds.{element_apart, elements_apart}
use Rattle.smithy_shapes.specs.Lemmas.Entries.{entry_with}
use Rattle.smithy_shapes.specs.Lemmas.Options.{made, chosen, same_some, step_apart}
use Rattle.smithy_schema.specs.Nodes.{nodes, elements_nodes, entries_nodes, members_nodes}

-- the entries have room for so many values, each for one at least and for all that it means
abbrev pub HaveRoom : List Entry → ℕ → Type 0
HaveRoom [] most = Unit {0}
HaveRoom (e ∷ es) most =
    (one rest : ℕ) × (one + rest ≤ most) × (1 ≤ one) × ((v : Value) → e.meaning ≡ Some v → nodes v ≤ one) × HaveRoom es rest

-- ---- lists

counts_more : (us : List Value) (v : Value) → elements_nodes (values_of (us ++ v ∷ [])) ≤ elements_nodes (values_of us) + nodes v
counts_more [] v = omega arith
counts_more (u ∷ us) v = omega (arith, counts_more us v)

element_counts : (is_sparse nil : Bool) (mean : Option Value) (most : ℕ) (v : Value) → 1 ≤ most → ((w : Value) → mean ≡ Some w → nodes w ≤ most)
    → ((is_sparse ≡ true) × (nil ≡ true) × (v ≡ null_element)) ⊎ (mean ≡ Some v) → nodes v ≤ most
element_counts is_sparse nil mean most v some each (inl null) = subst (λ u. nodes u ≤ most) (sym null.2) some
element_counts is_sparse nil mean most v some each (inr means) = each v means

elements_count : (is_sparse : Bool) (most : ℕ) (us : List Value) (es : List Entry) (ws : List Value) → HaveRoom es most
    → elements_from is_sparse us es ≡ Some ws → elements_nodes (values_of ws) ≤ elements_nodes (values_of us) + most
elements_count is_sparse most us [] ws room h =
    subst (λ vs. elements_nodes (values_of vs) ≤ elements_nodes (values_of us) + most) (same_some us ws h) (omega arith)
elements_count is_sparse most us (e ∷ es) ws (one, rest, all, some, each, room) h =
    let apart = elements_apart is_sparse e.is_null e.meaning us ws es h in
    let here = element_counts is_sparse e.is_null e.meaning one apart.0 some each (element_apart is_sparse e.is_null e.meaning apart.0 apart.1) in
    omega (arith, all, here, counts_more us apart.0, elements_count is_sparse rest (us ++ apart.0 ∷ []) es ws room apart.2)

-- ---- structures

placed_counts : (n at : ℕ) (v w : Value) (rest more : MemberValues) (order : Ordering) → members_nodes more ≤ nodes v + members_nodes rest
    → members_nodes (match_ordering order (member_value n v (member_value at w rest)) (member_value at v rest) (member_value at w more))
    ≤ nodes v + members_nodes (member_value at w rest)
placed_counts n at v w rest more Less next = omega arith
placed_counts n at v w rest more Equal next = omega arith
placed_counts n at v w rest more Greater next = omega arith

put_counts : (n : ℕ) (v : Value) (fs : MemberValues) → members_nodes (put_member n v fs) ≤ nodes v + members_nodes fs
put_counts n v no_member_values = omega arith
put_counts n v (member_value at w rest) = placed_counts n at v w rest (put_member n v rest) (nat_cmp n at) (put_counts n v rest)

-- an entry by its fields
entry_counts : (key : Option (List ℕ)) (named : Option ℕ) (mean : Option Value) (absent skippable nil : Bool) (most : ℕ) (fs us : MemberValues)
    → ((w : Value) → mean ≡ Some w → nodes w ≤ most) → member_step (entry_with key named mean absent skippable nil) fs ≡ Some us
    → members_nodes us ≤ members_nodes fs + most
entry_counts None named mean absent skippable nil most fs us each h = cc
entry_counts (Some key) named mean true skippable nil most fs us each h = subst (λ ms. members_nodes ms ≤ members_nodes fs + most) (same_some fs us h) (omega arith)
entry_counts (Some key) None mean false true nil most fs us each h = subst (λ ms. members_nodes ms ≤ members_nodes fs + most) (same_some fs us h) (omega arith)
entry_counts (Some key) None mean false false nil most fs us each h = cc
entry_counts (Some key) (Some n) None false skippable nil most fs us each h = cc
entry_counts (Some key) (Some n) (Some v) false skippable nil most fs us each h =
    subst (λ ms. members_nodes ms ≤ members_nodes fs + most) (same_some (put_member n v fs) us h) (omega (arith, put_counts n v fs, each v refl))

members_count : (most : ℕ) (fs us : MemberValues) (es : List Entry) → HaveRoom es most → members_from fs es ≡ Some us
    → members_nodes us ≤ members_nodes fs + most
members_count most fs us [] room h = subst (λ ms. members_nodes ms ≤ members_nodes fs + most) (same_some fs us h) (omega arith)
members_count most fs us (e ∷ es) (one, rest, all, some, each, room) h =
    let apart = step_apart (member_step e fs) (λ more. members_from more es) us h in
    omega (
      arith,
      all,
      entry_counts e.key e.position e.meaning e.is_absent e.is_skippable e.is_null one fs apart.0 each apart.1,
      members_count rest apart.0 us es room apart.2,
    )

-- ---- unions

more_room : (es : List Entry) (some most : ℕ) → some ≤ most → HaveRoom es some → HaveRoom es most
more_room [] some most up room = tt
more_room (e ∷ es) some most up (one, rest, all, there, each, room) = (one, rest, omega (arith, up, all), there, each, room)

kept_room : (most one rest : ℕ) (b : Bool) (e : Entry) (es : List Entry) → one + rest ≤ most → 1 ≤ one → ((v : Value) → e.meaning ≡ Some v → nodes v ≤ one)
    → HaveRoom es rest → HaveRoom (if b then e ∷ es else es) most
kept_room most one rest true e es all some each room = (one, rest, all, some, each, room)
kept_room most one rest false e es all some each room = more_room es rest most (omega (arith, all)) room

variants_room : (most : ℕ) (es : List Entry) → HaveRoom es most → HaveRoom (filter is_variant es) most
variants_room most [] room = tt
variants_room most (e ∷ es) (one, rest, all, some, each, room) =
    kept_room most one rest (is_variant e) e (filter is_variant es) all some each (variants_room rest es room)

one_counts : (most : ℕ) (position : Option ℕ) (mean : Option Value) (v : Value) → ((w : Value) → mean ≡ Some w → nodes w ≤ most)
    → option_and_then (λ n. option_map (union n) mean) position ≡ Some v → nodes v ≤ suc most
one_counts most None mean v each h = cc
one_counts most (Some n) None v each h = cc
one_counts most (Some n) (Some w) v each h = subst (λ u. nodes u ≤ suc most) (same_some (union n w) v h) (omega (arith, each w refl))

variant_counts : (most : ℕ) (es : List Entry) (v : Value) → HaveRoom es most → variant_of es ≡ Some v → nodes v ≤ suc most
variant_counts most [] v room h = cc
variant_counts most (e ∷ []) v (one, rest, all, some, each, room) h = omega (arith, all, one_counts one e.position e.meaning v each h)
variant_counts most (e ∷ f ∷ es) v room h = cc

-- ---- maps

entry_placed_counts : (key at : List ℕ) (v w : Value) (rest more : MapEntries) (order : Ordering) → entries_nodes more ≤ nodes v + entries_nodes rest
    → entries_nodes (match_ordering order (map_entry key v (map_entry at w rest)) (map_entry at v rest) (map_entry at w more))
    ≤ nodes v + entries_nodes (map_entry at w rest)
entry_placed_counts key at v w rest more Less next = omega arith
entry_placed_counts key at v w rest more Equal next = omega arith
entry_placed_counts key at v w rest more Greater next = omega arith

put_entry_counts : (key : List ℕ) (v : Value) (es : MapEntries) → entries_nodes (put_entry key v es) ≤ nodes v + entries_nodes es
put_entry_counts key v no_map_entries = omega arith
put_entry_counts key v (map_entry at w rest) =
    entry_placed_counts key at v w rest (put_entry key v rest) (slice_cmp nat_cmp key at) (put_entry_counts key v rest)

map_entry_counts : (is_sparse nil : Bool) (key : Option (List ℕ)) (mean : Option Value) (most : ℕ) (fs us : MapEntries) → 1 ≤ most
    → ((v : Value) → mean ≡ Some v → nodes v ≤ most)
    → option_and_then (λ key. option_map (λ v. put_entry key v fs) (element_of is_sparse nil mean)) key ≡ Some us
    → entries_nodes us ≤ entries_nodes fs + most
map_entry_counts is_sparse nil None mean most fs us some each h = cc
map_entry_counts is_sparse nil (Some key) mean most fs us some each h =
    let v = made (λ v. put_entry key v fs) (element_of is_sparse nil mean) us h in
    let here = element_counts is_sparse nil mean most v.0 some each (element_apart is_sparse nil mean v.0 v.1) in
    subst (λ es. entries_nodes es ≤ entries_nodes fs + most) v.2 (omega (arith, here, put_entry_counts key v.0 fs))

entries_count : (is_sparse : Bool) (most : ℕ) (fs us : MapEntries) (es : List Entry) → HaveRoom es most → entries_from is_sparse fs es ≡ Some us
    → entries_nodes us ≤ entries_nodes fs + most
entries_count is_sparse most fs us [] room h = subst (λ ms. entries_nodes ms ≤ entries_nodes fs + most) (same_some fs us h) (omega arith)
entries_count is_sparse most fs us (e ∷ es) (one, rest, all, some, each, room) h =
    let apart = step_apart (entry_step is_sparse e fs) (λ more. entries_from is_sparse more es) us h in
    omega (
      arith,
      all,
      map_entry_counts is_sparse e.is_null e.key e.meaning one fs apart.0 some each apart.1,
      entries_count is_sparse rest apart.0 us es room apart.2,
    )

-- ---- a container

-- counts itself, and no more than its entries have room for
pub container_counts : (k : Kind) (es : List Entry) (most : ℕ) (v : Value) → HaveRoom es most → container_of k es ≡ Some v → nodes v ≤ suc most
container_counts (structure_of members) es most v room h =
    let us = made structure (members_from no_member_values es) v h in
    subst (λ u. nodes u ≤ suc most) us.2 (omega (arith, members_count most no_member_values us.0 es room us.1))
container_counts (union_of members) es most v room h =
    variant_counts most (filter is_variant es) v (variants_room most es room)
    (chosen (all_regular es) (variant_of (filter is_variant es)) v h).1
container_counts (list_of l) es most v room h =
    let us = made (λ vs. list (values_of vs)) (elements_from l.is_sparse [] es) v h in
    subst (λ u. nodes u ≤ suc most) us.2 (omega (arith, elements_count l.is_sparse most [] es us.0 room us.1))
container_counts (map_of m) es most v room h =
    let us = made map (entries_from m.is_sparse no_map_entries es) v h in
    subst (λ u. nodes u ≤ suc most) us.2 (omega (arith, entries_count m.is_sparse most no_map_entries us.0 es room us.1))
container_counts _ es most v room h = cc
