-- A container nests one deeper than what its entries mean.
use Rattle.std.proofs.Common.{◌≡◌, ◌⊎◌, ◌≤◌, ℕ, suc, List, [], ◌∷◌, ◌++◌, Bool, true, false, Option, Some, None, refl, sym, arith, subst, inl, inr}
use Rattle.std.specs.List.{AllByRecursion}
use Rattle.std.specs.declared.cmp.Ordering.{Ordering}
use Rattle.std.specs.declared.cmp.Ordering.TheVariants.{Less, Equal, Greater}
use Rattle.std.specs.Ordering.{nat_cmp, match_ordering}
use Rattle.std.specs.Cmp.Lexicographic.{slice_cmp}
use Rattle.std.specs.Prelude.{filter, if◌then◌else◌, option_map, option_and_then}
use Rattle.smithy_declarations.specs.Table.{Kind, structure_of, union_of, list_of, map_of}
use Rattle.smithy_declarations.specs.Value.{Value, list, map, structure, union, null_element, values_of, MapEntries, no_map_entries, map_entry, put_entry, MemberValues, no_member_values, member_value, put_member, nesting, elements_nesting, entries_nesting, members_nesting}
use Rattle.smithy_shapes.specs.Container.{Entry, element_of, elements_from, entry_step, entries_from, member_step, members_from, is_variant, all_regular, variant_of, container_of}
use Rattle.smithy_shapes.specs.Lemmas.ElementFolds.{element_apart, elements_apart}
use Rattle.smithy_shapes.specs.Lemmas.Entries.{entry_with}
use Rattle.smithy_shapes.specs.Lemmas.Options.{made, chosen, same_some, step_apart}

-- each entry means a value that nests no deeper, if it means anything
abbrev pub NestWithin : ℕ → List Entry → Type 0
NestWithin most es = AllByRecursion (λ (e : Entry). (v : Value) → e.meaning ≡ Some v → nesting v ≤ most) es

-- ---- lists

nests_more : (most : ℕ) (us : List Value) (v : Value) → elements_nesting (values_of us) ≤ most → nesting v ≤ most → elements_nesting (values_of (us ++ v ∷ [])) ≤ most
nests_more most [] v all one = omega arith
nests_more most (u ∷ us) v all one = omega (arith, nests_more most us v (omega arith) one)

element_nests : (is_sparse : Bool) (e : Entry) (most : ℕ) (v : Value) → ((w : Value) → e.meaning ≡ Some w → nesting w ≤ most)
    → ((is_sparse ≡ true) × (e.is_null ≡ true) × (v ≡ null_element)) ⊎ (e.meaning ≡ Some v) → nesting v ≤ most
element_nests is_sparse e most v each (inl null) = subst (λ u. nesting u ≤ most) (sym null.2) (omega arith)
element_nests is_sparse e most v each (inr means) = each v means

elements_nest : (is_sparse : Bool) (most : ℕ) (us : List Value) (es : List Entry) (ws : List Value) → NestWithin most es → elements_nesting (values_of us) ≤ most
    → elements_from is_sparse us es ≡ Some ws → elements_nesting (values_of ws) ≤ most
elements_nest is_sparse most us [] ws each all h = subst (λ vs. elements_nesting (values_of vs) ≤ most) (same_some us ws h) all
elements_nest is_sparse most us (e ∷ es) ws each all h =
    let apart = elements_apart is_sparse e.is_null e.meaning us ws es h in
    elements_nest is_sparse most (us ++ apart.0 ∷ []) es ws each.1
    (nests_more most us apart.0 all (element_nests is_sparse e most apart.0 each.0 (element_apart is_sparse e.is_null e.meaning apart.0 apart.1))) apart.2

-- ---- structures

placed_nests : (most n at : ℕ) (v w : Value) (rest more : MemberValues) (order : Ordering) → nesting v ≤ most → nesting w ≤ most
    → members_nesting rest ≤ most → members_nesting more ≤ most
    → members_nesting (match_ordering order (member_value n v (member_value at w rest)) (member_value at v rest) (member_value at w more)) ≤ most
placed_nests most n at v w rest more Less one first rest_nests more_nests = omega arith
placed_nests most n at v w rest more Equal one first rest_nests more_nests = omega arith
placed_nests most n at v w rest more Greater one first rest_nests more_nests = omega arith

put_nests : (most n : ℕ) (v : Value) (fs : MemberValues) → members_nesting fs ≤ most → nesting v ≤ most → members_nesting (put_member n v fs) ≤ most
put_nests most n v no_member_values all one = omega arith
put_nests most n v (member_value at w rest) all one =
    placed_nests most n at v w rest (put_member n v rest) (nat_cmp n at) one (omega arith) (omega arith) (put_nests most n v rest (omega arith) one)

-- an entry by its fields
entry_nests : (key : Option (List ℕ)) (named : Option ℕ) (mean : Option Value) (absent skippable nil : Bool) (most : ℕ) (fs us : MemberValues)
    → ((w : Value) → mean ≡ Some w → nesting w ≤ most) → members_nesting fs ≤ most
    → member_step (entry_with key named mean absent skippable nil) fs ≡ Some us
    → members_nesting us ≤ most
entry_nests None named mean absent skippable nil most fs us each all h = cc
entry_nests (Some key) named mean true skippable nil most fs us each all h = subst (λ ms. members_nesting ms ≤ most) (same_some fs us h) all
entry_nests (Some key) None mean false true nil most fs us each all h = subst (λ ms. members_nesting ms ≤ most) (same_some fs us h) all
entry_nests (Some key) None mean false false nil most fs us each all h = cc
entry_nests (Some key) (Some n) None false skippable nil most fs us each all h = cc
entry_nests (Some key) (Some n) (Some v) false skippable nil most fs us each all h =
    subst (λ ms. members_nesting ms ≤ most) (same_some (put_member n v fs) us h) (put_nests most n v fs all (each v refl))

members_nest : (most : ℕ) (fs us : MemberValues) (es : List Entry) → NestWithin most es → members_nesting fs ≤ most
    → members_from fs es ≡ Some us → members_nesting us ≤ most
members_nest most fs us [] each all h = subst (λ ms. members_nesting ms ≤ most) (same_some fs us h) all
members_nest most fs us (e ∷ es) each all h =
    let apart = step_apart (member_step e fs) (λ more. members_from more es) us h in
    members_nest most apart.0 us es each.1
    (entry_nests e.key e.position e.meaning e.is_absent e.is_skippable e.is_null most fs apart.0 each.0 all apart.1) apart.2

-- ---- unions

kept_nests : (most : ℕ) (b : Bool) (e : Entry) (es : List Entry) → ((v : Value) → e.meaning ≡ Some v → nesting v ≤ most) → NestWithin most es
    → NestWithin most (if b then e ∷ es else es)
kept_nests most true e es first rest = (first, rest)
kept_nests most false e es first rest = rest

variants_nest : (most : ℕ) (es : List Entry) → NestWithin most es → NestWithin most (filter is_variant es)
variants_nest most [] each = tt
variants_nest most (e ∷ es) each = kept_nests most (is_variant e) e (filter is_variant es) each.0 (variants_nest most es each.1)

one_nests : (most : ℕ) (position : Option ℕ) (mean : Option Value) (v : Value) → ((w : Value) → mean ≡ Some w → nesting w ≤ most)
    → option_and_then (λ n. option_map (union n) mean) position ≡ Some v → nesting v ≤ suc most
one_nests most None mean v each h = cc
one_nests most (Some n) None v each h = cc
one_nests most (Some n) (Some w) v each h = subst (λ u. nesting u ≤ suc most) (same_some (union n w) v h) (omega (arith, each w refl))

variant_nests : (most : ℕ) (es : List Entry) (v : Value) → NestWithin most es → variant_of es ≡ Some v → nesting v ≤ suc most
variant_nests most [] v each h = cc
variant_nests most (e ∷ []) v each h = one_nests most e.position e.meaning v each.0 h
variant_nests most (e ∷ f ∷ es) v each h = cc

-- ---- maps

entry_placed_nests : (most : ℕ) (key at : List ℕ) (v w : Value) (rest more : MapEntries) (order : Ordering) → nesting v ≤ most → nesting w ≤ most
    → entries_nesting rest ≤ most → entries_nesting more ≤ most
    → entries_nesting (match_ordering order (map_entry key v (map_entry at w rest)) (map_entry at v rest) (map_entry at w more)) ≤ most
entry_placed_nests most key at v w rest more Less one first rest_nests more_nests = omega arith
entry_placed_nests most key at v w rest more Equal one first rest_nests more_nests = omega arith
entry_placed_nests most key at v w rest more Greater one first rest_nests more_nests = omega arith

put_entry_nests : (most : ℕ) (key : List ℕ) (v : Value) (es : MapEntries) → entries_nesting es ≤ most → nesting v ≤ most → entries_nesting (put_entry key v es) ≤ most
put_entry_nests most key v no_map_entries all one = omega arith
put_entry_nests most key v (map_entry at w rest) all one =
    entry_placed_nests most key at v w rest (put_entry key v rest) (slice_cmp nat_cmp key at) one (omega arith) (omega arith)
    (put_entry_nests most key v rest (omega arith) one)

map_entry_nests : (is_sparse : Bool) (key : Option (List ℕ)) (e : Entry) (most : ℕ) (fs us : MapEntries) → ((v : Value) → e.meaning ≡ Some v → nesting v ≤ most)
    → entries_nesting fs ≤ most
    → option_and_then (λ key. option_map (λ v. put_entry key v fs) (element_of is_sparse e.is_null e.meaning)) key ≡ Some us
    → entries_nesting us ≤ most
map_entry_nests is_sparse None e most fs us each all h = cc
map_entry_nests is_sparse (Some key) e most fs us each all h =
    let v = made (λ v. put_entry key v fs) (element_of is_sparse e.is_null e.meaning) us h in
    subst (λ es. entries_nesting es ≤ most) v.2
    (put_entry_nests most key v.0 fs all (element_nests is_sparse e most v.0 each (element_apart is_sparse e.is_null e.meaning v.0 v.1)))

entries_nest : (is_sparse : Bool) (most : ℕ) (fs us : MapEntries) (es : List Entry) → NestWithin most es → entries_nesting fs ≤ most
    → entries_from is_sparse fs es ≡ Some us → entries_nesting us ≤ most
entries_nest is_sparse most fs us [] each all h = subst (λ ms. entries_nesting ms ≤ most) (same_some fs us h) all
entries_nest is_sparse most fs us (e ∷ es) each all h =
    let apart = step_apart (entry_step is_sparse e fs) (λ more. entries_from is_sparse more es) us h in
    entries_nest is_sparse most apart.0 us es each.1
    (map_entry_nests is_sparse e.key e most fs apart.0 each.0 all apart.1) apart.2

-- ---- a container

pub container_nests : (k : Kind) (es : List Entry) (most : ℕ) (v : Value) → NestWithin most es → container_of k es ≡ Some v → nesting v ≤ suc most
container_nests (structure_of members) es most v each h =
    let us = made structure (members_from no_member_values es) v h in
    subst (λ u. nesting u ≤ suc most) us.2 (omega (arith, members_nest most no_member_values us.0 es each (omega arith) us.1))
container_nests (list_of l) es most v each h =
    let us = made (λ vs. list (values_of vs)) (elements_from l.is_sparse [] es) v h in
    subst (λ u. nesting u ≤ suc most) us.2 (omega (arith, elements_nest l.is_sparse most [] es us.0 each (omega arith) us.1))
container_nests (union_of members) es most v each h =
    variant_nests most (filter is_variant es) v (variants_nest most es each)
    (chosen (all_regular es) (variant_of (filter is_variant es)) v h).1
container_nests (map_of m) es most v each h =
    let us = made map (entries_from m.is_sparse no_map_entries es) v h in
    subst (λ u. nesting u ≤ suc most) us.2 (omega (arith, entries_nest m.is_sparse most no_map_entries us.0 es each (omega arith) us.1))
container_nests _ es most v each h = cc
