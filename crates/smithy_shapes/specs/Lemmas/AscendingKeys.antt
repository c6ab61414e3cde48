-- The keys of a map ascend, whatever the order of its entries was.
use Rattle.std.specs.Prelude.{◌≡◌, ℕ, List, refl}
use Rattle.std.specs.declared.cmp.Ordering.{Ordering}
use Rattle.std.specs.declared.cmp.Ordering.TheVariants.{Less, Equal, Greater}
use Rattle.std.specs.Ordering.{nat_cmp, match_ordering, ordering_reverse}
use Rattle.std.specs.Cmp.Lexicographic.{slice_cmp}
use Rattle.std.proofs.Common.{◌∙◌, ap}
use Rattle.std.proofs.lemmas.Cmp.{nat_list_cmp_total}
use Rattle.smithy_declarations.specs.Value.{Value, MapEntries, no_map_entries, map_entry, put_entry}
use Rattle.smithy_shapes.specs.Fits.{KeysAscendAbove, KeysAscend}

abbrev pub byte_order : List ℕ → List ℕ → Ordering
byte_order = slice_cmp nat_cmp

-- where one key is above another, the other is below it
pub turned : (x y : List ℕ) → byte_order x y ≡ Greater → byte_order y x ≡ Less
turned x y h = nat_list_cmp_total.antisymm y x ∙ ap ordering_reverse h

pub turned_back : (x y : List ℕ) → byte_order x y ≡ Less → byte_order y x ≡ Greater
turned_back x y h = nat_list_cmp_total.antisymm y x ∙ ap ordering_reverse h

placed_above : (above key at : List ℕ) (v w : Value) (rest more : MapEntries) (order : Ordering) → byte_order key at ≡ order → byte_order above key ≡ Less
    → byte_order above at ≡ Less → KeysAscendAbove at rest → (byte_order at key ≡ Less → KeysAscendAbove at more)
    → KeysAscendAbove above (match_ordering order (map_entry key v (map_entry at w rest)) (map_entry at v rest) (map_entry at w more))
placed_above above key at v w rest more Less is low from rises next = (low, (is, rises))
placed_above above key at v w rest more Equal is low from rises next = (from, rises)
placed_above above key at v w rest more Greater is low from rises next = (from, next (turned key at is))

put_above : (key : List ℕ) (v : Value) (above : List ℕ) (es : MapEntries) → byte_order above key ≡ Less → KeysAscendAbove above es
    → KeysAscendAbove above (put_entry key v es)
put_above key v above no_map_entries low h = (low, tt)
put_above key v above (map_entry at w rest) low h =
    placed_above above key at v w rest (put_entry key v rest) (byte_order key at) refl low h.0 h.1 (λ up. put_above key v at rest up h.1)

placed_first : (key at : List ℕ) (v w : Value) (rest more : MapEntries) (order : Ordering) → byte_order key at ≡ order
    → KeysAscendAbove at rest → (byte_order at key ≡ Less → KeysAscendAbove at more)
    → KeysAscend (match_ordering order (map_entry key v (map_entry at w rest)) (map_entry at v rest) (map_entry at w more))
placed_first key at v w rest more Less is rises next = (is, rises)
placed_first key at v w rest more Equal is rises next = rises
placed_first key at v w rest more Greater is rises next = next (turned key at is)

-- keys that ascend still do with one more
pub put_keys_ascend : (key : List ℕ) (v : Value) (es : MapEntries) → KeysAscend es → KeysAscend (put_entry key v es)
put_keys_ascend key v no_map_entries h = tt
put_keys_ascend key v (map_entry at w rest) h =
    placed_first key at v w rest (put_entry key v rest) (byte_order key at) refl h (λ up. put_above key v at rest up h)
