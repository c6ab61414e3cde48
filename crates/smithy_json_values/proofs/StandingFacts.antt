-- A null by how it begins, at small inputs.
use Rattle.std.proofs.Common.{◌≡◌, [], ◌∷◌, ◌++◌, map, true, false, refl, codes, replicate}
use Rattle.smithy_json_values.specs.Standing.{begins_with_null, without_ws}

-- `null` behind white space, at the end and before each byte that may follow a value, and before others
-- that are no ASCII letter or digit: a quotation mark, `_`, the first byte of a longer character
pub begins_as_null : map (λ bytes. begins_with_null (without_ws bytes)) (codes "null" ∷ codes " \n\t\rnull " ∷ codes "null," ∷ codes "null]" ∷ codes "null}x" ∷ codes "null\"" ∷ codes "null_" ∷ (codes "null" ++ 0xc3 ∷ 0xa9 ∷ []) ∷ [])
    ≡ replicate 8 true
begins_as_null = refl

-- nothing, white space alone, `nul`, `NULL`, `nulls`, `null0`, `nullZ`, `,null`, `"null"`
pub begins_as_no_null : map (λ bytes. begins_with_null (without_ws bytes)) ([] ∷ codes " " ∷ codes "nul" ∷ codes "NULL" ∷ codes "nulls" ∷ codes "null0" ∷ codes "nullZ" ∷ codes ",null" ∷ codes "\"null\"" ∷ [])
    ≡ replicate 9 false
begins_as_no_null = refl
