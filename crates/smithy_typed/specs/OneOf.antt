-- Which member of a union a value is, and that member's value.
use Rattle.std.specs.Prelude.{ℕ, suc}
use Rattle.smithy_declarations.specs.Value.{Value}
use Rattle.smithy_typed.specs.declared.variants.Variant.{Variant}
use Rattle.smithy_typed.specs.declared.variants.Variant.TheVariants.{This, Other}

abbrev pub variant_index : {T R : Type 0} → (R → ℕ) → Variant T R → ℕ
variant_index index (This x) = 0
variant_index index (Other r) = suc (index r)

abbrev pub variant_inner : {T R : Type 0} → (T → Value) → (R → Value) → Variant T R → Value
variant_inner value inner (This x) = value x
variant_inner value inner (Other r) = inner r
