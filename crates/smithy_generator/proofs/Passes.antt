-- Which tests of scalars the value of a generated input passes.
use Rattle.std.proofs.Common.{◌≡◌, ◌++◌, ◌*◌, ◌/◌, ◌%◌, ℕ, zero, suc, List, true, None, refl, pos, codes, decimal, arith}
use Rattle.smithy_shapes.specs.ScalarTest.{ValueTest, scalars_pass, elements_pass}
use Rattle.smithy_shapes.specs.Site.{Site, shape_site, element_of, member_of}
use Rattle.smithy_declarations.specs.Value.{whole, text, instant, values_of}
use Rattle.smithy_instants.specs.Instant.{nanos_per_second, subsecond_of}
use Rattle.smithy_generator.specs.Generated.{number_at}
use Rattle.smithy_generator.specs.GeneratedShapes.{generated_shapes, generated_root, item_value, item_values, generated_value}

-- numbers, texts and whole seconds pass the test where no time form is given
pub record PassesItems (test : ValueTest) : Type 0 where
  pub numbers : (n : ℕ) → test.scalar None (whole (pos n)) ≡ true
  pub texts : (t : List ℕ) → test.scalar None (text t) ≡ true
  pub seconds : (n : ℕ) → test.scalar None (instant (pos (n * nanos_per_second))) ≡ true

-- whole seconds have no part of one
pub whole_seconds : (n : ℕ) → subsecond_of (pos (n * nanos_per_second)) ≡ 0
whole_seconds n = let rest : n * nanos_per_second % nanos_per_second ≡ 0 = omega arith in rw rest refl

-- the site of an item
abbrev at_item : Site
at_item = element_of (member_of (shape_site generated_shapes generated_root) 0)

module _ (test : ValueTest) (passes : PassesItems test) where
  item_passes : (x : ℕ) → scalars_pass test at_item (item_value x) ≡ true
  item_passes x = rw (passes.numbers _, passes.texts (codes "n" ++ decimal (x / 1000 % 1000)), passes.seconds _, passes.texts (decimal (x % 1000 % 10)), passes.texts (codes "x")) refl

  items_pass : (seed n more : ℕ) → elements_pass test at_item (values_of (item_values seed n more)) ≡ true
  unfolding item_values
  items_pass seed n zero = refl
  items_pass seed n (suc more) = rw (item_passes (number_at seed (suc n)), items_pass seed (suc n) more) refl

  pub input_passes : (seed count : ℕ) → scalars_pass test (shape_site generated_shapes generated_root) (generated_value seed count) ≡ true
  input_passes seed count = rw (items_pass seed 0 count) refl
