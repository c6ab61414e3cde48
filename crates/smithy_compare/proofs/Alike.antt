-- Steps, scalars and tops that a test or an order takes for one are one; and both look the same from either side.
use Rattle.std.proofs.Common.{◌≡◌, ℕ, List, true, ◌&&◌, refl, sym, ◌∙◌, ap, is_eq, nat_cmp}
use Rattle.std.specs.Cmp.Lexicographic.{slice_cmp, bytes_decides}
use Rattle.std.specs.Cmp.{booleans_Decides, signed_Decides, unsigned_Decides, unsigned_ties, first_so, second_so, int_eq_equiv, nat_eq_equiv, bool_eq_equiv, nat_cmp_total}
use Rattle.std.specs.Cmp.Lexicographic.{nat_list_cmp_total, nat_list_eq_equiv}
use Rattle.std.specs.Ordering.{ordering_reverse}
use Rattle.std.proofs.lemmas.Map.Text.{is_eq-slice_cmp}
use Rattle.std.specs.declared.cmp.Ordering.TheVariants.{Less, Equal, Greater}
use Rattle.smithy_declarations.specs.Value.{ScalarValue, boolean, whole, text, bytes, decimal, instant}
use Rattle.smithy_compare.specs.Tree.{Step, member, element, key, Top, scalar, null, list, map, structure, union, document_null, document_scalar, array, object}
use Rattle.smithy_compare.specs.FirstPath.{step_cmp, same_scalar, same_top}

-- ---- steps

number_one : (n m : ℕ) → nat_cmp n m ≡ Equal → n ≡ m
number_one n m h = (unsigned_Decides n m).0 (unsigned_ties n m ∙ ap is_eq h)

key_one : (k l : List ℕ) → slice_cmp nat_cmp k l ≡ Equal → k ≡ l
key_one k l h = (bytes_decides k l).0 (sym (is_eq-slice_cmp k l) ∙ ap is_eq h)

pub step_one : (s t : Step) → step_cmp s t ≡ Equal → s ≡ t
step_one (member n) (member m) h = ap member (number_one n m h)
step_one (element i) (element j) h = ap element (number_one i j h)
step_one (key k) (key l) h = ap key (key_one k l h)
step_one _ _ h = cc

pub step_turned : (s t : Step) → step_cmp s t ≡ ordering_reverse (step_cmp t s)
step_turned (member n) (member m) = nat_cmp_total.antisymm n m
step_turned (element i) (element j) = nat_cmp_total.antisymm i j
step_turned (key k) (key l) = nat_list_cmp_total.antisymm k l
step_turned (member n) (element j) = refl
step_turned (member n) (key l) = refl
step_turned (element i) (member m) = refl
step_turned (element i) (key l) = refl
step_turned (key k) (member m) = refl
step_turned (key k) (element j) = refl

pub step_passed : (s t u : Step) → step_cmp s t ≡ Less → step_cmp t u ≡ Less → step_cmp s u ≡ Less
step_passed (member n) (member m) (member k) h g = nat_cmp_total.trans n m k h g
step_passed (element i) (element j) (element k) h g = nat_cmp_total.trans i j k h g
step_passed (key k) (key l) (key m) h g = nat_list_cmp_total.trans k l m h g
step_passed (member n) (member m) (element q) h g = refl
step_passed (member n) (member m) (key w) h g = refl
step_passed (member n) (element j) (member r) h g = absurd (let e : Greater ≡ Less = g in cc)
step_passed (member n) (element j) (element q) h g = refl
step_passed (member n) (element j) (key w) h g = refl
step_passed (member n) (key l) (member r) h g = absurd (let e : Greater ≡ Less = g in cc)
step_passed (member n) (key l) (element q) h g = absurd (let e : Greater ≡ Less = g in cc)
step_passed (member n) (key l) (key w) h g = refl
step_passed (element i) (member m) u h g = absurd (let e : Greater ≡ Less = h in cc)
step_passed (element i) (element j) (member r) h g = absurd (let e : Greater ≡ Less = g in cc)
step_passed (element i) (element j) (key w) h g = refl
step_passed (element i) (key l) (member r) h g = absurd (let e : Greater ≡ Less = g in cc)
step_passed (element i) (key l) (element q) h g = absurd (let e : Greater ≡ Less = g in cc)
step_passed (element i) (key l) (key w) h g = refl
step_passed (key k) (member m) u h g = absurd (let e : Greater ≡ Less = h in cc)
step_passed (key k) (element j) u h g = absurd (let e : Greater ≡ Less = h in cc)
step_passed (key k) (key l) (member r) h g = absurd (let e : Greater ≡ Less = g in cc)
step_passed (key k) (key l) (element q) h g = absurd (let e : Greater ≡ Less = g in cc)

-- ---- scalars

pub scalar_one : (x y : ScalarValue) → same_scalar x y ≡ true → x ≡ y
scalar_one (boolean a) (boolean b) h = ap boolean ((booleans_Decides a b).0 h)
scalar_one (whole n) (whole m) h = ap whole ((signed_Decides n m).0 h)
scalar_one (text s) (text t) h = ap text ((bytes_decides s t).0 h)
scalar_one (bytes s) (bytes t) h = ap bytes ((bytes_decides s t).0 h)
scalar_one (decimal m e) (decimal n f) h =
    let mantissa = (signed_Decides m n).0 (first_so _ _ h) in
    let exponent = (signed_Decides e f).0 (second_so _ _ h) in
    λ k. decimal (mantissa k) (exponent k)
scalar_one (instant n) (instant m) h = ap instant ((signed_Decides n m).0 h)
scalar_one _ _ h = cc

pub scalar_itself : (x : ScalarValue) → same_scalar x x ≡ true
scalar_itself (boolean a) = bool_eq_equiv.refl a
scalar_itself (whole n) = int_eq_equiv.refl n
scalar_itself (text s) = nat_list_eq_equiv.refl s
scalar_itself (bytes s) = nat_list_eq_equiv.refl s
scalar_itself (decimal m e) = λ k. int_eq_equiv.refl m k && int_eq_equiv.refl e k
scalar_itself (instant n) = int_eq_equiv.refl n

-- ---- tops

pub top_one : (a b : Top) → same_top a b ≡ true → a ≡ b
top_one (scalar x) (scalar y) h = ap scalar (scalar_one x y h)
top_one null null h = refl
top_one list list h = refl
top_one map map h = refl
top_one structure structure h = refl
top_one (union n) (union m) h = ap union ((unsigned_Decides n m).0 h)
top_one document_null document_null h = refl
top_one (document_scalar x) (document_scalar y) h = ap document_scalar (scalar_one x y h)
top_one array array h = refl
top_one object object h = refl
top_one _ _ h = cc

pub top_itself : (a : Top) → same_top a a ≡ true
top_itself (scalar x) = scalar_itself x
top_itself null = refl
top_itself list = refl
top_itself map = refl
top_itself structure = refl
top_itself (union n) = nat_eq_equiv.refl n
top_itself document_null = refl
top_itself (document_scalar x) = scalar_itself x
top_itself array = refl
top_itself object = refl

-- a test that holds from one side holds from the other
pub top_turned : (a b : Top) → same_top a b ≡ true → same_top b a ≡ true
top_turned a b h = rw (← top_one a b h) (top_itself a)
