-- The member of a union, of one of a list of types.
use Rattle.std.proofs.Common.{◌≡◌, ℕ, zero, suc, Some, Result, Ok, Err, refl, ap, ◌∙◌, sym, subst}
use Rattle.smithy_declarations.specs.Value.{Value, union}
use Rattle.smithy_shapes.specs.Site.{Site}
use Rattle.smithy_schema.specs.declared.error.SerdeError.{SerdeError}
use Rattle.smithy_schema.specs.Reading.{Cursor, Relations, Reads}
use Rattle.smithy_schema.specs.Typed.{ReadsAs, ReadsVariant}
use Rattle.smithy_schema.proofs.AnsweredErrors.{same_success, same_failure}
use Rattle.smithy_typed.specs.Places.{named_first, named_none, IsAnyMemberAt}
use Rattle.smithy_typed.specs.Values.{ReadsOneOf}
use Rattle.smithy_typed.proofs.SetFields.{later_there, none_there}

-- the value of a union's member at an index
abbrev pub value_of : {V : Type 0} → (V → ℕ) → (V → Value) → V → Value
value_of index inner x = union (index x) (inner x)

-- the member was read by another type, of which this value was made
pub one_read : {A B : Type 0} (view : A → Value) (w : Relations) (c d : Cursor) (site : Site) (n : ℕ) (index : B → ℕ) (inner : B → Value) (x : A) (made : B) → index made ≡ n → inner made ≡ view x
    → ReadsAs {A = A} w c d site view (Ok x) → ReadsOneOf {A = B} w c d site n index inner (Ok made)
one_read view w c d site n index inner x made at is reads = record {
  ok = (at, subst (λ v. Reads w c d site.table site.place v) (sym is) reads.ok);
  refused = λ fault. absurd fault;
  fails = same_success x made c d reads.fails;
}

pub one_fails : {A B : Type 0} (view : A → Value) (w : Relations) (c d : Cursor) (site : Site) (n : ℕ) (index : B → ℕ) (inner : B → Value) (e : SerdeError)
    → ReadsAs {A = A} w c d site view (Err e) → ReadsOneOf {A = B} w c d site n index inner (Err e)
one_fails view w c d site n index inner e reads = record { ok = tt; refused = reads.refused; fails = same_failure c d e reads.fails }

-- it is one after the first
pub other_read : {A B : Type 0} (w : Relations) (c d : Cursor) (site : Site) (n m : ℕ) (index : A → ℕ) (inner : A → Value) (index' : B → ℕ) (inner' : B → Value) (x : A) (made : B) → m ≡ suc n
    → index' made ≡ suc (index x) → inner' made ≡ inner x → ReadsOneOf {A = A} w c d site n index inner (Ok x) → ReadsOneOf {A = B} w c d site m index' inner' (Ok made)
other_read w c d site n m index inner index' inner' x made next at is reads = record {
  ok = (at ∙ ap suc reads.ok.0 ∙ sym next, subst (λ v. Reads w c d site.table site.place v) (sym is) reads.ok.1);
  refused = λ fault. absurd fault;
  fails = same_success x made c d reads.fails;
}

pub other_fails : {A B : Type 0} (w : Relations) (c d : Cursor) (site : Site) (n m : ℕ) (index : A → ℕ) (inner : A → Value) (index' : B → ℕ) (inner' : B → Value) (e : SerdeError)
    → ReadsOneOf {A = A} w c d site n index inner (Err e) → ReadsOneOf {A = B} w c d site m index' inner' (Err e)
other_fails w c d site n m index inner index' inner' e reads = record { ok = tt; refused = reads.refused; fails = same_failure c d e reads.fails }

-- the last member is the only one
pub last_there : (place : Site → Type 0) (n : ℕ) (site : Site) → IsAnyMemberAt (named_first place named_none) n site → 0 ≡ n
last_there place zero site there = refl
last_there place (suc n) site there = absurd (none_there n site (later_there place named_none n (suc n) site there refl))

-- the member as that of its union
pub variant_read : {A : Type 0} (w : Relations) (c d : Cursor) (site : Site) (n : ℕ) (index : A → ℕ) (inner : A → Value) (result : Result A SerdeError) → site.view.index ≡ Some n
    → ReadsOneOf {A = A} w c d site n index inner result → ReadsVariant {A = A} w c d site (value_of index inner) result
variant_read w c d site n index inner (Ok x) here reads = record {
  ok = (n, inner x, here, ap (λ k. union k (inner x)) reads.ok.0, reads.ok.1);
  refused = λ fault. absurd fault;
  fails = reads.fails;
}
variant_read w c d site n index inner (Err e) here reads = record { ok = tt; refused = reads.refused; fails = reads.fails }
