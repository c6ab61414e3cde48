-- What a call of a reader answers, beside the value, that reads a text or bytes which may borrow from the input.
use Rattle.std.specs.Prelude.{ℕ, List, Result, IfOk, IsErrOf}
use Rattle.smithy_schema.specs.declared.error.SerdeError.{SerdeError}
use Rattle.smithy_schema.specs.declared.error.SerdeError.TheVariants.{NoMemory}
use Rattle.smithy_schema.specs.Reading.{Cursor}

-- how a wire hands out its texts, or its bytes
pub record Borrowing : Type 1 where
  -- what stands in the input from a to e is borrowed, or isn't
  pub borrows : List ℕ → ℕ → Type 0 → ℕ → Type 0
  -- for what stands in the input at a memory may be taken
  pub may_allocate : List ℕ → ℕ → Type 0

-- What was read borrows from the input, or is named by its place there, where it may, and memory is taken for nothing else.
pub record Borrows {A : Type 0} (b : Borrowing) (is_borrowed : A → Type 0) (old new : Cursor) (result : Result A SerdeError) : Type 0 where
  pub borrowed : IfOk result (λ x. b.borrows old.input old.at (is_borrowed x) new.at)
  pub memory : IsErrOf result NoMemory → b.may_allocate old.input old.at
