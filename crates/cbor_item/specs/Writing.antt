-- What a call says that writes bytes.
use Rattle.std.specs.Prelude.{◌≡◌, ◌++◌, ℕ, List, Result, OnOk, OnErr}

-- The bytes come behind the old ones, and nothing does where the call is refused.
pub record Appends {T E : Type 0} (bytes old : List ℕ) (result : Result T E) (new : List ℕ) : Type 0 where
  pub ok : OnOk result (new ≡ old ++ bytes)
  pub err : OnErr result (new ≡ old)
