-- The code of an error, as answers of services carry it (AWS JSON 1.1 protocol of Smithy 2.0, "Operation error serialization";
-- AWS Query compatible errors, "x-amzn-query-error").
use Rattle.std.specs.Prelude.{ℕ, List, length, Bool, Option, Some, None, nat_eq, nat_lt, if◌then◌else◌}
use Rattle.std.specs.List.{before_first, after_first, position_or_len}

-- the byte stands in the text
abbrev pub holds_byte : ℕ → List ℕ → Bool
holds_byte b text = nat_lt (position_or_len (λ c. nat_eq c b) text) (length text)

abbrev pub before : ℕ → List ℕ → List ℕ
before b text = before_first (λ c. nat_eq c b) text

abbrev pub behind : ℕ → List ℕ → List ℕ
behind b text = after_first (λ c. nat_eq c b) text

abbrev pub colon : ℕ
colon = 58

abbrev pub semicolon : ℕ
semicolon = 59

abbrev pub number_sign : ℕ
number_sign = 35

-- what stands behind the first `#`, or the whole text where there is none
abbrev pub without_namespace : List ℕ → List ℕ
without_namespace text = if holds_byte number_sign text then behind number_sign text else text

-- the error that a code names: `namespace#Name:address` names `Name`
abbrev pub error_code : List ℕ → List ℕ
error_code code = without_namespace (before colon code)

-- the code and the type of an error, which a `;` parts
abbrev pub query_error : List ℕ → Option (List ℕ × List ℕ)
query_error value = if holds_byte semicolon value then Some (before semicolon value, behind semicolon value) else None
