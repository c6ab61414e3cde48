-- What the body of an error answer says of its error.
use Rattle.std.specs.Prelude.{ℕ, List, ◌||◌, Bool, Option, Some, None, option_map, string_bytes, bytes_eq, codes}
use Rattle.smithy_error_bodies.specs.declared.error_body.ErrorBody.{ErrorBody}

-- the code and the message of the error, as texts
pub record Said : Type 0 where
  pub code : Option (List ℕ)
  pub message : Option (List ℕ)

abbrev pub nothing_said : Said
nothing_said = record { code = None; message = None }

-- the kept texts
abbrev pub said_by : ErrorBody → Said
said_by b = record { code = option_map string_bytes b.code; message = option_map string_bytes b.message }

-- the keys under which a body may have the code, and the message
abbrev pub is_code : List ℕ → Bool
is_code key = bytes_eq key (codes "code")

abbrev pub is_type : List ℕ → Bool
is_type key = bytes_eq key (codes "__type")

abbrev pub is_message : List ℕ → Bool
is_message key = bytes_eq key (codes "message") || bytes_eq key (codes "Message") || bytes_eq key (codes "errorMessage")

-- the first of two texts that is there
abbrev pub first_of : Option (List ℕ) → Option (List ℕ) → Option (List ℕ)
first_of (Some a) b = Some a
first_of None b = b
