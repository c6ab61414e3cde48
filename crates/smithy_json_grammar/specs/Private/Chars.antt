-- Where the text of a string ends, computed from the bytes that follow its opening quotation mark.
use Rattle.std.specs.Prelude.{◌≡◌, ◌<◌, ◌≤◌, ℕ, suc, ◌+◌, List, [], ◌∷◌, length, drop, Bool, true, false, not, ◌&&◌, ◌||◌, ◌==◌, nat_le, nat_lt, Option, Some, None, option_map, MatchOption, if◌then◌else◌}
use Rattle.std.specs.Char.{is_ascii_hexdigit}
use Rattle.std.specs.List.{prefix_len}
use Rattle.smithy_json_grammar.specs.Ascii.{quotation_mark, escape, letter_u, space, is_short_escape}
use Rattle.smithy_json_grammar.specs.Stops.{is_stop}

-- a byte that stands for itself in a string
abbrev pub is_plain : ℕ → Bool
is_plain b = not (is_stop true b)

-- a byte that ends a run: one at which a scan stops, and where the run is one of ASCII a byte past it
abbrev pub ends_run : Bool → Bool → ℕ → Bool
ends_run controls ascii b = (ascii && nat_lt 0x7f b) || is_stop controls b

-- where the run ends that goes on at the offset
abbrev pub run_end : Bool → Bool → List ℕ → ℕ → ℕ
run_end controls ascii input at = at + prefix_len (λ b. not (ends_run controls ascii b)) (drop at input)

-- an ASCII byte that stands for itself in a string
abbrev pub is_plain_ascii : ℕ → Bool
is_plain_ascii b = not (ends_run true true b)

-- four hexadecimal digits come first
abbrev pub begins_with_four_hex_digits : List ℕ → Bool
begins_with_four_hex_digits (a ∷ b ∷ c ∷ d ∷ _) =
    is_ascii_hexdigit a && is_ascii_hexdigit b && is_ascii_hexdigit c && is_ascii_hexdigit d
begins_with_four_hex_digits _ = false

-- a letter that the byte `escape` may precede, and what comes after the letter
abbrev pub is_escape : ℕ → List ℕ → Bool
is_escape letter rest =
    is_short_escape letter || ((letter == letter_u) && begins_with_four_hex_digits rest)

abbrev mutual
  -- how many bytes of *char come before the closing quotation mark
  pub chars_length : List ℕ → Option ℕ
  chars_length [] = None
  chars_length (b ∷ rest) =
      if b == quotation_mark then Some 0
      else (if b == escape then escape_length rest
      else (if nat_le space b then option_map suc (chars_length rest) else None))

  -- how many bytes of *char come before the closing quotation mark, behind an `escape`, which is counted with them
  pub escape_length : List ℕ → Option ℕ
  escape_length [] = None
  escape_length (letter ∷ rest) =
      if is_escape letter rest then option_map (λ n. suc (suc n)) (chars_length rest) else None

-- where the closing quotation mark of a string stands whose text goes on at the offset
abbrev pub closing_from : List ℕ → ℕ → Option ℕ
closing_from input at = option_map (λ n. at + n) (chars_length (drop at input))

-- how many bytes come before the first quotation mark that no backslash takes
abbrev pub quoted_length : List ℕ → Option ℕ
quoted_length [] = None
quoted_length (b ∷ []) = if b == quotation_mark then Some 0 else None
quoted_length (b ∷ c ∷ rest) =
    if b == quotation_mark then Some 0
    else (if b == escape then option_map (λ n. suc (suc n)) (quoted_length rest)
    else option_map suc (quoted_length (c ∷ rest)))

-- where that mark stands, from the offset on
abbrev pub quoted_from : List ℕ → ℕ → Option ℕ
quoted_from input at = option_map (λ n. at + n) (quoted_length (drop at input))

-- the text goes on at the end that is answered, as from the offset, and else it has no closing mark
abbrev pub GoesOnAt : List ℕ → ℕ → Option ℕ → Type 0
GoesOnAt input at result =
    MatchOption result (closing_from input at ≡ None)
    (λ end. (closing_from input at ≡ closing_from input end) × (at < end) × (end ≤ length input))
