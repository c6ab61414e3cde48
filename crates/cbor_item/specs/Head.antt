-- The head of a CBOR data item: its major type and its argument (RFC 8949, section 3).
use Rattle.std.specs.Prelude.{◌≡◌, ℕ, ◌+◌, ◌*◌, ◌/◌, ◌%◌, ◌<◌, ◌≤◌, ◌⊎◌, ◌^◌, ◌==◌, ⊤, nat_lt, length, if◌then◌else◌, List, [], ◌∷◌, take, Option, MatchOption}
use Rattle.std.specs.Int.{IsInRange, w8, w16, w32, w64, to_be_bytes}

-- the initial byte: the major type in the high three bits, additional information in the low five
abbrev pub initial_byte : ℕ → ℕ → ℕ
initial_byte major info = 32 * major + info

-- where the argument stands: in the initial byte, or in the 1, 2, 4 or 8 bytes after it
pub data ArgumentWidth : Type 0 where
  immediate one two four eight : ArgumentWidth

-- the least number that the width doesn't hold
abbrev pub width_limit : ArgumentWidth → ℕ
width_limit immediate = 24
width_limit one = 2 ^ 8
width_limit two = 2 ^ 16
width_limit four = 2 ^ 32
width_limit eight = 2 ^ 64

-- the bytes of a head
abbrev pub head_bytes : ℕ → ArgumentWidth → ℕ → List ℕ
head_bytes major immediate n = initial_byte major n ∷ []
head_bytes major one n = initial_byte major 24 ∷ to_be_bytes w8 n
head_bytes major two n = initial_byte major 25 ∷ to_be_bytes w16 n
head_bytes major four n = initial_byte major 26 ∷ to_be_bytes w32 n
head_bytes major eight n = initial_byte major 27 ∷ to_be_bytes w64 n

-- the bytes are a head of this major type and argument, in whichever width
pub record IsHead (major argument : ℕ) (bytes : List ℕ) : Type 0 where
  pub width : ArgumentWidth
  pub fits : argument < width_limit width
  pub spelled : bytes ≡ head_bytes major width argument

-- the narrowest width that holds the argument
abbrev pub narrowest : ℕ → ArgumentWidth
narrowest n =
    if nat_lt n 24 then immediate
    else if nat_lt n (2 ^ 8) then one
    else if nat_lt n (2 ^ 16) then two
    else if nat_lt n (2 ^ 32) then four
    else eight

-- the shortest head, as preferred serialization has it (section 4.1)
abbrev pub shortest_head : ℕ → ℕ → List ℕ
shortest_head major argument = head_bytes major (narrowest argument) argument

-- a head as it is read: no argument where the length is indefinite or the head is a break
pub record HeadRead : Type 0 where
  pub major : ℕ
  pub argument : Option ℕ
  pub length : ℕ

-- additional information 31: an indefinite length under the types 2 to 5, a break under type 7
abbrev pub MayBeIndefinite : ℕ → Type 0
MayBeIndefinite major = IsInRange 2 5 major ⊎ (major ≡ 7)

-- a simple value below 32 doesn't stand in a byte of its own (section 3.3)
abbrev pub IsShortSimple : List ℕ → Type 0
IsShortSimple bytes = (n : ℕ) × (n < 32) × (bytes ≡ initial_byte 7 24 ∷ n ∷ [])

-- how many bytes of argument additional information announces
abbrev pub argument_length : ℕ → ℕ
argument_length info =
    if info == 24 then 1
    else if info == 25 then 2
    else if info == 26 then 4
    else if info == 27 then 8
    else 0

-- the bytes end before the head does
abbrev pub IsCutHead : List ℕ → Type 0
IsCutHead [] = ⊤
IsCutHead (initial ∷ rest) = length rest < argument_length (initial % 32)

-- the first bytes are no well-formed head, whatever follows: information 28 to 30, an indefinite
-- length where there is none, or a short simple value
abbrev pub IsBrokenHead : List ℕ → Type 0
IsBrokenHead [] = ⊥
IsBrokenHead (initial ∷ rest) =
    IsInRange 28 30 (initial % 32)
    ⊎ ((initial % 32 ≡ 31) × ¬ (MayBeIndefinite (initial / 32)))
    ⊎ IsShortSimple (take 2 (initial ∷ rest))

-- the first bytes are this head, and it is well-formed
abbrev pub BeginsWithHead : List ℕ → HeadRead → Type 0
BeginsWithHead bytes h =
    (h.length ≤ length bytes)
    × MatchOption h.argument
    (MayBeIndefinite h.major × (take h.length bytes ≡ initial_byte h.major 31 ∷ []))
    (λ n. (h.major ≤ 7) × IsHead h.major n (take h.length bytes)
    × ¬ (IsShortSimple (take h.length bytes)))
