-- What a read finds at a place of an input, and why it finds nothing.
use Rattle.std.specs.Prelude.{◌≡◌, ◌≢◌, ◌⊎◌, ◌<◌, ◌+◌, ◌-◌, ◌∷◌, ℕ, ℤ, pos, ◌*ℤ◌, true, List, All, IsUtf8, Option, Some, None, MatchOption, drop, FitsSigned}
use Rattle.std.specs.List.{concat}
use Rattle.std.specs.Int.{Width, w64, w128}
use Rattle.std.specs.Fmt.{signed_decimal}
use Rattle.smithy_texts.specs.Decimal.{decimal_text}
use Rattle.smithy_texts.specs.Ranges.{is_exponent}
use Rattle.smithy_instants.specs.Instant.{nanos_per_second}
use Rattle.cbor_item.specs.declared.error.ItemError.{ItemError}
use Rattle.cbor_item.specs.declared.error.ItemError.TheVariants as item
use Rattle.cbor_item.specs.Head.{HeadRead, BeginsWithHead, IsCutHead, IsBrokenHead}
use Rattle.cbor_item.specs.Item.{Item, Extent, text_string, tag, float}
use Rattle.cbor_item.specs.WellFormed.{break, IsItemAt}
use Rattle.cbor_item.specs.CutShort.{IsCutChunk}
use Rattle.smithy_cbor.specs.declared.error.DecodeKind.{DecodeKind}
use Rattle.smithy_cbor.specs.declared.error.DecodeKind.TheVariants.{OutOfRange, TooWide, NotCarried, NoMemory}
use Rattle.smithy_cbor.specs.Kind.{kind_of_item_error}
use Rattle.smithy_cbor.specs.Scalar.{integer_of, bytes_of, big_integer_of, decimal_fraction_of, epoch_seconds_of, false_value, true_value}

-- the integer stands there
abbrev pub IsIntegerAt : ℤ → List ℕ → ℕ → ℕ → Type 0
IsIntegerAt z input at end = (i : Item) × IsItemAt i input at end × (integer_of i ≡ Some z)

-- a text string of UTF-8 chunks stands there, with these bytes altogether
abbrev pub IsTextOf : List ℕ → List ℕ → ℕ → ℕ → Type 0
IsTextOf bytes input at end =
    (extent : Extent) × (chunks : List (List ℕ)) × IsItemAt (text_string extent chunks) input at end
    × All IsUtf8 chunks × (bytes ≡ concat chunks)

-- a head begins there and ends at end; no argument is an indefinite length
abbrev pub OpensAt : ℕ → Option ℕ → List ℕ → ℕ → ℕ → Type 0
OpensAt major argument input at end =
    (at < end)
    × BeginsWithHead (drop at input)
    (record { major = major; argument = argument; length = end - at })

-- a break stands there
abbrev pub IsBreakAt : List ℕ → ℕ → ℕ → Type 0
IsBreakAt input at end = (end ≡ at + 1) × (drop at input ≡ break ∷ drop end input)

-- the heads of what a read takes: the major type alone, one simple value in the initial byte, a break
abbrev pub IsOfType : ℕ → HeadRead → Type 0
IsOfType major h = h.major ≡ major

abbrev pub IsInteger : HeadRead → Type 0
IsInteger h = (h.major ≡ 0) ⊎ (h.major ≡ 1)

abbrev pub IsSimpleHead : ℕ → HeadRead → Type 0
IsSimpleHead n h = (h.major ≡ 7) × (h.argument ≡ Some n) × (h.length ≡ 1)

abbrev pub IsBooleanHead : HeadRead → Type 0
IsBooleanHead h = IsSimpleHead false_value h ⊎ IsSimpleHead true_value h

abbrev pub IsBreakHead : HeadRead → Type 0
IsBreakHead h = (h.major ≡ 7) × (h.argument ≡ None)

-- the head there passes the end, breaks a rule, or is whole and of another kind than the wanted
abbrev pub IsHeadFault : (HeadRead → Type 0) → List ℕ → ℕ → ItemError → Type 0
IsHeadFault Wanted input at item.Truncated = IsCutHead (drop at input)
IsHeadFault Wanted input at item.NotWellFormed = IsBrokenHead (drop at input)
IsHeadFault Wanted input at item.WrongType =
    (h : HeadRead) × BeginsWithHead (drop at input) h × ¬ (Wanted h)
IsHeadFault Wanted input at item.InvalidUtf8 = ⊥
IsHeadFault Wanted input at item.NoMemory = ⊥

-- the kind of a fault of which F tells
abbrev pub IsKindOf : (ItemError → Type 0) → DecodeKind → Type 0
IsKindOf F kind = (e : ItemError) × (kind ≡ kind_of_item_error e) × F e

-- no integer stands there, or one that leaves the width
abbrev pub IsIntegerFault : Width → List ℕ → ℕ → DecodeKind → Type 0
IsIntegerFault width input at kind =
    IsKindOf (IsHeadFault IsInteger input at) kind
    ⊎ ((kind ≡ OutOfRange)
    × ((z : ℤ) × (end : ℕ) × IsIntegerAt z input at end × ¬ (FitsSigned width z)))

-- a byte string stands there, with these bytes altogether
abbrev pub AreBytesOf : List ℕ → List ℕ → ℕ → ℕ → Type 0
AreBytesOf bytes input at end =
    (i : Item) × IsItemAt i input at end × (bytes_of i ≡ Some bytes)

-- the integer or bignum stands there
abbrev pub IsBigIntegerAt : ℤ → List ℕ → ℕ → ℕ → Type 0
IsBigIntegerAt z input at end =
    (i : Item) × IsItemAt i input at end × (big_integer_of i ≡ Some z)

-- the decimal fraction stands there
abbrev pub IsDecimalAt : ℤ → ℤ → List ℕ → ℕ → ℕ → Type 0
IsDecimalAt exponent mantissa input at end =
    (i : Item) × IsItemAt i input at end × (decimal_fraction_of i ≡ Some (exponent, mantissa))

-- a date of so many seconds stands there
abbrev pub AreSecondsAt : ℤ → List ℕ → ℕ → ℕ → Type 0
AreSecondsAt seconds input at end =
    (i : Item) × IsItemAt i input at end × (epoch_seconds_of i ≡ Some seconds)

-- a date stands there, of so many seconds or of a float
abbrev pub IsDateAt : Option ℤ → List ℕ → ℕ → ℕ → Type 0
IsDateAt seconds input at end =
    MatchOption seconds ((digits : List ℕ) × IsItemAt (tag 1 (float digits)) input at end)
    (λ s. AreSecondsAt s input at end)

-- a number of 128 bits stands there, and this is its text
abbrev pub IsBigIntegerText : List ℕ → List ℕ → ℕ → ℕ → Type 0
IsBigIntegerText text input at end =
    (z : ℤ) × IsBigIntegerAt z input at end × FitsSigned w128 z × (text ≡ signed_decimal z)

-- the parts of a decimal are within their limits
abbrev pub FitsDecimal : ℤ → ℤ → Type 0
FitsDecimal exponent mantissa = (is_exponent exponent ≡ true) × FitsSigned w128 mantissa

-- a decimal within its limits stands there, and this is its text
abbrev pub IsDecimalText : List ℕ → List ℕ → ℕ → ℕ → Type 0
IsDecimalText text input at end =
    (exponent mantissa : ℤ) × IsDecimalAt exponent mantissa input at end
    × FitsDecimal exponent mantissa × (text ≡ decimal_text mantissa exponent)

-- a date of 64 bits of seconds stands there, and these are its nanoseconds
abbrev pub IsInstantAt : ℤ → List ℕ → ℕ → ℕ → Type 0
IsInstantAt nanos input at end =
    (seconds : ℤ) × AreSecondsAt seconds input at end × FitsSigned w64 seconds
    × (nanos ≡ seconds *ℤ pos nanos_per_second)

-- the heads of what stands for a big number or a date
abbrev pub IsTag : ℕ → HeadRead → Type 0
IsTag number h = (h.major ≡ 6) × (h.argument ≡ Some number)

abbrev pub IsBigIntegerHead : HeadRead → Type 0
IsBigIntegerHead h = IsInteger h ⊎ IsTag 2 h ⊎ IsTag 3 h

abbrev pub IsDefiniteBytes : HeadRead → Type 0
IsDefiniteBytes h = (h.major ≡ 2) × (h.argument ≢ None)

-- an array of two items, or one whose items a break ends
abbrev pub IsPair : HeadRead → Type 0
IsPair h = (h.major ≡ 4) × ((h.argument ≡ Some 2) ⊎ (h.argument ≡ None))

-- two, four or eight bytes after an initial byte of major type 7
abbrev pub IsFloatHead : HeadRead → Type 0
IsFloatHead h = (h.major ≡ 7) × (2 < h.length)

abbrev pub IsSeconds : HeadRead → Type 0
IsSeconds h = IsInteger h ⊎ IsFloatHead h

-- P stands there, and what is due behind it has a fault
abbrev pub IsFaultBehind :
    (List ℕ → ℕ → ℕ → Type 0) → (List ℕ → ℕ → ItemError → Type 0) → List ℕ → ℕ → ItemError → Type 0
IsFaultBehind P IsFault input at e = (next : ℕ) × P input at next × IsFault input next e

-- no definite byte string stands there: another head does, or fewer bytes than the head announces
abbrev pub IsBytesFault : List ℕ → ℕ → ItemError → Type 0
IsBytesFault input at e =
    IsHeadFault IsDefiniteBytes input at e
    ⊎ ((e ≡ item.Truncated) × IsCutChunk 2 (drop at input))

-- the tag of a bignum stands there
abbrev pub OpensBignum : List ℕ → ℕ → ℕ → Type 0
OpensBignum input at end = OpensAt 6 (Some 2) input at end ⊎ OpensAt 6 (Some 3) input at end

-- no integer or bignum stands there, by the first fault from the left
abbrev pub IsNoBigInteger : List ℕ → ℕ → ItemError → Type 0
IsNoBigInteger input at e =
    IsHeadFault IsBigIntegerHead input at e ⊎ IsFaultBehind OpensBignum IsBytesFault input at e

-- an exponent and a mantissa stand there in turn
abbrev pub AreParts : ℤ → ℤ → List ℕ → ℕ → ℕ → Type 0
AreParts exponent mantissa input at end =
    (next : ℕ) × IsIntegerAt exponent input at next × IsBigIntegerAt mantissa input next end

-- no exponent stands there, or no mantissa behind it
abbrev pub AreNoParts : List ℕ → ℕ → ItemError → Type 0
AreNoParts input at e =
    IsHeadFault IsInteger input at e
    ⊎ IsFaultBehind (λ i a b. (z : ℤ) × IsIntegerAt z i a b) IsNoBigInteger input at e

-- no such parts stand there, or no break behind them
abbrev pub AreNoPartsUntilBreak : List ℕ → ℕ → ItemError → Type 0
AreNoPartsUntilBreak input at e =
    AreNoParts input at e
    ⊎ IsFaultBehind (λ i a b. (x m : ℤ) × AreParts x m i a b)
    (IsHeadFault IsBreakHead) input at e

-- no array of exponent and mantissa stands there
abbrev pub IsNoPair : List ℕ → ℕ → ItemError → Type 0
IsNoPair input at e =
    IsHeadFault IsPair input at e
    ⊎ IsFaultBehind (OpensAt 4 (Some 2)) AreNoParts input at e
    ⊎ IsFaultBehind (OpensAt 4 None) AreNoPartsUntilBreak input at e

-- no decimal fraction stands there, by the first fault from the left
abbrev pub IsNoDecimal : List ℕ → ℕ → ItemError → Type 0
IsNoDecimal input at e =
    IsHeadFault (IsTag 4) input at e ⊎ IsFaultBehind (OpensAt 6 (Some 4)) IsNoPair input at e

-- no date stands there, by the first fault from the left
abbrev pub IsNoDate : List ℕ → ℕ → ItemError → Type 0
IsNoDate input at e =
    IsHeadFault (IsTag 1) input at e
    ⊎ IsFaultBehind (OpensAt 6 (Some 1)) (IsHeadFault IsSeconds) input at e

-- why no big integer is read; memory is wanted for one that stands there and fits
abbrev pub IsBigIntegerFault : List ℕ → ℕ → DecodeKind → Type 0
IsBigIntegerFault input at kind =
    IsKindOf (IsNoBigInteger input at) kind
    ⊎ ((kind ≡ TooWide)
    × ((z : ℤ) × (end : ℕ) × IsBigIntegerAt z input at end × ¬ (FitsSigned w128 z)))
    ⊎ ((kind ≡ NoMemory)
    × ((z : ℤ) × (end : ℕ) × IsBigIntegerAt z input at end × FitsSigned w128 z))

-- why no decimal is read
abbrev pub IsDecimalFault : List ℕ → ℕ → DecodeKind → Type 0
IsDecimalFault input at kind =
    IsKindOf (IsNoDecimal input at) kind
    ⊎ ((kind ≡ TooWide)
    × ((exponent mantissa : ℤ) × (end : ℕ) × IsDecimalAt exponent mantissa input at end
    × ¬ (FitsDecimal exponent mantissa)))
    ⊎ ((kind ≡ NoMemory)
    × ((exponent mantissa : ℤ) × (end : ℕ) × IsDecimalAt exponent mantissa input at end × FitsDecimal exponent mantissa))

-- why no instant is read: no date stands there, one of a float, or one that leaves 64 bits
abbrev pub IsInstantFault : List ℕ → ℕ → DecodeKind → Type 0
IsInstantFault input at kind =
    IsKindOf (IsNoDate input at) kind
    ⊎ ((kind ≡ NotCarried)
    × ((digits : List ℕ) × (end : ℕ) × IsItemAt (tag 1 (float digits)) input at end))
    ⊎ ((kind ≡ OutOfRange)
    × ((seconds : ℤ) × (end : ℕ) × AreSecondsAt seconds input at end
    × ¬ (FitsSigned w64 seconds)))
