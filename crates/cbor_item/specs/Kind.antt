-- The kind of an item by its first bytes (RFC 8949, section 3 and the jump table of appendix B).
use Rattle.std.specs.Prelude.{ℕ, ◌==◌, nat_lt, Bool as Truth, ◌||◌, if◌then◌else◌, List, [], ◌∷◌, Option, Some, None}
use Rattle.std.specs.Int.{is_in_range}
use Rattle.cbor_item.specs.declared.kind.ItemType.{ItemType}
use Rattle.cbor_item.specs.declared.kind.ItemType.TheVariants.{Bool, Null, Undefined, U8, U16, U32, U64, I8, I16, I32, I64, Int, F16, F32, F64, Simple, Bytes, BytesIndef, String, StringIndef, Array, ArrayIndef, Map, MapIndef, Tag, Break, Unknown}

-- a negative integer whose argument stands after the initial byte: its kind is of the argument's
-- width where the argument's first bit is clear, and of the next width where it is set
abbrev pub kind_of_negative : ℕ → ℕ → ItemType
kind_of_negative initial next =
    if initial == 0x38 then (if nat_lt next 0x80 then I8 else I16)
    else if initial == 0x39 then (if nat_lt next 0x80 then I16 else I32)
    else if initial == 0x3a then (if nat_lt next 0x80 then I32 else I64)
    else (if nat_lt next 0x80 then I64 else Int)

-- the kind by the initial byte alone
abbrev pub kind_of_initial : ℕ → ItemType
kind_of_initial b =
    if is_in_range 0x00 0x18 b then U8
    else if b == 0x19 then U16
    else if b == 0x1a then U32
    else if b == 0x1b then U64
    else if is_in_range 0x20 0x37 b then I8
    else if is_in_range 0x40 0x5b b then Bytes
    else if b == 0x5f then BytesIndef
    else if is_in_range 0x60 0x7b b then String
    else if b == 0x7f then StringIndef
    else if is_in_range 0x80 0x9b b then Array
    else if b == 0x9f then ArrayIndef
    else if is_in_range 0xa0 0xbb b then Map
    else if b == 0xbf then MapIndef
    else if is_in_range 0xc0 0xdb b then Tag
    else if is_in_range 0xe0 0xf3 b || b == 0xf8 then Simple
    else if b == 0xf4 || b == 0xf5 then Bool
    else if b == 0xf6 then Null
    else if b == 0xf7 then Undefined
    else if b == 0xf9 then F16
    else if b == 0xfa then F32
    else if b == 0xfb then F64
    else if b == 0xff then Break
    else Unknown b

-- negative integers of one, two, four and eight bytes
abbrev pub needs_next : ℕ → Truth
needs_next initial = is_in_range 0x38 0x3b initial

-- the kind of the item that begins here, where the bytes that show it are there
abbrev pub kind_of : List ℕ → Option ItemType
kind_of [] = None
kind_of (initial ∷ []) = if needs_next initial then None else Some (kind_of_initial initial)
kind_of (initial ∷ next ∷ rest) =
    Some (if needs_next initial then kind_of_negative initial next else kind_of_initial initial)
