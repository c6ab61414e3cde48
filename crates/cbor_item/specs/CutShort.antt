-- Bytes that end before the item does that they begin (RFC 8949, sections 3 and 3.2).
use Rattle.std.specs.Prelude.{◌≡◌, ◌⊎◌, ◌<◌, ◌*◌, ◌==◌, ℕ, List, ◌∷◌, ◌++◌, length, if◌then◌else◌}
use Rattle.cbor_item.specs.Head.{initial_byte, IsCutHead}
use Rattle.cbor_item.specs.Item.{Items, item_count}
use Rattle.cbor_item.specs.WellFormed.{HeadThen, AreChunks, AreEncodingsOf}

-- the head of a definite string, and fewer bytes than it announces
abbrev pub IsCutChunk : ℕ → List ℕ → Type 0
IsCutChunk major bytes =
    (announced : ℕ) × (body : List ℕ) × HeadThen major announced body bytes
    × (length body < announced)

-- the bytes end inside a string of the major type: inside its one chunk, or where a chunk or the
-- break is due; a head that the end cuts off is of no type yet
abbrev pub IsCutString : ℕ → List ℕ → Type 0
IsCutString major bytes =
    IsCutChunk major bytes
    ⊎ ((chunks : List (List ℕ)) × (before last : List ℕ) × AreChunks major chunks before
    × (IsCutHead last ⊎ IsCutChunk major last)
    × (bytes ≡ initial_byte major 31 ∷ (before ++ last)))

-- how many items the head of a definite array, of a definite map and of a tag announces
abbrev pub announced_items : ℕ → ℕ → ℕ
announced_items major argument =
    if major == 4 then argument
    else if major == 5 then 2 * argument
    else if major == 6 then 1
    else 0

-- the bytes end before the item does that they begin
pub data IsCutShort : List ℕ → Type 0 where
  -- the bytes end inside the head of the item
  in_head : (bytes : List ℕ) → IsCutHead bytes → IsCutShort bytes
  -- the bytes end inside a string
  in_string : (major : ℕ) (bytes : List ℕ) → (major ≡ 2) ⊎ (major ≡ 3)
      → IsCutString major bytes → IsCutShort bytes
  -- the bytes end inside one of the items that the head announces, the keys and values of a map among them
  in_announced : (major argument : ℕ) (is : Items) (before last bytes : List ℕ)
      → item_count is < announced_items major argument → AreEncodingsOf is before
      → IsCutShort last → HeadThen major argument (before ++ last) bytes → IsCutShort bytes
  -- the bytes end inside one of the items before the break of an array or a map, or where the break is due
  in_indefinite : (major : ℕ) (is : Items) (before last bytes : List ℕ)
      → (major ≡ 4) ⊎ (major ≡ 5) → AreEncodingsOf is before → IsCutShort last
      → bytes ≡ initial_byte major 31 ∷ (before ++ last) → IsCutShort bytes
