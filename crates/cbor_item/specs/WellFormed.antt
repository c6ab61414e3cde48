-- Which bytes are a well-formed encoding of an item (RFC 8949, sections 3.1 to 3.3).
use Rattle.std.specs.Prelude.{◌≡◌, ◌⊎◌, ◌≤◌, ◌<◌, ℕ, List, [], ◌∷◌, ◌++◌, length, slice_range, All}
use Rattle.cbor_item.specs.Head.{initial_byte, IsHead}
use Rattle.cbor_item.specs.Item.{Extent, definite, indefinite, Item, unsigned, negative, byte_string, text_string, array, map, tag, simple, float, Items, no_items, item, item_count, Pairs, no_pairs, pair, pair_count}

-- additional information 31 under major type 7
abbrev pub break : ℕ
break = 0xff

-- a head with this major type and argument, and then the body
abbrev pub HeadThen : ℕ → ℕ → List ℕ → List ℕ → Type 0
HeadThen major argument body bytes = (head : List ℕ) × IsHead major argument head × (bytes ≡ head ++ body)

-- a head of indefinite length, the body, and a break
abbrev pub UntilBreak : ℕ → List ℕ → List ℕ → Type 0
UntilBreak major body bytes = bytes ≡ initial_byte major 31 ∷ (body ++ break ∷ [])

-- definite strings of the major type, one after another
abbrev pub AreChunks : ℕ → List (List ℕ) → List ℕ → Type 0
AreChunks major [] bytes = bytes ≡ []
AreChunks major (chunk ∷ chunks) bytes =
    (first rest : List ℕ) × HeadThen major (length chunk) chunk first × AreChunks major chunks rest
    × (bytes ≡ first ++ rest)

-- a string of the major type: one chunk after its head, or chunks until a break (section 3.2.3)
abbrev pub IsString : ℕ → Extent → List (List ℕ) → List ℕ → Type 0
IsString major definite chunks bytes = (length chunks ≡ 1) × AreChunks major chunks bytes
IsString major indefinite chunks bytes = (body : List ℕ) × AreChunks major chunks body × UntilBreak major body bytes

-- 0 to 23 in the initial byte, 32 to 255 in the byte after it
abbrev pub IsSimple : ℕ → List ℕ → Type 0
IsSimple n bytes =
    ((n < 24) × (bytes ≡ initial_byte 7 n ∷ []))
    ⊎ ((32 ≤ n) × (n < 256) × (bytes ≡ initial_byte 7 24 ∷ n ∷ []))

-- two, four or eight bytes after an initial byte of their own
abbrev pub IsFloat : List ℕ → List ℕ → Type 0
IsFloat digits bytes =
    All (λ b. b < 256) digits
    × (((length digits ≡ 2) × (bytes ≡ initial_byte 7 25 ∷ digits))
    ⊎ ((length digits ≡ 4) × (bytes ≡ initial_byte 7 26 ∷ digits))
    ⊎ ((length digits ≡ 8) × (bytes ≡ initial_byte 7 27 ∷ digits)))

abbrev mutual
  -- the bytes are a well-formed encoding of the item
  pub IsEncodingOf : Item → List ℕ → Type 0
  IsEncodingOf (unsigned n) bytes = IsHead 0 n bytes
  IsEncodingOf (negative n) bytes = IsHead 1 n bytes
  IsEncodingOf (byte_string extent chunks) bytes = IsString 2 extent chunks bytes
  IsEncodingOf (text_string extent chunks) bytes = IsString 3 extent chunks bytes
  IsEncodingOf (array definite is) bytes =
      (body : List ℕ) × AreEncodingsOf is body × HeadThen 4 (item_count is) body bytes
  IsEncodingOf (array indefinite is) bytes = (body : List ℕ) × AreEncodingsOf is body × UntilBreak 4 body bytes
  IsEncodingOf (map definite ps) bytes =
      (body : List ℕ) × ArePairEncodingsOf ps body × HeadThen 5 (pair_count ps) body bytes
  IsEncodingOf (map indefinite ps) bytes = (body : List ℕ) × ArePairEncodingsOf ps body × UntilBreak 5 body bytes
  IsEncodingOf (tag n i) bytes = (body : List ℕ) × IsEncodingOf i body × HeadThen 6 n body bytes
  IsEncodingOf (simple n) bytes = IsSimple n bytes
  IsEncodingOf (float digits) bytes = IsFloat digits bytes

  -- one after another
  pub AreEncodingsOf : Items → List ℕ → Type 0
  AreEncodingsOf no_items bytes = bytes ≡ []
  AreEncodingsOf (item i rest) bytes =
      (first more : List ℕ) × IsEncodingOf i first × AreEncodingsOf rest more
      × (bytes ≡ first ++ more)

  -- keys and values in turn
  pub ArePairEncodingsOf : Pairs → List ℕ → Type 0
  ArePairEncodingsOf no_pairs bytes = bytes ≡ []
  ArePairEncodingsOf (pair k v rest) bytes =
      (key value more : List ℕ) × IsEncodingOf k key × IsEncodingOf v value
      × ArePairEncodingsOf rest more × (bytes ≡ key ++ value ++ more)

-- the bytes of the input from at to end are a well-formed encoding of the item
abbrev pub IsItemAt : Item → List ℕ → ℕ → ℕ → Type 0
IsItemAt value input at end = (end ≤ length input) × IsEncodingOf value (slice_range input at end)

-- an item stands at the place and ends at end; no other item stands there, nor this one with
-- another end
pub record HoldsOneItem (input : List ℕ) (at end : ℕ) : Type 0 where
  pub value : Item
  pub encoded : IsItemAt value input at end
  pub alone : (i : Item) (e : ℕ) → IsItemAt i input at e → (i ≡ value) × (e ≡ end)

-- no item stands at the place
abbrev pub HoldsNoItem : List ℕ → ℕ → Type 0
HoldsNoItem input at = (i : Item) (end : ℕ) → ¬ (IsItemAt i input at end)
