-- Why no item, and why no string, is read at a place.
use Rattle.std.specs.Prelude.{◌≢◌, ℕ, ⊤, List, drop}
use Rattle.cbor_item.specs.declared.error.ItemError.{ItemError}
use Rattle.cbor_item.specs.declared.error.ItemError.TheVariants.{Truncated, NotWellFormed, WrongType, InvalidUtf8, NoMemory}
use Rattle.cbor_item.specs.Head.{HeadRead, BeginsWithHead}
use Rattle.cbor_item.specs.WellFormed.{HoldsNoItem}
use Rattle.cbor_item.specs.CutShort.{IsCutShort}

-- no item stands there: the input ends inside what begins there, or what begins there is no item
-- whatever follows; want of memory says nothing
abbrev pub IsItemFault : List ℕ → ℕ → ItemError → Type 0
IsItemFault input at Truncated = HoldsNoItem input at × IsCutShort (drop at input)
IsItemFault input at NotWellFormed = HoldsNoItem input at × ¬ (IsCutShort (drop at input))
IsItemFault input at WrongType = ⊥
IsItemFault input at InvalidUtf8 = ⊥
IsItemFault input at NoMemory = ⊤

-- a whole head of another major type begins there
abbrev pub BeginsOtherwise : ℕ → List ℕ → Type 0
BeginsOtherwise major bytes = (h : HeadRead) × BeginsWithHead bytes h × (h.major ≢ major)

-- no string of the major type stands there: a head of another type begins there, or no head, or a
-- string that is no item
abbrev pub IsStringFault : ℕ → List ℕ → ℕ → ItemError → Type 0
IsStringFault major input at WrongType = BeginsOtherwise major (drop at input)
IsStringFault major input at NoMemory = ⊤
IsStringFault major input at e =
    ¬ (BeginsOtherwise major (drop at input)) × IsItemFault input at e
