-- The causes of refusals.
use Rattle.std.specs.Prelude.{⊤}
use Rattle.cbor_item.specs.declared.error.ItemError.{ItemError}
use Rattle.cbor_item.specs.declared.error.ItemError.TheVariants as item
use Rattle.smithy_cbor.specs.declared.error.DecodeKind.{DecodeKind}
use Rattle.smithy_cbor.specs.declared.error.DecodeKind.TheVariants.{Truncated, NotWellFormed, WrongType, InvalidUtf8, UnexpectedUnionVariant, NoMemory}

-- the kind of an item's fault
abbrev pub kind_of_item_error : ItemError → DecodeKind
kind_of_item_error item.Truncated = Truncated
kind_of_item_error item.NotWellFormed = NotWellFormed
kind_of_item_error item.WrongType = WrongType
kind_of_item_error item.InvalidUtf8 = InvalidUtf8
kind_of_item_error item.NoMemory = NoMemory

-- the kind of a fault says that an item of another type stands there than the wanted one
abbrev pub IsTypeMismatch : DecodeKind → Type 0
IsTypeMismatch WrongType = ⊤
IsTypeMismatch (UnexpectedUnionVariant type) = ⊤
IsTypeMismatch _ = ⊥
