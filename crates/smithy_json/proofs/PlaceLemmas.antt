-- A place for a value, from the text that it is written to: what is said of the one is said of the other.
use Rattle.std.proofs.Common.{◌≡◌, ℕ, List, refl, MutBor, String, Global, Result, Ok, Err, IfOk, string_bytes}
use base.Fml.{Lft}
use types.Logic.{Logic}
use seplogic.Ra.Ura.{Ura}
use denote.Laws.{Lawful}
use denote.Param.Laws.{Laws, row_shared, of_field}
use denote.Param.Shared.{mut_ref_shared}
use denote.RattleType.{RattleType}
use denote.Ref.{MutRef, NamedLft}
use denote.Struct.Field.{mut_ref_field}
use denote.Struct.Laws.{mut_ref_laws}
use mir.Syntax.{named}
use Rattle.std.specs.declared.alloc.AllocError.{AllocError}
use Rattle.std.specs.contracts.alloc.Global as global
use Rattle.std.specs.contracts.alloc.AllocError as error
use Rattle.std.specs.contracts.result.Result as result
use Rattle.std.specs.contracts.impls.GlobalAllocator.TheImpl.{ghosts}
use Rattle.std.proofs.alloc.Global.TheLaws as global_laws
use Rattle.std.proofs.alloc.AllocError.TheLaws as error_laws
use Rattle.std.proofs.string.String.TheLaws as string_laws
use Rattle.std.proofs.result.Result.TheLaws as result_laws
use Rattle.smithy_json.specs.Writer.{string_row, value_borrow, value_text, LendsElement, LendsMember}
use Rattle.smithy_json.specs.Private.Place.{text_borrow, writer_of}
use Rattle.smithy_json.specs.declared.writer.JsonArrayWriter.{JsonArrayWriter}
use Rattle.smithy_json.specs.declared.writer.JsonObjectWriter.{JsonObjectWriter}
use Rattle.smithy_json.specs.contracts.writer.JsonValueWriter as value
use Rattle.smithy_json.proofs.writer.JsonValueWriter.TheLaws as value_laws

-- the array follows the place as it follows the text
pub element_lent : (w : MutBor JsonArrayWriter) (text : Result (MutBor (String Global)) AllocError)
    → LendsElement w text_borrow text ≡ LendsElement w value_borrow (writer_of text)
element_lent w (Ok text) = refl
element_lent w (Err error) = refl

-- and so does the object
pub member_lent : (w : MutBor JsonObjectWriter) (text : Result (MutBor (String Global)) AllocError)
    → LendsMember w text_borrow text ≡ LendsMember w value_borrow (writer_of text)
member_lent w (Ok text) = refl
member_lent w (Err error) = refl

-- the place has the bytes of the text
pub same_text : (bytes : List ℕ) (text : Result (MutBor (String Global)) AllocError)
    → IfOk text (λ t. string_bytes t.now ≡ bytes) → IfOk (writer_of text) (λ w. value_text w ≡ bytes)
same_text bytes (Ok text) same = same
same_text bytes (Err error) same = tt

-- the texts and the places that a call may answer at a lifetime, as values of the machine
module _ (κ : Lft) where
  abbrev lifetime : NamedLft
  lifetime = record { mir = named 0; lft = κ }

  abbrev Text : RattleType
  Text = MutRef (named 0) κ string_row

  abbrev Place : RattleType
  Place = value.the_row lifetime

  abbrev pub Texts : RattleType
  Texts = result.the_row Text error.the_row

  abbrev pub Places : RattleType
  Places = result.the_row Place error.the_row

  text_laws : Laws Text
  text_laws =
      let string_shared = row_shared string_row (string_laws.the_row_laws global.the_row ghosts global_laws.the_row_laws) in
      of_field (mut_ref_field lifetime string_row tt) (mut_ref_laws lifetime string_row tt) refl (mut_ref_shared lifetime string_row tt string_shared)

  module _ {M : Type 1} {𝓤 : Ura M} (𝓛 : Logic 𝓤) where
    pub texts_lawful : Lawful 𝓛 Texts
    texts_lawful = (result_laws.the_row_laws Text error.the_row text_laws error_laws.the_row_laws).lawful 𝓛

    pub places_lawful : Lawful 𝓛 Places
    places_lawful = (result_laws.the_row_laws Place error.the_row (value_laws.the_row_laws lifetime) error_laws.the_row_laws).lawful 𝓛
