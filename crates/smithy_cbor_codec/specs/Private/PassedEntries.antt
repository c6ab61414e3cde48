-- What comes in a map behind the entries that are passed over, as private functions answer it.
use Rattle.std.specs.Prelude.{◌≡◌, ◌⊎◌, ◌||◌, ℕ, zero, suc, List, Option, Some, is_none, Bool, true, false}
use Rattle.std.specs.Cow.{cow_str_bytes}
use Rattle.smithy_shapes.specs.Container.{is_type_mark}
use Rattle.smithy_schema.specs.Reading.{Mark}
use Rattle.smithy_declarations.specs.Table.{Kind, Member, members_of, position_named}
use Rattle.cbor_item.specs.Item.{Item}
use Rattle.cbor_item.specs.WellFormed.{IsItemAt}
use Rattle.smithy_cbor_codec.specs.declared.members.Next.{Next}
use Rattle.smithy_cbor_codec.specs.declared.members.Next.TheVariants.{Pair, End}
use Rattle.smithy_cbor_codec.specs.declared.members.Entry.{Entry}
use Rattle.smithy_cbor_codec.specs.declared.members.Entry.TheVariants.{Passed, Kept}
use Rattle.smithy_cbor.specs.Scalar.{text_of}
use Rattle.smithy_cbor_values.specs.Standing.{HasEntry, IsOver, mark_with}
use Rattle.smithy_cbor_values.specs.Private.ScalarAtPlace.{IsNullAt}
use Rattle.smithy_cbor_values.specs.Private.Skipping.{SkipsTo}

-- ---- any map

-- from b to c stands the key of another entry, a text
abbrev pub HasKey : List ℕ → ℕ → Mark → List ℕ → ℕ → Mark → Type 0
HasKey input b m text c n =
    HasEntry input b m n × ((k : Item) × IsItemAt k input b c × (text_of k ≡ Some text))

-- an entry comes whose value is at c, or the entries are over
abbrev pub IsPairOrEnd : List ℕ → ℕ → Option ℕ → Next → Type 0
IsPairOrEnd input at due (Pair key c after) = HasKey input at (mark_with due) (cow_str_bytes key) c (mark_with after)
IsPairOrEnd input at due (End e) = IsOver input at (mark_with due) e

-- neither a key that is a text nor the end of the map stands at the place
abbrev pub PairMissing : List ℕ → ℕ → Option ℕ → Type 0
PairMissing input at due =
    ((text : List ℕ) (c : ℕ) (n : Mark) → HasKey input at (mark_with due) text c n → ⊥)
    × ((e : ℕ) → IsOver input at (mark_with due) e → ⊥)

-- ---- structures and unions

-- the key is a mark, which says of what shape a value is: a `__type` that names no member
abbrev pub is_mark : Kind → List ℕ → Bool
is_mark kind key = is_type_mark (position_named (λ (m : Member). m.name) (members_of kind) key) key

-- a null under this key is passed over: each where nulls are dropped, and else under a key that names no member
abbrev pub passes_null : Bool → Kind → List ℕ → Bool
passes_null drops_nulls kind key =
    drops_nulls || is_none (position_named (λ (m : Member). m.name) (members_of kind) key)

-- from c to e is a value that is passed over under this key: a null, and that of a mark
abbrev pub IsPassed : Bool → Kind → List ℕ → ℕ → List ℕ → ℕ → ℕ → Type 0
IsPassed drops_nulls kind input depth key c e =
    ((passes_null drops_nulls kind key ≡ true) × IsNullAt input c depth e)
    ⊎ ((is_mark kind key ≡ true) × SkipsTo input c depth e)

-- from b to e so many entries come that are passed over
abbrev pub Passes : Bool → Kind → ℕ → List ℕ → ℕ → ℕ → Mark → ℕ → Mark → Type 0
Passes drops_nulls kind zero input depth b m e n = (b ≡ e) × (m ≡ n)
Passes drops_nulls kind (suc count) input depth b m e n =
    (text : List ℕ) × (c : ℕ) × (f : ℕ) × (k : Mark) × HasKey input b m text c k × IsPassed drops_nulls kind input depth text c f
    × Passes drops_nulls kind count input depth f k e n

-- under this key from c on comes a value that is handed on
abbrev pub IsHandedOn : Bool → Kind → List ℕ → ℕ → List ℕ → ℕ → Type 0
IsHandedOn drops_nulls kind input depth key c = (is_mark kind key ≡ false) × ((e : ℕ) → IsNullAt input c depth e → passes_null drops_nulls kind key ≡ false)

-- entries that are passed over, and then one with this key that isn't
abbrev pub StepsToMember : Bool → Kind → List ℕ → ℕ → ℕ → Mark → List ℕ → ℕ → Mark → Type 0
StepsToMember drops_nulls kind input depth b m text c n =
    (count : ℕ) × (at : ℕ) × (k : Mark) × Passes drops_nulls kind count input depth b m at k × HasKey input at k text c n
    × IsHandedOn drops_nulls kind input depth text c

-- entries that are passed over, and then the end
abbrev pub ClosesMembers : Bool → Kind → List ℕ → ℕ → ℕ → Mark → ℕ → Type 0
ClosesMembers drops_nulls kind input depth b m e =
    (count : ℕ) × (at : ℕ) × (k : Mark) × Passes drops_nulls kind count input depth b m at k × IsOver input at k e

-- from at to e an entry comes that is passed over, and so many are due behind it
pub record PassesTo (drops_nulls : Bool) (kind : Kind) (input : List ℕ) (at : ℕ) (due : Option ℕ) (depth e : ℕ) (after : Option ℕ) : Type 0 where
  pub text : List ℕ
  pub value : ℕ
  pub key : HasKey input at (mark_with due) text value (mark_with after)
  pub passed : IsPassed drops_nulls kind input depth text value e

-- a member comes, behind what is passed over, whose value is due at c, or the entries are over
abbrev pub IsNext : Bool → Kind → List ℕ → ℕ → Option ℕ → ℕ → Next → Type 0
IsNext drops_nulls kind input at due depth (Pair key c after) =
    StepsToMember drops_nulls kind input depth at (mark_with due) (cow_str_bytes key) c (mark_with after)
IsNext drops_nulls kind input at due depth (End e) =
    ClosesMembers drops_nulls kind input depth at (mark_with due) e

-- a member comes that isn't passed over, whose value is due at c, or the entries are over
abbrev pub IsKept : Bool → Kind → List ℕ → ℕ → Option ℕ → ℕ → Next → Type 0
IsKept drops_nulls kind input at due depth (Pair key c after) =
    HasKey input at (mark_with due) (cow_str_bytes key) c (mark_with after)
    × IsHandedOn drops_nulls kind input depth (cow_str_bytes key) c
IsKept drops_nulls kind input at due depth (End e) = IsOver input at (mark_with due) e

abbrev pub IsEntry : Bool → Kind → List ℕ → ℕ → Option ℕ → ℕ → Entry → Type 0
IsEntry drops_nulls kind input at due depth (Passed e after) = PassesTo drops_nulls kind input at due depth e after
IsEntry drops_nulls kind input at due depth (Kept next) = IsKept drops_nulls kind input at due depth next

-- a mark stands there whose value can't be skipped
pub record MarkStays (kind : Kind) (input : List ℕ) (at : ℕ) (due : Option ℕ) (depth : ℕ) : Type 0 where
  pub text : List ℕ
  pub value : ℕ
  pub after : Mark
  pub key : HasKey input at (mark_with due) text value after
  pub is_mark : is_mark kind text ≡ true
  pub stays : (e : ℕ) → SkipsTo input value depth e → ⊥

-- neither a key that is a text nor the end of the map stands at the place, or a mark does whose value can't be skipped
abbrev pub EntryMissing : Kind → List ℕ → ℕ → Option ℕ → ℕ → Type 0
EntryMissing kind input at due depth = PairMissing input at due ⊎ MarkStays kind input at due depth

-- behind what is passed over neither another member nor the end comes
pub record NothingComes (drops_nulls : Bool) (kind : Kind) (input : List ℕ) (at : ℕ) (due : Option ℕ) (depth : ℕ) : Type 0 where
  pub count : ℕ
  pub place : ℕ
  pub after : Option ℕ
  pub passes : Passes drops_nulls kind count input depth at (mark_with due) place (mark_with after)
  pub missing : EntryMissing kind input place after depth
