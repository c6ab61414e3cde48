-- What the meaning of a node depends on beside table and place: the wire's scalars, and the settings.
use Rattle.std.specs.Prelude.{ℕ, ◌+◌, List, Bool, true, false, ◌&&◌, ◌||◌, not, Option, Some, None, option_and_then, if◌then◌else◌}
use Rattle.std.specs.Option.{option_map_or}
use Rattle.smithy_types.specs.Document.{Document}
use Rattle.smithy_types.specs.declared.number.Number.{Number}
use Rattle.smithy_declarations.specs.declared.place.Place.{Place}
use Rattle.smithy_declarations.specs.declared.shape_type.Scalar.{Scalar}
use Rattle.smithy_declarations.specs.declared.shape_type.TimestampFormat.{TimestampFormat}
use Rattle.smithy_shapes.specs.Limits.{Limits, kept, lifted, is_within}
use Rattle.smithy_declarations.specs.Table.{Member, Kind, structure_of, union_of, members_of, member_place, has_members, position_named}
use Rattle.smithy_declarations.specs.Value.{Value}
use Rattle.smithy_shapes.specs.Container.{is_type_mark}
use Rattle.smithy_wire.specs.Node.{Form, as_array, as_object, Node, nesting, all_pass, is_null}

-- what a scalar of a body is as one kind
pub data Answer (A : Type 0) : Type 0 where
  means : A → Answer A
  no_meaning : Answer A
  -- a number that leaves the limits of its kind
  wide : Answer A
  -- what the kind can't carry
  uncarried : Answer A

-- a null, where the limits are lifted
abbrev pub where_lifted : {A : Type 0} → Limits → A → Option A
where_lifted kept null = None
where_lifted lifted null = Some null

-- the meaning by an answer: with the limits lifted what is wide or isn't carried means a null
abbrev pub settled : {A : Type 0} → Limits → A → Answer A → Option A
settled limits null (means v) = Some v
settled limits null no_meaning = None
settled limits null _ = where_lifted limits null

-- an answer that means something where the option does
abbrev pub answer_of : {A : Type 0} → Option A → Answer A
answer_of None = no_meaning
answer_of (Some v) = means v

-- a number means its value within the limits of its kind, and beyond them it is wide
abbrev pub bounded : {A B : Type 0} → (A → Bool) → (A → B) → Option A → Answer B
bounded fits value_of None = no_meaning
bounded fits value_of (Some n) = if fits n then means (value_of n) else wide

-- what a wire and its settings decide
pub record Rules (L : Type 0) : Type 0 where
  -- ---- the wire
  -- the text of a key, where it is one
  pub text_of : L → Option (List ℕ)
  -- what a scalar is as one kind, by the time form of the place
  pub says : Scalar → Option TimestampFormat → L → Answer Value
  -- what a scalar is as a document, where the wire carries documents
  pub documents : Option (L → Answer (Document Number))
  -- what comes at a place of the input is of another type than the kind, by the time form of the place
  pub mismatches : Kind → Option TimestampFormat → List ℕ → ℕ → Bool
  -- what is skipped counts as depth, and so do the parts of a document
  pub skips_count : Bool
  -- ---- settings
  -- the name that a key is compared with
  pub name_of : Member → List ℕ
  pub max_depth : ℕ
  pub limits : Limits
  -- a null of a member with this place, or of a key that names none, is handed on; any other null drops its entry
  pub keeps_null : Option Place → Bool
  -- a scalar or a key that may stand in what is skipped
  pub may_skip_scalar : L → Bool

-- the rules with the limits lifted
abbrev pub lift : {L : Type 0} → Rules L → Rules L
lift r = record r { limits = lifted }

-- ---- depth

-- so many containers may be open, by the rules
abbrev pub is_shallow : {L : Type 0} → Rules L → ℕ → Bool
is_shallow r depth = is_within r.limits r.max_depth depth

-- what means something means nothing where it is too deep
abbrev pub at_depth : {L A : Type 0} → Rules L → ℕ → Option A → Option A
at_depth r depth v = if is_shallow r depth then v else None

-- a node inside so many containers may be skipped: nothing is missing, and it isn't too deep where that counts
abbrev pub may_skip : {L : Type 0} → Rules L → ℕ → Node L → Bool
may_skip r depth x = all_pass r.may_skip_scalar x && (if r.skips_count then is_shallow r (depth + nesting x) else true)

-- ---- keys

-- the text that names a child: none in an array
abbrev pub key_text : {L : Type 0} → Rules L → Form → Option L → Option (List ℕ)
key_text r as_array key = None
key_text r as_object key = option_and_then r.text_of key

-- the position of the member that a key names, if it names one
abbrev pub position_in : {L : Type 0} → Rules L → Kind → Option (List ℕ) → Option ℕ
position_in r k key = option_and_then (position_named r.name_of (members_of k)) key

-- ---- what is dropped

-- a null under a key is dropped: in structures and unions alone, and not where its member keeps it
abbrev pub drops_null : {L : Type 0} → Rules L → Kind → Option ℕ → Bool
drops_null r (structure_of members) position = not (r.keeps_null (member_place members position))
drops_null r (union_of members) position = not (r.keeps_null (member_place members position))
drops_null r _ position = false

-- an entry that is as good as not there
abbrev pub is_absent : {L : Type 0} → Rules L → Kind → Option (List ℕ) → Node L → Bool
is_absent r k key x = is_null x && drops_null r k (position_in r k key)

-- a `__type` of a structure or a union that names no member
abbrev pub is_mark : {L : Type 0} → Rules L → Kind → Option (List ℕ) → Bool
is_mark r k key = has_members k && option_map_or (is_type_mark (position_in r k key)) key false

-- an entry that a reader passes over: one that is absent, and a mark that may be skipped inside so many containers
abbrev pub is_dropped : {L : Type 0} → Rules L → Kind → ℕ → Option (List ℕ) → Node L → Bool
is_dropped r k depth key x = is_absent r k key x || is_mark r k key && may_skip r depth x
