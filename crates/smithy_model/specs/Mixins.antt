-- What shapes take over from their mixins (Smithy 2.0, "Mixins").
use Rattle.std.specs.Prelude.{◌≡◌, ◌==◌, ℕ, List, [], ◌∷◌, length, MatchBool, ◌||◌, ◌&&◌, not, Bool, true, false, Option, Some, None, if◌then◌else◌, slice_get, unwrap_or, bytes_eq, map as list_map}
use Rattle.std.specs.List.{AllZip, fold, list_any}
use Rattle.std.specs.Option.{option_or}
use Rattle.smithy_model.specs.Model.{Member, Kind, structure, union, Shape}

-- the shape takes in mixins
abbrev pub takes_mixins : Shape → Bool
takes_mixins s = not (length s.mixins == 0)

-- the members of a structure or a union; a shape of another kind has none
abbrev pub members_of : Kind → List Member
members_of (structure members) = members
members_of (union members) = members
members_of _ = []

abbrev pub with_members : Kind → List Member → Kind
with_members (structure own) members = structure members
with_members (union own) members = union members
with_members kind members = kind

-- A member that is defined again: what it isn't given again, it has from the earlier definition.
abbrev pub redefined : Member → Member → Member
redefined earlier given = record given {
  json_name = option_or given.json_name earlier.json_name;
  xml_name = option_or given.xml_name earlier.xml_name;
  ec2_name = option_or given.ec2_name earlier.ec2_name;
  is_flattened = given.is_flattened || earlier.is_flattened;
  time_format = option_or given.time_format earlier.time_format;
  in_headers = given.in_headers || earlier.in_headers;
  in_request_line = given.in_request_line || earlier.in_request_line;
  in_status_line = given.in_status_line || earlier.in_status_line;
  is_payload = given.is_payload || earlier.is_payload;
}

-- one member more: in the place of the one of its name, or else behind all
abbrev pub with_member : List Member → Member → List Member
with_member [] given = given ∷ []
with_member (m ∷ members) given =
    if bytes_eq m.name given.name then redefined m given ∷ members else m ∷ with_member members given

-- an earlier member has the name of this one, and another target
abbrev pub has_other_target : List Member → Member → Bool
has_other_target [] given = false
has_other_target (m ∷ members) given =
    if bytes_eq m.name given.name then not (bytes_eq m.target given.target) else has_other_target members given

-- none of these has another target than the earlier member of its name
abbrev pub agree : List Member → List Member → Bool
agree earlier [] = true
agree earlier (m ∷ members) = not (has_other_target earlier m) && agree (with_member earlier m) members

-- What is taken over: members, and the traits `sparse` and `timestampFormat`. Members of one name have to have one target.
pub record Gathered : Type 0 where
  pub members : List Member
  pub agrees : Bool
  pub is_sparse : Bool
  pub time_format : Option (List ℕ)

abbrev pub nothing : Gathered
nothing = record { members = []; agrees = true; is_sparse = false; time_format = None }

-- with what one shape more has; of a trait that several have, the last counts
abbrev pub with_parts : Gathered → Kind → Bool → Option (List ℕ) → Gathered
with_parts g kind is_sparse time_format = record {
  members = fold with_member g.members (members_of kind);
  agrees = g.agrees && agree g.members (members_of kind);
  is_sparse = is_sparse || g.is_sparse;
  time_format = option_or time_format g.time_format;
}

abbrev pub with_shape : Gathered → Shape → Gathered
with_shape g s = with_parts g s.kind s.is_sparse s.time_format

-- a mixin hands on those of its traits that aren't local to it
abbrev pub hands_on_sparse : Shape → Bool
hands_on_sparse s = s.is_sparse && not s.has_local_sparse

abbrev pub hands_on_time : Shape → Option (List ℕ)
hands_on_time s = if s.has_local_time then None else s.time_format

abbrev pub with_mixin : Gathered → Shape → Gathered
with_mixin g s = with_parts g s.kind (hands_on_sparse s) (hands_on_time s)

-- the shape with what was gathered for it
abbrev pub with_gathered : Shape → Gathered → Shape
with_gathered own g = record own { kind = with_members own.kind g.members; is_sparse = g.is_sparse; time_format = g.time_format }

-- what the mixins of a shape have, in their order, and then what it has itself
abbrev pub gathered : Shape → List Shape → Gathered
gathered own mixins = with_shape (fold with_mixin nothing mixins) own

-- the shape is this one with what its mixins have
abbrev pub IsWith : Shape → List Shape → Shape → Type 0
IsWith own mixins s = ((gathered own mixins).agrees ≡ true) × (s ≡ with_gathered own (gathered own mixins))

-- A shape with what its mixins have, each of which is the shape of its id. Without mixins it stays as it is.
abbrev pub IsMixed : (List ℕ → Shape → Type 0) → Shape → Shape → Type 0
IsMixed IsMixin own s =
    MatchBool (takes_mixins own) ((mixins : List Shape) × AllZip IsMixin own.mixins mixins × IsWith own mixins s) (s ≡ own)

-- one of these shapes is the shape of this id
abbrev pub IsShapeOf : List Shape → List ℕ → Shape → Type 0
IsShapeOf shapes id s = (number : ℕ) × (slice_get shapes number ≡ Some s) × (s.id ≡ id)

-- each shape of one of these ids takes in one of them
abbrev pub LeadsOn : List Shape → (List ℕ → Bool) → Type 0
LeadsOn own ids = (number : ℕ) (s : Shape) → slice_get own number ≡ Some s → ids s.id ≡ true → list_any ids s.mixins ≡ true

-- no shape takes in itself, also not by others
abbrev pub HasNoCircle : List Shape → Type 0
HasNoCircle own =
    (ids : List ℕ → Bool) → LeadsOn own ids → (number : ℕ) (s : Shape) → slice_get own number ≡ Some s → ids s.id ≡ false

-- the shapes with what all their mixins have
abbrev pub AreMixed : List Shape → List Shape → Type 0
AreMixed own whole = AllZip (IsMixed (IsShapeOf whole)) own whole × HasNoCircle own

-- each of these ids is that of a shape that takes in one of them
abbrev pub IsCircle : List Shape → (List ℕ → Bool) → Type 0
IsCircle own ids =
    (id : List ℕ) → ids id ≡ true
    → (number : ℕ) × (s : Shape) × (slice_get own number ≡ Some s) × (s.id ≡ id) × (list_any ids s.mixins ≡ true)

-- the ids of shapes, each with those of its mixins
abbrev pub uses_of : List Shape → List (List ℕ × List (List ℕ))
uses_of shapes = list_map (λ (s : Shape). (s.id, s.mixins)) shapes

-- the shape of this id takes in one that isn't there
abbrev pub MissesMixin : List (List ℕ × List (List ℕ)) → List ℕ → Type 0
MissesMixin uses id =
    (number place : ℕ) × (mixins : List (List ℕ)) × (mixin : List ℕ) × (slice_get uses number ≡ Some (id, mixins))
    × (slice_get mixins place ≡ Some mixin) × (list_any (λ (u : List ℕ × List (List ℕ)). bytes_eq u.0 mixin) uses ≡ false)

-- the shape of this id takes in itself, or one that does so, by others or not
abbrev pub IsInCircle : List Shape → List ℕ → Type 0
IsInCircle own id = (ids : List ℕ → Bool) × IsCircle own ids × (ids id ≡ true)

-- the mark of this number is set
abbrev pub is_done : List Bool → ℕ → Bool
is_done done number = unwrap_or (slice_get done number) false

-- one of the shapes that are marked is the shape of this id
abbrev pub IsDone : List Shape → List Bool → List ℕ → Shape → Type 0
IsDone shapes done id s = (number : ℕ) × (slice_get shapes number ≡ Some s) × (is_done done number ≡ true) × (s.id ≡ id)

-- each shape that is marked has what its mixins have, which are marked too
abbrev pub ArePartlyMixed : List Shape → List Shape → List Bool → Type 0
ArePartlyMixed own shapes done =
    (number : ℕ) (o : Shape) → slice_get own number ≡ Some o → is_done done number ≡ true
    → (s : Shape) × (slice_get shapes number ≡ Some s) × IsMixed (IsDone shapes done) o s

-- the shape of this id and its mixins have two members of one name with different targets
abbrev pub Disagrees : List Shape → List ℕ → Type 0
Disagrees own id =
    (shapes : List Shape) × (done : List Bool) × ArePartlyMixed own shapes done
    × (number : ℕ) × (o : Shape) × (mixins : List Shape) × (slice_get own number ≡ Some o) × (o.id ≡ id)
    × AllZip (IsDone shapes done) o.mixins mixins × ((gathered o mixins).agrees ≡ false)
