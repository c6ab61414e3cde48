-- What a table leaves out of a model.
use Rattle.std.specs.Prelude.{◌≡◌, ℕ, List, ◌||◌, ◌&&◌, Bool, true, false, Option, Some, None, unwrap_or, if◌then◌else◌, slice_get, map}
use Rattle.std.specs.List.{list_all}
use Rattle.std.specs.Option.{option_map_or}
use Rattle.smithy_model.specs.Model as model
use Rattle.smithy_model.specs.Model.{Member, Kind, Shape, Model}
use Rattle.smithy_model_table.specs.Bindings.{Bindings}

-- why a member is left out
pub data Reason : Type 0 where
  -- a float, or a list, a map or a union of nothing else; a stream of events
  float event_stream : Reason
  -- bound to another part of the message (Smithy 2.0, "HTTP bindings"); a name that an earlier member has
  outside clash : Reason

-- the shape of this number is marked, or there is none
abbrev pub is_marked : List Bool → ℕ → Bool
is_marked marks number = unwrap_or (slice_get marks number) true

-- the target of the member is marked
abbrev pub has_mark : List Bool → Member → Bool
has_mark marks member = is_marked marks member.number

-- Nothing of the shape can stand in a table, by the marks of its parts: a float, a stream of events, and a list, a map or a
-- union of such.
abbrev pub is_uncarried : List Bool → Kind → Bool
is_uncarried marks model.float = true
is_uncarried marks model.event_stream = true
is_uncarried marks (model.list element) = has_mark marks element
is_uncarried marks (model.map key value) = has_mark marks value
is_uncarried marks (model.union members) = list_all (has_mark marks) members
is_uncarried marks _ = false

-- the marks are those that follow from them
abbrev pub AreSettled : Model → List Bool → Type 0
AreSettled m marks = marks ≡ map (λ (s : Shape). is_uncarried marks s.kind) m.shapes

-- each shape that is marked by the first is marked by the second
abbrev pub AreAmong : List Bool → List Bool → Type 0
AreAmong marks others = (number : ℕ) → is_marked marks number ≡ true → is_marked others number ≡ true

-- what marks others among some that follow from themselves does so still
abbrev pub IsNoFurther : Model → List Bool → List Bool → Type 0
IsNoFurther m before after = (others : List Bool) → AreSettled m others → AreAmong before others → AreAmong after others

-- The shapes of which nothing can stand in a table are marked, and no others: of all marks that follow from themselves these are the
-- fewest.
pub record AreFewest (m : Model) (marks : List Bool) : Type 0 where
  pub settled : AreSettled m marks
  pub fewest : (others : List Bool) → AreSettled m others → AreAmong marks others

-- the member travels outside of the body, where these bindings count
abbrev pub is_outside : Bindings → Member → Bool
is_outside counting member =
    counting.headers && member.in_headers || counting.request_line && member.in_request_line
    || counting.status_line && member.in_status_line

-- no table has the member: nothing of its target can stand in one, or it travels outside
abbrev pub is_left_out : List Bool → Bindings → Member → Bool
is_left_out marks counting member = has_mark marks member || is_outside counting member

-- the reason of a marked target
abbrev pub reason_of_kind : Kind → Reason
reason_of_kind model.event_stream = event_stream
reason_of_kind _ = float

abbrev pub reason_of_target : Option Shape → Reason
reason_of_target target = option_map_or (λ (s : Shape). reason_of_kind s.kind) target float

-- why a member is left out, whatever stands before it
abbrev pub reason_of : Model → List Bool → Bindings → Member → Option Reason
reason_of m marks counting member =
    if is_outside counting member then Some outside
    else if has_mark marks member then Some (reason_of_target (slice_get m.shapes member.number))
    else None
