-- Where a walk stands, as the contract of reading sees it.
use Rattle.std.specs.Prelude.{ℕ, List, [], ◌∷◌, map, reverse, None, true, false}
use Rattle.smithy_schema.specs.Reading.{Cursor, Frame, Mark, ContainerKind, outside, in_structure, in_list, in_map}
use Rattle.smithy_wire.specs.declared.walk.ContainerKind.{ContainerKind as HeldWithin}
use Rattle.smithy_wire.specs.declared.walk.ContainerKind.TheVariants as held
use Rattle.smithy_wire.specs.declared.walk.Mark.{Mark as HeldMark}
use Rattle.smithy_wire.specs.declared.walk.Frame.{Frame as HeldFrame}
use Rattle.smithy_wire.specs.declared.walk.Walk.{Walk}

abbrev pub within_of : HeldWithin → ContainerKind
within_of held.Outside = outside
within_of held.Structure = in_structure
within_of held.List = in_list
within_of held.Map = in_map

abbrev pub mark_of : HeldMark → Mark
mark_of m = record { entered = m.entered; at_end = m.at_end; due = m.due }

abbrev pub frame_of : HeldFrame → Frame
frame_of f = record { within = within_of f.within; mark = mark_of f.mark }

abbrev pub cursor_of : Walk → Cursor
cursor_of w = record {
  input = w.input.now;
  at = w.position;
  inner = frame_of w.inner;
  outer = map frame_of (reverse w.outer.items);
  due = w.due;
  failed = w.failed;
}

-- a walk that has gone nowhere yet
abbrev pub fresh_cursor : List ℕ → Cursor
fresh_cursor input = record {
  input = input;
  at = 0;
  inner = record { within = outside; mark = record { entered = false; at_end = false; due = None } };
  outer = [];
  due = true;
  failed = false;
}

-- inside a container that was entered
abbrev pub entered_into : Cursor → ℕ → Frame → Cursor
entered_into c inside frame = record c { at = inside; inner = frame; outer = c.inner ∷ c.outer; due = false }

-- at the value of an entry that is due
abbrev pub gone_on_to : Cursor → ℕ → Frame → Cursor
gone_on_to c place frame = record c { at = place; inner = frame; due = true }
