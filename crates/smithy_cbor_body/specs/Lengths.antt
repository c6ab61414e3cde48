-- The lengths with which containers are written (RFC 8949, sections 3.1 and 3.2.2).
use Rattle.std.specs.Prelude.{ℕ, ◌-◌, ◌==◌, List, [], ◌∷◌, ◌++◌, Bool, true, false, Option, Some, None, if◌then◌else◌}
use Rattle.smithy_schema.specs.Writing.{Open, open_map_at_key}
use Rattle.cbor_item.specs.Head.{shortest_head}
use Rattle.cbor_item.specs.WellFormed.{break}
use Rattle.smithy_cbor.specs.Written.{opening_bytes}
use Rattle.smithy_cbor_values.specs.Settings.{Settings}
use Rattle.smithy_cbor_body.specs.declared.lengths.Length.{Length}
use Rattle.smithy_cbor_body.specs.declared.lengths.Length.TheVariants.{Unwritten, Due, Surplus}

-- the length that a list or a map is written with, of the one that is told
abbrev pub written_length : Settings → Option ℕ → Option ℕ
written_length c length = if c.use_definite_lengths then length else None

-- the length that is told of a list or a map of so many elements or entries
abbrev pub told_length : Bool → ℕ → Option ℕ
told_length definite_lengths n = if definite_lengths then Some n else None

-- what ends a container of this length
abbrev pub ending_of : Option ℕ → List ℕ
ending_of None = break ∷ []
ending_of (Some n) = []

-- the head of a container of this major type
abbrev pub head_of : ℕ → Option ℕ → List ℕ
head_of major None = opening_bytes major
head_of major (Some n) = shortest_head major n

-- a container: its head, what is inside, and a break where its length doesn't stand in the head
abbrev pub container_bytes : ℕ → Option ℕ → List ℕ → List ℕ
container_bytes major length inside = head_of major length ++ (inside ++ ending_of length)

-- what is known of the length of a container that begins
abbrev pub begun : Option ℕ → Length
begun None = Unwritten
begun (Some n) = Due n

-- one more element or entry has come
abbrev pub counted : Length → Length
counted Unwritten = Unwritten
counted (Due n) = if n == 0 then Surplus else Due (n - 1)
counted Surplus = Surplus

-- of the innermost container
abbrev pub counted_first : List Length → List Length
counted_first [] = []
counted_first (length ∷ lengths) = counted length ∷ lengths

-- a value has come, or a key, which isn't counted
abbrev pub counted_in : List Open → List Length → List Length
counted_in (open_map_at_key ∷ frames) lengths = lengths
counted_in _ lengths = counted_first lengths

-- no more elements or entries came than were announced, and no fewer
abbrev pub is_complete : Length → Bool
is_complete Unwritten = true
is_complete (Due n) = n == 0
is_complete Surplus = false

-- the innermost container may end
abbrev pub may_end : List Length → Bool
may_end [] = true
may_end (length ∷ lengths) = is_complete length

-- what ends a container
abbrev pub end_of : Length → List ℕ
end_of Unwritten = break ∷ []
end_of _ = []

-- what ends the innermost container
abbrev pub ending : List Length → List ℕ
ending [] = []
ending (length ∷ lengths) = end_of length

-- the lengths without that of the innermost container
abbrev pub outer : List Length → List Length
outer [] = []
outer (length ∷ lengths) = lengths
