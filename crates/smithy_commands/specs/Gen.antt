-- The command `gen SEED COUNT`: its words, and what a status says where they are it.
use Rattle.std.specs.Prelude.{◌≡◌, ◌≢◌, ℕ, List, [], ◌∷◌, ◌++◌, ◌-◌, ◌^◌, length, Option, Some, None, option_and_then, option_map, true, false, codes, decimal}
use Rattle.smithy_declarations.specs.Table.{Table, declared_as}
use Rattle.smithy_declarations.specs.Acceptance.{accepted, table_of}
use Rattle.smithy_declarations.specs.Value.{Value}
use Rattle.smithy_transcode.specs.Spelling.{Spells, body}
use Rattle.smithy_transcode.specs.Wires.{json, cbor, unfit}
use Rattle.smithy_generator.specs.Generated.{generated, generated_table}
use Rattle.smithy_commands.specs.declared.commands.generate.Gen as kept
use Rattle.smithy_commands.specs.declared.status.Status.{Status}
use Rattle.smithy_commands.specs.declared.status.Status.TheVariants.{Done, WriteFailed, OutOfMemory}
use Rattle.smithy_commands.specs.SmallNumber.{number_within}
use Rattle.smithy_commands.specs.Checks.{WritesAtOnce}
use Rattle.smithy_outside.specs.Outside.{Environment, MetOneFault, Took, TookPrefix}

-- ---- the words

-- the input of so many items that the seed generates
pub record Gen : Type 0 where
  pub seed : ℕ
  pub count : ℕ

-- SEED of 1 to 20 digits, and COUNT of 1 to 6
abbrev pub gen_of : List (List ℕ) → Option Gen
gen_of (seed ∷ count ∷ []) =
    option_and_then (λ seed. option_map (λ count. record { seed = seed; count = count }) (number_within 6 100000 count))
    (number_within 20 (2 ^ 64 - 1) seed)
gen_of _ = None

-- the command as plain data
abbrev pub gen_view : kept.Gen → Gen
gen_view c = record { seed = c.seed; count = c.count }

-- ---- what a status says

-- the line that tells the length of an input, and those of both bodies of its value
abbrev pub line_of_lengths : (input in_cbor in_json : ℕ) → List ℕ
line_of_lengths input in_cbor in_json =
    codes "input " ++ decimal input ++ codes " cbor " ++ decimal in_cbor ++ codes " json " ++ decimal in_json
    ++ codes " same yes\n"

-- the value that the input spells at the root of the generator's table has bodies of these lengths
abbrev pub HasLengths : List ℕ → (cbor json : ℕ) → Type 0
HasLengths input in_cbor in_json =
    (table : Table) × (root : ℕ) × (v : Value) × (table_of generated_table ≡ accepted table)
    × (declared_as table (codes "S") ≡ Some root) × Spells (json false false) table root input v
    × (in_cbor ≡ length (body (cbor false) table root v)) × (in_json ≡ length (body (json false false) table root v))

-- the line of the input that the seed generates
abbrev pub IsGenLine : Gen → List ℕ → Type 0
IsGenLine c line =
    (in_cbor in_json : ℕ) × HasLengths (generated c.seed c.count) in_cbor in_json
    × (line ≡ line_of_lengths (length (generated c.seed c.count)) in_cbor in_json)

-- what a status says: no other comes
abbrev pub Tells : Gen → Environment → Environment → Status → Type 0
Tells c old new Done = (line : List ℕ) × IsGenLine c line × Took line old.out new.out
Tells c old new WriteFailed =
    (line : List ℕ) × IsGenLine c line × MetOneFault old.out new.out × TookPrefix line old.out new.out
Tells c old new OutOfMemory = Unit {0}
Tells c old new _ = ⊥

-- What a status says where the words ask for this input.
pub record GenAnswer (c : Gen) (old new : Environment) (status : Status) : Type 0 where
  pub says : Tells c old new status
  pub files_are_untouched : new.files ≡ old.files
  pub input_is_untouched : new.input ≡ old.input
  -- over an output that is told to be steady 7 doesn't come
  pub steady_never_fails : old.out.is_steady ≡ true → status ≢ WriteFailed
  pub output : WritesAtOnce old new status

-- ---- the steps, for private clauses

-- the input spells a value that both wires can express
abbrev pub IsExpressible : Table → ℕ → List ℕ → Type 0
IsExpressible table root input =
    (v : Value) × Spells (json false false) table root input v × (unfit (cbor false) table root v ≡ None)
    × (unfit (json false false) table root v ≡ None)

-- the bodies of the value that the input spells have these lengths
abbrev pub HasBodiesOfLengths : Table → ℕ → List ℕ → (in_cbor in_json : ℕ) → Type 0
HasBodiesOfLengths table root input in_cbor in_json =
    (v : Value) × Spells (json false false) table root input v × (in_cbor ≡ length (body (cbor false) table root v))
    × (in_json ≡ length (body (json false false) table root v))
