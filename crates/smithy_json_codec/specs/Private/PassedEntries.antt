-- What comes in an object behind the entries that are passed over, as private functions answer it.
use Rattle.std.specs.Prelude.{◌≡◌, ◌⊎◌, ◌≤◌, ◌+◌, ℕ, zero, suc, List, drop, Bool, true, Some, None, Result, IfOk, IfErr, IsErrOf, codes}
use Rattle.std.specs.Cow.{cow_str_bytes}
use Rattle.smithy_schema.specs.declared.error.SerdeError.{SerdeError}
use Rattle.smithy_schema.specs.declared.error.SerdeError.TheVariants as errors
use Rattle.smithy_json_grammar.specs.Ascii.{end_object}
use Rattle.smithy_json_grammar.specs.Unescape.{unescaped}
use Rattle.smithy_json_codec.specs.declared.members.Next.{Next}
use Rattle.smithy_json_codec.specs.declared.members.Next.TheVariants.{Member, End}
use Rattle.smithy_json_codec.specs.declared.members.Entry.{Entry}
use Rattle.smithy_json_codec.specs.declared.members.Entry.TheVariants.{Passed, Kept}
use Rattle.smithy_json_codec.specs.declared.members.EntryFault.{EntryFault}
use Rattle.smithy_json_codec.specs.declared.members.EntryFault.TheVariants.{NoEntry, TooDeep, NoMemory}
use Rattle.smithy_json_values.specs.declared.skip.SkipFault.{SkipFault}
use Rattle.smithy_json_values.specs.declared.skip.SkipFault.TheVariants as skip_faults
use Rattle.smithy_json_values.specs.Deepest.{OpensTooDeep}
use Rattle.smithy_json_values.specs.LexicalGrammar.{LexicalGrammar, frames_of}
use Rattle.smithy_json_values.specs.Openers.{json_openers}
use Rattle.smithy_json_values.specs.Spans.{Lies, IsByte}
use Rattle.smithy_json_values.specs.Tokens.{BoundaryBy, EndsInside}
use Rattle.smithy_json_values.specs.Private.NextInContainer.{ClosesIn, NamesIn}
use Rattle.smithy_json_values.specs.Private.Skipping.{SkipsTo}

-- the name of a mark, which says of what shape a value is
abbrev pub type_name : List ℕ
type_name = codes "__type"

-- which entries of an object are passed over
pub record Passing : Type 0 where
  -- each mark is passed over
  pub marks : Bool
  -- a null under this name is passed over
  pub nulls : List ℕ → Bool

-- a null under this name is passed over
abbrev pub PassesNull : Passing → List ℕ → Type 0
PassesNull passing raw = (text : List ℕ) × (unescaped raw ≡ Some text) × (passing.nulls text ≡ true)

-- what lies there is no null that is passed over under this name
abbrev pub NoNull : LexicalGrammar → Passing → List ℕ → List ℕ → ℕ → Type 0
NoNull g passing input raw c = (e : ℕ) → (frames_of g).null input 0 c e → PassesNull passing raw → ⊥

-- where marks are passed over, the name is no mark
abbrev pub IsNoMark : Passing → List ℕ → Type 0
IsNoMark passing raw = passing.marks ≡ true → unescaped raw ≡ Some type_name → ⊥

-- From c to e lies a value that is passed over under this name: a null where nulls are passed over, and where marks are, that of
-- one, unless it goes deeper than may be.
abbrev pub IsPassed : LexicalGrammar → Passing → ℕ → ℕ → List ℕ → List ℕ → ℕ → ℕ → Type 0
IsPassed g passing greatest depth input raw c e =
    ((frames_of g).null input 0 c e × PassesNull passing raw)
    ⊎ ((passing.marks ≡ true) × (unescaped raw ≡ Some type_name) × SkipsTo g greatest depth input c e)

-- from b to c come so many entries that are passed over
abbrev pub Passes : LexicalGrammar → Passing → ℕ → ℕ → ℕ → List ℕ → ℕ → Bool → ℕ → Bool → Type 0
Passes g passing greatest depth zero input b entered c after = (b ≡ c) × (entered ≡ after)
Passes g passing greatest depth (suc count) input b entered c after =
    (raw : List ℕ) × (d e : ℕ) × NamesIn g entered input b raw d × IsPassed g passing greatest depth input raw d e
    × Passes g passing greatest depth count input e true c after

-- entries that are passed over, and then one with this name, which is no mark and whose value is no null that is passed over
abbrev pub StepsToMember : LexicalGrammar → Passing → ℕ → ℕ → List ℕ → ℕ → Bool → List ℕ → ℕ → Type 0
StepsToMember g passing greatest depth input b entered raw c =
    (count : ℕ) × (d : ℕ) × (after : Bool) × Passes g passing greatest depth count input b entered d after
    × NamesIn g after input d raw c × IsNoMark passing raw × NoNull g passing input raw c

-- entries that are passed over, and then the closing bracket
abbrev pub ClosesMembers : LexicalGrammar → Passing → ℕ → ℕ → List ℕ → ℕ → Bool → ℕ → Type 0
ClosesMembers g passing greatest depth input b entered e =
    (count : ℕ) × (d : ℕ) × (after : Bool) × Passes g passing greatest depth count input b entered d after
    × Lies (IsByte end_object) input d e

-- from at to e lies an entry that is passed over
pub record PassesTo (g : LexicalGrammar) (passing : Passing) (greatest depth : ℕ) (input : List ℕ) (at : ℕ) (entered : Bool) (e : ℕ) : Type 0 where
  pub raw : List ℕ
  pub value : ℕ
  pub names : NamesIn g entered input at raw value
  pub passed : IsPassed g passing greatest depth input raw value e

-- a member comes, behind what is passed over, whose value is due at c, or the object closes at e
abbrev pub IsNext : LexicalGrammar → Passing → ℕ → ℕ → List ℕ → ℕ → Bool → Next → Type 0
IsNext g passing greatest depth input at entered (Member text c) =
    (raw : List ℕ) × (unescaped raw ≡ Some (cow_str_bytes text)) × StepsToMember g passing greatest depth input at entered raw c
IsNext g passing greatest depth input at entered (End e) =
    ClosesMembers g passing greatest depth input at entered e × EndsInside (BoundaryBy g.is_strict) depth (drop e input)

-- a member comes that isn't passed over, whose value is due at c, or the object closes at e
abbrev pub IsKept : LexicalGrammar → Passing → ℕ → List ℕ → ℕ → Bool → Next → Type 0
IsKept g passing depth input at entered (Member text c) =
    (raw : List ℕ) × (unescaped raw ≡ Some (cow_str_bytes text)) × NamesIn g entered input at raw c × IsNoMark passing raw
    × NoNull g passing input raw c
IsKept g passing depth input at entered (End e) = ClosesIn g end_object input at depth e

abbrev pub IsEntry : LexicalGrammar → Passing → ℕ → ℕ → List ℕ → ℕ → Bool → Entry → Type 0
IsEntry g passing greatest depth input at entered (Passed e) = PassesTo g passing greatest depth input at entered e
IsEntry g passing greatest depth input at entered (Kept next) = IsKept g passing depth input at entered next

-- no value may be skipped at c inside so many containers: with the greatest depth, and whatever the depth
abbrev pub NoSkipWithin : LexicalGrammar → ℕ → ℕ → List ℕ → ℕ → Type 0
NoSkipWithin g greatest depth input c = (e : ℕ) → SkipsTo g greatest depth input c e → ⊥

abbrev pub NoSkip : LexicalGrammar → ℕ → List ℕ → ℕ → Type 0
NoSkip g depth input c = (greatest e : ℕ) → SkipsTo g greatest depth input c e → ⊥

-- a mark stands there that can't be passed over
pub record MarkStays (g : LexicalGrammar) (Stays : ℕ → Type 0) (passing : Passing) (input : List ℕ) (at : ℕ) (entered : Bool) : Type 0 where
  pub raw : List ℕ
  pub value : ℕ
  pub passes_marks : passing.marks ≡ true
  pub names : NamesIn g entered input at raw value
  pub is_mark : unescaped raw ≡ Some type_name
  pub stays : Stays value

-- at the place stands neither a name nor the closing bracket, or a name that has no text, or a mark that can't be passed over
abbrev pub EntryMissing : LexicalGrammar → (ℕ → Type 0) → Passing → ℕ → List ℕ → ℕ → Bool → Type 0
EntryMissing g Stays passing depth input at entered =
    (((raw : List ℕ) (c : ℕ) → NamesIn g entered input at raw c → ⊥) × ((e : ℕ) → ClosesIn g end_object input at depth e → ⊥))
    ⊎ (((raw : List ℕ) × (c : ℕ) × NamesIn g entered input at raw c × (unescaped raw ≡ None))
    ⊎ MarkStays g Stays passing input at entered)

-- behind what is passed over neither another member nor the end comes
pub record NothingComes (g : LexicalGrammar) (Stays : ℕ → Type 0) (passing : Passing) (greatest depth : ℕ) (input : List ℕ) (at : ℕ) (entered : Bool) : Type 0 where
  pub count : ℕ
  pub place : ℕ
  pub after : Bool
  pub passes : Passes g passing greatest depth count input at entered place after
  pub missing : EntryMissing g Stays passing depth input place after

-- What a call answers that looks for what comes in an object from a place on, inside of so many containers. `Missing Stays` says why
-- nothing comes, where `Stays c` says that no value at c may be skipped.
pub record FindsNext {A : Type 0} (g : LexicalGrammar) (greatest depth : ℕ) (input : List ℕ) (at : ℕ) (Comes : A → Type 0) (Missing : (ℕ → Type 0) → Type 0) (result : Result A EntryFault) : Type 0 where
  pub ok : IfOk result Comes
  pub refused : IfErr result (λ e. (e ≡ NoMemory → ⊥) → Missing (NoSkipWithin g greatest depth input))
  pub none_without_limits : IsErrOf result NoEntry → Missing (NoSkip g depth input)
  pub deep : IsErrOf result TooDeep → greatest ≤ depth + json_openers (drop at input)
  pub too_deep : IsErrOf result TooDeep → (q : ℕ) × (at ≤ q) × OpensTooDeep g greatest depth input q

-- ---- refusals

-- why no entry comes where the value of a mark isn't skipped
abbrev pub entry_fault : SkipFault → EntryFault
entry_fault skip_faults.NoValue = NoEntry
entry_fault skip_faults.TooDeep = TooDeep

-- the error of a reader that refuses where nothing comes
abbrev pub entry_refusal : EntryFault → SerdeError
entry_refusal NoEntry = errors.InvalidInput
entry_refusal TooDeep = errors.TooDeep
entry_refusal NoMemory = errors.NoMemory
