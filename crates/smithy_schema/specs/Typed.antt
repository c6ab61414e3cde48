-- What a call says that reads or writes a value of a caller's own type, which stands for the value that a view gives of it.
use Rattle.std.specs.Prelude.{◌≡◌, ◌↔◌, Bool, true, false, ℕ, List, [], Some, Result, IfOk, OnOk, IfErr, OnErr, IsErr, IsErrOf, Ok}
use Rattle.smithy_schema.specs.declared.error.SerdeError.{SerdeError}
use Rattle.smithy_schema.specs.declared.error.SerdeError.TheVariants.{Failed}
use Rattle.smithy_shapes.specs.Site.{Site, member_of}
use Rattle.smithy_declarations.specs.Value.{Value, union}
use Rattle.smithy_schema.specs.Errors.{IsRefused, IsOfReader}
use Rattle.smithy_schema.specs.Reading.{Cursor, Relations, Reads, StandsNot}
use Rattle.smithy_schema.specs.Writing.{Event, Writer, Open, after_value, events}
use Rattle.smithy_schema.specs.Written.{Runs, outcome}

-- an error of a read that began here: it is one of a reader, and `Failed` only after a failure
abbrev pub MayAnswer : Cursor → SerdeError → Type 0
MayAnswer c e = IsOfReader e × (e ≡ Failed → c.failed ≡ true)

-- What every such read keeps to, whatever it answers.
pub record FailsAsReader {A : Type 0} (old new : Cursor) (result : Result A SerdeError) : Type 0 where
  -- `Failed` comes exactly after a failure
  pub failed : IsErrOf result Failed ↔ (old.failed ≡ true)
  pub reading : IfErr result IsOfReader
  -- after an error the reader has failed
  pub broken : OnErr result (new.failed ≡ true)

-- What stood at the site is what was read; and a fault comes only where no value of the place stands.
pub record ReadsAs {A : Type 0} (w : Relations) (old new : Cursor) (site : Site) (view : A → Value) (result : Result A SerdeError) : Type 0 where
  pub ok : IfOk result (λ x. Reads w old new site.table site.place (view x))
  pub refused : IsRefused result → StandsNot w old site.table site.place
  pub fails : FailsAsReader old new result

-- What stood at the site is what was read; where a value was due, a fault comes only where no value of the place stands; and where none
-- was due, an error comes.
pub record ReadsDueAs {A : Type 0} (w : Relations) (old new : Cursor) (site : Site) (view : A → Value) (result : Result A SerdeError) : Type 0 where
  pub ok : IfOk result (λ x. Reads w old new site.table site.place (view x))
  pub refused : IsRefused result → old.due ≡ true → StandsNot w old site.table site.place
  pub undue : old.due ≡ false → IsErr result
  pub fails : FailsAsReader old new result

-- What a read of a union's member says: the value is the union of this member.
pub record ReadsVariant {A : Type 0} (w : Relations) (old new : Cursor) (member : Site) (view : A → Value) (result : Result A SerdeError) : Type 0 where
  pub ok : IfOk result (λ x. (n : ℕ) × (v : Value) × (member.view.index ≡ Some n) × (view x ≡ union n v) × Reads w old new member.table member.place v)
  pub refused : IsRefused result → StandsNot w old member.table member.place
  pub fails : FailsAsReader old new result

-- the calls between those that begin and end a union: its member, under the member's site
abbrev pub variant_events : Site → Value → List Event
variant_events site (union n v) = events (member_of site n) v
variant_events site _ = []

-- These calls are made one after the other, and any error is that of one of them. After an Ok the serializer hasn't failed, and
-- after an error it has.
pub record WritesAs {S : Type 0} (after : Writer S) (calls : List Event) (old : S) (has_failed : Bool) (new : S) (result : Result (Unit {0}) SerdeError) : Type 0 where
  pub runs : Runs after calls old (outcome result new)
  pub sound : OnOk result (has_failed ≡ false)
  pub broken : OnErr result (has_failed ≡ true)

-- Where the serializer hadn't failed, these calls of a whole value are made one after the other, and any error is that of one of them.
pub record WritesWhole {S : Type 0} (after : Writer S) (open_in : S → List Open) (calls : List Event) (old : S) (had_failed : Bool) (new : S) (has_failed : Bool) (result : Result (Unit {0}) SerdeError) : Type 0 where
  pub runs : had_failed ≡ false → Runs after calls old (outcome result new)
  -- it counts as one value for the open containers
  pub nests : OnOk result (after_value (open_in old) ≡ Ok (open_in new))
  -- `Failed` comes exactly after a failure
  pub failed : IsErrOf result Failed ↔ (had_failed ≡ true)
  -- the serializer has failed exactly where the answer is an error
  pub broken : IsErr result ↔ (has_failed ≡ true)
