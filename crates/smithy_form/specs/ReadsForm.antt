-- What reading a form answers.
use Rattle.std.specs.Prelude.{◌≡◌, ℕ, List, IsUtf8, ◌⊎◌, Result, Ok, Err}
use Rattle.std.specs.Cow.{cow_str_bytes}
use Rattle.smithy_declarations.specs.Table.{Table}
use Rattle.smithy_declarations.specs.Value.{Value}
use Rattle.smithy_shapes.specs.Site.{Site, shape_site}
use Rattle.smithy_query_codec.specs.Canonical.{canonical_query}
use Rattle.smithy_value.specs.View.{view}
use Rattle.smithy_form.specs.declared.error.FormError.{FormError}
use Rattle.smithy_form.specs.declared.error.FormError.TheVariants.{BadPair, NotForm, Repeated, NoValue, NoMemory}
use Rattle.smithy_form.specs.declared.whole.Form.{Form}
use Rattle.smithy_form.specs.Plain.{IsPlain}
use Rattle.smithy_form.specs.Pairs.{NamedText, greatest_depth, Tell, TellAlone}
use Rattle.smithy_form.specs.Forms.{Parted, with_bad_pair, no_form, with_repeated, parted, parts_of}

-- the form is refused for this reason, unless an allocation failed
abbrev pub IsRefused : FormError → Result Form FormError → Type 0
IsRefused e answer = (answer ≡ Err e) ⊎ (answer ≡ Err NoMemory)

-- the action, the version and a value as they were read
pub record IsForm (named dated : List ℕ) (v : Value) (f : Form) : Type 0 where
  pub action : cow_str_bytes f.action ≡ named
  pub version : cow_str_bytes f.version ≡ dated
  pub value : view f.value ≡ v

-- the pairs after the first two are the leaves of one plain value, or of none
abbrev pub AnswersPairs : Site → List ℕ → List ℕ → List NamedText → Result Form FormError → Type 0
AnswersPairs site action version pairs (Ok f) = IsForm action version (view f.value) f × TellAlone site pairs (view f.value)
AnswersPairs site action version pairs (Err NoValue) = (v : Value) → Tell site pairs v → ⊥
AnswersPairs site action version pairs (Err NoMemory) = Unit {0}
AnswersPairs site action version pairs (Err _) = ⊥

-- what is answered, according to what the form is
abbrev pub AnswersParts : Site → Parted → Result Form FormError → Type 0
AnswersParts site (with_bad_pair n) answer = IsRefused (BadPair n) answer
AnswersParts site no_form answer = IsRefused NotForm answer
AnswersParts site (with_repeated n) answer = IsRefused (Repeated n) answer
AnswersParts site (parted action version pairs) answer = AnswersPairs site action version pairs answer

-- what was read is this, unless an allocation failed
abbrev pub IsReadAs : List ℕ → List ℕ → Value → Result Form FormError → Type 0
IsReadAs action version v (Ok f) = IsForm action version v f
IsReadAs action version v (Err e) = e ≡ NoMemory

pub record ReadsForm (table : Table) (root : ℕ) (input : List ℕ) (answer : Result Form FormError) : Type 0 where
  -- the answer is exactly what the bytes are
  pub answers : AnswersParts (shape_site table root) (parts_of input) answer
  -- what is written for a plain value is read as this value
  pub reads_back :
      (action version : List ℕ) (v : Value) → IsUtf8 action → IsUtf8 version → IsPlain (shape_site table root) greatest_depth v
      → input ≡ canonical_query action version (shape_site table root) v → IsReadAs action version v answer
