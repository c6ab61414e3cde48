-- What the command `form` says, by what `read_form` and `write_body` say.
use Rattle.std.proofs.Common.{◌≡◌, ◌⊎◌, inl, inr, ℕ, List, Option, Some, None, true, Result, Ok, Err, refl, sym, subst, ap, ◌∙◌}
use Rattle.std.specs.declared.vec.Vec.{Vec}
use Rattle.std.specs.declared.alloc.Global.{Global}
use Rattle.smithy_declarations.specs.Table.{Table}
use Rattle.smithy_declarations.specs.Value.{Value}
use Rattle.smithy_shapes.specs.Site.{shape_site}
use Rattle.smithy_value.specs.View.{view}
use Rattle.smithy_transcode.specs.Spelling.{body}
use Rattle.smithy_transcode.specs.Transcoding.{GivesOrNoMemory}
use Rattle.smithy_transcode.specs.WriteBody.{WritesBody}
use Rattle.smithy_transcode.specs.Wires.{unfit}
use Rattle.smithy_transcode.specs.declared.wire.Unfit.{Unfit}
use Rattle.smithy_transcode.specs.declared.wire.TranscodeError.{TranscodeError}
use Rattle.smithy_transcode.specs.declared.wire.TranscodeError.TheVariants as wire_errors
use Rattle.smithy_transcode.proofs.Transcodings.{not_both}
use Rattle.smithy_form.specs.declared.error.FormError.{FormError}
use Rattle.smithy_form.specs.declared.error.FormError.TheVariants as errors
use Rattle.smithy_form.specs.declared.whole.Form.{Form as ReadForm}
use Rattle.smithy_form.specs.Forms.{Parted, with_bad_pair, no_form, with_repeated, parted, parts_of}
use Rattle.smithy_form.specs.Pairs.{NamedText, Tell, TellAlone}
use Rattle.smithy_form.specs.ReadsForm.{AnswersParts}
use Rattle.smithy_commands.specs.declared.status.Status.{Status}
use Rattle.smithy_commands.specs.declared.status.Status.TheVariants.{Done, OutOfMemory, Inexpressible, BadPair, NotForm, Repeated, NoValue}
use Rattle.smithy_commands.specs.Status.{refuses_input, status_of_error}
use Rattle.smithy_commands.specs.OneInput.{EndsByInput, InputAnswer}
use Rattle.smithy_commands.specs.Form.{Form, status_of_form_error, TellsValue, GivesBody, RefusesForm, answers_of, FormAnswer}
use Rattle.smithy_outside.specs.Outside.{Environment}

-- what reading answers that is refused for this reason
abbrev answer_of : FormError → Result ReadForm FormError
answer_of error = Err error

-- and what writing does
abbrev unwritten : TranscodeError → Result (Vec ℕ Global) TranscodeError
unwritten error = Err error

module _ (c : Form) (table : Table) (root : ℕ) (input : List ℕ) where
  abbrev Refused : FormError → Type 0
  Refused error = RefusesForm c table root input (status_of_form_error error)

  -- where the form is refused for one reason, unless an allocation failed
  refused_for : (due error : FormError) → Refused due → (error ≡ due) ⊎ (error ≡ errors.NoMemory) → Refused error
  refused_for due error why (inl same) = subst Refused (sym same) why
  refused_for due error why (inr memory) = subst Refused (sym memory) tt

  one_error : (due error : FormError) → (answer_of error ≡ answer_of due) ⊎ (answer_of error ≡ answer_of errors.NoMemory) → (error ≡ due) ⊎ (error ≡ errors.NoMemory)
  one_error due error (inl same) = inl cc
  one_error due error (inr memory) = inr cc

  -- why there is no value
  refused_as : (parts : Parted) → parts_of input ≡ parts → (error : FormError) → AnswersParts (shape_site table root) parts (Err error) → Refused error
  refused_as (with_bad_pair n) is error why = refused_for (errors.BadPair n) error is (one_error _ _ why)
  refused_as no_form is error why = refused_for errors.NotForm error is (one_error _ _ why)
  refused_as (with_repeated n) is error why = refused_for (errors.Repeated n) error is (one_error _ _ why)
  refused_as (parted action version pairs) is errors.NoValue why = (action, version, pairs, is, why)
  refused_as (parted action version pairs) is errors.NoMemory why = tt
  refused_as (parted action version pairs) is _ why = absurd why

  pub form_refused : (error : FormError) → AnswersParts (shape_site table root) (parts_of input) (Err error) → Refused error
  form_refused error why = refused_as (parts_of input) refl error why

  -- and which there is
  told_as : (parts : Parted) → parts_of input ≡ parts → (f : ReadForm) → AnswersParts (shape_site table root) parts (Ok f) → TellsValue table root input (view f.value)
  told_as (with_bad_pair n) is f (inl e) = absurd cc
  told_as (with_bad_pair n) is f (inr e) = absurd cc
  told_as no_form is f (inl e) = absurd cc
  told_as no_form is f (inr e) = absurd cc
  told_as (with_repeated n) is f (inl e) = absurd cc
  told_as (with_repeated n) is f (inr e) = absurd cc
  told_as (parted action version pairs) is f why = (action, version, pairs, is, why.1)

  pub form_told : (f : ReadForm) → AnswersParts (shape_site table root) (parts_of input) (Ok f) → TellsValue table root input (view f.value)
  form_told f why = told_as (parts_of input) refl f why

  -- the status of a refusal to write is one of the input
  pub error_refuses : (error : TranscodeError) → refuses_input (status_of_error error) ≡ true
  error_refuses wire_errors.InvalidInput = refl
  error_refuses wire_errors.TooDeep = refl
  error_refuses wire_errors.TooWide = refl
  error_refuses wire_errors.NotCarried = refl
  error_refuses (wire_errors.Inexpressible u) = refl
  error_refuses wire_errors.NoMemory = refl

  module _ (v : Value) (told : TellsValue table root input v) where
    -- the value was written
    pub body_given : (out : Vec ℕ Global) → WritesBody table root c.to v (Ok out) → GivesBody c table root input Done out.items
    body_given out wrote = let found = expressed (unfit c.to table root v) refl in (refl, (v, told, found.0, found.1)) where
      expressed : (lack : Option Unfit) → unfit c.to table root v ≡ lack → (unfit c.to table root v ≡ None) × (out.items ≡ body c.to table root v)
      expressed None is = (is, wrote.written is)
      expressed (Some u) is = absurd (let e = wrote.lacking u is in cc)

    -- or it can't be
    pub body_lacking : (error : TranscodeError) → WritesBody table root c.to v (Err error) → RefusesForm c table root input (status_of_error error)
    body_lacking error wrote = lacking (unfit c.to table root v) refl where
      no_memory : (e : TranscodeError) → GivesOrNoMemory (body c.to table root v) (Err e) → RefusesForm c table root input (status_of_error e)
      no_memory wire_errors.NoMemory gives = tt
      no_memory _ gives = absurd gives

      inexpressible : (u : Unfit) → unwritten error ≡ unwritten (wire_errors.Inexpressible u) → error ≡ wire_errors.Inexpressible u
      inexpressible u e = cc

      lacking : (lack : Option Unfit) → unfit c.to table root v ≡ lack → RefusesForm c table root input (status_of_error error)
      lacking None is = no_memory error (wrote.written is)
      lacking (Some u) is =
          subst (λ (e : TranscodeError). RefusesForm c table root input (status_of_error e)) (sym (inexpressible u (wrote.lacking u is))) (v, told, is)

  -- ---- a form that tells a value which the wanted wire can express

  same_pairs : (a v a' v' : List ℕ) (ps qs : List NamedText) → parts_of input ≡ parted a v ps → parts_of input ≡ parted a' v' qs → ps ≡ qs
  same_pairs a v a' v' ps qs first second = cc

  same_value : (v w : Value) → TellsValue table root input v → TellsValue table root input w → w ≡ v
  same_value v w told other =
      let same = same_pairs told.0 told.1 other.0 other.1 told.2 other.2 told.3 other.3 in
      told.4.1 w (subst (λ (ps : List NamedText). Tell (shape_site table root) ps w) (sym same) other.4.0)

  module _ (v : Value) (told : TellsValue table root input v) (fit : unfit c.to table root v ≡ None) where
    only_memory : (status : Status) → RefusesForm c table root input status → status ≡ OutOfMemory
    only_memory (BadPair n) why = let is = told.3 in absurd (cc (is, why))
    only_memory NotForm why = let is = told.3 in absurd (cc (is, why))
    only_memory (Repeated n) why = let is = told.3 in absurd (cc (is, why))
    only_memory NoValue why =
        let same = same_pairs told.0 told.1 why.0 why.1 told.2 why.2 told.3 why.3 in
        absurd (why.4 v (subst (λ (ps : List NamedText). Tell (shape_site table root) ps v) same told.4.0))
    only_memory (Inexpressible u) why =
        absurd (not_both (unfit c.to table root v) u fit (ap (unfit c.to table root) (sym (same_value v why.0 told why.1)) ∙ why.2))
    only_memory OutOfMemory why = refl
    only_memory _ why = absurd why

    done_of : (status : Status) → EndsByInput (answers_of c) table root input status → (status ≡ Done) ⊎ (status ≡ OutOfMemory)
    done_of status (inl given) = inl given.1.0
    done_of status (inr (inl why)) = inr (only_memory status why)
    done_of status (inr (inr memory)) = inr memory

pub form_answer : (c : Form) (old new : Environment) (status : Status) → InputAnswer (answers_of c) old new status → FormAnswer c old new status
form_answer c old new status answers = record {
  answers = answers;
  done = λ text input table root v o told fit. done_of c table root input v told fit status (answers.complete text input table root o);
}
