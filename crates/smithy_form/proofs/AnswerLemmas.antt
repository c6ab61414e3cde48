-- What is answered for a form, by the step that ends it.
use Rattle.std.proofs.Common.{◌≡◌, ℕ, List, [], map as mapped, None, Ok, Err, refl, sym, ◌∙◌, ap, subst, inl, inr}
use Rattle.std.specs.Cow.{cow_str_bytes}
use Rattle.std.specs.List.{slice_split}
use Rattle.std.specs.declared.vec.Vec.{Vec}
use Rattle.std.specs.declared.alloc.Global.{Global}
use Rattle.smithy_shapes.specs.Site.{Site}
use Rattle.smithy_query.specs.Split.{is_ampersand}
use Rattle.smithy_form.specs.declared.error.FormError.{FormError}
use Rattle.smithy_form.specs.declared.error.FormError.TheVariants.{BadPair, NotForm, Repeated, NoValue, NoMemory}
use Rattle.smithy_form.specs.declared.pairs.Pair.{Pair}
use Rattle.smithy_form.specs.declared.whole.Form.{Form}
use Rattle.smithy_form.specs.declared.whole.Parts.{Parts}
use Rattle.smithy_form.specs.Forms.{Parted, with_bad_pair, no_form, with_repeated, parted, parted_pairs, all_pairs, parts_of, first_repeated, repeated_or}
use Rattle.smithy_form.specs.ReadsForm.{AnswersParts}
use Rattle.smithy_form.specs.Private.Kept.{named_text}
use Rattle.smithy_form.specs.Private.Splitting.{ReadsPairs}
use Rattle.smithy_form.specs.Private.FormParts.{ArePartsOf, ReadsValue}

no_memory : (site : Site) (p : Parted) → AnswersParts site p (Err NoMemory)
no_memory site (with_bad_pair n) = inr refl
no_memory site no_form = inr refl
no_memory site (with_repeated n) = inr refl
no_memory site (parted a v ps) = tt

module _ (site : Site) (input : List ℕ) where
  -- some piece is no pair
  pub pieces_refused : (e : FormError) → ReadsPairs (slice_split is_ampersand input) (Err e) → AnswersParts site (parts_of input) (Err e)
  pieces_refused (BadPair n) h = subst (λ p. AnswersParts site (parted_pairs p) (Err (BadPair n))) (sym h) (inl refl)
  pieces_refused NoMemory h = no_memory site (parts_of input)
  pieces_refused _ h = absurd h

  module _ (pairs : Vec Pair Global) (are : ReadsPairs (slice_split is_ampersand input) (Ok pairs)) where
    -- the first two aren't the action and the version
    pub not_form : parted_pairs (all_pairs (mapped named_text pairs.items)) ≡ no_form → AnswersParts site (parts_of input) (Err NotForm)
    not_form is = subst (λ p. AnswersParts site p (Err NotForm)) (sym (ap parted_pairs are.0 ∙ is)) (inl refl)

    module _ (parts : Parts) (found : ArePartsOf pairs.items parts) where
      whole : parts_of input ≡ repeated_or (first_repeated [] 3 found.rest) (parted (cow_str_bytes parts.action) (cow_str_bytes parts.version) found.rest)
      whole = ap parted_pairs are.0 ∙ found.is

      once : first_repeated [] 3 found.rest ≡ None → parts_of input ≡ parted (cow_str_bytes parts.action) (cow_str_bytes parts.version) found.rest
      once none = whole ∙ ap (λ o. repeated_or o (parted (cow_str_bytes parts.action) (cow_str_bytes parts.version) found.rest)) none

      -- the pairs tell no value
      pub value_refused : (e : FormError) → ReadsValue site found.rest (Err e) → AnswersParts site (parts_of input) (Err e)
      value_refused NoValue h = subst (λ p. AnswersParts site p (Err NoValue)) (sym (once h.0)) h.1
      value_refused (Repeated n) h =
          subst (λ p. AnswersParts site p (Err (Repeated n)))
          (sym (whole ∙ ap (λ o. repeated_or o (parted (cow_str_bytes parts.action) (cow_str_bytes parts.version) found.rest)) h)) (inl refl)
      value_refused NoMemory h = no_memory site (parts_of input)
      value_refused _ h = absurd h

      -- they tell one
      pub form_read : (f : Form) → f.action ≡ parts.action → f.version ≡ parts.version → ReadsValue site found.rest (Ok f.value) → AnswersParts site (parts_of input) (Ok f)
      form_read f action version h =
          subst (λ p. AnswersParts site p (Ok f)) (sym (once h.0))
          (record { action = ap cow_str_bytes action; version = ap cow_str_bytes version; value = refl }, h.1)
