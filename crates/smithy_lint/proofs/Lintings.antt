-- What an answer says of a body.
use Rattle.std.specs.Prelude.{◌≡◌, ◌↔◌, ℕ, suc, nat_eq, length, List, [], ◌∷◌, Bool, true, false, map as mapped, Result, Ok, Err, refl}
use Rattle.std.specs.declared.vec.Vec.{Vec}
use Rattle.std.specs.declared.alloc.Global.{Global}
use Rattle.std.proofs.Common.{◌∙◌, ap, arith, inl, inr, ◌⊎◌}
use Rattle.std.proofs.lemmas.Bool.Decides.{nat_tests}
use Rattle.smithy_declarations.specs.Table.{Table, kind_of, shape_place, IsStructure}
use Rattle.smithy_declarations.specs.Value.{Value, structure, no_member_values}
use Rattle.smithy_json_values.specs.Meaning.{node_of, rules_of}
use Rattle.smithy_json_codec.specs.WireSettings.{wire_settings}
use Rattle.smithy_cbor_values.specs.Meaning.{node_of as cbor_node, rules_of as cbor_rules}
use Rattle.smithy_cbor_body.specs.Codec.{strict_settings as strict_cbor}
use Rattle.smithy_transcode.specs.Spelling.{Spells}
use Rattle.smithy_transcode.specs.Wires.{Wire, json, cbor}
use Rattle.smithy_lint.specs.declared.finding.Finding.{Finding}
use Rattle.smithy_lint.specs.declared.json_body.JsonBody.{JsonBody}
use Rattle.smithy_lint.specs.declared.linting.LintError.{LintError}
use Rattle.smithy_lint.specs.declared.linting.LintError.TheVariants.{NotWellFormed, TooNested, NoMemory}
use Rattle.smithy_lint.specs.Findings.{findings}
use Rattle.smithy_lint.specs.Lint.{IsTextWithin, IsEmptyBody, HasFindings, KnowsAll, Lints}
use Rattle.smithy_lint.specs.View.{found_of}
use Rattle.smithy_lint.specs.Private.JsonPlaces.{json_holding, json_rules}
use Rattle.smithy_lint.specs.Private.CborBodies.{cbor_holding}
use Rattle.smithy_lint.specs.Private.CborEnds.{IsChecked}
use Rattle.smithy_lint.specs.Private.Opening.{IsRefusedFor, HoldsText, FindsAll}
use Rattle.smithy_lint.proofs.CborBodies.{root_lies}
use Rattle.smithy_lint.proofs.CborClean.{item_clean, empty_clean}
use Rattle.smithy_lint.proofs.JsonTexts.{text_clean, no_text}

pub emptied : (xs : List ℕ) → nat_eq (length xs) 0 ≡ true → xs ≡ []
emptied [] is = refl
emptied (x ∷ xs) is = absurd (let no : suc (length xs) ≡ 0 = grind (arith, nat_tests) in omega (arith, no))

pub filled : (xs : List ℕ) → nat_eq (length xs) 0 ≡ false → xs ≡ [] → ⊥
filled [] is empty = cc
filled (x ∷ xs) is empty = cc

not_refused : {A : Type 0} (x : A) (e : LintError) → ◌≡◌ {A = Result A LintError} (Ok x) (Err e) → ⊥
not_refused x e h = cc

other_refusal : {A : Type 0} (e f : LintError) → ◌≡◌ {A = Result A LintError} (Err e) (Err f) → e ≡ f
other_refusal e f h = cc

module _ (t : Table) (root : ℕ) (wire : Wire) (body : List ℕ) where
  -- a list with all that is found
  pub answered : (l : Vec Finding Global) → HasFindings wire t root body (mapped found_of l.items)
      → ((mapped found_of l.items ≡ []) ↔ (((v : Value) × Spells wire t root body v) × KnowsAll wire t root body)) → Lints t root wire body (Ok l)
  answered l found clean = record {
    found = found;
    whole = λ there. tt;
    not_well_formed = λ h. absurd (not_refused l NotWellFormed h);
    too_nested = λ h. absurd (not_refused l TooNested h);
    clean = clean;
  }

  -- want of memory
  pub no_memory : Lints t root wire body (Err NoMemory)
  no_memory = record {
    found = tt;
    whole = λ there. refl;
    not_well_formed = λ h. absurd (let no = other_refusal {A = Vec Finding Global} NoMemory NotWellFormed h in cc);
    too_nested = λ h. absurd (let no = other_refusal {A = Vec Finding Global} NoMemory TooNested h in cc);
    clean = tt;
  }

  neither : (IsEmptyBody wire body → ⊥) → (IsTextWithin wire 512 body → ⊥) → IsEmptyBody wire body ⊎ IsTextWithin wire 512 body → ⊥
  neither full none (inl empty) = full empty
  neither full none (inr text) = none text

  -- a refusal
  pub refused : (e : LintError) → IsRefusedFor wire body e → (IsEmptyBody wire body → ⊥) → Lints t root wire body (Err e)
  refused NoMemory is full = absurd is
  refused NotWellFormed is full = record {
    found = tt;
    whole = λ there. absurd (neither full (is 512) there);
    not_well_formed = λ h. is;
    too_nested = λ h. absurd (let no = other_refusal {A = Vec Finding Global} NotWellFormed TooNested h in cc);
    clean = tt;
  }
  refused TooNested is full = record {
    found = tt;
    whole = λ there. absurd (neither full is.0 there);
    not_well_formed = λ h. absurd (let no = other_refusal {A = Vec Finding Global} TooNested NotWellFormed h in cc);
    too_nested = λ h. is;
    clean = tt;
  }

-- ---- JSON

module _ (t : Table) (root : ℕ) (b n : Bool) (body : List ℕ) where
  -- an empty body
  pub empty_json : IsStructure (kind_of t (shape_place root)) → body ≡ [] → (l : Vec Finding Global) → l.items ≡ [] → Lints t root (json b n) body (Ok l)
  empty_json kind empty l none =
      let nothing : mapped found_of l.items ≡ [] = ap (mapped found_of) none in
      answered t root (json b n) body l (inl (empty, nothing))
      (λ _. ((structure no_member_values, inr (empty, kind, refl, refl)), λ x text. absurd (no_text x (rw empty at text))), λ _. nothing)

  -- a text
  pub text_lints : (j : JsonBody) → HoldsText b n body j → (l : Vec Finding Global) → FindsAll (json_holding j) (json_rules j) t root l → Lints t root (json b n) body (Ok l)
  text_lints j holds l finds =
      let is : mapped found_of l.items ≡ findings (rules_of (wire_settings b n)) t (shape_place root) 0 [] (node_of holds.tree) =
      finds (node_of holds.tree) holds.end holds.lies ∙ ap (λ r. findings r t (shape_place root) 0 [] (node_of holds.tree)) holds.rules in
      answered t root (json b n) body l (inr (holds.tree, holds.text, holds.nests, is))
      (text_clean (wire_settings b n) refl t (shape_place root) body holds.tree (mapped found_of l.items) holds.text is)

-- ---- CBOR

module _ (t : Table) (root : ℕ) (definite : Bool) (body : List ℕ) where
  -- an empty body
  pub empty_cbor : IsStructure (kind_of t (shape_place root)) → body ≡ [] → (l : Vec Finding Global) → l.items ≡ [] → Lints t root (cbor definite) body (Ok l)
  empty_cbor kind empty l none =
      let nothing : mapped found_of l.items ≡ [] = ap (mapped found_of) none in
      answered t root (cbor definite) body l (inl (empty, nothing)) (empty_clean t (shape_place root) body (mapped found_of l.items) kind empty nothing)

  -- an item
  pub item_lints : (unit : Unit {0}) → IsChecked body (Ok unit) → (l : Vec Finding Global) → FindsAll (cbor_holding body) (cbor_rules strict_cbor) t root l
      → Lints t root (cbor definite) body (Ok l)
  item_lints unit (x, encoded, nests) l finds =
      let is = finds (cbor_node x) _ (root_lies body x encoded) in
      answered t root (cbor definite) body l (inr (x, encoded, nests, is)) (item_clean t (shape_place root) body x (mapped found_of l.items) encoded is)

  -- a refusal
  pub item_refused : (e : LintError) → IsChecked body (Err e) → (body ≡ [] → ⊥) → Lints t root (cbor definite) body (Err e)
  item_refused NoMemory is full = no_memory t root (cbor definite) body
  item_refused NotWellFormed is full = refused t root (cbor definite) body NotWellFormed (λ most text. is text.0 text.1) full
  item_refused TooNested is full =
      refused t root (cbor definite) body TooNested (λ text. omega (arith, is.0 text.0 text.1, text.2), omega (arith, is.1)) full
