-- A read of a document: what was found stands there, and why nothing was.
use Rattle.std.proofs.Common.{◌≡◌, ◌≤◌, ℕ, length, Bool, true, false, refl, sym, ◌∙◌}
use Rattle.std.specs.Prelude.{Result, Ok, Err, if◌then◌else◌}
use Rattle.smithy_types.specs.Document.{whole_document}
use Rattle.smithy_types.specs.DocumentView.{document_view}
use Rattle.smithy_types.specs.declared.document.Document.{Document}
use Rattle.smithy_schema.specs.declared.error.SerdeError.{SerdeError}
use Rattle.smithy_schema.specs.declared.error.SerdeError.TheVariants.{InvalidInput, TooDeep, NotCarried, Failed, NoMemory}
use Rattle.smithy_declarations.specs.declared.place.Place.{Place}
use Rattle.smithy_declarations.specs.Table.{document_place}
use Rattle.smithy_shapes.specs.Site.{Site}
use Rattle.smithy_declarations.specs.Value.{document_value}
use Rattle.smithy_schema.specs.Reading.{Cursor, depth, Relations, IsLawful, StandsNot, Uncarried, ReachesDepth, ReadsDocument, reader, failed_at, passed_to}
use Rattle.smithy_wire.proofs.ScalarReads.{fails_again, conducts, goes_on}

module _ (w u : Relations) (tells_without_limits : Type 0) (max : ℕ) (site : Site) where
  abbrev Says : Cursor → Cursor → Result Document SerdeError → Type 0
  Says old new result = ReadsDocument (reader w u tells_without_limits max) old new site result

  abbrev at : Place
  at = document_place site.place.time

  failed_before : (old new : Cursor) → new ≡ failed_at old → old.at ≤ length old.input → old.failed ≡ true → Says old new (Err Failed)
  failed_before old new stays within failed = record {
    conduct = fails_again old new stays within failed;
    deep = λ h. cc;
    limited = λ h. cc;
    narrow = λ h. cc;
    no_mismatch = λ h. cc;
    uncarried = λ h. cc;
    undue = λ h. tt;
    ok = tt;
    variants = tt;
    refused = λ fault. absurd fault;
    none_without_limits = λ strict fault. absurd fault;
  }

  -- the input is refused, where nothing stands or no value is due
  pub refuses : (old new : Cursor) → new ≡ failed_at old → old.at ≤ length old.input → old.failed ≡ false
      → (old.due ≡ true → StandsNot w old site.table at × StandsNot u old site.table at) → Says old new (Err InvalidInput)
  refuses old new stays within sound none = record {
    conduct = conducts old new InvalidInput stays within sound (λ h. cc) tt;
    deep = λ h. cc;
    limited = λ h. cc;
    narrow = λ h. cc;
    no_mismatch = λ h. cc;
    uncarried = λ h. cc;
    undue = λ h. tt;
    ok = tt;
    variants = tt;
    refused = λ fault due. (none due).0;
    none_without_limits = λ strict fault due. (none due).1;
  }

  -- want of memory
  pub runs_out : (old new : Cursor) → new ≡ failed_at old → old.at ≤ length old.input → old.failed ≡ false → Says old new (Err NoMemory)
  runs_out old new stays within sound = record {
    conduct = conducts old new NoMemory stays within sound (λ h. cc) tt;
    deep = λ h. cc;
    limited = λ h. cc;
    narrow = λ h. cc;
    no_mismatch = λ h. cc;
    uncarried = λ h. cc;
    undue = λ h. tt;
    ok = tt;
    variants = tt;
    refused = λ fault. absurd fault;
    none_without_limits = λ strict fault. absurd fault;
  }

  -- a document that nests too deep
  pub is_too_deep : (old new : Cursor) → new ≡ failed_at old → old.at ≤ length old.input → old.failed ≡ false → old.due ≡ true
      → ReachesDepth w max old → w.limits_skips ≡ true → StandsNot w old site.table at → Says old new (Err TooDeep)
  is_too_deep old new stays within sound due reaches limits none = record {
    conduct = conducts old new TooDeep stays within sound (λ h. cc) tt;
    deep = λ h. reaches;
    limited = λ h. limits;
    narrow = λ h. cc;
    no_mismatch = λ h. cc;
    uncarried = λ h. cc;
    undue = λ h. absurd (let both : true ≡ false = sym due ∙ h in cc);
    ok = tt;
    variants = tt;
    refused = λ fault due. none;
    none_without_limits = λ strict fault. absurd fault;
  }

  -- what no document carries
  pub carries_not : (old new : Cursor) → new ≡ failed_at old → old.at ≤ length old.input → old.failed ≡ false → old.due ≡ true
      → Uncarried w old site.table at → StandsNot w old site.table at → Says old new (Err NotCarried)
  carries_not old new stays within sound due there none = record {
    conduct = conducts old new NotCarried stays within sound (λ h. cc) tt;
    deep = λ h. cc;
    limited = λ h. cc;
    narrow = λ h. cc;
    no_mismatch = λ h. cc;
    uncarried = λ h. there;
    undue = λ h. absurd (let both : true ≡ false = sym due ∙ h in cc);
    ok = tt;
    variants = tt;
    refused = λ fault due. none;
    none_without_limits = λ strict fault. absurd fault;
  }

  -- a reader that isn't ready answers so
  pub not_ready : (old new : Cursor) (e : SerdeError) → ◌≡◌ {A = Result Unit SerdeError} (Err e) (if old.failed then Err Failed else (if old.due then Ok tt else Err InvalidInput))
      → new ≡ failed_at old → old.at ≤ length old.input → Says old new (Err e)
  not_ready old new e answer stays within = by old.failed old.due refl refl answer
    where
      by : (failed due : Bool) → old.failed ≡ failed → old.due ≡ due → ◌≡◌ {A = Result Unit SerdeError} (Err e) (if failed then Err Failed else (if due then Ok tt else Err InvalidInput)) → Says old new (Err e)
      by true due failed is answer = let same : e ≡ Failed = cc in rw same (failed_before old new stays within failed)
      by false true sound is answer = cc
      by false false sound is answer =
          let same : e ≡ InvalidInput = cc in
          rw same (refuses old new stays within sound (λ due. absurd (let both : true ≡ false = sym due ∙ is in cc)))

  module _ (laws : IsLawful w) (old : Cursor) (sound : old.failed ≡ false) (due : old.due ≡ true) (within : old.at ≤ length old.input) where
    -- a document stands from where the reader is to e
    abbrev pub Stands : Document → ℕ → Type 0
    Stands x e =
        w.stands old.input site.table at (depth old) old.at (document_value (whole_document (document_view x))) e
        × w.documents old.input (depth old) old.at (document_view x) e

    pub reads : (new : Cursor) (x : Document) (e : ℕ) → Stands x e → new ≡ passed_to old e → Says old new (Ok x)
    reads new x e stands passed =
        let ends = laws.stands_within old.input site.table at (depth old) old.at (document_value (whole_document (document_view x))) e stands.0 in
        rw passed (record {
          conduct = goes_on old (passed_to old e) x sound ends.0 ends.1;
          deep = λ h. cc;
          limited = λ h. cc;
          narrow = λ h. cc;
          no_mismatch = λ h. cc;
          uncarried = λ h. cc;
          undue = λ h. absurd (let both : true ≡ false = sym due ∙ h in cc);
          ok = record { stands = stands.0; passes = record { input = refl; inner = refl; outer = refl; due = refl; failed = sound } };
          variants = stands.1;
          refused = λ fault. absurd fault;
          none_without_limits = λ strict fault. absurd fault;
        })
