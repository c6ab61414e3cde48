-- What a read of a value answers, by each way out of it: one record for each.
use Rattle.std.proofs.Common.{◌≡◌, ℕ, Some, true, false, Result, Ok, Err, IfOk, IfErr, IsErrOf, refl, sym, ◌∙◌, ap, subst, arith, inl}
use Rattle.smithy_declarations.specs.declared.place.Place.{Place}
use Rattle.smithy_declarations.specs.declared.shape_type.Scalar.{Scalar}
use Rattle.smithy_declarations.specs.declared.shape_type.ShapeType.TheVariants as types
use Rattle.smithy_schema.specs.declared.error.SerdeError.{SerdeError}
use Rattle.smithy_schema.specs.declared.error.SerdeError.TheVariants.{InvalidInput, TypeMismatch, TooDeep, TooWide, NotCarried, Failed, NoMemory}
use Rattle.smithy_declarations.specs.Table.{scalar_type, type_of, IsContainer}
use Rattle.smithy_shapes.specs.Site.{Site, kind_at}
use Rattle.smithy_declarations.specs.Value.{ScalarValue, Value, scalar_value, document_value}
use Rattle.smithy_types.specs.Document.{whole_document}
use Rattle.smithy_types.specs.DocumentView.{document_view}
use Rattle.smithy_types.specs.declared.document.Document.{Document}
use Rattle.smithy_schema.specs.Errors.{RefusesNoScalar, RefusesNoKind, TellsType, IsFault, IsInvalid}
use Rattle.smithy_schema.specs.Reading.{Cursor, depth, Relations, IsLawful, IsBelow, CountsOpeners, IsCounted, Conducts, Reads, ReadsScalar, ReadsDocument, StandsNot, OpensNot, ReachesDepth, reader, failed_at}
use Rattle.smithy_schema.proofs.CountLemmas.{refusal_counted, value_counted}
use Rattle.smithy_value.specs.ReadValue.{ReadsValue}
use Rattle.smithy_value.proofs.ReadWide.{Lying, StandsInside, error_is, scalar_inside, scalar_read, place_told, kind_of_document, document_told, document_inside, document_read}
use Rattle.smithy_value.specs.DuePlaces.{AgreesInside, as_document, at_once}
use Rattle.smithy_value.proofs.ReadTypes.{ToChild, mismatch_above, agrees_above, mismatch_told, agrees_told, stays_mismatching, stays_agreeing}
use Rattle.smithy_value.proofs.ReadDeep.{ends_here, ends_inside}

-- what a wire proves of its relations, and of those with the limits lifted
pub record ObeysLaws (w u : Relations) (tells_without_limits : Type 0) : Type 0 where
  pub kept : IsLawful w
  pub lifted : IsLawful u
  pub below : IsBelow w u
  pub counts : tells_without_limits → CountsOpeners w

pub obeyed : (w u : Relations) (tells_without_limits : Type 0) → IsLawful w → IsLawful u → IsBelow w u → (tells_without_limits → CountsOpeners w) → ObeysLaws w u tells_without_limits
obeyed w u tells_without_limits kept lifted below counts = record { kept = kept; lifted = lifted; below = below; counts = counts }

-- from s0, where a value was due, the reader came to s, and nothing failed
pub record Reached (w : Relations) (tells_without_limits : Type 0) (s0 s : Cursor) : Type 0 where
  pub input : s.input ≡ s0.input
  pub fresh : s0.failed ≡ true → ⊥
  pub going : s.failed ≡ true → ⊥
  pub counted : tells_without_limits → IsCounted w s0 → IsCounted w s

-- an error stays the same under a result of another type
error_as : {A B : Type 0} (e f : SerdeError) → IsErrOf {T = A} {E = SerdeError} (Err e) f → IsErrOf {T = B} {E = SerdeError} (Err e) f
error_as {A} {B} e f is = ap Err (error_is {B = A} e f is)

-- `InvalidInput` and `NoMemory` are no other error
not_invalid : {A : Type 0} (f : SerdeError) → (InvalidInput ≡ f → ⊥) → IsErrOf {T = A} {E = SerdeError} (Err InvalidInput) f → ⊥
not_invalid {A} f other is = other (error_is {B = A} InvalidInput f is)

not_memory : {A : Type 0} (f : SerdeError) → (NoMemory ≡ f → ⊥) → IsErrOf {T = A} {E = SerdeError} (Err NoMemory) f → ⊥
not_memory {A} f other is = other (error_is {B = A} NoMemory f is)

no_error : {A : Type 0} (x : A) (f : SerdeError) → IsErrOf {T = A} {E = SerdeError} (Ok x) f → ⊥
no_error {A} x f is = let both : ◌≡◌ {A = Result A SerdeError} (Ok x) (Err f) = is in cc

-- a call that answered Ok had not failed before
pub not_failed : {A : Type 0} (old new : Cursor) (x : A) → Conducts {A = A} old new (Ok x) → old.failed ≡ true → ⊥
not_failed {A} old new x conduct failed = no_error {A = A} x Failed (conduct.failed.1 failed)

module _ (w u : Relations) (tells_without_limits : Type 0) (max : ℕ) where
  -- a call refuses, inside of what is read
  pub call_fails : {A B : Type 0} (view : B → Value) (site : Site) (s0 s s1 : Cursor) (e : SerdeError) → Reached w tells_without_limits s0 s
      → Conducts {A = A} s s1 (Err e) → RefusesNoKind {A = A} (Err e) → (s.due ≡ true → AgreesInside w s0 s site.table site.place) → (IsErrOf {T = A} {E = SerdeError} (Err e) TooDeep → ReachesDepth w max s) → (IsErrOf {T = A} {E = SerdeError} (Err e) TooDeep → w.limits_skips ≡ true)
      → (IsFault e → StandsNot w s0 site.table site.place)
      → (tells_without_limits → IsInvalid {A = A} (Err e) → StandsNot u s0 site.table site.place)
      → ReadsValue {A = B} w u tells_without_limits max s0 s1 site view (Err e)
  call_fails {A} {B} view site s0 s s1 e reached conduct narrow agrees deep limited refused none_without_limits = record {
    ok = tt;
    refused = refused;
    none_without_limits = none_without_limits;
    failed = ((λ is. absurd (reached.going (conduct.failed.0 (error_as {A = B} {B = A} e Failed is)))), λ failed. absurd (reached.fresh failed));
    reading = conduct.reading;
    deep = λ is. subst (ReachesDepth w max) (sym conduct.stays) (deep (error_as {A = B} {B = A} e TooDeep is));
    nested = λ is. inl (limited (error_as {A = B} {B = A} e TooDeep is));
    wide = λ is. absurd (narrow.0.0 (error_as {A = B} {B = A} e TooWide is));
    uncarried = λ is. absurd (narrow.0.1 (error_as {A = B} {B = A} e NotCarried is));
    mismatched = λ is. absurd (narrow.1 (error_as {A = B} {B = A} e TypeMismatch is));
    invalid = λ is. stays_agreeing w s0 s s1 site.table site.place conduct.stays agrees;
    input = ap (λ (c : Cursor). c.input) conduct.stays ∙ reached.input;
    counted = λ strict before. refusal_counted w s s1 conduct.stays (reached.counted strict before);
  }

  -- the container can't be entered
  pub open_fails : {A B : Type 0} (view : B → Value) (site : Site) (s0 s1 : Cursor) (e : SerdeError) → IsLawful w → IsLawful u → IsContainer (kind_at site) → s0.due ≡ true
      → Conducts {A = A} s0 s1 (Err e) → RefusesNoScalar {A = A} (Err e) → (s0.due ≡ true → TellsType (w.mismatches s0.input site.table site.place s0.at) e)
      → (IsFault e → s0.due ≡ true → w.allows (depth s0) → OpensNot w s0 site.table site.place)
      → (tells_without_limits → IsInvalid {A = A} (Err e) → s0.due ≡ true → OpensNot u s0 site.table site.place)
      → (IsErrOf {T = A} {E = SerdeError} (Err e) TooDeep → depth s0 ≡ max)
      → ReadsValue {A = B} w u tells_without_limits max s0 s1 site view (Err e)
  open_fails {A} {B} view site s0 s1 e laws over kind due conduct narrow told refused none_without_limits deepest = record {
    ok = tt;
    refused = λ fault v end stands.
        let found = laws.unfolded s0.input site.table site.place (depth s0) s0.at v end kind stands in
        refused fault due found.allowed found.inside found.mark found.opens;
    none_without_limits = λ strict invalid v end stands.
        let found = over.unfolded s0.input site.table site.place (depth s0) s0.at v end kind stands in
        none_without_limits strict invalid due found.inside found.mark found.opens;
    failed = ((λ is. conduct.failed.0 (error_as {A = B} {B = A} e Failed is)), λ failed. error_as {A = A} {B = B} e Failed (conduct.failed.1 failed));
    reading = conduct.reading;
    deep = λ is.
        let most = deepest (error_as {A = B} {B = A} e TooDeep is) in
        let level : depth s1 ≡ depth s0 = ap depth conduct.stays in
        omega (arith, most, level);
    nested = λ is. ends_here w max s0 s1 site.table site.place (ap depth conduct.stays) (deepest (error_as {A = B} {B = A} e TooDeep is)) kind;
    wide = λ is. absurd (narrow.0 (error_as {A = B} {B = A} e TooWide is));
    uncarried = λ is. absurd (narrow.1 (error_as {A = B} {B = A} e NotCarried is));
    mismatched = λ is. stays_mismatching w s0 s0 s1 site.table site.place conduct.stays (mismatch_told w s0 site.table site.place e (told due) (error_is {B = B} e TypeMismatch is));
    invalid = λ is. stays_agreeing w s0 s0 s1 site.table site.place conduct.stays (λ here. agrees_told w s0 site.table site.place e (told here) (error_is {B = B} e InvalidInput is));
    input = ap (λ (c : Cursor). c.input) conduct.stays;
    counted = λ strict before. refusal_counted w s0 s1 conduct.stays before;
  }

  -- memory runs out
  pub memory_fails : {B : Type 0} (view : B → Value) (site : Site) (s0 s : Cursor) (e : SerdeError) → Reached w tells_without_limits s0 s → e ≡ NoMemory
      → ReadsValue {A = B} w u tells_without_limits max s0 s site view (Err e)
  memory_fails {B} view site s0 s e reached is =
      subst (λ (x : SerdeError). ReadsValue {A = B} w u tells_without_limits max s0 s site view (Err x)) (sym is)
      (record {
        ok = tt;
        refused = λ fault. absurd fault;
        none_without_limits = λ strict invalid. absurd invalid;
        failed = ((λ is. absurd (not_memory {A = B} Failed (λ e. cc) is)), λ failed. absurd (reached.fresh failed));
        reading = tt;
        deep = λ is. absurd (not_memory {A = B} TooDeep (λ e. cc) is);
        nested = λ is. absurd (not_memory {A = B} TooDeep (λ e. cc) is);
        wide = λ is. absurd (not_memory {A = B} TooWide (λ e. cc) is);
        uncarried = λ is. absurd (not_memory {A = B} NotCarried (λ e. cc) is);
        mismatched = λ is. absurd (not_memory {A = B} TypeMismatch (λ e. cc) is);
        invalid = λ is. absurd (not_memory {A = B} InvalidInput (λ e. cc) is);
        input = reached.input;
        counted = reached.counted;
      })

  -- the reader is made to fail where it is
  pub made_to_fail : {B : Type 0} (view : B → Value) (site : Site) (s0 s s1 : Cursor) → Reached w tells_without_limits s0 s → s1 ≡ failed_at s → (s.due ≡ true → AgreesInside w s0 s site.table site.place)
      → StandsNot w s0 site.table site.place → StandsNot u s0 site.table site.place
      → ReadsValue {A = B} w u tells_without_limits max s0 s1 site view (Err InvalidInput)
  made_to_fail {B} view site s0 s s1 reached stays agrees refused none_without_limits = record {
    ok = tt;
    refused = λ fault. refused;
    none_without_limits = λ strict invalid. none_without_limits;
    failed = ((λ is. absurd (not_invalid {A = B} Failed (λ e. cc) is)), λ failed. absurd (reached.fresh failed));
    reading = tt;
    deep = λ is. absurd (not_invalid {A = B} TooDeep (λ e. cc) is);
    nested = λ is. absurd (not_invalid {A = B} TooDeep (λ e. cc) is);
    wide = λ is. absurd (not_invalid {A = B} TooWide (λ e. cc) is);
    uncarried = λ is. absurd (not_invalid {A = B} NotCarried (λ e. cc) is);
    mismatched = λ is. absurd (not_invalid {A = B} TypeMismatch (λ e. cc) is);
    invalid = λ is. stays_agreeing w s0 s s1 site.table site.place stays agrees;
    input = ap (λ (c : Cursor). c.input) stays ∙ reached.input;
    counted = λ strict before. refusal_counted w s s1 stays (reached.counted strict before);
  }

  -- an error of an inner read is an error of the outer one
  pub inner_fails : {A B : Type 0} (inner : A → Value) (view : B → Value) (child site : Site) (s0 s1 s2 : Cursor) (e : SerdeError) → Reached w tells_without_limits s0 s1
      → ReadsValue {A = A} w u tells_without_limits max s1 s2 child inner (Err e)
      → (StandsNot w s1 child.table child.place → StandsNot w s0 site.table site.place)
      → (StandsNot u s1 child.table child.place → StandsNot u s0 site.table site.place)
      → ((lies : Lying) → StandsInside lies s1 s2 child.table child.place → StandsInside lies s0 s2 site.table site.place)
      → ToChild w s0 s1 site.table child.table site.place child.place
      → ReadsValue {A = B} w u tells_without_limits max s0 s2 site view (Err e)
  inner_fails {A} {B} inner view child site s0 s1 s2 e reached reads refused none_without_limits inside to = record {
    ok = tt;
    refused = λ fault. refused (reads.refused fault);
    none_without_limits = λ strict invalid. none_without_limits (reads.none_without_limits strict invalid);
    failed = ((λ is. absurd (reached.going (reads.failed.0 (error_as {A = B} {B = A} e Failed is)))), λ failed. absurd (reached.fresh failed));
    reading = reads.reading;
    deep = λ is. reads.deep (error_as {A = B} {B = A} e TooDeep is);
    nested = λ is. ends_inside w max s0 s1 s2 site.table child.table site.place child.place inside (reads.nested (error_as {A = B} {B = A} e TooDeep is));
    wide = λ is. inside w.exceeds (reads.wide (error_as {A = B} {B = A} e TooWide is));
    uncarried = λ is. inside w.uncarried (reads.uncarried (error_as {A = B} {B = A} e NotCarried is));
    mismatched = λ is. mismatch_above w s0 s1 s2 site.table child.table site.place child.place to (reads.mismatched (error_as {A = B} {B = A} e TypeMismatch is));
    invalid = λ is due. agrees_above w s0 s1 s2 site.table child.table site.place child.place to (reads.invalid (error_as {A = B} {B = A} e InvalidInput is) due);
    input = reads.input ∙ reached.input;
    counted = λ strict before. reads.counted strict (reached.counted strict before);
  }

  -- a scalar that is due is refused
  pub scalar_fails : {A B : Type 0} (kind : Scalar) (value : A → ScalarValue) (view : B → Value) (site : Site) (old new : Cursor) (e : SerdeError) → Some (scalar_type kind) ≡ type_of (kind_at site) → old.due ≡ true
      → ReadsScalar {A = A} (reader w u tells_without_limits max) old new site kind value (Err e)
      → ReadsValue {A = B} w u tells_without_limits max old new site view (Err e)
  scalar_fails {A} {B} kind value view site old new e is due reads =
      let here = place_told site.table site.place kind is in
      let told : TellsType (w.mismatches old.input site.table site.place old.at) e = subst (λ (p : Place). TellsType (w.mismatches old.input site.table p old.at) e) (sym here) (reads.told due) in
      record {
        ok = tt;
        refused = λ fault. subst (λ (p : Place). StandsNot w old site.table p) (sym here) (reads.refused fault due);
        none_without_limits = λ strict invalid. subst (λ (p : Place). StandsNot u old site.table p) (sym here) (reads.none_without_limits strict invalid due);
        failed = ((λ is. reads.conduct.failed.0 (error_as {A = B} {B = A} e Failed is)), λ failed. error_as {A = A} {B = B} e Failed (reads.conduct.failed.1 failed));
        reading = reads.conduct.reading;
        deep = λ is. absurd (reads.shallow (error_as {A = B} {B = A} e TooDeep is));
        nested = λ is. absurd (reads.shallow (error_as {A = B} {B = A} e TooDeep is));
        wide = scalar_inside {A = A} {B = B} w.exceeds old new site kind (Err e) e TooWide refl reads.conduct reads.wide is;
        uncarried = scalar_inside {A = A} {B = B} w.uncarried old new site kind (Err e) e NotCarried refl reads.conduct reads.uncarried is;
        mismatched = λ is. stays_mismatching w old old new site.table site.place reads.conduct.stays (mismatch_told w old site.table site.place e told (error_is {B = B} e TypeMismatch is));
        invalid = λ is. stays_agreeing w old old new site.table site.place reads.conduct.stays (λ here. agrees_told w old site.table site.place e told (error_is {B = B} e InvalidInput is));
        input = ap (λ (c : Cursor). c.input) reads.conduct.stays;
        counted = λ strict before. refusal_counted w old new reads.conduct.stays before;
      }

  -- a document that is due is refused
  pub document_fails : {B : Type 0} (view : B → Value) (site : Site) (old new : Cursor) (e : SerdeError) → Some types.Document ≡ type_of (kind_at site) → old.due ≡ true
      → ReadsDocument (reader w u tells_without_limits max) old new site (Err e)
      → ReadsValue {A = B} w u tells_without_limits max old new site view (Err e)
  document_fails {B} view site old new e is due reads =
      let here = document_told site.table site.place is in
      record {
        ok = tt;
        refused = λ fault. subst (λ (p : Place). StandsNot w old site.table p) (sym here) (reads.refused fault due);
        none_without_limits = λ strict invalid. subst (λ (p : Place). StandsNot u old site.table p) (sym here) (reads.none_without_limits strict invalid due);
        failed = ((λ is. reads.conduct.failed.0 (error_as {A = B} {B = Document} e Failed is)), λ failed. error_as {A = Document} {B = B} e Failed (reads.conduct.failed.1 failed));
        reading = reads.conduct.reading;
        deep = λ is. subst (ReachesDepth w max) (sym reads.conduct.stays) (reads.deep (error_as {A = B} {B = Document} e TooDeep is));
        nested = λ is. inl (reads.limited (error_as {A = B} {B = Document} e TooDeep is));
        wide = λ is. absurd (reads.narrow (error_as {A = B} {B = Document} e TooWide is));
        uncarried = document_inside {A = Document} {B = B} w.uncarried old new site (Err e) e NotCarried refl reads.conduct reads.uncarried is;
        mismatched = λ is. absurd (reads.no_mismatch (error_as {A = B} {B = Document} e TypeMismatch is));
        invalid = λ refused. stays_agreeing w old old new site.table site.place reads.conduct.stays (λ here. as_document site.place at_once (kind_of_document (kind_at site) is));
        input = ap (λ (c : Cursor). c.input) reads.conduct.stays;
        counted = λ strict before. refusal_counted w old new reads.conduct.stays before;
      }

  -- a tree is made of what was read, or memory runs out
  pub tree_made : {B : Type 0} (view : B → Value) (site : Site) (old new : Cursor) (v : Value) (result : Result B SerdeError) → (tells_without_limits → CountsOpeners w)
      → (old.failed ≡ true → ⊥) → Reads w old new site.table site.place v → IfOk result (λ x. view x ≡ v) → IfErr result (λ e. e ≡ NoMemory)
      → ReadsValue {A = B} w u tells_without_limits max old new site view result
  tree_made {B} view site old new v (Ok x) counts fresh reads made err = record {
    ok = subst (λ (y : Value). Reads w old new site.table site.place y) (sym made) reads;
    refused = λ fault. absurd fault;
    none_without_limits = λ strict invalid. absurd invalid;
    failed = ((λ is. absurd (no_error {A = B} x Failed is)), λ failed. absurd (fresh failed));
    reading = tt;
    deep = λ is. absurd (no_error {A = B} x TooDeep is);
    nested = λ is. absurd (no_error {A = B} x TooDeep is);
    wide = λ is. absurd (no_error {A = B} x TooWide is);
    uncarried = λ is. absurd (no_error {A = B} x NotCarried is);
    mismatched = λ is. absurd (no_error {A = B} x TypeMismatch is);
    invalid = λ is. absurd (no_error {A = B} x InvalidInput is);
    input = reads.passes.input;
    counted = λ strict. value_counted w (counts strict) old new site.table site.place v reads;
  }
  tree_made {B} view site old new v (Err e) counts fresh reads made err =
      memory_fails {B = B} view site old new e
      (record {
        input = reads.passes.input;
        fresh = fresh;
        going = λ failed. let both : true ≡ false = sym failed ∙ reads.passes.failed in cc;
        counted = λ strict. value_counted w (counts strict) old new site.table site.place v reads;
      })
      err

  -- of a scalar
  pub scalar_made : {A B : Type 0} (kind : Scalar) (value : A → ScalarValue) (view : B → Value) (site : Site) (old new : Cursor) (y : A) (x : ScalarValue) (result : Result B SerdeError) → (tells_without_limits → CountsOpeners w)
      → Some (scalar_type kind) ≡ type_of (kind_at site) → ReadsScalar {A = A} (reader w u tells_without_limits max) old new site kind value (Ok y)
      → value y ≡ x → IfOk result (λ t. view t ≡ scalar_value x) → IfErr result (λ e. e ≡ NoMemory)
      → ReadsValue {A = B} w u tells_without_limits max old new site view result
  scalar_made {A} {B} kind value view site old new y x result counts is reads same made err =
      tree_made {B = B} view site old new (scalar_value x) result counts (not_failed {A = A} old new y reads.conduct)
      (scalar_read w old new site kind (value y) x (scalar_value x) is reads.ok same refl) made err

  -- of a document
  pub document_made : {B : Type 0} (view : B → Value) (site : Site) (old new : Cursor) (y : Document) (result : Result B SerdeError) → (tells_without_limits → CountsOpeners w)
      → Some types.Document ≡ type_of (kind_at site) → ReadsDocument (reader w u tells_without_limits max) old new site (Ok y)
      → IfOk result (λ t. view t ≡ document_value (whole_document (document_view y))) → IfErr result (λ e. e ≡ NoMemory)
      → ReadsValue {A = B} w u tells_without_limits max old new site view result
  document_made {B} view site old new y result counts is reads made err =
      let v = document_value (whole_document (document_view y)) in
      tree_made {B = B} view site old new v result counts (not_failed {A = Document} old new y reads.conduct)
      (document_read w old new site v v is reads.ok refl) made err
