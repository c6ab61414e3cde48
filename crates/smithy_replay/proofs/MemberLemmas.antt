-- The members of a structure that is written by one call.
use Rattle.std.proofs.Common.{◌≡◌, ◌↔◌, ℕ, List, Bool, true, false, Result, Ok, Err, IsErrOf, refl, sym, ◌∙◌, ap, subst}
use Rattle.smithy_schema.specs.declared.error.SerdeError.{SerdeError}
use Rattle.smithy_schema.specs.declared.error.SerdeError.TheVariants.{Failed}
use Rattle.smithy_schema.specs.Errors.{IsFault}
use Rattle.smithy_schema.specs.Writing.{Writer, Open, IsNested, open_structure, events, member_events, run, write}
use Rattle.smithy_schema.specs.Written.{Runs, ran, broke, IsInside}
use Rattle.smithy_schema.proofs.WritingLemmas.{child_written, child_refused}
use Rattle.smithy_schema.proofs.WrittenFields.{value_added}
use Rattle.smithy_declarations.specs.Table.{Kind, structure_of, IsStructure, IsMap, IsUnion, IsDocument, kind_of, Table}
use Rattle.smithy_declarations.specs.declared.place.Place.{Place}
use Rattle.smithy_declarations.specs.Value.{ScalarValue, boolean, whole, text, bytes, decimal, instant, Value, MemberValues, member_value}
use Rattle.smithy_shapes.specs.Fits.{FitsOr, is_scalar_of}
use Rattle.smithy_shapes.specs.Lemmas.Kinds.{no_list_and_structure}
use Rattle.smithy_shapes.specs.Site.{Site, member_of}
use Rattle.smithy_value.specs.Tree.{part_view}
use Rattle.smithy_value.specs.declared.tree.Part.{Part}
use Rattle.smithy_value.specs.declared.tree.Part.TheVariants as parts
use Rattle.smithy_value.specs.declared.entries.Members.{Members}

module _ {S : Type 0} (after : Writer S) (open_in : S → List Open) (nested : IsNested after open_in) (site : Site) where
  -- a member that was written, and those behind it
  pub member_goes : (n : ℕ) (v : Value) (ms rest : MemberValues) (s t : S) (r : Result S SerdeError) → ms ≡ member_value n v rest → write after (member_of site n) v s ≡ Ok t → Runs after (member_events site rest) t r
      → Runs after (member_events site ms) s r
  member_goes n v ms rest s t r is written (ran left) = ran (ap (λ m. run after (member_events site m) s) is ∙ child_written after (events (member_of site n) v) (member_events site rest) s t written ∙ left)
  member_goes n v ms rest s t r is written (broke sound fault) =
      broke sound (λ h. ap (λ m. run after (member_events site m) s) is ∙ child_written after (events (member_of site n) v) (member_events site rest) s t written ∙ fault h)

  -- a member that wasn't
  pub member_stops : (n : ℕ) (v : Value) (ms rest : MemberValues) (s : S) (e : SerdeError) → ms ≡ member_value n v rest → (e ≡ Failed → ⊥) → (IsFault e → write after (member_of site n) v s ≡ Err e)
      → Runs after (member_events site ms) s (Err e)
  member_stops n v ms rest s e is sound fault =
      broke sound (λ h. ap (λ m. run after (member_events site m) s) is ∙ child_refused after (events (member_of site n) v) (member_events site rest) s e (fault h))

  -- it leaves the containers open as they were
  pub member_stays : (inner : Site) (v : Value) (s t : S) → IsInside open_structure (open_in s) → write after inner v s ≡ Ok t → open_in t ≡ open_in s
  member_stays inner v s t inside written =
      (value_added after open_in nested inner v s t false (Ok tt) inside (ran written) refl tt).nests

-- an error that comes where no failure came before is no failure
pub no_failure : {T : Type 0} (e : SerdeError) (had : Bool) → had ≡ false → IsErrOf {T = T} {E = SerdeError} (Err e) Failed ↔ (had ≡ true) → e ≡ Failed → ⊥
no_failure {T} e had sound failed is = let clash : true ≡ false = sym (failed.0 (ap Err is)) ∙ sound in cc

pub no_scalar : (k : Kind) (x : ScalarValue) → IsStructure k → is_scalar_of k x ≡ true → ⊥
no_scalar (structure_of ms) x kind is = absurd (let e : false ≡ true = is in cc)
no_scalar _ x kind is = absurd kind

pub no_map : (k : Kind) → IsStructure k → IsMap k → ⊥
no_map (structure_of ms) kind h = h
no_map _ kind h = absurd kind

pub no_union : (k : Kind) → IsStructure k → IsUnion k → ⊥
no_union (structure_of ms) kind h = h
no_union _ kind h = absurd kind

pub no_document : (k : Kind) → IsStructure k → IsDocument k → ⊥
no_document (structure_of ms) kind h = h
no_document _ kind h = absurd kind

other_part : {T : Type 0} (view : T → Value) (key : T → List ℕ) (position : T → ℕ) (t : Table) (p : Place) (part : Part T) → IsStructure (kind_of t p) → FitsOr t p false (part_view view key position part)
    → ((ms : Members T) → part ≡ parts.Structure ms → ⊥) → ⊥
other_part view key position t p (parts.Boolean b) kind fits none = no_scalar (kind_of t p) (boolean b) kind fits
other_part view key position t p (parts.Whole n) kind fits none = no_scalar (kind_of t p) (whole n) kind fits
other_part view key position t p (parts.Text s) kind fits none = no_scalar (kind_of t p) (text s.now) kind fits
other_part view key position t p (parts.Bytes b) kind fits none = no_scalar (kind_of t p) (bytes b.now) kind fits
other_part view key position t p (parts.Decimal m e) kind fits none = no_scalar (kind_of t p) (decimal m e) kind fits
other_part view key position t p (parts.Timestamp d) kind fits none = no_scalar (kind_of t p) (instant d) kind fits
other_part view key position t p (parts.List vs) kind fits none = no_list_and_structure (kind_of t p) fits.0 kind
other_part view key position t p (parts.Numbers ns) kind fits none = no_list_and_structure (kind_of t p) fits.0 kind
other_part view key position t p (parts.Map es) kind fits none = no_map (kind_of t p) kind fits.0
other_part view key position t p (parts.Structure ms) kind fits none = none ms refl
other_part view key position t p (parts.Union n v) kind fits none = no_union (kind_of t p) kind fits.0
other_part view key position t p parts.Null kind fits none = absurd (let e : false ≡ true = fits in cc)
other_part view key position t p (parts.Document d) kind fits none = no_document (kind_of t p) kind fits.0

-- what stands at a structure's place is a structure, and no other part
pub only_structures : {T : Type 0} (view : T → Value) (key : T → List ℕ) (position : T → ℕ) (t : Table) (p : Place) (v : Value) (part : Part T) → IsStructure (kind_of t p) → FitsOr t p false v → v ≡ part_view view key position part
    → ((ms : Members T) → part ≡ parts.Structure ms → ⊥) → ⊥
only_structures view key position t p v part kind fits is none = other_part view key position t p part kind (subst (λ x. FitsOr t p false x) is fits) none
