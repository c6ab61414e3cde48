-- Whole numbers that are read in turn go on in a list that is half read.
use Rattle.std.proofs.Common.{◌≡◌, ◌⊎◌, ◌≤◌, ◌<◌, ℕ, ℤ, List, [], ◌∷◌, ◌++◌, Some, Result, refl, sym, subst, append_assoc, arith, inl, inr}
use Rattle.std.proofs.lemmas.List.{append-nil}
use Rattle.smithy_declarations.specs.declared.shape_type.Scalar.TheVariants as scalars
use Rattle.smithy_declarations.specs.declared.shape_type.ShapeType.TheVariants as types
use Rattle.smithy_declarations.specs.Table.{Kind, document, type_of, IsList, IsDocument, is_sparse}
use Rattle.smithy_declarations.specs.Value.{Value, scalar_value, whole}
use Rattle.smithy_shapes.specs.Site.{Site, kind_at}
use Rattle.smithy_schema.specs.declared.error.SerdeError.{SerdeError}
use Rattle.smithy_schema.specs.declared.read.ShapeDeserializer as deserializer
use Rattle.smithy_schema.specs.Reading.{Cursor, Reader, depth, in_list, Reads}
use Rattle.smithy_schema.specs.Runs.{ReadsInTurn}
use Rattle.smithy_schema.proofs.ReadLists.{list_value, IsNoNull, element_falls}
use Rattle.smithy_tree.specs.Items.{whole_values}
use Rattle.smithy_value.specs.Private.Runs.{ReadsRun}
use Rattle.smithy_value.proofs.ReadWide.{scalar_read}
use Rattle.smithy_value.proofs.ReadAnswers.{ObeysLaws}
use Rattle.smithy_value.proofs.ReadItems.{IsInner}
use Rattle.smithy_value.proofs.ReadTrees.{Obeys, HalfTree, ReachedBy, left_by}
use Rattle.smithy_value.proofs.HalfRead.{HalfRead}
use Rattle.smithy_value.proofs.HalfElements.{element_passed}

no_document : (k : Kind) → Some types.Long ≡ type_of k → IsDocument k → ⊥
no_document document is h = cc
no_document _ is h = h

-- less is left to read, by the settings that are there
pub run_nearer : {D : Type 0} (d : deserializer.Ghosts D) (old s mid new : D) → d.settings new ≡ d.settings old → d.settings mid ≡ d.settings old → left_by d (d.settings old) new ≤ left_by d (d.settings old) mid
    → left_by d (d.settings mid) mid < left_by d (d.settings s) s → left_by d (d.settings new) new < left_by d (d.settings s) s
run_nearer d old s mid new behind before no_more less =
    let there : left_by d (d.settings new) new ≤ left_by d (d.settings mid) mid =
    subst (λ (c : d.Settings). left_by d c new ≤ left_by d (d.settings mid) mid) (sym behind) (subst (λ (c : d.Settings). left_by d (d.settings old) new ≤ left_by d c mid) (sym before) no_more) in
    omega (arith, there, less)

module _ (r : Reader) (laws : ObeysLaws r.wire r.lifted r.tells_without_limits) where
  abbrev Half : (o : Site) (s0 s : Cursor) → List Value → Type 0
  Half o s0 s vs = HalfRead r.wire r.lifted r.tells_without_limits r.max_depth s0 s o.table o.place in_list (list_value (is_sparse (kind_at o)) vs)

  abbrev left : Cursor → ℕ
  left c = r.wire.left c.input c.at c.inner.mark

  -- the list is half read with these elements, and no more is left than before
  pub record Passed (o : Site) (s0 s d : Cursor) (vs : List Value) : Type 0 where
    pub half : Half o s0 d vs
    pub no_more : left d ≤ left s

  -- no number was read
  none_passed : (o : Site) (s0 s d : Cursor) (vs : List Value) → Half o s0 s vs → s ≡ d → Passed o s0 s d (vs ++ [])
  none_passed o s0 s d vs half turn = record {
    half = subst (λ (e : Cursor). Half o s0 e (vs ++ [])) turn (subst (λ (xs : List Value). Half o s0 s xs) (sym (append-nil vs)) half);
    no_more = subst (λ (e : Cursor). left e ≤ left s) turn (omega arith);
  }

  longs_passed : (o child : Site) (s0 s d : Cursor) (vs : List Value) (ns : List ℤ) → IsList (kind_at o) → IsInner o child → Some types.Long ≡ type_of (kind_at child)
      → Half o s0 s vs → ReadsInTurn r child scalars.Long s ns d → Passed o s0 s d (vs ++ whole_values ns)
  longs_passed o child s0 s d vs [] kind inner is half turn = none_passed o s0 s d vs half turn
  longs_passed o child s0 s d vs (n ∷ ns) kind inner is half (here, passed, goes, read, rest) =
      let v = scalar_value (whole n) in
      let step = goes.ok half.kept.due o.table o.place kind in
      let reads : Reads r.wire here passed child.table child.place v = scalar_read r.wire here passed child scalars.Long (whole n) (whole n) v is read.ok refl refl in
      let no_null : IsNoNull r.wire here (kind_at o) = λ sparse. elim (laws.kept.value_begins here.input child.table child.place (depth here) here.at v passed.at reads.stands) [
        | inl is_document ↦ absurd (no_document (kind_at child) is is_document)
        | inr other ↦ rw (step.due, other) refl
      ] in
      let one = element_passed r.wire r.lifted r.tells_without_limits r.max_depth laws o child s0 s here passed (is_sparse (kind_at o)) vs v inner half step no_null reads in
      let falls = element_falls r.wire r.wire r.max_depth laws.kept s0 s here passed o.table o.place child.place (list_value (is_sparse (kind_at o)) vs) v half.kept step no_null inner.1
      (subst (λ t. Reads r.wire here passed t child.place v) inner.0 reads) in
      let others = longs_passed o child s0 passed d (vs ++ v ∷ []) ns kind inner is one rest in
      record {
        half = subst (λ (xs : List Value). Half o s0 d xs) (append_assoc vs (v ∷ []) (whole_values ns)) others.half;
        no_more = omega (arith, falls, others.no_more);
      }

  pub run_passed : (o child : Site) (s0 s d : Cursor) (vs : List Value) (ns : List ℤ) → IsList (kind_at o) → IsInner o child → (ns ≡ []) ⊎ (Some types.Long ≡ type_of (kind_at child))
      → Half o s0 s vs → ReadsInTurn r child scalars.Long s ns d → Passed o s0 s d (vs ++ whole_values ns)
  run_passed o child s0 s d vs ns kind inner (inr is) half turn = longs_passed o child s0 s d vs ns kind inner is half turn
  run_passed o child s0 s d vs [] kind inner (inl none) half turn = none_passed o s0 s d vs half turn
  run_passed o child s0 s d vs (n ∷ ns) kind inner (inl none) half turn = absurd (cc)

-- what a run says of a list that is half read
module _ {D P E : Type 0} {d : deserializer.Ghosts D} {begun : P → P → E → Type 0} {view : P → E → List Value} (laws : Obeys d) (old s new : D) (site child : Site) {p q : P} {e f : E} {result : Result (Unit {0}) SerdeError}
    (kind : IsList (kind_at site)) (inner : IsInner site child) (same : d.settings s ≡ d.settings old) (run : ReadsRun d begun view s new p q e f child result) where
  at_old : {vs : List Value} → HalfTree d old s site in_list (list_value (is_sparse (kind_at site)) vs) → Passed (d.reading (d.settings old)) (laws (d.settings old)) site (d.state old) (d.state s) (d.state new) (vs ++ whole_values run.numbers)
  at_old {vs} half =
      run_passed (d.reading (d.settings old)) (laws (d.settings old)) site child (d.state old) (d.state s) (d.state new) vs run.numbers kind inner run.longs half
      (subst (λ (c : d.Settings). ReadsInTurn (d.reading c) child scalars.Long (d.state s) run.numbers (d.state new)) same run.turn)

  -- memory may have run out for it
  pub run_reached : {vs : List Value} → HalfTree d old s site in_list (list_value (is_sparse (kind_at site)) vs) → ReachedBy d old new
  run_reached half = (at_old half).half.reached

  -- no more is left to read than before
  pub run_no_further : {vs : List Value} → HalfTree d old s site in_list (list_value (is_sparse (kind_at site)) vs) → left_by d (d.settings old) new ≤ left_by d (d.settings old) s
  run_no_further half = (at_old half).no_more

  -- its numbers are elements
  pub run_put : {vs us : List Value} → HalfTree d old s site in_list (list_value (is_sparse (kind_at site)) vs) → us ≡ vs ++ whole_values run.numbers
      → HalfTree d old new site in_list (list_value (is_sparse (kind_at site)) us)
  run_put half shown = subst (λ (xs : List Value). HalfTree d old new site in_list (list_value (is_sparse (kind_at site)) xs)) (sym shown) (at_old half).half
