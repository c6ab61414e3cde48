-- Where a structure or a union goes on to, as the contract of reading says it.
use Rattle.std.proofs.Common.{◌≡◌, ℕ, List, ◌∷◌, Some, Option, Result, Ok, Err, refl, sym, subst, ◌∙◌, false}
use Rattle.std.specs.Prelude.{not}
use Rattle.smithy_schema.specs.declared.error.SerdeError.{SerdeError}
use Rattle.smithy_schema.specs.declared.error.SerdeError.TheVariants.{InvalidInput, TypeMismatch, TooDeep, TooWide, NotCarried, Unsupported, Unwritable, Missing, Failed, NoMemory}
use Rattle.smithy_schema.specs.declared.step.Step.{Step}
use Rattle.smithy_schema.specs.declared.step.Step.TheVariants.{Member as ToMember, Unknown, End}
use Rattle.smithy_declarations.specs.Table.{IsStructure, HasMembers}
use Rattle.smithy_shapes.specs.Site.{Site, kind_at}
use Rattle.smithy_schema.specs.Errors.{IsInvalid, IsRefused}
use Rattle.smithy_schema.specs.Reading.{Cursor, depth, Steps, Leaves, MatchStep, CannotGoOn, passed_to, in_structure}
use Rattle.smithy_cbor_codec.specs.Cursor.{inside_of}
use Rattle.smithy_cbor_values.specs.Settings.{Settings}
use Rattle.smithy_cbor_values.specs.Standing.{cbor_relations, FollowsInside, end_depth, mark_with}
use Rattle.smithy_cbor_codec.specs.Private.PassedEntries.{Passes, StepsToMember, ClosesMembers, EntryMissing, NothingComes}
use Rattle.smithy_cbor_codec.specs.Private.MemberSteps.{EndsEmpty, StepsTo}
use Rattle.smithy_cbor_codec.proofs.ReaderLemmas.{steps_to_member, closes_members, members_are_stuck, members_are_shut}
use Rattle.smithy_wire.specs.Walking.{gone_on_to}

-- ---- steps and ends

module _ (o : Settings) (c new : Cursor) (at : ℕ) (outer : Site) (kind : HasMembers (kind_at outer)) where
  member_comes : (value : ℕ) (name : List ℕ) (after : Option ℕ) → c.inner.within ≡ in_structure → c.failed ≡ false
      → new ≡ gone_on_to c value (inside_of in_structure after)
      → StepsToMember (not o.dispatch_null_members) (kind_at outer) c.input (end_depth o.enforce_strictness (depth c)) at (mark_with c.inner.mark.due) name value (mark_with after) → Steps (cbor_relations o) (passed_to c at) new outer.table outer.place (Some name)
  member_comes value name after within sound is s = rw is (record {
    steps = steps_to_member o c.input outer.table outer.place kind (depth c) at c.inner.mark name value (mark_with after) s;
    input = refl;
    within = sym within;
    outer = refl;
    due = refl;
    failed = sound;
  })

  -- the step to a member, or to an unknown entry
  pub steps_to : (value : ℕ) (name : List ℕ) (after : Option ℕ) (step : Step) (held : ℕ) → held ≡ end_depth o.enforce_strictness (depth c) → c.inner.within ≡ in_structure → c.failed ≡ false
      → new ≡ gone_on_to c value (inside_of in_structure after)
      → StepsToMember (not o.dispatch_null_members) (kind_at outer) c.input held at (mark_with c.inner.mark.due) name value (mark_with after) → StepsTo step outer name → MatchStep step (cbor_relations o) (passed_to c at) new outer
  steps_to value name after step held same within sound is steps leads = go step leads
    where
      comes : Steps (cbor_relations o) (passed_to c at) new outer.table outer.place (Some name)
      comes =
          member_comes value name after within sound is
          (subst (λ d. StepsToMember (not o.dispatch_null_members) (kind_at outer) c.input d at (mark_with c.inner.mark.due) name value (mark_with after)) same steps)

      go : (step : Step) → StepsTo step outer name → MatchStep step (cbor_relations o) (passed_to c at) new outer
      go (ToMember s) leads = (name, leads.0, comes, leads.1, leads.2)
      go Unknown leads = (name, comes, leads)
      go End leads = absurd leads

  -- it ends, by its map or where nothing is left
  pub leaves_at : (e : ℕ) → (cbor_relations o).closes c.input outer.table outer.place (depth c) at c.inner.mark e
      → new.input ≡ c.input → new.at ≡ e → c.outer ≡ new.inner ∷ new.outer → new.due ≡ false → new.failed ≡ c.failed → c.failed ≡ false
      → Leaves (cbor_relations o) (passed_to c at) new outer.table outer.place
  leaves_at e closes input place around undue failed sound = record {
    closes = rw place closes;
    input = input;
    outer = around;
    due = undue;
    failed = failed ∙ sound;
  }

  pub map_closes : (e held : ℕ) → held ≡ end_depth o.enforce_strictness (depth c) → ClosesMembers (not o.dispatch_null_members) (kind_at outer) c.input held at (mark_with c.inner.mark.due) e
      → FollowsInside o.enforce_strictness (depth c) c.input e → (cbor_relations o).closes c.input outer.table outer.place (depth c) at c.inner.mark e
  map_closes e held same h follows =
      closes_members o c.input outer.table outer.place kind (depth c) at c.inner.mark e
      (subst (λ d. ClosesMembers (not o.dispatch_null_members) (kind_at outer) c.input d at (mark_with c.inner.mark.due) e) same h) follows

  -- neither a member nor the end comes
  pub cannot_step : (held : ℕ) → held ≡ end_depth o.enforce_strictness (depth c) → NothingComes (not o.dispatch_null_members) (kind_at outer) c.input at c.inner.mark.due held
      → (IsStructure (kind_at outer) → EndsEmpty o.enforce_strictness c at → ⊥) → CannotGoOn (cbor_relations o) (passed_to c at) outer.table outer.place
  cannot_step held same h full =
      members_are_stuck o c.input outer.table outer.place kind (depth c) h.count at c.inner.mark h.place h.after
      (subst (λ d. Passes (not o.dispatch_null_members) (kind_at outer) h.count c.input d at (mark_with c.inner.mark.due) h.place (mark_with h.after)) same h.passes)
      (subst (λ d. EntryMissing (kind_at outer) c.input h.place h.after d) same h.missing) (λ is at_end rest some. full is (at_end, rest, some))

  -- nor where it is over and can't be left
  pub members_shut : (e held : ℕ) → held ≡ end_depth o.enforce_strictness (depth c) → ClosesMembers (not o.dispatch_null_members) (kind_at outer) c.input held at (mark_with c.inner.mark.due) e
      → (FollowsInside o.enforce_strictness (depth c) c.input e → ⊥) → (IsStructure (kind_at outer) → EndsEmpty o.enforce_strictness c at → ⊥)
      → CannotGoOn (cbor_relations o) (passed_to c at) outer.table outer.place
  members_shut e held same h shut full =
      members_are_shut o c.input outer.table outer.place kind (depth c) at c.inner.mark e
      (subst (λ d. ClosesMembers (not o.dispatch_null_members) (kind_at outer) c.input d at (mark_with c.inner.mark.due) e) same h) shut
      (λ is at_end rest some. full is (at_end, rest, some))

-- what is no such value is refused
pub invalid_refused : {A : Type 0} (r : Result A SerdeError) → IsInvalid r → IsRefused r
invalid_refused (Ok x) h = absurd h
invalid_refused (Err InvalidInput) h = tt
invalid_refused (Err TypeMismatch) h = tt
invalid_refused (Err TooDeep) h = absurd h
invalid_refused (Err TooWide) h = absurd h
invalid_refused (Err NotCarried) h = absurd h
invalid_refused (Err Unsupported) h = absurd h
invalid_refused (Err Unwritable) h = absurd h
invalid_refused (Err Missing) h = absurd h
invalid_refused (Err Failed) h = absurd h
invalid_refused (Err NoMemory) h = absurd h
