-- What skipping tells of an input, and where the list of what is due becomes a stack.
use Rattle.std.proofs.Common.{◌≡◌, ◌≢◌, inl, inr, ℕ, ◌-◌, ◌<◌, ◌≤◌, List, [], ◌∷◌, ◌++◌, length, take, drop, sym, ◌∙◌, ap, subst, arith, refl, length-drop, length-append}
use Rattle.std.specs.Prelude.{slice_range, Err}
use Rattle.cbor_item.specs.declared.error.ItemError.{ItemError}
use Rattle.cbor_item.specs.declared.error.ItemError.TheVariants.{Truncated, NotWellFormed, WrongType, InvalidUtf8, NoMemory}
use Rattle.std.proofs.lemmas.Bool.{cases_lt}
use Rattle.std.proofs.lemmas.List.{reverse-append}
use Rattle.std.proofs.lemmas.List.Folds.{drop_split}
use Rattle.cbor_item.specs.declared.skip.Due.{Due}
use Rattle.cbor_item.specs.Item.{Item}
use Rattle.cbor_item.specs.WellFormed.{IsEncodingOf, IsItemAt, HoldsOneItem, HoldsNoItem}
use Rattle.cbor_item.specs.CutShort.{IsCutShort}
use Rattle.cbor_item.specs.Fault.{IsItemFault}
use Rattle.cbor_item.specs.Private.Skip.{Outcome, ended, cut, broken, between, at_item, Leads, at_end, goes_on, Reaches, IsStepAnswer, stack_of}
use Rattle.cbor_item.proofs.FirstByte.{not_empty}
use Rattle.cbor_item.proofs.HeadLemmas.{take_front}
use Rattle.cbor_item.proofs.Passing.{past_item}
use Rattle.cbor_item.proofs.Cutting.{stops_cut}
use Rattle.cbor_item.proofs.Ending.{TellsItem, told_by_end}
use Rattle.cbor_item.proofs.OneItem.{one_end, same_item}

-- an item that stands there is passed over
item_at_leads : (i : Item) (input : List ℕ) (at end : ℕ) → IsItemAt i input at end → Leads (at_item [] (drop at input)) (ended (drop end input))
item_at_leads i input at end (within, encoded) = elim (cases_lt end at) [
  | inl before ↦ absurd (not_empty i (subst (λ (l : List ℕ). IsEncodingOf i l) (nothing before) encoded))
  | inr ordered ↦
      subst (λ (l : List ℕ). Leads (at_item [] l) (ended (drop end input))) (sym (drop_split input at end ordered))
      (past_item i (slice_range input at end) (drop end input) [] encoded (ended (drop end input)) (goes_on refl at_end))
]
  where
    nothing : end < at → slice_range input at end ≡ []
    nothing before = let none : end - at ≡ 0 = omega arith in ap (λ n. take n (drop at input)) none

-- the place between an item and what follows it
item_place : (input first after : List ℕ) (at end : ℕ) → at ≤ length input → end ≤ length input → drop at input ≡ first ++ after → drop end input ≡ after
    → first ≡ slice_range input at end
item_place input first after at end start within split rest =
    let size : end - at ≡ length first = omega (arith, ap length split, ap length rest, length-append first after, length-drop at input, length-drop end input) in
    sym (take_front first after) ∙ ap (λ n. take n (first ++ after)) (sym size) ∙ ap (take (end - at)) (sym split)

same_end : (input : List ℕ) (e end : ℕ) → e ≤ length input → end ≤ length input → drop e input ≡ drop end input → e ≡ end
same_end input e end inside within same = omega (arith, ap length same, length-drop e input, length-drop end input)

-- skipping that ends between two items has passed over one item
pub found_one : (input : List ℕ) (at end : ℕ) → at ≤ length input → end ≤ length input → Leads (at_item [] (drop at input)) (ended (drop end input)) → HoldsOneItem input at end
found_one input at end start within leads = go (told_by_end leads)
  where
    rest_is : {x y : List ℕ} → ended x ≡ ended y → x ≡ y
    rest_is e = cc

    only : (value : Item) → IsEncodingOf value (slice_range input at end) → (i : Item) (e : ℕ) → IsItemAt i input at e → (i ≡ value) × (e ≡ end)
    only value encoded i e there =
        let ends : e ≡ end = same_end input e end there.0 within (rest_is (one_end (item_at_leads i input at e there) (ended (drop end input)) leads)) in
        (same_item i value (slice_range input at end) (subst (λ (k : ℕ). IsEncodingOf i (slice_range input at k)) ends there.1) encoded, ends)

    go : TellsItem (ended (drop end input)) [] (drop at input) → HoldsOneItem input at end
    go (inl wrong) = absurd (cc)
    go (inr (inl (wrong, short))) = absurd (cc)
    go (inr (inr (i, first, after, encoded, told, split))) =
        let rest : drop end input ≡ after = rest_is told in
        let here = subst (λ (l : List ℕ). IsEncodingOf i l) (item_place input first after at end start within split rest) encoded in
        record { value = i; encoded = (within, here); alone = only i here }

no_item : (input : List ℕ) (at : ℕ) (o : Outcome) → ((bytes : List ℕ) → ended bytes ≢ o) → Leads (at_item [] (drop at input)) o → HoldsNoItem input at
no_item input at o other leads i end there = other (drop end input) (one_end (item_at_leads i input at end there) o leads)

-- skipping that stops as cut off
pub found_cut : (input : List ℕ) (at : ℕ) → Leads (at_item [] (drop at input)) cut → HoldsNoItem input at × IsCutShort (drop at input)
found_cut input at leads = (no_item input at cut (λ bytes e. cc) leads, go (told_by_end leads))
  where
    go : TellsItem cut [] (drop at input) → IsCutShort (drop at input)
    go (inl wrong) = absurd (cc)
    go (inr (inl (same, short))) = short
    go (inr (inr (i, first, after, encoded, told, split))) = absurd (cc)

-- skipping that stops at a broken rule
pub found_broken : (input : List ℕ) (at : ℕ) → Leads (at_item [] (drop at input)) broken → HoldsNoItem input at × ¬ (IsCutShort (drop at input))
found_broken input at leads = (no_item input at broken (λ bytes e. cc) leads, λ short. apart (one_end (stops_cut short [] cut at_end) broken leads))
  where
    apart : cut ≡ broken → ⊥
    apart e = cc

-- one more that is due is the innermost
pub stack_push : (due : List Due) (d : Due) → stack_of (due ++ d ∷ []) ≡ d ∷ stack_of due
stack_push due d = reverse-append due (d ∷ [])

-- a fault of skipping, from where it began
pub fault_there : (input : List ℕ) (at : ℕ) (due : List Due) (e : ItemError) → IsStepAnswer (at_item [] (drop at input)) due input (Err e) → IsItemFault input at e
fault_there input at due Truncated reaches = found_cut input at (reaches cut at_end)
fault_there input at due NotWellFormed reaches = found_broken input at (reaches broken at_end)
fault_there input at due WrongType never = never
fault_there input at due InvalidUtf8 never = never
fault_there input at due NoMemory anything = anything

-- nothing more is due
pub all_skipped : (input : List ℕ) (at end : ℕ) (due : List Due) → at ≤ length input → end ≤ length input → due ≡ []
    → Reaches (at_item [] (drop at input)) (between (stack_of due) (drop end input)) → HoldsOneItem input at end
all_skipped input at end due start within none reaches =
    let P : List Due → Type 0 = λ l. Reaches (at_item [] (drop at input)) (between (stack_of l) (drop end input)) in
    let here = subst P none reaches in
    found_one input at end start within (here (ended (drop end input)) (goes_on refl at_end))

-- the innermost is taken off
pub popped : (input : List ℕ) (at end : ℕ) (all rest : List Due) (d : Due) → all ≡ rest ++ d ∷ []
    → Reaches (at_item [] (drop at input)) (between (stack_of all) (drop end input)) → Reaches (at_item [] (drop at input)) (between (d ∷ stack_of rest) (drop end input))
popped input at end all rest d e reaches =
    let P : List Due → Type 0 = λ l. Reaches (at_item [] (drop at input)) (between l (drop end input)) in
    subst P (ap stack_of e ∙ stack_push rest d) reaches
