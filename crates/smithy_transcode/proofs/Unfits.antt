-- Why a wire can't express a value, by the tests that the value fails.
use Rattle.std.proofs.Common.{◌≡◌, ◌&&◌, ◌||◌, Bool, true, false, not, Option, Some, None, if◌then◌else◌, refl, sym, ◌∙◌, ap}
use Rattle.std.proofs.lemmas.Bool.{and_parts}
use Rattle.smithy_shapes.specs.ScalarTest.{ValueTest, no_documents, scalars_pass}
use Rattle.smithy_shapes.specs.Site.{Site}
use Rattle.smithy_declarations.specs.Value.{Value}
use Rattle.smithy_shapes.proofs.TimeFormLemmas.{more_pass}
use Rattle.smithy_query_codec.specs.Counts.{HasPositions}
use Rattle.smithy_query_codec.specs.Nulls.{holds_null}
use Rattle.smithy_transcode.specs.declared.wire.Unfit.{Unfit}
use Rattle.smithy_transcode.specs.declared.wire.Unfit.TheVariants.{Document, Null, Instant}
use Rattle.smithy_transcode.specs.declared.value_test.ValueTest as kept
use Rattle.smithy_transcode.specs.Private.Positions.{CanCount}
use Rattle.smithy_transcode.specs.Private.ValueTest.{passes, test_view}
use Rattle.smithy_transcode.specs.Wires.{Wire, json, cbor, query, holds, has_nulls, holds_document, unfit_at}

-- where a value passes a test without documents, none stands in it
no_document_in : (test : ValueTest) (site : Site) (v : Value) → scalars_pass test site v ≡ true → (not test.documents && holds_document site v) ≡ false
no_document_in test site v passes = from test.documents refl
  where
    from : (documents : Bool) → test.documents ≡ documents → (not documents && holds_document site v) ≡ false
    from true is = refl
    from false is =
        let none = more_pass test no_documents (λ time x h. refl) (λ h. let e : false ≡ true = sym is ∙ h in cc) v site passes in
        rw none refl

-- whether documents pass and one stands in the value, whether nulls pass and one stands in it, and whether its scalars pass
abbrev reason : Bool → Bool → Bool → Bool → Bool → Option Unfit
reason documents document nulls null scalars =
    if not documents && document then Some Document
    else if not nulls && null then Some Null
    else if scalars then None
    else Some Instant

by_nulls : (d document n null s : Bool) → (not d && document) ≡ false → (not n && (document || null)) ≡ true → (n ≡ false → d ≡ false) → Some Null ≡ reason d document n null s
by_nulls d document true null s clear fails both = absurd (let e : false ≡ true = fails in cc)
by_nulls true document false null s clear fails both = absurd (let e : true ≡ false = both refl in cc)
by_nulls false false false null s clear fails both = rw fails refl
by_nulls false true false null s clear fails both = absurd (let e : true ≡ false = clear in cc)

by_instants : (d document n null s : Bool) → (s && (n || not null)) ≡ false → (not d && document) ≡ false → (not n && (document || null)) ≡ false → Some Instant ≡ reason d document n null s
by_instants d document n null true fails clear others = absurd (passing n document null fails others)
  where
    passing : (n document null : Bool) → (n || not null) ≡ false → (not n && (document || null)) ≡ false → ⊥
    passing true document null fails others = let e : true ≡ false = fails in cc
    passing false true null fails others = let e : true ≡ false = others in cc
    passing false false true fails others = let e : true ≡ false = others in cc
    passing false false false fails others = let e : true ≡ false = fails in cc
by_instants d document true null false fails clear others = rw clear refl
by_instants d true false null false fails clear others = absurd (let e : true ≡ false = others in cc)
by_instants d false false null false fails clear others = rw (clear, others) refl

-- where no null passes, no document does
documents_as_nulls : (w : Wire) → has_nulls w ≡ false → (holds w).documents ≡ false
documents_as_nulls (json b n) h = absurd (let e : true ≡ false = h in cc)
documents_as_nulls (cbor definite) h = refl
documents_as_nulls (query action version) h = refl

module _ (w : Wire) (test : kept.ValueTest) (site : Site) (v : Value) (same : test_view test ≡ holds w) (nulls : test.nulls ≡ has_nulls w) where
  documents : test.documents ≡ (holds w).documents
  documents = ap (λ t. t.documents) same

  tested : (b : Bool) → b ≡ passes test site v → (scalars_pass (holds w) site v && (has_nulls w || not (holds_null v))) ≡ b
  tested b is = sym (is ∙ rw (same, nulls) refl)

  -- a value that passes is expressed
  pub nothing_lacks : (b : Bool) → b ≡ passes test site v → b ≡ true → None ≡ unfit_at w site v
  nothing_lacks b is held =
      let parts = and_parts (scalars_pass (holds w) site v) (has_nulls w || not (holds_null v)) (tested b is ∙ held) in
      rw (no_document_in (holds w) site v parts.0, no_null (has_nulls w) (holds_null v) parts.1, parts.0) refl
    where
      no_null : (n null : Bool) → (n || not null) ≡ true → (not n && null) ≡ false
      no_null true null h = refl
      no_null false true h = absurd (let e : false ≡ true = h in cc)
      no_null false false h = refl

  pub can_count : (b : Bool) → (b ≡ true → test.nulls ≡ false → HasPositions v) → b ≡ true → CanCount w v
  can_count b told held = by w (λ none. told held (nulls ∙ none))
    where
      by : (w : Wire) → (has_nulls w ≡ false → HasPositions v) → CanCount w v
      by (json b n) h = tt
      by (cbor definite) h = tt
      by (query action version) h = h refl

  module _ (document : Bool) (is : document ≡ (not test.documents && holds_document site v)) (unseen : document ≡ false) where
    clear : (not (holds w).documents && holds_document site v) ≡ false
    clear = rw (← documents) (sym is ∙ unseen)

    pub null_lacks : (b : Bool) → b ≡ (not test.nulls && (holds_document site v || holds_null v)) → b ≡ true → Some Null ≡ unfit_at w site v
    null_lacks b found lacks =
        by_nulls (holds w).documents (holds_document site v) (has_nulls w) (holds_null v) (scalars_pass (holds w) site v) clear (rw (← nulls) (sym found ∙ lacks)) (documents_as_nulls w)

    pub instant_lacks : (b c : Bool) → b ≡ passes test site v → b ≡ false → c ≡ (not test.nulls && (holds_document site v || holds_null v)) → c ≡ false → Some Instant ≡ unfit_at w site v
    instant_lacks b c is fails found none =
        by_instants (holds w).documents (holds_document site v) (has_nulls w) (holds_null v) (scalars_pass (holds w) site v) (tested b is ∙ fails) clear (rw (← nulls) (sym found ∙ none))
