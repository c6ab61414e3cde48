-- What a read of a structure or a union answers where a member of it was read, or was refused.
use Rattle.std.proofs.Common.{◌≡◌, ◌<◌, ℕ, List, Option, Some, None, true, false, Result, Ok, Err, refl, sym, ◌∙◌, ap, subst}
use Rattle.smithy_shapes.specs.declared.schema.Schema.{Schema}
use Rattle.smithy_schema.specs.declared.error.SerdeError.{SerdeError}
use Rattle.smithy_schema.specs.declared.error.SerdeError.TheVariants.{InvalidInput, NoMemory}
use Rattle.smithy_schema.specs.declared.read.ShapeDeserializer as deserializer
use Rattle.smithy_schema.specs.declared.step.Step.{Step}
use Rattle.smithy_schema.specs.declared.step.Step.TheVariants.{Member as ToMember, Unknown, End}
use Rattle.smithy_declarations.specs.Table.{IsStructure, IsUnion, HasMembers}
use Rattle.smithy_declarations.specs.Value.{Value, MemberValues, no_member_values, put_member, union}
use Rattle.smithy_shapes.specs.Site.{Site, site_of, kind_at}
use Rattle.smithy_schema.specs.Reading.{in_structure, Child, child_value, child_unknown, MatchStep, failed_at}
use Rattle.smithy_schema.specs.Containers.{Opens, GoesOnInStructure}
use Rattle.smithy_schema.specs.Passing.{SkipsValue}
use Rattle.smithy_schema.proofs.ReadContainers.{left_falls}
use Rattle.smithy_schema.proofs.ReadStructures.{structure_value, member_child}
use Rattle.smithy_schema.proofs.ReadUnions.{union_value}
use Rattle.smithy_value.specs.ReadTree.{ReadsTree, ReadsBy, ReadsUnder}
use Rattle.smithy_value.proofs.HalfMembers.{member_fails, structure_entered, member_passed, unknown_passed, unknown_fails, union_entered, variant_passed, no_variant_fails, second_variant_fails}
use Rattle.smithy_value.proofs.HalfRead.{goes_no_further, stepped_to, value_passed}
use Rattle.smithy_value.proofs.ReadTrees.{Obeys, HalfTree, left_by, nearer_by, memory_out}

-- the reader took this step in the structure or the union
pub record StepsTo {D : Type 0} (d : deserializer.Ghosts D) (old s mid : D) (site : Site) (step : Step) (worth : List Child → Option Value) : Type 0 where
  pub same : d.settings mid ≡ d.settings old
  pub half : HalfTree d old s site in_structure worth
  pub took : MatchStep step (d.reading (d.settings old)).wire (d.state s) (d.state mid) site

module _ {D : Type 0} (d : deserializer.Ghosts D) (old s : D) {site : Site} where
  -- a structure was entered
  pub structure_begun : {fs : MemberValues} {x : Unit {0}} → Obeys d → IsStructure (kind_at site) → Opens (d.reading (d.settings old)) (d.state old) (d.state s) site in_structure (Ok x) → fs ≡ no_member_values
      → HalfTree d old s site in_structure (structure_value fs)
  structure_begun {fs} {x} laws kind told none =
      let r = d.reading (d.settings old) in
      subst (λ (gs : MemberValues). HalfTree d old s site in_structure (structure_value gs)) (sym none)
      (structure_entered r.wire r.lifted r.tells_without_limits r.max_depth (laws (d.settings old)) {A = Unit {0}} site (d.state old) (d.state s) x kind told.conduct told.ok)

  -- a union was entered
  abbrev pub union_begun : {x : Unit {0}} → Obeys d → IsUnion (kind_at site) → Opens (d.reading (d.settings old)) (d.state old) (d.state s) site in_structure (Ok x) → HalfTree d old s site in_structure (union_value None)
  union_begun {x} laws kind told =
      let r = d.reading (d.settings old) in
      union_entered r.wire r.lifted r.tells_without_limits r.max_depth (laws (d.settings old)) {A = Unit {0}} site (d.state old) (d.state s) x kind told.conduct told.ok

module _ {D : Type 0} (d : deserializer.Ghosts D) (old s mid : D) {site : Site} where
  -- it goes on
  abbrev pub stepped : {worth : List Child → Option Value} {answer : Step} (step : Step) → d.settings s ≡ d.settings old → HalfTree d old s site in_structure worth → d.settings mid ≡ d.settings s
      → GoesOnInStructure (d.reading (d.settings s)) (d.state s) (d.state mid) site (Ok answer) → answer ≡ step → StepsTo d old s mid site step worth
  stepped {worth} {answer} step same half stays told is =
      let here = subst (λ (c : d.Settings). GoesOnInStructure (d.reading c) (d.state s) (d.state mid) site (Ok answer)) same told in
      record {
        same = stays ∙ same;
        half = half;
        took = subst (λ (x : Step). MatchStep x (d.reading (d.settings old)).wire (d.state s) (d.state mid) site) is (here.ok half.kept.due);
      }

-- what the read of a member says, by the settings that were there before
pub value_at : {D T : Type 0} (d : deserializer.Ghosts D) (old mid new : D) (child : Site) (view : T → Value) (result : Result T SerdeError) → d.settings mid ≡ d.settings old
    → ReadsBy d mid new child view result → ReadsUnder d (d.settings old) mid new child view result
value_at d old mid new child view result same reads = subst (λ (c : d.Settings). ReadsUnder d c mid new child view result) same reads

module _ {D P T : Type 0} {d : deserializer.Ghosts D} {keeps : P → P → Type 0} {stands : P → T → Type 0} {view : P → T → Value} where
  -- it can't go on
  pub structure_stays : {old new : D} {p q : P} {site : Site} {worth : List Child → Option Value} {e : SerdeError} (s : D) → Obeys d → d.settings s ≡ d.settings old → HalfTree d old s site in_structure worth
      → d.settings new ≡ d.settings s → GoesOnInStructure (d.reading (d.settings s)) (d.state s) (d.state new) site (Err e) → ReadsTree d keeps stands view old new p q site (Err e)
  structure_stays {old} {new} {p} {q} {site} {worth} {e} s laws same half stays there =
      let r = d.reading (d.settings old) in
      let told = subst (λ (c : d.Settings). GoesOnInStructure (d.reading c) (d.state s) (d.state new) site (Err e)) same there in
      record {
        same = stays ∙ same;
        reads = goes_no_further r.wire r.lifted r.tells_without_limits r.max_depth (laws (d.settings old)) {A = Step} {B = T} (view q) site (d.state old) (d.state s) (d.state new) in_structure worth e half
            told.conduct told.narrow told.deep told.limited told.refused told.none_without_limits;
        adds = tt;
      }

  -- the value of a member is refused
  pub member_stays : {old s mid new : D} {p p' q q' : P} {site : Site} {m : Schema} {worth : List Child → Option Value} {e : SerdeError} → Obeys d → HasMembers (kind_at site) → (due : StepsTo d old s mid site (ToMember m) worth)
      → (IsUnion (kind_at site) → due.half.came.any ≡ false) → ReadsTree d keeps stands view mid new p q (site_of m) (Err e) → ReadsTree d keeps stands view old new p' q' site (Err e)
  member_stays {old} {s} {mid} {new} {p} {p'} {q} {q'} {site} {m} {worth} {e} laws kind due variant tree =
      let r = d.reading (d.settings old) in
      record {
        same = tree.same ∙ due.same;
        reads = member_fails r.wire r.lifted r.tells_without_limits r.max_depth (laws (d.settings old)) {A = T} {B = T} (view q) (view q') site m (d.state old) (d.state s) (d.state mid) (d.state new) worth e kind due.half variant due.took
            (value_at d old mid new (site_of m) (view q) (Err e) due.same tree.reads);
        adds = tt;
      }

  -- memory runs out for it
  pub member_put_fails : {old s mid new : D} {p p' q q' : P} {site : Site} {m : Schema} {worth : List Child → Option Value} {x : T} {e : SerdeError} → Obeys d → StepsTo d old s mid site (ToMember m) worth
      → ReadsTree d keeps stands view mid new p q (site_of m) (Ok x) → e ≡ NoMemory → ReadsTree d keeps stands view old new p' q' site (Err e)
  member_put_fails {old} {s} {mid} {new} {p} {p'} {q} {q'} {site} {m} {worth} {x} {e} laws due tree is =
      let r = d.reading (d.settings old) in
      memory_out (tree.same ∙ due.same)
      (value_passed r.wire r.lifted r.tells_without_limits r.max_depth (laws (d.settings old)) {A = T} (view q) (site_of m) (d.state old) (d.state mid) (d.state new) x
      (stepped_to r.wire r.lifted r.tells_without_limits (laws (d.settings old)) (d.state old) (d.state s) (d.state mid) site.table site.place (Some due.took.0) due.half.reached due.took.2) (value_at d old mid new (site_of m) (view q) (Ok x) due.same tree.reads))
      is

  -- ---- structures

  -- a member is read, and was put at its position
  pub member_put : {old s mid new : D} {p q : P} {site : Site} {m : Schema} {fs gs hs : MemberValues} {n : ℕ} {x : T} → Obeys d → StepsTo d old s mid site (ToMember m) (structure_value fs) → Some n ≡ (site_of m).view.index
      → ReadsTree d keeps stands view mid new p q (site_of m) (Ok x) → gs ≡ fs → hs ≡ put_member n (view q x) gs → HalfTree d old new site in_structure (structure_value hs)
  member_put {old} {s} {mid} {new} {p} {q} {site} {m} {fs} {gs} {hs} {n} {x} laws due index tree kept put =
      let r = d.reading (d.settings old) in
      subst (λ (ms : MemberValues). HalfTree d old new site in_structure (structure_value ms)) (sym (put ∙ ap (put_member n (view q x)) kept))
      (member_passed r.wire r.lifted r.tells_without_limits r.max_depth (laws (d.settings old)) site m (d.state old) (d.state s) (d.state mid) (d.state new) fs n (view q x) due.half due.took (sym index) (value_at d old mid new (site_of m) (view q) (Ok x) due.same tree.reads).ok)

  pub member_nearer : {old s mid new : D} {p q : P} {site : Site} {m : Schema} {worth : List Child → Option Value} {n : ℕ} {x : T} → Obeys d → d.settings s ≡ d.settings old → StepsTo d old s mid site (ToMember m) worth → Some n ≡ (site_of m).view.index
      → ReadsTree d keeps stands view mid new p q (site_of m) (Ok x) → left_by d (d.settings new) new < left_by d (d.settings s) s
  member_nearer {old} {s} {mid} {new} {p} {q} {site} {m} {worth} {n} {x} laws same due index tree =
      let r = d.reading (d.settings old) in
      let reads = value_at d old mid new (site_of m) (view q) (Ok x) due.same tree.reads in
      nearer_by d old s new (tree.same ∙ due.same) same
      (left_falls r.wire r.wire r.max_depth (laws (d.settings old)).kept (d.state old) (d.state s) (d.state mid) (d.state new) site.table site.place in_structure worth (Some due.took.0) (child_value (Some due.took.0) (Some n) (view q x)) due.half.kept due.took.2
      (member_child r.wire (d.state s) (d.state mid) site m n (view q x) (d.state new).at due.took (sym index) reads.ok.stands) reads.ok.passes)

  -- an unknown entry can't be skipped
  pub unknown_stays : {old s mid new : D} {p q : P} {site : Site} {e : SerdeError} (fs : MemberValues) → Obeys d → IsStructure (kind_at site) → StepsTo d old s mid site Unknown (structure_value fs)
      → d.settings new ≡ d.settings mid → SkipsValue (d.reading (d.settings mid)) (d.state mid) (d.state new) (Err e) → ReadsTree d keeps stands view old new p q site (Err e)
  unknown_stays {old} {s} {mid} {new} {p} {q} {site} {e} fs laws kind due stays there =
      let r = d.reading (d.settings old) in
      let told = subst (λ (c : d.Settings). SkipsValue (d.reading c) (d.state mid) (d.state new) (Err e)) due.same there in
      record {
        same = stays ∙ due.same;
        reads = unknown_fails r.wire r.lifted r.tells_without_limits r.max_depth (laws (d.settings old)) {A = Unit {0}} {B = T} (view q) site (d.state old) (d.state s) (d.state mid) (d.state new) fs e kind due.half due.took
            told.conduct told.narrow told.deep told.limited told.refused told.none_without_limits;
        adds = tt;
      }

  -- ---- unions

  -- the value of the variant is read
  abbrev pub variant_put : {old s mid new : D} {p q : P} {site : Site} {m : Schema} {n : ℕ} {x : T} → Obeys d → StepsTo d old s mid site (ToMember m) (union_value None) → Some n ≡ (site_of m).view.index
      → ReadsTree d keeps stands view mid new p q (site_of m) (Ok x) → HalfTree d old new site in_structure (union_value (Some (union n (view q x))))
  variant_put {old} {s} {mid} {new} {p} {q} {site} {m} {n} {x} laws due index tree =
      let r = d.reading (d.settings old) in
      variant_passed r.wire r.lifted r.tells_without_limits r.max_depth (laws (d.settings old)) site m (d.state old) (d.state s) (d.state mid) (d.state new) n (view q x) due.half due.took (sym index) (value_at d old mid new (site_of m) (view q) (Ok x) due.same tree.reads).ok

  -- the first step goes to no member, and the reader is made to fail
  pub no_variant : {old s mid new : D} {p q : P} {site : Site} {step : Step} → Obeys d → IsUnion (kind_at site) → StepsTo d old s mid site step (union_value None) → ((m : Schema) → step ≡ ToMember m → ⊥)
      → d.settings new ≡ d.settings mid → d.state new ≡ failed_at (d.state mid) → ReadsTree d keeps stands view old new p q site (Err InvalidInput)
  no_variant {old} {s} {mid} {new} {p} {q} {site} {step} laws kind due other stays fails =
      let r = d.reading (d.settings old) in
      record {
        same = stays ∙ due.same;
        reads = no_variant_fails r.wire r.lifted r.tells_without_limits r.max_depth (laws (d.settings old)) {B = T} (view q) site (d.state old) (d.state s) (d.state mid) (d.state new) step other kind due.half due.took fails;
        adds = tt;
      }

  -- the second goes on
  pub second_variant : {old s mid new : D} {p q : P} {site : Site} {step : Step} (first : Value) → Obeys d → IsUnion (kind_at site) → (due : StepsTo d old s mid site step (union_value (Some first))) → due.half.came.any ≡ true → (step ≡ End → ⊥)
      → d.settings new ≡ d.settings mid → d.state new ≡ failed_at (d.state mid) → ReadsTree d keeps stands view old new p q site (Err InvalidInput)
  second_variant {old} {s} {mid} {new} {p} {q} {site} {step} first laws kind due came other stays fails =
      let r = d.reading (d.settings old) in
      record {
        same = stays ∙ due.same;
        reads = second_variant_fails r.wire r.lifted r.tells_without_limits r.max_depth (laws (d.settings old)) {B = T} (view q) site (d.state old) (d.state s) (d.state mid) (d.state new) first step other kind due.half came due.took fails;
        adds = tt;
      }

module _ {D : Type 0} {d : deserializer.Ghosts D} {old s mid : D} {site : Site} (new : D) where
  -- an unknown entry was skipped
  pub unknown_put : {x : Unit {0}} (fs : MemberValues) → Obeys d → IsStructure (kind_at site) → StepsTo d old s mid site Unknown (structure_value fs)
      → SkipsValue (d.reading (d.settings mid)) (d.state mid) (d.state new) (Ok x) → HalfTree d old new site in_structure (structure_value fs)
  unknown_put {x} fs laws kind due there =
      let r = d.reading (d.settings old) in
      let told = subst (λ (c : d.Settings). SkipsValue (d.reading c) (d.state mid) (d.state new) (Ok x)) due.same there in
      unknown_passed r.wire r.lifted r.tells_without_limits r.max_depth (laws (d.settings old)) site (d.state old) (d.state s) (d.state mid) (d.state new) fs kind due.half due.took told.ok told.passes

  pub unknown_nearer : {worth : List Child → Option Value} {x : Unit {0}} → Obeys d → IsStructure (kind_at site) → d.settings s ≡ d.settings old → StepsTo d old s mid site Unknown worth
      → d.settings new ≡ d.settings mid → SkipsValue (d.reading (d.settings mid)) (d.state mid) (d.state new) (Ok x) → left_by d (d.settings new) new < left_by d (d.settings s) s
  unknown_nearer {worth} {x} laws kind same due stays there =
      let r = d.reading (d.settings old) in
      let told = subst (λ (c : d.Settings). SkipsValue (d.reading c) (d.state mid) (d.state new) (Ok x)) due.same there in
      nearer_by d old s new (stays ∙ due.same) same
      (left_falls r.wire r.wire r.max_depth (laws (d.settings old)).kept (d.state old) (d.state s) (d.state mid) (d.state new) site.table site.place in_structure worth (Some due.took.0) (child_unknown (Some due.took.0)) due.half.kept due.took.1
      (refl, kind, due.took.2, told.ok) told.passes)
