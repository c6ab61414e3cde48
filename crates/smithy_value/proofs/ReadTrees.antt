-- What a read of a tree answers at each way out of a container, by what its calls say.
use Rattle.std.proofs.Common.{◌≡◌, ◌<◌, ℕ, List, [], Option, Some, None, Bool, true, false, Result, Ok, Err, IfOk, IfErr, IsErrAnd, sym, ◌∙◌, subst}
use Rattle.smithy_schema.specs.declared.error.SerdeError.{SerdeError}
use Rattle.smithy_schema.specs.declared.error.SerdeError.TheVariants.{NoMemory}
use Rattle.smithy_schema.specs.declared.read.ShapeDeserializer as deserializer
use Rattle.smithy_declarations.specs.Table.{IsContainer, IsList, IsMap, is_sparse}
use Rattle.smithy_declarations.specs.Value.{Value, MapEntries, no_map_entries}
use Rattle.smithy_shapes.specs.Site.{Site, kind_at}
use Rattle.smithy_schema.specs.Reading.{ContainerKind, in_list, in_map, Child, CountsOpeners, IsBelow, IsLawful, Leaves, Steps}
use Rattle.smithy_schema.specs.Containers.{Opens, GoesOnInList, GoesOnInMap}
use Rattle.smithy_schema.proofs.ReadLists.{list_value}
use Rattle.smithy_schema.proofs.ReadMaps.{map_value}
use Rattle.smithy_value.specs.Building.{IsMade, KeepsLawfully}
use Rattle.smithy_value.specs.ReadTree.{ReadsTree}
use Rattle.smithy_value.proofs.ReadAnswers.{ObeysLaws, obeyed, Reached, open_fails, memory_fails}
use Rattle.smithy_value.proofs.HalfRead.{HalfRead, goes_no_further, ends_whole}
use Rattle.smithy_value.proofs.HalfElements.{list_entered, map_entered}
use Rattle.smithy_value.proofs.Made.{made_shown, made_added, made_behind}

-- the wire of a reader obeys its laws under all settings
abbrev pub Obeys : {D : Type 0} → deserializer.Ghosts D → Type 0
Obeys d = (c : d.Settings) → ObeysLaws (d.reading c).wire (d.reading c).lifted (d.reading c).tells_without_limits

pub obeys : {D : Type 0} (d : deserializer.Ghosts D) → ((c : d.Settings) → IsLawful (d.reading c).wire) → ((c : d.Settings) → IsLawful (d.reading c).lifted) → ((c : d.Settings) → IsBelow (d.reading c).wire (d.reading c).lifted)
    → ((c : d.Settings) → (d.reading c).tells_without_limits → CountsOpeners (d.reading c).wire) → Obeys d
obeys d lawful lifted above counts c = obeyed (d.reading c).wire (d.reading c).lifted (d.reading c).tells_without_limits (lawful c) (lifted c) (above c) (counts c)

-- the container that was due at `old` is read up to `now`, by what held of the settings at `old`
abbrev pub HalfTree : {D : Type 0} → deserializer.Ghosts D → (old now : D) → Site → ContainerKind → (List Child → Option Value) → Type 0
HalfTree d old now site k worth =
    let r = d.reading (d.settings old) in
    HalfRead r.wire r.lifted r.tells_without_limits r.max_depth (d.state old) (d.state now) site.table site.place k worth

abbrev pub ReachedBy : {D : Type 0} → deserializer.Ghosts D → (old now : D) → Type 0
ReachedBy d old now = Reached (d.reading (d.settings old)).wire (d.reading (d.settings old)).tells_without_limits (d.state old) (d.state now)

-- how much is left to read in the innermost container, by these settings
abbrev pub left_by : {D : Type 0} → (d : deserializer.Ghosts D) → d.Settings → D → ℕ
left_by d c now = (d.reading c).wire.left (d.state now).input (d.state now).at (d.state now).inner.mark

-- after a step a child of the container is due
pub record DueIn {D : Type 0} (d : deserializer.Ghosts D) (old s mid : D) (site : Site) (k : ContainerKind) (worth : List Child → Option Value) (key : Option (List ℕ)) : Type 0 where
  pub same : d.settings mid ≡ d.settings old
  pub half : HalfTree d old s site k worth
  pub steps : Steps (d.reading (d.settings old)).wire (d.state s) (d.state mid) site.table site.place key

module _ {D P T : Type 0} {d : deserializer.Ghosts D} {keeps : P → P → Type 0} {stands : P → T → Type 0} {view : P → T → Value} where
  -- an error of a call is the answer
  pub returned : {old new : D} {p q : P} {site : Site} (result : Result T SerdeError) (e : SerdeError) → IsErrAnd result (λ x. x ≡ e)
      → ReadsTree d keeps stands view old new p q site (Err e) → ReadsTree d keeps stands view old new p q site result
  returned (Ok x) e is reads = absurd is
  returned {old} {new} {p} {q} {site} (Err x) e is reads = subst (λ (y : SerdeError). ReadsTree d keeps stands view old new p q site (Err y)) (sym is) reads

  -- memory ran out
  pub memory_out : {old new : D} {p q : P} {site : Site} {e : SerdeError} → d.settings new ≡ d.settings old → ReachedBy d old new → e ≡ NoMemory → ReadsTree d keeps stands view old new p q site (Err e)
  memory_out {old} {new} {p} {q} {site} {e} same reached is =
      let r = d.reading (d.settings old) in
      record {
        same = same;
        reads = memory_fails r.wire r.lifted r.tells_without_limits r.max_depth (view q) site (d.state old) (d.state new) e reached is;
        adds = tt;
      }

  -- the container can't be entered
  pub opening_fails : {old new : D} {p q : P} {site : Site} {within : ContainerKind} {e : SerdeError} → Obeys d → IsContainer (kind_at site) → (d.state old).due ≡ true
      → d.settings new ≡ d.settings old → Opens (d.reading (d.settings old)) (d.state old) (d.state new) site within (Err e) → ReadsTree d keeps stands view old new p q site (Err e)
  opening_fails {old} {new} {p} {q} {site} {within} {e} laws kind due same told =
      let r = d.reading (d.settings old) in
      let l = laws (d.settings old) in
      record {
        same = same;
        reads = open_fails r.wire r.lifted r.tells_without_limits r.max_depth {A = Unit {0}} {B = T} (view q) site (d.state old) (d.state new) e l.kept l.lifted kind due told.conduct told.narrow told.told told.refused told.none_without_limits told.deepest;
        adds = tt;
      }

  -- the container ends, and a tree is made of it
  pub ended : {old new : D} {p q : P} {site : Site} {k : ContainerKind} {worth : List Child → Option Value} {result : Result T SerdeError} (s : D) (v : Value) → Obeys d → HalfTree d old s site k worth → d.settings new ≡ d.settings old
      → Leaves (d.reading (d.settings old)).wire (d.state s) (d.state new) site.table site.place → worth [] ≡ Some v → IfOk result (IsMade keeps stands view p q v) → IfErr result (λ e. e ≡ NoMemory)
      → ReadsTree d keeps stands view old new p q site result
  ended {old} {new} {p} {q} {site} {k} {worth} {result} s v laws half same leaves folds made err =
      let r = d.reading (d.settings old) in
      record {
        same = same;
        reads = ends_whole r.wire r.lifted r.tells_without_limits r.max_depth (laws (d.settings old)) {B = T} (view q) site (d.state old) (d.state s) (d.state new) k worth v result half leaves folds (made_shown keeps stands view p q v result made) err;
        adds = made_added keeps stands view p q v result made;
      }

  -- a tree is made after another one, by which p had become q
  pub ended_behind : {sound : P → List ℕ → Type 0} {old new : D} {p q r : P} {site : Site} {k : ContainerKind} {worth : List Child → Option Value} {result : Result T SerdeError} (s : D) (v : Value) → Obeys d → KeepsLawfully sound keeps
      → HalfTree d old s site k worth → d.settings new ≡ d.settings old → Leaves (d.reading (d.settings old)).wire (d.state s) (d.state new) site.table site.place → worth [] ≡ Some v
      → keeps p q → IfOk result (IsMade keeps stands view q r v) → IfErr result (λ e. e ≡ NoMemory) → ReadsTree d keeps stands view old new p r site result
  ended_behind {sound} {old} {new} {p} {q} {r} {site} {k} {worth} {result} s v laws grows half same leaves folds before made err =
      let by = d.reading (d.settings old) in
      record {
        same = same;
        reads = ends_whole by.wire by.lifted by.tells_without_limits by.max_depth (laws (d.settings old)) {B = T} (view r) site (d.state old) (d.state s) (d.state new) k worth v result half leaves folds (made_shown keeps stands view q r v result made) err;
        adds = made_behind keeps stands view grows p q r v result before made;
      }

  -- ---- how a list and a map go on

  pub list_stays : {old new : D} {p q : P} {site : Site} {worth : List Child → Option Value} {e : SerdeError} (s : D) → Obeys d → IsList (kind_at site) → d.settings s ≡ d.settings old → HalfTree d old s site in_list worth
      → d.settings new ≡ d.settings s → GoesOnInList (d.reading (d.settings s)) (d.state s) (d.state new) (Err e) → ReadsTree d keeps stands view old new p q site (Err e)
  list_stays {old} {new} {p} {q} {site} {worth} {e} s laws kind same half stays there =
      let r = d.reading (d.settings old) in
      let told = subst (λ (c : d.Settings). GoesOnInList (d.reading c) (d.state s) (d.state new) (Err e)) same there in
      record {
        same = stays ∙ same;
        reads = goes_no_further r.wire r.lifted r.tells_without_limits r.max_depth (laws (d.settings old)) {A = Bool} {B = T} (view q) site (d.state old) (d.state s) (d.state new) in_list worth e half told.conduct told.narrow
            (λ is. absurd (told.shallow is)) (λ is. absurd (told.shallow is))
            (λ fault due. told.refused fault due site.table site.place kind)
            (λ strict invalid due. told.none_without_limits strict invalid due site.table site.place kind);
        adds = tt;
      }

  pub map_stays : {K : Type 0} {bytes : K → List ℕ} {old new : D} {p q : P} {site : Site} {worth : List Child → Option Value} {e : SerdeError} (s : D) → Obeys d → IsMap (kind_at site) → d.settings s ≡ d.settings old → HalfTree d old s site in_map worth
      → d.settings new ≡ d.settings s → GoesOnInMap {K = K} (d.reading (d.settings s)) bytes (d.state s) (d.state new) (Err e) → ReadsTree d keeps stands view old new p q site (Err e)
  map_stays {K} {bytes} {old} {new} {p} {q} {site} {worth} {e} s laws kind same half stays there =
      let r = d.reading (d.settings old) in
      let told = subst (λ (c : d.Settings). GoesOnInMap {K = K} (d.reading c) bytes (d.state s) (d.state new) (Err e)) same there in
      record {
        same = stays ∙ same;
        reads = goes_no_further r.wire r.lifted r.tells_without_limits r.max_depth (laws (d.settings old)) {A = Option K} {B = T} (view q) site (d.state old) (d.state s) (d.state new) in_map worth e half told.conduct told.narrow
            (λ is. absurd (told.shallow is)) (λ is. absurd (told.shallow is))
            (λ fault due. told.refused fault due site.table site.place kind)
            (λ strict invalid due. told.none_without_limits strict invalid due site.table site.place kind);
        adds = tt;
      }

module _ {D : Type 0} (d : deserializer.Ghosts D) (old s mid : D) (site : Site) {worth : List Child → Option Value} where
  -- another element comes
  pub element_due : {b : Bool} → IsList (kind_at site) → d.settings s ≡ d.settings old → HalfTree d old s site in_list worth → d.settings mid ≡ d.settings s
      → GoesOnInList (d.reading (d.settings s)) (d.state s) (d.state mid) (Ok b) → b ≡ true → DueIn d old s mid site in_list worth None
  element_due {b = true} kind same half stays told is =
      let here = subst (λ (c : d.Settings). GoesOnInList (d.reading c) (d.state s) (d.state mid) (Ok true)) same told in
      record { same = stays ∙ same; half = half; steps = here.ok half.kept.due site.table site.place kind }
  element_due {b = false} kind same half stays told is = cc

  -- another entry comes
  pub entry_due : {K : Type 0} {bytes : K → List ℕ} {next : Option K} (key : K) → IsMap (kind_at site) → d.settings s ≡ d.settings old → HalfTree d old s site in_map worth → d.settings mid ≡ d.settings s
      → GoesOnInMap {K = K} (d.reading (d.settings s)) bytes (d.state s) (d.state mid) (Ok next) → next ≡ Some key → DueIn d old s mid site in_map worth (Some (bytes key))
  entry_due {K} {bytes} {next} key kind same half stays told is =
      let here = subst (λ (c : d.Settings). GoesOnInMap {K = K} (d.reading c) bytes (d.state s) (d.state mid) (Ok next)) same told in
      let there = subst (λ (n : Option K). GoesOnInMap {K = K} (d.reading (d.settings old)) bytes (d.state s) (d.state mid) (Ok n)) is here in
      record { same = stays ∙ same; half = half; steps = there.ok half.kept.due site.table site.place kind }

  -- the list ends
  pub list_left : {b : Bool} → IsList (kind_at site) → d.settings s ≡ d.settings old → HalfTree d old s site in_list worth
      → GoesOnInList (d.reading (d.settings s)) (d.state s) (d.state mid) (Ok b) → b ≡ false → Leaves (d.reading (d.settings old)).wire (d.state s) (d.state mid) site.table site.place
  list_left {b = false} kind same half told is =
      let here = subst (λ (c : d.Settings). GoesOnInList (d.reading c) (d.state s) (d.state mid) (Ok false)) same told in
      here.ok half.kept.due site.table site.place kind
  list_left {b = true} kind same half told is = cc

  -- the map ends
  pub map_left : {K : Type 0} {bytes : K → List ℕ} {next : Option K} → IsMap (kind_at site) → d.settings s ≡ d.settings old → HalfTree d old s site in_map worth
      → GoesOnInMap {K = K} (d.reading (d.settings s)) bytes (d.state s) (d.state mid) (Ok next) → next ≡ None → Leaves (d.reading (d.settings old)).wire (d.state s) (d.state mid) site.table site.place
  map_left {K} {bytes} {next} kind same half told is =
      let here = subst (λ (c : d.Settings). GoesOnInMap {K = K} (d.reading c) bytes (d.state s) (d.state mid) (Ok next)) same told in
      let there = subst (λ (n : Option K). GoesOnInMap {K = K} (d.reading (d.settings old)) bytes (d.state s) (d.state mid) (Ok n)) is here in
      there.ok half.kept.due site.table site.place kind

module _ {D : Type 0} (d : deserializer.Ghosts D) (old s new : D) where
  -- less is left to read, by the settings that are there
  pub nearer_by : d.settings new ≡ d.settings old → d.settings s ≡ d.settings old → left_by d (d.settings old) new < left_by d (d.settings old) s → left_by d (d.settings new) new < left_by d (d.settings s) s
  nearer_by behind before less =
      subst (λ (c : d.Settings). left_by d c new < left_by d (d.settings s) s) (sym behind) (subst (λ (c : d.Settings). left_by d (d.settings old) new < left_by d c s) (sym before) less)

module _ {D : Type 0} (d : deserializer.Ghosts D) (old s : D) {site : Site} where
  -- a list was entered
  pub list_begun : {vs : List Value} {x : Unit {0}} → Obeys d → IsList (kind_at site) → Opens (d.reading (d.settings old)) (d.state old) (d.state s) site in_list (Ok x) → vs ≡ []
      → HalfTree d old s site in_list (list_value (is_sparse (kind_at site)) vs)
  list_begun {vs} {x} laws kind told none =
      let r = d.reading (d.settings old) in
      subst (λ (us : List Value). HalfTree d old s site in_list (list_value (is_sparse (kind_at site)) us)) (sym none)
      (list_entered r.wire r.lifted r.tells_without_limits r.max_depth (laws (d.settings old)) {A = Unit {0}} site (d.state old) (d.state s) x kind told.conduct told.ok)

  -- a map was entered
  pub map_begun : {es : MapEntries} {x : Unit {0}} → Obeys d → IsMap (kind_at site) → Opens (d.reading (d.settings old)) (d.state old) (d.state s) site in_map (Ok x) → es ≡ no_map_entries
      → HalfTree d old s site in_map (map_value (is_sparse (kind_at site)) es)
  map_begun {es} {x} laws kind told none =
      let r = d.reading (d.settings old) in
      subst (λ (fs : MapEntries). HalfTree d old s site in_map (map_value (is_sparse (kind_at site)) fs)) (sym none)
      (map_entered r.wire r.lifted r.tells_without_limits r.max_depth (laws (d.settings old)) {A = Unit {0}} site (d.state old) (d.state s) x kind told.conduct told.ok)
