-- What a reader tells, the relations of a wire, the laws that they obey, and what a call does.
use Rattle.std.specs.Prelude.{◌≡◌, ◌⊎◌, ◌↔◌, ◌<◌, ◌≤◌, ◌&&◌, ℕ, suc, ◌+◌, length, drop, List, [], ◌∷◌, map, Option, Some, None, Bool, true, false, option_and_then, Result, IsErrOf, OnErr, IfOk, IfErr}
use Rattle.smithy_types.specs.Document.{Document, whole_document}
use Rattle.smithy_types.specs.DocumentView.{document_view}
use Rattle.smithy_types.specs.declared.number.Number.{Number}
use Rattle.smithy_types.specs.declared.document.Document as kept_document
use Rattle.smithy_declarations.specs.declared.place.Place.{Place}
use Rattle.smithy_declarations.specs.declared.shape_type.Scalar.{Scalar}
use Rattle.smithy_schema.specs.declared.step.Step.{Step}
use Rattle.smithy_schema.specs.declared.step.Step.TheVariants.{Member as ToMember, Unknown, End}
use Rattle.smithy_schema.specs.declared.error.SerdeError.{SerdeError}
use Rattle.smithy_schema.specs.declared.error.SerdeError.TheVariants.{TypeMismatch, TooDeep, TooWide, NotCarried, Failed, NoMemory}
use Rattle.smithy_schema.specs.Errors.{IsOfReader, IsRefused, IsInvalid, IsNoAnswer, TellsType}
use Rattle.smithy_declarations.specs.Table.{Table, kind_of, place_in, scalar_place, document_place, IsStructure, IsContainer, IsInside, IsSparse, IsDocument}
use Rattle.smithy_declarations.specs.Value.{ScalarValue, Value, scalar_value, document_value}
use Rattle.smithy_shapes.specs.Fits.{Fits}
use Rattle.smithy_schema.specs.Nodes.{nodes}
use Rattle.smithy_shapes.specs.Container.{Entry, container_of}
use Rattle.smithy_shapes.specs.Site.{Site, site_of, member_site}

-- ---- what a reader tells

-- what a reader keeps of an open container
pub record Mark : Type 0 where
  -- an entry has come, where the bytes that follow depend on that
  pub entered : Bool
  -- the container was opened at the end of the input
  pub at_end : Bool
  -- how many entries are still due, where that was declared
  pub due : Option ℕ

pub data ContainerKind : Type 0 where
  outside : ContainerKind
  -- in a structure or in a union
  in_structure : ContainerKind
  in_list : ContainerKind
  in_map : ContainerKind

pub record Frame : Type 0 where
  pub within : ContainerKind
  pub mark : Mark

-- `inner` is the innermost open container, and outside of all a frame that is `outside`
pub record Cursor : Type 0 where
  pub input : List ℕ
  pub at : ℕ
  pub inner : Frame
  pub outer : List Frame
  -- a value is due
  pub due : Bool
  pub failed : Bool

-- how many containers are open
abbrev pub depth : Cursor → ℕ
depth c = length c.outer

-- ---- the relations of a wire, under some settings

-- A place goes with its table. Numbers are depths (of open containers) and positions in the input.
pub record Relations : Type 1 where
  -- a container may open inside so many others
  pub allows : ℕ → Type 0
  -- the position of the member that a key names
  pub position : Table → Place → List ℕ → Option ℕ
  -- from a to e stands a value of the place, a null, something that is skipped
  pub stands : List ℕ → Table → Place → ℕ → ℕ → Value → ℕ → Type 0
  -- from a to e stands this document, each number in its variant, wherever one is due
  pub documents : List ℕ → ℕ → ℕ → Document Number → ℕ → Type 0
  pub nulls : List ℕ → ℕ → ℕ → ℕ → Type 0
  pub skips : List ℕ → ℕ → ℕ → ℕ → Type 0
  -- from a to e stands a big number of the place's kind that leaves the limits of the kind
  pub exceeds : List ℕ → Table → Place → ℕ → ℕ → ℕ → Type 0
  -- from a to e stands what the place's kind can't carry; of a document, e ends a part that no document carries
  pub uncarried : List ℕ → Table → Place → ℕ → ℕ → ℕ → Type 0
  -- what comes at a is of another type than the place wants
  pub mismatches : List ℕ → Table → Place → ℕ → Bool
  -- a container of the place begins at a, and its inside at b with a mark
  pub opens : List ℕ → Table → Place → ℕ → ℕ → ℕ → Mark → Type 0
  -- from b on with a mark the next entry that isn't dropped has a key, or none in a list, and its
  -- value is due at c, with another mark
  pub steps : List ℕ → Table → Place → ℕ → ℕ → Mark → Option (List ℕ) → ℕ → Mark → Type 0
  -- from b on with a mark only dropped entries are left, and the container ends at e
  pub closes : List ℕ → Table → Place → ℕ → ℕ → Mark → ℕ → Type 0
  -- how much is left to read in a container
  pub left : List ℕ → ℕ → Mark → ℕ
  -- the value that begins here is a null, if it is anything
  pub begins_null : List ℕ → ℕ → Bool
  -- how many containers are open at once, at most, by these bytes alone
  pub openers : List ℕ → ℕ
  -- the greatest depth holds too for what is skipped, and for the parts of a document, and not only for what is opened
  pub limits_skips : Bool

-- what a reader meets behind a step, with the step's key
pub data Child : Type 0 where
  child_value : Option (List ℕ) → Option ℕ → Value → Child
  child_null : Option (List ℕ) → Child
  child_unknown : Option (List ℕ) → Child

abbrev pub entry_of : Child → Entry
entry_of (child_value key n v) = record {
  key = key;
  position = n;
  meaning = Some v;
  is_absent = false;
  is_skippable = false;
  is_null = false;
}
entry_of (child_null key) = record {
  key = key;
  position = None;
  meaning = None;
  is_absent = false;
  is_skippable = false;
  is_null = true;
}
entry_of (child_unknown key) = record {
  key = key;
  position = None;
  meaning = None;
  is_absent = false;
  is_skippable = true;
  is_null = false;
}

-- the position that a key names, if there is a key
abbrev pub named : Relations → Table → Place → Option (List ℕ) → Option ℕ
named w t p key = option_and_then (w.position t p) key

-- From c to f is this child, behind a step with the key: only a structure has entries that name no member. A null of a sparse
-- list or map is no value.
abbrev pub IsChild : Relations → List ℕ → Table → Place → ℕ → Option (List ℕ) → Child → ℕ → ℕ → Type 0
IsChild w i t p d key (child_value k n v) c f =
    (k ≡ key) × (n ≡ named w t p key)
    × ((q : Place) × (place_in (kind_of t p) n ≡ Some q) × w.stands i t q d c v f)
    × (IsSparse (kind_of t p) → w.begins_null i c ≡ false)
IsChild w i t p d key (child_null k) c f = (k ≡ key) × IsSparse (kind_of t p) × w.nulls i d c f
IsChild w i t p d key (child_unknown k) c f =
    (k ≡ key) × IsStructure (kind_of t p) × (named w t p key ≡ None) × w.skips i d c f

-- from b on with a mark these children come, and then the container ends at e
abbrev pub Chain : Relations → List ℕ → Table → Place → ℕ → ℕ → Mark → List Child → ℕ → Type 0
Chain w i t p d b m [] e = w.closes i t p d b m e
Chain w i t p d b m (x ∷ xs) e =
    (key : Option (List ℕ)) × (c : ℕ) × (n : Mark) × (f : ℕ) × w.steps i t p d b m key c n
    × IsChild w i t p d key x c f × Chain w i t p d f n xs e

-- from a to e is a container whose entries mean v together
pub record Contains (w : Relations) (i : List ℕ) (t : Table) (p : Place) (d a : ℕ) (v : Value) (e : ℕ) : Type 0 where
  pub inside : ℕ
  pub mark : Mark
  pub children : List Child
  pub allowed : w.allows d
  pub opens : w.opens i t p d a inside mark
  pub chain : Chain w i t p (suc d) inside mark children e
  pub means : container_of (kind_of t p) (map entry_of children) ≡ Some v

-- ---- laws

-- what is due at c is passed at e: e lies past it, or both are the input's end, where a structure may be missing
abbrev pub IsBehind : List ℕ → ℕ → ℕ → Type 0
IsBehind i c e = ((c < e) ⊎ ((c ≡ e) × (e ≡ length i))) × (e ≤ length i)

-- The slice from a to e has a byte for each of `count` values. Where e is the input's end, one of them may have none: a structure that
-- is missing there.
abbrev pub HaveBytes : List ℕ → ℕ → ℕ → ℕ → Type 0
HaveBytes i a e count = (a + count ≤ e) ⊎ ((a + count ≤ suc e) × (e ≡ length i))

-- what each wire proves of its relations, under all settings, with the limits kept and lifted
pub record IsLawful (w : Relations) : Type 0 where
  -- a container stands for v exactly where its entries mean v together
  pub folded : (i : List ℕ) (t : Table) (p : Place) (d a : ℕ) (v : Value) (e : ℕ) → IsContainer (kind_of t p)
      → Contains w i t p d a v e → w.stands i t p d a v e
  pub unfolded : (i : List ℕ) (t : Table) (p : Place) (d a : ℕ) (v : Value) (e : ℕ) → IsContainer (kind_of t p)
      → w.stands i t p d a v e → Contains w i t p d a v e
  -- a value and its end are determined
  pub same_value : (i : List ℕ) (t : Table) (p : Place) (d a : ℕ) (v u : Value) (e f : ℕ)
      → w.stands i t p d a v e → w.stands i t p d a u f → v ≡ u
  pub same_end : (i : List ℕ) (t : Table) (p : Place) (d a : ℕ) (v u : Value) (e f : ℕ)
      → w.stands i t p d a v e → w.stands i t p d a u f → e ≡ f
  -- an end is past its start, but for a structure that is read at the end of the input, and in the input
  pub stands_ahead : (i : List ℕ) (t : Table) (p : Place) (d a : ℕ) (v : Value) (e : ℕ)
      → w.stands i t p d a v e → (a < e) ⊎ ((a ≡ e) × (e ≡ length i) × IsStructure (kind_of t p))
  pub stands_within : (i : List ℕ) (t : Table) (p : Place) (d a : ℕ) (v : Value) (e : ℕ)
      → w.stands i t p d a v e → (a ≤ e) × (e ≤ length i)
  -- an inside is past its start, but for a structure that is read at the end of the input
  pub opens_ahead : (i : List ℕ) (t : Table) (p : Place) (d a b : ℕ) (m : Mark)
      → w.opens i t p d a b m → (a < b) ⊎ ((a ≡ b) × (b ≡ length i) × IsStructure (kind_of t p))
  pub nulls_within : (i : List ℕ) (d a e : ℕ) → w.nulls i d a e → (a < e) × (e ≤ length i)
  pub skips_within : (i : List ℕ) (d a e : ℕ) → w.skips i d a e → (a < e) × (e ≤ length i)
  -- a step with its child leaves less to read
  pub nearer : (i : List ℕ) (t : Table) (p : Place) (d b : ℕ) (m : Mark) (key : Option (List ℕ)) (c : ℕ) (n : Mark) (x : Child) (f : ℕ)
      → w.steps i t p d b m key c n → IsChild w i t p d key x c f → w.left i f n < w.left i b m
  -- a step with whatever is passed behind it leaves less to read, and so does what is skipped; a step alone leaves no more
  pub falls : (i : List ℕ) (t : Table) (p : Place) (d b : ℕ) (m : Mark) (key : Option (List ℕ)) (c : ℕ) (n : Mark) (f : ℕ)
      → w.steps i t p d b m key c n → IsBehind i c f → w.left i f n < w.left i b m
  pub step_falls : (i : List ℕ) (t : Table) (p : Place) (d b : ℕ) (m : Mark) (key : Option (List ℕ)) (c : ℕ) (n : Mark)
      → w.steps i t p d b m key c n → w.left i c n ≤ w.left i b m
  pub skip_falls : (i : List ℕ) (d a e : ℕ) (m : Mark) → w.skips i d a e → w.left i e m < w.left i a m
  -- an entry takes a byte: the first one that of its container's opening, any other one a byte after the entry before it
  pub first_takes : (i : List ℕ) (t : Table) (p : Place) (d e a b : ℕ) (m : Mark) (key : Option (List ℕ)) (c : ℕ) (n : Mark)
      → w.opens i t p d a b m → w.steps i t p e b m key c n → (a < b) × (b ≤ length i)
  pub next_takes : (i : List ℕ) (t : Table) (p : Place) (d e b f : ℕ) (m : Mark) (key key' : Option (List ℕ)) (c g : ℕ) (n o : Mark)
      → w.steps i t p d b m key c n → w.steps i t p e f n key' g o → f < length i
  pub step_ahead : (i : List ℕ) (t : Table) (p : Place) (d b : ℕ) (m : Mark) (key : Option (List ℕ)) (c : ℕ) (n : Mark)
      → w.steps i t p d b m key c n → b ≤ c
  -- the smaller relations are determined, and a step and a close exclude one another
  pub same_opening : (i : List ℕ) (t : Table) (p : Place) (d a b c : ℕ) (m n : Mark)
      → w.opens i t p d a b m → w.opens i t p d a c n → (b ≡ c) × (m ≡ n)
  pub same_step : (i : List ℕ) (t : Table) (p : Place) (d b : ℕ) (m : Mark) (key key' : Option (List ℕ)) (c c' : ℕ) (n n' : Mark)
      → w.steps i t p d b m key c n → w.steps i t p d b m key' c' n' → (key ≡ key') × (c ≡ c') × (n ≡ n')
  pub same_close : (i : List ℕ) (t : Table) (p : Place) (d b : ℕ) (m : Mark) (e f : ℕ)
      → w.closes i t p d b m e → w.closes i t p d b m f → e ≡ f
  pub step_or_close : (i : List ℕ) (t : Table) (p : Place) (d b : ℕ) (m : Mark) (key : Option (List ℕ)) (c : ℕ) (n : Mark) (e : ℕ)
      → w.steps i t p d b m key c n → w.closes i t p d b m e → ⊥
  pub same_null : (i : List ℕ) (d a e f : ℕ) → w.nulls i d a e → w.nulls i d a f → e ≡ f
  pub same_skip : (i : List ℕ) (d a e f : ℕ) → w.skips i d a e → w.skips i d a f → e ≡ f
  -- a null is told by how it begins
  pub null_begins : (i : List ℕ) (d a e : ℕ) → w.nulls i d a e → w.begins_null i a ≡ true
  -- where a null begins no value stands, unless a document is due
  pub value_begins : (i : List ℕ) (t : Table) (p : Place) (d a : ℕ) (v : Value) (e : ℕ)
      → w.stands i t p d a v e → IsDocument (kind_of t p) ⊎ (w.begins_null i a ≡ false)
  -- an empty input opens and ends a structure at position 0
  pub empty_structure : (t : Table) (p : Place) (d : ℕ) → IsStructure (kind_of t p)
      → (m : Mark) × w.opens [] t p d 0 0 m × w.closes [] t p (suc d) 0 m 0

-- with the limits kept: what stands is a value of its place, and its slice has a byte for each value in it
pub record StandsFit (w : Relations) : Type 0 where
  pub fits : (i : List ℕ) (t : Table) (p : Place) (d a : ℕ) (v : Value) (e : ℕ) → w.stands i t p d a v e → Fits t p v
  pub counted : (i : List ℕ) (t : Table) (p : Place) (d a : ℕ) (v : Value) (e : ℕ) → w.stands i t p d a v e → HaveBytes i a e (nodes v)

-- under the settings of bodies that are read whole: how many containers are open at once
pub record CountsOpeners (w : Relations) : Type 0 where
  -- a container that opens adds one to those that are open at most from there on
  pub opening_adds : (i : List ℕ) (t : Table) (p : Place) (d a b : ℕ) (m : Mark) → 0 < length i
      → w.opens i t p d a b m → suc (w.openers (drop b i)) ≤ w.openers (drop a i)
  -- a container that ends takes at most one from those that are open at most from there on
  pub close_takes_one : (i : List ℕ) (t : Table) (p : Place) (d b : ℕ) (m : Mark) (e : ℕ)
      → w.closes i t p d b m e → w.openers (drop e i) ≤ suc (w.openers (drop b i))
  -- a step takes none away, nor does a value, a null or what is skipped
  pub step_takes_none : (i : List ℕ) (t : Table) (p : Place) (d b : ℕ) (m : Mark) (key : Option (List ℕ)) (c : ℕ) (n : Mark)
      → w.steps i t p d b m key c n → w.openers (drop c i) ≤ w.openers (drop b i)
  pub value_takes_none : (i : List ℕ) (t : Table) (p : Place) (d a : ℕ) (v : Value) (e : ℕ)
      → w.stands i t p d a v e → w.openers (drop e i) ≤ w.openers (drop a i)
  pub null_takes_none : (i : List ℕ) (d a e : ℕ) → w.nulls i d a e → w.openers (drop e i) ≤ w.openers (drop a i)
  pub skip_takes_none : (i : List ℕ) (d a e : ℕ) → w.skips i d a e → w.openers (drop e i) ≤ w.openers (drop a i)

-- what holds of one reading holds of another: with its limits kept, and with them lifted
pub record IsBelow (w u : Relations) : Type 0 where
  pub position : (t : Table) (p : Place) (key : List ℕ) → w.position t p key ≡ u.position t p key
  pub begins_null : (i : List ℕ) (a : ℕ) → w.begins_null i a ≡ u.begins_null i a
  pub allows : (d : ℕ) → w.allows d → u.allows d
  pub stands : (i : List ℕ) (t : Table) (p : Place) (d a : ℕ) (v : Value) (e : ℕ)
      → w.stands i t p d a v e → u.stands i t p d a v e
  pub nulls : (i : List ℕ) (d a e : ℕ) → w.nulls i d a e → u.nulls i d a e
  pub skips : (i : List ℕ) (d a e : ℕ) → w.skips i d a e → u.skips i d a e
  pub opens : (i : List ℕ) (t : Table) (p : Place) (d a b : ℕ) (m : Mark)
      → w.opens i t p d a b m → u.opens i t p d a b m
  pub steps : (i : List ℕ) (t : Table) (p : Place) (d b : ℕ) (m : Mark) (key : Option (List ℕ)) (c : ℕ) (n : Mark)
      → w.steps i t p d b m key c n → u.steps i t p d b m key c n
  pub closes : (i : List ℕ) (t : Table) (p : Place) (d b : ℕ) (m : Mark) (e : ℕ)
      → w.closes i t p d b m e → u.closes i t p d b m e

-- ---- what a call does

-- What the calls of a reader are told by, under some settings.
pub record Reader : Type 1 where
  -- the relations of the wire: what stands, opens, goes on and ends where in an input
  pub wire : Relations
  -- those with the limits lifted on depth, on the size of numbers and on what is carried
  pub lifted : Relations
  -- a refusal by `InvalidInput` or `TypeMismatch` says that nothing of the kind is there with the limits lifted either
  pub tells_without_limits : Type 0
  -- how many containers may be open at once
  pub max_depth : ℕ

abbrev pub reader : Relations → Relations → Type 0 → ℕ → Reader
reader w u strict max = record { wire = w; lifted = u; tells_without_limits = strict; max_depth = max }

-- the cursor after a refusal: it stays where it is, and has failed
abbrev pub failed_at : Cursor → Cursor
failed_at c = record c { failed = true }

-- What every call keeps to, whatever it answers.
pub record Conducts {A : Type 0} (old new : Cursor) (result : Result A SerdeError) : Type 0 where
  -- `Failed` comes exactly after a failure
  pub failed : IsErrOf result Failed ↔ (old.failed ≡ true)
  pub stays : OnErr result (new ≡ failed_at old)
  pub reading : IfErr result IsOfReader
  -- positions never fall, and never pass the end
  pub ahead : old.at ≤ new.at
  pub within : new.at ≤ length new.input

-- a value was read whole, or skipped: the open containers stay, and nothing is due
pub record Passes (old new : Cursor) : Type 0 where
  pub input : new.input ≡ old.input
  pub inner : new.inner ≡ old.inner
  pub outer : new.outer ≡ old.outer
  pub due : new.due ≡ false
  pub failed : new.failed ≡ false

-- a value of the place was read
pub record Reads (w : Relations) (old new : Cursor) (t : Table) (p : Place) (v : Value) : Type 0 where
  pub stands : w.stands old.input t p (depth old) old.at v new.at
  pub passes : Passes old new

-- no value of the place stands where the reader is
abbrev pub StandsNot : Relations → Cursor → Table → Place → Type 0
StandsNot w c t p = (v : Value) (e : ℕ) → w.stands c.input t p (depth c) c.at v e → ⊥

-- a big number that leaves the limits of the place's kind stands where the reader is
abbrev pub Exceeds : Relations → Cursor → Table → Place → Type 0
Exceeds w c t p = (e : ℕ) × w.exceeds c.input t p (depth c) c.at e

-- what the place's kind can't carry stands where the reader is
abbrev pub Uncarried : Relations → Cursor → Table → Place → Type 0
Uncarried w c t p = (e : ℕ) × w.uncarried c.input t p (depth c) c.at e

-- Where the reader is now, a big number stands that leaves the limits of the kind of a place q, which lies as many steps inside
-- of the place p as the reader has gone.
abbrev pub ExceedsInside : Relations → Cursor → Cursor → Table → Place → Type 0
ExceedsInside w old new t p = (q : Place) × (k : ℕ) × (depth new ≡ depth old + k) × IsInside t p k q × Exceeds w new t q

-- Where the reader is now, something stands that the kind of a place q can't carry, which lies as many steps inside of the place
-- p as the reader has gone.
abbrev pub UncarriedInside : Relations → Cursor → Cursor → Table → Place → Type 0
UncarriedInside w old new t p = (q : Place) × (k : ℕ) × (depth new ≡ depth old + k) × IsInside t p k q × Uncarried w new t q

-- the open containers, with those that the bytes from the position on may open at once, reach the greatest depth
abbrev pub ReachesDepth : Relations → ℕ → Cursor → Type 0
ReachesDepth w max c = max ≤ depth c + w.openers (drop c.at c.input)

-- As many containers are open as may be where one more is due, at a place as many steps inside of the place p as the reader has
-- gone; or the wire has a greatest depth for what no place of the table is entered for.
abbrev pub EndsTooDeep : Relations → ℕ → Cursor → Cursor → Table → Place → Type 0
EndsTooDeep w max old new t p =
    (w.limits_skips ≡ true)
    ⊎ ((q : Place) × (k : ℕ) × (depth new ≡ depth old + k) × IsInside t p k q × (depth new ≡ max) × IsContainer (kind_of t q))

-- What a read of one scalar kind says of its answer.
pub record ReadsScalar {A : Type 0} (r : Reader) (old new : Cursor) (site : Site) (s : Scalar) (value : A → ScalarValue) (result : Result A SerdeError) : Type 0 where
  pub conduct : Conducts old new result
  pub shallow : IsErrOf result TooDeep → ⊥
  pub wide : IsErrOf result TooWide → Exceeds r.wire old site.table (scalar_place s site.place.time)
  pub uncarried : IsErrOf result NotCarried → Uncarried r.wire old site.table (scalar_place s site.place.time)
  pub undue : old.due ≡ false → IsNoAnswer result
  pub told : old.due ≡ true → IfErr result (TellsType (r.wire.mismatches old.input site.table (scalar_place s site.place.time) old.at))
  pub ok : IfOk result (λ x. Reads r.wire old new site.table (scalar_place s site.place.time) (scalar_value (value x)))
  pub refused : IsRefused result → old.due ≡ true → StandsNot r.wire old site.table (scalar_place s site.place.time)
  pub none_without_limits : r.tells_without_limits → IsInvalid result → old.due ≡ true → StandsNot r.lifted old site.table (scalar_place s site.place.time)

-- What a read of a document says of its answer. It is too deep only where the wire limits the depth of documents, and the bytes from
-- there on reach the greatest one, as each part is counted.
pub record ReadsDocument (r : Reader) (old new : Cursor) (site : Site) (result : Result kept_document.Document SerdeError) : Type 0 where
  pub conduct : Conducts old new result
  pub deep : IsErrOf result TooDeep → ReachesDepth r.wire r.max_depth old
  pub limited : IsErrOf result TooDeep → r.wire.limits_skips ≡ true
  pub narrow : IsErrOf result TooWide → ⊥
  pub no_mismatch : IsErrOf result TypeMismatch → ⊥
  pub uncarried : IsErrOf result NotCarried → Uncarried r.wire old site.table (document_place site.place.time)
  pub undue : old.due ≡ false → IsNoAnswer result
  pub ok : IfOk result (λ x. Reads r.wire old new site.table (document_place site.place.time) (document_value (whole_document (document_view x))))
  pub variants : IfOk result (λ x. r.wire.documents old.input (depth old) old.at (document_view x) new.at)
  pub refused : IsRefused result → old.due ≡ true → StandsNot r.wire old site.table (document_place site.place.time)
  pub none_without_limits : r.tells_without_limits → IsInvalid result → old.due ≡ true → StandsNot r.lifted old site.table (document_place site.place.time)

-- A read of a big number answers `TooWide` wherever one stands that leaves its limits, want of memory aside.
abbrev pub AnswersWide : {A : Type 0} → Relations → Cursor → Site → Scalar → Result A SerdeError → Type 0
AnswersWide w old site s result =
    old.due ≡ true → old.failed ≡ false → Exceeds w old site.table (scalar_place s site.place.time)
    → IsErrOf result TooWide ⊎ IsErrOf result NoMemory

-- A read of a kind that can't carry all that is written like it answers `NotCarried` wherever such a thing stands, want of
-- memory aside.
abbrev pub AnswersUncarried : {A : Type 0} → Relations → Cursor → Site → Scalar → Result A SerdeError → Type 0
AnswersUncarried w old site s result =
    old.due ≡ true → old.failed ≡ false → Uncarried w old site.table (scalar_place s site.place.time)
    → IsErrOf result NotCarried ⊎ IsErrOf result NoMemory

abbrev pub OpensNot : Relations → Cursor → Table → Place → Type 0
OpensNot w c t p = (b : ℕ) (m : Mark) → w.opens c.input t p (depth c) c.at b m → ⊥

abbrev pub SkipsNot : Relations → Cursor → Type 0
SkipsNot w c = (e : ℕ) → w.skips c.input (depth c) c.at e → ⊥

abbrev pub NullsNot : Relations → Cursor → Type 0
NullsNot w c = (e : ℕ) → w.nulls c.input (depth c) c.at e → ⊥

-- In an input that isn't empty, the open containers, with those that the bytes from the position on may open at once, are no more
-- than the whole input may open at once.
abbrev pub IsCounted : Relations → Cursor → Type 0
IsCounted w c = 0 < length c.input → depth c + w.openers (drop c.at c.input) ≤ w.openers c.input

-- a value is due that begins as a null
abbrev pub null_is_due : Relations → Cursor → Bool
null_is_due w c = c.due && w.begins_null c.input c.at

-- a container was entered
pub record Enters (w : Relations) (max : ℕ) (old new : Cursor) (t : Table) (p : Place) (k : ContainerKind) : Type 0 where
  pub shallow : depth old < max
  pub allowed : w.allows (depth old)
  pub opens : w.opens old.input t p (depth old) old.at new.at new.inner.mark
  pub input : new.input ≡ old.input
  pub within : new.inner.within ≡ k
  pub outer : new.outer ≡ old.inner ∷ old.outer
  pub due : new.due ≡ false
  pub failed : new.failed ≡ false

-- the innermost container went on to an entry with this key
pub record Steps (w : Relations) (old new : Cursor) (t : Table) (p : Place) (key : Option (List ℕ)) : Type 0 where
  pub steps : w.steps old.input t p (depth old) old.at old.inner.mark key new.at new.inner.mark
  pub input : new.input ≡ old.input
  pub within : new.inner.within ≡ old.inner.within
  pub outer : new.outer ≡ old.outer
  pub due : new.due ≡ true
  pub failed : new.failed ≡ false

-- the innermost container was left
pub record Leaves (w : Relations) (old new : Cursor) (t : Table) (p : Place) : Type 0 where
  pub closes : w.closes old.input t p (depth old) old.at old.inner.mark new.at
  pub input : new.input ≡ old.input
  pub outer : old.outer ≡ new.inner ∷ new.outer
  pub due : new.due ≡ false
  pub failed : new.failed ≡ false

-- behind the reader's position neither another entry of the innermost container nor its end comes
abbrev pub CannotGoOn : Relations → Cursor → Table → Place → Type 0
CannotGoOn w c t p =
    ((key : Option (List ℕ)) (b : ℕ) (n : Mark) → w.steps c.input t p (depth c) c.at c.inner.mark key b n → ⊥)
    × ((e : ℕ) → w.closes c.input t p (depth c) c.at c.inner.mark e → ⊥)

-- the step goes on to a member, whose schema it has, or to an unknown entry, or leaves the structure or union
abbrev pub MatchStep : Step → Relations → Cursor → Cursor → Site → Type 0
MatchStep (ToMember s) w old new outer =
    (key : List ℕ) × (n : ℕ) × Steps w old new outer.table outer.place (Some key)
    × (w.position outer.table outer.place key ≡ Some n) × (member_site outer n ≡ Some (site_of s))
MatchStep Unknown w old new outer =
    (key : List ℕ) × Steps w old new outer.table outer.place (Some key)
    × (w.position outer.table outer.place key ≡ None)
MatchStep End w old new outer = Leaves w old new outer.table outer.place

-- the cursor behind a value that was due and is passed
abbrev pub passed_to : Cursor → ℕ → Cursor
passed_to c e = record c { at = e; due = false }
