-- Where inside of a value another one is due, by the bytes, and what a read says of the type of what comes there.
use Rattle.std.specs.Prelude.{◌≡◌, ℕ, suc, List, Bool, true, false, Option, Some, None}
use Rattle.smithy_declarations.specs.declared.place.Place.{Place}
use Rattle.smithy_declarations.specs.Table.{Table, kind_of, place_in, HasMembers, IsUnion, IsSparse, IsDocument}
use Rattle.smithy_schema.specs.Reading.{Cursor, depth, Relations, Mark, Child, IsChild, named}

-- From b on with a mark, in a container of the place that is one of d, children came up to a with another mark: any, or none yet.
pub data Came (w : Relations) (i : List ℕ) (t : Table) (p : Place) (d b : ℕ) (m : Mark) : Bool → ℕ → Mark → Type 0 where
  none_yet : Came w i t p d b m false b m
  one_more : {any : Bool} {a c f : ℕ} {n o : Mark} (key : Option (List ℕ)) (x : Child) → Came w i t p d b m any a n → w.steps i t p d a n key c o → IsChild w i t p d key x c f → Came w i t p d b m true f o

-- A container of the place opens at a inside of d others, children come in it, any or none, and behind them it goes on at c to an
-- entry with this key.
pub record GoesOnAt (w : Relations) (i : List ℕ) (t : Table) (p : Place) (d a : ℕ) (any : Bool) (key : Option (List ℕ)) (c : ℕ) : Type 0 where
  pub inside : ℕ
  pub first : Mark
  pub end : ℕ
  pub last : Mark
  pub next : Mark
  pub opens : w.opens i t p d a inside first
  pub came : Came w i t p (suc d) inside first any end last
  pub steps : w.steps i t p (suc d) end last key c next

-- From a value of p that is due at a inside of d containers, the bytes lead to one of q, due at c inside of e: at once, or through the
-- entries of containers. No value is due where a null of a sparse list or map begins, nor at a second entry of a union.
pub data LeadsTo (w : Relations) (i : List ℕ) (t : Table) (q : Place) (e c : ℕ) : Place → ℕ → ℕ → Type 0 where
  at_once : LeadsTo w i t q e c q e c
  through : {p : Place} {d a : ℕ} (r : Place) (any : Bool) (key : Option (List ℕ)) (b : ℕ) → GoesOnAt w i t p d a any key b → (place_in (kind_of t p) (named w t p key) ≡ Some r)
      → (IsSparse (kind_of t p) → w.begins_null i b ≡ false) → (IsUnion (kind_of t p) → any ≡ false) → LeadsTo w i t q e c r (suc d) b → LeadsTo w i t q e c p d a

-- a value of a place is due at c, and what comes is of another type
abbrev pub IsOtherType : Relations → List ℕ → Table → Place → ℕ → ℕ → ℕ → ℕ → Type 0
IsOtherType w i t p d a e c = (q : Place) × LeadsTo w i t q e c p d a × (w.mismatches i t q c ≡ true)

-- What comes at c isn't of another type than a value that is due there:
pub data IsNoOtherType (w : Relations) (i : List ℕ) (t : Table) (p : Place) (d a : ℕ) : ℕ → ℕ → Type 0 where
  -- a value is due, and what comes begins as one does
  as_due : {e c : ℕ} (q : Place) → LeadsTo w i t q e c p d a → (w.mismatches i t q c ≡ false) → IsNoOtherType w i t p d a e c
  -- a document is due, which nothing is of another type than
  as_document : {e c : ℕ} (q : Place) → LeadsTo w i t q e c p d a → IsDocument (kind_of t q) → IsNoOtherType w i t p d a e c
  -- no value is due: in a sparse list or map a null begins
  as_null : {e c : ℕ} (q : Place) (b : ℕ) (any : Bool) (key : Option (List ℕ)) → LeadsTo w i t q e b p d a → GoesOnAt w i t q e b any key c → IsSparse (kind_of t q) → (w.begins_null i c ≡ true)
      → IsNoOtherType w i t p d a (suc e) c
  -- nor is one at an entry of a structure or a union whose key names no member
  as_unknown : {e c : ℕ} (q : Place) (b : ℕ) (any : Bool) (key : Option (List ℕ)) → LeadsTo w i t q e b p d a → GoesOnAt w i t q e b any key c → HasMembers (kind_of t q) → (named w t q key ≡ None)
      → IsNoOtherType w i t p d a (suc e) c
  -- nor at a second entry of a union
  as_second : {e c : ℕ} (q : Place) (b : ℕ) (key : Option (List ℕ)) → LeadsTo w i t q e b p d a → GoesOnAt w i t q e b true key c → IsUnion (kind_of t q)
      → IsNoOtherType w i t p d a (suc e) c

-- Where the reader is now, from a value of p that was due, a value is due, and what comes is of another type.
abbrev pub MismatchesInside : Relations → Cursor → Cursor → Table → Place → Type 0
MismatchesInside w old new t p = IsOtherType w old.input t p (depth old) old.at (depth new) new.at

-- Where the reader is now, from a value of p that was due, what comes isn't of another type than a value that is due there.
abbrev pub AgreesInside : Relations → Cursor → Cursor → Table → Place → Type 0
AgreesInside w old new t p = IsNoOtherType w old.input t p (depth old) old.at (depth new) new.at
