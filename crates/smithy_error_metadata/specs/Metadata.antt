-- What an error answer says of its error.
use Rattle.std.specs.Prelude.{ℕ, List, [], map, Option, None, Bool, ◌&&◌, nat_eq, String, string_bytes}
use Rattle.std.specs.Ordering.{nat_cmp}
use Rattle.std.specs.declared.alloc.Global.{Global}
use Rattle.std.specs.BTreeMap.{BTreeMap, insert_entry, is_at}
use Rattle.std.specs.Cmp.Lexicographic.{slice_cmp, pointwise}
use Rattle.std.specs.Map.{lookup}
use Rattle.std.specs.Option.{option_map_or, option_eq}

pub record Metadata : Type 0 where
  pub code : Option (List ℕ)
  pub message : Option (List ℕ)
  -- further values by their names, in the order of the names' bytes
  pub extras : List (List ℕ × List ℕ)

-- an answer that says nothing
abbrev pub no_metadata : Metadata
no_metadata = record { code = None; message = None; extras = [] }

-- the value under a name
abbrev pub extra_under : List ℕ → List (List ℕ × List ℕ) → Option (List ℕ)
extra_under name extras = lookup (is_at (λ key. slice_cmp nat_cmp name key)) extras

-- these values with one under a name, in place of any before
abbrev pub with_extra : List ℕ → List ℕ → List (List ℕ × List ℕ) → List (List ℕ × List ℕ)
with_extra name value extras = insert_entry (slice_cmp nat_cmp) extras name value

-- names and values by their texts
abbrev pub texts_of : List (String Global × String Global) → List (List ℕ × List ℕ)
texts_of entries = map (λ e. (string_bytes e.0, string_bytes e.1)) entries

-- those of a map, if there is one
abbrev pub extras_of : Option (BTreeMap (String Global) (String Global)) → List (List ℕ × List ℕ)
extras_of extras = option_map_or (λ (m : BTreeMap (String Global) (String Global)). texts_of m.entries) extras []

-- ---- equal metadata

abbrev pub same_text : List ℕ → List ℕ → Bool
same_text = pointwise nat_eq

abbrev pub same_values : List (List ℕ × List ℕ) → List (List ℕ × List ℕ) → Bool
same_values = pointwise (λ a b. same_text a.0 b.0 && same_text a.1 b.1)

-- the same code, the same message, and the same further values: none is no map or an empty one
abbrev pub same_metadata : Metadata → Metadata → Bool
same_metadata a b =
    option_eq same_text a.code b.code && (option_eq same_text a.message b.message && same_values a.extras b.extras)
