-- The text of a path that is written in part.
use Rattle.std.proofs.Common.{◌≡◌, ◌<◌, ◌+◌, ℕ, List, [], ◌∷◌, ◌++◌, map as mapped, drop, get_or, length, Option, Some, option_and_then, refl, sym, append_assoc, append-nil, add-one, drop-cons}
use Rattle.smithy_shapes.specs.Site.{Site, shape_site}
use Rattle.smithy_declarations.specs.Table.{Table}
use Rattle.smithy_compare.specs.Tree.{Step}
use Rattle.smithy_compare.specs.PathText.{site_behind, step_text, steps_text, text_of_path}

-- what is written before the first step
pub begun : (table : Table) (root : ℕ) (path : List Step) (text : List ℕ) (site : Site) → text ≡ 36 ∷ [] → site ≡ shape_site table root
    → text_of_path table root path ≡ text ++ steps_text (Some site) path
begun table root path text site is at = rw (is, at) refl

-- one step more
pub step_written : {P : Type 0} (view : P → Step) (path : List P) (i : ℕ) (p : P) (site next : Option Site) (all text more : List ℕ) → i < length path → p ≡ get_or path i p
    → all ≡ text ++ steps_text site (mapped view (drop i path)) → next ≡ option_and_then (site_behind (view p)) site → more ≡ text ++ step_text next (view p)
    → all ≡ more ++ steps_text next (mapped view (drop (i + 1) path))
step_written view path i p site next all text more within is told behind written =
    let first : drop i path ≡ p ∷ drop (i + 1) path = rw (drop-cons path i p within, ← is, add-one) refl in
    let now = rw first at told in
    rw (written, append_assoc, behind) now

-- nothing is left
pub all_written : {P : Type 0} (view : P → Step) (rest : List P) (site : Option Site) (all text : List ℕ) → rest ≡ [] → all ≡ text ++ steps_text site (mapped view rest) → text ≡ all
all_written view rest site all text done told = sym (rw (done, append-nil) at told)
