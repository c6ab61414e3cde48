-- A union that is written in part.
use Rattle.std.proofs.Common.{◌≡◌, ℕ, [], ◌∷◌, true, false, Some, Ok, Err, ◌∙◌}
use Rattle.smithy_schema.specs.declared.error.SerdeError.{SerdeError}
use Rattle.smithy_declarations.specs.declared.place.Place.{Place}
use Rattle.smithy_declarations.specs.Table.{IsUnion, place_in}
use Rattle.smithy_shapes.specs.Site.{Site, kind_at, member_site, member_of}
use Rattle.smithy_shapes.specs.Fits.{FitsOr}
use Rattle.smithy_declarations.specs.Value.{Value, union}
use Rattle.smithy_schema.specs.Writing.{Writer, write, run, events, begin_structure, end_structure}
use Rattle.smithy_shapes.specs.Lemmas.Kinds.{union_kind}
use Rattle.smithy_shapes.proofs.SiteLemmas.{variant_site_at, variant_fit}
use Rattle.smithy_schema.proofs.WritingLemmas.{call_made, child_written, child_refused}
use Rattle.smithy_schema.proofs.WrittenLists.{fits_or_null}
use Rattle.smithy_value.proofs.Structures.{member_site_is}

-- the value was written, and the union's end comes
pub variant_written : {S : Type 0} (after : Writer S) (site : Site) (n : ℕ) (v : Value) (s s1 s2 : S)
    → after (begin_structure site) s ≡ Ok s1 → write after (member_of site n) v s1 ≡ Ok s2
    → write after site (union n v) s ≡ run after (end_structure ∷ []) s2
variant_written after site n v s s1 s2 begun written =
    call_made after _ _ s s1 begun ∙ child_written after (events (member_of site n) v) (end_structure ∷ []) s1 s2 written

pub variant_refused : {S : Type 0} (after : Writer S) (site : Site) (n : ℕ) (v : Value) (s s1 : S) (e : SerdeError)
    → after (begin_structure site) s ≡ Ok s1 → write after (member_of site n) v s1 ≡ Err e → write after site (union n v) s ≡ Err e
variant_refused after site n v s s1 e begun refused =
    call_made after _ _ s s1 begun ∙ child_refused after (events (member_of site n) v) (end_structure ∷ []) s1 e refused

-- the value fits its place
pub variant_fits : (site member : Site) (n : ℕ) (v : Value) → IsUnion (kind_at site) → Some member ≡ member_site site n
    → (inner : Place) × (place_in (kind_at site) (Some n) ≡ Some inner) × FitsOr site.table inner false v → FitsOr member.table member.place true v
variant_fits site member n v is found fits =
    let k = union_kind (kind_at site) is in
    let m = variant_fit site.table k.0 n v (rw k.1 at fits) in
    rw (member_site_is site n member found, variant_site_at site.table site.place site.view k.0 n m.0 k.1 m.1) (fits_or_null _ _ _ _ m.2)
