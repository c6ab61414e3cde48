-- A structure that is written in part.
use Rattle.std.proofs.Common.{arith, ◌≡◌, ◌≤◌, suc, max, ℕ, List, [], ◌∷◌, ◌++◌, true, Some, Ok, Err, ◌∙◌, ap, append_assoc}
use Rattle.std.specs.Prelude.{unwrap_or}
use Rattle.std.proofs.Math.Nat.{le-max_left, le-max_right}
use Rattle.smithy_schema.specs.declared.error.SerdeError.{SerdeError}
use Rattle.smithy_declarations.specs.Table.{IsStructure}
use Rattle.smithy_shapes.specs.Site.{Site, kind_at, member_site, member_of}
use Rattle.smithy_shapes.specs.Fits.{FitsOr, MembersFit}
use Rattle.smithy_declarations.specs.Value.{Value, structure, MemberValues, no_member_values, member_value, nesting, members_nesting}
use Rattle.smithy_schema.specs.Writing.{Event, Writer, write, run, member_events, begin_structure, end_structure}
use Rattle.smithy_schema.proofs.WrittenLists.{fits_or_null}
use Rattle.smithy_shapes.specs.Lemmas.Kinds.{structure_kind}
use Rattle.smithy_shapes.proofs.SiteLemmas.{member_site_at, member_fit}
use Rattle.smithy_schema.proofs.WritingLemmas.{call_made, child_written, child_refused}

-- the calls for what is left of a structure
abbrev pub structure_rest : Site → MemberValues → List Event
structure_rest site ms = member_events site ms ++ end_structure ∷ []

pub structure_begun : {S : Type 0} (after : Writer S) (site : Site) (ms : MemberValues) (s t : S)
    → after (begin_structure site) s ≡ Ok t
    → write after site (structure ms) s ≡ run after (structure_rest site ms) t
structure_begun after site ms s t begun = call_made after _ _ s t begun

-- the schema that is handed to a member
pub member_site_is : (site : Site) (n : ℕ) (member : Site) → Some member ≡ member_site site n → member ≡ member_of site n
member_site_is site n member found = ap (λ m. unwrap_or m site) found

pub member_written : {S : Type 0} (after : Writer S) (site : Site) (n : ℕ) (v : Value) (ms rest : MemberValues) (s t : S)
    → ms ≡ member_value n v rest → write after (member_of site n) v s ≡ Ok t → run after (structure_rest site ms) s ≡ run after (structure_rest site rest) t
member_written after site n v ms rest s t is written = rw (is, append_assoc) (child_written after _ _ s t written)

pub member_refused : {S : Type 0} (after : Writer S) (site : Site) (n : ℕ) (v : Value) (ms rest : MemberValues) (s : S) (e : SerdeError)
    → ms ≡ member_value n v rest → write after (member_of site n) v s ≡ Err e → run after (structure_rest site ms) s ≡ Err e
member_refused after site n v ms rest s e is refused = rw (is, append_assoc) (child_refused after _ _ s e refused)

pub rest_fits : (site : Site) (n : ℕ) (v : Value) (ms rest : MemberValues) → ms ≡ member_value n v rest
    → MembersFit site.table (kind_at site) ms → MembersFit site.table (kind_at site) rest
rest_fits site n v ms rest is fits = (rw is at fits).1

-- the next member, by what its value is at its root
pub next_member : (ms rest : MemberValues) (n : ℕ) (v w : Value) → ms ≡ member_value n v rest → v ≡ w → ms ≡ member_value n w rest
next_member ms rest n v w is seen = is ∙ ap (λ u. member_value n u rest) seen

-- how many members are left
abbrev pub count : MemberValues → ℕ
count no_member_values = 0
count (member_value n v ms) = suc (count ms)

-- the first of what is left nests no deeper than all
pub member_nests : (all ms : MemberValues) (n : ℕ) (v : Value) (rest : MemberValues) → ms ≡ member_value n v rest → members_nesting ms ≤ members_nesting all
    → (nesting v ≤ members_nesting all) × (members_nesting rest ≤ members_nesting all)
member_nests all ms n v rest next deep =
    let most : max (nesting v) (members_nesting rest) ≤ members_nesting all = rw next at deep in
    let left = le-max_left (nesting v) (members_nesting rest) in
    let right = le-max_right (nesting v) (members_nesting rest) in
    (omega (arith, left, most), omega (arith, right, most))

-- the next member fits its place
pub member_fits : (site member : Site) (n : ℕ) (v : Value) (ms rest : MemberValues) → IsStructure (kind_at site) → Some member ≡ member_site site n → ms ≡ member_value n v rest
    → MembersFit site.table (kind_at site) ms → FitsOr member.table member.place true v
member_fits site member n v ms rest is found next fits =
    let k = structure_kind (kind_at site) is in
    let first : MembersFit site.table (kind_at site) (member_value n v rest) = rw next at fits in
    let m = member_fit site.table k.0 n v rest (rw k.1 at first) in
    rw (member_site_is site n member found, member_site_at site.table site.place site.view k.0 n m.0 k.1 m.1) (fits_or_null _ _ _ _ m.2)
