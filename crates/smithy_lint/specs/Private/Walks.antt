-- What a walk through a body says of its answer.
use Rattle.std.specs.Prelude.{◌≡◌, ◌<◌, ◌+◌, ◌||◌, not, ℕ, suc, Bool, true, false, List, [], ◌++◌, map as mapped, Option, Some, None, codes, bytes_eq}
use Rattle.std.specs.Cow.{cow_str_bytes}
use Rattle.smithy_types.specs.Document.{Document}
use Rattle.smithy_types.specs.declared.number.Number.{Number}
use Rattle.smithy_declarations.specs.declared.place.Place.{Place}
use Rattle.smithy_declarations.specs.declared.shape_type.Scalar.{Scalar}
use Rattle.smithy_declarations.specs.declared.shape_type.Scalar.TheVariants as scalars
use Rattle.smithy_declarations.specs.declared.shape_type.ShapeType.{ShapeType}
use Rattle.smithy_declarations.specs.declared.shape_type.ShapeType.TheVariants as types
use Rattle.smithy_declarations.specs.Table as tables
use Rattle.smithy_declarations.specs.Table.{Table}
use Rattle.smithy_wire.specs.declared.walk.Mark.{Mark}
use Rattle.smithy_wire.specs.Node.{Form, as_array, as_object, Node, container, Nodes, no_nodes, node, is_null}
use Rattle.smithy_wire.specs.Rules.{Answer, Rules, is_absent, is_mark}
use Rattle.smithy_shapes.specs.Site.{Site, kind_at}
use Rattle.smithy_compare.specs.Tree.{Step, member, element, key}
use Rattle.smithy_lint.specs.Findings.{Found, one, to, under, document_findings, item_findings, property_findings, unnamed, collected, child_findings, union_findings, variants, findings, entry_findings, findings_as_document}
use Rattle.smithy_lint.specs.View.{found_of as finding_view}
use Rattle.smithy_lint.specs.Private.Bodies.{Holding}
use Rattle.smithy_lint.specs.declared.body.Beginning.{Beginning}
use Rattle.smithy_lint.specs.declared.body.Beginning.TheVariants as begun
use Rattle.smithy_lint.specs.declared.finding.Kind.{Kind}
use Rattle.smithy_lint.specs.declared.linter.Label.{Label}
use Rattle.smithy_lint.specs.declared.linter.Label.TheVariants as labels
use Rattle.smithy_lint.specs.declared.linter.Linter.{Linter}
use Rattle.smithy_lint.specs.declared.scalars.Opened.{Opened}
use Rattle.smithy_lint.specs.declared.scalars.Opened.TheVariants.{Inside, Past}

abbrev pub label_step : Label → Step
label_step (labels.Member n) = member n
label_step (labels.Element i) = element i
label_step (labels.Key k) = key (cow_str_bytes k)

abbrev pub path_of : Linter → List Step
path_of l = mapped label_step l.path.items

abbrev pub found_of : Linter → List Found
found_of l = mapped finding_view l.findings.items

-- the walk stands where it stood, and has found these things more
abbrev pub Adds : Linter → Linter → List Found → Type 0
Adds old new found = (path_of new ≡ path_of old) × (found_of new ≡ found_of old ++ found)

-- what may have been found
abbrev pub told : List Step → Option Kind → List Found
told path None = []
told path (Some kind) = one path kind

-- past the value at an offset, with one finding
abbrev pub PassesWith : {L : Type 0} → Holding L → ℕ → ℕ → Kind → Linter → Linter → ℕ → Type 0
PassesWith {L = L} h depth at kind old new end =
    (x : Node L) (e : ℕ) → h.value depth x at e → (end ≡ e) × Adds old new (one (path_of old) kind)

-- the end of a null that is dropped
abbrev pub dropped_end : Beginning → Bool → Option ℕ
dropped_end (begun.Null e) false = Some e
dropped_end _ _ = None

-- past the value at an offset, whose key names no member, with what is found of such a one
abbrev pub PassesUnnamed : {L : Type 0} → Holding L → Rules L → ℕ → ℕ → Bool → Linter → Linter → ℕ → Type 0
PassesUnnamed {L = L} h r depth at is_mark old new end =
    (x : Node L) (e : ℕ) → h.value depth x at e → (end ≡ e) × Adds old new (unnamed r depth (path_of old) is_mark x)

-- the same under the text of the key
abbrev pub PassesUnder : {L : Type 0} → Holding L → Rules L → ℕ → ℕ → List ℕ → Linter → Linter → ℕ → Type 0
PassesUnder {L = L} h r depth at text old new end =
    (x : Node L) (e : ℕ) → h.value depth x at e
    → (end ≡ e) × Adds old new (unnamed r depth (to (path_of old) (key text)) (bytes_eq text (codes "__type")) x)

-- past the value at an offset, and the walk stands where it stood
abbrev pub Passes : {L : Type 0} → Holding L → ℕ → ℕ → Linter → Linter → ℕ → Type 0
Passes {L = L} h depth at old new end = (x : Node L) (e : ℕ) → h.value depth x at e → (end ≡ e) × (path_of new ≡ path_of old)

-- past the value at an offset, with all that is found in it at a place
abbrev pub Visits : {L : Type 0} → Holding L → Rules L → Table → Place → ℕ → ℕ → Linter → Linter → ℕ → Type 0
Visits {L = L} h r t p depth at old new end =
    (x : Node L) (e : ℕ) → h.value depth x at e → (end ≡ e) × Adds old new (findings r t p depth (path_of old) x)

-- past the value at an offset, with all that is found in it where a document is due
abbrev pub VisitsDocument : {L : Type 0} → Holding L → Rules L → ℕ → ℕ → Linter → Linter → ℕ → Type 0
VisitsDocument {L = L} h r depth at old new end =
    (x : Node L) (e : ℕ) → h.value depth x at e → (end ≡ e) × Adds old new (findings_as_document r r.documents depth (path_of old) x)

-- what is found in children, one after another, from an index on
abbrev pub in_all : {L : Type 0} → (ℕ → Option L → Node L → List Found) → ℕ → Nodes L → List Found
in_all each i no_nodes = []
in_all each i (node name x xs) = each i name x ++ in_all each (suc i) xs

-- past all children that lie from an offset on, with all that is found in them
abbrev pub VisitsAll : {L : Type 0} → Holding L → Form → ℕ → ℕ → Mark → (List Step → ℕ → Option L → Node L → List Found) → Linter → Linter → ℕ → Type 0
VisitsAll {L = L} h f depth at m each old new end =
    (xs : Nodes L) (e : ℕ) → h.rest f depth xs at m e → (end ≡ e) × Adds old new (in_all (each (path_of old)) 0 xs)

-- past the items of a document that lie from an offset on
abbrev pub VisitsItems : {L : Type 0} → Holding L → Rules L → ℕ → ℕ → Mark → Linter → Linter → ℕ → Type 0
VisitsItems {L = L} h r depth at m old new end =
    (says : L → Answer (Document Number)) → r.documents ≡ Some says → (xs : Nodes L) (e : ℕ) → h.rest as_array depth xs at m e
    → (end ≡ e) × Adds old new (item_findings r says depth (path_of old) 0 xs)

abbrev pub VisitsProperties : {L : Type 0} → Holding L → Rules L → ℕ → ℕ → Mark → Linter → Linter → ℕ → Type 0
VisitsProperties {L = L} h r depth at m old new end =
    (says : L → Answer (Document Number)) → r.documents ≡ Some says → (xs : Nodes L) (e : ℕ) → h.rest as_object depth xs at m e
    → (end ≡ e) × Adds old new (property_findings r says depth (path_of old) xs)

abbrev pub VisitsProperty : {L : Type 0} → Holding L → Rules L → ℕ → ℕ → ℕ → Linter → Linter → ℕ → Type 0
VisitsProperty {L = L} h r depth name at old new end =
    (says : L → Answer (Document Number)) → r.documents ≡ Some says → (k : L) → h.key k name → (x : Node L) (e : ℕ) → h.value depth x at e
    → (end ≡ e) × Adds old new (under (path_of old) (r.text_of k) (λ text. document_findings r says depth (to (path_of old) (key text)) x))

-- a walk through items stands where so many came, and these are left
abbrev pub HalfItems : {L : Type 0} → Holding L → Rules L → ℕ → ℕ → Mark → List Step → List Found → ℕ → ℕ → Mark → List Found → Type 0
HalfItems {L = L} h r depth at m path before i now n found =
    (says : L → Answer (Document Number)) → r.documents ≡ Some says → (xs : Nodes L) (e : ℕ) → h.rest as_array depth xs at m e
    → (ys : Nodes L) × h.rest as_array depth ys now n e
    × (found ++ item_findings r says depth path i ys ≡ before ++ item_findings r says depth path 0 xs)

abbrev pub HalfProperties : {L : Type 0} → Holding L → Rules L → ℕ → ℕ → Mark → List Step → List Found → ℕ → Mark → List Found → Type 0
HalfProperties {L = L} h r depth at m path before now n found =
    (says : L → Answer (Document Number)) → r.documents ≡ Some says → (xs : Nodes L) (e : ℕ) → h.rest as_object depth xs at m e
    → (ys : Nodes L) × h.rest as_object depth ys now n e
    × (found ++ property_findings r says depth path ys ≡ before ++ property_findings r says depth path xs)

-- ---- where a table says what is due

-- the scalar of a type that is one
abbrev pub scalar_kind : ShapeType → Option Scalar
scalar_kind types.Boolean = Some scalars.Boolean
scalar_kind types.Byte = Some scalars.Byte
scalar_kind types.Short = Some scalars.Short
scalar_kind types.Integer = Some scalars.Integer
scalar_kind types.Long = Some scalars.Long
scalar_kind types.String = Some scalars.String
scalar_kind types.Blob = Some scalars.Blob
scalar_kind types.Timestamp = Some scalars.Timestamp
scalar_kind types.BigInteger = Some scalars.BigInteger
scalar_kind types.BigDecimal = Some scalars.BigDecimal
scalar_kind _ = None

-- a list is an array, and every other container an object
abbrev pub form_of : Bool → Form
form_of true = as_array
form_of false = as_object

-- the kind is that of a list, or of another container
abbrev pub IsContainerOf : tables.Kind → Bool → Type 0
IsContainerOf (tables.list_of l) true = Unit {0}
IsContainerOf (tables.map_of m) false = Unit {0}
IsContainerOf (tables.structure_of ms) false = Unit {0}
IsContainerOf (tables.union_of ms) false = Unit {0}
IsContainerOf _ _ = ⊥

-- past the value at an offset, with one finding
abbrev pub IsPast : {L : Type 0} → Holding L → ℕ → ℕ → Kind → Linter → Linter → Opened → Type 0
IsPast h depth at kind old new (Past end) = PassesWith h depth at kind old new end
IsPast h depth at kind old new (Inside b m) = ⊥

-- the container opens inside of fewer than 128, and nothing was found yet; or all that is found in the value was
abbrev pub IsOpened : {L : Type 0} → Holding L → Rules L → Table → Place → Bool → ℕ → ℕ → Linter → Linter → Opened → Type 0
IsOpened h r t p is_list depth at old new (Past end) = Visits h r t p depth at old new end
IsOpened {L = L} h r t p is_list depth at old new (Inside b m) =
    (depth < 128) × (new ≡ old)
    × ((x : Node L) (e : ℕ) → h.value depth x at e
    → (xs : Nodes L) × (x ≡ container (form_of is_list) xs) × h.rest (form_of is_list) (suc depth) xs b m e)

-- past an element of a list or a value of a map, with all that is found in it
abbrev pub VisitsCollected : {L : Type 0} → Holding L → Rules L → Site → ℕ → ℕ → Linter → Linter → ℕ → Type 0
VisitsCollected {L = L} h r site depth at old new end =
    (q : Place) → tables.place_in (kind_at site) None ≡ Some q → (x : Node L) (e : ℕ) → h.value depth x at e
    → (end ≡ e) × Adds old new (collected site.table (kind_at site) (is_null x) (path_of old) (λ p inner. findings r site.table p depth inner x) q)

-- past all children that lie from an offset on
abbrev pub VisitsEntries : {L : Type 0} → Holding L → Rules L → Table → Place → Form → ℕ → ℕ → Mark → Linter → Linter → ℕ → Type 0
VisitsEntries {L = L} h r t p f depth at m old new end =
    (xs : Nodes L) (e : ℕ) → h.rest f depth xs at m e → (end ≡ e) × Adds old new (entry_findings r t p f depth (path_of old) 0 xs)

-- past all entries of a structure or a union, with what a union as a whole is told
abbrev pub VisitsMembers : {L : Type 0} → Holding L → Rules L → Table → Place → ℕ → ℕ → Mark → Linter → Linter → ℕ → Type 0
VisitsMembers {L = L} h r t p depth at m old new end =
    (xs : Nodes L) (e : ℕ) → h.rest as_object depth xs at m e
    → (end ≡ e) × Adds old new
    (entry_findings r t p as_object depth (path_of old) 0 xs
    ++ union_findings (tables.kind_of t p) (path_of old) (variants r (tables.kind_of t p) as_object xs))

-- past one entry of an object: its index is nothing to it
abbrev pub VisitsEntry : {L : Type 0} → Holding L → Rules L → Site → ℕ → ℕ → ℕ → Linter → Linter → ℕ → Type 0
VisitsEntry {L = L} h r site depth name at old new end =
    (i : ℕ) (k : L) → h.key k name → (x : Node L) (e : ℕ) → h.value depth x at e
    → (end ≡ e)
    × Adds old new (child_findings r site.table (kind_at site) depth (path_of old) i (r.text_of k) x (λ q inner. findings r site.table q depth inner x))

-- the site is that of a member, at a position
abbrev pub IsMemberSite : Site → Type 0
IsMemberSite site = (n : ℕ) × (site.view.index ≡ Some n)

-- past the value of a member, with all that is found in it
abbrev pub VisitsMember : {L : Type 0} → Holding L → Rules L → Site → ℕ → ℕ → Linter → Linter → ℕ → Type 0
VisitsMember {L = L} h r site depth at old new end =
    (n : ℕ) → site.view.index ≡ Some n → (x : Node L) (e : ℕ) → h.value depth x at e
    → (end ≡ e) × Adds old new (findings r site.table site.place depth (to (path_of old) (member n)) x)

-- whether an entry is neither dropped nor a mark
abbrev pub IsVariantEntry : {L : Type 0} → Holding L → Rules L → tables.Kind → ℕ → ℕ → ℕ → Bool → Type 0
IsVariantEntry {L = L} h r kind depth name at counts =
    (k : L) → h.key k name → (x : Node L) (e : ℕ) → h.value depth x at e
    → counts ≡ not (is_absent r kind (r.text_of k) x || is_mark r kind (r.text_of k))

-- a walk through the children of a container stands where so many came, and these are left
abbrev pub HalfEntries : {L : Type 0} → Holding L → Rules L → Table → Place → Form → ℕ → ℕ → Mark → List Step → List Found → ℕ → ℕ → Mark → List Found → Type 0
HalfEntries {L = L} h r t p f depth at m path before i now n found =
    (xs : Nodes L) (e : ℕ) → h.rest f depth xs at m e
    → (ys : Nodes L) × h.rest f depth ys now n e
    × (found ++ entry_findings r t p f depth path i ys ≡ before ++ entry_findings r t p f depth path 0 xs)

-- the same of an object, whose entries have no index, with how many variants came
abbrev pub HalfMembers : {L : Type 0} → Holding L → Rules L → Table → Place → ℕ → ℕ → Mark → List Step → List Found → ℕ → ℕ → Mark → List Found → Type 0
HalfMembers {L = L} h r t p depth at m path before came now n found =
    (xs : Nodes L) (e : ℕ) → h.rest as_object depth xs at m e
    → (i : ℕ) × (ys : Nodes L) × h.rest as_object depth ys now n e
    × (found ++ entry_findings r t p as_object depth path i ys ≡ before ++ entry_findings r t p as_object depth path 0 xs)
    × (came + variants r (tables.kind_of t p) as_object ys ≡ variants r (tables.kind_of t p) as_object xs)

abbrev pub HalfMap : {L : Type 0} → Holding L → Rules L → Table → Place → ℕ → ℕ → Mark → List Step → List Found → ℕ → Mark → List Found → Type 0
HalfMap {L = L} h r t p depth at m path before now n found =
    (xs : Nodes L) (e : ℕ) → h.rest as_object depth xs at m e
    → (i : ℕ) × (ys : Nodes L) × h.rest as_object depth ys now n e
    × (found ++ entry_findings r t p as_object depth path i ys ≡ before ++ entry_findings r t p as_object depth path 0 xs)
