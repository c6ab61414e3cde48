-- A scalar or a document that is due: where a reader fails at one that leaves its limits or isn't carried, and what is read of one.
use Rattle.std.proofs.Common.{◌≡◌, ℕ, suc, ◌+◌, List, length, Option, Some, None, true, Result, Ok, Err, IsErrOf, refl, sym, ◌∙◌, ap, subst, arith}
use Rattle.std.specs.Option.{option_map_or}
use Rattle.smithy_declarations.specs.declared.place.Place.{Place}
use Rattle.smithy_shapes.specs.declared.schema.Schema.{Schema}
use Rattle.smithy_schema.specs.declared.step.Step.TheVariants.{Member as ToMember}
use Rattle.smithy_declarations.specs.declared.place.Target.{Target}
use Rattle.smithy_declarations.specs.declared.place.Target.TheVariants.{Simple, Document, Declared}
use Rattle.smithy_declarations.specs.declared.shape_type.Scalar.{Scalar}
use Rattle.smithy_declarations.specs.declared.shape_type.Scalar.TheVariants as scalars
use Rattle.smithy_declarations.specs.declared.shape_type.ShapeType.{ShapeType}
use Rattle.smithy_declarations.specs.declared.shape_type.ShapeType.TheVariants as types
use Rattle.smithy_schema.specs.declared.error.SerdeError.{SerdeError}
use Rattle.smithy_declarations.specs.Table.{Table, Shape, structure, union, list, map, Kind, scalar, document, structure_of, union_of, list_of, map_of, nothing, kind_of, kind_of_shape, kind_of_target, shape_declared, type_of, scalar_type, place_in, scalar_place, document_place, is_document_target, IsDocument, IsInside}
use Rattle.smithy_shapes.specs.Site.{Site, site_of, kind_at}
use Rattle.smithy_declarations.specs.Value.{ScalarValue, Value, scalar_value}
use Rattle.smithy_schema.specs.Reading.{Cursor, ContainerKind, depth, Relations, Child, Steps, MatchStep, Reads, Conducts, failed_at}
use Rattle.smithy_shapes.specs.Lemmas.Kinds.{document_target_is}
use Rattle.smithy_schema.proofs.ReadContainers.{InContainer}
use Rattle.smithy_schema.proofs.ReadStructures.{site_told}

-- ---- where a reader fails

-- what a wire says of the bytes between two positions, at a place inside so many containers: of what leaves its limits, or
-- of what isn't carried
abbrev pub Lying : Type 1
Lying = List ℕ → Table → Place → ℕ → ℕ → ℕ → Type 0

-- such a thing stands where the reader is
abbrev pub StandsAs : Lying → Cursor → Table → Place → Type 0
StandsAs lies c t p = (e : ℕ) × lies c.input t p (depth c) c.at e

-- it does now, at a place as far inside of this one as the reader has gone
abbrev pub StandsInside : Lying → Cursor → Cursor → Table → Place → Type 0
StandsInside lies old new t p = (q : Place) × (k : ℕ) × (depth new ≡ depth old + k) × IsInside t p k q × StandsAs lies new t q

-- what stands inside of a child, for which the reader is one deeper, stands inside of the whole
pub inside_child : (lies : Lying) (w u : Relations) (max : ℕ) (s0 s s1 c : Cursor) (t : Table) (p q : Place) (k : ContainerKind) (worth : List Child → Option Value) (key : Option (List ℕ)) (n : Option ℕ)
    → InContainer w u max s0 s t p k worth → Steps w s s1 t p key → place_in (kind_of t p) n ≡ Some q → StandsInside lies s1 c t q → StandsInside lies s0 c t p
inside_child lies w u max s0 s s1 c t p q k worth key n inside steps is (r, m, gone, within, there) =
    let deeper : depth s1 ≡ suc (depth s0) = ap length (steps.outer ∙ inside.outer) in
    (r, suc m, omega (arith, gone, deeper), (q, n, is, within), there)

-- in a member
pub inside_member : (lies : Lying) (w u : Relations) (max : ℕ) (s0 s s1 c : Cursor) (o : Site) (m : Schema) (k : ContainerKind) (worth : List Child → Option Value)
    → InContainer w u max s0 s o.table o.place k worth → MatchStep (ToMember m) w s s1 o → StandsInside lies s1 c m.shapes.now m.place → StandsInside lies s0 c o.table o.place
inside_member lies w u max s0 s s1 c o m k worth inside step there =
    let told = site_told o step.1 (site_of m) step.4 in
    inside_child lies w u max s0 s s1 c o.table o.place m.place k worth (Some step.0) (Some step.1) inside step.2 told.1
    (subst (λ t. StandsInside lies s1 c t m.place) told.0 there)

-- ---- the place of a scalar

abbrev scalar_back : ShapeType → Option Scalar
scalar_back types.Boolean = Some scalars.Boolean
scalar_back types.Byte = Some scalars.Byte
scalar_back types.Short = Some scalars.Short
scalar_back types.Integer = Some scalars.Integer
scalar_back types.Long = Some scalars.Long
scalar_back types.String = Some scalars.String
scalar_back types.Blob = Some scalars.Blob
scalar_back types.BigInteger = Some scalars.BigInteger
scalar_back types.BigDecimal = Some scalars.BigDecimal
scalar_back types.Timestamp = Some scalars.Timestamp
scalar_back types.Document = None
scalar_back types.Structure = None
scalar_back types.Union = None
scalar_back types.List = None
scalar_back types.Map = None

abbrev back : Option ShapeType → Option Scalar
back (Some x) = scalar_back x
back None = None

back_is : (s : Scalar) → scalar_back (scalar_type s) ≡ Some s
back_is scalars.Boolean = refl
back_is scalars.Byte = refl
back_is scalars.Short = refl
back_is scalars.Integer = refl
back_is scalars.Long = refl
back_is scalars.String = refl
back_is scalars.Blob = refl
back_is scalars.BigInteger = refl
back_is scalars.BigDecimal = refl
back_is scalars.Timestamp = refl

shape_none : (o : Option Shape) → back (type_of (option_map_or kind_of_shape o nothing)) ≡ None
shape_none None = refl
shape_none (Some (structure members)) = refl
shape_none (Some (union members)) = refl
shape_none (Some (list l)) = refl
shape_none (Some (map m)) = refl

target_told : (t : Table) (x : Target) (s : Scalar) → Some (scalar_type s) ≡ type_of (kind_of_target t x) → x ≡ Simple s
target_told t (Simple r) s h =
    let same : Some s ≡ Some r = sym (back_is s) ∙ ap back h ∙ back_is r in
    cc
target_told t Document s h = let none : Some s ≡ None = sym (back_is s) ∙ ap back h in cc
target_told t (Declared r) s h =
    let none : Some s ≡ None = sym (back_is s) ∙ ap back h ∙ shape_none (shape_declared t r.0) in
    cc

-- what stands where the type is that of a scalar
pub place_told : (t : Table) (p : Place) (s : Scalar) → Some (scalar_type s) ≡ type_of (kind_of t p) → p ≡ scalar_place s p.time
place_told t p s h = ap (λ (x : Target). record { target = x; time = p.time }) (target_told t p.target s h)

-- ---- the place of a document

pub kind_of_document : (k : Kind) → Some types.Document ≡ type_of k → IsDocument k
kind_of_document document h = tt
kind_of_document (scalar s) h = absurd (let none : None ≡ Some s = ap back h ∙ back_is s in cc)
kind_of_document (structure_of members) h = cc
kind_of_document (union_of members) h = cc
kind_of_document (list_of l) h = cc
kind_of_document (map_of m) h = cc
kind_of_document nothing h = cc

document_target : (x : Target) → is_document_target x ≡ true → x ≡ Document
document_target (Simple s) h = cc
document_target Document h = refl
document_target (Declared r) h = cc

-- what stands where the type is that of documents
pub document_told : (t : Table) (p : Place) → Some types.Document ≡ type_of (kind_of t p) → p ≡ document_place p.time
document_told t p h =
    ap (λ (x : Target). record { target = x; time = p.time }) (document_target p.target (document_target_is t p.target (kind_of_document (kind_of t p) h)))

-- ---- what a read of one says

pub error_is : {B : Type 0} (e f : SerdeError) → IsErrOf {T = B} {E = SerdeError} (Err e) f → e ≡ f
error_is {B} e f h = let both : ◌≡◌ {A = Result B SerdeError} (Err e) (Err f) = h in cc

stays_as : {A : Type 0} (old new : Cursor) (r : Result A SerdeError) (f : SerdeError) → r ≡ Err f → Conducts old new r → new ≡ failed_at old
stays_as old new (Ok x) f is conduct = cc
stays_as old new (Err g) f is conduct = conduct.stays

-- a read of what is due fails where it stands, as what a refusal says of it
inside_here : {A B : Type 0} (lies : Lying) (old new : Cursor) (t : Table) (p q : Place) (result : Result A SerdeError) (e f : SerdeError)
    → p ≡ q → result ≡ Err e → Conducts old new result → (IsErrOf result f → StandsAs lies old t q)
    → IsErrOf {T = B} {E = SerdeError} (Err e) f → StandsInside lies old new t p
inside_here {A} {B} lies old new t p q result e f here is conduct told refused =
    let fails : ◌≡◌ {A = Result A SerdeError} result (Err f) = is ∙ ap Err (error_is {B = B} e f refused) in
    let stays : new ≡ failed_at old = stays_as old new result f fails conduct in
    let level : depth new ≡ depth old = ap depth stays in
    (q, 0, omega (arith, level), sym here, subst (λ c. StandsAs lies c t q) (sym stays) (told fails))

-- of a scalar
pub scalar_inside : {A B : Type 0} (lies : Lying) (old new : Cursor) (site : Site) (s : Scalar) (result : Result A SerdeError) (e f : SerdeError)
    → result ≡ Err e → Conducts old new result → (IsErrOf result f → StandsAs lies old site.table (scalar_place s site.place.time)) → Some (scalar_type s) ≡ type_of (kind_at site)
    → IsErrOf {T = B} {E = SerdeError} (Err e) f → StandsInside lies old new site.table site.place
scalar_inside lies old new site s result e f is conduct told kind =
    inside_here lies old new site.table site.place (scalar_place s site.place.time) result e f (place_told site.table site.place s kind) is conduct told

-- what is read of a scalar is the tree of it
pub scalar_read : (w : Relations) (old new : Cursor) (site : Site) (s : Scalar) (x y : ScalarValue) (v : Value) → Some (scalar_type s) ≡ type_of (kind_at site)
    → Reads w old new site.table (scalar_place s site.place.time) (scalar_value x) → x ≡ y → v ≡ scalar_value y → Reads w old new site.table site.place v
scalar_read w old new site s x y v kind reads same is =
    subst (λ (u : Value). Reads w old new site.table site.place u) (ap scalar_value same ∙ sym is)
    (subst (λ (p : Place). Reads w old new site.table p (scalar_value x)) (sym (place_told site.table site.place s kind)) reads)

-- what is read of a document is the tree of it
pub document_read : (w : Relations) (old new : Cursor) (site : Site) (u v : Value) → Some types.Document ≡ type_of (kind_at site)
    → Reads w old new site.table (document_place site.place.time) u → v ≡ u → Reads w old new site.table site.place v
document_read w old new site u v kind reads is =
    subst (λ (x : Value). Reads w old new site.table site.place x) (sym is)
    (subst (λ (p : Place). Reads w old new site.table p u) (sym (document_told site.table site.place kind)) reads)

-- a document fails where it stands
pub document_inside : {A B : Type 0} (lies : Lying) (old new : Cursor) (site : Site) (result : Result A SerdeError) (e f : SerdeError)
    → result ≡ Err e → Conducts old new result → (IsErrOf result f → StandsAs lies old site.table (document_place site.place.time)) → Some types.Document ≡ type_of (kind_at site)
    → IsErrOf {T = B} {E = SerdeError} (Err e) f → StandsInside lies old new site.table site.place
document_inside lies old new site result e f is conduct told kind =
    inside_here lies old new site.table site.place (document_place site.place.time) result e f (document_told site.table site.place kind) is conduct told
