-- What becomes of the members of a structure or a union, each declared or left out for a reason, and of whole shapes.
use Rattle.std.specs.Prelude.{◌≡◌, ◌⊎◌, ◌||◌, ℕ, List, [], ◌∷◌, ◌++◌, Bool, true, false, Option, None, Some, slice_get, flat_map, bytes_eq}
use Rattle.std.specs.List.{AllZip, list_any}
use Rattle.smithy_model.specs.Model as model
use Rattle.smithy_model.specs.Model.{Member, Kind, Shape, Model}
use Rattle.smithy_declarations.specs.Decl.{MemberDecl, Decl, structure, union, list, map}
use Rattle.smithy_declarations.specs.Acceptance.{json_name_of, query_name_of}
use Rattle.smithy_model_table.specs.Declaring.{Names, name_of, member_decl, list_decl, map_decl}
use Rattle.smithy_model_table.specs.Bindings.{Bindings, bindings_of, no_bindings}
use Rattle.smithy_model_table.specs.Leaving.{Reason, clash, reason_of}

-- what becomes of a member: its declaration, or its name and why it is left out
pub data Outcome : Type 0 where
  declared : MemberDecl → Outcome
  left_out : List ℕ → Reason → Outcome

-- its name in JSON or in a form is that of one of these
abbrev pub clashes : List MemberDecl → MemberDecl → Bool
clashes earlier d =
    list_any (λ e. bytes_eq (json_name_of e) (json_name_of d) || bytes_eq (query_name_of e) (query_name_of d)) earlier

-- what becomes of this member behind those that are declared before it
abbrev pub IsOutcome : Model → List Bool → Names → Bindings → List MemberDecl → Member → Outcome → Type 0
IsOutcome m marks names counting earlier member (declared d) =
    (reason_of m marks counting member ≡ None) × (d ≡ member_decl m names member) × (clashes earlier d ≡ false)
IsOutcome m marks names counting earlier member (left_out name reason) =
    (name ≡ member.name)
    × ((reason_of m marks counting member ≡ Some reason)
    ⊎ ((reason ≡ clash) × (reason_of m marks counting member ≡ None)
    × (clashes earlier (member_decl m names member) ≡ true)))

-- those that are declared, in order
abbrev pub declared_of : List Outcome → List MemberDecl
declared_of [] = []
declared_of (declared d ∷ outs) = d ∷ declared_of outs
declared_of (left_out name reason ∷ outs) = declared_of outs

-- what becomes of these members, one after the other, behind those that are declared before them
abbrev pub AreEach : Model → List Bool → Names → Bindings → List MemberDecl → List Member → List Outcome → Type 0
AreEach m marks names counting earlier [] outs = outs ≡ []
AreEach m marks names counting earlier (member ∷ members) outs =
    (o : Outcome) × (rest : List Outcome) × (outs ≡ o ∷ rest) × IsOutcome m marks names counting earlier member o
    × AreEach m marks names counting (earlier ++ declared_of (o ∷ [])) members rest

-- a member that is left out, with the id of its shape
pub record LeftOut : Type 0 where
  pub shape : List ℕ
  pub member : List ℕ
  pub reason : Reason

-- those that are left out, in order
abbrev pub left_of : List ℕ → List Outcome → List LeftOut
left_of shape [] = []
left_of shape (declared d ∷ outs) = left_of shape outs
left_of shape (left_out name reason ∷ outs) =
    record { shape = shape; member = name; reason = reason } ∷ left_of shape outs

-- each member of the shape is declared in its place, or left out and named: the declarations and those named
abbrev pub AreOutcomes : Model → List Bool → Names → Bindings → List ℕ → List Member → List MemberDecl → List LeftOut → Type 0
AreOutcomes m marks names counting shape members decls left =
    (outs : List Outcome) × AreEach m marks names counting [] members outs × (decls ≡ declared_of outs)
    × (left ≡ left_of shape outs)

-- what becomes of a shape: its declaration, if it has one, and the members that it leaves out
pub record Part : Type 0 where
  pub decls : List Decl
  pub left : List LeftOut

-- What becomes of the shape of this number and kind. A scalar, a document or a stream of events has no declaration.
abbrev pub IsPart : Model → List Bool → Names → ℕ → Shape → Kind → Part → Type 0
IsPart m marks names number s (model.structure members) part =
    (ds : List MemberDecl) × AreOutcomes m marks names (bindings_of m number) s.id members ds part.left
    × (part.decls ≡ record { name = name_of names number; form = structure ds } ∷ [])
IsPart m marks names number s (model.union members) part =
    (ds : List MemberDecl) × AreOutcomes m marks names no_bindings s.id members ds part.left
    × (part.decls ≡ record { name = name_of names number; form = union ds } ∷ [])
IsPart m marks names number s (model.list element) part =
    part ≡ record { decls = record { name = name_of names number; form = list (list_decl m names s element) } ∷ []; left = [] }
IsPart m marks names number s (model.map key value) part =
    part ≡ record { decls = record { name = name_of names number; form = map (map_decl m names s key value) } ∷ []; left = [] }
IsPart m marks names number s _ part = part ≡ record { decls = []; left = [] }

-- what becomes of the shape of a number: nothing where the model has none of it
abbrev pub IsPartOf : Model → List Bool → Names → ℕ → Option Shape → Part → Type 0
IsPartOf m marks names number None part = part ≡ record { decls = []; left = [] }
IsPartOf m marks names number (Some s) part = IsPart m marks names number s s.kind part

abbrev pub IsPartAt : Model → List Bool → Names → ℕ → Part → Type 0
IsPartAt m marks names number part = IsPartOf m marks names number (slice_get m.shapes number) part

-- the declarations of the shapes of these numbers, in this order, and all that they leave out
abbrev pub AreParts : Model → List Bool → Names → List ℕ → List Decl → List LeftOut → Type 0
AreParts m marks names order decls left =
    (parts : List Part) × AllZip (IsPartAt m marks names) order parts
    × (decls ≡ flat_map (λ (p : Part). p.decls) parts) × (left ≡ flat_map (λ (p : Part). p.left) parts)
