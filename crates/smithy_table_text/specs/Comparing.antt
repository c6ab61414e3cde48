-- Whether declarations are the same.
use Rattle.std.specs.Prelude.{ℕ, List, Bool, true, false, not, ◌&&◌, Option, Some, None, if◌then◌else◌, bytes_eq}
use Rattle.std.specs.Cmp.Lexicographic.{pointwise}
use Rattle.smithy_declarations.specs.Decl.{MemberDecl, ListDecl, MapDecl, Form, structure, union, list, map, Decl}

abbrev pub same_option : Option (List ℕ) → Option (List ℕ) → Bool
same_option (Some text) (Some other) = bytes_eq text other
same_option (Some text) None = false
same_option None (Some other) = false
same_option None None = true

abbrev pub same_flag : Bool → Bool → Bool
same_flag flag other = if flag then other else not other

abbrev pub same_member : MemberDecl → MemberDecl → Bool
same_member a b =
    bytes_eq a.name b.name && bytes_eq a.target b.target && same_option a.json b.json && same_option a.xml b.xml
    && same_flag a.is_flat b.is_flat && same_option a.time b.time

abbrev pub same_list : ListDecl → ListDecl → Bool
same_list a b = bytes_eq a.target b.target && same_flag a.is_sparse b.is_sparse && same_option a.xml b.xml && same_option a.time b.time

abbrev pub same_map : MapDecl → MapDecl → Bool
same_map a b =
    bytes_eq a.target b.target && same_flag a.is_sparse b.is_sparse && same_option a.key b.key && same_option a.value b.value
    && same_option a.time b.time

abbrev pub same_members : List MemberDecl → List MemberDecl → Bool
same_members = pointwise same_member

abbrev pub same_form : Form → Form → Bool
same_form (structure members) (structure others) = same_members members others
same_form (union members) (union others) = same_members members others
same_form (list l) (list other) = same_list l other
same_form (map m) (map other) = same_map m other
same_form _ _ = false

abbrev pub same_decl : Decl → Decl → Bool
same_decl a b = bytes_eq a.name b.name && same_form a.form b.form
