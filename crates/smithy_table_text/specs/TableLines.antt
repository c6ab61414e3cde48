-- The lines of a table, as declarations are written.
use Rattle.std.specs.Prelude.{ℕ, List, ◌++◌, [], Bool, Option, flat_map, if◌then◌else◌, codes}
use Rattle.std.specs.Option.{option_map_or}
use Rattle.smithy_declarations.specs.Decl.{MemberDecl, ListDecl, MapDecl, Form, structure, union, list, map, Decl}

-- an option and its text, where one is given
abbrev pub option_text : List ℕ → Option (List ℕ) → List ℕ
option_text word given = option_map_or (λ text. word ++ text) given []

-- a flag, where it is set
abbrev pub flag_text : List ℕ → Bool → List ℕ
flag_text word is_set = if is_set then word else []

-- [json=J] [xml=X] [flat] [time=T]
abbrev pub member_options : MemberDecl → List ℕ
member_options m =
    option_text (codes " json=") m.json
    ++ (option_text (codes " xml=") m.xml ++ (flag_text (codes " flat") m.is_flat ++ option_text (codes " time=") m.time))

-- member NAME TARGET and its options
abbrev pub member_line : MemberDecl → List ℕ
member_line m = (codes "member " ++ m.name) ++ ((codes " " ++ m.target) ++ (member_options m ++ codes "\n"))

-- list NAME, and here TARGET [sparse] [xml=X] [time=T]
abbrev pub list_line : ListDecl → List ℕ
list_line l =
    (codes " " ++ l.target)
    ++ (flag_text (codes " sparse") l.is_sparse ++ (option_text (codes " xml=") l.xml ++ (option_text (codes " time=") l.time ++ codes "\n")))

-- map NAME, and here TARGET [sparse] [key=K] [value=V] [time=T]
abbrev pub map_line : MapDecl → List ℕ
map_line m =
    (codes " " ++ m.target)
    ++ (flag_text (codes " sparse") m.is_sparse
    ++ (option_text (codes " key=") m.key ++ (option_text (codes " value=") m.value ++ (option_text (codes " time=") m.time ++ codes "\n"))))

-- the line of a declaration, and those of its members behind it
abbrev pub form_lines : List ℕ → Form → List ℕ
form_lines name (structure members) = (codes "structure " ++ name) ++ (codes "\n" ++ flat_map member_line members)
form_lines name (union members) = (codes "union " ++ name) ++ (codes "\n" ++ flat_map member_line members)
form_lines name (list l) = (codes "list " ++ name) ++ list_line l
form_lines name (map m) = (codes "map " ++ name) ++ map_line m

abbrev pub decl_lines : Decl → List ℕ
decl_lines d = form_lines d.name d.form

-- the text of declarations
abbrev pub table_text : List Decl → List ℕ
table_text decls = flat_map decl_lines decls
