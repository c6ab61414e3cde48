-- Which declarations are a table: the tests in their order, and the table.
use Rattle.std.specs.Prelude.{◌-◌, ◌==◌, ◌&&◌, ◌||◌, ℕ, nat_lt, List, [], ◌∷◌, length, take, map as list_map, find, position, Bool, false, not, Option, None, option_map, option_and_then, unwrap_or, codes, bytes_eq}
use Rattle.std.specs.List.{list_all, list_any, enumerate_from}
use Rattle.std.specs.Option.{option_map_or, option_or}
use Rattle.smithy_declarations.specs.declared.place.Place.{Place}
use Rattle.smithy_declarations.specs.declared.place.Target.{Target}
use Rattle.smithy_declarations.specs.declared.place.Target.TheVariants.{Declared}
use Rattle.smithy_declarations.specs.Table.{Member, Shape, Table, ListShape, MapShape}
use Rattle.smithy_declarations.specs.Names.{simple_targets, time_formats, named, is_simple_name, is_document_name, is_float_name, is_time_format, is_reserved, has_equal_texts, is_query_name}
use Rattle.smithy_declarations.specs.Decl.{PlaceWords, MemberDecl, ListDecl, MapDecl, Form, structure, union, list, map, Decl}
use Rattle.smithy_declarations.specs.TableText.{Lines, declarations, declarations_of}

-- ---- what a declaration names

-- some declaration has the name
abbrev pub is_declared : List Decl → List ℕ → Bool
is_declared decls name = list_any (λ (d : Decl). bytes_eq d.name name) decls

-- the members of a structure or a union
abbrev pub members_of : Form → List MemberDecl
members_of (structure ms) = ms
members_of (union ms) = ms
members_of _ = []

-- the places of a member, of a list's elements and of a map's values
abbrev pub place_of_member : MemberDecl → PlaceWords
place_of_member m = record { target = m.target; time = m.time }

abbrev pub place_of_elements : ListDecl → PlaceWords
place_of_elements l = record { target = l.target; time = l.time }

abbrev pub place_of_values : MapDecl → PlaceWords
place_of_values m = record { target = m.target; time = m.time }

-- all places, in order
abbrev pub places_of : Form → List PlaceWords
places_of (list l) = place_of_elements l ∷ []
places_of (map m) = place_of_values m ∷ []
places_of form = list_map place_of_member (members_of form)

-- the name of a member in JSON under `json-name`
abbrev pub json_name_of : MemberDecl → List ℕ
json_name_of m = unwrap_or m.json m.name

-- the name of a member in a form
abbrev pub query_name_of : MemberDecl → List ℕ
query_name_of m = unwrap_or m.xml m.name

-- the name of a list's elements in a form
abbrev pub element_name_of : ListDecl → List ℕ
element_name_of l = unwrap_or l.xml (codes "member")

-- the names of a map's keys and of its values in a form
abbrev pub key_name_of : MapDecl → List ℕ
key_name_of m = unwrap_or m.key (codes "key")

abbrev pub value_name_of : MapDecl → List ℕ
value_name_of m = unwrap_or m.value (codes "value")

-- all names that stand in the paths of a form
abbrev pub query_names_of : Form → List (List ℕ)
query_names_of (list l) = element_name_of l ∷ []
query_names_of (map m) = key_name_of m ∷ value_name_of m ∷ []
query_names_of form = list_map query_name_of (members_of form)

-- ---- the table

-- a scalar or a document, or the first declaration of that name
abbrev pub target_of : List Decl → List ℕ → Target
target_of decls name =
    unwrap_or (named simple_targets name)
    (Declared (record { 0 = unwrap_or (position (λ (d : Decl). bytes_eq d.name name) decls) 0 }))

-- the place that words name
abbrev pub place_of : List Decl → PlaceWords → Place
place_of decls p = record { target = target_of decls p.target; time = option_and_then (named time_formats) p.time }

-- a member of the table
abbrev pub member_of : List Decl → MemberDecl → Member
member_of decls m =
    record { name = m.name; json_name = m.json; xml_name = m.xml; is_flat = m.is_flat; place = place_of decls (place_of_member m) }

-- a list of the table
abbrev pub list_shape_of : List Decl → ListDecl → ListShape
list_shape_of decls l =
    record { place = place_of decls (place_of_elements l); is_sparse = l.is_sparse; xml_name = l.xml }

-- a map of the table
abbrev pub map_shape_of : List Decl → MapDecl → MapShape
map_shape_of decls m =
    record { place = place_of decls (place_of_values m); is_sparse = m.is_sparse; key_name = m.key; value_name = m.value }

-- the shape that a form declares
abbrev pub shape_of : List Decl → Form → Shape
shape_of decls (structure ms) = Shape.structure (list_map (member_of decls) ms)
shape_of decls (union ms) = Shape.union (list_map (member_of decls) ms)
shape_of decls (list l) = Shape.list (list_shape_of decls l)
shape_of decls (map m) = Shape.map (map_shape_of decls m)

-- the table of accepted declarations
abbrev pub table_from : List Decl → Table
table_from decls = list_map (λ (d : Decl). record { name = d.name; shape = shape_of decls d.form }) decls

-- ---- the tests, of a declaration and its number among all of them, from 1

-- a test of one declaration, which may look at all of them and at its own number
abbrev pub Test : Type 0
Test = List Decl → ℕ → Decl → Bool

-- a place whose target is `float` or `double`
abbrev pub has_float_shape : Test
has_float_shape decls n d = list_any (λ (p : PlaceWords). is_float_name p.target) (places_of d.form)

-- a place whose target is neither a scalar, nor a document, nor declared
abbrev pub has_unknown_shape : Test
has_unknown_shape decls n d =
    list_any (λ (p : PlaceWords). not (is_simple_name p.target) && not (is_declared decls p.target)) (places_of d.form)

-- a place whose time form is none of the three, whatever the target is
abbrev pub has_unknown_time_format : Test
has_unknown_time_format decls n d =
    list_any (λ (p : PlaceWords). option_map_or (λ word. not (is_time_format word)) p.time false) (places_of d.form)

-- the name of an earlier declaration, of a scalar, or of documents
abbrev pub is_duplicate : Test
is_duplicate decls n d = is_reserved d.name || is_declared (take (n - 1) decls) d.name

-- two members have one name, one JSON name or one name in a form
abbrev pub has_clash : Test
has_clash decls n d =
    has_equal_texts (list_map (λ (m : MemberDecl). m.name) (members_of d.form))
    || has_equal_texts (list_map json_name_of (members_of d.form))
    || has_equal_texts (list_map query_name_of (members_of d.form))

-- a name that can't stand in the path of a form
abbrev pub has_unfit_name : Test
has_unfit_name decls n d = not (list_all is_query_name (query_names_of d.form))

-- the form of a map whose keys and values have one name
abbrev pub has_one_entry_name : Form → Bool
has_one_entry_name (map m) = bytes_eq (key_name_of m) (value_name_of m)
has_one_entry_name _ = false

-- the test that a declaration is a map whose keys and values have one name
abbrev pub has_key_value_name : Test
has_key_value_name decls n d = has_one_entry_name d.form

-- the form of a sparse list or a sparse map of documents
abbrev pub has_sparse_documents : Form → Bool
has_sparse_documents (list l) = l.is_sparse && is_document_name l.target
has_sparse_documents (map m) = m.is_sparse && is_document_name m.target
has_sparse_documents _ = false

-- the test that a declaration is a sparse list or a sparse map of documents
abbrev pub is_sparse_document : Test
is_sparse_document decls n d = has_sparse_documents d.form

-- the test that a declaration has more than 65535 members, or is the 65536th declaration
abbrev pub is_too_many : Test
is_too_many decls n d = nat_lt 65535 (length (members_of d.form)) || n == 65536

-- ---- the answer

-- why declarations, or a line, are no table
pub data Fault : Type 0 where
  bad_line float_shape unknown_target unknown_time_format duplicate_shape name_clash : Fault
  query_name key_value_name sparse_document too_many : Fault

-- the tests after the lines, in the order in which they are made
abbrev pub tests : List (Fault × Test)
tests =
    (float_shape, has_float_shape) ∷ (unknown_target, has_unknown_shape)
    ∷ (unknown_time_format, has_unknown_time_format) ∷ (duplicate_shape, is_duplicate) ∷ (name_clash, has_clash)
    ∷ (query_name, has_unfit_name) ∷ (key_value_name, has_key_value_name) ∷ (sparse_document, is_sparse_document)
    ∷ (too_many, is_too_many) ∷ []

-- a table, or a fault with the number of its line or declaration, from 1
pub data TableAnswer : Type 0 where
  accepted : Table → TableAnswer
  refused : Fault → ℕ → TableAnswer

-- the number of the first declaration that fails the test
abbrev pub first_failing : List Decl → Test → Option ℕ
first_failing decls test = option_map (λ p. p.0) (find (λ p. test decls p.0 p.1) (enumerate_from 1 decls))

-- the first of the tests that some declaration fails
abbrev pub first_fault : List Decl → List (Fault × Test) → Option (Fault × ℕ)
first_fault decls [] = None
first_fault decls (t ∷ ts) = option_or (option_map (λ n. (t.0, n)) (first_failing decls t.1)) (first_fault decls ts)

-- the table that declarations are, or their first fault
abbrev pub build_of : List Decl → TableAnswer
build_of decls =
    option_map_or (λ fault. refused fault.0 fault.1) (first_fault decls tests) (accepted (table_from decls))

-- the table that a text is, or its first fault
abbrev pub table_of : List ℕ → TableAnswer
table_of text =
    elim (declarations_of text) [ declarations decls ↦ build_of decls | Lines.bad_line n ↦ refused bad_line n ]
