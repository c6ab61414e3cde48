-- Table texts and what they are.
use Rattle.std.proofs.Common.{◌≡◌, ℕ, List, [], ◌∷◌, ◌++◌, Option, Some, None, Bool, true, false, refl, codes, map as list_map}
use Prim.Native.String.{String}
use Rattle.std.specs.List.{join_with_byte}
use Rattle.std.specs.Str.{byte}
use Rattle.smithy_declarations.specs.declared.place.Place.{Place}
use Rattle.smithy_declarations.specs.declared.place.Target.{Target}
use Rattle.smithy_declarations.specs.declared.place.Target.TheVariants.{Simple, Declared}
use Rattle.smithy_declarations.specs.declared.shape_type.Scalar.TheVariants as scalars
use Rattle.smithy_declarations.specs.declared.shape_type.TimestampFormat.TheVariants.{EpochSeconds, HttpDate}
use Rattle.smithy_declarations.specs.Table.{Table, Member, ListShape, MapShape, structure, union, list, map, declared_as}
use Rattle.smithy_declarations.specs.Decl.{Form}
use Rattle.smithy_declarations.specs.TableText.{declarations_of, declarations}
use Rattle.smithy_declarations.specs.Acceptance.{Fault, accepted, refused, table_of, build_of, has_one_entry_name, is_too_many}
use Rattle.smithy_shapes.proofs.OnLiterals.{smithy_shapes_on_literals}

abbrev lines : List String → List ℕ
lines ls = join_with_byte (byte "\n") (list_map codes ls)

abbrev place : Target → Place
place target = record { target = target; time = None }

abbrev declared : ℕ → Place
declared n = place (Declared (record { 0 = n }))

abbrev a_member : List ℕ → Place → Member
a_member name place = record { name = name; json_name = None; xml_name = None; is_flat = false; place = place }

abbrev a_list : Place → ListShape
a_list place = record { place = place; is_sparse = false; xml_name = None }

abbrev a_map : Place → MapShape
a_map place = record { place = place; is_sparse = false; key_name = None; value_name = None }

abbrev empty_structure : Table
empty_structure = record { name = codes "S"; shape = structure [] } ∷ []

-- ---- accepted

-- a structure with one member
pub one_long : table_of (lines ("structure S" ∷ "member a long" ∷ [])) ≡ accepted (record { name = codes "S"; shape = structure (a_member (codes "a") (place (Simple scalars.Long)) ∷ []) } ∷ [])
unfolding smithy_shapes_on_literals
one_long = refl

-- declarations may refer to one another in cycles
pub list_of_itself : table_of (lines ("list L L" ∷ [])) ≡ accepted (record { name = codes "L"; shape = list (a_list (declared 0)) } ∷ [])
unfolding smithy_shapes_on_literals
list_of_itself = refl

-- a target may be declared later
pub a_later_name : table_of (lines ("structure S" ∷ "member m L" ∷ "list L string" ∷ [])) ≡ accepted (record { name = codes "S"; shape = structure (a_member (codes "m") (declared 1) ∷ []) } ∷ record { name = codes "L"; shape = list (a_list (place (Simple scalars.String))) } ∷ [])
unfolding smithy_shapes_on_literals
a_later_name = refl

-- each option of a member
pub member_options : table_of (lines ("structure S" ∷ "member a L flat time=http-date xml=y json=x" ∷ "list L string" ∷ []))
    ≡ accepted (record {
      name = codes "S";
      shape = structure (record {
        name = codes "a";
        json_name = Some (codes "x");
        xml_name = Some (codes "y");
        is_flat = true;
        place = record { target = Declared (record { 0 = 1 }); time = Some HttpDate };
      } ∷ []);
    } ∷ record { name = codes "L"; shape = list (a_list (place (Simple scalars.String))) } ∷ [])
unfolding smithy_shapes_on_literals
member_options = refl

-- and of a list
pub list_options : table_of (lines ("list L string time=epoch-seconds xml=x sparse" ∷ []))
    ≡ accepted (record {
      name = codes "L";
      shape = list (record {
        place = record { target = Simple scalars.String; time = Some EpochSeconds };
        is_sparse = true;
        xml_name = Some (codes "x");
      });
    } ∷ [])
unfolding smithy_shapes_on_literals
list_options = refl

-- and of a map
pub map_options : table_of (lines ("map M string value=v time=http-date sparse key=k" ∷ []))
    ≡ accepted (record {
      name = codes "M";
      shape = map (record {
        place = record { target = Simple scalars.String; time = Some HttpDate };
        is_sparse = true;
        key_name = Some (codes "k");
        value_name = Some (codes "v");
      });
    } ∷ [])
unfolding smithy_shapes_on_literals
map_options = refl

-- a union has members as a structure has, and a map of maps refers to itself
pub unions_and_maps : table_of (lines ("union U" ∷ "member a long" ∷ "map M M" ∷ []))
    ≡ accepted (record { name = codes "U"; shape = union (a_member (codes "a") (place (Simple scalars.Long)) ∷ []) }
    ∷ record { name = codes "M"; shape = map (a_map (declared 1)) } ∷ [])
unfolding smithy_shapes_on_literals
unions_and_maps = refl

-- an empty line and a comment say nothing
pub passed_over : table_of (lines ("" ∷ "# a  b" ∷ "structure S" ∷ "" ∷ [])) ≡ accepted empty_structure
unfolding smithy_shapes_on_literals
passed_over = refl

-- one carriage return at a line's end is dropped, and only one
pub one_return : table_of (codes "structure S" ++ 0x0d ∷ byte "\n" ∷ 0x0d ∷ []) ≡ accepted empty_structure
unfolding smithy_shapes_on_literals
one_return = refl

pub two_returns : table_of (0x0d ∷ 0x0d ∷ []) ≡ refused Fault.bad_line 1
unfolding smithy_shapes_on_literals
two_returns = refl

-- a comment may be anything, and any other line is in UTF-8
pub not_utf8 : table_of (codes "#" ++ 0xff ∷ byte "\n" ∷ codes "structure " ++ 0xff ∷ []) ≡ refused Fault.bad_line 2
unfolding smithy_shapes_on_literals
not_utf8 = refl

-- ---- bad lines

-- a member with no declaration before it
pub member_alone : table_of (lines ("member a long" ∷ [])) ≡ refused Fault.bad_line 1
unfolding smithy_shapes_on_literals
member_alone = refl

-- a member of a list
pub member_of_a_list : table_of (lines ("structure S" ∷ "list L long" ∷ "member a long" ∷ [])) ≡ refused Fault.bad_line 3
unfolding smithy_shapes_on_literals
member_of_a_list = refl

-- two spaces
pub two_spaces : table_of (lines ("structure  S" ∷ [])) ≡ refused Fault.bad_line 1
unfolding smithy_shapes_on_literals
two_spaces = refl

-- a space at the end
pub space_at_the_end : table_of (lines ("structure S" ∷ "member a long " ∷ [])) ≡ refused Fault.bad_line 2
unfolding smithy_shapes_on_literals
space_at_the_end = refl

-- a space before `#`
pub space_and_sign : table_of (lines (" # a" ∷ [])) ≡ refused Fault.bad_line 1
unfolding smithy_shapes_on_literals
space_and_sign = refl

-- an option without a text
pub empty_option : table_of (lines ("structure S" ∷ "member a long json=" ∷ [])) ≡ refused Fault.bad_line 2
unfolding smithy_shapes_on_literals
empty_option = refl

-- an option twice
pub option_twice : table_of (lines ("structure S" ∷ "member a long json=x json=y" ∷ [])) ≡ refused Fault.bad_line 2
unfolding smithy_shapes_on_literals
option_twice = refl

-- a flag twice
pub flag_twice : table_of (lines ("list L long sparse sparse" ∷ [])) ≡ refused Fault.bad_line 1
unfolding smithy_shapes_on_literals
flag_twice = refl

-- an option of another kind of line
pub option_of_another_line : table_of (lines ("list L long json=x" ∷ [])) ≡ refused Fault.bad_line 1
unfolding smithy_shapes_on_literals
option_of_another_line = refl

-- a structure with a second word
pub too_many_words : table_of (lines ("structure S T" ∷ [])) ≡ refused Fault.bad_line 1
unfolding smithy_shapes_on_literals
too_many_words = refl

-- no such line
pub unknown_keyword : table_of (lines ("struct S" ∷ [])) ≡ refused Fault.bad_line 1
unfolding smithy_shapes_on_literals
unknown_keyword = refl

-- a bad line comes before a fault above it
pub bad_line_comes_first : table_of (lines ("list L float" ∷ "list" ∷ [])) ≡ refused Fault.bad_line 2
unfolding smithy_shapes_on_literals
bad_line_comes_first = refl

-- an option's text begins after the first `=`
pub equals_in_a_text : declarations_of (lines ("structure S" ∷ "member a long json=a=b flat" ∷ []))
    ≡ declarations (record { name = codes "S"; form = Form.structure (record { name = codes "a"; target = codes "long"; json = Some (codes "a=b"); xml = None; is_flat = true; time = None } ∷ []) } ∷ [])
unfolding smithy_shapes_on_literals
equals_in_a_text = refl

-- ---- refused declarations

-- documents are targets of members, lists and maps, and no names of declarations
pub documents_are_built : table_of (lines ("union U" ∷ "member a document" ∷ "list L document" ∷ "map M document" ∷ "map N float" ∷ [])) ≡ refused Fault.float_shape 4
unfolding smithy_shapes_on_literals
documents_are_built = refl

pub document_is_reserved : table_of (lines ("structure S" ∷ "union document" ∷ [])) ≡ refused Fault.duplicate_shape 2
unfolding smithy_shapes_on_literals
document_is_reserved = refl

-- neither a list nor a map of them is sparse, which is tested behind the names of keys and values
pub sparse_documents : list_map (λ ls. table_of (lines ls))
    (("structure S" ∷ "list L document sparse" ∷ []) ∷ ("list L document" ∷ "list K string sparse" ∷ "map M document sparse" ∷ []) ∷ ("list L document sparse" ∷ "map M long key=k value=k" ∷ []) ∷ [])
    ≡ refused Fault.sparse_document 2 ∷ refused Fault.sparse_document 3 ∷ refused Fault.key_value_name 2 ∷ []
unfolding smithy_shapes_on_literals
sparse_documents = refl

-- instants are targets, with a time form or with none, and no names of declarations
pub instants_are_built : table_of (lines ("structure S" ∷ "member a timestamp" ∷ "list L timestamp time=http-date" ∷ "map M float" ∷ [])) ≡ refused Fault.float_shape 3
unfolding smithy_shapes_on_literals
instants_are_built = refl

pub timestamp_is_reserved : table_of (lines ("structure S" ∷ "union timestamp" ∷ [])) ≡ refused Fault.duplicate_shape 2
unfolding smithy_shapes_on_literals
timestamp_is_reserved = refl

-- big numbers are targets, and no names of declarations
pub big_numbers_are_built : table_of (lines ("structure S" ∷ "member a bigInteger" ∷ "list L bigDecimal" ∷ "map M float" ∷ [])) ≡ refused Fault.float_shape 3
unfolding smithy_shapes_on_literals
big_numbers_are_built = refl

pub big_integer_is_reserved : table_of (lines ("structure S" ∷ "list bigInteger long" ∷ [])) ≡ refused Fault.duplicate_shape 2
unfolding smithy_shapes_on_literals
big_integer_is_reserved = refl

-- a target that is neither a scalar nor declared
pub no_such_target : table_of (lines ("structure S" ∷ "member a b" ∷ [])) ≡ refused Fault.unknown_target 1
unfolding smithy_shapes_on_literals
no_such_target = refl

-- the test that is made first decides, not the first declaration
pub first_test_first : table_of (lines ("list L b" ∷ "list M float" ∷ [])) ≡ refused Fault.float_shape 2
unfolding smithy_shapes_on_literals
first_test_first = refl

-- a float, also where a declaration has its name
pub float_target : table_of (lines ("structure S" ∷ "member a float" ∷ "structure float" ∷ [])) ≡ refused Fault.float_shape 1
unfolding smithy_shapes_on_literals
float_target = refl

-- a double
pub double_target : table_of (lines ("structure S" ∷ "list L double" ∷ [])) ≡ refused Fault.float_shape 2
unfolding smithy_shapes_on_literals
double_target = refl

-- a time form that is none, whatever the target is
pub no_such_time_format : table_of (lines ("structure S" ∷ "member a long time=http-date" ∷ "list L string time=http" ∷ [])) ≡ refused Fault.unknown_time_format 2
unfolding smithy_shapes_on_literals
no_such_time_format = refl

-- an unknown target comes before an unknown time form
pub time_format_in_order : table_of (lines ("list L long time=x" ∷ "list L b" ∷ [])) ≡ refused Fault.unknown_target 2
unfolding smithy_shapes_on_literals
time_format_in_order = refl

-- which comes before a name that is there twice
pub time_format_before_duplicates : table_of (lines ("list L long" ∷ "list L long time=x" ∷ [])) ≡ refused Fault.unknown_time_format 2
unfolding smithy_shapes_on_literals
time_format_before_duplicates = refl

-- the later of two equal names
pub declared_twice : table_of (lines ("structure S" ∷ "list S long" ∷ [])) ≡ refused Fault.duplicate_shape 2
unfolding smithy_shapes_on_literals
declared_twice = refl

-- the name of a scalar
pub named_as_a_scalar : table_of (lines ("structure long" ∷ [])) ≡ refused Fault.duplicate_shape 1
unfolding smithy_shapes_on_literals
named_as_a_scalar = refl

-- also of one that no table can have
pub named_as_a_float : table_of (lines ("structure float" ∷ [])) ≡ refused Fault.duplicate_shape 1
unfolding smithy_shapes_on_literals
named_as_a_float = refl

-- equal member names
pub equal_member_names : table_of (lines ("structure S" ∷ "member a long" ∷ "member a string" ∷ [])) ≡ refused Fault.name_clash 1
unfolding smithy_shapes_on_literals
equal_member_names = refl

-- equal JSON names
pub equal_json_names : table_of (lines ("structure S" ∷ "member a long json=x" ∷ "member b long json=x" ∷ [])) ≡ refused Fault.name_clash 1
unfolding smithy_shapes_on_literals
equal_json_names = refl

-- a JSON name that is another member's own
pub json_name_of_another : table_of (lines ("structure S" ∷ "member a long" ∷ "member b long json=a" ∷ [])) ≡ refused Fault.name_clash 1
unfolding smithy_shapes_on_literals
json_name_of_another = refl

-- equal names in a form
pub equal_query_names : table_of (lines ("structure S" ∷ "member a long xml=x" ∷ "member b long xml=x" ∷ [])) ≡ refused Fault.name_clash 1
unfolding smithy_shapes_on_literals
equal_query_names = refl

-- a name that can't stand in the path of a form
pub unfit_query_name : table_of (lines ("structure S" ∷ "member a.b long" ∷ [])) ≡ refused Fault.query_name 1
unfolding smithy_shapes_on_literals
unfit_query_name = refl

-- nor can a name that is given for the elements of a list
pub unfit_element_name : table_of (lines ("list L string xml=a.b" ∷ [])) ≡ refused Fault.query_name 1
unfolding smithy_shapes_on_literals
unfit_element_name = refl

-- a name that is given for a form stands in place of the member's
pub name_for_a_form : table_of (lines ("structure S" ∷ "member a.b long xml=x" ∷ [])) ≡ accepted (record { name = codes "S"; shape = structure (record (a_member (codes "a.b") (place (Simple scalars.Long))) { xml_name = Some (codes "x") } ∷ []) } ∷ [])
unfolding smithy_shapes_on_literals
name_for_a_form = refl

-- nor a name of a map's keys or values
pub unfit_entry_names : list_map (λ line. table_of (lines (line ∷ []))) ("map M long key=a.b" ∷ "map M long value=a.b" ∷ [])
    ≡ refused Fault.query_name 1 ∷ refused Fault.query_name 1 ∷ []
unfolding smithy_shapes_on_literals
unfit_entry_names = refl

-- keys and values of one name, which comes behind a name that can't stand in a form
pub one_entry_name : list_map (λ ls. table_of (lines ls)) (("structure S" ∷ "map M long key=value" ∷ []) ∷ ("map M long key=k value=k" ∷ "list L long xml=." ∷ []) ∷ [])
    ≡ refused Fault.key_value_name 2 ∷ refused Fault.query_name 2 ∷ []
unfolding smithy_shapes_on_literals
one_entry_name = refl

-- a map whose keys have the name of its values, as given or by default
abbrev entry_names : Option (List ℕ) → Option (List ℕ) → Bool
entry_names key value = has_one_entry_name (Form.map (record { target = codes "long"; is_sparse = false; key = key; value = value; time = None }))

pub equal_entry_names : entry_names None None ∷ entry_names (Some (codes "k")) (Some (codes "k")) ∷ entry_names (Some (codes "value")) None ∷ [] ≡ false ∷ true ∷ true ∷ []
unfolding smithy_shapes_on_literals
equal_entry_names = refl

-- an empty name, which no text gives
pub empty_query_name : build_of (record {
  name = codes "S";
  form = Form.structure (record { name = []; target = codes "long"; json = None; xml = None; is_flat = false; time = None } ∷ []);
} ∷ [])
    ≡ refused Fault.query_name 1
empty_query_name = refl

-- declaration number 65,536 is one too many
pub declarations_at_most : list_map (λ n. is_too_many [] n (record { name = codes "S"; form = Form.structure [] })) (65535 ∷ 65536 ∷ []) ≡ false ∷ true ∷ []
declarations_at_most = refl

-- a declared name, and not a scalar's
pub roots : list_map (declared_as empty_structure) (codes "S" ∷ codes "Q" ∷ codes "long" ∷ []) ≡ Some 0 ∷ None ∷ None ∷ []
unfolding smithy_shapes_on_literals
roots = refl
