-- What each call of a serializer makes of its state.
use Rattle.std.specs.Prelude.{ℕ, suc, ◌==◌, ◌&&◌, nat_lt, List, [], ◌∷◌, ◌++◌, length, take, drop, Bool, true, false, is_some, Option, Some, None, option_to_list, if◌then◌else◌, Result, Ok, Err, codes, decimal}
use Rattle.std.specs.Option.{option_map_or}
use Rattle.std.specs.Str.{byte}
use Rattle.smithy_schema.specs.declared.error.SerdeError.{SerdeError}
use Rattle.smithy_schema.specs.declared.error.SerdeError.TheVariants.{Unsupported, Unwritable}
use Rattle.smithy_shapes.specs.Site.{Site, View}
use Rattle.smithy_schema.specs.Writing.{Event, Writer, begin_structure, end_structure, begin_list, end_list, begin_map, end_map, null_of, scalar_of, big_integer_of, big_decimal_of, document_of, Open, open_structure, open_list, open_map_at_key, open_map_at_value, open_after}
use Rattle.smithy_query.specs.Form.{pair_text, form_head}
use Rattle.smithy_query_codec.specs.Leaves.{Path, MemberRole, flat_member, member, neither, query_name, role_of, element_name, key_name, value_name, inner_path, scalar_text, form_at}
use Rattle.smithy_query_codec.specs.Writable.{can_write}

-- what was there before a container was begun, for when it ends
pub record Mark : Type 0 where
  -- the length of the path of the parts of the container around it
  pub prefix_length : ℕ
  -- how many parts the container around it has, with this one
  pub count : ℕ
  -- the length of the text when the container began
  pub out_length : ℕ
  -- the length of the path that ends with the member's name, for a list that is the value of a member
  pub member_length : Option ℕ
  -- the length of the names of the maps around it
  pub names_length : ℕ
  -- the length of the name of its keys, for a map
  pub key_length : ℕ

pub record QueryState : Type 0 where
  -- the bytes so far
  pub out : List ℕ
  -- the path of the innermost container's parts, as it is written
  pub prefix : List ℕ
  -- the names of the keys and of the values of each open map, one behind the other
  pub names : List ℕ
  -- how many elements or entries the innermost list or map has
  pub count : ℕ
  -- the open containers, innermost first, and what each has to restore
  pub opens : List Open
  pub marks : List Mark

-- no leaf is written yet
abbrev pub fresh_state : List ℕ → List ℕ → QueryState
fresh_state action version = record {
  out = form_head action version;
  prefix = [];
  names = [];
  count = 0;
  opens = [];
  marks = [];
}

-- ---- paths

-- a path with one more segment, and with some more
abbrev pub dotted : List ℕ → List ℕ → List ℕ
dotted [] segment = segment
dotted (b ∷ bs) segment = (b ∷ bs) ++ byte "." ∷ segment

abbrev pub extended : List ℕ → Path → List ℕ
extended prefix [] = prefix
extended prefix (segment ∷ more) = extended (dotted prefix segment) more

-- the names of the innermost map's keys and values
abbrev pub innermost_key : List ℕ → List Mark → List ℕ
innermost_key names [] = []
innermost_key names (m ∷ marks) = take m.key_length (drop m.names_length names)

abbrev pub innermost_value : List ℕ → List Mark → List ℕ
innermost_value names [] = []
innermost_value names (m ∷ marks) = drop m.key_length (drop m.names_length names)

-- what a child adds to the path: its position in a list, its position and a name in a map, else its name
abbrev pub child_path : List Open → ℕ → List ℕ → List ℕ → View → Path
child_path [] count key value view = option_to_list (query_name view)
child_path (open_structure ∷ os) count key value view = option_to_list (query_name view)
child_path (open_list ∷ os) count key value view = decimal (suc count) ∷ []
child_path (open_map_at_key ∷ os) count key value view = decimal (suc count) ∷ key ∷ []
child_path (open_map_at_value ∷ os) count key value view = decimal count ∷ value ∷ []

-- whose value a child is
abbrev pub child_role : List Open → View → MemberRole
child_role [] view = role_of view
child_role (open_structure ∷ os) view = role_of view
child_role _ view = neither

-- the number of parts with this child; a key counts for its entry
abbrev pub child_count : List Open → ℕ → ℕ
child_count (open_list ∷ os) count = suc count
child_count (open_map_at_key ∷ os) count = suc count
child_count _ count = count

-- the next element or entry has a position
abbrev pub has_room : List Open → ℕ → Bool
has_room (open_list ∷ os) count = nat_lt count 18446744073709551615
has_room (open_map_at_key ∷ os) count = nat_lt count 18446744073709551615
has_room _ count = true

-- a scalar has a name, or is a part of a list or a map
abbrev pub is_placed : List Open → View → Bool
is_placed [] view = is_some (query_name view)
is_placed (open_structure ∷ os) view = is_some (query_name view)
is_placed _ view = true

-- nothing is written for the null of a member; a part of a list or of a map is none
abbrev pub takes_null : List Open → Bool
takes_null [] = true
takes_null (open_structure ∷ os) = true
takes_null _ = false

-- a text is a key: the innermost container is a map in which one is due
abbrev pub is_key_due : List Open → Bool
is_key_due (open_map_at_key ∷ os) = true
is_key_due _ = false

-- the path of the next child
abbrev pub child_prefix : QueryState → View → List ℕ
child_prefix s view =
    extended s.prefix
    (child_path s.opens s.count (innermost_key s.names s.marks) (innermost_value s.names s.marks) view)

-- ---- what calls make of a state, with the containers that are open then

-- the state once a leaf is written: the leaf of a scalar, of a key, or of a big number by the text that it keeps
abbrev pub wrote : QueryState → View → List ℕ → List Open → QueryState
wrote s view text opens = record s {
  out = s.out ++ pair_text (child_prefix s view) text;
  count = child_count s.opens s.count;
  opens = opens;
}

-- the state once a container has begun: the path of its parts, the names of all open maps, and what this container restores
-- beside what each does
abbrev pub opened : QueryState → List ℕ → List ℕ → Option ℕ → ℕ → List Open → QueryState
opened s prefix names member_length key_length opens = record s {
  prefix = prefix;
  names = names;
  count = 0;
  opens = opens;
  marks = record {
    prefix_length = length s.prefix;
    count = child_count s.opens s.count;
    out_length = length s.out;
    member_length = member_length;
    names_length = length s.names;
    key_length = key_length;
  } ∷ s.marks;
}

abbrev pub structure_opened : QueryState → Site → List Open → QueryState
structure_opened s site opens = opened s (child_prefix s site.view) s.names None 0 opens

-- the length is kept of a member's path alone
abbrev pub member_length : MemberRole → ℕ → Option ℕ
member_length neither n = None
member_length member n = Some n
member_length flat_member n = Some n

abbrev pub list_opened : QueryState → Site → List Open → QueryState
list_opened s site opens =
    let prefix = child_prefix s site.view in
    let stand = child_role s.opens site.view in
    let inner = inner_path stand (element_name site) in
    opened s (extended prefix inner) s.names (member_length stand (length prefix)) 0 opens

abbrev pub map_opened : QueryState → Site → List Open → QueryState
map_opened s site opens =
    let inner = inner_path (child_role s.opens site.view) (codes "entry") in
    let names = (s.names ++ key_name site) ++ value_name site in
    opened s (extended (child_prefix s site.view) inner) names None (length (key_name site)) opens

-- the innermost container has ended
abbrev pub closed : QueryState → List Mark → List Open → QueryState
closed s [] opens = record s { opens = opens }
closed s (m ∷ marks) opens = record {
  out = s.out;
  prefix = take m.prefix_length s.prefix;
  names = take m.names_length s.names;
  count = m.count;
  opens = opens;
  marks = marks;
}

-- the leaf of a list that is a member's value and wrote nothing
abbrev pub empty_leaf : QueryState → List Mark → List ℕ
empty_leaf s [] = []
empty_leaf s (m ∷ marks) =
    if length s.out == m.out_length
    then option_map_or (λ n. pair_text (take n s.prefix) []) m.member_length []
    else []

abbrev pub list_closed : QueryState → List Open → QueryState
list_closed s opens = closed (record s { out = s.out ++ empty_leaf s s.marks }) s.marks opens

abbrev pub made : Event → QueryState → List Open → QueryState
made (begin_structure site) s opens = structure_opened s site opens
made end_structure s opens = closed s s.marks opens
made (begin_list site length) s opens = list_opened s site opens
made end_list s opens = list_closed s opens
made (begin_map site length) s opens = map_opened s site opens
made end_map s opens = closed s s.marks opens
made (null_of site) s opens = record s { opens = opens }
made (scalar_of site x) s opens = wrote s site.view (scalar_text (form_at site) x) opens
made (big_integer_of site written) s opens = wrote s site.view written opens
made (big_decimal_of site written) s opens = wrote s site.view written opens
made (document_of site d) s opens = record s { opens = opens }

-- ---- what is refused

-- a form can take the call, wherever any serializer can
abbrev pub can_take : Event → QueryState → Bool
can_take (begin_structure site) s = has_room s.opens s.count
can_take (begin_list site length) s = has_room s.opens s.count
can_take (begin_map site length) s = has_room s.opens s.count
can_take (null_of site) s = takes_null s.opens
can_take (scalar_of site x) s =
    can_write.scalar site.place.time x && (is_placed s.opens site.view && has_room s.opens s.count)
can_take (big_integer_of site written) s = is_placed s.opens site.view && has_room s.opens s.count
can_take (big_decimal_of site written) s = is_placed s.opens site.view && has_room s.opens s.count
can_take (document_of site d) s = is_placed s.opens site.view && has_room s.opens s.count
can_take _ s = true

abbrev pub allowed : Bool → Result (List Open) SerdeError → Result (List Open) SerdeError
allowed can opens = if can then opens else Err Unwritable

-- the state that is made of the open containers, unless the call is refused
abbrev pub where_taken : (List Open → QueryState) → Result (List Open) SerdeError → Result QueryState SerdeError
where_taken make (Ok opens) = Ok (make opens)
where_taken make (Err e) = Err e

-- no document is written
abbrev pub is_supported : Event → Bool
is_supported (document_of site d) = can_write.documents
is_supported _ = true

-- what is made, unless a form has no such call
abbrev pub where_supported : Bool → Result QueryState SerdeError → Result QueryState SerdeError
where_supported true made_of = made_of
where_supported false (Ok s) = Err Unsupported
where_supported false (Err e) = Err e

-- a call is refused where a form can't take it there, and then where it is that of a document
abbrev pub query_after : Writer QueryState
query_after e s = where_supported (is_supported e) (where_taken (made e s) (allowed (can_take e s) (open_after e s.opens)))
