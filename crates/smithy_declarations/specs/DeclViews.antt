-- What declarations of the program stand for, and what an answer of it says.
use Rattle.std.specs.Prelude.{◌≡◌, map as list_map, string_bytes, option_map}
use Rattle.smithy_declarations.specs.declared.decl.MemberDecl as kept_member
use Rattle.smithy_declarations.specs.declared.decl.Decl as kept
use Rattle.smithy_declarations.specs.declared.decl.Decl.TheVariants.{Structure, Union, List, Map}
use Rattle.smithy_declarations.specs.declared.fault.TableFault.{TableFault}
use Rattle.smithy_declarations.specs.declared.fault.TableFault.TheVariants.{BadLine, FloatShape, UnknownTarget, UnknownTimeFormat, DuplicateShape, NameClash, QueryName, KeyValueName, SparseDocument, TooMany, NoMemory}
use Rattle.smithy_declarations.specs.declared.acceptance.places.PlaceWords as kept_place
use Rattle.smithy_declarations.specs.Decl.{PlaceWords, MemberDecl, structure, union, list, map, Decl}
use Rattle.smithy_declarations.specs.TableText.{Lines}
use Rattle.smithy_declarations.specs.Acceptance.{TableAnswer, refused, bad_line, float_shape, unknown_target, unknown_time_format, duplicate_shape, name_clash, query_name, key_value_name, sparse_document, too_many}

-- the place that the program's words name
abbrev pub place_words_of : kept_place.PlaceWords → PlaceWords
place_words_of p = record { target = p.target.now; time = option_map (λ word. word.now) p.time }

-- the member that the program's declaration of one is
abbrev pub member_decl_of : kept_member.MemberDecl → MemberDecl
member_decl_of m = record {
  name = string_bytes m.name;
  target = string_bytes m.target;
  json = option_map string_bytes m.json;
  xml = option_map string_bytes m.xml;
  is_flat = m.flat;
  time = option_map string_bytes m.time;
}

-- the declaration that the program's is
abbrev pub decl_of : kept.Decl → Decl
decl_of (Structure name members) = record {
  name = string_bytes name;
  form = structure (list_map member_decl_of members.items);
}
decl_of (Union name members) = record {
  name = string_bytes name;
  form = union (list_map member_decl_of members.items);
}
decl_of (List name target sparse xml time) = record {
  name = string_bytes name;
  form = list (record {
    target = string_bytes target;
    is_sparse = sparse;
    xml = option_map string_bytes xml;
    time = option_map string_bytes time;
  });
}
decl_of (Map name target sparse key value time) = record {
  name = string_bytes name;
  form = map (record {
    target = string_bytes target;
    is_sparse = sparse;
    key = option_map string_bytes key;
    value = option_map string_bytes value;
    time = option_map string_bytes time;
  });
}

-- the fault is the answer, or memory ran out, which no clause can rule out
abbrev pub IsRefusedBy : TableAnswer → TableFault → Type 0
IsRefusedBy answer (BadLine n) = answer ≡ refused bad_line n
IsRefusedBy answer (FloatShape n) = answer ≡ refused float_shape n
IsRefusedBy answer (UnknownTarget n) = answer ≡ refused unknown_target n
IsRefusedBy answer (UnknownTimeFormat n) = answer ≡ refused unknown_time_format n
IsRefusedBy answer (DuplicateShape n) = answer ≡ refused duplicate_shape n
IsRefusedBy answer (NameClash n) = answer ≡ refused name_clash n
IsRefusedBy answer (QueryName n) = answer ≡ refused query_name n
IsRefusedBy answer (KeyValueName n) = answer ≡ refused key_value_name n
IsRefusedBy answer (SparseDocument n) = answer ≡ refused sparse_document n
IsRefusedBy answer (TooMany n) = answer ≡ refused too_many n
IsRefusedBy answer NoMemory = Unit {0}

-- the program's fault says what the lines of a text are: a first bad line, with its number; or want of memory, which says nothing
abbrev pub IsLineFault : Lines → TableFault → Type 0
IsLineFault lines (BadLine n) = lines ≡ Lines.bad_line n
IsLineFault lines NoMemory = Unit {0}
IsLineFault lines _ = ⊥
