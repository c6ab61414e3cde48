-- Lists and maps of which the program holds the parts.
use Rattle.std.specs.Prelude.{ℕ, List, Bool, Option, option_map, String, string_bytes}
use Rattle.std.specs.declared.alloc.Global.{Global}
use Rattle.smithy_declarations.specs.Decl.{ListDecl, MapDecl}

abbrev pub list_of : List ℕ → Bool → Option (String Global) → Option (String Global) → ListDecl
list_of target sparse xml time = record {
  target = target;
  is_sparse = sparse;
  xml = option_map string_bytes xml;
  time = option_map string_bytes time;
}

abbrev pub map_of : List ℕ → Bool → Option (String Global) → Option (String Global) → Option (String Global) → MapDecl
map_of target sparse key value time = record {
  target = target;
  is_sparse = sparse;
  key = option_map string_bytes key;
  value = option_map string_bytes value;
  time = option_map string_bytes time;
}
