-- The tests of a place, and a declaration with another form.
use Rattle.std.specs.Prelude.{◌&&◌, List, Bool, false, not}
use Rattle.std.specs.Option.{option_map_or}
use Rattle.smithy_declarations.specs.Names.{is_simple_name, is_float_name, is_time_format}
use Rattle.smithy_declarations.specs.Decl.{PlaceWords, Form, Decl}
use Rattle.smithy_declarations.specs.Acceptance.{is_declared}

-- the target is `float` or `double`
abbrev pub has_float_target : PlaceWords → Bool
has_float_target p = is_float_name p.target

-- the target is neither a scalar, nor a document, nor declared
abbrev pub has_unknown_target : List Decl → PlaceWords → Bool
has_unknown_target decls p = not (is_simple_name p.target) && not (is_declared decls p.target)

-- the time form is none of the three, whatever the target is
abbrev pub has_unknown_time : PlaceWords → Bool
has_unknown_time p = option_map_or (λ word. not (is_time_format word)) p.time false

-- the declaration with another form
abbrev pub with_form : Decl → Form → Decl
with_form d form = record { name = d.name; form = form }
