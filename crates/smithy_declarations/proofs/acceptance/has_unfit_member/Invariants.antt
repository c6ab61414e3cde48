use Rattle.std.proofs.Common.{◌≡◌, map, drop}
use Rattle.std.specs.List.{list_all}
use Rattle.smithy_declarations.specs.Names.{is_query_name}
use Rattle.smithy_declarations.specs.Acceptance.{query_name_of}
use Rattle.smithy_declarations.specs.DeclViews.{member_decl_of}
use Rattle.smithy_declarations.proofs.acceptance.has_unfit_member.Given as goal

abbrev pub invariant-loop-position : goal.invariant-loop-position
invariant-loop-position l =
    list_all is_query_name (drop l.position (map query_name_of (map member_decl_of l.names.0.now))) ≡ list_all is_query_name (map query_name_of (map member_decl_of l.names.0.now))
