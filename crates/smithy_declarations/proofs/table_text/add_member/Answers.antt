use Rattle.smithy_declarations.specs.DeclViews.{decl_of, member_decl_of}
use Rattle.smithy_declarations.proofs.TableTextLemmas.{member_added, no_member_added}
use Rattle.smithy_declarations.proofs.table_text.add_member.Goals as goal

pub returns-in_ok-push-in-Some-2 : goal.returns-in_ok-push-in-Some-2
returns-in_ok-push-in-Some-2 c =
    member_added decl_of (member_decl_of c.args.member) c.args.decls.now.items c.pop.new.self.items c.push.new.self.items c.in-Some.last c.in-Some-2.decl
    c.in-Some.ensures.items c.in_ok-push-in-Some-2.ensures.items (rw c.in-Some-2.is at c.in_ok-decl.ensures)

pub returns-in-None : goal.returns-in-None
returns-in-None c =
    no_member_added decl_of (member_decl_of c.args.member) c.args.decls.now.items c.pop.new.self.items c.in-Some.last
    c.in-Some.ensures.items (rw c.in-None.is at c.in_ok-decl.ensures)
