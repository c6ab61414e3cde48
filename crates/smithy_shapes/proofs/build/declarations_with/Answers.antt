use Rattle.std.proofs.Common.{ap, sym, ◌∙◌, ◌+◌, ◌≡◌, length, map, arith, get_or, Vec, Global}
use Rattle.std.proofs.lemmas.List.{length_push, length-map, get_or-map}
use Rattle.std.proofs.lemmas.Iterator.Adapters.{YieldsList-from_vec}
use Rattle.std.proofs.lemmas.Iterator.Consumers.{YieldsList-turn}
use Rattle.smithy_declarations.specs.declared.place.Place.{Place}
use Rattle.smithy_declarations.specs.Acceptance.{places_of}
use Rattle.smithy_declarations.specs.DeclViews.{decl_of}
use Rattle.smithy_shapes.specs.Views.{declaration_of}
use Rattle.smithy_shapes.proofs.BuildLemmas.{lengths_at, declaration_pushed}
use Rattle.smithy_shapes.proofs.build.declarations_with.Goals as goal

pub declaration_with-requires : goal.declaration_with-requires
declaration_with-requires c =
    let turn = YieldsList-turn (YieldsList-from_vec c.args.decls.items (cc) (cc)) c.loop-decl.yielded _ c.loop-decl.yielded_by c.next.result c.next.new.self c.in-Some.decl c.in-Some.is c.next.ensures.steps in
    let here : c.len-in-loop-decl.result ≡ length c.loop-decl.yielded = omega (arith, c.loop-decl.declarations.ok.0, c.len-in-loop-decl.ensures, c.loop-decl.invariant.counted) in
    let read : c.index-all-len.result ≡ get_or c.args.all.now (length c.loop-decl.yielded) c.index-all-len.result =
    c.index-all-len.is ∙ ap (λ n. get_or c.args.all.now n c.index-all-len.result) here in
    let same = lengths_at (λ (p : Vec Place Global). length p.items) (λ d. length (places_of (decl_of d).form)) c.args.all.now c.args.decls.items c.requires (length c.loop-decl.yielded) c.index-all-len.result c.in-Some.decl turn.0 in
    let all : length (places_of (decl_of c.in-Some.decl).form) ≡ length c.as_slice.result.now =
    ap (λ d. length (places_of (decl_of d).form)) turn.1 ∙ sym same ∙ ap (λ (p : Vec Place Global). length p.items) (sym read) ∙ sym (ap length c.as_slice.ensures.value) in
    omega (arith, all)

pub loop-decl-preserved : goal.loop-decl-preserved
loop-decl-preserved c =
    let turn = YieldsList-turn (YieldsList-from_vec c.args.decls.items (cc) (cc)) c.loop-decl.yielded _ c.loop-decl.yielded_by c.next.result c.next.new.self c.in-Some.decl c.in-Some.is c.next.ensures.steps in
    let here : c.len-in-loop-decl.result ≡ length c.loop-decl.yielded = omega (arith, c.loop-decl.declarations.ok.0, c.len-in-loop-decl.ensures, c.loop-decl.invariant.counted) in
    let read : c.index-all-len.result ≡ get_or c.args.all.now (length c.loop-decl.yielded) c.index-all-len.result =
    c.index-all-len.is ∙ ap (λ n. get_or c.args.all.now n c.index-all-len.result) here in
    let many : length c.args.all.now ≡ length c.args.decls.items =
    sym (length-map c.args.all.now (λ (p : Vec Place Global). length p.items)) ∙ ap length c.requires ∙ length-map c.args.decls.items (λ d. length (places_of (decl_of d).form)) in
    let all = map (λ (p : Vec Place Global). p.items) c.args.all.now in
    record {
      counted = ap length c.in_ok-push.ensures.items ∙ length_push c.loop-decl.declarations.items _ ∙ ap (λ n. n + 1) c.loop-decl.invariant.counted ∙ sym (length_push c.loop-decl.yielded c.in-Some.decl);
      so_far = declaration_pushed declaration_of decl_of c.push.new.self.items c.loop-decl.declarations.items c.in_ok-declaration_with.field-0 c.loop-decl.yielded c.in-Some.decl all c.as_slice.result.now
          c.in_ok-push.ensures.items c.loop-decl.invariant.so_far c.in_ok-declaration_with.ensures (omega (arith, turn.0, many, length-map c.args.all.now (λ (p : Vec Place Global). p.items)))
          (c.as_slice.ensures.value ∙ ap (λ (p : Vec Place Global). p.items) read ∙ sym (get_or-map (λ (p : Vec Place Global). p.items) c.args.all.now (length c.loop-decl.yielded) c.index-all-len.result c.as_slice.result.now (omega (arith, turn.0, many))));
    }
