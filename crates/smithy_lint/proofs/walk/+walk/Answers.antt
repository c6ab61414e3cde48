use Rattle.std.proofs.Common.{◌≡◌, arith, rules, sym, ◌∙◌, ap, subst, refl, ◌+◌, List}
use Rattle.std.specs.Cow.{cow_str_bytes}
use Rattle.std.specs.Prelude.{option_map}
use Rattle.smithy_shapes.specs.Site.{Site, site_of, kind_at, member_named}
use Rattle.smithy_wire.specs.Node.{Node, as_array, as_object, is_null}
use Rattle.smithy_compare.specs.Tree.{Step, element as to_element, key as to_key}
use Rattle.smithy_lint.specs.Findings.{Found, collected, findings}
use Rattle.smithy_lint.specs.Private.Bodies.{IsKeyText}
use Rattle.smithy_lint.specs.Private.Walks.{path_of, found_of, Adds, IsVariantEntry}
use Rattle.smithy_lint.proofs.Docs.{map_ok, item_there, rest_there}
use Rattle.smithy_lint.proofs.Tables.{list_place, child_path, child_visited, half_elements_step, half_map_begins, half_members_begin, document_kind, as_placed, map_place, map_entry_found, half_map_step, half_members_step, counted_one, counted_none, null_found}
use Rattle.std.specs.Prelude.{true, false, Some}
use Rattle.smithy_declarations.specs.declared.shape_type.ShapeType.TheVariants as types
use Rattle.smithy_declarations.specs.Table.{type_of}
use Rattle.smithy_lint.proofs.Entries.{map_twice, unnamed_found, unnamed_variant, is_member, member_found}
use Rattle.smithy_lint.proofs.walk.+walk.Goals as goal

pub visit_elements-elements-preserved : goal.visit_elements-elements-preserved
visit_elements-elements-preserved g t c =
    let h = g.B.Body.holding c.args.body.now in
    let r = g.B.Body.rules c.args.body.now in
    let site = site_of c.args.schema.now in
    let goes = rw c.in-Entry.is at c.next_element.ensures in
    let there = item_there h as_array c.args.depth c.elements.at c.elements.mark c.in-Entry.field-0 c.in-Entry.value c.in-Entry.behind c.elements.invariant.there goes in
    let place = list_place (kind_at site) c.requires.kind in
    let rest = rest_there h as_array c.args.depth c.elements.at c.elements.mark c.in-Entry.field-0 c.in-Entry.value c.in-Entry.behind c.in_ok-at-in-Entry.at c.elements.invariant.there goes
    (λ x e v. (c.in_ok-at-in-Entry.ensures place.0 place.1 x e v).0) in
    record {
      path = child_path h c.args.depth c.in-Entry.value (path_of c.args.linter.now) (to_element c.elements.index) c.elements.linter c.enter.new.self c.visit_collected.new.linter c.leave.new.self
          (λ path x. collected site.table (kind_at site) (is_null x) path (λ p inner. findings r site.table p c.args.depth inner x) place.0)
          c.in_ok-enter-in-Entry.ensures.path c.in_ok-enter-in-Entry.ensures.found c.elements.invariant.path c.in_ok-at-in-Entry.at (c.in_ok-at-in-Entry.ensures place.0 place.1) c.leave.ensures.path c.leave.ensures.found there;
      there = rest.0;
      half = half_elements_step h r site c.args.depth c.args.at c.args.mark (path_of c.args.linter.now) (found_of c.args.linter.now) c.elements.index c.elements.at c.elements.mark (found_of c.elements.linter) c.elements.invariant.half
          c.in-Entry.field-0 c.in-Entry.value c.in-Entry.behind goes c.requires.kind c.in_ok-at-in-Entry.at (found_of c.leave.new.self)
          (λ q is. child_visited h c.args.depth c.in-Entry.value (path_of c.args.linter.now) (to_element c.elements.index) c.elements.linter c.enter.new.self c.visit_collected.new.linter c.leave.new.self
          (λ path x. collected site.table (kind_at site) (is_null x) path (λ p inner. findings r site.table p c.args.depth inner x) q)
          c.in_ok-enter-in-Entry.ensures.path c.in_ok-enter-in-Entry.ensures.found c.elements.invariant.path c.in_ok-at-in-Entry.at (c.in_ok-at-in-Entry.ensures q is) c.leave.ensures.path c.leave.ensures.found)
          (c.elements.index + 1) (omega arith);
      room = omega (arith, rest.1, c.elements.invariant.room);
    }

pub visit_entries-entries-init : goal.visit_entries-entries-init
visit_entries-entries-init g t c =
    record {
      path = refl;
      there = c.requires.there;
      half = half_map_begins (g.B.Body.holding c.args.body.now) (g.B.Body.rules c.args.body.now) c.args.schema.now.shapes.now c.args.schema.now.place c.args.depth c.args.at c.args.mark (path_of c.args.linter.now) (found_of c.args.linter.now);
    }

pub visit_members-members-init : goal.visit_members-members-init
visit_members-members-init g t c =
    record {
      path = refl;
      there = c.requires.there;
      half = half_members_begin (g.B.Body.holding c.args.body.now) (g.B.Body.rules c.args.body.now) c.args.schema.now.shapes.now c.args.schema.now.place c.args.depth c.args.at c.args.mark (path_of c.args.linter.now) (found_of c.args.linter.now);
      room = omega arith;
    }

pub visit-returns-in-Document : goal.visit-returns-in-Document
visit-returns-in-Document g t c =
    let h = g.B.Body.holding c.args.body.now in
    let r = g.B.Body.rules c.args.body.now in
    let site = site_of c.args.schema.now in
    let kind = document_kind (kind_at site) (rw c.in-Document.is at c.shape_type-kind.ensures) in
    map_ok c.visit_document.result
    (λ end visits x e v.
    let p = visits x e v in (
      p.0,
      subst (Adds c.args.linter.now c.visit_document.new.linter)
          (as_placed r site.table site.place c.args.depth (path_of c.args.linter.now) x kind (λ none. g.B.Body.whole c.args.body.now c.args.depth c.args.at e (subst (λ y. h.value c.args.depth y c.args.at e) none v))) p.1,
    )) c.visit_document.ensures

pub visit_entries-entries-preserved : goal.visit_entries-entries-preserved
visit_entries-entries-preserved g t c =
    let h = g.B.Body.holding c.args.body.now in
    let r = g.B.Body.rules c.args.body.now in
    let goes = rw c.in-Entry.is at c.in_ok-end.ensures in
    let there = item_there h as_object c.args.depth c.entries.at c.entries.mark c.in-Entry.key c.in-Entry.value c.in-Entry.behind c.entries.invariant.there goes in
    let rest = rest_there h as_object c.args.depth c.entries.at c.entries.mark c.in-Entry.key c.in-Entry.value c.in-Entry.behind c.in_ok-at-in-Entry.at c.entries.invariant.there goes
    (λ x e v. (c.in_ok-at-in-Entry.ensures.passes x e v).0) in
    record {
      path = (c.in_ok-at-in-Entry.ensures.passes there.0 there.1 there.2).1 ∙ c.entries.invariant.path;
      there = rest.0;
      half = half_map_step h r (site_of c.args.schema.now) c.args.depth c.args.at c.args.mark (path_of c.args.linter.now) (found_of c.args.linter.now) c.entries.at c.entries.mark c.entries.linter c.visit_map_entry.new.linter c.entries.invariant.half c.entries.invariant.path c.in-Entry.key c.in-Entry.value c.in-Entry.behind goes c.in_ok-at-in-Entry.at c.in_ok-at-in-Entry.ensures.found;
    }

pub visit_map_entry-returns-clause-passes : goal.visit_map_entry-returns-clause-passes
visit_map_entry-returns-clause-passes g t c =
    let h = g.B.Body.holding c.args.body.now in
    let r = g.B.Body.rules c.args.body.now in
    let site = site_of c.args.schema.now in
    let place = map_place (kind_at site) c.requires.kind c.requires.map in
    λ x e v. (
      (c.in_ok-end.ensures place.0 place.1 x e v).0,
      child_path h c.args.depth c.args.at (path_of c.args.linter.now) (to_key (cow_str_bytes c.in-Some.text)) c.args.linter.now c.enter.new.self c.visit_collected.new.linter c.leave.new.self
          (λ path x. collected site.table (kind_at site) (is_null x) path (λ p inner. findings r site.table p c.args.depth inner x) place.0)
          c.in_ok-enter.ensures.path c.in_ok-enter.ensures.found refl c.in_ok-end.end (c.in_ok-end.ensures place.0 place.1) c.leave.ensures.path c.leave.ensures.found (x, e, v),
    )

pub visit_map_entry-returns-clause-found : goal.visit_map_entry-returns-clause-found
visit_map_entry-returns-clause-found g t c =
    let h = g.B.Body.holding c.args.body.now in
    let r = g.B.Body.rules c.args.body.now in
    let site = site_of c.args.schema.now in
    let place = map_place (kind_at site) c.requires.kind c.requires.map in
    let s = cow_str_bytes c.in-Some.text in
    let each : List Step → Node g.B.Body.Scalars → List Found = λ path x. collected site.table (kind_at site) (is_null x) path (λ p inner. findings r site.table p c.args.depth inner x) place.0 in
    map_entry_found h r site c.args.depth c.args.key c.args.at c.args.linter.now c.leave.new.self c.in_ok-end.end s c.requires.kind c.requires.map
    (λ k key_at. c.in_ok-text.ensures k key_at ∙ ap (option_map cow_str_bytes) c.in-Some.is) place.0 place.1
    (child_path h c.args.depth c.args.at (path_of c.args.linter.now) (to_key s) c.args.linter.now c.enter.new.self c.visit_collected.new.linter c.leave.new.self each
    c.in_ok-enter.ensures.path c.in_ok-enter.ensures.found refl c.in_ok-end.end (c.in_ok-end.ensures place.0 place.1) c.leave.ensures.path c.leave.ensures.found c.requires.there)
    (child_visited h c.args.depth c.args.at (path_of c.args.linter.now) (to_key s) c.args.linter.now c.enter.new.self c.visit_collected.new.linter c.leave.new.self each
    c.in_ok-enter.ensures.path c.in_ok-enter.ensures.found refl c.in_ok-end.end (c.in_ok-end.ensures place.0 place.1) c.leave.ensures.path c.leave.ensures.found)

pub visit_members-members-preserved-then-is_variant :
    goal.visit_members-members-preserved-then-is_variant
visit_members-members-preserved-then-is_variant g t c =
    let h = g.B.Body.holding c.args.body.now in
    let r = g.B.Body.rules c.args.body.now in
    let goes = rw c.in-Entry.is at c.in_ok-end.ensures in
    let there = item_there h as_object c.args.depth c.members.at c.members.mark c.in-Entry.key c.in-Entry.value c.in-Entry.behind c.members.invariant.there goes in
    let rest = rest_there h as_object c.args.depth c.members.at c.members.mark c.in-Entry.key c.in-Entry.value c.in-Entry.behind c.in_ok-end-in-Entry.end c.members.invariant.there goes
    (λ x e v. (c.in_ok-end-in-Entry.ensures.passes x e v).0) in
    record {
      path = (c.in_ok-end-in-Entry.ensures.passes there.0 there.1 there.2).1 ∙ c.members.invariant.path;
      there = rest.0;
      half = half_members_step h r (site_of c.args.schema.now) c.args.depth c.args.at c.args.mark (path_of c.args.linter.now) (found_of c.args.linter.now) c.members.variants c.members.at c.members.mark c.members.linter c.visit_entry.new.linter c.members.invariant.half c.members.invariant.path c.in-Entry.key c.in-Entry.value c.in-Entry.behind goes c.in_ok-end-in-Entry.end c.in_ok-end-in-Entry.ensures.found
          c.in_ok-end-in-Entry.is_variant c.in_ok-end-in-Entry.ensures.variant (c.members.variants + 1) (counted_one c.in_ok-end-in-Entry.is_variant c.members.variants (c.members.variants + 1) c.if-is_variant.true (omega arith));
      room = omega (arith, rest.1, c.members.invariant.room);
    }

pub visit_members-members-preserved :
    goal.visit_members-members-preserved
visit_members-members-preserved g t c =
    let h = g.B.Body.holding c.args.body.now in
    let r = g.B.Body.rules c.args.body.now in
    let goes = rw c.in-Entry.is at c.in_ok-end.ensures in
    let there = item_there h as_object c.args.depth c.members.at c.members.mark c.in-Entry.key c.in-Entry.value c.in-Entry.behind c.members.invariant.there goes in
    let rest = rest_there h as_object c.args.depth c.members.at c.members.mark c.in-Entry.key c.in-Entry.value c.in-Entry.behind c.in_ok-end-in-Entry.end c.members.invariant.there goes
    (λ x e v. (c.in_ok-end-in-Entry.ensures.passes x e v).0) in
    record {
      path = (c.in_ok-end-in-Entry.ensures.passes there.0 there.1 there.2).1 ∙ c.members.invariant.path;
      there = rest.0;
      half = half_members_step h r (site_of c.args.schema.now) c.args.depth c.args.at c.args.mark (path_of c.args.linter.now) (found_of c.args.linter.now) c.members.variants c.members.at c.members.mark c.members.linter c.visit_entry.new.linter c.members.invariant.half c.members.invariant.path c.in-Entry.key c.in-Entry.value c.in-Entry.behind goes c.in_ok-end-in-Entry.end c.in_ok-end-in-Entry.ensures.found
          c.in_ok-end-in-Entry.is_variant c.in_ok-end-in-Entry.ensures.variant c.members.variants (counted_none c.in_ok-end-in-Entry.is_variant c.members.variants c.if-is_variant.false);
      room = omega (arith, rest.1, c.members.invariant.room);
    }

pub visit_collected-returns : goal.visit_collected-returns
visit_collected-returns g t c =
    let h = g.B.Body.holding c.args.body.now in
    let r = g.B.Body.rules c.args.body.now in
    let inner = site_of c.in-Some.element in
    map_ok c.pass_with-2.result
    (λ end. null_found h r (site_of c.args.schema.now) inner c.args.depth c.args.at c.args.linter.now c.pass_with-2.new.linter c.in-Null.end end
    (rw c.in-Null.is at c.begins.ensures)
    (λ sparse. let e : true ≡ false = sym (c.is_sparse.ensures.1 sparse) ∙ c.if-is_sparse.false in cc)
    (ap (option_map site_of) (sym c.in-Some.is) ∙ c.member.ensures)
    (λ d.
    let u : Some c.shape_type.result ≡ Some types.Document = c.shape_type.ensures ∙ ap type_of d in
    let doc : c.shape_type.result ≡ types.Document = cc in
    let e : true ≡ false = sym (rw doc at c.eq.ensures) ∙ c.if-eq.false in cc))
    c.pass_with-2.ensures

pub visit_entry-returns-in_default-member-clause-found :
    goal.visit_entry-returns-in_default-member-clause-found
visit_entry-returns-in_default-member-clause-found g t c =
    let h = g.B.Body.holding c.args.body.now in
    let r = g.B.Body.rules c.args.body.now in
    let site = site_of c.args.schema.now in
    let member = option_map site_of c.member_named-member.result in
    let s = cow_str_bytes c.in-Some.text in
    let text : IsKeyText h r c.args.key (Some s) = λ k key_at. c.in_ok-text.ensures k key_at ∙ ap (option_map cow_str_bytes) c.in-Some.is in
    let names = c.member_named-member.ensures ∙ ap (member_named r.name_of site) c.as_str.ensures.value in
    let is = c.keeps_null-2.ensures ∙ ap r.keeps_null (map_twice site_of (λ (s : Site). s.place) c.member_named-member.result) in
    let stays = sym c.dropped_end-2.ensures ∙ c.in_default-dropped_end.is in
    let none = ap (option_map site_of) c.in_default-member.is in
    map_ok c.pass_under.result
    (λ a passes. unnamed_found h r site c.requires.kind c.args.depth c.args.key c.args.at c.begins-beginning.result c.begins-beginning.ensures c.args.linter.now s text member names c.keeps_null-2.result is stays none c.pass_under.new.linter a.0 passes) c.pass_under.ensures.found

pub visit_entry-returns-in_default-member-clause-variant :
    goal.visit_entry-returns-in_default-member-clause-variant
visit_entry-returns-in_default-member-clause-variant g t c =
    let h = g.B.Body.holding c.args.body.now in
    let r = g.B.Body.rules c.args.body.now in
    let site = site_of c.args.schema.now in
    let member = option_map site_of c.member_named-member.result in
    let s = cow_str_bytes c.in-Some.text in
    let text : IsKeyText h r c.args.key (Some s) = λ k key_at. c.in_ok-text.ensures k key_at ∙ ap (option_map cow_str_bytes) c.in-Some.is in
    let names = c.member_named-member.ensures ∙ ap (member_named r.name_of site) c.as_str.ensures.value in
    let is = c.keeps_null-2.ensures ∙ ap r.keeps_null (map_twice site_of (λ (s : Site). s.place) c.member_named-member.result) in
    let stays = sym c.dropped_end-2.ensures ∙ c.in_default-dropped_end.is in
    let none = ap (option_map site_of) c.in_default-member.is in
    map_ok c.pass_under.result
    (λ a variant. subst (IsVariantEntry h r (kind_at site) c.args.depth c.args.key c.args.at) (sym variant)
    (unnamed_variant h r site c.requires.kind c.args.depth c.args.key c.args.at c.begins-beginning.result c.begins-beginning.ensures c.args.linter.now s text member names c.keeps_null-2.result is stays none)) c.pass_under.ensures.variant

pub visit_entry-visit_member-requires : goal.visit_entry-visit_member-requires
visit_entry-visit_member-requires g t c κs within =
    let h = g.B.Body.holding c.args.body.now in
    let r = g.B.Body.rules c.args.body.now in
    let site = site_of c.args.schema.now in
    let member = option_map site_of c.member_named-member.result in
    let s = cow_str_bytes c.in-Some.text in
    let text : IsKeyText h r c.args.key (Some s) = λ k key_at. c.in_ok-text.ensures k key_at ∙ ap (option_map cow_str_bytes) c.in-Some.is in
    let names = c.member_named-member.ensures ∙ ap (member_named r.name_of site) c.as_str.ensures.value in
    let is = c.keeps_null-2.ensures ∙ ap r.keeps_null (map_twice site_of (λ (s : Site). s.place) c.member_named-member.result) in
    let stays = sym c.dropped_end-2.ensures ∙ c.in_default-dropped_end.is in
    let some = ap (option_map site_of) c.in-Some-member.is in (
      omega (arith, c.decreases, c.requires.shallow),
      (search rules, (is_member h r site c.requires.kind c.args.depth c.args.key c.args.at c.begins-beginning.result c.begins-beginning.ensures c.args.linter.now s text member names c.keeps_null-2.result is stays (site_of c.in-Some-member.inner) some, (c.requires.there, c.requires.shallow))),
    )

pub visit_entry-returns-clause-passes : goal.visit_entry-returns-clause-passes
visit_entry-returns-clause-passes g t c =
    let h = g.B.Body.holding c.args.body.now in
    let r = g.B.Body.rules c.args.body.now in
    let site = site_of c.args.schema.now in
    let member = option_map site_of c.member_named-member.result in
    let s = cow_str_bytes c.in-Some.text in
    let text : IsKeyText h r c.args.key (Some s) = λ k key_at. c.in_ok-text.ensures k key_at ∙ ap (option_map cow_str_bytes) c.in-Some.is in
    let names = c.member_named-member.ensures ∙ ap (member_named r.name_of site) c.as_str.ensures.value in
    let is = c.keeps_null-2.ensures ∙ ap r.keeps_null (map_twice site_of (λ (s : Site). s.place) c.member_named-member.result) in
    let stays = sym c.dropped_end-2.ensures ∙ c.in_default-dropped_end.is in
    let some = ap (option_map site_of) c.in-Some-member.is in
    let of = is_member h r site c.requires.kind c.args.depth c.args.key c.args.at c.begins-beginning.result c.begins-beginning.ensures c.args.linter.now s text member names c.keeps_null-2.result is stays (site_of c.in-Some-member.inner) some in
    λ x e v. let p = c.in_ok-end-2.ensures of.0 of.1 x e v in (p.0, p.1.0)

pub visit_entry-returns-clause-found : goal.visit_entry-returns-clause-found
visit_entry-returns-clause-found g t c =
    let h = g.B.Body.holding c.args.body.now in
    let r = g.B.Body.rules c.args.body.now in
    let site = site_of c.args.schema.now in
    let member = option_map site_of c.member_named-member.result in
    let s = cow_str_bytes c.in-Some.text in
    let text : IsKeyText h r c.args.key (Some s) = λ k key_at. c.in_ok-text.ensures k key_at ∙ ap (option_map cow_str_bytes) c.in-Some.is in
    let names = c.member_named-member.ensures ∙ ap (member_named r.name_of site) c.as_str.ensures.value in
    let is = c.keeps_null-2.ensures ∙ ap r.keeps_null (map_twice site_of (λ (s : Site). s.place) c.member_named-member.result) in
    let stays = sym c.dropped_end-2.ensures ∙ c.in_default-dropped_end.is in
    let some = ap (option_map site_of) c.in-Some-member.is in
    member_found h r site c.requires.kind c.args.depth c.args.key c.args.at c.begins-beginning.result c.begins-beginning.ensures c.args.linter.now s text member names c.keeps_null-2.result is stays (site_of c.in-Some-member.inner) some c.visit_member.new.linter c.in_ok-end-2.end c.in_ok-end-2.ensures
