-- The borrow checker hands on no `&mut` in a struct in a `Result`, so this proof follows the two calls by hand.
use Rattle.std.proofs.Common.{◌≡◌, ◌++◌, [], ◌∷◌, refl, sym, ap, subst, ◌∙◌, Result, IfOk, string_bytes}
use mir.Syntax.{named}
use base.Fml.{Fml, ftrue, flft}
use base.Logic.{id⊢}
use contract.Monad.{fact}
use contract.Running.{tables}
use types.Kit.{‵, raw, ◌⊛◌, some, later, ◌$◌, ◌∵◌, !, qed, done, move, keep, drop, use1, use2, split, join, fjoin, pick, await, suffices, frame, rewrite}
use types.Run.{enter, addr, stop, no_more, and_then, returns}
use types.ByLocal.{alloc_all, pass_all, free_all, look_at, get, through, sets, lands_as}
use denote.Exit.{yes, no}
use denote.Laws.{Is, shows}
use denote.Ref.{mut_vals, mut_Tells}
use denote.Signature.{plain, named_lft}
use denote.Slice.{shr_slice_vals}
use denote.Steps.{nothing, heard, peeks}
use denote.Text.{StrRefOf, str-laws}
use denote.Triple.Call.{calls_at}
use denote.Triple.Clauses.{Lasts, lasts}
use denote.Triple.Spec.{triple_of}
use denote.Triple.Table.{framed}
use denote.Triple.Walked.{Stays, stay_dropped, Goes-dropped, Goes-spent_ref, ends_at, says}
use Rattle.std.specs.declared.alloc.AllocError.{AllocError}
use Rattle.std.proofs.raw_atomic.Walks.{proved}
use Rattle.smithy_json.specs.declared.writer.JsonValueWriter.{JsonValueWriter}
use Rattle.smithy_json.specs.ValueTexts.{name_text}
use Rattle.smithy_json.specs.Writer.{separator, object_text, object_start, value_borrow, value_text, LendsMember}
use Rattle.smithy_json.specs.Private.Place.{text_borrow, writer_of}
use Rattle.smithy_json.specs.contracts.writer.JsonObjectWriter as object
use Rattle.smithy_json.specs.contracts.writer.JsonObjectWriter.key as f
use Rattle.smithy_json.specs.contracts.writer.JsonObjectWriter.member_text as text
use Rattle.smithy_json.specs.contracts.writer.value_writer as place
use Rattle.smithy_json.proofs.PlaceLemmas.{Texts, Places, texts_lawful, places_lawful, member_lent, same_text}
use Rattle.smithy_json.proofs.writer.JsonObjectWriter.key.Statement.{statement}
use Rattle.smithy_json.proofs.writer.JsonObjectWriter.key.Code as code
use Rattle.smithy_json.proofs.writer.JsonObjectWriter.member_text.Met as text_met
use Rattle.smithy_json.proofs.writer.value_writer.Met as place_met

abbrev stayed : Stays f.ended.signature.params f.ended.kept
stayed = (stay_dropped _ no, (stay_dropped _ yes, tt))

pub key_spec : {M : Type 1} → statement M
key_spec 𝓤 𝓛 𝓜 𝓡 wired =
    let c = f.clauses 𝓛 𝓜.mem 𝓡.returns in let 𝓣 = tables 𝓤 𝓛.H 𝓜 𝓡 𝓡.env in
    proved 𝓛 f.ended stayed c 𝓜 𝓡 (Goes-spent_ref 𝓛 3 (0 ∷ []) tt (plain (λ κs. object.the_row (named_lft 3 1 tt κs))), (Goes-dropped 𝓛 3 (StrRefOf (2 ∷ []) tt) yes (λ κs x f. refl), tt))
    f.Key.name code.function (code.unfolded 𝓤 𝓛.H 𝓜 𝓡 wired)
    (λ κs. (mut_vals, (shr_slice_vals, tt))) (λ κs. (mut_Tells (named 0) κs.0 (object.the_row (named_lft 3 1 tt κs)), ((str-laws (named_lft 3 2 tt κs)).tells, tt))) (λ κs qs bounds a _ are.
    let κ = κs.0 in let q = qs.0 in let w = a.0.now in
    let bytes = object_text w ++ (separator (object_start w) (object_text w) ++ name_text a.1.0.now) in
    let Text = triple_of 𝓛 text.signature (text.spec 𝓛 𝓜.mem 𝓡.returns) in
    let y : Text.Ghost = ((κs, qs, bounds, a, (mut_vals a.0, (shr_slice_vals a.1.0, tt))), tt) in
    qed 𝓛 (raw (Text.pre y) ∷ []) ∵ enter ! _ _ _ _ _ $ alloc_all ! (λ l. pass_all ! refl ((tt, tt), ((((str-laws (named_lft 3 2 tt κs)).lawful 𝓛).typed a.1.0 (shr_slice_vals a.1.0) are.1.0).0, tt)) $
    sets ! (addr ! (through ! refl (stop !))) refl (tt, tt) $
    calls_at ! (framed 𝓤 𝓛.H 𝓜 𝓣) Text (text_met.met 𝓤 𝓛 𝓜 𝓡 (code.calls-smithy_json::writer::JsonObjectWriter::member_text 𝓡.env wired)) y
    (and_then ! (get ! refl) (and_then ! (get ! refl) (no_more !))) (λ v.
    use1 𝓛 (later (some (λ (r : (Texts κ).Denot). ((‵ (flft κ q) ⊛ ‵ (flft κs.1.0 qs.1.0) ⊛ ‵ (flft κs.1.1.0 qs.1.1.0) ⊛ ‵ ftrue) ⊛ ‵ ((Texts κ).own_val r (v ∷ [])))
    ⊛ some (λ (ws : Lasts text.ended κs a). ‵ (lasts text.ended κs a ws) ⊛ ‵ (LendsMember a.0 text_borrow r) ⊛ raw (fact 𝓤 (IfOk r (λ t. string_bytes t.now ≡ bytes))))))) (id⊢ 𝓤 _) $
    await ! tt $ pick ! (λ r. split ! $ split ! $ split ! $ move ! (2 ∷ []) $ peeks ! (Texts κ) (Is (Texts κ)) (shows 𝓛 (Texts κ)) r (v ∷ []) (λ is.
    lands_as ! refl refl ((texts_lawful κ 𝓛).typed r (v ∷ []) is).0 $
    move ! (3 ∷ []) $ pick ! (λ ws. split ! $ drop ! $ split ! $ move ! (1 ∷ []) $ heard ! _ (λ has.
    -- [what follows; the text; the token of κ; the other token]
    let Place = triple_of 𝓛 place.signature (place.spec 𝓛 𝓜.mem 𝓡.returns) in
    let z : Place.Ghost = (((κ, tt), (q, tt), tt, (r, tt), (v ∷ [], tt)), tt) in
    nothing ! $ move ! (2 ∷ 0 ∷ []) $ join ! $ nothing ! $ move ! (3 ∷ 0 ∷ []) $ join ! $ join ! $ nothing ! $ move ! (1 ∷ 0 ∷ []) $
    use2 𝓛 (raw (Place.pre z)) (id⊢ 𝓤 _) $
    calls_at ! (framed 𝓤 𝓛.H 𝓜 𝓣) Place (place_met.met 𝓤 𝓛 𝓜 𝓡 (code.calls-smithy_json::writer::value_writer 𝓡.env wired)) z
    (and_then ! (get ! refl) (no_more !)) (λ u.
    use1 𝓛 (later (some (λ (p : (Places κ).Denot). ((‵ (flft κ q) ⊛ ‵ ftrue) ⊛ ‵ ((Places κ).own_val p (u ∷ [])))
    ⊛ some (λ (ws : Lasts place.ended (κ, tt) (r, tt)). ‵ (lasts place.ended (κ, tt) (r, tt) ws) ⊛ raw (fact 𝓤 (p ≡ writer_of r)))))) (id⊢ 𝓤 _) $
    await ! tt $ pick ! (λ p. split ! $ split ! $ split ! $ move ! (2 ∷ []) $ peeks ! (Places κ) (Is (Places κ)) (shows 𝓛 (Places κ)) p (u ∷ []) (λ is.
    lands_as ! refl refl ((places_lawful κ 𝓛).typed p (u ∷ []) is).0 $
    move ! (3 ∷ []) $ pick ! (λ ws. split ! $ drop ! $ heard ! _ (λ same.
    returns ! (look_at ! 0 refl) $ free_all ! refl $ keep ! (0 ∷ 1 ∷ 3 ∷ 4 ∷ []) $
    -- [the place; the token of κ; what follows; the other token]
    suffices ! _ (ends_at 𝓛 f.ended stayed c y u p (tt, (tt, tt)) (tt, (tt, tt))) $
    nothing ! $ nothing ! $ fjoin ! $ nothing ! $ fjoin ! $ join ! $ move ! (1 ∷ 3 ∷ []) $ join ! $ join ! $ move ! (1 ∷ []) $
    rewrite ! 0 (λ (F : Fml). ‵ F) (member_lent a.0 r ∙ ap (LendsMember a.0 value_borrow) (sym same)) refl $ move ! (1 ∷ []) $ frame ! $
    says ! (subst (λ (p : Result JsonValueWriter AllocError). IfOk p (λ w. value_text w ≡ bytes)) (sym same) (same_text bytes r has)) $ done !))))))))))))
