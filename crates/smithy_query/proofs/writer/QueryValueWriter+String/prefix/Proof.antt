-- The borrow checker hands on no `&mut` in a struct in a `Result`, so this proof follows the two calls by hand.
use Rattle.std.proofs.Common.{◌≡◌, [], ◌∷◌, refl, IfOk, OnOk, OnErr, string_bytes}
use mir.Syntax.{named}
use base.Fml.{ftrue, flft}
use base.Logic.{id⊢, emp}
use contract.Monad.{fact, fact_i}
use contract.Running.{tables}
use types.Kit.{‵, raw, ◌⊛◌, some, later, ◌$◌, ◌∵◌, !, qed, done, move, keep, drop, use0, use1, use2, split, join, fjoin, pick, await, suffices}
use types.Run.{enter, addr, stop, no_more, and_then, returns}
use types.ByLocal.{alloc_all, pass_all, free_all, look_at, get, through, sets, lands_as}
use denote.Exit.{yes, no}
use denote.Laws.{Is, shows}
use denote.Ref.{mut_vals, mut_Tells}
use denote.Signature.{plain, named_lft}
use denote.Slice.{shr_slice_vals}
use denote.Steps.{nothing, heard, peeks}
use denote.Text.{StrRefOf, str-laws}
use denote.Triple.Call.{calls_at}
use denote.Triple.Clauses.{Lasts, lasts}
use denote.Triple.Spec.{triple_of}
use denote.Triple.Table.{framed}
use denote.Triple.Walked.{Stays, stay_dropped, Goes-dropped, Goes-spent_ref, ends_at}
use Rattle.std.proofs.raw_atomic.Walks.{proved}
use Rattle.smithy_query.specs.Writer.{string_row, value_row, further, value_borrow, value_text, value_prefix, with_value_text, IsSameValue, LendsValueText}
use Rattle.smithy_query.specs.Private.Place.{IsWriterOf, RestsWithoutValue, LendsFurther}
use Rattle.smithy_query.specs.contracts.writer.QueryValueWriter as value
use Rattle.smithy_query.specs.contracts.writer.QueryValueWriter+String.prefix as f
use Rattle.smithy_query.specs.contracts.writer.QueryValueWriter+String.further_place as text
use Rattle.smithy_query.specs.contracts.writer.value_writer as place
use Rattle.smithy_query.proofs.PlaceLemmas.{Places, Writers, places_lawful, writers_lawful, lends_writer, value_ok, value_err, same_text, same_path, whatever_ok}
use Rattle.smithy_query.proofs.writer.QueryValueWriter+String.prefix.Statement.{statement}
use Rattle.smithy_query.proofs.writer.QueryValueWriter+String.prefix.Code as code
use Rattle.smithy_query.proofs.writer.QueryValueWriter+String.further_place.Met as text_met
use Rattle.smithy_query.proofs.writer.value_writer.Met as place_met

abbrev stayed : Stays f.ended.signature.params f.ended.kept
stayed = (stay_dropped _ no, (stay_dropped _ yes, tt))

pub prefix_spec : {M : Type 1} → statement M
prefix_spec 𝓤 𝓛 𝓜 𝓡 wired =
    let c = f.clauses 𝓛 𝓜.mem 𝓡.returns in let 𝓣 = tables 𝓤 𝓛.H 𝓜 𝓡 𝓡.env in
    proved 𝓛 f.ended stayed c 𝓜 𝓡 (Goes-spent_ref 𝓛 3 (0 ∷ []) tt (plain (λ κs. value.the_row (named_lft 3 1 tt κs) string_row)), (Goes-dropped 𝓛 3 (StrRefOf (2 ∷ []) tt) yes (λ κs x f. refl), tt))
    f.Key.name code.function (code.unfolded 𝓤 𝓛.H 𝓜 𝓡 wired)
    (λ κs. (mut_vals, (shr_slice_vals, tt))) (λ κs. (mut_Tells (named 0) κs.0 (value.the_row (named_lft 3 1 tt κs) string_row), ((str-laws (named_lft 3 2 tt κs)).tells, tt))) (λ κs qs bounds a _ are.
    let κ = κs.0 in let q = qs.0 in let w = a.0.now in
    let Text = triple_of 𝓛 text.signature (text.spec 𝓛 𝓜.mem 𝓡.returns) in
    let y : Text.Ghost = ((κs, qs, bounds, a, (mut_vals a.0, (shr_slice_vals a.1.0, tt))), tt) in
    qed 𝓛 (raw (Text.pre y) ∷ []) ∵ enter ! _ _ _ _ _ $ alloc_all ! (λ l. pass_all ! refl ((tt, tt), ((((str-laws (named_lft 3 2 tt κs)).lawful 𝓛).typed a.1.0 (shr_slice_vals a.1.0) are.1.0).0, tt)) $
    sets ! (addr ! (through ! refl (stop !))) refl (tt, tt) $
    calls_at ! (framed 𝓤 𝓛.H 𝓜 𝓣) Text (text_met.met 𝓤 𝓛 𝓜 𝓡 (code.calls-smithy_query::writer::QueryValueWriter+String::further_place 𝓡.env wired)) y
    (and_then ! (get ! refl) (and_then ! (get ! refl) (no_more !))) (λ v.
    use1 𝓛 (later (some (λ (r : (Places κ).Denot). ((‵ (flft κ q) ⊛ ‵ (flft κs.1.0 qs.1.0) ⊛ ‵ (flft κs.1.1.0 qs.1.1.0) ⊛ ‵ ftrue) ⊛ ‵ ((Places κ).own_val r (v ∷ [])))
    ⊛ some (λ (ws : Lasts text.ended κs a). ‵ (lasts text.ended κs a ws) ⊛ ‵ (LendsFurther a.0 r)
    ⊛ raw (fact 𝓤 (string_bytes r.output.now ≡ value_text w)) ⊛ raw (fact 𝓤 (IfOk r.path (λ p. string_bytes p ≡ further (value_prefix w) (a.1.0.now ∷ [])))))))) (id⊢ 𝓤 _) $
    await ! tt $ pick ! (λ r. split ! $ split ! $ split ! $ move ! (2 ∷ []) $ peeks ! (Places κ) (Is (Places κ)) (shows 𝓛 (Places κ)) r (v ∷ []) (λ is.
    lands_as ! refl refl ((places_lawful κ 𝓛).typed r (v ∷ []) is).0 $
    move ! (3 ∷ []) $ pick ! (λ ws. split ! $ drop ! $ split ! $ move ! (1 ∷ []) $ split ! $ heard ! _ (λ has_text. heard ! _ (λ has_path.
    -- [what follows the text; the place; the token of κ; the other token]
    let Place = triple_of 𝓛 place.signature (place.spec 𝓛 𝓜.mem 𝓡.returns) in
    let z : Place.Ghost = (((κ, tt), (q, tt), tt, (r, tt), (v ∷ [], tt)), tt) in
    nothing ! $ move ! (2 ∷ 0 ∷ []) $ join ! $ nothing ! $ move ! (3 ∷ 0 ∷ []) $ join ! $ join ! $ nothing ! $ move ! (1 ∷ 0 ∷ []) $
    use2 𝓛 (raw (Place.pre z)) (id⊢ 𝓤 _) $
    calls_at ! (framed 𝓤 𝓛.H 𝓜 𝓣) Place (place_met.met 𝓤 𝓛 𝓜 𝓡 (code.calls-smithy_query::writer::value_writer 𝓡.env wired)) z
    (and_then ! (get ! refl) (no_more !)) (λ u.
    use1 𝓛 (later (some (λ (p : (Writers κ).Denot). ((‵ (flft κ q) ⊛ ‵ ftrue) ⊛ ‵ ((Writers κ).own_val p (u ∷ [])))
    ⊛ some (λ (ws : Lasts place.ended (κ, tt) (r, tt)). ‵ (lasts place.ended (κ, tt) (r, tt) ws) ⊛ ‵ (RestsWithoutValue r.output p) ⊛ raw (fact 𝓤 (IsWriterOf r.output r.path p)))))) (id⊢ 𝓤 _) $
    await ! tt $ pick ! (λ p. split ! $ split ! $ split ! $ move ! (2 ∷ []) $ peeks ! (Writers κ) (Is (Writers κ)) (shows 𝓛 (Writers κ)) p (u ∷ []) (λ is.
    lands_as ! refl refl ((writers_lawful κ 𝓛).typed p (u ∷ []) is).0 $
    move ! (3 ∷ []) $ pick ! (λ ws. split ! $ drop ! $ split ! $ move ! (1 ∷ []) $ heard ! _ (λ is_writer.
    returns ! (look_at ! 0 refl) $ free_all ! refl $
    -- [what rests without a writer; the writer; the token of κ; nothing; what follows the text; the other token]
    move ! (4 ∷ 0 ∷ []) $ use2 𝓛 (‵ (LendsValueText a.0 value_borrow p))
    (lends_writer 𝓛 value_row a.0.ghost_name r.output r.path (with_value_text w) (λ text end. OnOk p (end ≡ with_value_text w text)) (λ end. OnErr p (IsSameValue w end))
    (value_ok w p) (value_err w r.output p has_text) p is_writer) $
    keep ! (1 ∷ 2 ∷ 0 ∷ 4 ∷ []) $
    -- [the writer; the token of κ; what follows it; the other token]
    suffices ! _ (ends_at 𝓛 f.ended stayed c y u p (tt, (tt, tt)) (tt, (tt, tt))) $
    nothing ! $ nothing ! $ fjoin ! $ nothing ! $ fjoin ! $ join ! $ move ! (1 ∷ 3 ∷ []) $ join ! $ join ! $
    use0 𝓛 (raw (fact 𝓤 (IfOk p (λ x. value_prefix x ≡ further (value_prefix w) (a.1.0.now ∷ []))))) (fact_i 𝓤 _ (emp 𝓤) (same_path _ r.output r.path p is_writer has_path)) $
    use0 𝓛 (raw (fact 𝓤 (IfOk p (λ x. value_text x ≡ value_text w)))) (fact_i 𝓤 _ (emp 𝓤) (same_text _ r.output r.path p is_writer (whatever_ok r.path has_text))) $
    move ! (2 ∷ 3 ∷ []) $ done !)))))))))))))
