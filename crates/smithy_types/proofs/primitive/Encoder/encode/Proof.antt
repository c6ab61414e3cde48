-- The borrow checker follows no `&str` that is lent from a `&mut`, so this proof follows the two calls by hand.
use Rattle.std.proofs.Common.{◌≡◌, [], ◌∷◌, refl, ◌∙◌, IsUtf8}
use mir.Syntax.{named}
use base.Fml.{ftrue, flft}
use base.Logic.{id⊢, emp}
use contract.Monad.{fact, fact_i}
use contract.Running.{tables}
use types.Kit.{‵, raw, ◌⊛◌, some, later, ◌$◌, ◌∵◌, !, qed, done, move, keep, drop, use0, use1, use2, split, join, fjoin, pick, await, suffices, frame}
use types.Run.{enter, addr, stop, no_more, and_then, returns}
use types.ByLocal.{alloc_all, pass_all, free_all, look_at, get, through, sets, lands_as}
use denote.Builtin.{u8}
use denote.Exit.{no}
use denote.Laws.{Is, shows}
use denote.Ref.{mut_vals, mut_Tells}
use denote.RattleType.{RattleType}
use denote.Signature.{plain}
use denote.Slice.{ShrSlice, shr_slice_Lawful}
use denote.Steps.{nothing, heard, peeks}
use denote.Text.{Str, str-laws}
use denote.Triple.Call.{calls_at}
use denote.Triple.Clauses.{Lasts, lasts}
use denote.Triple.Spec.{triple_of}
use denote.Triple.Table.{framed}
use denote.Triple.Walked.{Stays, stay_dropped, Goes-spent_ref, ends_at, says}
use Rattle.std.proofs.raw_atomic.Walks.{proved}
use Rattle.smithy_types.specs.EncoderRests.{Rests}
use Rattle.smithy_types.specs.contracts.primitive.Encoder as encoder
use Rattle.smithy_types.specs.contracts.primitive.Encoder.encode as f
use Rattle.smithy_types.specs.contracts.primitive.Encoder.bytes as bytes
use Rattle.smithy_types.specs.contracts.primitive.as_text as text
use Rattle.smithy_types.proofs.primitive.Encoder.encode.Statement.{statement}
use Rattle.smithy_types.proofs.primitive.Encoder.encode.Code as code
use Rattle.smithy_types.proofs.primitive.Encoder.bytes.Met as bytes_met
use Rattle.smithy_types.proofs.primitive.as_text.Met as text_met

abbrev stayed : Stays f.ended.signature.params f.ended.kept
stayed = (stay_dropped _ no, tt)

pub encode_spec : {M : Type 1} → statement M
encode_spec 𝓤 𝓛 𝓜 𝓡 wired =
    let c = f.clauses 𝓛 𝓜.mem 𝓡.returns in let 𝓣 = tables 𝓤 𝓛.H 𝓜 𝓡 𝓡.env in
    proved 𝓛 f.ended stayed c 𝓜 𝓡 (Goes-spent_ref 𝓛 1 (0 ∷ []) tt (plain (λ κs. encoder.the_row)), tt)
    f.Key.name code.function (code.unfolded 𝓤 𝓛.H 𝓜 𝓡 wired)
    (λ κs. (mut_vals, tt)) (λ κs. (mut_Tells (named 0) κs.0 encoder.the_row, tt)) (λ κs qs bounds a _ are.
    let κ = κs.0 in let q = qs.0 in let w = a.0.now in
    let Shown : RattleType = ShrSlice (named 0) κ u8 in let Text : RattleType = Str (named 0) κ in
    let Bytes = triple_of 𝓛 bytes.signature (bytes.spec 𝓛 𝓜.mem 𝓡.returns) in
    let y : Bytes.Ghost = ((κs, qs, bounds, a, (mut_vals a.0, tt)), tt) in
    qed 𝓛 (raw (Bytes.pre y) ∷ []) ∵ enter ! _ _ _ _ _ $ alloc_all ! (λ l. pass_all ! refl ((tt, tt), tt) $
    sets ! (addr ! (through ! refl (stop !))) refl (tt, tt) $
    calls_at ! (framed 𝓤 𝓛.H 𝓜 𝓣) Bytes (bytes_met.met 𝓤 𝓛 𝓜 𝓡 (code.calls-smithy_types::primitive::Encoder::bytes 𝓡.env wired)) y
    (and_then ! (get ! refl) (no_more !)) (λ v.
    use1 𝓛 (later (some (λ (r : Shown.Denot). ((‵ (flft κ q) ⊛ ‵ ftrue) ⊛ ‵ (Shown.own_val r (v ∷ [])))
    ⊛ some (λ (ws : Lasts bytes.ended κs a). ‵ (lasts bytes.ended κs a ws) ⊛ ‵ (Rests a.0) ⊛ raw (fact 𝓤 (r.now ≡ w)) ⊛ raw (fact 𝓤 (IsUtf8 r.now)))))) (id⊢ 𝓤 _) $
    await ! tt $ pick ! (λ r. split ! $ split ! $ split ! $ move ! (2 ∷ []) $ peeks ! Shown (Is Shown) (shows 𝓛 Shown) r (v ∷ []) (λ is.
    lands_as ! refl refl ((shr_slice_Lawful 𝓛 (named 0) κ u8).typed r (v ∷ []) is).0 $
    move ! (3 ∷ []) $ pick ! (λ ws. split ! $ drop ! $ split ! $ move ! (1 ∷ []) $ split ! $ heard ! _ (λ has. heard ! _ (λ utf8.
    -- [what the encoder ends as; the bytes; the token of κ; nothing]
    let Texts = triple_of 𝓛 text.signature (text.spec 𝓛 𝓜.mem 𝓡.returns) in
    let z : Texts.Ghost = (((κ, tt), (q, tt), tt, (r, tt), (v ∷ [], tt)), tt) in
    nothing ! $ move ! (2 ∷ 0 ∷ []) $ join ! $ nothing ! $ move ! (3 ∷ 0 ∷ []) $ join ! $ join ! $
    use0 𝓛 (raw (fact 𝓤 (IsUtf8 r.now))) (fact_i 𝓤 _ (emp 𝓤) utf8) $ move ! (1 ∷ 0 ∷ []) $
    use2 𝓛 (raw (Texts.pre z)) (id⊢ 𝓤 _) $
    calls_at ! (framed 𝓤 𝓛.H 𝓜 𝓣) Texts (text_met.met 𝓤 𝓛 𝓜 𝓡 (code.calls-smithy_types::primitive::as_text 𝓡.env wired)) z
    (and_then ! (get ! refl) (no_more !)) (λ u.
    use1 𝓛 (later (some (λ (p : Text.Denot). ((‵ (flft κ q) ⊛ ‵ ftrue) ⊛ ‵ (Text.own_val p (u ∷ [])))
    ⊛ some (λ (ws : Lasts text.ended (κ, tt) (r, tt)). ‵ (lasts text.ended (κ, tt) (r, tt) ws) ⊛ raw (fact 𝓤 (p.now ≡ r.now)))))) (id⊢ 𝓤 _) $
    await ! tt $ pick ! (λ p. split ! $ split ! $ split ! $ move ! (2 ∷ []) $ peeks ! Text (Is Text) (shows 𝓛 Text) p (u ∷ []) (λ is.
    lands_as ! refl refl (((str-laws (record { mir = named 0; lft = κ })).lawful 𝓛).typed p (u ∷ []) is).0 $
    move ! (3 ∷ []) $ pick ! (λ ws. split ! $ drop ! $ heard ! _ (λ same.
    returns ! (look_at ! 0 refl) $ free_all ! refl $ keep ! (0 ∷ 1 ∷ 3 ∷ 4 ∷ []) $
    -- [the text; the token of κ; what the encoder ends as; nothing]
    suffices ! _ (ends_at 𝓛 f.ended stayed c y u p (tt, tt) (tt, tt)) $
    nothing ! $ nothing ! $ fjoin ! $ join ! $ move ! (1 ∷ 3 ∷ []) $ join ! $ join ! $ frame ! $
    says ! (same ∙ has) $ done !)))))))))))))
