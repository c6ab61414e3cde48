-- A place for a value, from the text that it is written to: who follows the text follows the place.
use Rattle.std.proofs.Common.{◌≡◌, ℕ, List, [], ◌∷◌, refl, sym, ap, subst, ◌∙◌, MutBor, String, Global, Result, Ok, Err, IfOk, OnOk, OnErr, string_bytes}
use base.Fml.{Lft, GName, fres}
use base.Logic.{ent, sep, via, fst∗, ex_i}
use types.Kit.{‵, ◌$◌, ◌∵◌, !, qed, done, move, use2, fpick, fpack}
use types.Logic.{Logic, sem}
use seplogic.Ra.Ura.{Ura}
use denote.Follow.{follows, follows_by, follows_if, follows_so, such_by, followed}
use denote.Laws.{Lawful}
use denote.Param.Laws.{Laws}
use denote.RattleType.{RattleType}
use denote.Ref.{NamedLft}
use mir.Syntax.{named}
use mathlib.Core.Option as maybe
use Rattle.std.specs.Borrow.{name_if_ok}
use Rattle.std.specs.declared.alloc.AllocError.{AllocError}
use Rattle.std.specs.contracts.alloc.AllocError as error
use Rattle.std.specs.contracts.result.Result as result
use Rattle.std.specs.contracts.impls.GlobalAllocator.TheImpl.{ghosts}
use Rattle.std.specs.contracts.alloc.Global as global
use Rattle.std.proofs.alloc.Global.TheLaws as global_laws
use Rattle.std.proofs.alloc.AllocError.TheLaws as error_laws
use Rattle.std.proofs.string.String.TheLaws as string_laws
use Rattle.std.proofs.result.Result.TheLaws as result_laws
use Rattle.smithy_query.specs.Writer.{ValueWriter, ListWriter, MapWriter, string_row, value_borrow, value_text, list_text, map_text, value_prefix, with_value_text, with_element, with_entry, IsSameValue, IsSameList, IsSameMap}
use Rattle.smithy_query.specs.Private.Place.{IsWriterOf, RestsWithoutValue, counted}
use Rattle.smithy_query.specs.contracts.writer.NextPlace as place
use Rattle.smithy_query.specs.contracts.writer.QueryValueWriter as value
use Rattle.smithy_query.proofs.writer.NextPlace.TheLaws as place_laws
use Rattle.smithy_query.proofs.writer.QueryValueWriter.TheLaws as value_laws

same_output : {output : MutBor (String Global)} (path : Result (String Global) AllocError) (w : ValueWriter) → IsWriterOf output path (Ok w) → w.output ≡ output
same_output (Ok p) w is = is.0
same_output (Err e) w is = absurd is

-- ---- who follows the text follows the writer there, and has what the text was where there is none

module _ {M : Type 1} {𝓤 : Ura M} (𝓛 : Logic 𝓤) (R : RattleType) (γ : GName) (output : MutBor (String Global)) (path : Result (String Global) AllocError)
    (F : String Global → R.Denot) (P : String Global → R.Denot → Type 0) (P₀ : R.Denot → Type 0)
    (ok : (text : String Global) → P text (F text))
    (err : (end : String Global) → string_bytes end ≡ string_bytes output.now → P₀ (F end)) where
  abbrev Such : Type 0
  Such = (s : (String Global → R.Denot) × R.Denot) × ((text : String Global) → P text (s.0 text)) × P₀ s.1

  pub lends_writer : (r : Result ValueWriter AllocError) → IsWriterOf output path r
      → ent 𝓤 (sep 𝓤 (sem 𝓛 (follows R string_row γ output.ghost_name F)) (sem 𝓛 (RestsWithoutValue output r)))
      (sem 𝓛 (follows_so R string_row γ (name_if_ok value_borrow r) P P₀))
  unfolding such_by follows_by
  lends_writer (Ok w) is =
      subst (λ (name : GName). ent 𝓤 (sep 𝓤 (sem 𝓛 (follows R string_row γ output.ghost_name F)) (sem 𝓛 (RestsWithoutValue output (Ok w)))) (sem 𝓛 (follows_so R string_row γ (maybe.some name) P P₀)))
      (ap (λ (o : MutBor (String Global)). o.ghost_name) (sym (same_output path w is)))
      (via 𝓤 (sem 𝓛 (follows R string_row γ output.ghost_name F)) (fst∗ 𝓤 (sem 𝓛 (follows R string_row γ output.ghost_name F)) (sem 𝓛 (RestsWithoutValue output (Ok w))))
      (ex_i 𝓤 (λ (y : Such). sem 𝓛 (follows_if R string_row γ (maybe.some output.ghost_name) y.0.0 y.0.1)) ((F, F output.now), ok, err output.now refl)))
  lends_writer (Err e) is =
      qed 𝓛 (‵ (follows R string_row γ output.ghost_name F) ∷ ‵ (RestsWithoutValue output (Err e)) ∷ []) ∵ move ! (1 ∷ []) $ fpick ! (λ s. move ! (1 ∷ 0 ∷ []) $
      use2 𝓛 (‵ (fres γ (R.coded.code (F s.0.1)))) (followed 𝓛 R string_row F γ output.ghost_name s.0.1) $
      fpack ! Such (λ y. follows_if R string_row γ maybe.none y.0.0 y.0.1) ((F, F s.0.1), ok, err s.0.1 s.2) $ done !)

-- ---- what the three lenders are then

pub value_ok : (w : ValueWriter) (r : Result ValueWriter AllocError) (text : String Global) → OnOk r (with_value_text w text ≡ with_value_text w text)
value_ok w (Ok x) text = refl
value_ok w (Err e) text = tt

pub value_err : (w : ValueWriter) (output : MutBor (String Global)) (r : Result ValueWriter AllocError) → string_bytes output.now ≡ value_text w
    → (end : String Global) → string_bytes end ≡ string_bytes output.now → OnErr r (IsSameValue w (with_value_text w end))
value_err w output (Ok x) has end same = tt
value_err w output (Err e) has end same = (same ∙ has, refl)

module _ (w : ListWriter) where
  abbrev pub next_list : Result (String Global) AllocError → String Global → ListWriter
  next_list path text = record w { output = record w.output { now = text }; next_index = counted path w.next_index }

  pub list_ok : (output : MutBor (String Global)) (path : Result (String Global) AllocError) (r : Result ValueWriter AllocError)
      → IsWriterOf output path r → (text : String Global) → OnOk r (next_list path text ≡ with_element w text)
  list_ok output (Ok p) (Ok x) is text = refl
  list_ok output (Ok p) (Err e) is text = absurd is
  list_ok output (Err e) (Ok x) is text = absurd is
  list_ok output (Err e) (Err e') is text = tt

  pub list_err : (output : MutBor (String Global)) (path : Result (String Global) AllocError) (r : Result ValueWriter AllocError)
      → IsWriterOf output path r → string_bytes output.now ≡ list_text w
      → (end : String Global) → string_bytes end ≡ string_bytes output.now → OnErr r (IsSameList w (next_list path end))
  list_err output (Ok p) (Ok x) is has end same = tt
  list_err output (Ok p) (Err e) is has end same = absurd is
  list_err output (Err e) (Ok x) is has end same = absurd is
  list_err output (Err e) (Err e') is has end same = (same ∙ has, refl)

module _ (w : MapWriter) where
  abbrev pub next_map : Result (String Global) AllocError → String Global → MapWriter
  next_map path text = record w { output = record w.output { now = text }; next_index = counted path w.next_index }

  pub map_ok : (output : MutBor (String Global)) (path : Result (String Global) AllocError) (r : Result ValueWriter AllocError)
      → IsWriterOf output path r → (text : String Global) → OnOk r (next_map path text ≡ with_entry w text)
  map_ok output (Ok p) (Ok x) is text = refl
  map_ok output (Ok p) (Err e) is text = absurd is
  map_ok output (Err e) (Ok x) is text = absurd is
  map_ok output (Err e) (Err e') is text = tt

  pub map_err : (output : MutBor (String Global)) (path : Result (String Global) AllocError) (r : Result ValueWriter AllocError)
      → IsWriterOf output path r → OnErr path (string_bytes output.now ≡ map_text w)
      → (end : String Global) → string_bytes end ≡ string_bytes output.now → OnErr r (IsSameMap w (next_map path end))
  map_err output (Ok p) (Ok x) is has end same = tt
  map_err output (Ok p) (Err e) is has end same = absurd is
  map_err output (Err e) (Ok x) is has end same = absurd is
  map_err output (Err e) (Err e') is has end same = (same ∙ has, refl)

-- ---- what a writer has of its place

pub same_text : (bytes : List ℕ) (output : MutBor (String Global)) (path : Result (String Global) AllocError) (r : Result ValueWriter AllocError)
    → IsWriterOf output path r → OnOk path (string_bytes output.now ≡ bytes) → IfOk r (λ x. value_text x ≡ bytes)
same_text bytes output (Ok p) (Ok x) is has = ap (λ (o : MutBor (String Global)). string_bytes o.now) is.0 ∙ has
same_text bytes output (Ok p) (Err e) is has = tt
same_text bytes output (Err e) (Ok x) is has = absurd is
same_text bytes output (Err e) (Err e') is has = tt

pub same_path : (bytes : List ℕ) (output : MutBor (String Global)) (path : Result (String Global) AllocError) (r : Result ValueWriter AllocError)
    → IsWriterOf output path r → IfOk path (λ p. string_bytes p ≡ bytes) → IfOk r (λ x. value_prefix x ≡ bytes)
same_path bytes output (Ok p) (Ok x) is has = is.1 ∙ has
same_path bytes output (Ok p) (Err e) is has = tt
same_path bytes output (Err e) (Ok x) is has = absurd is
same_path bytes output (Err e) (Err e') is has = tt

pub whatever_ok : {A E : Type 0} {P : Type 0} (r : Result A E) → P → OnOk r P
whatever_ok (Ok x) p = p
whatever_ok (Err e) p = tt

-- ---- the rows of a place and of a writer's answer at a lifetime

module _ (κ : Lft) where
  abbrev lifetime : NamedLft
  lifetime = record { mir = named 0; lft = κ }

  abbrev Path : RattleType
  Path = result.the_row string_row error.the_row

  abbrev pub Places : RattleType
  Places = place.the_row lifetime Path

  abbrev pub Writers : RattleType
  Writers = result.the_row (value.the_row lifetime string_row) error.the_row

  string_row_laws : Laws string_row
  string_row_laws = string_laws.the_row_laws global.the_row ghosts global_laws.the_row_laws

  module _ {M : Type 1} {𝓤 : Ura M} (𝓛 : Logic 𝓤) where
    pub places_lawful : Lawful 𝓛 Places
    places_lawful = (place_laws.the_row_laws lifetime Path (result_laws.the_row_laws string_row error.the_row string_row_laws error_laws.the_row_laws)).lawful 𝓛

    pub writers_lawful : Lawful 𝓛 Writers
    writers_lawful = (result_laws.the_row_laws (value.the_row lifetime string_row) error.the_row (value_laws.the_row_laws lifetime string_row string_row_laws) error_laws.the_row_laws).lawful 𝓛
