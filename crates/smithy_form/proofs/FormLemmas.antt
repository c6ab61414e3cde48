-- From the pairs of a form to the value that they tell, and to what is answered.
use Rattle.std.proofs.Common.{◌≡◌, ℕ, List, [], ◌∷◌, false, nat_lt, Result, Ok, Err, length, refl, sym, ◌∙◌, ap, subst, arith}
use Rattle.std.specs.List.{slice_split}
use Rattle.std.proofs.lemmas.Bool.Decides.{nat_tests}
use Rattle.std.proofs.lemmas.List.Splits.{join_with_byte-slice_split}
use Rattle.smithy_declarations.specs.Names.{named}
use Rattle.smithy_declarations.specs.Table.{IsStructure}
use Rattle.smithy_declarations.specs.Value.{Value}
use Rattle.smithy_shapes.specs.Accepted.{IsAccepted}
use Rattle.smithy_shapes.specs.Site.{Site, kind_at}
use Rattle.smithy_query_codec.specs.Leaves.{Leaf, role_of, neither, leaves}
use Rattle.smithy_query_codec.specs.Canonical.{path_text}
use Rattle.smithy_query_codec.proofs.PathTexts.{is_point}
use Rattle.smithy_value.specs.declared.value.Value as kept
use Rattle.smithy_value.specs.View.{view}
use Rattle.smithy_form.specs.declared.error.FormError.{FormError}
use Rattle.smithy_form.specs.declared.error.FormError.TheVariants.{Repeated, NoValue, NoMemory}
use Rattle.smithy_form.specs.Lookup.{AreSame}
use Rattle.smithy_form.specs.Pairs.{NamedText, leaf_pairs, greatest_depth, Tell, TellAlone}
use Rattle.smithy_form.specs.Private.Names.{rest_path, leaves_from}
use Rattle.smithy_form.specs.Private.Reading.{TellHere}
use Rattle.smithy_form.specs.Private.Answers.{ReadsHere}
use Rattle.smithy_form.specs.Private.Order.{SortsPairs}
use Rattle.smithy_form.specs.Private.FormParts.{ReadsValue}
use Rattle.smithy_form.proofs.JoinedPaths.{IsCut, AreCut, named_at, same_by_names, structure_is_cut, one_told_value}
use Rattle.smithy_form.proofs.PlainValues.{whole_of}
use Rattle.smithy_form.proofs.WholeValues.{plain_of}

-- ---- names as paths

joined : (name : List ℕ) → path_text (slice_split is_point name) ≡ name
joined name = join_with_byte-slice_split 46 name

from_start : (name : List ℕ) → rest_path 0 name ≡ slice_split is_point name
from_start name = let short : nat_lt (length name) 0 ≡ false = grind (arith, nat_tests) in rw short refl

-- the leaves of pairs are the pairs
pub pairs_again : (pairs : List NamedText) → leaf_pairs (leaves_from 0 pairs) ≡ pairs
pairs_again [] = refl
pairs_again (p ∷ pairs) = rw (from_start p.0, joined p.0, pairs_again pairs) refl

name_is_cut : (name : List ℕ) → IsCut (slice_split is_point name)
name_is_cut name = ap (slice_split is_point) (joined name)

pub pairs_are_cut : (pairs : List NamedText) → AreCut (leaves_from 0 pairs)
pairs_are_cut [] = tt
pairs_are_cut (p ∷ pairs) = (subst IsCut (sym (from_start p.0)) (name_is_cut p.0), pairs_are_cut pairs)

-- leaves that are the same are so by joined paths
pub names_by_same : (ls ms : List Leaf) → AreCut ls → AreCut ms → AreSame ls ms → (name : List ℕ) → named (leaf_pairs ls) name ≡ named (leaf_pairs ms) name
names_by_same ls ms cut_l cut_m same name =
    let path = slice_split is_point name in
    ap (named (leaf_pairs ls)) (sym (joined name)) ∙ named_at ls cut_l path (name_is_cut name) ∙ same path ∙ sym (named_at ms cut_m path (name_is_cut name))
    ∙ ap (named (leaf_pairs ms)) (joined name)

-- ---- a value of sorted pairs

module _ (site : Site) (accepted : IsAccepted site.table) (kind : IsStructure (kind_at site)) (nameless : role_of site.view ≡ neither)
    (old new : List NamedText) (stays : (name : List ℕ) → named new name ≡ named old name) where
  told : (v : Value) → TellHere site greatest_depth (leaves_from 0 new) v → Tell site old v
  told v here =
      let plain = plain_of site greatest_depth v here.whole here.nests in
      let same : AreSame (leaves_from 0 new) (leaves site neither v) = subst (λ r. AreSame (leaves_from 0 new) (leaves site r v)) nameless here.same in (
        plain,
        λ name. sym (stays name) ∙ ap (λ ps. named ps name) (sym (pairs_again new))
            ∙ names_by_same (leaves_from 0 new) (leaves site neither v) (pairs_are_cut new)
            (structure_is_cut site.table accepted site.place site.view v kind plain.fits plain.counts) same name,
      )

  told_here : (v : Value) → Tell site old v → TellHere site greatest_depth (leaves_from 0 new) v
  told_here v tell = record {
    whole = whole_of site accepted greatest_depth v tell.0;
    nests = tell.0.nests;
    same =
        subst (λ r. AreSame (leaves_from 0 new) (leaves site r v)) (sym nameless)
        (same_by_names (leaves_from 0 new) (leaves site neither v) (pairs_are_cut new)
        (structure_is_cut site.table accepted site.place site.view v kind tell.0.fits tell.0.counts)
        (λ name. ap (λ ps. named ps name) (pairs_again new) ∙ stays name ∙ tell.1 name));
  }

  told_alone : (v : Value) → TellHere site greatest_depth (leaves_from 0 new) v → TellAlone site old v
  told_alone v here =
      let tell = told v here in
      (tell, λ w other. one_told_value site accepted kind greatest_depth old w v other.0 tell.0 other.1 tell.1)

-- what was read from sorted pairs
pub value_read : (site : Site) → IsAccepted site.table → IsStructure (kind_at site) → role_of site.view ≡ neither → (old new : List NamedText) (done : Unit {0})
    → SortsPairs old new (Ok done) → (answer : Result kept.Value FormError) → ReadsHere site greatest_depth (leaves_from 0 new) answer → ReadsValue site old answer
value_read site accepted kind nameless old new done sorted (Ok v) h = (sorted.0, told_alone site accepted kind nameless old new sorted.2 (view v) h)
value_read site accepted kind nameless old new done sorted (Err NoValue) h =
    (sorted.0, λ w tell. h w (told_here site accepted kind nameless old new sorted.2 w tell))
value_read site accepted kind nameless old new done sorted (Err NoMemory) h = tt
value_read site accepted kind nameless old new done sorted (Err _) h = absurd h

-- pairs that weren't sorted
pub sort_refused : (site : Site) (old new : List NamedText) (e : FormError) → SortsPairs old new (Err e) → ReadsValue site old (Err e)
sort_refused site old new (Repeated n) h = h
sort_refused site old new NoMemory h = tt
sort_refused site old new _ h = absurd h
