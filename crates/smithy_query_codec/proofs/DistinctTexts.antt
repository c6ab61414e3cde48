-- No two leaves of a structure are written under one path.
use Rattle.std.proofs.Common.{◌≡◌, ◌≢◌, List, ℕ, [], ◌∷◌, sym, ◌∙◌}
use Rattle.std.specs.List.{AllByRecursion}
use Rattle.smithy_shapes.specs.Site.{Site}
use Rattle.smithy_declarations.specs.Value.{Value, structure, MemberValues}
use Rattle.smithy_query_codec.specs.Leaves.{Path, Leaf, MemberRole, leaves, member_leaves}
use Rattle.smithy_query_codec.specs.Canonical.{path_text}
use Rattle.smithy_query_codec.specs.Distinct.{HaveDistinctPaths, HaveDistinctTexts}
use Rattle.smithy_query_codec.proofs.ByteLemmas.{HasBytes}
use Rattle.smithy_query_codec.proofs.Forms.{names_of, HasForm}
use Rattle.smithy_query_codec.proofs.PairLemmas.{each_weaker, pairwise_all, pairwise_weaker}
use Rattle.smithy_query_codec.proofs.DistinctLemmas.{Differ, Begins, Among, leaves_distinct, members_begin}
use Rattle.smithy_query_codec.proofs.ReadableLeaves.{IsReadableLeaf, leaves_readable}
use Rattle.smithy_query_codec.proofs.SegmentLemmas.{IsNameText, HasNoPoint, no_point}
use Rattle.smithy_query_codec.proofs.PathTexts.{same_path}

no_points : (p : Path) → AllByRecursion IsNameText p → AllByRecursion HasNoPoint p
no_points p h = each_weaker IsNameText HasNoPoint no_point p h

-- the path has a segment, and its segments can be told apart
abbrev IsTold : Leaf → Type 0
IsTold l = (l.path ≢ []) × IsReadableLeaf l

not_empty : (P : List ℕ → Type 0) (l : Leaf) → Begins P l → l.path ≢ []
not_empty P l b same = let e : b.0 ∷ b.1 ≡ [] = sym b.2 ∙ same in cc

told : (P : List ℕ → Type 0) (ls : List Leaf) → AllByRecursion (Begins P) ls → AllByRecursion IsReadableLeaf ls → AllByRecursion IsTold ls
told P [] hb hc = tt
told P (l ∷ ls) hb hc = ((not_empty P l hb.0, hc.0), told P ls hb.1 hc.1)

pub distinct_paths : (site : Site) (stand : MemberRole) (v : Value) → HasForm site v → HaveDistinctPaths (leaves site stand v)
distinct_paths site stand v h = pairwise_all Differ (leaves site stand v) (leaves_distinct site stand v h)

pub distinct_texts : (site : Site) (stand : MemberRole) (ms : MemberValues) → HasForm site (structure ms) → HasBytes (structure ms)
    → HaveDistinctTexts (leaves site stand (structure ms))
distinct_texts site stand ms h b =
    pairwise_all (λ (l m : Leaf). path_text l.path ≢ path_text m.path) (member_leaves site ms)
    (pairwise_weaker Differ (λ (l m : Leaf). path_text l.path ≢ path_text m.path) IsTold
    (λ l m hl hm apart same. apart (same_path l.path m.path hl.0 hm.0 (no_points l.path hl.1.0) (no_points m.path hm.1.0) same))
    (member_leaves site ms)
    (told (Among (names_of site ms)) (member_leaves site ms) (members_begin site ms h) (leaves_readable site stand (structure ms) h b))
    (leaves_distinct site stand (structure ms) h))
