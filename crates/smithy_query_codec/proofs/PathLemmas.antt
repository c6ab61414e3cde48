-- Paths as they are written, with further segments and cut back.
use Rattle.std.proofs.Common.{◌≡◌, ◌≢◌, ℕ, List, [], ◌∷◌, ◌++◌, length, take, refl, sym, ◌∙◌, ap, append_assoc}
use Rattle.std.specs.List.{AllByRecursion}
use Rattle.std.specs.Str.{byte}
use Rattle.std.proofs.lemmas.List.{append-nil}
use Rattle.std.proofs.Math.Seq.{take-append_seam}
use Rattle.smithy_query_codec.specs.Leaves.{Path}
use Rattle.smithy_query_codec.specs.Canonical.{path_text}
use Rattle.smithy_query_codec.specs.Writing.{dotted, extended}

-- no segment is empty
abbrev pub AreSegments : Path → Type 0
AreSegments path = AllByRecursion (λ (s : List ℕ). s ≢ []) path

pub segments-append : (p q : Path) → AreSegments p → AreSegments q → AreSegments (p ++ q)
segments-append [] q hp hq = hq
segments-append (s ∷ p) q hp hq = (hp.0, segments-append p q hp.1 hq)

pub segments_front : (p q : Path) → AreSegments (p ++ q) → AreSegments p
segments_front [] q h = tt
segments_front (s ∷ p) q h = (h.0, segments_front p q h.1)

dotted_full : (p s : List ℕ) → p ≢ [] → dotted p s ≡ p ++ byte "." ∷ s
dotted_full [] s full = absurd (full refl)
dotted_full (b ∷ p) s full = refl

path_full : (s : List ℕ) (p : Path) → s ≢ [] → path_text (s ∷ p) ≢ []
path_full [] p full = absurd (full refl)
path_full (b ∷ s) [] full = λ e. cc
path_full (b ∷ s) (t ∷ p) full = λ e. cc

path_text_more : (p : Path) (s : List ℕ) → AreSegments p → dotted (path_text p) s ≡ path_text (p ++ s ∷ [])
path_text_more [] s full = refl
path_text_more (x ∷ []) s full = dotted_full x s full.0
path_text_more (x ∷ y ∷ p) s full =
    let rest = path_text (y ∷ p) in
    dotted_full (x ++ byte "." ∷ rest) s (path_full x (y ∷ p) full.0)
    ∙ append_assoc x (byte "." ∷ rest) (byte "." ∷ s)
    ∙ ap (λ t. x ++ byte "." ∷ t) (sym (dotted_full rest s (path_full y p full.1.0)) ∙ path_text_more (y ∷ p) s full.1)

-- a path that is written goes on with further segments
pub extended_path : (p more : Path) → AreSegments (p ++ more) → extended (path_text p) more ≡ path_text (p ++ more)
extended_path p [] full = rw (append-nil p) refl
extended_path p (s ∷ more) full =
    let again : AreSegments ((p ++ s ∷ []) ++ more) = rw (append_assoc p (s ∷ []) more) full in
    ap (λ t. extended t more) (path_text_more p s (segments_front p (s ∷ more) full))
    ∙ extended_path (p ++ s ∷ []) more again
    ∙ ap path_text (append_assoc p (s ∷ []) more)

dotted_begins : (p s : List ℕ) → (rest : List ℕ) × (dotted p s ≡ p ++ rest)
dotted_begins [] s = (s, refl)
dotted_begins (b ∷ p) s = (byte "." ∷ s, refl)

-- and begins as it did
extended_begins : (p : List ℕ) (more : Path) → (rest : List ℕ) × (extended p more ≡ p ++ rest)
extended_begins p [] = ([], sym (append-nil p))
extended_begins p (s ∷ more) =
    let one = dotted_begins p s in
    let all = extended_begins (dotted p s) more in
    (one.0 ++ all.0, all.1 ∙ ap (λ t. t ++ all.0) one.1 ∙ append_assoc p one.0 all.0)

pub cut_back : (p : List ℕ) (more : Path) → take (length p) (extended p more) ≡ p
cut_back p more = let is = extended_begins p more in rw is.1 (take-append_seam p is.0)

-- a path that is written, cut to a front of it
pub cut_path : (p more : Path) → AreSegments (p ++ more) → take (length (path_text p)) (path_text (p ++ more)) ≡ path_text p
cut_path p more full = rw (← extended_path p more full) (cut_back (path_text p) more)
