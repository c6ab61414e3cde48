-- What a call that lints a body answers.
use Rattle.std.specs.Prelude.{◌≡◌, ◌⊎◌, ◌<◌, ℕ, List, [], ◌∷◌, length, map as mapped, flat_map, Option, Ok, Err}
use Rattle.smithy_declarations.specs.Table.{Table}
use Rattle.smithy_transcode.specs.Wires.{Wire}
use Rattle.smithy_compare.specs.PathText.{text_of_path}
use Rattle.smithy_lint.specs.Findings.{Found}
use Rattle.smithy_lint.specs.Lint.{Answer, Lints}
use Rattle.smithy_lint.specs.View.{found_of}
use Rattle.smithy_transcode_c.specs.Refusals.{refusal_number}
use Rattle.smithy_transcode_c.specs.Numbers.{lint_number, kind_number}
use Rattle.smithy_transcode_c.specs.declared.refusal.Refusal.{Refusal}
use Rattle.smithy_transcode_c.specs.Calls.{IsMeantAlone, RefusesAlone, StandsFirst}

-- the caller's memory for findings: the length of each path's text, each kind, and the texts one behind another
pub record Memory : Type 0 where
  pub lens : List ℕ
  pub kinds : List ℕ
  pub out : List ℕ

abbrev pub path_of_finding : Table → (root : ℕ) → Found → List ℕ
path_of_finding table root f = text_of_path table root f.path

-- of each finding, in order: the length of its path's text, the number of its kind, and the text itself
abbrev pub told : Table → (root : ℕ) → List Found → Memory
told table root found = record {
  lens = mapped (λ f. length (path_of_finding table root f)) found;
  kinds = mapped (λ (f : Found). kind_number f.kind) found;
  out = flat_map (path_of_finding table root) found;
}

-- 0 where nothing was found, and else 60
abbrev pub found_number : List Found → ℕ
found_number [] = 0
found_number (f ∷ more) = 60

-- all of it stands first in the caller's memory; or some of it has no room, and the memory stays as it was
abbrev pub IsHandedOutWhole : (done : ℕ) → (all before : Memory) → (number : ℕ) → (after : Memory) → Type 0
IsHandedOutWhole done all before number after =
    ((number ≡ done) × StandsFirst all.lens before.lens after.lens × StandsFirst all.kinds before.kinds after.kinds × StandsFirst all.out before.out after.out)
    ⊎ ((number ≡ 24) × ((length before.lens < length all.lens) ⊎ (length before.kinds < length all.kinds) ⊎ (length before.out < length all.out))
    × (after ≡ before))

-- what becomes of an answer of `lint`
abbrev pub IsToldOfFindings : Table → (root : ℕ) → Answer → (before : Memory) → (number count len : ℕ) → (after : Memory) → Type 0
IsToldOfFindings table root (Ok findings) before number count len after =
    (count ≡ length findings.items) × (len ≡ length (told table root (mapped found_of findings.items)).out)
    × IsHandedOutWhole (found_number (mapped found_of findings.items)) (told table root (mapped found_of findings.items)) before number after
IsToldOfFindings table root (Err error) before number count len after =
    (number ≡ lint_number error) × (count ≡ 0) × (len ≡ 0) × (after ≡ before)

-- What a call that lints a body answers: why it has nothing to look for, or what becomes of the answer of `lint`.
abbrev pub FindingsAnswer : Table → (root_name : List ℕ) → (asked : Option Wire) → (input : List ℕ) → (before : Memory)
    → (number count len : ℕ) → (after : Memory) → Type 0
FindingsAnswer table root_name asked input before number count len after =
    ((refusal : Refusal) × RefusesAlone table root_name asked refusal × (number ≡ refusal_number refusal) × (count ≡ 0) × (len ≡ 0) × (after ≡ before))
    ⊎ ((root : ℕ) × (wire : Wire) × (answer : Answer) × IsMeantAlone table root_name asked root wire
    × Lints table root wire input answer × IsToldOfFindings table root answer before number count len after)
