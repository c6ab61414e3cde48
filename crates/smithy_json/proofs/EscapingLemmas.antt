-- A text with its escapes, run by run.
use Rattle.std.proofs.Common.{◌≡◌, ◌+◌, ◌-◌, ◌<◌, ◌≤◌, ℕ, List, ◌++◌, length, take, drop, slice_range, sym, ap, ◌∙◌, arith, append_assoc, Result, Ok, Err, OnOk, OnErr}
use Rattle.std.proofs.lemmas.List.{drop_more, drop_all, append-nil, length-append, take-append-drop}
use Rattle.std.proofs.Math.Seq.{take-append_seam, take-append-add}
use Rattle.std.specs.List.{prefix_len, slice_index}
use Rattle.smithy_json.specs.Appending.{AddsFront}
use Rattle.smithy_json.specs.Escape.{escaped, escaped_byte}
use Rattle.smithy_json_grammar.specs.Private.Chars.{is_plain}
use Rattle.smithy_json.proofs.EscapeLemmas.{escaped_to_stop}

module _ (text : List ℕ) (at stop : ℕ) (run : stop ≡ at + prefix_len is_plain (drop at text)) where
  module _ (out more all : List ℕ) (added : more ≡ out ++ slice_range text at stop) (whole : out ++ escaped (drop at text) ≡ all) where
    -- what is left behind a run
    pub run_written : more ++ escaped (drop stop text) ≡ all
    run_written =
        ap (λ bytes. bytes ++ escaped (drop stop text)) added ∙ append_assoc out _ _
        ∙ ap (λ bytes. out ++ bytes) (sym (escaped_to_stop text at stop run)) ∙ whole

-- where nothing is left, all is written
pub all_written : (text : List ℕ) (stop : ℕ) (out all : List ℕ) → length text ≤ stop → out ++ escaped (drop stop text) ≡ all → out ≡ all
all_written text stop out all past whole =
    sym (append-nil out) ∙ ap (λ rest. out ++ escaped rest) (sym (drop_all stop text past)) ∙ whole

-- what is left behind a byte
pub byte_written : (text : List ℕ) (stop : ℕ) (out more all : List ℕ) → stop < length text → more ≡ out ++ escaped_byte (slice_index text stop)
    → out ++ escaped (drop stop text) ≡ all → more ++ escaped (drop (stop + 1) text) ≡ all
byte_written text stop out more all within byte whole =
    ap (λ bytes. bytes ++ escaped (drop (stop + 1) text)) byte ∙ append_assoc out _ _
    ∙ ap (λ rest. out ++ escaped rest) (sym (drop_more text stop 0 within)) ∙ whole

-- what was written is a front, where the rest makes it the whole
pub front_written : (old out rest more : List ℕ) → out ++ rest ≡ old ++ more → length old ≤ length out → AddsFront old more out
front_written old out rest more whole longer =
    let n = length out - length old in
    let size : length old + n ≡ length out = omega (arith, longer) in
    (n, sym (take-append_seam out rest) ∙ ap (take (length out)) whole ∙ ap (λ k. take k (old ++ more)) (sym size) ∙ take-append-add old more n)

-- a front of what was left is one of the whole
pub front_further : (old more rest all new : List ℕ) → more ++ rest ≡ old ++ all → length old ≤ length more → AddsFront more rest new → AddsFront old all new
front_further old more rest all new whole longer (n, is) =
    let halves : take n rest ++ drop n rest ≡ rest = take-append-drop n rest in
    front_written old new (drop n rest) all
    (ap (λ bytes. bytes ++ drop n rest) is ∙ append_assoc more _ _ ∙ ap (λ bytes. more ++ bytes) halves ∙ whole)
    (omega (arith, ap length is, length-append more (take n rest), longer))

-- a refused call adds nothing to that front
pub front_kept : {T E : Type 0} (result : Result T E) (old more out new : List ℕ) → new ≡ out → AddsFront old more out → OnErr result (AddsFront old more new)
front_kept (Ok x) old more out new same front = tt
front_kept (Err e) old more out new same front = (front.0, same ∙ front.1)

-- what a call makes of the rest behind a front, it makes of the whole
pub rest_written : {T E : Type 0} (result : Result T E) (more rest all new : List ℕ) → more ++ rest ≡ all → OnOk result (new ≡ more ++ rest) → OnOk result (new ≡ all)
rest_written (Ok x) more rest all new whole written = written ∙ whole
rest_written (Err e) more rest all new whole written = tt

pub rest_refused : {T E : Type 0} (result : Result T E) (old more rest all new : List ℕ) → more ++ rest ≡ old ++ all → length old ≤ length more → OnErr result (AddsFront more rest new) → OnErr result (AddsFront old all new)
rest_refused (Ok x) old more rest all new whole longer front = tt
rest_refused (Err e) old more rest all new whole longer front = front_further old more rest all new whole longer front
