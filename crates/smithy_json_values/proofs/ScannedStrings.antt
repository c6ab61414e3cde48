-- What stands between two quotation marks behind white space is the token of a string that lies there, and back.
use Rattle.std.proofs.Common.{◌≡◌, ◌+◌, ◌-◌, ◌≤◌, ℕ, suc, List, [], ◌∷◌, ◌++◌, length, drop, get_or, slice_index, slice_range, Bool, sym, ap, ◌∙◌, arith, refl, subst, append_assoc}
use Rattle.std.proofs.lemmas.List.{length-drop, length-append, drop_more, drop-drop, get_or-drop}
use Rattle.smithy_json_grammar.specs.Ascii.{quotation_mark, name_separator, is_ws}
use Rattle.smithy_json_grammar.specs.StringText.{IsQuoted}
use Rattle.smithy_json_grammar.specs.Standing.{IsRunAt, IsQuotedAt}
use Rattle.smithy_json_grammar.proofs.LenientTextLemmas.{one_closing}
use Rattle.smithy_json_grammar.proofs.SliceLemmas.{drop-slice, slice_between, drop_past_text}
use Rattle.smithy_json_values.specs.Scalar.{a_string}
use Rattle.smithy_json_values.specs.Spans.{Lies, IsByte}
use Rattle.smithy_json_values.specs.Tokens.{BoundaryBy, IsToken, IsNameToken, token_frames}
use Rattle.smithy_json_values.specs.Private.BytePlaces.{settle_at}
use Rattle.smithy_json_values.specs.Private.NamePlaces.{name_parts}
use Rattle.smithy_json_values.specs.Private.TokenPlaces.{one_token}
use Rattle.smithy_json_values.proofs.ScannedPlaces.{IsPlain, stands_lies, lies_behind}

-- the byte where a text and then it is left
byte_is : (i : List ℕ) (at b : ℕ) (rest : List ℕ) → drop at i ≡ b ∷ rest → slice_index i at ≡ b
byte_is i at b rest h =
    let here : at + 0 ≡ at = omega arith in
    sym (get_or-drop at i 0 0 ∙ ap (λ n. get_or i n 0) here) ∙ ap (λ s. get_or s 0 0) h

one_on : (i : List ℕ) (at b : ℕ) (rest : List ℕ) → drop at i ≡ b ∷ rest → drop (at + 1) i ≡ rest
one_on i at b rest h = sym (drop-drop 1 at i) ∙ ap (drop 1) h

-- the quotation marks, what stands between them, and what is behind them
quoted_front : (i : List ℕ) (o c : ℕ) → IsQuotedAt i o c → drop o i ≡ quotation_mark ∷ (slice_range i (o + 1) c ++ quotation_mark ∷ drop (c + 1) i)
quoted_front i o c h =
    let mark : drop c i ≡ quotation_mark ∷ drop (c + 1) i = drop_more i c 0 h.within ∙ ap (λ b. b ∷ drop (c + 1) i) h.closes in
    let inner = drop-slice i (o + 1) c (omega (arith, h.ordered)) ∙ ap (λ r. slice_range i (o + 1) c ++ r) mark in
    let opens : drop o i ≡ quotation_mark ∷ drop (o + 1) i = drop_more i o 0 (omega (arith, h.ordered, h.within)) ∙ ap (λ b. b ∷ drop (o + 1) i) h.opens in
    opens ∙ ap (λ r. quotation_mark ∷ r) inner

-- where the bytes of a string are left, it stands, and this is what stands between its marks
quoted_stands : (i : List ℕ) (o : ℕ) (raw rest : List ℕ) → o ≤ length i → drop o i ≡ quotation_mark ∷ (raw ++ quotation_mark ∷ rest) → IsQuoted raw
    → IsQuotedAt i o (o + 1 + length raw) × (slice_range i (o + 1) (o + 1 + length raw) ≡ raw)
quoted_stands i o raw rest within front text =
    let c = o + 1 + length raw in
    let inner : drop (o + 1) i ≡ raw ++ quotation_mark ∷ rest = one_on i o quotation_mark (raw ++ quotation_mark ∷ rest) front in
    let n : length i - o ≡ suc (length raw + suc (length rest)) = sym (length-drop o i) ∙ ap length front ∙ ap suc (length-append raw (quotation_mark ∷ rest)) in
    let mark : drop c i ≡ quotation_mark ∷ rest = drop_past_text i (o + 1) raw (quotation_mark ∷ rest) inner (omega (arith, n, within)) in
    let inside : drop (o + 1) i ≡ raw ++ drop c i = inner ∙ ap (λ r. raw ++ r) (sym mark) in
    let slice = slice_between i (o + 1) c raw (omega (arith)) (omega (arith, n, within)) inside in (
      record {
        ordered = omega arith;
        within = omega (arith, n, within);
        opens = byte_is i o quotation_mark (raw ++ quotation_mark ∷ rest) front;
        quoted = subst IsQuoted (sym slice) text;
        closes = byte_is i c quotation_mark rest mark;
      },
      slice,
    )

plain_string : (raw : List ℕ) → IsPlain (IsToken (a_string raw))
plain_string raw text rest h = rw h.0 refl

plain_name : (raw : List ℕ) → IsPlain (IsNameToken raw)
plain_name raw text rest h = rw h.1 refl

module _ (i : List ℕ) (at start : ℕ) (run : IsRunAt is_ws i at start) where
  module _ (c : ℕ) (here : IsQuotedAt i start c) where
    abbrev found : List ℕ
    found = slice_range i (start + 1) c

    -- the token lies there
    pub token_lies : Lies (IsToken (a_string found)) i at (c + 1)
    token_lies =
        let text = quotation_mark ∷ (found ++ quotation_mark ∷ []) in
        let front : drop start i ≡ text ++ drop (c + 1) i = quoted_front i start c here ∙ simp append_assoc in
        let slice = slice_between i start (c + 1) text (omega (arith, here.ordered)) (omega (arith, here.within)) front in
        stands_lies i at start run (IsToken (a_string found)) (c + 1) (omega (arith, here.ordered)) (omega (arith, here.within)) (slice, here.quoted)

    pub string_lies : (strict : Bool) → BoundaryBy strict (drop (c + 1) i) → (token_frames strict).scalar i 0 (a_string found) at (c + 1)
    string_lies strict boundary = (token_lies, tt, boundary)

    -- and no other string
    pub boundary_there : (strict : Bool) (raw : List ℕ) (e : ℕ) → (token_frames strict).scalar i 0 (a_string raw) at e → BoundaryBy strict (drop (c + 1) i)
    boundary_there strict raw e h =
        let same = (one_token i (a_string raw) (a_string found) at e (c + 1) h.0 tt token_lies tt).1 in
        subst (λ n. BoundaryBy strict (drop n i)) same h.2

    -- with its colon it is a name
    pub name_lies : (e : ℕ) → Lies (IsByte name_separator) i (c + 1) e → Lies (IsNameToken found) i at e
    name_lies e h =
        let middle = h.2.0 in
        let text = quotation_mark ∷ (found ++ (quotation_mark ∷ (middle ++ name_separator ∷ []))) in
        let behind : drop (c + 1) i ≡ middle ++ (name_separator ∷ drop e i) = h.2.2 ∙ ap (λ t. middle ++ (t ++ drop e i)) h.2.4 in
        let front : drop start i ≡ text ++ drop e i =
        quoted_front i start c here ∙ ap (λ r. quotation_mark ∷ (found ++ (quotation_mark ∷ r))) behind ∙ sym (name_parts found middle (drop e i)) in
        let ordered : start ≤ e = omega (arith, here.ordered, h.0) in
        let slice = slice_between i start e text ordered h.1 front in
        stands_lies i at start run (IsNameToken found) e ordered h.1 (middle, slice, here.quoted, h.2.3)

  -- what lies there stands behind the white space
  pub token_stands : (raw : List ℕ) (e : ℕ) → Lies (IsToken (a_string raw)) i at e
      → IsQuotedAt i start (start + 1 + length raw) × (slice_range i (start + 1) (start + 1 + length raw) ≡ raw)
  token_stands raw e h =
      let front = lies_behind i at start run (IsToken (a_string raw)) e (plain_string raw) h in
      let whole : drop start i ≡ quotation_mark ∷ (raw ++ quotation_mark ∷ drop e i) = front ∙ ap (λ t. t ++ drop e i) h.2.4.0 ∙ simp append_assoc in
      quoted_stands i start raw (drop e i) run.within whole h.2.4.1

  module _ (raw : List ℕ) (e : ℕ) (h : Lies (IsNameToken raw) i at e) where
    -- what comes behind the string of a name
    abbrev colon : List ℕ
    colon = h.2.4.0 ++ (name_separator ∷ drop e i)

    name_front : drop start i ≡ quotation_mark ∷ (raw ++ quotation_mark ∷ colon)
    name_front = lies_behind i at start run (IsNameToken raw) e (plain_name raw) h ∙ ap (λ t. t ++ drop e i) h.2.4.1 ∙ name_parts raw h.2.4.0 (drop e i)

    -- so does the string of a name
    pub name_stands : IsQuotedAt i start (start + 1 + length raw) × (slice_range i (start + 1) (start + 1 + length raw) ≡ raw)
    name_stands = quoted_stands i start raw colon run.within name_front h.2.4.2

    -- its colon lies behind the string that stands there
    pub colon_lies : (c : ℕ) → IsQuotedAt i start c → Lies (IsByte name_separator) i (c + 1) e
    colon_lies c here =
        let same : c ≡ start + 1 + length raw = one_closing i start c (start + 1 + length raw) here name_stands.0 in
        let inner : drop (start + 1) i ≡ raw ++ quotation_mark ∷ colon = one_on i start quotation_mark (raw ++ quotation_mark ∷ colon) name_front in
        let within = name_stands.0.within in
        let mark : drop (start + 1 + length raw) i ≡ quotation_mark ∷ colon = drop_past_text i (start + 1) raw (quotation_mark ∷ colon) inner (omega (arith, within)) in
        let behind : drop (c + 1) i ≡ colon = ap (λ n. drop (n + 1) i) same ∙ one_on i (start + 1 + length raw) quotation_mark colon mark in
        settle_at (IsByte name_separator) i (c + 1) e h.2.4.0 (name_separator ∷ []) (omega (arith, here.within)) h.1 behind h.2.4.3 refl
