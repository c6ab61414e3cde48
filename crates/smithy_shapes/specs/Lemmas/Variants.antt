-- Exactly one variant, entry by entry: what is known of it so far.
use Rattle.std.specs.Prelude.{◌≡◌, ◌&&◌, ◌||◌, not, ℕ, List, [], ◌∷◌, filter, Option, Some, None, Bool, true, false, refl, option_and_then, option_map, cond, if◌then◌else◌}
use Rattle.smithy_declarations.specs.Value.{Value, union}
use Rattle.smithy_shapes.specs.Container.{Entry, folded, is_type_mark, is_variant, all_regular, variant_of}
use Rattle.smithy_shapes.specs.Lemmas.Entries.{entry_with}

-- the first variant; a second one is too many
abbrev pub first_variant : Option Value → Option ℕ → Option Value → Option (Option Value)
first_variant None position meaning = option_and_then (λ n. option_map (λ v. Some (union n v)) meaning) position
first_variant (Some v) position meaning = None

-- the variant so far, after one more entry
abbrev pub variant_step : Entry → Option Value → Option (Option Value)
variant_step e variant =
    option_and_then
    (λ key. if e.is_absent then Some variant
    else if is_type_mark e.position key then (if e.is_skippable then Some variant else None)
    else first_variant variant e.position e.meaning) e.key

-- what the variants that are left give, behind this one if there is one
abbrev left_of : Option Value → List Entry → Option Value
left_of None es = variant_of es
left_of (Some v) [] = Some v
left_of (Some v) (e ∷ es) = None

nothing_left : (b : Bool) → cond {A = Option Value} b None None ≡ None
nothing_left true = refl
nothing_left false = refl

same_where : (b : Bool) (x y : Option Value) → x ≡ y → cond b x None ≡ cond b y None
same_where true x y h = h
same_where false x y h = refl

no_first : (key : Option (List ℕ)) (m : Option Value) (absent skips nil : Bool) (fs : List Entry) → variant_of (entry_with key None m absent skips nil ∷ fs) ≡ None
no_first key m absent skips nil [] = refl
no_first key m absent skips nil (f ∷ fs) = refl

meaningless : (key : Option (List ℕ)) (n : ℕ) (absent skips nil : Bool) (fs : List Entry) → variant_of (entry_with key (Some n) None absent skips nil ∷ fs) ≡ None
meaningless key n absent skips nil [] = refl
meaningless key n absent skips nil (f ∷ fs) = refl

one_first : (key : Option (List ℕ)) (n : ℕ) (v : Value) (absent skips nil : Bool) (fs : List Entry)
    → variant_of (entry_with key (Some n) (Some v) absent skips nil ∷ fs) ≡ left_of (Some (union n v)) fs
one_first key n v absent skips nil [] = refl
one_first key n v absent skips nil (f ∷ fs) = refl

abbrev Goes : List Entry → Type 0
Goes es = (s : Option Value) → cond (all_regular es) (left_of s (filter is_variant es)) None ≡ option_and_then (λ v. v) (folded variant_step s es)

first_goes : (key : List ℕ) (pos : Option ℕ) (m : Option Value) (skips nil : Bool) (es : List Entry) → Goes es → (s : Option Value)
    → cond (all_regular es) (left_of s (entry_with (Some key) pos m false skips nil ∷ filter is_variant es)) None
    ≡ option_and_then (λ v. v) (option_and_then (λ after. folded variant_step after es) (first_variant s pos m))
first_goes key pos m skips nil es goes (Some v) = nothing_left (all_regular es)
first_goes key None m skips nil es goes None = rw (no_first (Some key) m false skips nil (filter is_variant es)) (nothing_left (all_regular es))
first_goes key (Some n) None skips nil es goes None = rw (meaningless (Some key) n false skips nil (filter is_variant es)) (nothing_left (all_regular es))
first_goes key (Some n) (Some v) skips nil es goes None =
    rw (one_first (Some key) n v false skips nil (filter is_variant es)) (goes (Some (union n v)))

mark_goes : (mark skips : Bool) (key : List ℕ) (pos : Option ℕ) (m : Option Value) (nil : Bool) (es : List Entry) → Goes es → (s : Option Value)
    → cond ((not mark || skips) && all_regular es) (left_of s (cond (not mark) (entry_with (Some key) pos m false skips nil ∷ filter is_variant es) (filter is_variant es))) None
    ≡ option_and_then (λ v. v)
    (option_and_then (λ after. folded variant_step after es) (cond mark (cond skips (Some s) None) (first_variant s pos m)))
mark_goes true true key pos m nil es goes s = goes s
mark_goes true false key pos m nil es goes s = refl
mark_goes false skips key pos m nil es goes s = first_goes key pos m skips nil es goes s

entry_goes : (key : Option (List ℕ)) (pos : Option ℕ) (m : Option Value) (absent skips nil : Bool) (es : List Entry) → Goes es
    → Goes (entry_with key pos m absent skips nil ∷ es)
entry_goes None pos m absent skips nil es goes s = refl
entry_goes (Some key) pos m true skips nil es goes s = goes s
entry_goes (Some key) pos m false skips nil es goes s = mark_goes (is_type_mark pos key) skips key pos m nil es goes s

all_go : (es : List Entry) → Goes es
all_go [] None = refl
all_go [] (Some v) = refl
all_go (e ∷ es) s = entry_goes e.key e.position e.meaning e.is_absent e.is_skippable e.is_null es (all_go es) s

-- going through the entries one by one finds the one variant
pub variants_folded : (es : List Entry) → (if all_regular es then variant_of (filter is_variant es) else None) ≡ option_and_then (λ v. v) (folded variant_step None es)
variants_folded es = all_go es None
