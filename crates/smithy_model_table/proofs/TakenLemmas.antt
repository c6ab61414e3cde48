-- Names on the wires that members have.
use Rattle.std.proofs.Common.{◌≡◌, ◌∙◌, ℕ, List, [], ◌∷◌, ◌++◌, bytes_eq, refl, sym, ap, subst, true≢false}
use Rattle.std.specs.Prelude.{Bool, true, false, ◌||◌}
use Rattle.std.specs.BTreeSet.{contains_text}
use Rattle.std.specs.List.{list_any}
use Rattle.std.proofs.lemmas.List.Folds.{list_any-append}
use Rattle.smithy_declarations.specs.Acceptance.{json_name_of, query_name_of}
use Rattle.smithy_declarations.specs.Decl.{MemberDecl}
use Rattle.smithy_model_table.specs.declared.taken.TakenNames as kept
use Rattle.smithy_model_table.specs.Outcomes.{clashes}
use Rattle.smithy_model_table.specs.Roles.{Gains}
use Rattle.smithy_model_table.specs.Taken.{AreTaken}

regrouped : (a b c d : Bool) → ((a || b) || (c || d)) ≡ ((a || c) || (b || d))
regrouped true b c d = refl
regrouped false true true d = refl
regrouped false true false d = refl
regrouped false false true d = refl
regrouped false false false d = refl

any_either : {A : Type 0} (p q : A → Bool) (xs : List A) → list_any (λ x. p x || q x) xs ≡ (list_any p xs || list_any q xs)
any_either p q [] = refl
any_either p q (x ∷ xs) = ap (λ b. (p x || q x) || b) (any_either p q xs) ∙ regrouped (p x) (q x) (list_any p xs) (list_any q xs)

parts : (earlier : List MemberDecl) (d : MemberDecl) → clashes earlier d
    ≡ (list_any (λ e. bytes_eq (json_name_of e) (json_name_of d)) earlier || list_any (λ e. bytes_eq (query_name_of e) (query_name_of d)) earlier)
parts earlier d =
    any_either (λ e. bytes_eq (json_name_of e) (json_name_of d)) (λ e. bytes_eq (query_name_of e) (query_name_of d)) earlier

or_first : (a b : Bool) → a ≡ true → true ≡ (a || b)
or_first true b is = refl
or_first false b is = absurd (true≢false (sym is))

or_second : (a b : Bool) → a ≡ false → b ≡ (a || b)
or_second true b is = cc (is)
or_second false b is = refl

-- its name in JSON is there
pub clash_in_json : (earlier : List MemberDecl) (d : MemberDecl) (names : kept.TakenNames) (name : List ℕ) → AreTaken earlier names → name ≡ json_name_of d
    → contains_text names.json name ≡ true → true ≡ clashes earlier d
clash_in_json earlier d names name taken is there =
    or_first (list_any (λ e. bytes_eq (json_name_of e) (json_name_of d)) earlier) (list_any (λ e. bytes_eq (query_name_of e) (query_name_of d)) earlier)
    (sym (taken.json (json_name_of d)) ∙ subst (λ n. contains_text names.json n ≡ true) is there)
    ∙ sym (parts earlier d)

-- it isn't, and so the name in a form tells
pub clash_in_form : (earlier : List MemberDecl) (d : MemberDecl) (names : kept.TakenNames) (name form : List ℕ) (there : Bool) → AreTaken earlier names → name ≡ json_name_of d
    → form ≡ query_name_of d → contains_text names.json name ≡ false → there ≡ contains_text names.form form → there ≡ clashes earlier d
clash_in_form earlier d names name form there taken is named other tells =
    tells ∙ ap (contains_text names.form) named ∙ taken.form (query_name_of d)
    ∙ or_second (list_any (λ e. bytes_eq (json_name_of e) (json_name_of d)) earlier) (list_any (λ e. bytes_eq (query_name_of e) (query_name_of d)) earlier)
    (sym (taken.json (json_name_of d)) ∙ subst (λ n. contains_text names.json n ≡ false) is other)
    ∙ sym (parts earlier d)

turned : (a b : Bool) → (a || b) ≡ (b || (a || false))
turned true true = refl
turned true false = refl
turned false true = refl
turned false false = refl

one_more : (f : MemberDecl → List ℕ) (earlier : List MemberDecl) (d : MemberDecl) (name : List ℕ) (before behind : Bool) → behind ≡ (bytes_eq (f d) name || before)
    → before ≡ list_any (λ e. bytes_eq (f e) name) earlier → behind ≡ list_any (λ e. bytes_eq (f e) name) (earlier ++ d ∷ [])
one_more f earlier d name before behind gained so_far =
    gained ∙ ap (λ b. bytes_eq (f d) name || b) so_far ∙ turned (bytes_eq (f d) name) (list_any (λ e. bytes_eq (f e) name) earlier)
    ∙ sym (list_any-append (λ e. bytes_eq (f e) name) earlier (d ∷ []))

-- the names of one member more
pub taken_more : (earlier : List MemberDecl) (d : MemberDecl) (names now : kept.TakenNames) (json form : List ℕ) → json ≡ json_name_of d → form ≡ query_name_of d
    → Gains (λ other. bytes_eq json other) (contains_text names.json) (contains_text now.json)
    → Gains (λ other. bytes_eq form other) (contains_text names.form) (contains_text now.form)
    → AreTaken earlier names → AreTaken (earlier ++ d ∷ []) now
taken_more earlier d names now json form named also in_json in_form taken = record {
  json = λ name. one_more json_name_of earlier d name (contains_text names.json name) (contains_text now.json name)
      (in_json name ∙ ap (λ n. bytes_eq n name || contains_text names.json name) named) (taken.json name);
  form = λ name. one_more query_name_of earlier d name (contains_text names.form name) (contains_text now.form name)
      (in_form name ∙ ap (λ n. bytes_eq n name || contains_text names.form name) also) (taken.form name);
}
