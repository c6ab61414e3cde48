-- That the values of a container are counted token by token.
use Rattle.std.proofs.Common.{◌≡◌, ℕ, zero, suc, ◌+◌, ◌-◌, List, [], ◌∷◌, Option, Some, None, option_map, Result, Ok, Err, refl, sym, ◌∙◌, ap, subst, arith, ◌⊎◌, inl, inr}
use Rattle.std.specs.Result.{IfOk}
use Rattle.smithy_json_tokens.specs.Tokens.{JsonToken}
use Rattle.smithy_json_tokens.specs.TokenRules.{Cursor, Answer, finished, found, refused, next_answer, FindsContainer}
use Rattle.smithy_json_tokens.specs.TokenView.{left_from, IsPlace}
use Rattle.smithy_json_tokens.specs.IteratorView.{cursor_of, input_of, GivesNext}
use Rattle.smithy_json_tokens.specs.declared.token_iter.JsonTokenIterator.{JsonTokenIterator}
use Rattle.smithy_json_tokens.specs.declared.error.DeserializeError.{DeserializeError}
use Rattle.smithy_json_tokens.specs.declared.error.DeserializeErrorKind.{DeserializeErrorKind}
use Rattle.smithy_json_tokens.specs.declared.error.DeserializeErrorKind.TheVariants.{NoMemory}
use Rattle.smithy_json_tokens.specs.TokenRuns.{start, Finds, Leads}
use Rattle.smithy_json_tokens.specs.ContainerSize.{part_of, values_inside, size_by, size_of, Tells, HasSize}
use Rattle.smithy_json_tokens.specs.declared.counting.Part.{Part}
use Rattle.smithy_json_tokens.specs.declared.counting.Part.TheVariants.{Begins, Ends, Names, Stands}

found_here : (c e : Cursor) (t u : JsonToken) (here : List ℕ) (d : Cursor) → next_answer c ≡ found t here d → Finds (next_answer c) u e → (t ≡ u) × (d ≡ e)
found_here c e t u here d is finds = subst (λ a. Finds a u e) is finds

finds_it : (c d : Cursor) (t : JsonToken) (here : List ℕ) → next_answer c ≡ found t here d → Finds (next_answer c) t d
finds_it c d t here is = subst (λ a. Finds a t d) (sym is) (refl, refl)

mapped : (g : ℕ → ℕ) (o : Option ℕ) (n : ℕ) → o ≡ Some n → option_map g o ≡ Some (g n)
mapped g o n is = ap (option_map g) is

-- behind a token, what is told from there on is told from here on
pub one_token : (size rest : List JsonToken → Option ℕ) (g : ℕ → ℕ) (c d : Cursor) (t : JsonToken) (here : List ℕ) → next_answer c ≡ found t here d → size [] ≡ None
    → ((ts : List JsonToken) → size (t ∷ ts) ≡ option_map g (rest ts)) → (r : Option ℕ) → Tells rest d r → Tells size c (option_map g r)
one_token size rest g c d t here is none step (Some n) (ts, e, leads, tells) = (t ∷ ts, e, (d, finds_it c d t here is, leads), step ts ∙ mapped g (rest ts) n tells)
one_token size rest g c d t here is none step None told = untold
  where
    untold : (ts : List JsonToken) (e : Cursor) → Leads c ts e → size ts ≡ None
    untold [] e leads = none
    untold (u ∷ us) e leads =
        let same = found_here c leads.0 t u here d is leads.1 in
        subst (λ x. size (x ∷ us) ≡ None) same.0 (step us ∙ ap (option_map g) (told us e (subst (λ x. Leads x us e) (sym same.1) leads.2)))

-- where no token comes, none is told
pub no_token : (size : List JsonToken → Option ℕ) (c : Cursor) → size [] ≡ None → ((u : JsonToken) (d : Cursor) → Finds (next_answer c) u d → ⊥) → Tells size c None
no_token size c none never = untold
  where
    untold : (ts : List JsonToken) (e : Cursor) → Leads c ts e → size ts ≡ None
    untold [] e leads = none
    untold (u ∷ us) e leads = absurd (never u leads.0 leads.1)

-- a token that tells the number whatever follows
pub last_token : (size : List JsonToken → Option ℕ) (c d : Cursor) (t : JsonToken) (here : List ℕ) (n : ℕ) → next_answer c ≡ found t here d → size (t ∷ []) ≡ Some n → Tells size c (Some n)
last_token size c d t here n is tells = (t ∷ [], d, (d, finds_it c d t here is, refl), tells)

-- a token with which nothing is told, whatever follows
pub wrong_token : (size : List JsonToken → Option ℕ) (c d : Cursor) (t : JsonToken) (here : List ℕ) → next_answer c ≡ found t here d → size [] ≡ None → ((ts : List JsonToken) → size (t ∷ ts) ≡ None) → Tells size c None
wrong_token size c d t here is none never = untold
  where
    untold : (ts : List JsonToken) (e : Cursor) → Leads c ts e → size ts ≡ None
    untold [] e leads = none
    untold (u ∷ us) e leads =
        let same = found_here c leads.0 t u here d is leads.1 in
        subst (λ x. size (x ∷ us) ≡ None) same.0 (never us)

same : (o : Option ℕ) → o ≡ option_map (λ n. n) o
same (Some n) = refl
same None = refl

deeper : (n : ℕ) → (n ≡ 0 → ⊥) → (k : ℕ) × (n ≡ suc k)
deeper zero deep = absurd (deep refl)
deeper (suc k) deep = (k, refl)

-- ---- each part, directly in the container and further inside

pub begins_here : (t : JsonToken) (n : ℕ) → part_of t ≡ Begins → n ≡ 0 → (ts : List JsonToken) → values_inside n (t ∷ ts) ≡ option_map suc (values_inside 1 ts)
begins_here t n is here ts = rw (is, here) refl

pub begins_inside : (t : JsonToken) (n : ℕ) → part_of t ≡ Begins → (n ≡ 0 → ⊥) → (ts : List JsonToken) → values_inside n (t ∷ ts) ≡ option_map (λ m. m) (values_inside (n + 1) ts)
begins_inside t n is inside ts =
    let k = deeper n inside in
    let more : suc k.0 + 1 ≡ suc (suc k.0) = omega arith in
    rw (is, k.1, more) (same (values_inside (suc (suc k.0)) ts))

pub ends_inside : (t : JsonToken) (n : ℕ) → part_of t ≡ Ends → (n ≡ 0 → ⊥) → (ts : List JsonToken) → values_inside n (t ∷ ts) ≡ option_map (λ m. m) (values_inside (n - 1) ts)
ends_inside t n is inside ts =
    let k = deeper n inside in
    let less : suc k.0 - 1 ≡ k.0 = omega arith in
    rw (is, k.1, less) (same (values_inside k.0 ts))

pub ends_here : (t : JsonToken) (n : ℕ) → part_of t ≡ Ends → n ≡ 0 → values_inside n (t ∷ []) ≡ Some 0
ends_here t n is here = rw (is, here) refl

pub names_one : (t : JsonToken) (n : ℕ) → part_of t ≡ Names → (ts : List JsonToken) → values_inside n (t ∷ ts) ≡ option_map (λ m. m) (values_inside n ts)
names_one t n is ts = rw is (same (values_inside n ts))

pub stands_here : (t : JsonToken) (n : ℕ) → part_of t ≡ Stands → n ≡ 0 → (ts : List JsonToken) → values_inside n (t ∷ ts) ≡ option_map suc (values_inside n ts)
stands_here t n is here ts = rw (is, here) refl

pub stands_inside : (t : JsonToken) (n : ℕ) → part_of t ≡ Stands → (n ≡ 0 → ⊥) → (ts : List JsonToken) → values_inside n (t ∷ ts) ≡ option_map (λ m. m) (values_inside n ts)
stands_inside t n is inside ts = let k = deeper n inside in rw (is, k.1) (same (values_inside (suc k.0) ts))

-- the first token
pub first_begins : (t : JsonToken) → part_of t ≡ Begins → (ts : List JsonToken) → size_of (t ∷ ts) ≡ option_map (λ m. m) (values_inside 0 ts)
first_begins t is ts = rw is (same (values_inside 0 ts))

not_begun : (p : Part) (o : Option ℕ) → (p ≡ Begins → ⊥) → size_by p o ≡ None
not_begun Begins o other = absurd (other refl)
not_begun _ o other = refl

pub first_not : (t : JsonToken) → (part_of t ≡ Begins → ⊥) → (ts : List JsonToken) → size_of (t ∷ ts) ≡ None
first_not t other ts = not_begun (part_of t) (values_inside 0 ts) other

-- ---- the number so far

abbrev pub more_than : ℕ → Option ℕ → Option ℕ
more_than count r = option_map (λ n. count + n) r

pub one_more : (count : ℕ) (r : Option ℕ) → more_than (count + 1) r ≡ more_than count (option_map suc r)
one_more count (Some n) = ap Some (let e : count + 1 + n ≡ count + suc n = omega arith in e)
one_more count None = refl

pub no_more : (count : ℕ) (r : Option ℕ) → more_than count r ≡ more_than count (option_map (λ m. m) r)
no_more count r = ap (more_than count) (same r)

-- ---- what a call of the iterator tells

pub told_none : {A E : Type 0} (P : Option ℕ → Type 0) (r : Result (Option ℕ) E) → IfOk r (λ n. (n ≡ None) × A) → (A → P None) → IfOk r P
told_none P (Ok n) h f = subst P (sym h.0) (f h.1)
told_none P (Err e) h f = tt

finds_none : (a : Answer) (u : JsonToken) (d : Cursor) → a ≡ finished → Finds a u d → ⊥
finds_none a u d is finds = subst (λ x. Finds x u d) is finds

finds_error : (a : Answer) (kind : DeserializeErrorKind) (place : List ℕ) (u : JsonToken) (d : Cursor) → a ≡ refused kind place → Finds a u d → ⊥
finds_error a kind place u d is finds = subst (λ x. Finds x u d) is finds

-- an iterator that gives no more
pub none_left : (size : List JsonToken → Option ℕ) (s t : JsonTokenIterator) → size [] ≡ None → GivesNext s None t → Tells size (cursor_of s) None
none_left size s t none gives = no_token size (cursor_of s) none (λ u d. finds_none (next_answer (cursor_of s)) u d gives.1.0)

-- one that gives an error which isn't the want of memory
pub error_left : (size : List JsonToken → Option ℕ) (s t : JsonTokenIterator) (e : DeserializeError) → size [] ≡ None → GivesNext s (Some (Err e)) t → (e.kind ≡ NoMemory → ⊥) → Tells size (cursor_of s) None
error_left size s t e none gives fault = no_token size (cursor_of s) none (by gives.1.1)
  where
    by : ((next_answer (cursor_of s) ≡ refused e.kind (left_from (input_of s) e.offset)) × IsPlace (input_of s) e.offset) ⊎ ((e.kind ≡ NoMemory) × FindsContainer (next_answer (cursor_of s))) → (u : JsonToken) (d : Cursor) → Finds (next_answer (cursor_of s)) u d → ⊥
    by (inl h) u d finds = finds_error (next_answer (cursor_of s)) e.kind (left_from (input_of s) e.offset) u d h.0 finds
    by (inr h) u d finds = fault h.0

pub told_through : {E : Type 0} (P Q : Option ℕ → Type 0) (r : Result (Option ℕ) E) → ((n : Option ℕ) → P n → Q n) → IfOk r P → IfOk r Q
told_through P Q (Ok n) f h = f n h
told_through P Q (Err e) f h = tt

-- behind the token that begins a container its size is the number of its values
pub begun : (input : List ℕ) (c d : Cursor) (t : JsonToken) (here : List ℕ) → c ≡ start input → next_answer c ≡ found t here d → part_of t ≡ Begins → (r : Option ℕ) → Tells (values_inside 0) d r → HasSize input r
begun input c d t here begins is part r tells =
    subst (λ x. Tells size_of x r) begins (subst (Tells size_of c) (sym (same r)) (one_token size_of (values_inside 0) (λ m. m) c d t here is refl (first_begins t part) r tells))
