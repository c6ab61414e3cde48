-- What is left of a document on the way through it: the open containers end one after another.
use Rattle.std.proofs.Common.{◌≡◌, ◌≤◌, ◌∙◌, ℕ, suc, drop, List, [], ◌∷◌, Bool, true, false, fold, nat_le, Option, Some, None, option_map, option_and_then, refl, sym, ap, subst, arith, if◌then◌else◌}
use Rattle.std.proofs.lemmas.Bool.Decides.{nat_tests}
use Rattle.smithy_types.specs.Document.{Document, array, object, Documents, no_documents, item, Properties, put_property, with_pair}
use Rattle.smithy_types.specs.declared.number.Number.{Number}
use Rattle.smithy_shapes.specs.Lemmas.Options.{same_some, chosen}
use Rattle.smithy_json.proofs.DocumentLemmas.{some_of_map, some_of_then, some_of_pair}
use Rattle.smithy_schema.specs.Reading.{Mark}
use Rattle.smithy_json_values.specs.Settings.{Settings, kept, is_within}
use Rattle.smithy_json_values.specs.Scalar.{JsonScalar, a_string}
use Rattle.smithy_json_values.specs.Spans.{Lies, IsByte, fresh_mark, entry_mark}
use Rattle.smithy_json_values.specs.Tokens.{BoundaryBy}
use Rattle.smithy_json_values.specs.LexicalGrammar.{LexicalGrammar, frames_of, token_rules}
use Rattle.smithy_json_values.specs.Documents.{says_in, document_in, DocumentLies, NoDocumentLies}
use Rattle.smithy_json_values.specs.Private.NextInContainer.{ClosesIn}
use Rattle.smithy_json_values.specs.Private.NodeDepths.{deeper}
use Rattle.smithy_json_values.specs.Private.Skipping.{form_of, opening, closing}
use Rattle.smithy_json_values.specs.Private.OpenDocuments.{OpenContainer, open_array, open_object, Waiting, waiting_array, waiting_object, add_element, with_value, fresh, document_of, is_object, name_text, EntryBegins, NoEntry}
use Rattle.smithy_wire.specs.Documents.{elements_of, pairs_of}
use Rattle.smithy_wire.specs.Frames.{Lies as LiesAsNode, NodesLie}
use Rattle.smithy_wire.specs.Node.{as_object, Node, container, Nodes, no_nodes, node}
use Rattle.smithy_wire.specs.Rules.{at_depth, key_text}
use Rattle.smithy_wire.specs.Lemmas.Nodes.{one_node}
use Rattle.smithy_json_values.proofs.OpenContainers.{grammar_is_wire, inside_mark, bracket_only}

-- ---- limits

-- a value may stand at this depth
abbrev pub Allows : Settings → ℕ → Type 0
Allows c n = is_within c.limits c.max_depth n ≡ true

at_most : (n greatest : ℕ) → n ≤ greatest → nat_le n greatest ≡ true
at_most n greatest h = grind (arith, nat_tests)

pub allowed_within : (c : Settings) → c.limits ≡ kept → (n : ℕ) → n ≤ c.max_depth → Allows c n
allowed_within c keeps n h = ap (λ l. is_within l c.max_depth n) keeps ∙ at_most n c.max_depth h

most : (n greatest : ℕ) → nat_le n greatest ≡ true → n ≤ greatest
most n greatest h = grind (arith, nat_tests)

pub within_allowed : (c : Settings) → c.limits ≡ kept → (n : ℕ) → Allows c n → n ≤ c.max_depth
within_allowed c keeps n h = most n c.max_depth (sym (ap (λ l. is_within l c.max_depth n) keeps) ∙ h)

pub allows_depth : {A : Type 0} (g : LexicalGrammar) (c : Settings) (n : ℕ) (m : Option A) → Allows c n → at_depth (token_rules g c) n m ≡ m
allows_depth g c n m h = ap (λ b. if b then m else None) h

pub depth_allowed : {A : Type 0} (g : LexicalGrammar) (c : Settings) (n : ℕ) (m : Option A) (x : A) → at_depth (token_rules g c) n m ≡ Some x → Allows c n × (m ≡ Some x)
depth_allowed g c n m x h = chosen (is_within c.limits c.max_depth n) m x h

-- ---- elements and properties, more behind what is there

abbrev pub join : Documents Number → Documents Number → Documents Number
join no_documents es = es
join (item d ds) es = item d (join ds es)

join_none : (ds : Documents Number) → join ds no_documents ≡ ds
join_none no_documents = refl
join_none (item d ds) = ap (item d) (join_none ds)

join_add : (ds : Documents Number) (d : Document Number) (es : Documents Number) → join (add_element ds d) es ≡ join ds (item d es)
join_add no_documents d es = refl
join_add (item e ds) d es = ap (item e) (join_add ds d es)

abbrev pub put_all : Properties Number → List (List ℕ × Document Number) → Properties Number
put_all ps pairs = fold (λ qs pair. put_property pair.0 pair.1 qs) ps pairs

abbrev more_elements : Documents Number → Documents Number → Document Number
more_elements ds others = array (join ds others)

abbrev more_pairs : Properties Number → List (List ℕ × Document Number) → Document Number
more_pairs ps pairs = object (put_all ps pairs)

-- ---- what is left of one container

-- the document that an open container is with what these nodes mean in it
abbrev pub whole_of : LexicalGrammar → Settings → ℕ → OpenContainer → Nodes JsonScalar → Option (Document Number)
whole_of g c n (open_array ds) xs = option_map (more_elements ds) (elements_of (token_rules g c) (says_in g) n xs)
whole_of g c n (open_object ps) xs = option_map (more_pairs ps) (pairs_of (token_rules g c) (says_in g) n xs)

-- from b on the other entries of a container come, whose inside has this depth, and it ends at f as the document
pub record ContainerEnds (g : LexicalGrammar) (c : Settings) (n : ℕ) (o : OpenContainer) (entered : Bool) (i : List ℕ) (b : ℕ) (d : Document Number) (f : ℕ) : Type 0 where
  pub nodes : Nodes JsonScalar
  pub lie : NodesLie (frames_of g) (form_of (is_object o)) i 2 nodes b (inside_mark entered) f
  pub follows : BoundaryBy g.is_strict (drop f i)
  pub allowed : Allows c n
  pub means : whole_of g c n o nodes ≡ Some d

-- ---- what is left of all

-- how many containers are open, of which so many don't belong to the document
abbrev pub level : ℕ → List Waiting → ℕ
level depth [] = depth
level depth (w ∷ ws) = suc (level depth ws)

-- the value x ends at f, and behind it the containers end one after another, the last at e as the document d
abbrev pub Goes : LexicalGrammar → Settings → ℕ → List Waiting → List ℕ → Document Number → ℕ → Document Number → ℕ → Type 0
Goes g c depth [] i x f d e = (x ≡ d) × (f ≡ e)
Goes g c depth (w ∷ ws) i x f d e =
    (y : Document Number) × (h : ℕ) × ContainerEnds g c (suc (level depth ws)) (with_value w x) true i f y h
    × Goes g c depth ws i y h d e

goes_from : (g : LexicalGrammar) (c : Settings) (depth : ℕ) (ws : List Waiting) (i : List ℕ) (x y : Document Number) (f h : ℕ) (d : Document Number) (e : ℕ)
    → x ≡ y → f ≡ h → Goes g c depth ws i x f d e → Goes g c depth ws i y h d e
goes_from g c depth ws i x y f h d e same there goes =
    subst (λ z. Goes g c depth ws i z h d e) same (subst (λ z. Goes g c depth ws i x z d e) there goes)

-- where the walk is: a value is due, or it is inside of a container, behind an entry or not, or behind a value
pub data Turn : Type 0 where
  due : Turn
  inside : OpenContainer → Bool → Turn
  behind : Document Number → Turn

abbrev pub Left : LexicalGrammar → Settings → ℕ → Turn → List Waiting → List ℕ → ℕ → Document Number → ℕ → Type 0
Left g c depth due ws i at d e =
    (x : Document Number) × (f : ℕ) × DocumentLies g c (level depth ws) i at x f × Goes g c depth ws i x f d e
Left g c depth (inside o entered) ws i at d e =
    (x : Document Number) × (f : ℕ) × ContainerEnds g c (suc (level depth ws)) o entered i at x f × Goes g c depth ws i x f d e
Left g c depth (behind x) ws i at d e = Goes g c depth ws i x at d e

-- a document lies from the start on where, and as, what is left goes on
pub record IsLeft (g : LexicalGrammar) (c : Settings) (depth : ℕ) (turn : Turn) (ws : List Waiting) (i : List ℕ) (start at : ℕ) : Type 0 where
  pub back : (d : Document Number) (e : ℕ) → Left g c depth turn ws i at d e → DocumentLies g c depth i start d e
  pub forth : (d : Document Number) (e : ℕ) → DocumentLies g c depth i start d e → Left g c depth turn ws i at d e

pub left_all : (g : LexicalGrammar) (c : Settings) (depth : ℕ) (i : List ℕ) (at : ℕ) → IsLeft g c depth due [] i at at
left_all g c depth i at = record {
  back = λ d e h.
      let here = subst (λ x. DocumentLies g c depth i at x h.1) h.3.0 h.2 in
      subst (λ f. DocumentLies g c depth i at d f) h.3.1 here;
  forth = λ d e h. (d, e, h, (refl, refl));
}

-- ---- a value is due

-- the document at a place and its end are determined
pub same_document : (g : LexicalGrammar) (c : Settings) (n : ℕ) (i : List ℕ) (a : ℕ) (x y : Document Number) (e f : ℕ)
    → DocumentLies g c n i a x e → DocumentLies g c n i a y f → (x ≡ y) × (e ≡ f)
same_document g c n i a x y e f h k =
    let same = one_node (frames_of g) (grammar_is_wire g) i 1 h.node k.node a e f h.lies k.lies in
    (same_some x y (sym h.means ∙ ap (document_in g c n) same.0 ∙ k.means), same.1)

-- a container is its bracket and its inside
module _ (g : LexicalGrammar) (c : Settings) (n : ℕ) where
  fresh_is : (k : Bool) → is_object (fresh k) ≡ k
  fresh_is true = refl
  fresh_is false = refl

  fresh_means : (k : Bool) (xs : Nodes JsonScalar) → document_in g c n (container (form_of k) xs) ≡ at_depth (token_rules g c) (suc n) (whole_of g c (suc n) (fresh k) xs)
  fresh_means true xs = refl
  fresh_means false xs = refl

  module _ (i : List ℕ) (k : Bool) (a b : ℕ) (x : Document Number) (f : ℕ) (o : Lies (IsByte (opening k)) i a b) where
    container_is : ContainerEnds g c (suc n) (fresh k) false i b x f → DocumentLies g c n i a x f
    container_is ends = record {
      node = container (form_of k) ends.nodes;
      lies = (b, fresh_mark, (refl, o), subst (λ j. NodesLie (frames_of g) (form_of j) i 2 ends.nodes b fresh_mark f) (fresh_is k) ends.lie, ends.follows);
      means = fresh_means k ends.nodes ∙ allows_depth g c (suc n) (whole_of g c (suc n) (fresh k) ends.nodes) ends.allowed ∙ ends.means;
    }

    is_container : DocumentLies g c n i a x f → ContainerEnds g c (suc n) (fresh k) false i b x f
    is_container h =
        let (xs, is, lie, follows) = bracket_only g i 1 k a b o h.node f h.lies in
        let may = depth_allowed g c (suc n) (whole_of g c (suc n) (fresh k) xs) x (sym (fresh_means k xs) ∙ ap (document_in g c n) (sym is) ∙ h.means) in
        record {
          nodes = xs;
          lie = subst (λ j. NodesLie (frames_of g) (form_of j) i 2 xs b fresh_mark f) (sym (fresh_is k)) lie;
          follows = follows;
          allowed = may.0;
          means = may.1;
        }

module _ (g : LexicalGrammar) (c : Settings) (depth : ℕ) (ws : List Waiting) (i : List ℕ) (start at : ℕ) (way : IsLeft g c depth due ws i start at) where
  -- it is read whole
  pub left_behind : (x : Document Number) (f : ℕ) → DocumentLies g c (level depth ws) i at x f → IsLeft g c depth (behind x) ws i start f
  left_behind x f here = record {
    back = λ d e goes. way.back d e (x, f, here, goes);
    forth = λ d e whole.
        let h = way.forth d e whole in
        let same = same_document g c (level depth ws) i at h.0 x h.1 f h.2 here in
        goes_from g c depth ws i h.0 x h.1 f d e same.0 same.1 h.3;
  }

  -- an array or an object opens
  pub left_in_container : (k : Bool) (b : ℕ) → Lies (IsByte (opening k)) i at b → IsLeft g c depth (inside (fresh k) false) ws i start b
  left_in_container k b o = record {
    back = λ d e h. way.back d e (h.0, h.1, container_is g c (level depth ws) i k at b h.0 h.1 o h.2, h.3);
    forth = λ d e whole.
        let h = way.forth d e whole in (h.0, h.1, is_container g c (level depth ws) i k at b h.0 h.1 o h.2, h.3);
  }

  -- none is there
  pub no_value_left : NoDocumentLies g c (level depth ws) i at → NoDocumentLies g c depth i start
  no_value_left none d e whole = let h = way.forth d e whole in none h.0 h.1 h.2

-- ---- an entry begins

-- the container waits for the value of an entry with this key: what it is with the entry, it is with the value and without the entry
record WaitsBehind (g : LexicalGrammar) (o : OpenContainer) (key : Option JsonScalar) (w : Waiting) : Type 0 where
  kind : (d : Document Number) → is_object (with_value w d) ≡ is_object o
  gives : (c : Settings) (n : ℕ) (x : Node JsonScalar) (xs : Nodes JsonScalar) (d y : Document Number) → document_in g c n x ≡ Some d
      → whole_of g c n (with_value w d) xs ≡ Some y → whole_of g c n o (node key x xs) ≡ Some y
  takes : (c : Settings) (n : ℕ) (x : Node JsonScalar) (xs : Nodes JsonScalar) (y : Document Number) → whole_of g c n o (node key x xs) ≡ Some y
      → (d : Document Number) × (document_in g c n x ≡ Some d) × (whole_of g c n (with_value w d) xs ≡ Some y)

array_waits : (g : LexicalGrammar) (ds : Documents Number) (key : Option JsonScalar) → WaitsBehind g (open_array ds) key (waiting_array ds)
array_waits g ds key = record {
  kind = λ d. refl;
  gives = λ c n x xs d y here rest.
      let es = elements_of (token_rules g c) (says_in g) n xs in
      let others = some_of_map (more_elements (add_element ds d)) es y rest in
      ap (λ o. option_map (more_elements ds) (option_and_then (λ d. option_map (item d) es) o)) here
      ∙ ap (λ o. option_map (more_elements ds) (option_map (item d) o)) others.1
      ∙ ap (λ all. Some (array all)) (sym (join_add ds d others.0))
      ∙ ap (λ u. Some u) others.2;
  takes = λ c n x xs y means.
      let es = elements_of (token_rules g c) (says_in g) n xs in
      let all = some_of_map (more_elements ds) (option_and_then (λ d. option_map (item d) es) (document_in g c n x)) y means in
      let one = some_of_then (λ d. option_map (item d) es) (document_in g c n x) all.0 all.1 in
      let rest = some_of_map (item one.0) es all.0 one.2 in (
        one.0,
        one.1,
        ap (option_map (more_elements (add_element ds one.0))) rest.1
            ∙ ap (λ all. Some (array all)) (join_add ds one.0 rest.0)
            ∙ ap (λ all. Some (array (join ds all))) rest.2
            ∙ ap (λ u. Some u) all.2,
      );
}

object_waits : (g : LexicalGrammar) (ps : Properties Number) (raw name : List ℕ) → name_text g raw ≡ Some name
    → WaitsBehind g (open_object ps) (Some (a_string raw)) (waiting_object ps name)
object_waits g ps raw name text = record {
  kind = λ d. refl;
  gives = λ c n x xs d y here rest.
      let pairs = pairs_of (token_rules g c) (says_in g) n xs in
      let others = some_of_map (more_pairs (put_property name d ps)) pairs y rest in
      ap (λ k. option_map (more_pairs ps) (with_pair k (document_in g c n x) pairs)) text
      ∙ ap (λ o. option_map (more_pairs ps) (with_pair (Some name) o pairs)) here
      ∙ ap (λ o. option_map (more_pairs ps) (with_pair (Some name) (Some d) o)) others.1
      ∙ ap (λ u. Some u) others.2;
  takes = λ c n x xs y means.
      let pairs = pairs_of (token_rules g c) (says_in g) n xs in
      let all = some_of_map (more_pairs ps) (with_pair (name_text g raw) (document_in g c n x) pairs) y means in
      let one = some_of_pair (name_text g raw) (document_in g c n x) pairs all.0 all.1 in
      let named : name ≡ one.0 = same_some name one.0 (sym text ∙ one.3) in (
        one.1,
        one.4,
        ap (option_map (more_pairs (put_property name one.1 ps))) one.5
            ∙ ap (λ k. Some (object (put_all (put_property k one.1 ps) one.2))) named
            ∙ ap (λ all. Some (object (put_all ps all))) one.6
            ∙ ap (λ u. Some u) all.2,
      );
}

module _ (g : LexicalGrammar) (i : List ℕ) (b : ℕ) (entered : Bool) where
  -- where an entry begins, one comes by the tokens
  entry_of : (o : OpenContainer) (w : Waiting) (p : ℕ) → EntryBegins g i b entered o w p
      → (key : Option JsonScalar) × (frames_of g).entry (form_of (is_object o)) i b (inside_mark entered) key p entry_mark × WaitsBehind g o key w
  entry_of (open_array ds) w p begins =
      (None, (refl, refl, begins.1.0, begins.1.1), subst (WaitsBehind g (open_array ds) None) (sym begins.0) (array_waits g ds None))
  entry_of (open_object ps) w p (raw, name, is, tokens, text) =
      (Some (a_string raw), (raw, refl, refl, tokens), subst (WaitsBehind g (open_object ps) (Some (a_string raw))) (sym is) (object_waits g ps raw name text))

  -- and where one comes that means something, an entry begins
  entry_told : (c : Settings) (n : ℕ) (o : OpenContainer) (key : Option JsonScalar) (p : ℕ) (m : Mark) (x : Node JsonScalar) (xs : Nodes JsonScalar) (y : Document Number)
      → (frames_of g).entry (form_of (is_object o)) i b (inside_mark entered) key p m → whole_of g c n o (node key x xs) ≡ Some y
      → (w : Waiting) × EntryBegins g i b entered o w p
  entry_told c n (open_array ds) key p m x xs y (none, mark, separated, real) means = (waiting_array ds, (refl, (separated, real)))
  entry_told c n (open_object ps) key p m x xs y (raw, is, mark, tokens) means =
      let pairs = pairs_of (token_rules g c) (says_in g) n xs in
      let all = some_of_map (more_pairs ps) (with_pair (key_text (token_rules g c) as_object key) (document_in g c n x) pairs) y means in
      let one = some_of_pair (key_text (token_rules g c) as_object key) (document_in g c n x) pairs all.0 all.1 in
      let text : name_text g raw ≡ Some one.0 = sym (ap (key_text (token_rules g c) as_object) is) ∙ one.3 in
      (waiting_object ps one.0, (raw, one.0, refl, tokens, text))

module _ (g : LexicalGrammar) (c : Settings) (depth : ℕ) (ws : List Waiting) (i : List ℕ) (start at : ℕ) (entered : Bool) (o : OpenContainer)
    (way : IsLeft g c depth (inside o entered) ws i start at) where
  abbrev n : ℕ
  n = suc (level depth ws)

  abbrev Mine : Nodes JsonScalar → ℕ → Mark → ℕ → Type 0
  Mine xs b m f = NodesLie (frames_of g) (form_of (is_object o)) i 2 xs b m f

  module _ (w : Waiting) (p : ℕ) (key : Option JsonScalar) (entry : (frames_of g).entry (form_of (is_object o)) i at (inside_mark entered) key p entry_mark)
      (waits : WaitsBehind g o key w) (d : Document Number) (e : ℕ) where
    entry_back : Left g c depth due (w ∷ ws) i p d e → Left g c depth (inside o entered) ws i at d e
    entry_back (x, f, here, (y, h, ends, goes)) = (
      y,
      h,
      record {
        nodes = node key here.node ends.nodes;
        lie = (p, entry_mark, f, entry, deeper g i 0 1 here.node p f here.lies, subst (λ k. NodesLie (frames_of g) (form_of k) i 2 ends.nodes f (inside_mark true) h) (waits.kind x) ends.lie);
        follows = ends.follows;
        allowed = ends.allowed;
        means = waits.gives c n here.node ends.nodes x y here.means ends.means;
      },
      goes,
    )

    entry_forth : Left g c depth (inside o entered) ws i at d e → Left g c depth due (w ∷ ws) i p d e
    entry_forth (y, h, ends, goes) = go ends.nodes ends.lie ends.means
      where
        go : (xs : Nodes JsonScalar) → Mine xs at (inside_mark entered) h → whole_of g c n o xs ≡ Some y → Left g c depth due (w ∷ ws) i p d e
        go no_nodes lie means =
            absurd ((grammar_is_wire g).entry_or_end (form_of (is_object o)) i at (inside_mark entered) key p h entry_mark entry lie)
        go (node other x xs) (q, m, f, there, lies, lie) means =
            let same = (grammar_is_wire g).same_entry (form_of (is_object o)) i at (inside_mark entered) other key q p m entry_mark there entry in
            let keyed : whole_of g c n o (node key x xs) ≡ Some y = subst (λ k. whole_of g c n o (node k x xs) ≡ Some y) same.0 means in
            let first = waits.takes c n x xs y keyed in
            let rest = subst (λ j. Mine xs f j h) same.2 lie in (
              first.0,
              f,
              record { node = x; lies = deeper g i 1 0 x p f (subst (λ z. LiesAsNode (frames_of g) i 2 x z f) same.1 lies); means = first.1 },
              (
                y,
                h,
                record {
                  nodes = xs;
                  lie = subst (λ k. NodesLie (frames_of g) (form_of k) i 2 xs f (inside_mark true) h) (sym (waits.kind first.0)) rest;
                  follows = ends.follows;
                  allowed = ends.allowed;
                  means = first.2;
                },
                goes,
              ),
            )

  pub left_at_entry : (w : Waiting) (p : ℕ) → EntryBegins g i at entered o w p → IsLeft g c depth due (w ∷ ws) i start p
  left_at_entry w p begins =
      let (key, entry, waits) = entry_of g i at entered o w p begins in record {
        back = λ d e h. way.back d e (entry_back w p key entry waits d e h);
        forth = λ d e whole. entry_forth w p key entry waits d e (way.forth d e whole);
      }

  -- ---- a container ends, or can't go on

  none_more : (o : OpenContainer) → whole_of g c n o no_nodes ≡ Some (document_of o)
  none_more (open_array ds) = ap (λ all. Some (array all)) (join_none ds)
  none_more (open_object ps) = refl

  end_forth : (f : ℕ) → ClosesIn g (closing (is_object o)) i at 2 f → (d : Document Number) (e : ℕ) → Left g c depth (inside o entered) ws i at d e
      → Goes g c depth ws i (document_of o) f d e
  end_forth f closes d e (y, h, ends, goes) = go ends.nodes ends.lie ends.means
    where
      go : (xs : Nodes JsonScalar) → Mine xs at (inside_mark entered) h → whole_of g c n o xs ≡ Some y → Goes g c depth ws i (document_of o) f d e
      go no_nodes lie means =
          let same = (grammar_is_wire g).same_ends (form_of (is_object o)) i at (inside_mark entered) h f lie closes.0 in
          goes_from g c depth ws i y (document_of o) h f d e (same_some y (document_of o) (sym means ∙ none_more o)) same goes
      go (node key x xs) (q, m, k, entry, lies, lie) means =
          absurd ((grammar_is_wire g).entry_or_end (form_of (is_object o)) i at (inside_mark entered) key q f m entry closes.0)

  pub left_behind_container : Allows c n → (f : ℕ) → ClosesIn g (closing (is_object o)) i at 2 f → IsLeft g c depth (behind (document_of o)) ws i start f
  left_behind_container may f closes = record {
    back = λ d e goes. way.back d e (
      document_of o,
      f,
      record { nodes = no_nodes; lie = closes.0; follows = closes.1; allowed = may; means = none_more o },
      goes,
    );
    forth = λ d e whole. end_forth f closes d e (way.forth d e whole);
  }

  pub nothing_left : NoEntry g i at entered o → NoDocumentLies g c depth i start
  nothing_left none d e whole = let h = way.forth d e whole in go h.0 h.1 h.2 h.2.nodes h.2.lie h.2.means
    where
      go : (y : Document Number) (h : ℕ) (ends : ContainerEnds g c n o entered i at y h) (xs : Nodes JsonScalar) → Mine xs at (inside_mark entered) h
          → whole_of g c n o xs ≡ Some y → ⊥
      go y h ends no_nodes lie means = none.1 h (lie, ends.follows)
      go y h ends (node key x xs) (q, m, k, entry, lies, lie) means =
          let (w, begins) = entry_told g i at entered c n o key q m x xs y entry means in none.0 w q begins
