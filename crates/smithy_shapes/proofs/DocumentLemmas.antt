-- What is known of documents as values: of one more property, of properties that come in order, and of their nesting.
use Rattle.std.proofs.Common.{◌≡◌, ◌≤◌, ℕ, ℤ, suc, List, [], ◌∷◌, IsUtf8, refl, ap, ◌∙◌, arith}
use Rattle.std.specs.Prelude.{fold}
use Rattle.std.specs.List.{AllByRecursion}
use Rattle.std.specs.declared.cmp.Ordering.{Ordering}
use Rattle.std.specs.declared.cmp.Ordering.TheVariants.{Less, Equal, Greater}
use Rattle.std.specs.Ordering.{match_ordering}
use Rattle.std.proofs.lemmas.Cmp.{nat_list_cmp_total}
use Rattle.smithy_types.specs.Document.{Document, null, boolean, number, text, array, object, Documents, no_documents, item, Properties, no_properties, property, put_property, map_numbers, map_elements, map_properties, put_pair, properties_by}
use Rattle.smithy_declarations.specs.Documents.{document_nesting, documents_nesting, properties_nesting, NamesAscendAbove, NamesAscend, DocumentFits, PropertiesFit}
use Rattle.smithy_shapes.specs.Lemmas.AscendingKeys.{byte_order, turned, turned_back}

module _ {N : Type 0} where
  -- ---- names stay in order

  placed_above : (above name at : List ℕ) (d e : Document N) (rest more : Properties N) (order : Ordering) → byte_order name at ≡ order → byte_order above name ≡ Less
      → byte_order above at ≡ Less → NamesAscendAbove at rest → (byte_order at name ≡ Less → NamesAscendAbove at more)
      → NamesAscendAbove above (match_ordering order (property name d (property at e rest)) (property at d rest) (property at e more))
  placed_above above name at d e rest more Less is low from rises next = (low, (is, rises))
  placed_above above name at d e rest more Equal is low from rises next = (from, rises)
  placed_above above name at d e rest more Greater is low from rises next = (from, next (turned name at is))

  put_above : (name : List ℕ) (d : Document N) (above : List ℕ) (ps : Properties N) → byte_order above name ≡ Less → NamesAscendAbove above ps
      → NamesAscendAbove above (put_property name d ps)
  put_above name d above no_properties low h = (low, tt)
  put_above name d above (property at e rest) low h =
      placed_above above name at d e rest (put_property name d rest) (byte_order name at) refl low h.0 h.1 (λ up. put_above name d at rest up h.1)

  placed_first : (name at : List ℕ) (d e : Document N) (rest more : Properties N) (order : Ordering) → byte_order name at ≡ order
      → NamesAscendAbove at rest → (byte_order at name ≡ Less → NamesAscendAbove at more)
      → NamesAscend (match_ordering order (property name d (property at e rest)) (property at d rest) (property at e more))
  placed_first name at d e rest more Less is rises next = (is, rises)
  placed_first name at d e rest more Equal is rises next = rises
  placed_first name at d e rest more Greater is rises next = next (turned name at is)

  -- names that ascend still do with one more
  put_names_ascend : (name : List ℕ) (d : Document N) (ps : Properties N) → NamesAscend ps → NamesAscend (put_property name d ps)
  put_names_ascend name d no_properties h = tt
  put_names_ascend name d (property at e rest) h =
      placed_first name at d e rest (put_property name d rest) (byte_order name at) refl h (λ up. put_above name d at rest up h)

  -- ---- nesting

  placed_nests : (most : ℕ) (name at : List ℕ) (d e : Document N) (rest more : Properties N) (order : Ordering) → document_nesting d ≤ most → document_nesting e ≤ most
      → properties_nesting rest ≤ most → properties_nesting more ≤ most
      → properties_nesting (match_ordering order (property name d (property at e rest)) (property at d rest) (property at e more)) ≤ most
  placed_nests most name at d e rest more Less one first rest_nests more_nests = omega arith
  placed_nests most name at d e rest more Equal one first rest_nests more_nests = omega arith
  placed_nests most name at d e rest more Greater one first rest_nests more_nests = omega arith

  put_nests : (most : ℕ) (name : List ℕ) (d : Document N) (ps : Properties N) → properties_nesting ps ≤ most → document_nesting d ≤ most
      → properties_nesting (put_property name d ps) ≤ most
  put_nests most name d no_properties all one = omega arith
  put_nests most name d (property at e rest) all one =
      placed_nests most name at d e rest (put_property name d rest) (byte_order name at) one (omega arith) (omega arith) (put_nests most name d rest (omega arith) one)

  folded_nest : (most : ℕ) (ps : Properties N) (pairs : List (List ℕ × Document N)) → properties_nesting ps ≤ most
      → AllByRecursion (λ (pair : List ℕ × Document N). document_nesting pair.1 ≤ most) pairs → properties_nesting (fold put_pair ps pairs) ≤ most
  folded_nest most ps [] all each = all
  folded_nest most ps (pair ∷ pairs) all each =
      folded_nest most (put_property pair.0 pair.1 ps) pairs (put_nests most pair.0 pair.1 ps all each.0) each.1

  -- properties nest no deeper than each of those that were put
  pub properties_nest : (most : ℕ) (pairs : List (List ℕ × Document N)) → AllByRecursion (λ (pair : List ℕ × Document N). document_nesting pair.1 ≤ most) pairs
      → properties_nesting (properties_by pairs) ≤ most
  properties_nest most pairs each = folded_nest most no_properties pairs (omega arith) each

  -- ---- properties that come in order

  -- each with its name
  abbrev pub pairs_from : Properties N → List (List ℕ × Document N)
  pairs_from no_properties = []
  pairs_from (property name d ps) = (name, d) ∷ pairs_from ps

  -- some, and then others
  abbrev and_properties : Properties N → Properties N → Properties N
  and_properties no_properties ps = ps
  and_properties (property name d fs) ps = property name d (and_properties fs ps)

  abbrev one_property : List ℕ → Document N → Properties N
  one_property name d = property name d no_properties

  and_one : (fs ps : Properties N) (name : List ℕ) (d : Document N) → and_properties (and_properties fs (one_property name d)) ps ≡ and_properties fs (property name d ps)
  and_one no_properties ps name d = refl
  and_one (property at e fs) ps name d = ap (property at e) (and_one fs ps name d)

  and_none : (fs : Properties N) → fs ≡ and_properties fs no_properties
  and_none no_properties = refl
  and_none (property at e fs) = ap (property at e) (and_none fs)

  -- each name is before this one
  abbrev NamesBelow : List ℕ → Properties N → Type 0
  NamesBelow name no_properties = Unit {0}
  NamesBelow name (property at e ps) = (byte_order at name ≡ Less) × NamesBelow name ps

  below_more : (name next : List ℕ) (d : Document N) (fs : Properties N) → byte_order name next ≡ Less → NamesBelow name fs → NamesBelow next (and_properties fs (one_property name d))
  below_more name next d no_properties up below = (up, tt)
  below_more name next d (property at e fs) up below = (nat_list_cmp_total.trans at name next below.0 up, below_more name next d fs up below.1)

  -- one behind all others comes last
  put_last : (name : List ℕ) (d : Document N) (fs : Properties N) → NamesBelow name fs → put_property name d fs ≡ and_properties fs (one_property name d)
  put_last name d no_properties below = refl
  put_last name d (property at e fs) below =
      ap (λ o. match_ordering o (property name d (property at e fs)) (property at d fs) (property at e (put_property name d fs))) (turned_back at name below.0)
      ∙ ap (property at e) (put_last name d fs below.1)

  abbrev FirstAbove : Properties N → Properties N → Type 0
  FirstAbove fs no_properties = Unit {0}
  FirstAbove fs (property name d ps) = NamesBelow name fs

  next_above : (name : List ℕ) (d : Document N) (fs ps : Properties N) → NamesBelow name fs → NamesAscendAbove name ps → FirstAbove (and_properties fs (one_property name d)) ps
  next_above name d fs no_properties below rise = tt
  next_above name d fs (property next e ps) below rise = below_more name next d fs rise.0 below

  still_rise : (name : List ℕ) (ps : Properties N) → NamesAscendAbove name ps → NamesAscend ps
  still_rise name no_properties rise = tt
  still_rise name (property next e ps) rise = rise.1

  folded_back : (fs ps : Properties N) → FirstAbove fs ps → NamesAscend ps → fold put_pair fs (pairs_from ps) ≡ and_properties fs ps
  folded_back fs no_properties above rise = and_none fs
  folded_back fs (property name d ps) above rise =
      ap (λ more. fold put_pair more (pairs_from ps)) (put_last name d fs above)
      ∙ (folded_back (and_properties fs (one_property name d)) ps (next_above name d fs ps above rise) (still_rise name ps rise) ∙ and_one fs ps name d)

  none_below : (ps : Properties N) → FirstAbove no_properties ps
  none_below no_properties = tt
  none_below (property name d ps) = tt

  -- are the same, put one by one
  pub properties_back : (ps : Properties N) → NamesAscend ps → properties_by (pairs_from ps) ≡ ps
  properties_back ps rise = folded_back no_properties ps (none_below ps) rise

-- ---- with another thing in place of each number

module _ {N M : Type 0} (f : N → M) where
  names_mapped_above : (name : List ℕ) (ps : Properties N) → NamesAscendAbove name ps → NamesAscendAbove name (map_properties f ps)
  names_mapped_above name no_properties h = tt
  names_mapped_above name (property at d ps) h = (h.0, names_mapped_above at ps h.1)

  pub names_mapped : (ps : Properties N) → NamesAscend ps → NamesAscend (map_properties f ps)
  names_mapped no_properties h = tt
  names_mapped (property name d ps) h = names_mapped_above name ps h

  names_were_above : (name : List ℕ) (ps : Properties N) → NamesAscendAbove name (map_properties f ps) → NamesAscendAbove name ps
  names_were_above name no_properties h = tt
  names_were_above name (property at d ps) h = (h.0, names_were_above at ps h.1)

  pub names_were : (ps : Properties N) → NamesAscend (map_properties f ps) → NamesAscend ps
  names_were no_properties h = tt
  names_were (property name d ps) h = names_were_above name ps h

  mutual
    -- a document nests as deep
    pub mapped_nesting : (d : Document N) → document_nesting (map_numbers f d) ≡ document_nesting d
    mapped_nesting null = refl
    mapped_nesting (boolean b) = refl
    mapped_nesting (number n) = refl
    mapped_nesting (text s) = refl
    mapped_nesting (array ds) = ap suc (mapped_elements ds)
    mapped_nesting (object ps) = ap suc (mapped_properties ps)

    mapped_elements : (ds : Documents N) → documents_nesting (map_elements f ds) ≡ documents_nesting ds
    mapped_elements no_documents = refl
    mapped_elements (item d ds) = rw (mapped_nesting d, mapped_elements ds) refl

    mapped_properties : (ps : Properties N) → properties_nesting (map_properties f ps) ≡ properties_nesting ps
    mapped_properties no_properties = refl
    mapped_properties (property name d ps) = rw (mapped_nesting d, mapped_properties ps) refl

-- ---- what fits

module _ {N : Type 0} (f : N → ℤ) where
  -- the properties fit, with whole numbers in place of their numbers
  abbrev pub AreFitting : Properties N → Type 0
  AreFitting ps = PropertiesFit (map_properties f ps) × NamesAscend ps

  -- each name is a text, and each document fits
  abbrev pub PairsFit : List (List ℕ × Document N) → Type 0
  PairsFit pairs = AllByRecursion (λ (pair : List ℕ × Document N). IsUtf8 pair.0 × DocumentFits (map_numbers f pair.1)) pairs

  placed_fit : (name at : List ℕ) (d e : Document N) (rest more : Properties N) (order : Ordering) → IsUtf8 name → DocumentFits (map_numbers f d) → IsUtf8 at
      → DocumentFits (map_numbers f e) → PropertiesFit (map_properties f rest) → PropertiesFit (map_properties f more)
      → PropertiesFit (map_properties f (match_ordering order (property name d (property at e rest)) (property at d rest) (property at e more)))
  placed_fit name at d e rest more Less utf8 one other_utf8 other all next = (utf8, one, (other_utf8, other, all))
  placed_fit name at d e rest more Equal utf8 one other_utf8 other all next = (other_utf8, one, all)
  placed_fit name at d e rest more Greater utf8 one other_utf8 other all next = (other_utf8, other, next)

  put_fits : (name : List ℕ) (d : Document N) (ps : Properties N) → IsUtf8 name → DocumentFits (map_numbers f d) → PropertiesFit (map_properties f ps)
      → PropertiesFit (map_properties f (put_property name d ps))
  put_fits name d no_properties utf8 one h = (utf8, one, tt)
  put_fits name d (property at e rest) utf8 one h =
      placed_fit name at d e rest (put_property name d rest) (byte_order name at) utf8 one h.0 h.1 h.2 (put_fits name d rest utf8 one h.2)

  folded_fit : (ps : Properties N) (pairs : List (List ℕ × Document N)) → AreFitting ps → PairsFit pairs → AreFitting (fold put_pair ps pairs)
  folded_fit ps [] h each = h
  folded_fit ps (pair ∷ pairs) h each =
      folded_fit (put_property pair.0 pair.1 ps) pairs
      (put_fits pair.0 pair.1 ps each.0.0 each.0.1 h.0, put_names_ascend pair.0 pair.1 ps h.1) each.1

  -- properties fit where each of those fits that were put
  pub properties_fit : (pairs : List (List ℕ × Document N)) → PairsFit pairs
      → PropertiesFit (map_properties f (properties_by pairs)) × NamesAscend (map_properties f (properties_by pairs))
  properties_fit pairs each =
      let all = folded_fit no_properties pairs (tt, tt) each in
      (all.0, names_mapped f (properties_by pairs) all.1)
