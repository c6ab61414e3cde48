-- What the calls answer between the pairs of a form and its value.
use Rattle.std.specs.Prelude.{◌≡◌, List, [], map as mapped, None, Some, Option, Result, Ok, Err, MatchOption}
use Rattle.std.specs.Cow.{cow_str_bytes}
use Rattle.smithy_declarations.specs.Value.{Value}
use Rattle.smithy_shapes.specs.Site.{Site}
use Rattle.smithy_value.specs.declared.value.Value as kept
use Rattle.smithy_value.specs.View.{view}
use Rattle.smithy_form.specs.declared.error.FormError.{FormError}
use Rattle.smithy_form.specs.declared.error.FormError.TheVariants.{Repeated, NoValue, NoMemory}
use Rattle.smithy_form.specs.declared.pairs.Pair.{Pair}
use Rattle.smithy_form.specs.declared.whole.Parts.{Parts}
use Rattle.smithy_form.specs.Pairs.{NamedText, Tell, TellAlone}
use Rattle.smithy_form.specs.Forms.{first_repeated, parted_pairs, repeated_or, all_pairs, no_form, parted}
use Rattle.smithy_form.specs.Private.Kept.{named_text}
use Rattle.smithy_form.specs.Private.Order.{AreNumbered}

-- the action, the version and the pairs after them, which are counted from 3
pub record ArePartsOf (pairs : List Pair) (p : Parts) : Type 0 where
  pub rest : List NamedText
  pub rest_is : mapped named_text p.pairs.items ≡ rest
  pub is : parted_pairs (all_pairs (mapped named_text pairs))
      ≡ repeated_or (first_repeated [] 3 rest) (parted (cow_str_bytes p.action) (cow_str_bytes p.version) rest)
  pub numbered : AreNumbered 3 p.pairs.items

-- pairs begin with an action and a version, or are no form
abbrev pub FindsParts : List Pair → Option Parts → Type 0
FindsParts pairs found = MatchOption found (parted_pairs (all_pairs (mapped named_text pairs)) ≡ no_form) (ArePartsOf pairs)

-- pairs that are counted from 3 are the leaves of one plain value, or of none
abbrev pub ReadsValue : Site → List NamedText → Result kept.Value FormError → Type 0
ReadsValue site pairs (Ok v) = (first_repeated [] 3 pairs ≡ None) × TellAlone site pairs (view v)
ReadsValue site pairs (Err NoValue) = (first_repeated [] 3 pairs ≡ None) × ((v : Value) → Tell site pairs v → ⊥)
ReadsValue site pairs (Err (Repeated n)) = first_repeated [] 3 pairs ≡ Some n
ReadsValue site pairs (Err NoMemory) = Unit {0}
ReadsValue site pairs (Err _) = ⊥
