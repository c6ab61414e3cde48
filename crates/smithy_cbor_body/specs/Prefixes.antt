-- What a serializer makes of its state that writes a prefix at the beginning of each structure and union.
use Rattle.std.specs.Prelude.{◌≡◌, ℕ, List, [], ◌∷◌, ◌++◌, Result, Ok, Err}
use Rattle.smithy_schema.specs.declared.error.SerdeError.{SerdeError}
use Rattle.smithy_schema.specs.Writing.{Writer, begin_structure, Open, open_structure, and_run}
use Rattle.smithy_shapes.specs.Site.{Site}
use Rattle.cbor_item.specs.Item.{Pairs}
use Rattle.cbor_item.specs.WellFormed.{ArePairEncodingsOf}
use Rattle.smithy_cbor_values.specs.Settings.{Settings}
use Rattle.smithy_cbor_body.specs.Writing.{BodyState, fresh_body, body_after}
use Rattle.smithy_cbor_body.specs.declared.lengths.Length.{Length}
use Rattle.smithy_cbor_body.specs.declared.lengths.Length.TheVariants.{Unwritten}

-- what is added for a structure or a union at a site, or why none is begun there
abbrev pub Prefix : Type 0
Prefix = Site → Result (List ℕ) SerdeError

abbrev pub no_prefix : Prefix
no_prefix site = Ok []

-- the bytes are keys and values in turn
abbrev pub AreEntries : Result (List ℕ) SerdeError → Type 0
AreEntries (Ok bytes) = (ps : Pairs) × ArePairEncodingsOf ps bytes
AreEntries (Err e) = Unit {0}

-- the innermost container is a structure or a union, whose length isn't written
pub record IsInStructure (s : BodyState) : Type 0 where
  pub frames : List Open
  pub lengths : List Length
  pub inside : s.frames ≡ open_structure ∷ frames
  pub unwritten : s.lengths ≡ Unwritten ∷ lengths

-- bytes behind what is written, or a refusal
abbrev pub behind : Result (List ℕ) SerdeError → BodyState → Result BodyState SerdeError
behind (Ok bytes) s = Ok (record s { out = s.out ++ bytes })
behind (Err e) s = Err e

pub record CborState : Type 0 where
  pub body : BodyState
  pub prefix : Prefix

-- nothing is written yet
abbrev pub fresh_state : Settings → CborState
fresh_state settings = record { body = fresh_body settings; prefix = no_prefix }

-- the prefix stays
abbrev pub with_prefix : Prefix → Result BodyState SerdeError → Result CborState SerdeError
with_prefix prefix (Ok s) = Ok (record { body = s; prefix = prefix })
with_prefix prefix (Err e) = Err e

-- a structure or a union begins as it does without a prefix, and then with what the prefix adds
abbrev pub cbor_after : Writer CborState
cbor_after (begin_structure site) s =
    with_prefix s.prefix (and_run (behind (s.prefix site)) (body_after (begin_structure site) s.body))
cbor_after e s = with_prefix s.prefix (body_after e s.body)
