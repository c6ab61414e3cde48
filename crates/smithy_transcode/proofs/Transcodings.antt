-- What the reading and the writing of one body say together.
use Rattle.std.proofs.Common.{◌≡◌, ◌≤◌, ◌<◌, ◌^◌, length, ℕ, List, All, true, false, Option, Some, None, Result, Ok, Err, IsErrOf, string_bytes, refl, sym, ◌∙◌, ap, subst}
use Rattle.std.specs.declared.vec.Vec.{Vec}
use Rattle.std.specs.declared.alloc.Global.{Global}
use Rattle.smithy_shapes.specs.Accepted.{IsAccepted}
use Rattle.smithy_shapes.specs.declared.schema.Schema.{Schema}
use Rattle.smithy_schema.specs.declared.error.SerdeError.{SerdeError}
use Rattle.smithy_schema.specs.declared.error.SerdeError.TheVariants as serde
use Rattle.smithy_shapes.specs.Fits.{Fits, FitsOr}
use Rattle.smithy_schema.specs.Errors.{IsFault, FindsNone, IsRefused, IsInvalid}
use Rattle.smithy_declarations.specs.Table.{Table, IsStructure, kind_of, shape_place}
use Rattle.smithy_declarations.specs.Value.{Value, nesting}
use Rattle.smithy_shapes.specs.Site.{Site, whole_view, site_of, shape_site}
use Rattle.smithy_json_values.proofs.SpellingLemmas.{one_spelled}
use Rattle.smithy_json_codec.proofs.WrittenSpelling.{spelled_fits, shallow, canonical_spells}
use Rattle.smithy_json_codec.specs.WireSettings.{wire_settings}
use Rattle.smithy_cbor_body.specs.Codec.{strict_settings as strict_cbor}
use Rattle.smithy_cbor_values.proofs.SpellingLemmas.{one_spelled as one_cbor_spelled}
use Rattle.smithy_cbor_codec.proofs.WrittenSpelling.{spelled_fits as cbor_fits, shallow as cbor_shallow, canonical_spells as cbor_spells_again}
use Rattle.smithy_transcode.specs.declared.wire.Unfit.{Unfit}
use Rattle.smithy_transcode.specs.declared.wire.TranscodeError.{TranscodeError}
use Rattle.smithy_transcode.specs.declared.wire.TranscodeError.TheVariants.{InvalidInput, TooDeep, TooWide, NotCarried, Inexpressible, NoMemory}
use Rattle.smithy_transcode.specs.Wires.{Wire, json, cbor, query, IsReadable, wire_of, unfit_at, unfit}
use Rattle.smithy_transcode.specs.Causes.{IsTooDeep, IsWide, IsUncarried}
use Rattle.smithy_transcode.specs.Refusal.{IsToldAs}
use Rattle.smithy_transcode.specs.Spelling.{Spells, body}
use Rattle.smithy_transcode.specs.declared.wire.Wire as kept
use Rattle.smithy_transcode.specs.declared.wire.Wire.TheVariants as wires
use Rattle.smithy_query_codec.proofs.ByteLemmas.{utf8_bytes}
use Rattle.std.proofs.lemmas.Str.{IsUtf8-string_bytes}
use Rattle.smithy_transcode.specs.Transcoding.{Transcodes, SpellNothing, SpellNothingWithoutLimits, SpellsAlone, TellsAgain}
use Rattle.smithy_transcode.specs.Private.Positions.{CanCount}
use Rattle.smithy_transcode.proofs.Bodies.{all_held, form_tells}
use Rattle.smithy_transcode.proofs.Counting.{nodes_are_bounded}
use Rattle.smithy_schema.proofs.WrittenLists.{fits_or_null}

-- at most one value is spelled
pub one_value : (w : Wire) (t : Table) (root : ℕ) (i : List ℕ) (v u : Value) → Spells w t root i v → Spells w t root i u → v ≡ u
one_value (json b n) t root i v u h k = one_spelled (wire_settings b n) t (shape_place root) i v u h k
one_value (cbor told) t root i v u h k = one_cbor_spelled strict_cbor t (shape_place root) i v u h k
one_value (query action version) t root i v u h k = absurd h

-- what is spelled is a value of the root, and nests no deeper than may be read
pub spelled_is_small : (w : Wire) (t : Table) (root : ℕ) (i : List ℕ) (v : Value) → Spells w t root i v → Fits t (shape_place root) v × (nesting v ≤ 128)
spelled_is_small (json b n) t root i v h =
    (spelled_fits (wire_settings b n) t (shape_place root) i v refl h, shallow (wire_settings b n) t (shape_place root) i v refl h)
spelled_is_small (cbor told) t root i v h =
    (cbor_fits strict_cbor t (shape_place root) i v refl h, cbor_shallow strict_cbor t (shape_place root) i v refl h)
spelled_is_small (query action version) t root i v h = absurd h

-- the action and the version of a form are texts of bytes
abbrev HasByteTexts : Wire → Type 0
HasByteTexts (query action version) = All (λ b. b < 256) action × All (λ b. b < 256) version
HasByteTexts _ = Unit {0}

pub has_byte_texts : (w : kept.Wire) → HasByteTexts (wire_of w)
has_byte_texts (wires.Json b n) = tt
has_byte_texts (wires.Cbor told) = tt
has_byte_texts (wires.Query action version) =
    (utf8_bytes (string_bytes action) (IsUtf8-string_bytes action), utf8_bytes (string_bytes version) (IsUtf8-string_bytes version))

-- where the wire is read, the body of what one wire spells spells it again, where its lengths fit into heads
body_spells : (from to : Wire) (t : Table) (root : ℕ) (i : List ℕ) (v : Value) → IsReadable to → IsAccepted t → Spells from t root i v
    → unfit to t root v ≡ None → length (body to t root v) < 2 ^ 64 → Spells to t root (body to t root v) v
body_spells from (json b n) t root i v read accepted h fit short =
    let small = spelled_is_small from t root i v h in
    canonical_spells b n t (shape_place root) whole_view v accepted small.0 (all_held (json b n) t root v fit) small.1
body_spells from (cbor told) t root i v read accepted h fit short =
    let small = spelled_is_small from t root i v h in
    cbor_spells_again told t root v accepted small.0 (all_held (cbor told) t root v fit) small.1 short
body_spells from (query action version) t root i v read accepted h fit short = absurd read

spelled_alone : (w : Wire) (t : Table) (root : ℕ) (v : Value) → Spells w t root (body w t root v) v → SpellsAlone w t root (body w t root v) v
spelled_alone w t root v spells = (spells, λ u other. one_value w t root (body w t root v) u v other spells)

-- the body tells the value again in the other wire, which can express it
body_tells : (from to : Wire) (t : Table) (root : ℕ) (i : List ℕ) (v : Value) → IsAccepted t → IsStructure (kind_of t (shape_place root)) → Spells from t root i v
    → unfit to t root v ≡ None → CanCount to v → HasByteTexts to → length (body to t root v) < 2 ^ 64 → TellsAgain to t root (body to t root v) v
body_tells from (json b n) t root i v accepted kind h fit counts texts short =
    spelled_alone (json b n) t root v (body_spells from (json b n) t root i v tt accepted h fit short)
body_tells from (cbor told) t root i v accepted kind h fit counts texts short = spelled_alone (cbor told) t root v (body_spells from (cbor told) t root i v tt accepted h fit short)
body_tells from (query action version) t root i v accepted kind h fit counts texts short =
    form_tells action version t root v accepted kind (spelled_is_small from t root i v h).0 counts texts.0 texts.1

-- values that are spelled, and that a wire which is read can express, are equal where their bodies are
one_body : (from from' to : Wire) (t : Table) (root : ℕ) (i i' : List ℕ) (v u : Value) → IsReadable to → IsAccepted t → Spells from t root i v → Spells from' t root i' u
    → unfit to t root v ≡ None → unfit to t root u ≡ None → length (body to t root v) < 2 ^ 64 → body to t root v ≡ body to t root u → v ≡ u
one_body from from' to t root i i' v u read accepted h h' fit fit' short same =
    let again = body_spells from' to t root i' u read accepted h' fit' (subst (λ bytes. length bytes < 2 ^ 64) same short) in
    one_value to t root (body to t root v) v u (body_spells from to t root i v read accepted h fit short) (subst (λ bytes. Spells to t root bytes u) (sym same) again)

-- ---- at the schema of the root

pub fits_at_root : (s : Schema) (t : Table) (root : ℕ) (v : Value) → site_of s ≡ shape_site t root → Fits t (shape_place root) v → FitsOr s.shapes.now s.place true v
fits_at_root s t root v site fits = subst (λ (x : Site). FitsOr x.table x.place true v) (sym site) (fits_or_null t (shape_place root) false v fits)

pub unfit_at_root : (w : Wire) (s : Schema) (t : Table) (root : ℕ) (v : Value) (found is : Option Unfit) → site_of s ≡ shape_site t root
    → found ≡ unfit_at w (site_of s) v → found ≡ is → unfit w t root v ≡ is
unfit_at_root w s t root v found is site told same = ap (λ x. unfit_at w x v) (sym site) ∙ sym told ∙ same

-- ---- answers

pub not_both : (o : Option Unfit) (u : Unfit) → o ≡ None → o ≡ Some u → ⊥
not_both o u none some = let e : None ≡ Some u = sym none ∙ some in cc

pub same_unfit : (o : Option Unfit) (u w : Unfit) → o ≡ Some u → o ≡ Some w → w ≡ u
same_unfit o u w one other = let e : Some w ≡ Some u = sym other ∙ one in cc

-- want of memory is an answer
no_memory : (t : Table) (root : ℕ) (from : Wire) (i : List ℕ) (to : Wire) → Transcodes t root from i to (Err NoMemory)
no_memory t root from i to = record {
  answers_ok = tt;
  spelled_is_ok = λ v h fit. tt;
  unfit_is_refused = λ v u h lack. tt;
  answers_inexpressible = λ u h. absurd (let x : Err NoMemory ≡ Err (Inexpressible u) = h in cc);
  answers_invalid_input = λ h. absurd (let x : Err NoMemory ≡ Err InvalidInput = h in cc);
  answers_invalid_without_limits = λ h. absurd (let x : Err NoMemory ≡ Err InvalidInput = h in cc);
  answers_too_deep = λ h. absurd (let x : Err NoMemory ≡ Err TooDeep = h in cc);
  answers_too_wide = λ h. absurd (let x : Err NoMemory ≡ Err TooWide = h in cc);
  answers_not_carried = λ h. absurd (let x : Err NoMemory ≡ Err NotCarried = h in cc);
  equal_bodies = λ read. tt;
  nodes_are_bounded = nodes_are_bounded from t root i;
  one_value = one_value from t root i;
}

-- and so is a write that fails, which wants memory
pub unwritten : (t : Table) (root : ℕ) (from : Wire) (i : List ℕ) (to : Wire) (e : SerdeError) (refusal : TranscodeError) → e ≡ serde.NoMemory → IsToldAs e refusal
    → Transcodes t root from i to (Err refusal)
unwritten t root from i to e refusal is tells =
    let same : refusal ≡ NoMemory = subst (λ x. IsToldAs x refusal) is tells in
    rw same (no_memory t root from i to)

-- the body of a spelled value is an answer
pub written : (t : Table) (root : ℕ) (from : Wire) (i : List ℕ) (to : Wire) (v : Value) (out : Vec ℕ Global) → IsAccepted t → IsStructure (kind_of t (shape_place root)) → Spells from t root i v
    → unfit to t root v ≡ None → CanCount to v → HasByteTexts to → out.items ≡ body to t root v → length out.items < 2 ^ 64 → Transcodes t root from i to (Ok out)
written t root from i to v out accepted kind spelled fit counts texts ok short = record {
  answers_ok = (
    v,
    spelled,
    fit,
    ok,
    subst (λ bytes. TellsAgain to t root bytes v) (sym ok)
        (body_tells from to t root i v accepted kind spelled fit counts texts (subst (λ bytes. length bytes < 2 ^ 64) ok short)),
  );
  spelled_is_ok = λ u h fits. ok ∙ ap (body to t root) (one_value from t root i v u spelled h);
  unfit_is_refused = λ u w h lack. absurd (not_both (unfit to t root v) w fit (ap (unfit to t root) (one_value from t root i v u spelled h) ∙ lack));
  answers_inexpressible = λ u h. absurd (let e : Ok out ≡ Err (Inexpressible u) = h in cc);
  answers_invalid_input = λ h. absurd (let e : Ok out ≡ Err InvalidInput = h in cc);
  answers_invalid_without_limits = λ h. absurd (let e : Ok out ≡ Err InvalidInput = h in cc);
  answers_too_deep = λ h. absurd (let e : Ok out ≡ Err TooDeep = h in cc);
  answers_too_wide = λ h. absurd (let e : Ok out ≡ Err TooWide = h in cc);
  answers_not_carried = λ h. absurd (let e : Ok out ≡ Err NotCarried = h in cc);
  equal_bodies = λ read w u h other fits.
      let is = one_value from t root i w v h spelled in (
        λ same. is ∙ one_body from other.0 to t root i other.1 v u read accepted spelled other.2 fit fits (subst (λ bytes. length bytes < 2 ^ 64) ok short) (sym ok ∙ same),
        λ same. ok ∙ ap (body to t root) (sym is ∙ same),
      );
  nodes_are_bounded = nodes_are_bounded from t root i;
  one_value = one_value from t root i;
}

-- and so is what the wire can't express of it
pub lacking : (t : Table) (root : ℕ) (from : Wire) (i : List ℕ) (to : Wire) (v : Value) (u : Unfit) → Spells from t root i v
    → unfit to t root v ≡ Some u → Transcodes t root from i to (Err (Inexpressible u))
lacking t root from i to v u spelled lack = record {
  answers_ok = tt;
  spelled_is_ok = λ w h fit. absurd (not_both (unfit to t root v) u (ap (unfit to t root) (one_value from t root i v w spelled h) ∙ fit) lack);
  unfit_is_refused = λ w x h other. same_unfit (unfit to t root v) x u (ap (unfit to t root) (one_value from t root i v w spelled h) ∙ other) lack;
  answers_inexpressible = λ w h. let same : u ≡ w = cc in (v, spelled, lack ∙ ap Some same);
  answers_invalid_input = λ h. absurd (let e : Err (Inexpressible u) ≡ Err InvalidInput = h in cc);
  answers_invalid_without_limits = λ h. absurd (let e : Err (Inexpressible u) ≡ Err InvalidInput = h in cc);
  answers_too_deep = λ h. absurd (let e : Err (Inexpressible u) ≡ Err TooDeep = h in cc);
  answers_too_wide = λ h. absurd (let e : Err (Inexpressible u) ≡ Err TooWide = h in cc);
  answers_not_carried = λ h. absurd (let e : Err (Inexpressible u) ≡ Err NotCarried = h in cc);
  equal_bodies = λ read. tt;
  nodes_are_bounded = nodes_are_bounded from t root i;
  one_value = one_value from t root i;
}

-- and so is a refusal of the input
told : (t : Table) (root : ℕ) (from : Wire) (i : List ℕ) (to : Wire) (e : SerdeError) (refusal : TranscodeError) → IsToldAs e refusal
    → (IsFault e → SpellNothing from t root i) → (FindsNone e → SpellNothingWithoutLimits from t root i) → (e ≡ serde.TooDeep → IsTooDeep from t root i) → (e ≡ serde.TooWide → IsWide from t i) → (e ≡ serde.NotCarried → IsUncarried from t i)
    → Transcodes t root from i to (Err refusal)
told t root from i to serde.InvalidInput refusal tells nothing none_without_limits deep wide uncarried = rw tells (record {
  answers_ok = tt;
  spelled_is_ok = λ v h fit. absurd (nothing tt v h);
  unfit_is_refused = λ v u h lack. absurd (nothing tt v h);
  answers_inexpressible = λ u h. absurd (let x : Err InvalidInput ≡ Err (Inexpressible u) = h in cc);
  answers_invalid_input = λ h. nothing tt;
  answers_invalid_without_limits = λ h. none_without_limits tt;
  answers_too_deep = λ h. absurd (let x : Err InvalidInput ≡ Err TooDeep = h in cc);
  answers_too_wide = λ h. absurd (let x : Err InvalidInput ≡ Err TooWide = h in cc);
  answers_not_carried = λ h. absurd (let x : Err InvalidInput ≡ Err NotCarried = h in cc);
  equal_bodies = λ read. tt;
  nodes_are_bounded = nodes_are_bounded from t root i;
  one_value = one_value from t root i;
})
told t root from i to serde.TypeMismatch refusal tells nothing none_without_limits deep wide uncarried = rw tells (record {
  answers_ok = tt;
  spelled_is_ok = λ v h fit. absurd (nothing tt v h);
  unfit_is_refused = λ v u h lack. absurd (nothing tt v h);
  answers_inexpressible = λ u h. absurd (let x : Err InvalidInput ≡ Err (Inexpressible u) = h in cc);
  answers_invalid_input = λ h. nothing tt;
  answers_invalid_without_limits = λ h. none_without_limits tt;
  answers_too_deep = λ h. absurd (let x : Err InvalidInput ≡ Err TooDeep = h in cc);
  answers_too_wide = λ h. absurd (let x : Err InvalidInput ≡ Err TooWide = h in cc);
  answers_not_carried = λ h. absurd (let x : Err InvalidInput ≡ Err NotCarried = h in cc);
  equal_bodies = λ read. tt;
  nodes_are_bounded = nodes_are_bounded from t root i;
  one_value = one_value from t root i;
})
told t root from i to serde.TooDeep refusal tells nothing none_without_limits deep wide uncarried = rw tells (record {
  answers_ok = tt;
  spelled_is_ok = λ v h fit. absurd (nothing tt v h);
  unfit_is_refused = λ v u h lack. absurd (nothing tt v h);
  answers_inexpressible = λ u h. absurd (let x : Err TooDeep ≡ Err (Inexpressible u) = h in cc);
  answers_invalid_input = λ h. nothing tt;
  answers_invalid_without_limits = λ h. absurd (let x : Err TooDeep ≡ Err InvalidInput = h in cc);
  answers_too_deep = λ h. (nothing tt, deep refl);
  answers_too_wide = λ h. absurd (let x : Err TooDeep ≡ Err TooWide = h in cc);
  answers_not_carried = λ h. absurd (let x : Err TooDeep ≡ Err NotCarried = h in cc);
  equal_bodies = λ read. tt;
  nodes_are_bounded = nodes_are_bounded from t root i;
  one_value = one_value from t root i;
})
told t root from i to serde.TooWide refusal tells nothing none_without_limits deep wide uncarried = rw tells (record {
  answers_ok = tt;
  spelled_is_ok = λ v h fit. absurd (nothing tt v h);
  unfit_is_refused = λ v u h lack. absurd (nothing tt v h);
  answers_inexpressible = λ u h. absurd (let x : Err TooWide ≡ Err (Inexpressible u) = h in cc);
  answers_invalid_input = λ h. nothing tt;
  answers_invalid_without_limits = λ h. absurd (let x : Err TooWide ≡ Err InvalidInput = h in cc);
  answers_too_deep = λ h. absurd (let x : Err TooWide ≡ Err TooDeep = h in cc);
  answers_too_wide = λ h. (nothing tt, wide refl);
  answers_not_carried = λ h. absurd (let x : Err TooWide ≡ Err NotCarried = h in cc);
  equal_bodies = λ read. tt;
  nodes_are_bounded = nodes_are_bounded from t root i;
  one_value = one_value from t root i;
})
told t root from i to serde.NotCarried refusal tells nothing none_without_limits deep wide uncarried = rw tells (record {
  answers_ok = tt;
  spelled_is_ok = λ v h fit. absurd (nothing tt v h);
  unfit_is_refused = λ v u h lack. absurd (nothing tt v h);
  answers_inexpressible = λ u h. absurd (let x : Err NotCarried ≡ Err (Inexpressible u) = h in cc);
  answers_invalid_input = λ h. nothing tt;
  answers_invalid_without_limits = λ h. absurd (let x : Err NotCarried ≡ Err InvalidInput = h in cc);
  answers_too_deep = λ h. absurd (let x : Err NotCarried ≡ Err TooDeep = h in cc);
  answers_too_wide = λ h. absurd (let x : Err NotCarried ≡ Err TooWide = h in cc);
  answers_not_carried = λ h. (nothing tt, uncarried refl);
  equal_bodies = λ read. tt;
  nodes_are_bounded = nodes_are_bounded from t root i;
  one_value = one_value from t root i;
})
told t root from i to serde.NoMemory refusal tells nothing none_without_limits deep wide uncarried = rw tells (no_memory t root from i to)
told t root from i to serde.Unsupported refusal tells nothing none_without_limits deep wide uncarried = absurd tells
told t root from i to serde.Unwritable refusal tells nothing none_without_limits deep wide uncarried = absurd tells
told t root from i to serde.Missing refusal tells nothing none_without_limits deep wide uncarried = absurd tells
told t root from i to serde.Failed refusal tells nothing none_without_limits deep wide uncarried = absurd tells

pub refused : {A : Type 0} (t : Table) (root : ℕ) (from : Wire) (i : List ℕ) (to : Wire) (r : Result A SerdeError) (e : SerdeError) (refusal : TranscodeError) → r ≡ Err e → IsToldAs e refusal
    → (IsRefused r → SpellNothing from t root i) → (IsInvalid r → SpellNothingWithoutLimits from t root i) → (IsErrOf r serde.TooDeep → IsTooDeep from t root i) → (IsErrOf r serde.TooWide → IsWide from t i) → (IsErrOf r serde.NotCarried → IsUncarried from t i)
    → Transcodes t root from i to (Err refusal)
refused t root from i to r e refusal is tells nothing none_without_limits deep wide uncarried =
    told t root from i to e refusal tells (λ fault. nothing (rw is fault)) (λ invalid. none_without_limits (rw is invalid)) (λ depth. deep (is ∙ ap Err depth)) (λ width. wide (is ∙ ap Err width))
    (λ other. uncarried (is ∙ ap Err other))
