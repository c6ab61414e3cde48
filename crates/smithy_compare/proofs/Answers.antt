-- What is answered for two bodies, by what was read of them.
use Rattle.std.proofs.Common.{◌≡◌, ◌≢◌, ℕ, List, Some, None, Ok, Err, sym, ◌∙◌, subst}
use Rattle.std.specs.declared.vec.Vec.{Vec}
use Rattle.std.specs.declared.alloc.Global.{Global}
use Rattle.smithy_declarations.specs.Table.{Table, shape_place}
use Rattle.smithy_declarations.specs.Value.{Value}
use Rattle.smithy_transcode.specs.declared.wire.TranscodeError.{TranscodeError}
use Rattle.smithy_transcode.specs.declared.wire.TranscodeError.TheVariants as read
use Rattle.smithy_transcode.specs.Wires.{Wire}
use Rattle.smithy_transcode.specs.Spelling.{Spells}
use Rattle.smithy_transcode.specs.ReadBody.{IsRefusedFor}
use Rattle.smithy_transcode.specs.Transcoding.{SpellNothing}
use Rattle.smithy_transcode.proofs.Transcodings.{one_value, spelled_is_small}
use Rattle.smithy_compare.specs.declared.path.PathPart.{PathPart}
use Rattle.smithy_compare.specs.declared.comparing.Compared.TheVariants.{Same, Differs}
use Rattle.smithy_compare.specs.declared.comparing.CompareError.{CompareError}
use Rattle.smithy_compare.specs.declared.comparing.CompareError.TheVariants.{First, Second, NoMemory}
use Rattle.smithy_compare.specs.FirstPath.{first_path}
use Rattle.smithy_compare.specs.Compares.{Answer, Says, GivesPath, Compares}
use Rattle.smithy_compare.specs.View.{path_of}
use Rattle.smithy_compare.specs.Private.Refusals.{told_of}
use Rattle.smithy_compare.proofs.Naming.{differ_at}
use Rattle.smithy_compare.proofs.Laws.{none_where_equal, same_from_both}

module _ (t : Table) (root : ℕ) (wire1 : Wire) (body1 : List ℕ) (wire2 : Wire) (body2 : List ℕ) where
  answered : (answer : Answer) → Says t root wire1 body1 wire2 body2 answer
      → ((v w : Value) → Spells wire1 t root body1 v → Spells wire2 t root body2 w → GivesPath (first_path v w) answer)
      → Compares t root wire1 body1 wire2 body2 answer
  answered answer says spelled = record {
    says = says;
    spelled = spelled;
    none_where_equal = none_where_equal;
    same_from_both = same_from_both;
  }

  -- the path between the values that were read is that between any that are spelled
  path_of_spelled : (v w v' w' : Value) → Spells wire1 t root body1 v → Spells wire2 t root body2 w → Spells wire1 t root body1 v' → Spells wire2 t root body2 w'
      → first_path v' w' ≡ first_path v w
  path_of_spelled v w v' w' left right left' right' =
      let one = one_value wire1 t root body1 v' v left' left in
      let other = one_value wire2 t root body2 w' w right' right in
      λ k. first_path (one k) (other k)

  same : (v w : Value) → Spells wire1 t root body1 v → Spells wire2 t root body2 w → first_path v w ≡ None → Compares t root wire1 body1 wire2 body2 (Ok Same)
  same v w left right none =
      answered (Ok Same) (v, left, subst (λ u. Spells wire2 t root body2 u) (sym ((none_where_equal v w).0 none)) right)
      (λ v' w' left' right'. path_of_spelled v w v' w' left right left' right' ∙ none)

  differs : (v w : Value) (path : Vec PathPart Global) → Spells wire1 t root body1 v → Spells wire2 t root body2 w → first_path v w ≡ Some (path_of path)
      → Compares t root wire1 body1 wire2 body2 (Ok (Differs path))
  differs v w path left right found =
      answered (Ok (Differs path)) (v, w, left, right, found, differ_at t (shape_place root) v w (path_of path) (spelled_is_small wire1 t root body1 v left).0 (spelled_is_small wire2 t root body2 w right).0 found)
      (λ v' w' left' right'. path_of_spelled v w v' w' left right left' right' ∙ found)

  no_memory : Compares t root wire1 body1 wire2 body2 (Err NoMemory)
  no_memory = answered (Err NoMemory) tt (λ v w left right. tt)

  -- both bodies spell values, of which the answer tells the first path
  pub compared : (v w : Value) (answer : Answer) → Spells wire1 t root body1 v → Spells wire2 t root body2 w → GivesPath (first_path v w) answer
      → Compares t root wire1 body1 wire2 body2 answer
  compared v w (Ok Same) left right gives = same v w left right gives
  compared v w (Ok (Differs path)) left right gives = differs v w path left right gives
  compared v w (Err NoMemory) left right gives = no_memory
  compared v w (Err (First e)) left right gives = absurd gives
  compared v w (Err (Second e)) left right gives = absurd gives

  -- the first body is refused
  first : (e : TranscodeError) → IsRefusedFor wire1 t root body1 e → SpellNothing wire1 t root body1 → Compares t root wire1 body1 wire2 body2 (Err (First e))
  first e cause nothing = answered (Err (First e)) cause (λ v w left right. absurd (nothing v left))

  pub first_refused : (e : TranscodeError) (answer : CompareError) → answer ≡ told_of First e → ((e ≢ read.NoMemory) → IsRefusedFor wire1 t root body1 e)
      → Compares t root wire1 body1 wire2 body2 (Err answer)
  first_refused read.NoMemory answer told cause = rw told no_memory
  first_refused read.InvalidInput answer told cause = let h = cause (λ e. cc) in rw told (first read.InvalidInput h h.0)
  first_refused read.TooDeep answer told cause = let h = cause (λ e. cc) in rw told (first read.TooDeep h h.0)
  first_refused read.TooWide answer told cause = let h = cause (λ e. cc) in rw told (first read.TooWide h h.0)
  first_refused read.NotCarried answer told cause = let h = cause (λ e. cc) in rw told (first read.NotCarried h h.0)
  first_refused (read.Inexpressible u) answer told cause = absurd (cause (λ e. cc))

  -- the first body spells a value, and the second is refused
  second : (v : Value) (e : TranscodeError) → Spells wire1 t root body1 v → IsRefusedFor wire2 t root body2 e → SpellNothing wire2 t root body2 → Compares t root wire1 body1 wire2 body2 (Err (Second e))
  second v e spelled cause nothing = answered (Err (Second e)) ((v, spelled), cause) (λ v' w left right. absurd (nothing w right))

  pub second_refused : (v : Value) (e : TranscodeError) (answer : CompareError) → answer ≡ told_of Second e → Spells wire1 t root body1 v → ((e ≢ read.NoMemory) → IsRefusedFor wire2 t root body2 e)
      → Compares t root wire1 body1 wire2 body2 (Err answer)
  second_refused v read.NoMemory answer told spelled cause = rw told no_memory
  second_refused v read.InvalidInput answer told spelled cause = let h = cause (λ e. cc) in rw told (second v read.InvalidInput spelled h h.0)
  second_refused v read.TooDeep answer told spelled cause = let h = cause (λ e. cc) in rw told (second v read.TooDeep spelled h h.0)
  second_refused v read.TooWide answer told spelled cause = let h = cause (λ e. cc) in rw told (second v read.TooWide spelled h h.0)
  second_refused v read.NotCarried answer told spelled cause = let h = cause (λ e. cc) in rw told (second v read.NotCarried spelled h h.0)
  second_refused v (read.Inexpressible u) answer told spelled cause = absurd (cause (λ e. cc))
