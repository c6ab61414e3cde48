-- What a read of a tree answers that is a scalar, by what its call says.
use Rattle.std.proofs.Common.{◌≡◌, Some, true, Result, Ok, Err, IfOk, IfErr}
use Rattle.smithy_declarations.specs.declared.shape_type.Scalar.{Scalar}
use Rattle.smithy_declarations.specs.Table.{scalar_type, type_of}
use Rattle.smithy_declarations.specs.Value.{ScalarValue, Value, scalar_value}
use Rattle.smithy_schema.specs.declared.error.SerdeError.{SerdeError}
use Rattle.smithy_schema.specs.declared.error.SerdeError.TheVariants.{NoMemory}
use Rattle.smithy_schema.specs.declared.read.ShapeDeserializer as deserializer
use Rattle.smithy_schema.specs.Reading.{CountsOpeners, ReadsScalar}
use Rattle.smithy_shapes.specs.Site.{Site, kind_at}
use Rattle.smithy_value.specs.Building.{IsMade}
use Rattle.smithy_value.specs.ReadTree.{ReadsTree}
use Rattle.smithy_value.proofs.Made.{made_shown, made_added}
use Rattle.smithy_value.proofs.ReadAnswers.{scalar_fails, scalar_made}

module _ {D P T A : Type 0} {d : deserializer.Ghosts D} {keeps : P → P → Type 0} {stands : P → T → Type 0} {view : P → T → Value} {value : A → ScalarValue} (kind : Scalar) where
  pub refused : {old new : D} {p q : P} {site : Site} {e : SerdeError} → Some (scalar_type kind) ≡ type_of (kind_at site) → (d.state old).due ≡ true
      → d.settings new ≡ d.settings old → ReadsScalar {A = A} (d.reading (d.settings old)) (d.state old) (d.state new) site kind value (Err e) → ReadsTree d keeps stands view old new p q site (Err e)
  refused {old} {new} {p} {q} {site} {e} is due same reads =
      let r = d.reading (d.settings old) in
      record {
        same = same;
        reads = scalar_fails r.wire r.lifted r.tells_without_limits r.max_depth {A = A} {B = T} kind value (view q) site (d.state old) (d.state new) e is due reads;
        adds = tt;
      }

  -- a tree is made of it, or memory runs out
  pub made : {old new : D} {p q : P} {site : Site} {y : A} {x : ScalarValue} {result : Result T SerdeError} → ((d.reading (d.settings old)).tells_without_limits → CountsOpeners (d.reading (d.settings old)).wire)
      → Some (scalar_type kind) ≡ type_of (kind_at site) → d.settings new ≡ d.settings old → ReadsScalar {A = A} (d.reading (d.settings old)) (d.state old) (d.state new) site kind value (Ok y)
      → value y ≡ x → IfOk result (IsMade keeps stands view p q (scalar_value x)) → IfErr result (λ e. e ≡ NoMemory) → ReadsTree d keeps stands view old new p q site result
  made {old} {new} {p} {q} {site} {y} {x} {result} counts is same reads shown found err =
      let r = d.reading (d.settings old) in
      record {
        same = same;
        reads = scalar_made r.wire r.lifted r.tells_without_limits r.max_depth {A = A} {B = T} kind value (view q) site (d.state old) (d.state new) y x result counts is reads shown (made_shown keeps stands view p q (scalar_value x) result found) err;
        adds = made_added keeps stands view p q (scalar_value x) result found;
      }

  -- a tree that needs no memory stands for it
  pub given : {old new : D} {p q : P} {site : Site} {y : A} {x : ScalarValue} {tree : T} → ((d.reading (d.settings old)).tells_without_limits → CountsOpeners (d.reading (d.settings old)).wire)
      → Some (scalar_type kind) ≡ type_of (kind_at site) → d.settings new ≡ d.settings old → ReadsScalar {A = A} (d.reading (d.settings old)) (d.state old) (d.state new) site kind value (Ok y)
      → view q tree ≡ scalar_value x → value y ≡ x → keeps p q → stands q tree → ReadsTree d keeps stands view old new p q site (Ok tree)
  given {old} {new} {p} {q} {site} {y} {x} {tree} counts is same reads shows shown kept here =
      let r = d.reading (d.settings old) in
      record {
        same = same;
        reads = scalar_made r.wire r.lifted r.tells_without_limits r.max_depth {A = A} {B = T} kind value (view q) site (d.state old) (d.state new) y x (Ok tree) counts is reads shown shows tt;
        adds = (kept, here);
      }
