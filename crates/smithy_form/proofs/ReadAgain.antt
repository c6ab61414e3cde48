-- What is written for a plain value is read as this value.
use Rattle.std.proofs.Common.{ℕ, List, Result, Ok, Err, refl, sym, ◌∙◌, ap, subst}
use Rattle.smithy_declarations.specs.Table.{Table, IsStructure, kind_of, shape_place}
use Rattle.smithy_declarations.specs.Value.{Value}
use Rattle.smithy_shapes.specs.Accepted.{IsAccepted}
use Rattle.smithy_shapes.specs.Site.{Site, shape_site}
use Rattle.smithy_query_codec.specs.Leaves.{neither, leaves}
use Rattle.smithy_form.specs.declared.error.FormError.{FormError}
use Rattle.smithy_form.specs.declared.error.FormError.TheVariants.{NoValue, NoMemory}
use Rattle.smithy_form.specs.declared.whole.Form.{Form}
use Rattle.smithy_form.specs.Plain.{IsPlain}
use Rattle.smithy_form.specs.Pairs.{leaf_pairs, greatest_depth}
use Rattle.smithy_form.specs.Forms.{parts_of}
use Rattle.smithy_form.specs.ReadsForm.{AnswersPairs, AnswersParts, IsReadAs, ReadsForm}
use Rattle.smithy_form.proofs.WrittenLeaves.{written_value}

read_back : (site : Site) (action version : List ℕ) (v : Value) → IsPlain site greatest_depth v → (answer : Result Form FormError)
    → AnswersPairs site action version (leaf_pairs (leaves site neither v)) answer → IsReadAs action version v answer
read_back site action version v plain (Ok f) h = record { action = h.0.action; version = h.0.version; value = sym (h.1.1 v (plain, λ name. refl)) }
read_back site action version v plain (Err NoValue) h = absurd (h v (plain, λ name. refl))
read_back site action version v plain (Err NoMemory) h = refl
read_back site action version v plain (Err _) h = absurd h

-- all that is said of an answer follows from what the form is
pub reads_form : (table : Table) → IsAccepted table → (root : ℕ) → IsStructure (kind_of table (shape_place root)) → (input : List ℕ) (answer : Result Form FormError)
    → AnswersParts (shape_site table root) (parts_of input) answer → ReadsForm table root input answer
reads_form table accepted root kind input answer h = record {
  answers = h;
  reads_back = λ action version v ha hv plain is.
      read_back (shape_site table root) action version v plain answer
      (subst (λ p. AnswersParts (shape_site table root) p answer) (ap parts_of is ∙ written_value table accepted root kind action version v ha hv plain) h);
}
