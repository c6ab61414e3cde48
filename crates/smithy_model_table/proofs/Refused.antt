-- Why a part of a model is no table.
use Rattle.std.proofs.Common.{◌≡◌, ◌≤◌, ℕ, inr, List, Bool, length}
use Rattle.smithy_model.specs.Model.{Model}
use Rattle.smithy_declarations.specs.Decl.{Decl}
use Rattle.smithy_table_text.specs.declared.fault.TextFault.{TextFault}
use Rattle.smithy_table_text.specs.declared.fault.TextFault.TheVariants as text_faults
use Rattle.smithy_table_text.specs.Writable.{RefusesDecls}
use Rattle.smithy_model_table.specs.declared.fault.WantedFault.{WantedFault}
use Rattle.smithy_model_table.specs.declared.fault.WantedFault.TheVariants as faults
use Rattle.smithy_model_table.specs.Finding.{RefusesSearch}
use Rattle.smithy_model_table.specs.Leaving.{AreFewest}
use Rattle.smithy_model_table.specs.Declaring.{Names}
use Rattle.smithy_model_table.specs.Naming.{names_of}
use Rattle.smithy_model_table.specs.Outcomes.{LeftOut, AreParts}
use Rattle.smithy_model_table.specs.Reaching.{AreReached}
use Rattle.smithy_model_table.specs.Wanted.{Wanted, AreRoots}
use Rattle.smithy_model_table.specs.ModelTable.{most_shapes, IsMade}
use Rattle.smithy_model_table.specs.Refusals.{RefusesWanted, fault_of_text}
use Rattle.smithy_model_table.proofs.Roots.{root_first}

pub made_of : (m : Model) (w : Wanted) (names : Names) (marks : List Bool) (roots order : List ℕ) (decls : List Decl) (left : List LeftOut)
    → length m.shapes ≤ most_shapes → names ≡ names_of m → AreFewest m marks → AreRoots m marks w roots → AreReached m marks roots order
    → AreParts m marks names order decls left → IsMade m w decls left
made_of m w names marks roots order decls left few named fewest wanted reached declared = record {
  few = few;
  names = names;
  named = named;
  marks = marks;
  fewest = fewest;
  roots = roots;
  are_wanted = wanted;
  order = order;
  are_reached = reached;
  declared = declared;
  root = root_first m marks names w roots order decls left wanted reached declared;
}

-- what is wanted isn't found
pub roots_refused : (m : Model) (marks : List Bool) (w : Wanted) (fault : WantedFault) → AreFewest m marks → RefusesSearch m marks w fault → RefusesWanted m w fault
roots_refused m marks w faults.NoSuchName fewest refused = refused
roots_refused m marks w faults.NoDeclaration fewest refused = (marks, fewest, refused)
roots_refused m marks w faults.NoMemory fewest refused = tt
roots_refused m marks w faults.TooLong fewest refused = absurd refused
roots_refused m marks w (faults.TableRefused fault) fewest refused = absurd refused
roots_refused m marks w faults.Unwritable fewest refused = absurd refused

-- the declarations have no text
pub text_refused : (m : Model) (w : Wanted) (decls : List Decl) (left : List LeftOut) (fault : TextFault) → IsMade m w decls left → RefusesDecls decls fault
    → RefusesWanted m w (fault_of_text fault)
text_refused m w decls left text_faults.TooLong made refused = inr (decls, left, made, refused)
text_refused m w decls left text_faults.Unwritable made refused = (decls, left, made, refused)
text_refused m w decls left (text_faults.Refused fault) made refused = (decls, left, made, refused)
text_refused m w decls left text_faults.NoMemory made refused = tt
