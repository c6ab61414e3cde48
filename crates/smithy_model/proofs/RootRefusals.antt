-- What refuses a part of a model refuses its text.
use Rattle.std.proofs.Common.{◌≡◌, inl, inr, ℕ, List, Some, codes}
use Rattle.json.specs.Json.{Json, document}
use Rattle.json.specs.Strict.{HasUniqueKeys}
use Rattle.smithy_model.specs.declared.fault.ModelFault.{ModelFault}
use Rattle.smithy_model.specs.declared.fault.ModelFault.TheVariants as faults
use Rattle.smithy_model.specs.Objects.{Entry, entries_in}
use Rattle.smithy_model.specs.Model.{Shape, Model}
use Rattle.smithy_model.specs.Form.{Form}
use Rattle.smithy_model.specs.Reading.{form_in, operations_name, shapes_among, IsUnlinked}
use Rattle.smithy_model.specs.Faults.{RefusesLinks, RefusesMixins, RefusesShapes, RefusesOperations, RefusesRoot, RefusesText}

pub refused_shapes : (root : Json) (form : Form) (es : List Entry) → form_in root ≡ Some form → entries_in (codes "shapes") root ≡ Some es → (fault : ModelFault)
    → RefusesShapes form es fault → RefusesRoot root fault
refused_shapes root form es is has (faults.BadShape id) one = (form, es, is, inl (has, one))
refused_shapes root form es is has (faults.Applied id) one = (es, has, one)
refused_shapes root form es is has faults.NoMemory one = tt
refused_shapes root form es is has faults.NotJson one = absurd one
refused_shapes root form es is has faults.NameTwice one = absurd one
refused_shapes root form es is has faults.NotAModel one = absurd one
refused_shapes root form es is has (faults.UnknownTarget id) one = absurd one
refused_shapes root form es is has (faults.BadMixin id) one = absurd one

pub refused_mixins : (root : Json) (form : Form) (es : List Entry) (own : List Shape) → form_in root ≡ Some form → entries_in (codes "shapes") root ≡ Some es
    → shapes_among form es ≡ Some own → (fault : ModelFault) → RefusesMixins own fault → RefusesRoot root fault
refused_mixins root form es own is has read (faults.BadMixin id) one = (form, es, own, is, has, read, one)
refused_mixins root form es own is has read faults.NoMemory one = tt
refused_mixins root form es own is has read faults.NotJson one = absurd one
refused_mixins root form es own is has read faults.NameTwice one = absurd one
refused_mixins root form es own is has read faults.NotAModel one = absurd one
refused_mixins root form es own is has read (faults.BadShape id) one = absurd one
refused_mixins root form es own is has read (faults.UnknownTarget id) one = absurd one
refused_mixins root form es own is has read (faults.Applied id) one = absurd one

pub refused_operations : (root : Json) (form : Form) (es : List Entry) → form_in root ≡ Some form → entries_in (operations_name form) root ≡ Some es → (fault : ModelFault)
    → RefusesOperations form es fault → RefusesRoot root fault
refused_operations root form es is has (faults.BadShape id) one = (form, es, is, inr (has, one))
refused_operations root form es is has faults.NoMemory one = tt
refused_operations root form es is has faults.NotJson one = absurd one
refused_operations root form es is has faults.NameTwice one = absurd one
refused_operations root form es is has faults.NotAModel one = absurd one
refused_operations root form es is has (faults.UnknownTarget id) one = absurd one
refused_operations root form es is has (faults.BadMixin id) one = absurd one
refused_operations root form es is has (faults.Applied id) one = absurd one

pub refused_root : (text : List ℕ) (root : Json) → document text ≡ Some root → HasUniqueKeys root → (fault : ModelFault) → RefusesRoot root fault → RefusesText text fault
refused_root text root is unique faults.NotAModel one = (root, is, unique, one)
refused_root text root is unique (faults.BadShape id) one = (root, is, unique, one)
refused_root text root is unique (faults.UnknownTarget id) one = (root, is, unique, one)
refused_root text root is unique (faults.BadMixin id) one = (root, is, unique, one)
refused_root text root is unique (faults.Applied id) one = (root, is, unique, one)
refused_root text root is unique faults.NoMemory one = tt
refused_root text root is unique faults.NotJson one = absurd one
refused_root text root is unique faults.NameTwice one = absurd one

pub refused_links : (text : List ℕ) (root : Json) (m : Model) → document text ≡ Some root → HasUniqueKeys root → IsUnlinked root m → (fault : ModelFault) → RefusesLinks m fault
    → RefusesText text fault
refused_links text root m is unique unlinked (faults.UnknownTarget id) one = (root, is, unique, (m, unlinked, one))
refused_links text root m is unique unlinked faults.NoMemory one = tt
refused_links text root m is unique unlinked faults.NotJson one = absurd one
refused_links text root m is unique unlinked faults.NameTwice one = absurd one
refused_links text root m is unique unlinked faults.NotAModel one = absurd one
refused_links text root m is unique unlinked (faults.BadShape id) one = absurd one
refused_links text root m is unique unlinked (faults.BadMixin id) one = absurd one
refused_links text root m is unique unlinked (faults.Applied id) one = absurd one
