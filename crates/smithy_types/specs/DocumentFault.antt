-- The variants of the errors of documents, without their messages.
use Rattle.smithy_types.specs.declared.document_error.DocumentError.{DocumentError}
use Rattle.smithy_types.specs.declared.document_error.DocumentError.TheVariants as errors

pub data DocumentFault : Type 0 where
  type_mismatch : DocumentFault
  overflow : DocumentFault
  invalid_input : DocumentFault
  stated : DocumentFault
  unsupported : DocumentFault
  no_memory : DocumentFault

abbrev pub fault_of : DocumentError → DocumentFault
fault_of (errors.TypeMismatch message) = type_mismatch
fault_of (errors.NumericCoercionOverflow target value) = overflow
fault_of (errors.InvalidInput message) = invalid_input
fault_of (errors.Custom message) = stated
fault_of (errors.UnsupportedOperation message) = unsupported
fault_of errors.NoMemory = no_memory
