-- What a call that reads a form answers, where its value is written.
use Rattle.std.proofs.Common.{◌≡◌, ◌++◌, ℕ, List, length, Option, Ok, inr}
use Rattle.std.specs.Cow.{cow_str_bytes}
use Rattle.std.specs.declared.vec.Vec.{Vec}
use Rattle.std.specs.declared.alloc.Global.{Global}
use Rattle.smithy_declarations.specs.Table.{Table}
use Rattle.smithy_value.specs.View.{view}
use Rattle.smithy_transcode.specs.Wires.{Wire}
use Rattle.smithy_transcode.specs.WriteBody.{WritesBody}
use Rattle.smithy_form.specs.ReadsForm.{ReadsForm}
use Rattle.smithy_form.specs.declared.whole.Form.{Form}
use Rattle.smithy_transcode_c.specs.Calls.{IsHandedOut, IsMeantAlone}
use Rattle.smithy_transcode_c.specs.Reading.{FormAnswer}

pub form_written : (table : Table) (root_name : List ℕ) (asked : Option Wire) (input room : List ℕ) (root : ℕ) (to : Wire) (form : Form) (body : Vec ℕ Global)
    → IsMeantAlone table root_name asked root to → ReadsForm table root input (Ok form) → WritesBody table root to (view form.value) (Ok body)
    → (a v b : List ℕ) (count number : ℕ) (out : List ℕ) → a ≡ cow_str_bytes form.action → v ≡ cow_str_bytes form.version → b ≡ body.items → count ≡ length body.items
    → IsHandedOut 0 (a ++ (v ++ b)) room number out
    → FormAnswer table root_name asked input room number (record { action_len = length a; version_len = length v; body_len = count; pair = 0 }) out
form_written table root_name asked input room root to form body meant read wrote a v b count number out is_action is_version is_body counted handed =
    let given = rw (is_action, is_version, is_body) at handed in
    inr (root, to, Ok form, meant, read, (Ok body, wrote, (cc (is_action, is_version, counted), given)))
