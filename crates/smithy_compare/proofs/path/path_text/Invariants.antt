use Rattle.std.proofs.Common.{◌≡◌, ◌++◌, map as mapped, drop, option_map, string_bytes}
use Rattle.smithy_shapes.specs.Site.{site_of}
use Rattle.smithy_compare.specs.PathText.{steps_text, text_of_path}
use Rattle.smithy_compare.specs.View.{step_of}
use Rattle.smithy_compare.proofs.path.path_text.Given as goal

-- what is written and the steps that are left make the whole text
abbrev pub invariant-loop-part : goal.invariant-loop-part
invariant-loop-part l =
    text_of_path l.shapes l.fn.root.0 (mapped step_of l.path)
    ≡ string_bytes l.text ++ steps_text (option_map site_of l.there) (mapped step_of (drop l.part-index l.path))
