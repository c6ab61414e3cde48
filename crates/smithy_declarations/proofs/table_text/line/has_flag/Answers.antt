use Rattle.std.proofs.Common.{sym, ◌∙◌, rules, tests}
use Rattle.std.specs.Str.{bytes_eq}
use Rattle.std.proofs.lemmas.Iterator.{YieldsList-from_slice}
use Rattle.std.proofs.lemmas.Iterator.Search.{any_from_yields_List}
use Rattle.smithy_declarations.proofs.TableTextLemmas.{list_any-map}
use Rattle.smithy_declarations.proofs.table_text.line.has_flag.Goals as goal

pub returns : goal.returns
returns c =
    any_from_yields_List (λ w. bytes_eq w.now c.args.flag.now) _ _ _ c.any.ensures.ran (YieldsList-from_slice c.args.words.now c.iter.ensures.rest) (λ x b q k. search (rules, tests))
    ∙ sym (list_any-map (λ w. bytes_eq w c.args.flag.now) (λ w. w.now) c.args.words.now)
