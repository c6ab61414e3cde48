use Rattle.std.proofs.Common.{refl, ◌∙◌, ap}
use Rattle.std.proofs.lemmas.Result.{err_from_is_err_and}
use Rattle.smithy_schema.specs.TextMaps.{put, refused, no_room, text_entries}
use Rattle.smithy_schema.proofs.ReadTexts.{text_put}
use Rattle.smithy_schema.proofs.text_maps.TextEntriesMapConsumer.entry.Goals as goal

pub returns-in_err-text-clause-called : goal.returns-in_err-text-clause-called
returns-in_err-text-clause-called g c =
    let p = err_from_is_err_and c.from_residual.result c.from_residual.ensures.1 in
    rw (p.1, p.2) (refused c.in_err-text.ensures.read, refl)

pub returns-in_err-insert-clause-called : goal.returns-in_err-insert-clause-called
returns-in_err-insert-clause-called g c =
    let p = err_from_is_err_and c.from_residual-in_err-insert.result c.from_residual-in_err-insert.ensures.1 in
    rw (p.1, p.2) (no_room c.in_ok-text.text c.in_ok-text.ensures.read, refl)

pub returns-clause-called : goal.returns-clause-called
returns-clause-called g c =
    rw (ap text_entries c.in_ok-insert.ensures.entries ∙ text_put c.args.self.now.entries.entries c.args.key c.in_ok-text.text) (put c.in_ok-text.text c.in_ok-text.ensures.read, refl)
