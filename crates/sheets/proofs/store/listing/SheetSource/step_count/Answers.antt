-- As many steps leave the state as are listed.
use Rattle.std.proofs.Common.{filter, length, sym, ap, ◌∙◌}
use Rattle.std.proofs.lemmas.List.{length-map}
use Rattle.std.proofs.lemmas.List.Sums.{length-filter}
use Rattle.sheets.proofs.Leaving.{is_from, to_step, steps_leaving}
use Rattle.sheets.proofs.store.listing.SheetSource.step_count.Goals as goal

pub returns : goal.returns
returns c =
    let xs = c.args.self.now.steps.items in
    let p = c.args.state in
    c.count_leaving.ensures ∙ sym (length-filter (is_from p) xs) ∙ sym (length-map (filter (is_from p) xs) to_step)
    ∙ ap length (steps_leaving 0 p xs)
