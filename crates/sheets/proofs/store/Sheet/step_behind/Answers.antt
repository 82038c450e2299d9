-- The step at a place, moved, is that at the place of the moved ones.
use Rattle.std.proofs.Common.{◌≡◌, ap, ◌∙◌, rules, arith}
use Rattle.std.specs.Option.{option_map}
use Rattle.std.specs.List.{slice_get}
use Rattle.lts.specs.Systems.{moved_within}
use Rattle.lts.proofs.Nth.{nth_of_map}
use Rattle.sheets.specs.Held.{held}
use Rattle.sheets.specs.Listings.{process_of}
use Rattle.sheets.specs.SheetLimits.{sheet_limits}
use Rattle.sheets.proofs.Sides.{never_far}
use Rattle.sheets.proofs.store.Sheet.step_behind.Goals as goal

pub returns : goal.returns
returns c =
    let s = c.args.self.now in
    let n = c.args.n in
    let made : c.map.result ≡ option_map (moved_within n) c.step.result = search rules in
    made ∙ nth_of_map (moved_within n) ((process_of (held s)).from c.args.state) c.args.place c.step.result c.step.ensures
    ∙ ap (λ xs. slice_get xs c.args.place) (never_far (process_of (held s)) (sheet_limits s) c.args.state n (omega arith))
