-- The count fits, since a sheet has few steps.
use Rattle.std.proofs.Common.{cond, rules, tests, arith}
use Rattle.std.proofs.lemmas.Iterator.{YieldsList-from_slice, YieldsList-from_map}
use Rattle.std.proofs.lemmas.Iterator.Consumers.{fits_by_from_yields_list}
use Rattle.std.proofs.lemmas.List.Sums.{count_by-le-length}
use Rattle.sheets.specs.declared.transitions.Transition.{Transition}
use Rattle.sheets.proofs.Leaving.{is_from}
use Rattle.sheets.proofs.store.Sheet.count_leaving.Goals as goal

pub sum-requires-clause-fits : goal.sum-requires-clause-fits
sum-requires-clause-fits c =
    let xs = c.args.self.now.steps.items in
    let p = c.args.state in
    let one : Transition → _ = λ x. cond (is_from p x) 1 0 in
    fits_by_from_yields_list one xs c.map.result _
    (YieldsList-from_map _ one (YieldsList-from_slice xs cc) c.map.ensures.closure (λ x r q k. search (rules, tests)))
    (omega (arith, count_by-le-length (is_from p) xs, c.args.self.now.few_steps))
