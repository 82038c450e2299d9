-- What the chain yields is put behind the others.
use Rattle.std.proofs.Common.{map, filter, sym, subst, ap, ◌∙◌, rules, tests, arith}
use Rattle.std.proofs.lemmas.Simd.{map-map}
use Rattle.std.proofs.lemmas.Iterator.{YieldsList-from_slice, YieldsList-from_map}
use Rattle.std.proofs.lemmas.Iterator.Consumers.{YieldsList-from_filter, YieldsList-at}
use Rattle.lts.specs.Lists.{IsFilled}
use Rattle.lts.specs.Systems.{moved_within}
use Rattle.sheets.specs.declared.transitions.Transition.{Transition}
use Rattle.sheets.specs.Held.{held}
use Rattle.sheets.specs.Listings.{process_of}
use Rattle.sheets.specs.SheetLimits.{sheet_limits}
use Rattle.lts.proofs.Filled.{is_filled_by}
use Rattle.sheets.proofs.Sides.{never_far}
use Rattle.sheets.proofs.Leaving.{is_from, to_step, steps_leaving}
use Rattle.sheets.proofs.store.Sheet.list_behind.Goals as goal

pub returns : goal.returns
returns c =
    let xs = c.args.self.now.steps.items in
    let n = c.args.n in
    let p = c.args.state in
    let put = is_filled_by c.args.into.now c.put_all.new.into c.put_all.ensures
    (YieldsList-from_map _ (λ (x : Transition). moved_within n (to_step x))
    (YieldsList-at c.map.ensures.source
    (YieldsList-from_filter _ (is_from p) (YieldsList-from_slice xs (cc)) c.filter-leaving.ensures.closure (λ x b q k. search (rules, tests))))
    c.map.ensures.closure (λ x r q k. search rules)) in
    subst (IsFilled c.args.into.now c.put_all.new.into)
    (sym (map-map (moved_within n) to_step (filter (is_from p) xs)) ∙ ap (map (moved_within n)) (steps_leaving 0 p xs)
    ∙ never_far (process_of (held c.args.self.now)) (sheet_limits c.args.self.now) p n (omega arith)) put
