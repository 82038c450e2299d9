-- The first place at which the step stands.
use Rattle.std.proofs.Common.{sym, subst, rules}
use borrow.Author.Tests.{tests}
use Rattle.std.proofs.lemmas.Iterator.{YieldsList-from_slice}
use Rattle.std.proofs.lemmas.Iterator.Search.{position_from_yields_List}
use Rattle.sheets.specs.Transitions.{same_transition, IsPlaceOf}
use Rattle.sheets.proofs.Places.{stands_at_position}
use Rattle.sheets.proofs.store.Sheet.place_of.Goals as goal

pub returns : goal.returns
returns c =
    let xs = c.args.self.now.steps.items in
    let x = c.args.step in
    let first =
    position_from_yields_List (λ y. same_transition y x) _ _ c.position.result c.position.ensures.ran
    (YieldsList-from_slice xs (cc)) (λ y b q k. search (rules, tests)) in
    subst (IsPlaceOf xs x) (sym first) (stands_at_position x xs)
