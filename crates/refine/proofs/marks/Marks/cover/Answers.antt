-- Each step's code is within the marks, since the steps are placed.
use Rattle.std.proofs.Common.{◌<◌, length, sym, refl, subst, rules}
use Rattle.std.proofs.lemmas.Iterator.{YieldsList-from_slice}
use Rattle.std.proofs.lemmas.Iterator.Adapters.{serves_from_places}
use Rattle.std.proofs.lemmas.Iterator.Search.{all_from_yields_List}
use Rattle.std.proofs.lemmas.List.{get_or_read_under}
use borrow.Author.Tests.{tests}
use Rattle.lts.specs.declared.steps.Step.{Step}
use Rattle.lts.specs.Systems.{step}
use Rattle.refine.specs.Codes.{code, marked}
use Rattle.refine.proofs.marks.Marks.cover.Goals as goal

pub all-requires-clause-callable : goal.all-requires-clause-callable
all-requires-clause-callable c =
    let s = c.args.signature.now in
    serves_from_places (YieldsList-from_slice s.steps.now cc) (λ x q k. search (rules, tests))
    (λ x k l e.
    let fits = subst (λ (x : Step). (x.target < length s.begins.now) × (code s.begins.now x < 126720))
    (sym (get_or_read_under s.steps.now k _ x.now (step 0 0) e l refl)) (s.placed k l) in
    let t = fits.0 in
    let u = fits.1 in
    search rules)

pub returns : goal.returns
unfolding marked
returns c =
    all_from_yields_List _ _ _ _ c.all.ensures.ran (YieldsList-from_slice c.args.signature.now.steps.now cc) (λ x b q k. search (rules, tests))
