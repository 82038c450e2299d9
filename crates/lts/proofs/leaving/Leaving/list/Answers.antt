-- The proof of `Leaving::list`.
use Rattle.std.proofs.Common.{rules, tests}
use Rattle.std.proofs.lemmas.Iterator.{YieldsList-from_map}
use Rattle.std.proofs.lemmas.Iterator.Consumers.{YieldsList-from_first, YieldsList-from_filter, YieldsList-at}
use Rattle.lts.specs.declared.steps.Step.{Step}
use Rattle.lts.specs.Systems.{moved_within}
use Rattle.lts.specs.Groups.{in_group}
use Rattle.lts.proofs.Filled.{is_filled_by}
use Rattle.lts.proofs.leaving.Leaving.list.Goals as goal

pub returns : goal.returns
returns g c =
    is_filled_by c.args.into.now c.put_all.new.into c.put_all.ensures
    (YieldsList-from_map _ (moved_within c.args.offset)
    (YieldsList-at c.map.ensures.source
    (YieldsList-from_filter _ (λ (s : Step). in_group c.args.group s.label) (YieldsList-from_first (λ (s : Step). s) (λ left. left) c.args.self cc) c.filter.ensures.closure (λ x b q k. search (rules, tests))))
    c.map.ensures.closure (λ x r q k. search rules))
