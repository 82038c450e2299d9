-- What the loop of `put_all` keeps: what came so far was put.
use Rattle.lts.specs.Lists.{IsFilled}
use Rattle.lts.proofs.steps.put_all.Given as goal

abbrev pub invariant-loop-step : goal.invariant-loop-step
invariant-loop-step g l = IsFilled l.fn.into l.into l.yielded
