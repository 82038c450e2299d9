-- No code has a stamp yet.
use Rattle.std.proofs.Common.{arith, rules}
use Rattle.refine.proofs.Blanks.{all_same}
use Rattle.refine.proofs.marks.Marks.new.Goals as goal

pub invariant_of-result-clause-bound : goal.invariant_of-result-clause-bound
invariant_of-result-clause-bound c k = let e = all_same 0 126720 _ (c.in_ok-stamps.ensures.items_if_clones_equal (λ y e. search rules)) k in omega (arith, e)
