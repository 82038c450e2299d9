-- No class is made, and no chain has one.
use Rattle.std.proofs.Common.{rules}
use Rattle.refine.proofs.Blanks.{all_same}
use Rattle.refine.proofs.Chaining.{unlinked}
use Rattle.refine.proofs.chains.Chains.new.Goals as goal

pub invariant_of-result-clause-chained : goal.invariant_of-result-clause-chained
invariant_of-result-clause-chained c = unlinked _ _ c.in_ok-made.ensures.items (all_same 0 4096 _ (c.in_ok-heads.ensures.items_if_clones_equal (λ y e. search rules)))
