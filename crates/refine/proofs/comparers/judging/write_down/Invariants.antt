-- What the loop keeps from number to number.
use Rattle.std.proofs.Common.{◌≡◌, ℕ, ◌<◌, ◌≤◌, get_or}
use Rattle.refine.specs.Ranks.{numbers}
use Rattle.refine.specs.Censuses.{Counted}
use Rattle.refine.proofs.comparers.judging.write_down.Given as goal

-- the numbers before this one are written and counted, and the rest is as it was
abbrev pub invariant-loop-state : goal.invariant-loop-state
invariant-loop-state l =
    ((k : ℕ) → k < l.state → get_or l.classes k 0 ≡ get_or (numbers l.labels l.begins) k 0)
    × ((k : ℕ) → l.state ≤ k → get_or l.classes k 0 ≡ get_or l.initial.classes k 0)
    × Counted l.state (numbers l.labels l.begins) l.count
