-- What marking keeps from step to step.
use Rattle.std.proofs.Common.{◌≡◌, ℕ, ◌≤◌, get_or, take}
use Rattle.refine.specs.Codes.{coded, weigh}
use Rattle.refine.proofs.Marking.{Marked}
use Rattle.refine.proofs.marks.Marks.mark.Given as goal

-- the codes of the steps before this one are marked, and weighed
abbrev pub invariant-loop-step : goal.invariant-loop-step
invariant-loop-step l =
    Marked l.signature.begins.now l.signature.steps.now l.last 126720 l.stamps l.step-index
    × ((c : ℕ) → get_or l.stamps c 0 ≤ l.last)
    × (l.hash ≡ weigh (coded l.signature.begins.now (take l.step-index l.signature.steps.now)) 126720)
