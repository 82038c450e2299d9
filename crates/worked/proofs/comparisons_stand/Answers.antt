-- The proof of `comparisons_stand`.
use Rattle.worked.proofs.Checks.{comparisons_stand}
use Rattle.worked.proofs.comparisons_stand.Goals as goal

pub returns : goal.returns
returns c = comparisons_stand
