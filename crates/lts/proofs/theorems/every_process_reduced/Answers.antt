-- The proof of `every_process_reduced`.
use Rattle.lts.proofs.Main.{every_process_reduced}
use Rattle.lts.proofs.theorems.every_process_reduced.Goals as goal

pub returns : goal.returns
returns c = every_process_reduced
