-- The law of a join.
use Rattle.sheets.specs.Held.{held}
use Rattle.sheets.proofs.Joined.{join_law}
use Rattle.sheets.proofs.joins.Join.of.Goals as goal

pub returns-clause-law : goal.returns-clause-law
returns-clause-law c = join_law (held c.args.left.now) (held c.args.right.now) c.args.left.now.fit
