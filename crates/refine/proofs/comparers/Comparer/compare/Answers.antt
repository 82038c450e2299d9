-- What a run of rounds tells of two states.
use Rattle.std.proofs.Common.{vec_items}
use Rattle.refine.proofs.Runs.{pair_compared}
use Rattle.refine.proofs.comparers.Comparer.compare.Goals as goal

pub returns : goal.returns
returns g c =
    pair_compared c.in_ok-pair.pair c.args.left c.args.right c.states.result c.in_ok-pair.ensures c.run.result (vec_items c.run.new.self.begins)
    (g.L.Lts.system c.args.lts.now) (g.L.Lts.limits c.args.lts.now) c.states.ensures c.run.ensures
