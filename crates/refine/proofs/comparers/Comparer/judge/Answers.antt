-- What a run of rounds tells of two states of the source.
use Rattle.std.proofs.Common.{vec_items}
use Rattle.refine.proofs.Runs.{pair_judged}
use Rattle.refine.proofs.comparers.Comparer.judge.Goals as goal

pub returns : goal.returns
returns g c =
    pair_judged c.in_ok-pair.pair c.args.left c.args.right c.states.result c.in_ok-pair.ensures c.surround.result (vec_items c.surround.new.self.workspace.begins)
    (g.S.Source.meaning c.args.source.now) (g.S.Source.limits c.args.source.now) c.states.ensures c.surround.ensures
