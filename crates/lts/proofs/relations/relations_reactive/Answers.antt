-- The proof of `relations_reactive`.
use Rattle.lts.proofs.Reduction.{relation_reactive}
use Rattle.lts.proofs.relations.relations_reactive.Goals as goal

pub returns : goal.returns
returns g c M f =
    relation_reactive M f (g.R.ReactiveRelation.plainly c.args.relation.now) (g.R.ReactiveRelation.under c.args.relation.now)
