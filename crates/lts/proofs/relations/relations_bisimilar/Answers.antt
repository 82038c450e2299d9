-- The proof of `relations_bisimilar`.
use Rattle.lts.proofs.Rounds.{related_same}
use Rattle.lts.proofs.Stable.{relation_bisimilar}
use Rattle.lts.proofs.relations.relations_bisimilar.Goals as goal

pub returns : goal.returns
returns g c =
    let R = g.R.Relation.relates c.args.relation.now in
    record { together = λ S. related_same S R; bisimilar = λ S w. relation_bisimilar S w R }
