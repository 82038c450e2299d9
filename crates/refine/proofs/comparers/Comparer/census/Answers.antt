-- The front of the class numbers of a stable round is the census.
use Rattle.std.proofs.Common.{vec_items, ap, ◌∙◌, arith}
use Rattle.lts.specs.Environments.{surrounded}
use Rattle.refine.proofs.Counts.{run_met, run_census}
use Rattle.refine.proofs.comparers.Comparer.census.Goals as goal

pub write_down-requires-clause-met : goal.write_down-requires-clause-met
write_down-requires-clause-met g c =
    let M = g.S.Source.meaning c.args.source.now in
    let kept = c.surround.new.self.workspace in
    run_met M (g.S.Source.limits c.args.source.now) c.states-states.result c.labels-labels.result c.surround.result (vec_items kept.begins) c.deref.result.now
    c.states-states.ensures (c.labels-labels.ensures ∙ ap (λ x. (surrounded (g.S.Source.meaning x)).labels) c.of.ensures.holds) c.deref.ensures.value
    (omega (arith, kept.begins.ok.0, kept.long)) c.surround.ensures

pub returns : goal.returns
returns g c =
    let M = g.S.Source.meaning c.args.source.now in
    let kept = c.surround.new.self.workspace in (
      omega (arith, c.states-states.ensures, c.if-classes-states.false),
      run_census M (g.S.Source.limits c.args.source.now) c.states-states.result c.labels-labels.result c.surround.result (vec_items kept.begins) c.deref.result.now
          c.states-states.ensures (c.labels-labels.ensures ∙ ap (λ x. (surrounded (g.S.Source.meaning x)).labels) c.of.ensures.holds) c.deref.ensures.value
          (omega (arith, kept.begins.ok.0, kept.long)) c.surround.ensures
          c.args.classes.now c.write_down.new.classes c.write_down.result c.write_down.ensures.written c.write_down.ensures.counted,
    )
