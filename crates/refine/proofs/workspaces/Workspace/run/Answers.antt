-- The memory is enough for the system, and the rounds are run on its table.
use Rattle.std.proofs.Common.{◌≡◌, ◌≤◌, length, ap, ◌∙◌, subst, arith}
use Rattle.lts.specs.Systems.{System}
use Rattle.refine.specs.Runs.{Refined}
use Rattle.refine.proofs.Runs.{refined_front, front_long, front_read}
use Rattle.refine.proofs.workspaces.Workspace.run.Goals as goal

pub returns : goal.returns
returns g c =
    let S : System = g.L.Lts.system c.args.lts.now in
    let w = g.L.Lts.limits c.args.lts.now in
    let t = c.table-table.result in
    let self = c.args.self.now in
    let states : t.states ≡ S.states = ap (λ (S : System). S.states) c.table-table.ensures in
    let few : t.states ≤ 3168 = omega (arith, states, w.few_states) in
    let long : length c.refine.new.old ≡ t.states =
    c.refine.auto.old ∙ front_long t.states c.deref_mut.result.now (omega (arith, few, ap length c.deref_mut.ensures.value, self.begins.ok.0, self.long)) in
    refined_front S c.args.pair.left c.args.pair.right c.refine.result c.refine.new.old _
    (λ k l. front_read self.begins.len k c.refine.new.old _ _ (omega (arith, l, long, states)) (omega (arith, l, few, states, self.long)))
    (subst (λ (S : System). Refined S c.args.pair.left c.args.pair.right c.refine.result c.refine.new.old) c.table-table.ensures c.refine.ensures)
