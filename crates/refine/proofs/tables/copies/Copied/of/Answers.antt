-- A copy is within the limits of the source, and means what it means.
use Rattle.std.proofs.Common.{◌≡◌, ℕ, sym, ap, ◌∙◌, subst, arith}
use Rattle.lts.specs.Systems.{System}
use Rattle.lts.specs.Processes.{Process, ProcessLimits}
use Rattle.lts.specs.Environments.{bare}
use Rattle.refine.specs.declared.tables.Table.{Table}
use Rattle.refine.specs.Tables.{table_system, table_process}
use Rattle.refine.proofs.tables.copies.Copied.of.Goals as goal

-- a table of a bare process is that process
read : (M : Process) (t : Table) (signals : ℕ) → table_system t ≡ bare M → signals ≡ M.signals → table_process t signals ≡ M
read M t signals is e =
    ap (table_process t) e ∙ ap (λ (S : System). record { states = S.states; signals = M.signals; from = S.from }) is

pub invariant_of-result : goal.invariant_of-result
invariant_of-result g c =
    let M : Process = g.S.Source.meaning c.args.source.now in
    let t = c.args.table in record {
      labels = omega (arith, ap (λ (S : System). S.labels) c.requires, c.signals.ensures);
      limits = subst ProcessLimits (sym (read M t c.signals.result c.requires c.signals.ensures)) (g.S.Source.limits c.args.source.now);
    }
