-- Each step there has the one origin.
use Rattle.std.proofs.Common.{Some, None, ◌∙◌}
use Rattle.lts.specs.declared.steps.Step.{Step}
use Rattle.lts.specs.declared.steps.Side.TheVariants.{Left}
use Rattle.lts.specs.Origins.{origin}
use Rattle.lts.proofs.Nth.{nth_of_map}
use Rattle.refine.specs.Copies.{copied_process}
use Rattle.refine.proofs.tables.copies.asking.CopiedSource.origin.Goals as goal

pub returns-in_err-step : goal.returns-in_err-step
returns-in_err-step c =
    c.from_residual.ensures ∙ nth_of_map (λ (s : Step). origin Left 0) ((copied_process c.args.self.now).from c.args.state) c.args.place None c.in_err-step.ensures

pub returns : goal.returns
returns c =
    nth_of_map (λ (s : Step). origin Left 0) ((copied_process c.args.self.now).from c.args.state) c.args.place (Some c.in_ok-step.field-0) c.in_ok-step.ensures
