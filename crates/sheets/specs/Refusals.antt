-- The number of each refusal.
use Rattle.std.specs.Prelude.{ℕ}
use Rattle.sheets.specs.declared.refusals.Refusal.{Refusal}
use Rattle.sheets.specs.declared.refusals.Refusal.TheVariants.{SizeOutOfLimits, AbsentState, AbsentLabel}
use Rattle.sheets.specs.declared.refusals.Refusal.TheVariants.{StepPresent, SheetFull, StepAbsent}

abbrev pub refusal_number : Refusal → ℕ
refusal_number SizeOutOfLimits = 1
refusal_number AbsentState = 2
refusal_number AbsentLabel = 3
refusal_number StepPresent = 4
refusal_number SheetFull = 5
refusal_number StepAbsent = 6
