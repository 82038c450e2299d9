-- What a sheet holds, and what each call answers and makes of it.
use Rattle.std.specs.Prelude.{ℕ, ◌+◌, cond, ◌&&◌, List, [], ◌∷◌, ◌++◌, length, is_ok, Ok, Err, Result, nat_le, nat_lt}
use Rattle.sheets.specs.declared.refusals.Refusal.{Refusal}
use Rattle.sheets.specs.declared.refusals.Refusal.TheVariants.{SizeOutOfLimits, AbsentState, AbsentLabel}
use Rattle.sheets.specs.declared.refusals.Refusal.TheVariants.{StepPresent, SheetFull, StepAbsent}
use Rattle.sheets.specs.declared.transitions.Transition.{Transition}
use Rattle.sheets.specs.Transitions.{has_transition, without}

pub record Contents : Type 0 where
  pub states : ℕ
  pub signals : ℕ
  pub steps : List Transition

abbrev pub contents_of : ℕ → ℕ → List Transition → Contents
contents_of n k xs = record { states = n; signals = k; steps = xs }

-- one state, no signals and no steps
abbrev pub blank_contents : Contents
blank_contents = contents_of 1 0 []

abbrev pub Answer : Type 0
Answer = Result (Unit {0}) Refusal

-- the second, where the first is no refusal
abbrev pub and_then : Answer → Answer → Answer
and_then (Ok u) b = b
and_then (Err e) b = Err e

-- 1 to 48 states and 0 to 5 signals
abbrev pub new_sheet_answer : ℕ → ℕ → Answer
new_sheet_answer n k = cond (nat_le 1 n && (nat_le n 48 && nat_le k 5)) (Ok tt) (Err SizeOutOfLimits)

abbrev pub after_new_sheet : Contents → ℕ → ℕ → Contents
after_new_sheet c n k = cond (is_ok (new_sheet_answer n k)) (contents_of n k []) c

-- whether the sheet has the step's states and its label: the state that it leaves, the label, then the state that it leads to
abbrev pub range_answer : Contents → Transition → Answer
range_answer c x =
    cond (nat_lt x.from c.states)
    (cond (nat_lt x.label (c.signals + 2)) (cond (nat_lt x.to c.states) (Ok tt) (Err AbsentState)) (Err AbsentLabel))
    (Err AbsentState)

abbrev pub note_answer : Contents → Transition → Answer
note_answer c x =
    and_then (range_answer c x)
    (cond (has_transition c.steps x) (Err StepPresent) (cond (nat_lt (length c.steps) 512) (Ok tt) (Err SheetFull)))

abbrev pub after_note : Contents → Transition → Contents
after_note c x = cond (is_ok (note_answer c x)) (contents_of c.states c.signals (c.steps ++ x ∷ [])) c

abbrev pub strike_answer : Contents → Transition → Answer
strike_answer c x = and_then (range_answer c x) (cond (has_transition c.steps x) (Ok tt) (Err StepAbsent))

abbrev pub after_strike : Contents → Transition → Contents
after_strike c x = cond (is_ok (strike_answer c x)) (contents_of c.states c.signals (without c.steps x)) c
