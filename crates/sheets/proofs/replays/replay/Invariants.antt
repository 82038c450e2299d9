-- From each call on, the rest gives what is to come out.
use Rattle.std.proofs.Common.{◌≡◌, []}
use Rattle.sheets.specs.Contents.{contents_of}
use Rattle.sheets.specs.Held.{held}
use Rattle.sheets.specs.Tallies.{answered, calls_of, tally}
use Rattle.sheets.proofs.Scripts.{script_from, contents_from}
use Rattle.sheets.proofs.replays.replay.Given as goal

abbrev pub invariant-loop-entry : goal.invariant-loop-entry
invariant-loop-entry l =
    (script_from (held l.sheet) l.entry-index l.script ≡ answered (contents_of l.states l.signals []) l.initial.script)
    × (contents_from (held l.sheet) l.entry-index l.script ≡ tally l.states l.signals (calls_of l.initial.script))
