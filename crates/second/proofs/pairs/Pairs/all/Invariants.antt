-- As many rows as were counted, each with all its flags up.
use Rattle.std.proofs.Common.{◌≡◌, true, length, replicate, All}
use Rattle.second.proofs.pairs.Pairs.all.Given as goal

abbrev pub invariant-loop : goal.invariant-loop
invariant-loop l = (length l.rows.items ≡ l.counter) × All (λ row. row.items ≡ replicate l.fn.states true) l.rows.items
