-- A row for each state, with a flag up for each.
use Rattle.std.proofs.Common.{◌&&◌, ltb, sym, ap, ◌∙◌, inl, inr, arith}
use Rattle.std.proofs.lemmas.Bool.{cases_lt, lt-ltb, le-ltb}
use Rattle.second.proofs.Rows.{past_rows, all_up}
use Rattle.second.proofs.pairs.Pairs.all.Goals as goal

pub returns : goal.returns
returns c = λ p.
    let n = c.args.states in
    let rows = c.loop.rows.items in
    elim (cases_lt p.left n) [
      | inl l ↦
          all_up n rows c.loop.invariant.1 p.left p.right (omega (arith, l, c.loop.invariant.0, c.loop-test.false))
          ∙ ap (λ t. t && ltb p.right n) (sym (lt-ltb p.left n l))
      | inr l ↦
          past_rows rows p.left p.right (omega (arith, l, c.loop.invariant.0, c.loop.auto.counter-end))
          ∙ ap (λ t. t && ltb p.right n) (sym (le-ltb p.left n l))
    ]
