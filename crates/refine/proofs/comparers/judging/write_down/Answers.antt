-- Each number is written, and counted where it is first met.
use Rattle.std.proofs.Common.{◌≡◌, ℕ, ◌+◌, ◌/◌, ◌<◌, ◌≢◌, List, length, get_or, sym, ◌∙◌, subst, arith, get_or-set_other, get_or-set_same, below_more}
use Rattle.std.proofs.lemmas.List.{get_or-map, length-map}
use Rattle.refine.specs.Ranks.{numbers}
use Rattle.refine.specs.Censuses.{Counted}
use Rattle.refine.proofs.Counts.{counted_new, counted_old}
use Rattle.refine.proofs.comparers.judging.write_down.Goals as goal
use Rattle.refine.proofs.comparers.judging.write_down.Goals.{then-class-count, else-class-count}

pub loop-state-preserved : goal.loop-state-preserved
loop-state-preserved c =
    let i : ℕ = c.loop-state.state in
    let begins : List ℕ = c.args.begins.now in
    let xs : List ℕ = numbers c.args.labels begins in
    let this : get_or begins i 0 / c.args.labels ≡ get_or xs i 0 = sym (get_or-map (λ (b : ℕ). b / c.args.labels) begins i 0 0 c.loop-state-test.true) in
    let li : i < length c.loop-state.classes = omega (arith, c.loop-state-test.true, c.loop-state.auto.classes, c.requires.room) in (
      below_more _ _
          (λ k l. let ne : k ≢ i = omega arith in rw get_or-set_other (c.loop-state.invariant.0 k l))
          (rw get_or-set_same this),
      (λ k l. let ne : k ≢ i = omega (arith, l) in rw get_or-set_other (c.loop-state.invariant.1 k (omega (arith, l)))),
      elim c.if-class-count.branch [
        | then-class-count w ↦ subst (λ (m : ℕ). Counted (i + 1) xs m) (sym w.count-is)
            (counted_new (length begins) xs c.requires.met i c.loop-state.count c.loop-state-test.true c.loop-state.invariant.2 (sym this ∙ w.if-class-count.true))
        | else-class-count w ↦ subst (λ (m : ℕ). Counted (i + 1) xs m) (sym w.count-is)
            (counted_old (length begins) xs c.requires.met i c.loop-state.count c.loop-state-test.true c.loop-state.invariant.2 (λ e. w.if-class-count.false (this ∙ e)))
      ],
    )

pub returns : goal.returns
returns c =
    let begins : List ℕ = c.args.begins.now in
    let xs : List ℕ = numbers c.args.labels begins in
    let long : length xs ≡ length begins = length-map begins (λ (b : ℕ). b / c.args.labels) in
    let at : c.loop-state.state ≡ length begins = omega (arith, c.loop-state-test.false, c.loop-state.auto.state-end) in record {
      written = record {
        long = c.loop-state.auto.classes;
        written = λ k l. c.loop-state.invariant.0 k (omega (arith, l, long, at));
        beyond = λ k l. c.loop-state.invariant.1 k (omega (arith, l, long, at));
      };
      counted = subst (λ (n : ℕ). Counted n xs c.loop-state.count) at c.loop-state.invariant.2;
    }
