-- The marks are those of the steps so far, and so is the weight.
use Rattle.std.proofs.Common.{◌≡◌, ℕ, ◌+◌, ◌<◌, ◌≤◌, true, false, eqb, List, ◌++◌, length, get_or, take, drop, sym, ap, ◌∙◌, subst, arith}
use Rattle.std.proofs.lemmas.Bool.{eq-eqb, ne_eqb}
use Rattle.std.proofs.lemmas.List.{take_all}
use Rattle.lts.specs.declared.steps.Step.{Step}
use Rattle.refine.specs.Codes.{coded, weigh}
use Rattle.refine.proofs.Blanks.{lent_whole}
use Rattle.refine.proofs.Weights.{weigh_none}
use Rattle.refine.proofs.Coded.{coded_none}
use Rattle.refine.proofs.Marking.{Marked, marked_none, marked_more, marked_again, bound_more, weighed_more, weighed_again}
use Rattle.refine.proofs.marks.Marks.mark.Goals as goal
use Rattle.refine.proofs.marks.Marks.mark.Goals.{then-stamps-code, else-stamps-code}

pub loop-step-init : goal.loop-step-init
loop-step-init c =
    let s = c.args.signature.now in
    let marks : List ℕ = c.as_mut_slice-stamps.result.now in
    let fresh : (k : ℕ) → get_or marks k 0 < c.renew.new.self.last = λ k. omega (arith, ap (λ (xs : List ℕ). get_or xs k 0) c.as_mut_slice-stamps.ensures.value, c.renew.ensures k) in (
      marked_none s.begins.now s.steps.now c.renew.new.self.last 126720 marks fresh,
      (λ k. omega (arith, fresh k)),
      weigh_none _ 126720 (coded_none s.begins.now s.steps.now),
    )

pub loop-step-preserved : goal.loop-step-preserved
loop-step-preserved c =
    let s = c.args.signature.now in
    let class : List ℕ = s.begins.now in
    let xs : List Step = s.steps.now in
    let last : ℕ = c.renew.new.self.last in
    let marks : List ℕ = c.loop-step.stamps in
    let k : ℕ = c.loop-step.step-index in
    let at : ℕ = c.code-code.result in
    let inside : k < length xs = c.loop-step-test.true in
    let is = c.code-code.ensures in
    let here : at < 126720 = omega (arith, s.placed k inside, is) in
    let long : length marks ≡ 126720 = omega (arith, c.loop-step.auto.stamps, c.as_mut_slice-stamps.ensures.len, c.renew.new.self.long) in
    let m : Marked class xs last 126720 marks k = c.loop-step.invariant.0 in
    elim c.if-stamps-code.branch [
      | then-stamps-code w ↦
          let new : eqb (get_or marks at 0) last ≡ false = ne_eqb _ _ w.if-stamps-code.true in (
            subst (λ (ms : List ℕ). Marked class xs last 126720 ms (k + 1)) (sym w.stamps-is) (marked_more class xs last 126720 marks k at inside is long here m),
            subst (λ (ms : List ℕ). (c : ℕ) → get_or ms c 0 ≤ last) (sym w.stamps-is) (bound_more marks at last c.loop-step.invariant.1),
            omega (arith, w.hash-is, w.weight-hash.ensures.value, c.loop-step.invariant.2, weighed_more class xs last 126720 marks k at inside is long here m new),
          )
      | else-stamps-code w ↦
          let old : eqb (get_or marks at 0) last ≡ true = eq-eqb _ _ w.if-stamps-code.false in (
            subst (λ (ms : List ℕ). Marked class xs last 126720 ms (k + 1)) (sym w.stamps-is) (marked_again class xs last 126720 marks k at inside is long here m old),
            subst (λ (ms : List ℕ). (c : ℕ) → get_or ms c 0 ≤ last) (sym w.stamps-is) c.loop-step.invariant.1,
            w.hash-is ∙ c.loop-step.invariant.2 ∙ sym (weighed_again class xs last 126720 marks k at inside is long here m old),
          )
    ]

-- marks that were lent whole, read as they were given back
lent : (len : ℕ) (marks items : List ℕ) → length marks ≡ len → (k : ℕ) → get_or (take len (marks ++ drop (length marks) items)) k 0 ≡ get_or marks k 0
lent len marks items e k = ap (λ (xs : List ℕ). get_or xs k 0) (lent_whole len marks (drop (length marks) items) e)

pub invariant_of-self : goal.invariant_of-self
invariant_of-self c =
    let t = c.renew.new.self.stamps in
    let same = lent t.len c.loop-step.stamps t.items (omega (arith, c.loop-step.auto.stamps, c.as_mut_slice-stamps.ensures.len, t.ok.0)) in
    record { long = c.renew.new.self.long; bound = λ k. omega (arith, same k, c.loop-step.invariant.1 k) }

pub returns : goal.returns
returns c =
    let s = c.args.signature.now in
    let t = c.renew.new.self.stamps in
    let same = lent t.len c.loop-step.stamps t.items (omega (arith, c.loop-step.auto.stamps, c.as_mut_slice-stamps.ensures.len, t.ok.0)) in
    let all : take c.loop-step.step-index s.steps.now ≡ s.steps.now = take_all c.loop-step.step-index s.steps.now (omega (arith, c.loop-step-test.false)) in record {
      marks = λ k l. ap (λ (x : ℕ). eqb x c.renew.new.self.last) (same k) ∙ c.loop-step.invariant.0 k l ∙ ap (λ (xs : List Step). coded s.begins.now xs k) all;
      weight = c.loop-step.invariant.2 ∙ ap (λ (xs : List Step). weigh (coded s.begins.now xs) 126720) all;
    }
