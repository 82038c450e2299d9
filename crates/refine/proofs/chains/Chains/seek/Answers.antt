-- A walk down the chain of the hash's bucket meets every class that could fit.
use Rattle.std.proofs.Common.{◌≡◌, ℕ, suc, ◌-◌, ◌<◌, ◌&&◌, eqb, List, length, vec_items, sym, ap, ◌∙◌, arith}
use Rattle.std.proofs.lemmas.Bool.{and_from, and_parts, eq-eqb, eqb-true, both_ways}
use Rattle.lts.specs.Systems.{System}
use Rattle.refine.specs.declared.classes.Class.{Class}
use Rattle.refine.specs.Codes.{marked}
use Rattle.refine.specs.Rankings.{ranked_system}
use Rattle.refine.specs.Chains.{bucket, hash_at, next_at, Fit}
use Rattle.refine.proofs.Chaining.{read_class, walk_more}
use Rattle.refine.proofs.chains.Chains.seek.Goals as goal

pub loop-link-smaller : goal.loop-link-smaller
loop-link-smaller c =
    let made : List Class = vec_items c.args.self.now.made in
    let k : ℕ = c.loop-link.link - 1 in
    let l : k < length made = omega (arith, c.loop-link.invariant.0, c.loop-link-test.true) in
    let at = read_class made k c.index-made.result.now c.index-made.ensures l in
    let is : c.index-made.result.now.next ≡ next_at made k = ap (λ (x : Class). x.next) at in
    omega (arith, is, c.args.self.now.chained.next_low k l, c.loop-link-test.true)

pub loop-link-preserved : goal.loop-link-preserved
loop-link-preserved c =
    let S : System = ranked_system c.args.ranking.now in
    let heads : List ℕ = vec_items c.args.self.now.heads in
    let made : List Class = vec_items c.args.self.now.made in
    let hash : ℕ = c.args.hash in
    let k : ℕ = c.loop-link.link - 1 in
    let ks : c.loop-link.link ≡ suc k = omega (arith, c.loop-link-test.true) in
    let l : k < length made = omega (arith, c.loop-link.invariant.0, c.loop-link-test.true) in
    let at = read_class made k c.index-made.result.now c.index-made.ensures l in
    let is : c.index-made.result.now.next ≡ next_at made k = ap (λ (x : Class). x.next) at in
    let own : bucket (hash_at made k) ≡ bucket hash = c.loop-link.invariant.1 k ks in
    let unfit : Fit S c.args.ranking.now.begins.now (vec_items c.args.marks.now.stamps) c.args.marks.now.last hash made k → ⊥ = λ f.
    both_ways (eqb c.index-made.result.now.hash hash && marked c.args.ranking.now.begins.now (vec_items c.args.marks.now.stamps) c.args.marks.now.last (S.from c.index-made.result.now.first))
    (sym c.if-fits.ensures)
    (and_from _ _ (eq-eqb _ _ (ap (λ (x : Class). x.hash) at ∙ f.same_hash))
    (ap (λ (x : Class). marked c.args.ranking.now.begins.now (vec_items c.args.marks.now.stamps) c.args.marks.now.last (S.from x.first)) at ∙ f.covers)) in (
      omega (arith, is, c.args.self.now.chained.next_low k l, c.loop-link.invariant.0, ks),
      (λ e q. c.args.self.now.chained.next_own k e l (sym is ∙ q) ∙ own),
      walk_more S c.args.ranking.now.begins.now (vec_items c.args.marks.now.stamps) c.args.marks.now.last hash heads made c.args.self.now.chained k c.index-made.result.now.next l is own unfit
          (λ x m. c.loop-link.invariant.2 x (omega (arith, m, ks))),
    )

pub returns-then-fits : goal.returns-then-fits
returns-then-fits c =
    let made : List Class = vec_items c.args.self.now.made in
    let k : ℕ = c.loop-link.link - 1 in
    let l : k < length made = omega (arith, c.loop-link.invariant.0, c.loop-link-test.true) in
    let at = read_class made k c.index-made.result.now c.index-made.ensures l in
    let both = and_parts (eqb c.index-made.result.now.hash c.args.hash) _ (sym c.if-fits.ensures) in record {
      there = l;
      same_hash = ap (λ (x : Class). x.hash) (sym at) ∙ eqb-true _ _ both.0;
      covers = ap (λ (x : Class). marked c.args.ranking.now.begins.now (vec_items c.args.marks.now.stamps) c.args.marks.now.last ((ranked_system c.args.ranking.now).from x.first)) (sym at) ∙ both.1;
    }
