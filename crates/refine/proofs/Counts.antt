-- Numbers counted as they are first met, and a census from a run of rounds.
use Rattle.std.proofs.Common.{◌≡◌, ℕ, ◌+◌, ◌-◌, ◌/◌, ◌<◌, ◌≤◌, ◌↔◌, List, length, get_or, take, sym, ap, ◌∙◌, subst, inl, inr, arith}
use Rattle.std.proofs.lemmas.List.{length-map, get_or-take, get_or-map}
use Rattle.std.proofs.lemmas.Bool.{cases_eq, cases_lt}
use Rattle.lts.specs.declared.environments.Position.TheVariants.{Plain}
use Rattle.lts.specs.Systems.{System}
use Rattle.lts.specs.Rounds.{Stable}
use Rattle.lts.specs.Processes.{Process, ProcessLimits}
use Rattle.lts.specs.Environments.{surrounded}
use Rattle.lts.specs.Limits.{surrounded_limits}
use Rattle.lts.specs.Positions.{number_below}
use Rattle.lts.specs.Reactive.{ReactivelyBisimilar}
use Rattle.lts.proofs.Main.{every_process_reduced, rounds_sound}
use Rattle.lts.proofs.Rounds.{same_refl}
use Rattle.lts.specs.Classes.{rank}
use Rattle.lts.proofs.Ranks.{rank_tells, rank_met}
use Rattle.refine.specs.declared.verdicts.Verdict.{Verdict}
use Rattle.refine.specs.declared.verdicts.Verdict.TheVariants.{Alike, Apart}
use Rattle.refine.specs.Ranks.{Ranked, numbers}
use Rattle.refine.specs.Runs.{Refined}
use Rattle.refine.specs.Censuses.{AsMet, Counted, Fronted, Census}
use Rattle.refine.proofs.Told.{unscaled}
use Rattle.refine.proofs.Runs.{stable_bisimilar, front_long}

module _ (n : ℕ) (xs : List ℕ) (met : AsMet n xs) (i count : ℕ) (l : i < n) (h : Counted i xs count) where
  -- the number at i is new
  pub counted_new : get_or xs i 0 ≡ count → Counted (i + 1) xs (count + 1)
  counted_new e c = (
    (λ m. elim (cases_lt c count) [
      | inl k ↦ let r = (h c).0 k in (r.0, omega arith, r.2)
      | inr k ↦ let s : count ≡ c = omega arith in (i, omega arith, e ∙ s)
    ]),
    (λ t. elim (cases_eq t.0 i) [
      | inl s ↦ let a : get_or xs i 0 ≡ c = ap (λ (k : ℕ). get_or xs k 0) (sym s) ∙ t.2 in omega (arith, a, e)
      | inr d ↦ omega (arith, (h c).1 (t.0, omega (arith, t.1, d), t.2))
    ]),
  )

  -- or was met before
  pub counted_old : (get_or xs i 0 ≡ count → ⊥) → Counted (i + 1) xs count
  counted_old d c =
      let low : get_or xs i 0 < count = elim (cases_lt count (get_or xs i 0)) [
        | inl k ↦ let r = met i count l k in absurd (omega (arith, (h count).1 (r.0, r.1, r.2)))
        | inr k ↦ omega (arith, k, d)
      ] in (
        (λ m. let r = (h c).0 m in (r.0, omega arith, r.2)),
        (λ t. elim (cases_eq t.0 i) [
          | inl s ↦ let a : get_or xs i 0 ≡ c = ap (λ (k : ℕ). get_or xs k 0) (sym s) ∙ t.2 in omega (arith, a, low)
          | inr d ↦ (h c).1 (t.0, omega (arith, t.1, d), t.2)
        ]),
      )

-- ---- a census

-- the class numbers at the front of memory
front_numbers : (S : System) (n : ℕ) (xs ys : List ℕ) → 1 ≤ S.labels → ys ≡ xs → Ranked S n xs →
    (m k : ℕ) → k < m → k < S.states → k < length (take (m - 0) ys) → get_or (numbers S.labels (take (m - 0) ys)) k 0 ≡ rank S n k
front_numbers S n xs ys some e rk m k l lk inside =
    get_or-map (λ (b : ℕ). b / S.labels) (take (m - 0) ys) k 0 0 inside
    ∙ ap (λ (b : ℕ). b / S.labels) (get_or-take (m - 0) ys k 0 (omega arith) ∙ ap (λ (zs : List ℕ). get_or zs k 0) e ∙ rk k lk)
    ∙ unscaled (rank S n k) S.labels some

-- no round separates a state from itself
settled : (S : System) (p : ℕ) (v : Verdict) (xs : List ℕ) → Refined S p p v xs → (n : ℕ) × Stable S n × Ranked S n xs
settled S p Alike xs r = (r.0, r.1, r.3)
settled S p (Apart n) xs r = absurd (r.0.apart (same_refl S n p))

module _ (M : Process) (f : ProcessLimits M) (n : ℕ) (stable : Stable (surrounded M) n) (front : List ℕ)
    (long : length front ≡ M.states) (at : (k : ℕ) → k < M.states → get_or front k 0 ≡ rank (surrounded M) n k) where
  inside : (p : ℕ) → p < M.states → p < (surrounded M).states
  inside p l = number_below M (Plain p) l

  front_met : AsMet (length front) front
  front_met p c l m =
      let lp : p < M.states = omega (arith, l, long) in
      let q = rank_met (surrounded M) n p c (omega (arith, m, at p lp)) in
      let lq : q.0 < M.states = omega (arith, q.1, lp) in
      (q.0, q.1, at q.0 lq ∙ q.2)

  tells : (p q : ℕ) → p < M.states → q < M.states → (get_or front p 0 ≡ get_or front q 0) ↔ ReactivelyBisimilar M p q
  tells p q lp lq =
      let red = every_process_reduced M f in
      let k = rank_tells (surrounded M) n p q in (
        (λ e. (red.reduction p q lp lq).1
            (stable_bisimilar (surrounded M) red.limits n p q (inside p lp) (inside q lq) stable (k.0 (sym (at p lp) ∙ e ∙ at q lq)))),
        (λ b. at p lp ∙ k.1 (rounds_sound (surrounded M) p q ((red.reduction p q lp lq).0 b) n) ∙ sym (at q lq)),
      )

  census_of : (before after : List ℕ) (count : ℕ) → Fronted front before after → Counted (length front) front count → Census M before after count
  census_of before after count w h =
      let put = λ (k : ℕ) (l : k < M.states). w.written k (omega (arith, l, long)) in record {
        tells = λ p q lp lq. let t = tells p q lp lq in ((λ e. t.0 (sym (put p lp) ∙ e ∙ put q lq)), (λ b. put p lp ∙ t.1 b ∙ sym (put q lq)));
        as_met = λ p c lp m.
            let q = front_met p c (omega (arith, lp, long)) (omega (arith, m, put p lp)) in
            (q.0, q.1, put q.0 (omega (arith, q.1, lp)) ∙ q.2);
        counted = λ c. (
          (λ l. let q = (h c).0 l in let lq : q.0 < M.states = omega (arith, q.1, long) in (q.0, lq, put q.0 lq ∙ q.2)),
          (λ t. (h c).1 (t.0, omega (arith, t.1, long), sym (put t.0 t.1) ∙ t.2)),
        );
        long = w.long;
        beyond = λ k l. w.beyond k (omega (arith, l, long));
      }

-- the memory of a run from a state to itself, lent as `begins`, with m states in front
module _ (M : Process) (f : ProcessLimits M) (m labels : ℕ) (v : Verdict) (kept begins : List ℕ) (is : m ≡ M.states) (named : labels ≡ (surrounded M).labels)
    (lent : begins ≡ kept) (wide : length kept ≡ 3168) (run : Refined (surrounded M) 0 0 v kept) where
  abbrev front : List ℕ
  front = numbers labels (take (m - 0) begins)

  front_whole : length (take (m - 0) begins) ≡ m
  front_whole = front_long m begins (omega (arith, ap length lent, wide, is, f.few_states))

  front_states : length front ≡ M.states
  front_states = length-map (take (m - 0) begins) (λ (b : ℕ). b / labels) ∙ front_whole ∙ is

  stable_round : (n : ℕ) × Stable (surrounded M) n × Ranked (surrounded M) n kept
  stable_round = settled (surrounded M) 0 v kept run

  front_rank : (k : ℕ) → k < M.states → get_or front k 0 ≡ rank (surrounded M) stable_round.0 k
  front_rank k l =
      ap (λ (n : ℕ). get_or (numbers n (take (m - 0) begins)) k 0) named
      ∙ front_numbers (surrounded M) stable_round.0 kept begins (surrounded_limits M f).some_label lent stable_round.2 m k
      (omega (arith, l, is)) (number_below M (Plain k) l) (omega (arith, l, is, front_whole))

  pub run_met : AsMet (length (take (m - 0) begins)) front
  run_met = subst (λ (n : ℕ). AsMet n front) (front_states ∙ sym (front_whole ∙ is)) (front_met M f stable_round.0 stable_round.1 front front_states front_rank)

  pub run_census : (before after : List ℕ) (count : ℕ) → Fronted front before after → Counted (length (take (m - 0) begins)) front count → Census M before after count
  run_census before after count w h =
      census_of M f stable_round.0 stable_round.1 front front_states front_rank before after count w
      (subst (λ (n : ℕ). Counted n front count) (front_whole ∙ is ∙ sym front_states) h)
