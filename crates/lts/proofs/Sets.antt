-- The numbers of the sets of signals that environments allow.
use Rattle.std.proofs.Common.{◌≡◌, ℕ, zero, suc, ◌+◌, ◌-◌, ◌*◌, ◌/◌, ◌%◌, ◌^◌, ◌<◌, ◌≤◌, pow_mono, Bool, true, false, cond, eqb, ltb, sym, refl, ap, ◌∙◌, subst, inl, inr, mod-lt, mod-eq_of_lt, pow-suc, arith, pow_pos, pow-add}
use native.Mathlib.Nat.{add-mul-div_right, add-mul-mod_self_right}
use Rattle.std.proofs.Math.Nat.{div-eq_of_lt}
use lib.Arith.{mod-mul, digits_div}
use Rattle.std.proofs.lemmas.Bool.{cases_eq, eq-eqb, ne_eqb, and_parts, and_from, ltb-true, lt-ltb}
use Rattle.lts.specs.Processes.{has, numbered, signal, allowed}

digit_of : (d c : ℕ) → d < 2 → cond (eqb d 1) c 0 ≡ d * c
digit_of d c h = elim (cases_eq d 1) [
  | inl e ↦ rw (eq-eqb d 1 e, e) (omega arith)
  | inr e ↦ let z : d ≡ 0 = omega arith in rw (ne_eqb d 1 e, z) (omega arith)
]

low_digits : (X n : ℕ) → numbered (has X) n ≡ X % 2 ^ n
unfolding numbered has
low_digits X zero = omega arith
low_digits X (suc n) =
    let d : ℕ = X / 2 ^ n % 2 in
    let e : X % (2 * 2 ^ n) ≡ d * 2 ^ n + X % 2 ^ n = mod-mul X (omega arith) (pow_pos n) in
    rw (low_digits X n, digit_of d (2 ^ n) (mod-lt (X / 2 ^ n) (omega arith)), pow-suc 2 n) (sym e ∙ ap (λ (x : ℕ). X % x) (omega arith))

pub numbered_has : (A X : ℕ) → X < 2 ^ A → numbered (has X) A ≡ X
numbered_has A X h = low_digits X A ∙ mod-eq_of_lt h

pub numbered_below : (b : ℕ → Bool) (n : ℕ) → numbered b n < 2 ^ n
unfolding numbered
numbered_below b zero = omega arith
numbered_below b (suc n) =
    let ih = numbered_below b n in
    elim (b n) as (λ t. cond t (2 ^ n) 0 + numbered b n < 2 ^ suc n) [ true ↦ omega (arith, pow-suc 2 n) | false ↦ omega (arith, pow-suc 2 n) ]

as_digit : (t : Bool) (c : ℕ) → cond t c 0 ≡ cond t 1 0 * c
as_digit true c = omega arith
as_digit false c = omega arith

bit_test : (t : Bool) → eqb (cond t 1 0 % 2) 1 ≡ t
bit_test true = refl
bit_test false = refl

-- the digit at the top
top_digit : (t : Bool) (n r : ℕ) → r < 2 ^ n → has (cond t (2 ^ n) 0 + r) n ≡ t
unfolding has
top_digit t n r h = rw (as_digit t (2 ^ n), digits_div (cond t 1 0) h) (bit_test t)

-- those below it
high_even : (d i k : ℕ) → d * 2 ^ (i + (1 + k)) ≡ ((d * 2 ^ k) * 2) * 2 ^ i
high_even d i k = rw (pow-add 2 i (1 + k), pow-add 2 1 k) (omega arith)

low_digit_at : (d i k r : ℕ) → (d * 2 ^ (i + (1 + k)) + r) / 2 ^ i % 2 ≡ r / 2 ^ i % 2
low_digit_at d i k r =
    let y : ℕ = d * 2 ^ k in
    let e : d * 2 ^ (i + (1 + k)) + r ≡ r + (y * 2) * 2 ^ i = omega (arith, high_even d i k) in
    ap (λ (x : ℕ). x / 2 ^ i % 2) e ∙ ap (λ (x : ℕ). x % 2) (add-mul-div_right r (y * 2) (pow_pos i)) ∙ add-mul-mod_self_right (r / 2 ^ i) y 2

low_digit : (t : Bool) (n i r : ℕ) → i < n → has (cond t (2 ^ n) 0 + r) i ≡ has r i
unfolding has
low_digit t n i r h =
    let k : ℕ = n - suc i in
    let e : i + (1 + k) ≡ n = omega arith in
    rw (as_digit t (2 ^ n)) (ap (λ (x : ℕ). eqb x 1) (subst (λ (m : ℕ). (cond t 1 0 * 2 ^ m + r) / 2 ^ i % 2 ≡ r / 2 ^ i % 2) e (low_digit_at (cond t 1 0) i k r)))

pub has_numbered : (b : ℕ → Bool) (n i : ℕ) → i < n → has (numbered b n) i ≡ b i
unfolding numbered
has_numbered b zero i h = absurd (omega arith)
has_numbered b (suc n) i h = elim (cases_eq i n) [
  | inl e ↦ rw e (top_digit (b n) n (numbered b n) (numbered_below b n))
  | inr e ↦ low_digit (b n) n i (numbered b n) (omega arith) ∙ has_numbered b n i (omega arith)
]

-- ---- the labels that a set allows

pub signal_allowed : (X i : ℕ) → has X i ≡ true → allowed X (signal i) ≡ true
unfolding allowed
signal_allowed X i h =
    let e : signal i - 2 ≡ i = omega arith in
    and_from (ltb 1 (signal i)) (has X (signal i - 2)) (lt-ltb 1 (signal i) (omega arith)) (ap (has X) e ∙ h)

pub allowed_signal : (X a : ℕ) → allowed X a ≡ true → (i : ℕ) × (a ≡ signal i) × (has X i ≡ true)
unfolding allowed
allowed_signal X a h =
    let k = and_parts (ltb 1 a) (has X (a - 2)) h in
    let l : 1 < a = ltb-true 1 a k.0 in
    (a - 2, omega arith, k.1)

-- a number of 64 bits has no later signal
pub has_late : (X i : ℕ) → X < 2 ^ 64 → 64 ≤ i → has X i ≡ false
unfolding has
has_late X i h l =
    let none : X / 2 ^ i ≡ 0 = div-eq_of_lt (omega (arith, pow_mono {j = i} l)) in
    rw none refl
