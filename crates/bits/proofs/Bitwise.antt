-- The bits of what word operations give.
use Rattle.std.proofs.Common.{◌≡◌, ℕ, zero, suc, ◌+◌, ◌-◌, ◌*◌, ◌/◌, ◌%◌, ◌^◌, ◌<◌, ◌≤◌, Bool, true, false, not, ◌&&◌, ◌||◌, eqb, ◌⊎◌, sym, refl, ap, ◌∙◌, subst, ap₂, inl, inr, lt_of_lt_of_le, mod-lt, zero-lt-suc, pow-suc, div-one, mul-div_cancel, add-one, one-add, arith, lit<, pow_pos, pow_mono, shl_lt, shr-shr, shr_lt}
use mathlib.Core.Bool.{and-true, and-false}
use native.Mathlib.Nat.{div-eq_of_lt, mul-mod_left, add-mod, mod-mod}
use lib.Arith.{lt-one}
use lib.Bits.{bit_and, bit_or, bit_xor, or_lt, or_shr, or_mod, xor_shr, xor_mod, and_shr, and_mod, and_mask, mask_lt, and_le_r, xor_lt, xor_disjoint, xor_assoc, xor_self, xor_zero_r}
use lib.Count.{ones, ones_step, ones-le, count_trailing_zeros, under}
use lib.Dec.{eqb-zero-suc, eqb-suc-zero, eqb-suc-suc}
use lib.Pow.{mod-mod-pow, field}
use mir.Val.{bool_byte}
use Rattle.std.proofs.lemmas.Nat.{one_shl, shl_whole}
use Rattle.std.proofs.lemmas.Bool.{eqb-true, eq-eqb, ne_eqb, false≢true, both_ways, cases_lt, cases_order}
use Rattle.std.proofs.lemmas.Bool.Decides.{nat_tests}
use Rattle.bits.specs.Rows.{Row, xor, zeros, plus, upto, sum_of}
use Rattle.bits.specs.Words.{bit_of, one_if, word_of}
use Rattle.bits.proofs.Sums.{ext, sum_same, sum_front, same_upto}

two_pos : zero < 2
two_pos = zero-lt-suc 1

bit_suc : (w i : ℕ) → bit_of w (suc i) ≡ bit_of (w / 2) i
bit_suc w i = ap (λ (x : ℕ). eqb (x % 2) 1) (sym (shr-shr w 1 i ∙ ap (λ (k : ℕ). w / 2 ^ k) (one-add i)))

pub bit_first : (w : ℕ) → bit_of w zero ≡ eqb (w % 2) 1
bit_first w = ap (λ (x : ℕ). eqb (x % 2) 1) (div-one w)

pub bit_above : (w n i : ℕ) → w < 2 ^ n → n ≤ i → bit_of w i ≡ false
bit_above w n i h k = ap (λ (x : ℕ). eqb (x % 2) 1) (div-eq_of_lt (lt_of_lt_of_le h (pow_mono k)))

pub bit_zero : bit_of zero ≡ zeros
bit_zero = ext (λ i. bit_above zero zero i (lit< tt) (omega arith))

digit_xor : (x y : ℕ) → x < 2 → y < 2 → eqb (bit_xor x y) 1 ≡ xor (eqb x 1) (eqb y 1)
digit_xor zero y hx hy = refl
digit_xor (suc zero) zero hx hy = refl
digit_xor (suc zero) (suc zero) hx hy = refl
digit_xor (suc zero) (suc (suc y)) hx hy = absurd (omega arith)
digit_xor (suc (suc x)) y hx hy = absurd (omega arith)

digit_and : (x y : ℕ) → x < 2 → y < 2 → eqb (bit_and x y) 1 ≡ (eqb x 1 && eqb y 1)
digit_and zero y hx hy = refl
digit_and (suc zero) zero hx hy = refl
digit_and (suc zero) (suc zero) hx hy = refl
digit_and (suc zero) (suc (suc y)) hx hy = absurd (omega arith)
digit_and (suc (suc x)) y hx hy = absurd (omega arith)

digit_or : (x y : ℕ) → x < 2 → y < 2 → eqb (bit_or x y) 1 ≡ (eqb x 1 || eqb y 1)
digit_or zero zero hx hy = refl
digit_or zero (suc zero) hx hy = refl
digit_or zero (suc (suc y)) hx hy = absurd (omega arith)
digit_or (suc zero) zero hx hy = refl
digit_or (suc zero) (suc zero) hx hy = refl
digit_or (suc zero) (suc (suc y)) hx hy = absurd (omega arith)
digit_or (suc (suc x)) y hx hy = absurd (omega arith)

digit_add : (x y : ℕ) → x < 2 → y < 2 → eqb ((x + y) % 2) 1 ≡ xor (eqb x 1) (eqb y 1)
digit_add zero zero hx hy = refl
digit_add zero (suc zero) hx hy = refl
digit_add zero (suc (suc y)) hx hy = absurd (omega arith)
digit_add (suc zero) zero hx hy = refl
digit_add (suc zero) (suc zero) hx hy = refl
digit_add (suc zero) (suc (suc y)) hx hy = absurd (omega arith)
digit_add (suc (suc x)) y hx hy = absurd (omega arith)

pub bit_of_xor : (a b i : ℕ) → bit_of (bit_xor a b) i ≡ xor (bit_of a i) (bit_of b i)
bit_of_xor a b i =
    ap (λ (x : ℕ). eqb (x % 2) 1) (xor_shr a b i) ∙ ap (λ (x : ℕ). eqb x 1) (xor_mod (a / 2 ^ i) (b / 2 ^ i) 1)
    ∙ digit_xor (a / 2 ^ i % 2) (b / 2 ^ i % 2) (mod-lt _ two_pos) (mod-lt _ two_pos)

pub bit_of_and : (a b i : ℕ) → bit_of (bit_and a b) i ≡ (bit_of a i && bit_of b i)
bit_of_and a b i =
    ap (λ (x : ℕ). eqb (x % 2) 1) (and_shr a b i) ∙ ap (λ (x : ℕ). eqb x 1) (and_mod (a / 2 ^ i) (b / 2 ^ i) 1)
    ∙ digit_and (a / 2 ^ i % 2) (b / 2 ^ i % 2) (mod-lt _ two_pos) (mod-lt _ two_pos)

pub bit_of_or : (a b i : ℕ) → bit_of (bit_or a b) i ≡ (bit_of a i || bit_of b i)
bit_of_or a b i =
    ap (λ (x : ℕ). eqb (x % 2) 1) (or_shr a b i) ∙ ap (λ (x : ℕ). eqb x 1) (or_mod (a / 2 ^ i) (b / 2 ^ i) 1)
    ∙ digit_or (a / 2 ^ i % 2) (b / 2 ^ i % 2) (mod-lt _ two_pos) (mod-lt _ two_pos)

-- the low k bits of a number
bit_low : (w k i : ℕ) → i < k → bit_of (w % 2 ^ k) i ≡ bit_of w i
bit_low w k i h =
    let e : k ≡ (k - i - 1 + 1) + i = omega arith in
    ap (λ (n : ℕ). bit_of (w % 2 ^ n) i) e ∙ ap (λ (x : ℕ). eqb (x % 2) 1) (field w (k - i - 1 + 1) i)
    ∙ ap (λ (x : ℕ). eqb x 1) (mod-mod-pow (w / 2 ^ i) (k - i - 1) 1)

-- `!w` at n bits
pub bit_not : (n w i : ℕ) → w < 2 ^ n → i < n → bit_of (2 ^ n - 1 - w) i ≡ not (bit_of w i)
bit_not zero w i h k = absurd (omega arith)
bit_not (suc n) w zero h k =
    let two = pow-suc 2 n in
    bit_first (2 ^ suc n - 1 - w) ∙ digit_not _ (w % 2) (omega arith) ∙ ap not (sym (bit_first w))
  where
    digit_not : (x d : ℕ) → x + d ≡ 1 → eqb x 1 ≡ not (eqb d 1)
    digit_not zero (suc zero) e = refl
    digit_not (suc zero) zero e = refl
    digit_not zero zero e = absurd (omega arith)
    digit_not zero (suc (suc d)) e = absurd (omega arith)
    digit_not (suc zero) (suc d) e = absurd (omega arith)
    digit_not (suc (suc x)) d e = absurd (omega arith)
bit_not (suc n) w (suc i) h k =
    let two = pow-suc 2 n in
    let half : (2 ^ suc n - 1 - w) / 2 ≡ 2 ^ n - 1 - w / 2 = omega arith in
    bit_suc (2 ^ suc n - 1 - w) i ∙ ap (λ (x : ℕ). bit_of x i) half ∙ bit_not n (w / 2) i (omega arith) (omega arith) ∙ ap not (sym (bit_suc w i))

-- `v & !u` at 64 bits
pub bits_without : (v u : ℕ) → v < 2 ^ 64 → u < 2 ^ 64 → bit_of (bit_and v (2 ^ 64 - 1 - u)) ≡ (λ i. bit_of v i && not (bit_of u i))
bits_without v u h k =
    ext (λ i. bit_of_and v (2 ^ 64 - 1 - u) i ∙ elim (cases_lt i 64) [
      | inl l ↦ ap (λ (b : Bool). bit_of v i && b) (bit_not 64 u i k l)
      | inr l ↦ ap (λ (b : Bool). b && bit_of (2 ^ 64 - 1 - u) i) (bit_above v 64 i h l)
          ∙ sym (ap (λ (b : Bool). b && not (bit_of u i)) (bit_above v 64 i h l))
    ])

pub bit_double_first : (w : ℕ) → bit_of (w * 2) zero ≡ false
bit_double_first w = bit_first (w * 2) ∙ ap (λ (x : ℕ). eqb x 1) (mul-mod_left w 2)

pub bit_double : (w i : ℕ) → bit_of (w * 2) (suc i) ≡ bit_of w i
bit_double w i = bit_suc (w * 2) i ∙ ap (λ (x : ℕ). bit_of x i) (mul-div_cancel w two_pos)

-- the number with the one bit p
bit_pow : (p i : ℕ) → bit_of (2 ^ p) i ≡ eqb p i
bit_pow zero zero = refl
bit_pow zero (suc i) = bit_above 1 1 (suc i) (lit< tt) (omega arith) ∙ sym (eqb-zero-suc i)
bit_pow (suc p) zero = ap (λ (x : ℕ). bit_of x zero) (pow-suc 2 p) ∙ bit_double_first (2 ^ p) ∙ sym (eqb-suc-zero p)
bit_pow (suc p) (suc i) = ap (λ (x : ℕ). bit_of x (suc i)) (pow-suc 2 p) ∙ bit_double (2 ^ p) i ∙ bit_pow p i ∙ sym (eqb-suc-suc p i)

-- the parity of a number of n bits is their sum
pub parity_sum : (n w : ℕ) → w < 2 ^ n → eqb (ones w % 2) 1 ≡ sum_of n (bit_of w)
parity_sum zero w h = let e : ones w ≡ 0 = omega (arith, ones-le zero w h) in ap (λ (x : ℕ). eqb (x % 2) 1) e
parity_sum (suc n) w h =
    ap (λ (x : ℕ). eqb (x % 2) 1) (ones_step w)
    ∙ ap (λ (x : ℕ). eqb x 1) (add-mod (w % 2) (ones (w / 2)) 2)
    ∙ digit_add (w % 2 % 2) (ones (w / 2) % 2) (mod-lt _ two_pos) (mod-lt _ two_pos)
    ∙ ap₂ xor (ap (λ (x : ℕ). eqb x 1) (mod-mod w 2) ∙ sym (bit_first w))
    (parity_sum n (w / 2) (shr_lt n 1 (subst (λ (k : ℕ). w < 2 ^ k) (sym (add-one n)) h)) ∙ sum_same n _ _ (λ i _. sym (bit_suc w i)))
    ∙ sym (sum_front n (bit_of w))

digit_one : (x : ℕ) (b : Bool) → x < 2 → eqb x 1 ≡ b → x ≡ one_if b
digit_one x true h e = eqb-true x 1 e
digit_one x false h e = grind (arith, nat_tests)

-- a number below 2 ^ n that has the bits of a row is the word of that row
pub word_is : (n w : ℕ) (s : Row) → w < 2 ^ n → ((i : ℕ) → i < n → bit_of w i ≡ s i) → w ≡ word_of n s
word_is zero w s h p = lt-one h
word_is (suc n) w s h p =
    let low : w % 2 ≡ one_if (s zero) = digit_one (w % 2) (s zero) (mod-lt w two_pos) (sym (bit_first w) ∙ p zero (omega arith)) in
    let high : w / 2 ≡ word_of n (λ i. s (suc i)) =
    word_is n (w / 2) (λ i. s (suc i)) (shr_lt n 1 (subst (λ (k : ℕ). w < 2 ^ k) (sym (add-one n)) h))
    (λ i l. sym (bit_suc w i) ∙ p (suc i) (omega arith)) in
    omega arith

pub word_fits : (n : ℕ) (s : Row) → word_of n s < 2 ^ n
word_fits zero s = lit< tt
word_fits (suc n) s = let h = word_fits n (λ i. s (suc i)) in let e = pow-suc 2 n in let l = small (s zero) in omega arith
  where
    small : (b : Bool) → one_if b < 2
    small true = lit< tt
    small false = lit< tt

digit_of_lem : (b : Bool) (w : ℕ) → eqb ((one_if b + 2 * w) % 2) 1 ≡ b
digit_of_lem true w = let e : (1 + 2 * w) % 2 ≡ 1 = omega arith in ap (λ (x : ℕ). eqb x 1) e
digit_of_lem false w = let e : (0 + 2 * w) % 2 ≡ 0 = omega arith in ap (λ (x : ℕ). eqb x 1) e

half_of : (b : Bool) (w : ℕ) → (one_if b + 2 * w) / 2 ≡ w
half_of true w = omega arith
half_of false w = omega arith

pub word_at : (n : ℕ) (s : Row) (i : ℕ) → i < n → bit_of (word_of n s) i ≡ s i
word_at zero s i h = absurd (omega arith)
word_at (suc n) s zero h = bit_first (word_of (suc n) s) ∙ digit_of_lem (s zero) (word_of n (λ i. s (suc i)))
word_at (suc n) s (suc i) h =
    bit_suc (word_of (suc n) s) i ∙ ap (λ (x : ℕ). bit_of x i) (half_of (s zero) (word_of n (λ i. s (suc i))))
    ∙ word_at n (λ i. s (suc i)) i (omega arith)

-- the bits of the word of a row are its first n bits
pub word_bits : (n : ℕ) (s : Row) → bit_of (word_of n s) ≡ upto n s
word_bits n s = same_upto n (bit_of (word_of n s)) s (word_at n s) (λ i h. bit_above (word_of n s) n i (word_fits n s) h)

-- a number below 2 ^ n is the word of its bits
pub word_self : (n w : ℕ) → w < 2 ^ n → w ≡ word_of n (bit_of w)
word_self n w h = word_is n w (bit_of w) h (λ i _. refl)

-- a number below 2 ^ n has no bit from n on
pub bits_within : (n w : ℕ) → w < 2 ^ n → upto n (bit_of w) ≡ bit_of w
bits_within n w h = sym (same_upto n (bit_of w) (bit_of w) (λ i _. refl) (λ i k. bit_above w n i h k))

pub word_same : (n : ℕ) (s t : Row) → ((i : ℕ) → i < n → s i ≡ t i) → word_of n s ≡ word_of n t
word_same n s t p = word_is n (word_of n s) t (word_fits n s) (λ i h. word_at n s i h ∙ p i h)

pub word_plus : (n : ℕ) (s t : Row) → bit_xor (word_of n s) (word_of n t) ≡ word_of n (plus s t)
word_plus n s t =
    word_is n _ (plus s t) (xor_lt n _ _ (word_fits n s) (word_fits n t))
    (λ i h. bit_of_xor (word_of n s) (word_of n t) i ∙ ap₂ xor (word_at n s i h) (word_at n t i h))

-- the lowest set bit of a number
pub lowest_set : (k w : ℕ) → (w ≡ zero → ⊥) → w < 2 ^ k → (count_trailing_zeros k w < k) × (bit_of w (count_trailing_zeros k w) ≡ true)
unfolding count_trailing_zeros
lowest_set zero w ne h = absurd (ne (lt-one h))
lowest_set (suc k) w ne h = go (w % 2) refl (lowest_set k (w / 2))
  where
    go : (d : ℕ) → w % 2 ≡ d
        → ((w / 2 ≡ zero → ⊥) → w / 2 < 2 ^ k → (count_trailing_zeros k (w / 2) < k) × (bit_of (w / 2) (count_trailing_zeros k (w / 2)) ≡ true))
        → (under d (count_trailing_zeros k (w / 2)) < suc k) × (bit_of w (under d (count_trailing_zeros k (w / 2))) ≡ true)
    go zero e more =
        let rest = more (λ z. ne (omega arith)) (shr_lt k 1 (subst (λ (j : ℕ). w < 2 ^ j) (sym (add-one k)) h)) in
        (omega arith, bit_suc w (count_trailing_zeros k (w / 2)) ∙ rest.1)
    go (suc d) e more =
        let one : w % 2 ≡ 1 = (let l = mod-lt w two_pos in omega arith) in
        (omega arith, bit_first w ∙ eq-eqb (w % 2) 1 one)

-- a set bit of a number below 2 ^ n stands below n
pub set_below : (w n p : ℕ) → w < 2 ^ n → bit_of w p ≡ true → p < n
set_below w n p h set = elim (cases_lt p n) [ inl l ↦ l | inr l ↦ absurd (both_ways _ (bit_above w n p h l) set) ]

pub word_zeros : (n : ℕ) → word_of n zeros ≡ zero
word_zeros zero = refl
word_zeros (suc n) = let e = word_zeros n in omega arith

and_xor_self : (a b : Bool) → a ≡ true → (xor a b && b) ≡ false
and_xor_self true true e = refl
and_xor_self true false e = refl
and_xor_self false b e = absurd (false≢true e)

xor_and_at : (a b : Bool) → (b ≡ true → a ≡ true) → (xor a b && b) ≡ false
xor_and_at a true h = and_xor_self a true (h refl)
xor_and_at a false h = and-false (xor a false)

-- taking a set bit away makes a number smaller
pub clear_less : (w p : ℕ) → bit_of w p ≡ true → bit_xor w (2 ^ p) < w
clear_less w p set =
    let gone : (i : ℕ) → bit_of (bit_and (bit_xor w (2 ^ p)) (2 ^ p)) i ≡ false =
    λ i. bit_of_and (bit_xor w (2 ^ p)) (2 ^ p) i ∙ ap₂ ◌&&◌ (bit_of_xor w (2 ^ p) i) refl
    ∙ xor_and_at (bit_of w i) (bit_of (2 ^ p) i) (λ e. ap (bit_of w) (sym (eqb-true p i (sym (bit_pow p i) ∙ e))) ∙ set) in
    let small : bit_and (bit_xor w (2 ^ p)) (2 ^ p) < 2 ^ suc p = omega (arith, and_le_r (bit_xor w (2 ^ p)) (2 ^ p), pow-suc 2 p, pow_pos p) in
    let apart : bit_and (bit_xor w (2 ^ p)) (2 ^ p) ≡ zero = word_is (suc p) _ zeros small (λ i _. gone i) ∙ word_zeros (suc p) in
    let back : bit_xor (bit_xor w (2 ^ p)) (2 ^ p) ≡ w = xor_assoc w (2 ^ p) (2 ^ p) ∙ ap (bit_xor w) (xor_self (2 ^ p)) ∙ xor_zero_r w in
    omega (arith, xor_disjoint (bit_xor w (2 ^ p)) (2 ^ p) apart, back, pow_pos p)

-- the number without its bit p, as a row
pub bits_clear : (w p : ℕ) → bit_of (bit_xor w (2 ^ p)) ≡ plus (bit_of w) (λ i. eqb p i)
bits_clear w p = ext (λ i. bit_of_xor w (2 ^ p) i ∙ ap (xor (bit_of w i)) (bit_pow p i))

-- the low bits of a word
pub low_is : (w n : ℕ) → n < 64 → bit_and w ((1 * 2 ^ n) % 2 ^ 64 - 1) ≡ word_of n (bit_of w)
low_is w n h =
    ap (λ (x : ℕ). bit_and w (x - 1)) (one_shl n 64 h) ∙ and_mask w n
    ∙ word_is n (w % 2 ^ n) (bit_of w) (mod-lt w (pow_pos n)) (λ i l. bit_low w n i l)

-- `1 << p` at 64 bits
pub bit_shifted_one : (p i : ℕ) → p < 64 → bit_of ((1 * 2 ^ p) % 2 ^ 64) i ≡ eqb p i
bit_shifted_one p i h = ap (λ (x : ℕ). bit_of x i) (one_shl p 64 h) ∙ bit_pow p i

-- a word with one bit more set
pub bits_with : (w p : ℕ) → p < 64 → bit_of (bit_or w ((1 * 2 ^ p) % 2 ^ 64)) ≡ (λ i. bit_of w i || eqb p i)
bits_with w p h = ext (λ i. bit_of_or w _ i ∙ ap (λ (b : Bool). bit_of w i || b) (bit_shifted_one p i h))

-- a test of one bit
pub bit_test : (w p : ℕ) → eqb (bit_and (w / 2 ^ p) 1) 1 ≡ bit_of w p
bit_test w p = ap (λ (x : ℕ). eqb x 1) (and_mask (w / 2 ^ p) 1)

-- `b << p` at 64 bits, for a digit b
pub bit_pulse : (b p i : ℕ) → b < 2 → p < 64 → bit_of ((b * 2 ^ p) % 2 ^ 64) i ≡ (eqb p i && eqb b 1)
bit_pulse zero p i h k =
    let e : (0 * 2 ^ p) % 2 ^ 64 ≡ 0 = omega arith in
    ap (λ (x : ℕ). bit_of x i) e ∙ ap (λ (s : Row). s i) bit_zero ∙ sym (and-false (eqb p i))
bit_pulse (suc zero) p i h k = bit_shifted_one p i k ∙ sym (and-true (eqb p i))
bit_pulse (suc (suc b)) p i h k = absurd (omega arith)

pulse_fits : (b p n : ℕ) → b < 2 → p < n → n ≤ 64 → (b * 2 ^ p) % 2 ^ 64 < 2 ^ n
pulse_fits b p n h k l =
    let m : 1 + p ≤ n = omega arith in
    subst (λ (x : ℕ). x < 2 ^ n) (sym (shl_whole b 1 p 64 h (omega arith))) (lt_of_lt_of_le (shl_lt 1 p h) (pow_mono m))

-- bit p of a word, put at place q
pub bit_carried : (w p q i : ℕ) → q < 64 → bit_of ((bit_and (w / 2 ^ p) 1 * 2 ^ q) % 2 ^ 64) i ≡ (eqb q i && bit_of w p)
bit_carried w p q i h = bit_pulse (bit_and (w / 2 ^ p) 1) q i (mask_lt (w / 2 ^ p) 1) h ∙ ap (λ (b : Bool). eqb q i && b) (bit_test w p)

pub carried_fits : (w p q n : ℕ) → q < n → n ≤ 64 → (bit_and (w / 2 ^ p) 1 * 2 ^ q) % 2 ^ 64 < 2 ^ n
carried_fits w p q n h l = pulse_fits (bit_and (w / 2 ^ p) 1) q n (mask_lt (w / 2 ^ p) 1) h l

-- one bit more on top of a word
word_more : (n w b : ℕ) (s : Row) → n < 64 → b < 2 → w ≡ word_of n s → eqb b 1 ≡ s n → bit_or w ((b * 2 ^ n) % 2 ^ 64) ≡ word_of (n + 1) s
word_more n w b s few digit e here =
    let fits : w < 2 ^ n = subst (λ (x : ℕ). x < 2 ^ n) (sym e) (word_fits n s) in
    let up : n ≤ n + 1 = omega arith in
    word_is (n + 1) _ s (or_lt (n + 1) w _ (lt_of_lt_of_le fits (pow_mono up)) (pulse_fits b n (n + 1) digit (omega arith) (omega arith)))
    (λ i h. bit_of_or w _ i ∙ ap (λ (x : Bool). bit_of w i || x) (bit_pulse b n i digit few) ∙ at fits i (cases_order i n) h)
  where
    or_and_false : (x y : Bool) → (x || (false && y)) ≡ x
    or_and_false true y = refl
    or_and_false false y = refl

    at : w < 2 ^ n → (i : ℕ) → (i ≡ n) ⊎ ((i < n) ⊎ (n < i)) → i < n + 1 → (bit_of w i || (eqb n i && eqb b 1)) ≡ s i
    at fits i (inl z) h =
        ap₂ (λ (x y : Bool). x || (y && eqb b 1)) (bit_above w n i fits (omega arith)) (eq-eqb n i (sym z)) ∙ here ∙ ap s (sym z)
    at fits i (inr (inl l)) h =
        ap (λ (x : Bool). bit_of w i || (x && eqb b 1)) (ne_eqb n i (λ z. omega arith)) ∙ or_and_false (bit_of w i) (eqb b 1)
        ∙ ap (λ (x : ℕ). bit_of x i) e ∙ word_at n s i l
    at fits i (inr (inr l)) h = absurd (omega arith)

-- the same for a flag, as `flag as u64` gives it
pub word_flag : (n w : ℕ) (b : Bool) (s : Row) → n < 64 → w ≡ word_of n s → b ≡ s n → bit_or w ((bool_byte b * 2 ^ n) % 2 ^ 64) ≡ word_of (n + 1) s
word_flag n w true s few e here = word_more n w 1 s few (lit< tt) e here
word_flag n w false s few e here = word_more n w 0 s few (lit< tt) e here
