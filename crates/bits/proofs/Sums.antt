-- Laws of exclusive-or, of rows and of their sums.
use Rattle.std.proofs.Common.{◌≡◌, ℕ, zero, suc, ◌<◌, ◌≤◌, Bool, true, false, cond, ◌&&◌, eqb, ltb, sym, refl, ap, ◌∙◌, ap₂, inl, inr, arith}
use mathlib.Core.Bool.{and-true, and-false}
use Rattle.std.proofs.lemmas.Bool.{cases_lt, cases_eq, lt-ltb, le-ltb, ltb-true, ltb-false, eq-eqb, ne_eqb}
use Rattle.bits.specs.Rows.{Row, xor, zeros, plus, upto, sum_of}

-- rows with equal bits are equal
pub ext : {s t : Row} → ((i : ℕ) → s i ≡ t i) → s ≡ t
ext p = λ d i. p i d

pub xor_false : (a : Bool) → xor a false ≡ a
xor_false true = refl
xor_false false = refl

pub xor_self : (a : Bool) → xor a a ≡ false
xor_self true = refl
xor_self false = refl

xor_comm : (a b : Bool) → xor a b ≡ xor b a
xor_comm true true = refl
xor_comm true false = refl
xor_comm false true = refl
xor_comm false false = refl

pub xor_assoc : (a b c : Bool) → xor (xor a b) c ≡ xor a (xor b c)
xor_assoc true true true = refl
xor_assoc true true false = refl
xor_assoc true false c = refl
xor_assoc false b c = refl

-- a sum of two sums, taken the other way
pub xor_swap : (a b c d : Bool) → xor (xor a b) (xor c d) ≡ xor (xor a c) (xor b d)
xor_swap a b c d =
    xor_assoc a b (xor c d) ∙ ap (xor a) (sym (xor_assoc b c d) ∙ ap (λ x. xor x d) (xor_comm b c) ∙ xor_assoc c b d) ∙ sym (xor_assoc a c (xor b d))

pub and_xor : (a b c : Bool) → (a && xor b c) ≡ xor (a && b) (a && c)
and_xor true b c = refl
and_xor false b c = refl

pub plus_zeros : (s : Row) → plus s zeros ≡ s
plus_zeros s = ext (λ i. xor_false (s i))

pub plus_self : (s : Row) → plus s s ≡ zeros
plus_self s = ext (λ i. xor_self (s i))

pub sum_plus : (n : ℕ) (s t : Row) → sum_of n (plus s t) ≡ xor (sum_of n s) (sum_of n t)
sum_plus zero s t = refl
sum_plus (suc n) s t = ap (λ x. xor x (xor (s n) (t n))) (sum_plus n s t) ∙ xor_swap (sum_of n s) (sum_of n t) (s n) (t n)

pub sum_same : (n : ℕ) (s t : Row) → ((i : ℕ) → i < n → s i ≡ t i) → sum_of n s ≡ sum_of n t
sum_same zero s t p = refl
sum_same (suc n) s t p = ap₂ xor (sum_same n s t (λ i h. p i (omega arith))) (p n (omega arith))

pub sum_none : (n : ℕ) (s : Row) → ((i : ℕ) → i < n → s i ≡ false) → sum_of n s ≡ false
sum_none zero s p = refl
sum_none (suc n) s p = ap₂ xor (sum_none n s (λ i h. p i (omega arith))) (p n (omega arith))

pub sum_front : (n : ℕ) (s : Row) → sum_of (suc n) s ≡ xor (s zero) (sum_of n (λ i. s (suc i)))
sum_front zero s = sym (xor_false (s zero))
sum_front (suc n) s = ap (λ x. xor x (s (suc n))) (sum_front n s) ∙ xor_assoc (s zero) (sum_of n (λ i. s (suc i))) (s (suc n))

-- bits that are false add nothing
pub sum_cut : (n k : ℕ) (s : Row) → ((i : ℕ) → n ≤ i → i < k → s i ≡ false) → n ≤ k → sum_of k s ≡ sum_of n s
sum_cut n zero s p h = let e : zero ≡ n = omega arith in ap (λ (m : ℕ). sum_of m s) e
sum_cut n (suc k) s p h =
    elim (cases_lt k n) [
      | inl l ↦ (let e : suc k ≡ n = omega arith in ap (λ (m : ℕ). sum_of m s) e)
      | inr l ↦ ap (xor (sum_of k s)) (p k l (omega arith)) ∙ xor_false (sum_of k s) ∙ sum_cut n k s (λ i a b. p i a (omega arith)) l
    ]

pub sum_short : (n k : ℕ) (s : Row) → ((i : ℕ) → n ≤ i → s i ≡ false) → n ≤ k → sum_of k s ≡ sum_of n s
sum_short n k s p h = sum_cut n k s (λ i a _. p i a) h

-- the sum over the one place p
pub sum_at : (n p : ℕ) (s : Row) → p < n → sum_of n (λ i. s i && eqb p i) ≡ s p
sum_at zero p s h = absurd (omega arith)
sum_at (suc n) p s h =
    elim (cases_eq p n) [
      | inl e ↦ (
          ap₂ xor (sum_none n (λ i. s i && eqb p i) (λ i l. ap (λ (b : Bool). s i && b) (ne_eqb p i (λ z. omega arith)) ∙ and-false (s i)))
          (ap (λ (b : Bool). s n && b) (eq-eqb p n e) ∙ and-true (s n) ∙ ap s (sym e)))
      | inr d ↦ (
          let l : p < n = omega arith in
          ap₂ xor (sum_at n p s l) (ap (λ (b : Bool). s n && b) (ne_eqb p n d) ∙ and-false (s n)) ∙ xor_false (s p))
    ]

pub cond_xor : (c x y z w : Bool) → cond c (xor x y) (xor z w) ≡ xor (cond c x z) (cond c y w)
cond_xor true x y z w = refl
cond_xor false x y z w = refl

pub upto_plus : (n : ℕ) (s t : Row) → upto n (plus s t) ≡ plus (upto n s) (upto n t)
upto_plus n s t = ext (λ i. cond_xor (ltb i n) (s i) (t i) false false)

pub upto_at : (n : ℕ) (s : Row) (i : ℕ) → i < n → upto n s i ≡ s i
upto_at n s i h = ap (λ b. cond b (s i) false) (lt-ltb i n h)

pub upto_past : (n : ℕ) (s : Row) (i : ℕ) → n ≤ i → upto n s i ≡ false
upto_past n s i h = ap (λ b. cond b (s i) false) (le-ltb i n h)

-- a row that has the bits of another below n and is false from n on
pub same_upto : (n : ℕ) (s t : Row) → ((i : ℕ) → i < n → s i ≡ t i) → ((i : ℕ) → n ≤ i → s i ≡ false) → s ≡ upto n t
same_upto n s t p q = ext (λ i. go i (ltb i n) refl)
  where
    go : (i : ℕ) (b : Bool) → ltb i n ≡ b → s i ≡ cond (ltb i n) (t i) false
    go i true e = p i (ltb-true i n e) ∙ sym (upto_at n t i (ltb-true i n e))
    go i false e = q i (ltb-false i n e) ∙ sym (upto_past n t i (ltb-false i n e))

pub upto_same : (n : ℕ) (s t : Row) → ((i : ℕ) → i < n → s i ≡ t i) → upto n s ≡ upto n t
upto_same n s t p = same_upto n (upto n s) t (λ i h. upto_at n s i h ∙ p i h) (λ i h. upto_past n s i h)

pub upto_upto : (n : ℕ) (s : Row) → upto n (upto n s) ≡ upto n s
upto_upto n s = upto_same n (upto n s) s (λ i h. upto_at n s i h)
