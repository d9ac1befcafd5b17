-- The delay: its laws, and what its methods leave.
use Rattle.std.specs.Prelude.{◌≡◌, ℕ, ◌+◌, ◌-◌, ◌≤◌, Bool, true, false, cond, nat_lt, refl}
use Rattle.std.proofs.Common.{sym, ap, ap₂, ◌∙◌, arith}
use Rattle.std.proofs.lemmas.Bool.Decides.{nat_tests}
use Rattle.bits.specs.Rows.{Row, plus, upto}
use Rattle.bits.specs.Words.{bit_of, word_of}
use Rattle.bits.proofs.Sums.{ext, upto_plus, upto_at, upto_past, upto_upto, same_upto, cond_xor}
use Rattle.bits.proofs.Bitwise.{word_bits, word_same}
use Rattle.machine.specs.Linear.{Linear, Superposes}
use Rattle.layers.specs.Delayed.{joined, delayed}

joined_plus : (n : ℕ) (s t u v : Row) → joined n (plus s t) (plus u v) ≡ plus (joined n s u) (joined n t v)
joined_plus n s t u v = ext (λ i. cond_xor (nat_lt i n) (s i) (t i) (u (i - n)) (v (i - n)))

cond_cond : (c x y z : Bool) → cond c (cond c x y) z ≡ cond c x z
cond_cond true x y z = refl
cond_cond false x y z = refl

upto_joined : (n : ℕ) (s t : Row) → upto n (joined n s t) ≡ upto n s
upto_joined n s t = ext (λ i. grind (arith, nat_tests))

joined_past : (n : ℕ) (s t : Row) (i : ℕ) → n ≤ i → joined n s t i ≡ t (i - n)
joined_past n s t i h = grind (arith, nat_tests)

pub superposes : (m : Linear) → Superposes m → Superposes (delayed m)
superposes m law = record {
  next_sum = λ s t i j.
      let n = m.size in
      ap (λ (x : Row). joined n (m.next x (plus i j)) (upto m.outlets (m.out x))) (upto_plus n s t)
      ∙ ap₂ (joined n) (law.next_sum (upto n s) (upto n t) i j)
      (ap (upto m.outlets) (law.out_sum (upto n s) (upto n t)) ∙ upto_plus m.outlets (m.out (upto n s)) (m.out (upto n t)))
      ∙ joined_plus n _ _ (upto m.outlets (m.out (upto n s))) (upto m.outlets (m.out (upto n t)));
  out_sum = λ s t. refl;
}

pub held : (n c : ℕ) (s t : Row) → upto (n + c) (joined n s (upto c t)) ≡ joined n s (upto c t)
held n c s t =
    sym (same_upto (n + c) _ (joined n s (upto c t)) (λ i _. refl)
    (λ i h. joined_past n s (upto c t) i (omega arith) ∙ upto_past c t (i - n) (omega arith)))

-- a shift of the machine below, after its outlets were read
pub shift_is : (m k : Linear) (s t old j : Row) (r : ℕ) → k ≡ m → upto m.size s ≡ s → t ≡ m.next s j → r ≡ word_of m.outlets (m.out s)
    → joined k.size t (upto k.outlets (bit_of r)) ≡ (delayed m).next (joined m.size s old) j
shift_is m k s t old j r e within f g =
    let front : upto m.size (joined m.size s old) ≡ s = upto_joined m.size s old ∙ within in
    let kept : upto m.outlets (bit_of r) ≡ upto m.outlets (m.out s) =
    ap (λ (x : ℕ). upto m.outlets (bit_of x)) g ∙ ap (upto m.outlets) (word_bits m.outlets (m.out s)) ∙ upto_upto m.outlets (m.out s) in
    ap (λ (x : Linear). joined x.size t (upto x.outlets (bit_of r))) e
    ∙ ap₂ (joined m.size) f kept
    ∙ ap (λ (x : Row). joined m.size (m.next x j) (upto m.outlets (m.out x))) (sym front)

pub read_is : (n c w : ℕ) (s : Row) → word_of c (bit_of w) ≡ word_of c (λ i. joined n s (upto c (bit_of w)) (n + i))
read_is n c w s =
    word_same c (bit_of w) _ (λ i h.
    let e : n + i - n ≡ i = omega arith in
    sym (joined_past n s (upto c (bit_of w)) (n + i) (omega arith) ∙ ap (upto c (bit_of w)) e ∙ upto_at c (bit_of w) i h))
