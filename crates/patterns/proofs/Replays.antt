-- A replay: the word of each cycle, and when all are done.
use Rattle.std.proofs.Common.{◌≡◌, ℕ, suc, ◌+◌, ◌-◌, ◌*◌, ◌<◌, ◌≤◌, Bool, true, false, not, eqb, List, ◌++◌, length, get_or, drop, Ok, Err, Result, sym, refl, ap, ◌∙◌, inl, inr, mul-le-mul_right, mul_comm, add-mul, one-mul, arith}
use Rattle.std.proofs.lemmas.List.{length-drop, get_or_append_left, get_or-drop, drop_at, drop-drop}
use Rattle.std.proofs.lemmas.Bool.{false≢true, cases_lt}
use Rattle.bits.specs.Digits.{digit_row}
use Rattle.bits.specs.Rows.{upto}
use Rattle.bits.specs.Words.{bit_of, word_of}
use Rattle.bits.proofs.Bitwise.{word_bits}
use Rattle.bits.proofs.Sums.{upto_upto, upto_same}
use Rattle.refusals.specs.Chains.{answer_of}
use Rattle.scan.specs.Frames.{taken}

-- a result is accepted or refused, not both
pub never_both : {X E : Type 0} (x : X) (e : E) → ◌≡◌ {A = Result X E} (Err e) (Ok x) → ⊥
never_both x e h = let z : ◌≡◌ {A = ℕ} 0 1 = cc in omega arith

pub never_refused : {S E : Type 0} (r : Result S E) (s : S) (e : E) → r ≡ Ok s → Err e ≡ answer_of r → ⊥
never_refused r s e h refused = never_both (tt {0}) e (refused ∙ ap answer_of h)

pub same_loaded : {X E F : Type 0} (x y : X) → ◌≡◌ {A = Result X E} (Ok x) (Ok y) → ◌≡◌ {A = Result X F} (Ok x) (Ok y)
same_loaded x y h = let e : x ≡ y = cc in ap Ok e

not_false : (b : Bool) → not b ≡ false → b ≡ true
not_false true e = refl
not_false false e = absurd (false≢true (sym e))

-- the digits of a cycle stand first in what is left: its word has what the channels take, and what is left after it begins a cycle further on
module _ (k t : ℕ) (digits cycle rest : List ℕ) (here : drop (t * k) digits ≡ cycle ++ rest) (long : length cycle ≡ k) where
  pub cycle_word : (w : ℕ) → w ≡ word_of (length cycle) (digit_row cycle) → upto k (bit_of w) ≡ taken k (digit_row digits) (suc t)
  cycle_word w e =
      ap (λ (v : ℕ). upto k (bit_of v)) (e ∙ ap (λ (n : ℕ). word_of n (digit_row cycle)) long)
      ∙ ap (upto k) (word_bits k (digit_row cycle)) ∙ upto_upto k (digit_row cycle)
      ∙ upto_same k (digit_row cycle) _ (λ c l.
      let at : t * k + c ≡ (suc t - 1) * k + c = (let z : t ≡ suc t - 1 = omega arith in ap (λ (u : ℕ). u * k + c) z) in
      ap (λ (d : ℕ). eqb d 49)
      (sym (get_or_append_left cycle rest 0 c (omega arith)) ∙ ap (λ (ds : List ℕ). get_or ds c 0) (sym here)
      ∙ get_or-drop (t * k) digits c 0 ∙ ap (λ (i : ℕ). get_or digits i 0) at))

  pub cycle_left : rest ≡ drop ((t + 1) * k) digits
  cycle_left =
      sym (drop_at cycle rest k long) ∙ ap (drop k) (sym here) ∙ drop-drop k (t * k) digits
      ∙ ap (λ (n : ℕ). drop n digits) (let next = add-mul t 1 k in let one = one-mul k in omega arith)

-- where fewer digits are left than a cycle takes, all cycles are done
pub cycles_done : (k t n size : ℕ) (digits rest : List ℕ) → length digits ≡ k * n → t ≤ n → rest ≡ drop (t * k) digits → size ≡ k → length rest < size
    → t ≡ n
cycles_done k t n size digits rest count few left same short = elim (cases_lt t n) [
  | inl l ↦ absurd (omega (arith, mul-le-mul_right k (up l), mul_comm n k, add-mul t 1 k, one-mul k, length-drop (t * k) digits, ap length left))
  | inr l ↦ omega arith
]
  where
    up : t < n → t + 1 ≤ n
    up l = omega arith
