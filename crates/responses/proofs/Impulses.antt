-- Impulses: one channel takes a 1 in one cycle, and nothing else is taken.
use Rattle.std.proofs.Common.{◌≡◌, ℕ, zero, suc, ◌+◌, ◌-◌, ◌*◌, ◌/◌, ◌%◌, ◌<◌, ◌≤◌, Bool, false, ◌&&◌, eqb, refl, ap, ◌∙◌, subst, ap₂, mul_comm, arith}
use Rattle.std.proofs.lemmas.Nat.{div-mul-add, mod-mul-add, div-add-mod', le-div}
use Rattle.std.proofs.lemmas.Bool.{eq-eqb, ne_eqb, and_left}
use Rattle.std.proofs.lemmas.Bool.Decides.{nat_tests}
use Rattle.bits.specs.Rows.{Row, zeros, upto}
use Rattle.bits.proofs.Sums.{upto_same}
use Rattle.equations.specs.Equations.{unit}
use Rattle.machine.specs.Linear.{Linear, Superposes}
use Rattle.scan.specs.Frames.{place_of, taken}
use Rattle.scan.specs.Loads.{cells_after}
use Rattle.responses.specs.Responses.{response}
use Rattle.responses.proofs.Superposition.{upto_zeros, silence, out_silence}

-- the cells d shifts after the one in which channel k alone took a 1
abbrev pub impulse : Linear → ℕ → ℕ → Row
impulse m k zero = m.next zeros (upto m.channels (unit k))
impulse m k (suc d) = m.next (impulse m k d) zeros

-- place i is that of channel i % k in cycle i / k + 1, and of no other
pub place_test : (k i t c : ℕ) → c < k → eqb i (t * k + c) ≡ (eqb (i / k) t && eqb (i % k) c)
place_test k i t c h =
    let cycle = div-mul-add t k c h in
    let channel = mod-mul-add t k c h in
    let whole = div-add-mod' i k in
    grind (arith, nat_tests)

module _ (k i : ℕ) where
  -- the one bit i of an injection is taken in its cycle, by its channel ..
  taken_then : (t : ℕ) → t ≡ i / k → taken k (unit i) (suc t) ≡ upto k (unit (i % k))
  taken_then t e = upto_same k (λ c. unit i (place_of k (suc t) c)) (unit (i % k))
      (λ c h. place_test k i (suc t - 1) c h ∙ ap (λ (b : Bool). b && eqb (i % k) c) (eq-eqb (i / k) (suc t - 1) (omega arith)))

  -- .. and in another cycle nothing is taken
  taken_else : (t : ℕ) → (t ≡ i / k → ⊥) → taken k (unit i) (suc t) ≡ zeros
  taken_else t other =
      upto_same k (λ c. unit i (place_of k (suc t) c)) zeros
      (λ c h. place_test k i (suc t - 1) c h ∙ and_left _ _ (ne_eqb (i / k) (suc t - 1) (λ z. other (omega arith))))
      ∙ upto_zeros k

module _ (m : Linear) (law : Superposes m) where
  -- before its cycle an injected bit changes no cell
  quiet : (i t : ℕ) → t ≤ i / m.channels → cells_after m (unit i) t ≡ zeros
  quiet i zero h = refl
  quiet i (suc t) h =
      ap₂ m.next (quiet i t (omega arith)) (taken_else m.channels i t (λ z. omega arith)) ∙ silence m law

  -- from then on there is the impulse of its channel
  struck : (i d t : ℕ) → t ≡ i / m.channels + d → cells_after m (unit i) (suc t) ≡ impulse m (i % m.channels) d
  struck i zero t e = ap₂ m.next (quiet i t (omega arith)) (taken_then m.channels i t (omega arith))
  struck i (suc d) zero e = absurd (omega arith)
  struck i (suc d) (suc t) e =
      ap₂ m.next (struck i d t (omega arith)) (taken_else m.channels i (suc t) (λ z. omega arith))

  -- a bit of a later cycle is not seen
  pub response_late : (t c i : ℕ) → t ≤ i / m.channels → response m t c i ≡ false
  response_late t c i h = ap (λ (s : Row). s c) (ap m.out (quiet i t h) ∙ out_silence m law)

  -- nor is one past all cycles
  pub response_past : (t c i : ℕ) → 1 ≤ m.channels → m.channels * t ≤ i → response m t c i ≡ false
  response_past t c i some h =
      response_late t c i (le-div t i m.channels some (subst (λ (n : ℕ). n ≤ i) (mul_comm m.channels t) h))

  -- what channel k took in cycle q is seen through its impulse
  pub response_at : (t c k q : ℕ) → k < m.channels → 0 < q → q ≤ t → response m t c (place_of m.channels q k) ≡ m.out (impulse m k (t - q)) c
  response_at t c k q h begun l =
      let i : ℕ = place_of m.channels q k in
      let cycle = div-mul-add (q - 1) m.channels k h in
      let channel = mod-mul-add (q - 1) m.channels k h in
      let e : t ≡ suc (t - 1) = omega arith in
      ap (λ (n : ℕ). m.out (cells_after m (unit i) n) c) e
      ∙ ap (λ (s : Row). m.out s c) (struck i (t - q) (t - 1) (omega arith) ∙ ap (λ (j : ℕ). impulse m j (t - q)) channel)
