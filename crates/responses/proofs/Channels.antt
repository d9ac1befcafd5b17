-- The responses of the channels, one channel after another.
use Rattle.std.proofs.Common.{◌≡◌, ℕ, ◌+◌, ◌*◌, ◌%◌, ◌≤◌, Bool, ◌&&◌, ◌||◌, eqb, ltb, List, sym, ap, ◌∙◌, inl, inr, arith}
use Rattle.std.proofs.lemmas.Nat.{mod_below}
use Rattle.std.proofs.lemmas.Bool.{cases_lt, lt-ltb, and_right}
use Rattle.std.proofs.lemmas.Bool.Decides.{nat_tests}
use Rattle.bits.specs.Rows.{Row}
use Rattle.bits.proofs.Sums.{ext, upto_at, upto_past}
use Rattle.equations.specs.Equations.{words_row}
use Rattle.machine.specs.Linear.{Linear, Superposes}
use Rattle.responses.specs.Responses.{response, responded}
use Rattle.responses.proofs.Impulses.{response_past}

-- the responses of the channels below k
abbrev pub below : Linear → ℕ → ℕ → ℕ → Row
below m k t c i = ltb (i % m.channels) k && response m t c i

-- of one channel more
pub channel_more : (m : Linear) (law : Superposes m) (k t c : ℕ) (words more : List ℕ) → 1 ≤ m.channels → m.channels * t ≤ 256
    → words_row words ≡ below m k t c → words_row more ≡ responded m k t c (words_row words) → words_row more ≡ below m (k + 1) t c
channel_more m law k t c words more some short so_far set = ext (λ i. ap (λ (r : Row). r i) set ∙ elim (cases_lt i 256) [
  | inl few ↦ upto_at 256 (λ j. words_row words j || (eqb (j % m.channels) k && response m t c j)) i few
      ∙ ap (λ (r : Row). r i || (eqb (i % m.channels) k && response m t c i)) so_far
      ∙ joined (ltb (i % m.channels) k) (eqb (i % m.channels) k) (response m t c i)
      ∙ ap (λ (b : Bool). b && response m t c i) (reach (i % m.channels))
  | inr past ↦ upto_past 256 (λ j. words_row words j || (eqb (j % m.channels) k && response m t c j)) i past
      ∙ sym (and_right (ltb (i % m.channels) (k + 1)) (response m t c i) (response_past m law t c i some (omega arith)))
])
  where
    joined : (a b r : Bool) → ((a && r) || (b && r)) ≡ ((a || b) && r)
    joined a b r = grind arith

    reach : (j : ℕ) → (ltb j k || eqb j k) ≡ ltb j (k + 1)
    reach j = grind (arith, nat_tests)

-- of all channels
pub below_all : (m : Linear) (t c : ℕ) → 1 ≤ m.channels → below m m.channels t c ≡ response m t c
below_all m t c some =
    ext (λ i. ap (λ (b : Bool). b && response m t c i) (lt-ltb (i % m.channels) m.channels (mod_below i m.channels some)))
