-- The responses of one channel, set one by one as its impulse goes through the machine.
use Rattle.std.proofs.Common.{◌≡◌, ℕ, suc, ◌-◌, ◌*◌, ◌/◌, ◌%◌, ◌^◌, ◌<◌, ◌≤◌, Bool, false, ◌&&◌, ◌||◌, eqb, leb, List, sym, ap, ◌∙◌, ap₂, arith}
use mathlib.Core.Bool.{or_assoc, or-false}
use Rattle.std.proofs.lemmas.Nat.{mul-add-lt}
use Rattle.std.proofs.lemmas.Bool.Decides.{nat_tests}
use Rattle.bits.specs.Rows.{Row, zeros, upto}
use Rattle.bits.specs.Words.{bit_of}
use Rattle.bits.proofs.Bitwise.{bit_zero, bit_shifted_one, word_at}
use Rattle.bits.proofs.Sums.{upto_at, upto_same}
use Rattle.equations.specs.Equations.{words_row, unit}
use Rattle.machine.specs.Linear.{Linear, Superposes, Counted, shifted, shown}
use Rattle.scan.specs.Frames.{place_of}
use Rattle.responses.specs.Responses.{response}
use Rattle.responses.proofs.Superposition.{upto_zeros}
use Rattle.responses.proofs.Impulses.{impulse, place_test, response_late, response_at}

-- the impulse enters as the word with the one bit k ..
pub impulse_enters : (m : Linear) → Counted m → (s : Row) (k : ℕ) → s ≡ zeros → k < m.channels
    → shifted m s ((1 * 2 ^ k) % 2 ^ 64) ≡ impulse m k 0
impulse_enters m counts s k e h =
    let few = counts.channels_few in
    ap₂ m.next e (upto_same m.channels (bit_of ((1 * 2 ^ k) % 2 ^ 64)) (unit k) (λ i _. bit_shifted_one k i (omega arith)))

-- .. and words of noughts follow it
pub impulse_goes_on : (m : Linear) (s : Row) (k t q : ℕ) → 0 < q → q ≤ t → s ≡ impulse m k (t - q) → shifted m s 0 ≡ impulse m k (t - (q - 1))
impulse_goes_on m s k t q begun l e =
    let next : suc (t - q) ≡ t - (q - 1) = omega arith in
    ap₂ m.next e (ap (upto m.channels) bit_zero ∙ upto_zeros m.channels) ∙ ap (impulse m k) next

-- at one place a row may be read at either name of it
same_place : (p i : ℕ) (s : Row) → (eqb p i && s p) ≡ (eqb p i && s i)
same_place p i s = grind (arith, nat_tests)

-- the responses of channel k to what it takes from cycle `from` + 1 on, as outlet c shows them after t cycles
abbrev pub since : Linear → ℕ → ℕ → ℕ → ℕ → Row
since m k t c from i = (eqb (i % m.channels) k && leb from (i / m.channels)) && response m t c i

-- words that hold, beside what was there, the responses from a cycle on
abbrev pub Holds : Linear → ℕ → ℕ → ℕ → Row → List ℕ → ℕ → Type 0
Holds m k t c old words from = (i : ℕ) → i < 256 → words_row words i ≡ (old i || since m k t c from i)

-- the places of all cycles are below 256
pub place_within : (k t d c : ℕ) → c < k → d < t → k * t ≤ 256 → place_of k (t - d) c < 256
place_within k t d c h l short = let p = mul-add-lt (t - d - 1) k c t (omega arith) h in omega arith

module _ (m : Linear) (law : Superposes m) (k t c : ℕ) where
  -- nothing is taken after the last cycle
  none_yet : (i : ℕ) → since m k t c t i ≡ false
  none_yet i = grind (arith, nat_tests, response_late m law t c i)

  -- the outlet shows the response of one cycle before
  one_more : (q i : ℕ) → k < m.channels → 0 < q → q ≤ t
      → (since m k t c q i || (eqb (place_of m.channels q k) i && m.out (impulse m k (t - q)) c)) ≡ since m k t c (q - 1) i
  one_more q i h begun l =
      grind (arith, nat_tests, response_at m law t c k q h begun l, place_test m.channels i (q - 1) k h, same_place (place_of m.channels q k) i (response m t c))

  -- at first only what was there
  pub holds_none : (words : List ℕ) → Holds m k t c (words_row words) words t
  holds_none words i l = sym (ap (λ (b : Bool). words_row words i || b) (none_yet i) ∙ or-false (words_row words i))

  -- one place more is set, by what is read of the outlets
  pub holds_more : (old : Row) (words more : List ℕ) (q p : ℕ) (s : Row) (b : Bool) → k < m.channels → c < m.outlets → 0 < q → q ≤ t
      → Holds m k t c old words q → p ≡ place_of m.channels q k → s ≡ impulse m k (t - q) → b ≡ bit_of (shown m s) c
      → words_row more ≡ upto 256 (λ i. words_row words i || (eqb p i && b)) → Holds m k t c old more (q - 1)
  holds_more old words more q p s b h below begun l so_far place cells bit set i few =
      let read : b ≡ m.out (impulse m k (t - q)) c = bit ∙ word_at m.outlets (m.out s) c below ∙ ap (λ (u : Row). m.out u c) cells in
      ap (λ (r : Row). r i) set ∙ upto_at 256 (λ j. words_row words j || (eqb p j && b)) i few
      ∙ ap₂ (λ (u v : Bool). u || v) (so_far i few) (ap₂ (λ (n : ℕ) (v : Bool). eqb n i && v) place read)
      ∙ or_assoc (old i) (since m k t c q i) _
      ∙ ap (λ (v : Bool). old i || v) (one_more q i h begun l)
