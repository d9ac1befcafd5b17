-- The registers superpose, and their shift is the one of their meaning.
use Rattle.std.specs.Prelude.{◌≡◌, ℕ, ◌^◌, ◌<◌, ◌≤◌, List, [], ◌∷◌, length, bit_xor, refl}
use Rattle.std.proofs.Common.{sym, ap, ap₂, ◌∙◌, subst, arith}
use Rattle.std.proofs.lemmas.Bool.Decides.{nat_tests}
use Rattle.std.proofs.lemmas.Nat.{xor_lt}
use Rattle.bits.specs.Rows.{Row, xor, plus, upto}
use Rattle.bits.specs.Words.{bit_of, word_of}
use Rattle.bits.proofs.Sums.{ext}
use Rattle.bits.proofs.Bitwise.{word_bits, word_fits, word_plus}
use Rattle.machine.specs.Linear.{Superposes, Counted}
use Rattle.registers.specs.declared.Link.{Link}
use Rattle.registers.specs.Registers.{fed, register, galois_turn, linked_into, ring_turn}
use Rattle.registers.specs.Feeds.{fed_plus, fed_upto}

pub galois_plus : (n : ℕ) (tapped s t : Row) → galois_turn n tapped (plus s t) ≡ plus (galois_turn n tapped s) (galois_turn n tapped t)
galois_plus n tapped s t = ext (λ i. grind (arith, nat_tests))

linked_plus : (ls : List Link) (s t : Row) (i : ℕ) → linked_into ls (plus s t) i ≡ xor (linked_into ls s i) (linked_into ls t i)
linked_plus [] s t i = refl
linked_plus (l ∷ ls) s t i = grind (arith, nat_tests, linked_plus ls s t i)

pub ring_plus : (n : ℕ) (ls : List Link) (s t : Row) → ring_turn n ls (plus s t) ≡ plus (ring_turn n ls s) (ring_turn n ls t)
ring_plus n ls s t = ext (λ i. rw linked_plus (grind (arith, nat_tests)))

-- a register whose turn keeps sums superposes
pub superposes : (n : ℕ) (into : List ℕ) (turn : Row → Row) → ((s t : Row) → turn (plus s t) ≡ plus (turn s) (turn t)) → Superposes (register n into turn)
superposes n into turn additive = record {
  next_sum = λ s t i j. simp (additive, fed_plus) (ext (λ c. grind (arith, nat_tests)));
  out_sum = λ s t. refl;
}

-- its counts are those of its parts
pub counted : (n : ℕ) (into : List ℕ) (turn : Row → Row) → 2 ≤ n → n ≤ 64 → 1 ≤ length into → length into ≤ 64 → Counted (register n into turn)
counted n into turn some few one room = record { channels_some = one; channels_few = room; outlets_some = omega arith; outlets_few = few }

-- the word of the turned cells and that of the injected bits, summed
module _ (n m word a b : ℕ) (into : List ℕ) (turn : Row → Row) (s : Row) (alike : n ≡ m) (turned : a ≡ word_of n (turn s)) (given : b ≡ word_of m (fed into (bit_of word))) where
  injected : b ≡ word_of n (fed into (bit_of word))
  injected = given ∙ ap (λ (k : ℕ). word_of k (fed into (bit_of word))) (sym alike)

  pub shifted_fits : bit_xor a b < 2 ^ n
  shifted_fits =
      xor_lt n a b (subst (λ (x : ℕ). x < 2 ^ n) (sym turned) (word_fits n (turn s))) (subst (λ (x : ℕ). x < 2 ^ n) (sym injected) (word_fits n (fed into (bit_of word))))

  pub shifted_is : bit_of (bit_xor a b) ≡ (register n into turn).next s (upto (length into) (bit_of word))
  shifted_is =
      ap₂ (λ (x y : ℕ). bit_of (bit_xor x y)) turned injected
      ∙ ap bit_of (word_plus n (turn s) (fed into (bit_of word)))
      ∙ word_bits n (plus (turn s) (fed into (bit_of word)))
      ∙ ap (λ (r : Row). upto n (plus (turn s) r)) (sym (fed_upto into (bit_of word)))
