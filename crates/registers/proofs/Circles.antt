-- The words that a shift goes by hold what its definition says.
use Rattle.std.proofs.Common.{◌≡◌, ℕ, zero, suc, ◌-◌, ◌*◌, ◌/◌, ◌%◌, ◌^◌, ◌<◌, ◌≤◌, true, ◌&&◌, eqb, List, [], ◌∷◌, ◌++◌, arith, pow_mono}
use lib.Bits.{bit_and, bit_or, bit_xor}
use mir.Val.{bool_byte}
use Rattle.std.proofs.lemmas.Nat.{shl_whole, or_lt, xor_lt}
use Rattle.std.proofs.lemmas.Bool.Decides.{nat_tests}
use Rattle.std.proofs.lemmas.Grind.{common_steps}
use Rattle.bits.specs.Rows.{Row, xor}
use Rattle.bits.specs.Words.{bit_of, word_of}
use Rattle.bits.proofs.Sums.{xor_false, xor_assoc}
use Rattle.bits.proofs.Bitwise.{bit_first, bit_above, bit_of_or, bit_of_xor, bit_double, bit_double_first, word_is, word_at, word_fits, bit_carried, carried_fits}
use Rattle.registers.specs.declared.Link.{Link}
use Rattle.registers.specs.Registers.{before, galois_turn, ring_turn, linked_into}

-- the cells but the last moved up, and the last as the first
module _ (n lo : ℕ) (s : Row) (some : 2 ≤ n) (few : n ≤ 64) (low : lo ≡ word_of (n - 1) s) where
  moved_is : (lo * 2) % 2 ^ 64 ≡ word_of (n - 1) s * 2
  moved_is = rw low (shl_whole (word_of (n - 1) s) (n - 1) 1 64 (word_fits (n - 1) s) (omega arith))

  circled_at : (i : ℕ) → i < n → bit_of (bit_or ((lo * 2) % 2 ^ 64) (bool_byte (s (n - 1)))) i ≡ s (before n i)
  circled_at zero h = rw (bit_of_or, moved_is, bit_double_first) (grind (arith, nat_tests, bit_first))
  circled_at (suc i) h =
      rw (bit_of_or, moved_is, bit_double)
      (grind (arith, nat_tests, word_at (n - 1) s i, bit_above (bool_byte (s (n - 1))) 1 (suc i)))

  pub circled_is : bit_or ((lo * 2) % 2 ^ 64) (bool_byte (s (n - 1))) ≡ word_of n (λ i. s (before n i))
  circled_is =
      let one : 1 ≤ n = omega arith in
      let two : 2 ≤ 2 ^ n = pow_mono one in
      word_is n _ (λ i. s (before n i)) (or_lt n ((lo * 2) % 2 ^ 64) (bool_byte (s (n - 1))) (rw moved_is (grind (arith, common_steps, word_fits (n - 1) s))) (grind (arith, nat_tests)))
      circled_at

-- the last cell is 1, so it is added to the tapped cells
pub tapped_is : (n moved taps : ℕ) (s : Row) → taps < 2 ^ n → moved ≡ word_of n (λ i. s (before n i)) → true ≡ s (n - 1)
    → bit_xor moved taps ≡ word_of n (galois_turn n (bit_of taps) s)
tapped_is n moved taps s within e last =
    word_is n _ (galois_turn n (bit_of taps) s)
    (xor_lt n moved taps (rw e (word_fits n (λ i. s (before n i)))) within)
    (λ i h. rw (bit_of_xor, e, word_at, ← last) (grind (arith, nat_tests)))

linked_more : (ls : List Link) (l : Link) (s : Row) (i : ℕ) → linked_into (ls ++ (l ∷ [])) s i ≡ xor (linked_into ls s i) (eqb l.to i && s l.from)
linked_more [] l s i = xor_false _
linked_more (x ∷ ls) l s i = grind (arith, nat_tests, linked_more ls l s i)

-- one link more
pub link_more : (n cells moved : ℕ) (ls : List Link) (l : Link) → n ≤ 64 → l.to < n → moved ≡ word_of n (ring_turn n ls (bit_of cells))
    → bit_xor moved ((bit_and (cells / 2 ^ l.from) 1 * 2 ^ l.to) % 2 ^ 64) ≡ word_of n (ring_turn n (ls ++ (l ∷ [])) (bit_of cells))
link_more n cells moved ls l few inside e =
    let s = bit_of cells in
    word_is n _ (ring_turn n (ls ++ (l ∷ [])) s)
    (xor_lt n moved _ (rw e (word_fits n (ring_turn n ls s))) (carried_fits cells l.from l.to n inside few))
    (λ i h. simp (bit_of_xor, e, word_at, bit_carried cells l.from l.to i (omega arith), linked_more, xor_assoc))
