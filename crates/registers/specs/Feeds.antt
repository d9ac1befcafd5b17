-- What a word feeds: it is additive, and is walked bit by bit.
use Rattle.std.specs.Prelude.{◌≡◌, ℕ, ◌*◌, ◌%◌, ◌^◌, ◌<◌, List, length, ◌==◌, bit_xor, nat_eq, slice_index}
use Rattle.std.proofs.Common.{sym, ap, ap₂, ◌∙◌}
use Rattle.std.proofs.Math.Bool.{and-false}
use Rattle.std.proofs.lemmas.Nat.{one_shl}
use Rattle.bits.specs.Rows.{Row, zeros, plus, upto}
use Rattle.bits.specs.Words.{bit_of, word_of}
use Rattle.bits.proofs.Sums.{ext, and_xor, plus_self, plus_zeros, xor_swap, sum_plus, sum_same, sum_none, sum_at, upto_at}
use Rattle.bits.proofs.Bitwise.{bit_zero, bits_clear, word_bits, word_is}
use Rattle.registers.specs.Registers.{fed}

pub fed_plus : (into : List ℕ) (j k : Row) → fed into (plus j k) ≡ plus (fed into j) (fed into k)
fed_plus into j k = ext (λ i. simp (and_xor, sum_plus))

-- bits past the channels feed nothing
pub fed_upto : (into : List ℕ) (j : Row) → fed into (upto (length into) j) ≡ fed into j
fed_upto into j = ext (λ i. sum_same (length into) _ _ (λ k h. rw upto_at))

pub fed_zeros : (into : List ℕ) → fed into zeros ≡ zeros
fed_zeros into = ext (λ i. sum_none (length into) _ (λ k h. and-false (slice_index into k == i)))

-- one channel feeds its cell
pub fed_one : (into : List ℕ) (k : ℕ) → k < length into → fed into (λ c. nat_eq k c) ≡ (λ i. nat_eq (slice_index into k) i)
fed_one into k h = ext (λ i. sum_at (length into) k (λ c. nat_eq (slice_index into c) i) h)

-- one bit flips
pub bits_flip : (w p : ℕ) → p < 64 → bit_of (bit_xor w ((1 * 2 ^ p) % 2 ^ 64)) ≡ plus (bit_of w) (λ i. nat_eq p i)
bits_flip w p h = rw one_shl (bits_clear w p)

plus_swap : (a b e : Row) → plus (plus a e) (plus b e) ≡ plus a b
plus_swap a b e = ext (λ i. xor_swap (a i) (e i) (b i) (e i)) ∙ ap (plus (plus a b)) (plus_self e) ∙ plus_zeros (plus a b)

-- the walk begins with the low bits of the word
pub walk_begins : (into : List ℕ) (word rest n : ℕ) → length into ≡ n → rest ≡ word_of n (bit_of word)
    → plus (bit_of 0) (fed into (bit_of rest)) ≡ fed into (bit_of word)
walk_begins into word rest n e low =
    ap (λ (s : Row). plus s (fed into (bit_of rest))) bit_zero
    ∙ ap (λ (x : ℕ). fed into (bit_of x)) low
    ∙ ap (fed into) (word_bits n (bit_of word))
    ∙ ap (λ (m : ℕ). fed into (upto m (bit_of word))) (sym e)
    ∙ fed_upto into (bit_of word)

-- one set bit of the rest is fed, and taken away from the rest
pub walk_more : (into : List ℕ) (fill rest k c : ℕ) → k < length into → k < 64 → c ≡ slice_index into k → c < 64
    → plus (bit_of (bit_xor fill ((1 * 2 ^ c) % 2 ^ 64))) (fed into (bit_of (bit_xor rest ((1 * 2 ^ k) % 2 ^ 64)))) ≡ plus (bit_of fill) (fed into (bit_of rest))
walk_more into fill rest k c h few e low =
    ap₂ plus (bits_flip fill c low)
    (ap (fed into) (bits_flip rest k few) ∙ fed_plus into (bit_of rest) (λ i. nat_eq k i)
    ∙ ap (plus (fed into (bit_of rest))) (fed_one into k h ∙ ap {B = Row} nat_eq (sym e)))
    ∙ plus_swap (bit_of fill) (fed into (bit_of rest)) (λ i. nat_eq c i)

-- the walk ends when nothing is left
pub walk_ends : (into : List ℕ) (fill rest word n : ℕ) → fill < 2 ^ n → rest ≡ 0 → plus (bit_of fill) (fed into (bit_of rest)) ≡ fed into (bit_of word)
    → fill ≡ word_of n (fed into (bit_of word))
walk_ends into fill rest word n fits e inv =
    let left : fed into (bit_of rest) ≡ zeros = ap (λ (x : ℕ). fed into (bit_of x)) e ∙ ap (fed into) bit_zero ∙ fed_zeros into in
    let same : bit_of fill ≡ fed into (bit_of word) = sym (ap (plus (bit_of fill)) left ∙ plus_zeros (bit_of fill)) ∙ inv in
    word_is n fill (fed into (bit_of word)) fits (λ i _. ap (λ (s : Row). s i) same)
