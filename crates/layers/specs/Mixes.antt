-- The phase shifter: its law, and the words that it goes by.
use Rattle.std.specs.Prelude.{◌≡◌, ℕ, ◌<◌, ◌≤◌, Bool, ◌&&◌, List, [], ◌∷◌, ◌++◌, length, Ok, slice_index}
use Rattle.std.proofs.Common.{ap, ◌∙◌, arith}
use Rattle.std.proofs.lemmas.Bool.Decides.{nat_tests}
use Rattle.std.proofs.Math.Bool.{and-false}
use Rattle.std.specs.Int.Bits.{bit_and}
use Rattle.bits.specs.Rows.{Row, plus, upto, sum_of}
use Rattle.bits.specs.Words.{bit_of, word_of}
use Rattle.bits.proofs.Sums.{ext, and_xor, sum_plus, sum_same, sum_short, upto_at, upto_past}
use Rattle.bits.proofs.Bitwise.{bit_of_and, word_bits}
use Rattle.machine.specs.Linear.{Linear, Superposes, Counted}
use Rattle.lists.specs.declared.short_list.ShortList.{ShortList}
use Rattle.lists.specs.Listed.{listed}
use Rattle.lists.proofs.Lengths.{listed_few}
use Rattle.layers.specs.Shifter.{mixed, set_line, shifter}

mixed_plus : (n : ℕ) (sets : List ℕ) (s t : Row) → mixed n sets (plus s t) ≡ plus (mixed n sets s) (mixed n sets t)
mixed_plus n sets s t =
    ext (λ i. ap (sum_of n) (ext (λ j. and_xor (bit_of (slice_index sets i) j) (s j) (t j)))
    ∙ sum_plus n (λ j. bit_of (slice_index sets i) j && s j) (λ j. bit_of (slice_index sets i) j && t j))

pub superposes : (m : Linear) (sets : List ℕ) → Superposes m → Superposes (shifter m sets)
superposes m sets law = record {
  next_sum = law.next_sum;
  out_sum = λ s t. ap (mixed m.outlets sets) (law.out_sum s t) ∙ mixed_plus m.outlets sets (m.out s) (m.out t);
}

pub counted : (m : Linear) (sets : ShortList ℕ 64) → 1 ≤ length (listed sets) → Counted m → Counted (shifter m (listed sets))
counted m sets some below =
    record { channels_some = below.channels_some; channels_few = below.channels_few; outlets_some = some; outlets_few = listed_few sets }

-- a set of outlets is taken where there is room
pub set_new : (sets : List ℕ) (set : ℕ) → length sets < 64 → 0 < set → set_line sets set ≡ Ok (sets ++ (set ∷ []))
set_new sets set room some = grind (arith, nat_tests)

-- the sum that one set takes of a word
pub sum_and : (set word : ℕ) → sum_of 64 (bit_of (bit_and set word)) ≡ sum_of 64 (λ j. bit_of set j && bit_of word j)
sum_and set word = sum_same 64 _ _ (λ j _. bit_of_and set word j)

-- outlets that are missing below count as 0
pub mixed_below : (sets : List ℕ) (n word : ℕ) (s : Row) → n ≤ 64 → word ≡ word_of n s → mixed 64 sets (bit_of word) ≡ mixed n sets s
mixed_below sets n word s few e =
    ap (λ (w : ℕ). mixed 64 sets (bit_of w)) e ∙ ap (mixed 64 sets) (word_bits n s)
    ∙ ext (λ i.
    sum_short n 64 (λ j. bit_of (slice_index sets i) j && upto n s j)
    (λ j h. ap (λ (b : Bool). bit_of (slice_index sets i) j && b) (upto_past n s j h) ∙ and-false (bit_of (slice_index sets i) j)) few
    ∙ sum_same n _ _ (λ j h. ap (λ (b : Bool). bit_of (slice_index sets i) j && b) (upto_at n s j h)))
