-- A linear machine by its meaning.
use Rattle.std.specs.Prelude.{◌≡◌, ℕ, ◌≤◌}
use Rattle.bits.specs.Words.{bit_of, word_of}
use Rattle.bits.specs.Rows.{Row, zeros, plus, upto}

-- how many cells, channels and outlets there are, what the cells become at a shift, and what the outlets show
pub record Linear : Type 0 where
  pub size : ℕ
  pub channels : ℕ
  pub outlets : ℕ
  -- the cells after a shift, from the cells before it and the injected bits
  pub next : Row → Row → Row
  -- the outlets, from the cells
  pub out : Row → Row

-- superposition: next of sums is the sum of the nexts, and likewise for outlets
pub record Superposes (m : Linear) : Type 0 where
  pub next_sum : (s t i j : Row) → m.next (plus s t) (plus i j) ≡ plus (m.next s i) (m.next t j)
  pub out_sum : (s t : Row) → m.out (plus s t) ≡ plus (m.out s) (m.out t)

-- channels and outlets pass through words: there are 1 to 64 of each
pub record Counted (m : Linear) : Type 0 where
  pub channels_some : 1 ≤ m.channels
  pub channels_few : m.channels ≤ 64
  pub outlets_some : 1 ≤ m.outlets
  pub outlets_few : m.outlets ≤ 64

-- the cells after a shift by a word, of which the low bits count, one a channel
abbrev pub shifted : Linear → Row → ℕ → Row
shifted m s w = m.next s (upto m.channels (bit_of w))

-- the outlets as a word
abbrev pub shown : Linear → Row → ℕ
shown m s = word_of m.outlets (m.out s)

-- a machine as it stands: what it means, and what its cells hold
pub record State : Type 0 where
  pub meaning : Linear
  pub cells : Row

-- every cell is 0
abbrev pub at_reset : Linear → State
at_reset m = record { meaning = m; cells = zeros }
