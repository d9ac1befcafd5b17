-- Which equation a variable leads.
use Rattle.std.specs.Prelude.{◌≡◌, ℕ, ◌<◌, List, Some, None, Option, MatchOption, ◌≢◌, ◌&&◌, ◌||◌, ◌==◌, slice_index_or}
use Rattle.std.specs.Borrow.{Bor}
use Rattle.bits.specs.Rows.{xor, upto}
use Rattle.equations.specs.declared.Equation.{Equation}
use Rattle.equations.specs.Equations.{coefficients_of, dot, lead_of, words_row}
use Rattle.equations.specs.Systems.{row_at}

-- none of the first n rows has that lead
abbrev pub NoneLed : List Equation → ℕ → ℕ → Type 0
NoneLed rows n v = (k : ℕ) → k < n → lead_of (row_at rows k) ≢ Some v

-- an equation is one of the first n rows, and has that lead
pub record IsLeader (rows : List Equation) (n v : ℕ) (e : Equation) : Type 0 where
  pub place : ℕ
  pub within : place < n
  pub is : e ≡ row_at rows place
  pub leads : lead_of (row_at rows place) ≡ Some v

-- a list that has, for each of 256 variables, one of the first n rows that it leads, and None if there is none
abbrev pub Leaders : List Equation → ℕ → List (Option (Bor Equation)) → Type 0
Leaders rows n leaders = (v : ℕ) → v < 256 → MatchOption (slice_index_or leaders v None) (NoneLed rows n v) (λ e. IsLeader rows n v e.now)

-- words b are words a with bit v, if v leads an equation, as that tells it to be by the bits of a; else they are words a
unfoldable pub Told : List ℕ → ℕ → Option (Bor Equation) → List ℕ → Type 0
Told a v leader b =
    MatchOption leader (b ≡ a) (λ e. words_row b ≡ upto 256 (λ i. words_row a i || (v == i && xor e.now.right (dot (coefficients_of e.now) (words_row a)))))
