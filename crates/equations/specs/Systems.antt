-- Equations with leads of their own: what a table of them keeps.
use Rattle.std.specs.Prelude.{◌≡◌, ℕ, ◌<◌, ◌≤◌, Bool, true, false, List, [], take, Some, None, Option, ◌≢◌, nat_lt, slice_index_or}
use Rattle.bits.specs.Rows.{Row}
use Rattle.equations.specs.declared.Equation.{Equation}
use Rattle.equations.specs.Equations.{coefficients_of, holds, solves, lead_of}

-- equation k of a list, and one with no coefficients past its end
abbrev pub row_at : List Equation → ℕ → Equation
row_at rows k = slice_index_or rows k (record { coefficients = []; right = false })

abbrev pub is_below : ℕ → Option ℕ → Bool
is_below n None = false
is_below n (Some v) = nat_lt v n

-- each of the first n equations has a lead, and it is below v
abbrev pub Led : ℕ → List Equation → ℕ → Type 0
Led v rows n = (k : ℕ) → k < n → is_below v (lead_of (row_at rows k)) ≡ true

-- no two of them share a lead
abbrev pub Apart : List Equation → ℕ → Type 0
Apart rows n = (j k : ℕ) → j < k → k < n → lead_of (row_at rows j) ≢ lead_of (row_at rows k)

-- a lead is among the variables with coefficients c
abbrev pub is_among : Option ℕ → Row → Bool
is_among None c = false
is_among (Some v) c = c v

-- none of them has the lead of one before it among its variables
abbrev pub Clear : List Equation → ℕ → Type 0
Clear rows n = (j k : ℕ) → j < k → k < n → is_among (lead_of (row_at rows j)) (coefficients_of (row_at rows k)) ≢ true

-- an equation has no variable from v on
abbrev pub Within : ℕ → Equation → Type 0
Within v e = (i : ℕ) → v ≤ i → i < 256 → coefficients_of e i ≡ false

-- none of the leads of the first n rows is among its variables
abbrev pub ClearOf : List Equation → ℕ → Equation → Type 0
ClearOf rows n e = (k v : ℕ) → k < n → lead_of (row_at rows k) ≡ Some v → coefficients_of e v ≡ false

-- r is e reduced by the first n of some rows over v variables
pub record Reduced (v : ℕ) (rows : List Equation) (n : ℕ) (e r : Equation) : Type 0 where
  -- of a row that solves those equations it says what e says
  pub same : (x : Row) → solves (take n rows) x ≡ true → holds r x ≡ holds e x
  -- none of their leads is among its variables
  pub clear : ClearOf rows n r
  -- it has no variable from v on if e has none
  pub within : Within v e → Within v r
