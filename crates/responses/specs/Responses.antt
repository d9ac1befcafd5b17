-- What a position of a chain has to do with each injected bit.
use Rattle.std.specs.Prelude.{◌≡◌, ℕ, ◌%◌, ◌≤◌, Bool, false, ◌&&◌, ◌||◌, List, length, ◌==◌}
use Rattle.bits.specs.Lists.{row_of}
use Rattle.bits.specs.Rows.{Row, xor, zeros, plus, upto}
use Rattle.equations.specs.declared.Equation.{Equation}
use Rattle.equations.specs.Equations.{coefficients_of, holds, unit}
use Rattle.machine.specs.Linear.{Linear}
use Rattle.scan.specs.declared.care.CareBit.{CareBit}
use Rattle.scan.specs.declared.frame.Frame.{Frame}
use Rattle.scan.specs.Frames.{variables}
use Rattle.scan.specs.Loads.{cells_after, load, loads}

-- the response of outlet c after t cycles to each injected bit: at place i, what it shows if bit i alone is injected
abbrev pub response : Linear → ℕ → ℕ → Row
response m t c i = m.out (cells_after m (unit i) t) c

-- coefficients to which the responses of channel k are added
abbrev pub responded : Linear → ℕ → ℕ → ℕ → Row → Row
responded m k t c old = upto 256 (λ i. old i || (i % m.channels == k && response m t c i))

-- an equation over the bits of an injection that says that a care bit is loaded
pub record EquationOf (m : Linear) (f : Frame) (b : CareBit) (e : Equation) : Type 0 where
  -- a coefficient is 1 exactly when flipping that injected bit alone flips the position
  pub flips : (x : Row) (i : ℕ)
      → load m f (plus x (unit i)) b.position b.chain ≡ xor (load m f x b.position b.chain) (coefficients_of e i)
  -- the right side is what is left for the coefficients to make up: the value, less what zeros load
  pub right : e.right ≡ xor b.value (load m f zeros b.position b.chain)
  -- no variable comes after the bits of an injection
  pub past : (i : ℕ) → variables m.channels f ≤ i → coefficients_of e i ≡ false
  -- so it holds of an injection exactly if the injection loads the bit
  pub told : (x : List Bool) → length x ≤ 256 → holds e (row_of x) ≡ loads m f (row_of x) b
