-- What an injection loads into the scan chains.
use Rattle.std.specs.Prelude.{◌≡◌, ℕ, zero, suc, ◌-◌, ◌<◌, Bool, cond, nat_lt}
use Rattle.std.specs.Bool.{beq}
use Rattle.bits.specs.Rows.{Row, zeros}
use Rattle.machine.specs.Linear.{Linear}
use Rattle.scan.specs.declared.care.CareBit.{CareBit}
use Rattle.scan.specs.declared.frame.Frame.{Frame}
use Rattle.scan.specs.Frames.{cycles, taken}

-- the cells after t cycles from reset
abbrev pub cells_after : Linear → Row → ℕ → Row
cells_after m x zero = zeros
cells_after m x (suc t) = m.next (cells_after m x t) (taken m.channels x (suc t))

-- what the chains hold: for each position a row, with the bit of chain c at place c
abbrev pub Chains : Type 0
Chains = ℕ → Row

abbrev pub empty : Chains
empty p = zeros

-- every chain moves up one position and takes its bit of the row into position 0
abbrev pub moved_up : Row → Chains → Chains
moved_up entering h zero = entering
moved_up entering h (suc p) = h p

-- the chains after t cycles: after the shift of each cycle above the warm-up they move up and take the outlets
abbrev pub chains_after : Linear → Frame → Row → ℕ → Chains
chains_after m f x zero = empty
chains_after m f x (suc t) =
    cond (nat_lt f.warmup (suc t)) (moved_up (m.out (cells_after m x (suc t))) (chains_after m f x t)) (chains_after m f x t)

-- the load of an injection: the chains after all cycles of the frame
abbrev pub load : Linear → Frame → Row → Chains
load m f x = chains_after m f x (cycles f)

-- an injection loads a bit if that position of that chain ends with that value
abbrev pub loads : Linear → Frame → Row → CareBit → Bool
loads m f x b = beq (load m f x b.position b.chain) b.value

-- a bit of the machine's chains: its chain is below the outlets, its position below the shift cycles
pub record InRange (m : Linear) (f : Frame) (b : CareBit) : Type 0 where
  pub chain_below : b.chain < m.outlets
  pub position_below : b.position < f.shifts

-- the law above the process: position p ends with the outlets of cycle N − p
abbrev pub PositionEndsWithItsOutlet : Linear → Frame → Type 0
PositionEndsWithItsOutlet m f = (x : Row) (p : ℕ) → p < f.shifts → load m f x p ≡ m.out (cells_after m x (cycles f - p))
