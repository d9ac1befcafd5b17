-- What an equation adds to others.
use Rattle.std.specs.Prelude.{◌≡◌, ℕ, Bool, true, false, List, length, Some, None, Option, Ok, Err, Result}
use Rattle.bits.specs.Lists.{row_of}
use Rattle.equations.specs.declared.Equation.{Equation}
use Rattle.equations.specs.Equations.{holds, solutions, lead_of}
use Rattle.equations.specs.Systems.{is_below, Reduced}
use Rattle.refusals.specs.declared.Refusal.{Refusal}
use Rattle.refusals.specs.declared.Refusal.TheVariants.{Conflict}

-- to equations over v variables another one adds nothing, since their solutions solve it too, or itself, reduced to a lead of its own, or it is
-- refused, since no solution of theirs solves it
abbrev pub Judged : ℕ → List Equation → Equation → Result (Option Equation) Refusal → Type 0
Judged v rows e (Ok None) = (x : List Bool) → length x ≡ v → solutions rows x ≡ true → holds e (row_of x) ≡ true
Judged v rows e (Ok (Some r)) = Reduced v rows (length rows) e r × (is_below v (lead_of r) ≡ true)
Judged v rows e (Err x) = (x ≡ Conflict) × ((x : List Bool) → length x ≡ v → solutions rows x ≡ true → holds e (row_of x) ≡ false)
