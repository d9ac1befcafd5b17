-- The equations in force, as a table lends them.
use Rattle.std.specs.Prelude.{◌≡◌, ℕ, ◌<◌, ◌≤◌, take, Ok, Err, Result}
use Rattle.refusals.specs.declared.Refusal.{Refusal}
use Rattle.refusals.specs.declared.Refusal.TheVariants.{CounterAhead}
use Rattle.session.specs.declared.in_force.InForce.{InForce}
use Rattle.session.specs.declared.table.EquationTable.{EquationTable}
use Rattle.session.specs.Sessions.{size}
use Rattle.session.specs.Views.{session_at}

-- the first n equations of a table are lent, or refused if fewer are written
abbrev pub Lent : EquationTable → ℕ → Result InForce Refusal → Type 0
Lent t n (Ok l) = (n ≤ t.written) × (l.rows.now ≡ take n t.rows) × (l.variables ≡ size (session_at t n))
Lent t n (Err e) = (t.written < n) × (e ≡ CounterAhead)
