-- What the values of this crate stand for.
use Rattle.std.specs.Prelude.{ℕ}
use Rattle.session.specs.declared.counter.EquationCounter.{EquationCounter}
use Rattle.session.specs.declared.table.EquationTable.{EquationTable}
use Rattle.session.specs.Fits.{fitting_at}
use Rattle.session.specs.Sessions.{Session}

-- a table with so many of its equations in force
abbrev pub session_at : EquationTable → ℕ → Session
session_at t n = record { rows = t.rows; written = t.written; frame = (fitting_at t.fit).frame; channels = (fitting_at t.fit).channels; outlets = (fitting_at t.fit).outlets; count = n }

-- a table and a counter
abbrev pub session_of : EquationTable → EquationCounter → Session
session_of t c = session_at t c.count
