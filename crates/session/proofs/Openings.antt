-- What the free count of a table says.
use Rattle.std.proofs.Common.{ℕ, arith}
use Rattle.equations.proofs.Solved.{system_number}
use Rattle.scan.specs.Frames.{variables}
use Rattle.session.specs.declared.table.EquationTable.{EquationTable}
use Rattle.session.specs.Fits.{fitting_at}
use Rattle.session.specs.Sessions.{Halved}
use Rattle.session.specs.Views.{session_at}

module _ (t : EquationTable) (n : ℕ) where
  -- what a table keeps makes each equation in force count
  pub halved : Halved (session_at t n)
  halved up =
      let long = t.long in
      let room = t.room in
      system_number (variables (fitting_at t.fit).channels (fitting_at t.fit).frame) t.rows n (omega arith) (λ k h. t.led k (omega arith)) (λ j k l h. t.apart j k l (omega arith))
