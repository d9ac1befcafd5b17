use Rattle.std.proofs.Common.{rules}
use Rattle.registers.proofs.Circles.{tapped_is}
use Rattle.registers.proofs.taps.turn.TapsTurns.turn.Goals as goal

pub returns-then-last : goal.returns-then-last
returns-then-last c = search (rules, tapped_is)
