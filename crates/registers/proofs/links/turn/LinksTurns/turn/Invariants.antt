use Rattle.std.proofs.Common.{◌≡◌, take}
use Rattle.bits.specs.Words.{bit_of, word_of}
use Rattle.lists.specs.Listed.{listed}
use Rattle.registers.specs.Registers.{ring_turn}
use Rattle.registers.proofs.links.turn.LinksTurns.turn.Given as goal

-- the links so far are in
abbrev pub invariant-loop-link : goal.invariant-loop-link
invariant-loop-link l = l.moved ≡ word_of l.self.size.cells (ring_turn l.self.size.cells (take l.link-index (listed l.self.links)) (bit_of l.cells))
