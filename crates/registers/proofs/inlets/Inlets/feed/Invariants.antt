use Rattle.std.proofs.Common.{◌≡◌, ◌^◌, ◌<◌, length}
use Rattle.bits.specs.Rows.{plus}
use Rattle.bits.specs.Words.{bit_of}
use Rattle.registers.specs.Registers.{fed}
use Rattle.registers.specs.Views.{inlets_read}
use Rattle.registers.proofs.inlets.Inlets.feed.Given as goal

-- what is put in so far and what the rest of the word feeds are together what the word feeds
abbrev pub invariant-loop-rest : goal.invariant-loop-rest
invariant-loop-rest l = record {
  low : l.rest < 2 ^ length (inlets_read l.self).into;
  fits : l.fill < 2 ^ l.self.size.cells;
  together : plus (bit_of l.fill) (fed (inlets_read l.self).into (bit_of l.rest)) ≡ fed (inlets_read l.self).into (bit_of l.word);
}

abbrev pub decreases-loop-rest : goal.decreases-loop-rest
decreases-loop-rest l = l.rest
