use Rattle.std.proofs.Common.{◌≡◌}
use Rattle.bits.specs.Words.{bit_of, word_of}
use Rattle.layers.specs.Shifter.{mixed}
use Rattle.layers.specs.Views.{sets_read}
use Rattle.layers.proofs.sets.OutletSets.mix.Given as goal

-- the outlets so far are in
abbrev pub invariant-loop-k : goal.invariant-loop-k
invariant-loop-k l = l.mixture ≡ word_of l.k (mixed 64 (sets_read l.self) (bit_of l.word))
