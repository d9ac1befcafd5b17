use Rattle.std.proofs.Common.{◌≡◌}
use Rattle.bits.specs.Words.{bit_of, word_of}
use Rattle.scan.specs.Loads.{moved_up}
use Rattle.scan.specs.Memory.{chains_in, holding}
use Rattle.scan.proofs.chains.move_up.Given as goal

-- so many words have moved up, and the one that the next takes is carried
abbrev pub invariant-loop-word : goal.invariant-loop-word
invariant-loop-word l =
    let moved = moved_up (bit_of l.entering) (chains_in l.fn.words) in
    (l.word-items ≡ holding l.word-index l.chains moved l.fn.words)
    × (l.carried ≡ word_of l.chains (moved l.word-index))
