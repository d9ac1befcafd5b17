-- What the values of this crate stand for.
use Rattle.std.specs.Prelude.{ℕ, List}
use Rattle.bits.specs.Rows.{Row}
use Rattle.bits.specs.Words.{bit_of}
use Rattle.lists.specs.Listed.{listed}
use Rattle.layers.specs.declared.delay.Delay.{Delay}
use Rattle.layers.specs.declared.sets.OutletSets.{OutletSets}
use Rattle.layers.specs.declared.shifter.PhaseShifter.{PhaseShifter}

-- the words of the sets, in the order in which they were added
abbrev pub sets_read : OutletSets → List ℕ
sets_read t = listed t.words

-- the machine below, and the sets
abbrev pub shifter_parts : {M : Type 0} → PhaseShifter M → M × List ℕ
shifter_parts p = (p.below, sets_read p.sets)

-- the machine below, and the cells of the delay itself
abbrev pub delay_parts : {M : Type 0} → Delay M → M × Row
delay_parts d = (d.below, bit_of d.kept)
