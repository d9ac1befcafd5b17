-- Which bits a machine's chains have.
use Rattle.std.specs.Prelude.{Bool, not, ◌&&◌, Result, nat_lt}
use Rattle.machine.specs.Linear.{Linear}
use Rattle.refusals.specs.declared.Refusal.{Refusal}
use Rattle.refusals.specs.declared.Refusal.TheVariants.{OutOfRange}
use Rattle.refusals.specs.Chains.{refused_if}
use Rattle.scan.specs.declared.care.CareBit.{CareBit}
use Rattle.scan.specs.declared.frame.Frame.{Frame}

-- its chain is below the outlets, its position below the shift cycles
abbrev pub is_in_range : Linear → Frame → CareBit → Bool
is_in_range m f b = nat_lt b.chain m.outlets && nat_lt b.position f.shifts

abbrev pub in_chains : {X : Type 0} → Linear → Frame → CareBit → Result X Refusal → Result X Refusal
in_chains m f b r = refused_if (not (is_in_range m f b)) OutOfRange r
