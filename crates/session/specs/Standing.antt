-- Bits that stand, and the injections that load them all.
use Rattle.std.specs.Prelude.{ℕ, Bool, true, cond, ◌&&◌, List, [], ◌∷◌, ◌++◌, Ok, Option, Result, ◌==◌, nat_lt}
use Rattle.bits.specs.Lists.{row_of}
use Rattle.equations.specs.Counting.{Test, number, first}
use Rattle.machine.specs.Linear.{Linear}
use Rattle.refusals.specs.declared.Refusal.{Refusal}
use Rattle.refusals.specs.declared.Refusal.TheVariants.{Conflict}
use Rattle.refusals.specs.Chains.{refused_if}
use Rattle.responses.specs.Ranges.{in_chains}
use Rattle.scan.specs.declared.care.CareBit.{CareBit}
use Rattle.scan.specs.declared.frame.Frame.{Frame}
use Rattle.scan.specs.Frames.{variables}
use Rattle.scan.specs.Loads.{loads}

-- an injection, as a list of bits, loads a bit
abbrev pub loading : Linear → Frame → CareBit → Test
loading m f b x = loads m f (row_of x) b

-- it loads each bit of a list
abbrev pub loads_all : Linear → Frame → List CareBit → Test
loads_all m f [] x = true
loads_all m f (b ∷ bs) x = loading m f b x && loads_all m f bs x

-- how many injections load all these bits
abbrev pub ways : Linear → Frame → List CareBit → ℕ
ways m f bits = number (variables m.channels f) (loads_all m f bits)

-- the first of them in dictionary order
abbrev pub first_injection : Linear → Frame → List CareBit → Option (List Bool)
first_injection m f bits = first (variables m.channels f) (loads_all m f bits)

-- the answer to one bit more, by the number of injections without it and with it: a conflict where none is left, and else by how much the free
-- count falls, 1 if there are fewer and 0 if there are as many
abbrev pub weighed : ℕ → ℕ → Result ℕ Refusal
weighed without within = refused_if (within == 0) Conflict (Ok (cond (nat_lt within without) 1 0))

-- the answer to a bit that is proposed while these bits stand
abbrev pub verdict : Linear → Frame → List CareBit → CareBit → Result ℕ Refusal
verdict m f bits b = in_chains m f b (weighed (ways m f bits) (ways m f (bits ++ (b ∷ []))))
