-- A test run while it loads: start, shift, close.
use Rattle.std.specs.Prelude.{ℕ, ◌+◌, cond, not, List, length, Ok, Result, nat_le, nat_lt}
use Rattle.bits.specs.Rows.{Row, zeros}
use Rattle.machine.specs.Linear.{Linear, shifted}
use Rattle.refusals.specs.declared.Refusal.{Refusal}
use Rattle.refusals.specs.declared.Refusal.TheVariants.{OutOfRange, NoCycleLeft, CyclesLeft}
use Rattle.refusals.specs.declared.handed_back.HandedBack.{HandedBack}
use Rattle.refusals.specs.Chains.{refused_if, ok_map, left_by}
use Rattle.scan.specs.declared.frame.Frame.{Frame}
use Rattle.scan.specs.declared.response.Loaded.{Loaded}
use Rattle.scan.specs.Fits.{Fitting, fitting, suited}
use Rattle.scan.specs.Frames.{cycles, in_limits, in_span}
use Rattle.scan.specs.Loads.{empty, moved_up}
use Rattle.scan.specs.Memory.{chains_in, holding, in_memory}

-- what the calls of a run touch: the cells of the machine, and the chain memory
pub record Bench : Type 0 where
  pub cells : Row
  pub memory : List ℕ

abbrev pub bench : Row → List ℕ → Bench
bench s memory = record { cells = s; memory = memory }

-- what a call leaves of the bench that it found: one that refuses leaves it as it was
abbrev pub bench_after : {X : Type 0} → Bench → Result (X × Bench) Refusal → Bench
bench_after found outcome = left_by found (ok_map (λ o. o.1) outcome)

-- what a call answers
abbrev pub answered : {X : Type 0} → Result (X × Bench) Refusal → Result X Refusal
answered outcome = ok_map (λ o. o.0) outcome

-- a run that loads: its frame with the channels and outlets of the machine that it was started with, and the cycles done
pub record Run : Type 0 where
  pub fitting : Fitting
  pub done : ℕ

-- the run of a frame on a machine after t cycles
abbrev pub run_at : Linear → Frame → ℕ → Run
run_at m f t = record { fitting = fitting m f; done = t }

-- a run beside the bench that it is run on
abbrev pub underway : Run → Row → List ℕ → Run × Bench
underway r s memory = (r, bench s memory)

-- starting resets the machine and empties the chains
abbrev pub starting : Linear → Frame → Bench → Result (Run × Bench) Refusal
starting m f b =
    in_limits f (in_span m.channels f (in_memory f.shifts (length b.memory)
    (Ok (run_at m f 0, bench zeros (holding f.shifts m.outlets empty b.memory)))))

-- the run with one cycle more done
abbrev pub one_more : Run → Run
one_more r = record { fitting = r.fitting; done = r.done + 1 }

-- the memory after the shift of a cycle that made the cells s: in a cycle above the warm-up the chains move up and take the outlets
abbrev pub memory_after : Linear → Run → Row → List ℕ → List ℕ
memory_after m r s memory =
    let f = r.fitting.frame in
    cond (nat_lt f.warmup (r.done + 1)) (holding f.shifts r.fitting.outlets (moved_up (m.out s) (chains_in memory)) memory) memory

-- one cycle, in which the channels take the bits of a word
abbrev pub cycled : Linear → ℕ → Run → Bench → Bench
cycled m word r b = bench (shifted m b.cells word) (memory_after m r (shifted m b.cells word) b.memory)

-- shifting: one cycle more of a run that has one left, on a machine like the one at the start
abbrev pub shifting : Linear → Run × Bench → ℕ → Result (Run × Bench) Refusal
shifting m o word =
    let r = o.0 in
    let b = o.1 in
    refused_if (not (suited m r.fitting)) OutOfRange (in_memory r.fitting.frame.shifts (length b.memory)
    (refused_if (nat_le (cycles r.fitting.frame) r.done) NoCycleLeft (Ok (one_more r, cycled m word r b))))

-- closing, once all cycles are done; a refusal hands the run back
abbrev pub closing : Run → Result Loaded (HandedBack Run)
closing r =
    refused_if (nat_lt r.done (cycles r.fitting.frame)) (record { value = r; refusal = CyclesLeft })
    (Ok (record { positions = r.fitting.frame.shifts; chains = r.fitting.outlets }))
