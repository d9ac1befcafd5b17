-- Replaying a pattern, and the laws of whole runs.
use Rattle.std.specs.Prelude.{◌≡◌, ℕ, suc, ◌<◌, ◌≤◌, true, not, List, length, take, Ok, Result, ◌==◌, slice_index}
use Rattle.std.specs.Bool.{beq}
use Rattle.std.specs.Result.{result_map_both}
use Rattle.bits.specs.Rows.{Row, upto}
use Rattle.bits.specs.Words.{bit_of}
use Rattle.bits.specs.Digits.{all_digits, digit_row}
use Rattle.machine.specs.Linear.{Linear}
use Rattle.refusals.specs.declared.Refusal.{Refusal}
use Rattle.refusals.specs.declared.Refusal.TheVariants.{OutOfRange, MalformedField}
use Rattle.refusals.specs.Chains.{refused_if, and_then, ok_map, reading}
use Rattle.scan.specs.declared.care.CareBit.{CareBit}
use Rattle.scan.specs.declared.frame.Frame.{Frame}
use Rattle.scan.specs.declared.response.Loaded.{Loaded}
use Rattle.scan.specs.Frames.{cycles, variables, taken, in_limits, in_span}
use Rattle.scan.specs.Loads.{cells_after, load, loads, InRange}
use Rattle.scan.specs.Memory.{chains_in, holding, in_memory}
use Rattle.scan.specs.Runs.{Bench, bench, Run, starting, shifting, closing}

-- a pattern is looked at before anything is driven: the frame, the count of digits, the span, the room, and each digit
abbrev pub replayable : {X : Type 0} → ℕ → Frame → List ℕ → ℕ → Result X Refusal → Result X Refusal
replayable k f digits room r =
    in_limits f (refused_if (not (length digits == variables k f)) OutOfRange (in_span k f (in_memory f.shifts room
    (refused_if (not (all_digits digits)) MalformedField r))))

-- replaying a pattern, the digits of an injection: the chains end with its load, whatever was there before
abbrev pub replaying : Linear → Frame → List ℕ → Bench → Result (Loaded × Bench) Refusal
replaying m f digits b =
    let x = digit_row digits in
    replayable m.channels f digits (length b.memory)
    (Ok (
      record { positions = f.shifts; chains = m.outlets },
      bench (cells_after m x (cycles f)) (holding f.shifts m.outlets (load m f x) b.memory),
    ))

-- memory has a bit exactly if the injection loads it, for each bit of the chains
abbrev pub HoldsItsLoad : Linear → Frame → Row → List ℕ → Type 0
HoldsItsLoad m f x memory =
    (b : CareBit) → InRange m f b → beq (chains_in memory b.position b.chain) b.value ≡ loads m f x b

-- closing, beside the bench that it does not touch
abbrev pub closed : Run × Bench → Result (Loaded × Bench) Refusal
closed o = result_map_both (λ loaded. (loaded, o.1)) (λ back. back.refusal) (closing o.0)

-- a run by hand: start, a shift for each word, close
abbrev pub run_by_hand : Linear → Frame → List ℕ → Bench → Result (Loaded × Bench) Refusal
run_by_hand m f words b = and_then (starting m f b) (λ o. and_then (reading (shifting m) o words) closed)

-- the words of an injection: one for each cycle, of which the channels take what the injection has for them
pub record InjectionWords (m : Linear) (f : Frame) (x : Row) (words : List ℕ) : Type 0 where
  pub all_cycles : length words ≡ cycles f
  pub each : (t : ℕ) → t < cycles f → upto m.channels (bit_of (slice_index words t)) ≡ taken m.channels x (suc t)

-- what a replay can be seen to leave: the cells, and as much of memory as there are positions
abbrev pub seen : Frame → Result (Loaded × Bench) Refusal → Result (Loaded × (Row × List ℕ)) Refusal
seen f outcome = ok_map (λ o. (o.0, (o.1.cells, take f.shifts o.1.memory))) outcome

pub record WholeRuns (m : Linear) (f : Frame) : Type 0 where
  -- shifting the words of an injection one by one and closing does what replaying its digits does
  pub by_hand : (digits words : List ℕ) (b : Bench) → length digits ≡ variables m.channels f → all_digits digits ≡ true
      → InjectionWords m f (digit_row digits) words → run_by_hand m f words b ≡ replaying m f digits b
  -- and what cells and memory held before has no say: one way from one bench, the other way from another
  pub from_anything : (digits words : List ℕ) (b c : Bench) → length digits ≡ variables m.channels f → all_digits digits ≡ true
      → InjectionWords m f (digit_row digits) words → f.shifts ≤ length b.memory → f.shifts ≤ length c.memory
      → seen f (run_by_hand m f words b) ≡ seen f (replaying m f digits c)
