use Rattle.std.proofs.Common.{◌≡◌, ◌*◌, ◌≤◌, drop}
use Rattle.std.specs.Slice.Iter.{chunks_exact_rest, chunks_exact_size}
use Rattle.bits.specs.Digits.{digit_row}
use Rattle.scan.specs.Frames.{cycles}
use Rattle.scan.specs.Runs.{underway}
use Rattle.scan.specs.Views.{run_of}
use Rattle.patterns.proofs.Runs.{loaded_to}
use Rattle.patterns.proofs.replay.Given as goal

-- the cycles of the load that the run counts are done, and the digits of the others are left
abbrev pub invariant-loop-cycle : goal.invariant-loop-cycle
invariant-loop-cycle g l =
    let m = g.M.Machine.meaning l.fn.machine in
    (g.M.Machine.meaning l.machine ≡ m)
    × (underway (run_of l.run) (g.M.Machine.cells l.machine) l.chains ≡ loaded_to m l.fn.frame (digit_row l.fn.digits) l.fn.chains l.run.done)
    × (l.run.done ≤ cycles l.fn.frame)
    × (chunks_exact_rest l.cycle-iterator ≡ drop (l.run.done * l.channels) l.fn.digits)
    × (chunks_exact_size l.cycle-iterator ≡ l.channels)
