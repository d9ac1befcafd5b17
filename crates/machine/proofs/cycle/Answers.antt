use mathlib.Core.Path.{ap, ◌∙◌}
use Rattle.machine.specs.Linear.{Linear, shown}
use Rattle.machine.proofs.OnLists.{lists_are_linear}
use Rattle.machine.proofs.cycle.Goals as goal

pub returns : goal.returns
returns g c =
    let there = g.M.Machine.cells c.shift.new.self in
    record {
      same = c.shift.ensures.same;
      after = c.shift.ensures.after;
      outlets = c.read.ensures ∙ ap (λ (m : Linear). shown m there) c.shift.ensures.same;
      drawn = lists_are_linear;
    }
