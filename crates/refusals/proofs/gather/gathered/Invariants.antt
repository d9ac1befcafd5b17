use Rattle.std.proofs.Common.{◌≡◌, drop}
use Rattle.refusals.specs.Chains.{reading}
use Rattle.refusals.proofs.gather.gathered.Given as goal

-- reading the lines that are left gives what reading them all does
abbrev pub invariant-loop-line : goal.invariant-loop-line
invariant-loop-line g l =
    reading g.G.Gathers.takes (g.G.Gathers.read l.part) (drop l.line-index l.lines)
    ≡ reading g.G.Gathers.takes (g.G.Gathers.read l.initial.part) l.lines
