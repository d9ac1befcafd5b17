use Rattle.std.proofs.Common.{◌≡◌, ℕ, ◌-◌, ◌*◌, ◌+◌, ap, ◌∙◌, arith}
use Rattle.bits.specs.Words.{bit_of}
use Rattle.equations.specs.Equations.{words_row}
use Rattle.machine.specs.Linear.{Linear, shifted, shown}
use Rattle.responses.proofs.Impulses.{impulse}
use Rattle.responses.proofs.Responding.{impulse_enters, impulse_goes_on, holds_none, holds_more}
use Rattle.responses.proofs.impulse.respond.Goals as goal

pub loop-cycle-init : goal.loop-cycle-init
loop-cycle-init g c =
    let m = g.M.Machine.meaning c.args.machine.now in
    let none : 0 ≡ c.args.cycles - c.args.cycles = omega arith in (
      c.reset.ensures.same,
      impulse_enters m (g.met.M.Machine.counted c.args.machine.now) (g.M.Machine.cells c.reset.new.self) c.args.channel
          c.reset.ensures.after c.requires.channels ∙ ap (impulse m c.args.channel) none,
      omega arith,
      holds_none m (g.met.M.Machine.superposition c.args.machine.now) c.args.channel c.args.cycles c.args.chain c.args.coefficients,
    )

pub loop-cycle-preserved : goal.loop-cycle-preserved
loop-cycle-preserved g c =
    let m = g.M.Machine.meaning c.args.machine.now in
    let s = g.M.Machine.cells c.shift.new.self in
    let q = c.loop-cycle.cycle in
    let same = c.shift.ensures.same ∙ c.loop-cycle.invariant.0 in
    let at : s ≡ impulse m c.args.channel (c.args.cycles - q) = c.shift.ensures.after
    ∙ ap (λ (l : Linear). shifted l (g.M.Machine.cells c.loop-cycle.machine) c.loop-cycle.taken) c.loop-cycle.invariant.0 ∙ c.loop-cycle.invariant.1 in (
      same,
      impulse_goes_on m s c.args.channel c.args.cycles q (omega arith) (omega arith) at,
      omega arith,
      holds_more m (g.met.M.Machine.superposition c.args.machine.now) c.args.channel c.args.cycles c.args.chain
          (words_row c.args.coefficients) c.loop-cycle.coefficients c.with_bit-more.result q _ s c.has.result
          c.requires.channels c.requires.outlets (omega arith) (omega arith) c.loop-cycle.invariant.3
          (ap (λ (k : ℕ). (q - 1) * k + c.args.channel) c.channels-channels.ensures) at
          (c.has.ensures ∙ ap (λ (w : ℕ). bit_of w c.args.chain) (c.read.ensures ∙ ap (λ (l : Linear). shown l s) same))
          c.with_bit-more.ensures,
    )
