use Rattle.std.proofs.Common.{◌≡◌, ℕ, suc, ◌+◌, ◌*◌, ◌<◌, ◌≤◌, length, drop, sym, ap, ap₂, subst, ◌∙◌, arith}
use Rattle.std.proofs.lemmas.Bool.Decides.{nat_tests}
use Rattle.bits.specs.Digits.{digit_row}
use Rattle.bits.specs.Words.{bit_of}
use Rattle.bits.specs.Rows.{upto}
use Rattle.machine.specs.Linear.{Linear}
use Rattle.refusals.specs.Chains.{left_by}
use Rattle.scan.specs.Frames.{cycles, taken}
use Rattle.scan.specs.Runs.{Run, Bench, underway, shifting}
use Rattle.scan.specs.Views.{run_of}
use Rattle.patterns.specs.Replays.{HoldsItsLoad}
use Rattle.patterns.proofs.Replays.{cycle_word, cycle_left, cycles_done}
use Rattle.patterns.proofs.Runs.{loaded_to, load_step, holds_its_load}
use Rattle.patterns.proofs.replay.Goals as goal

pub loop-cycle-preserved : goal.loop-cycle-preserved
loop-cycle-preserved g c =
    let m = g.M.Machine.meaning c.args.machine.now in
    let f = c.args.frame in
    let digits = c.args.digits.now in
    let memory = c.args.chains.now in
    let k = c.channels-channels.result in
    let t = c.loop-cycle.run.done in
    let here = sym c.in-Some.ensures.steps.1.0 ∙ c.loop-cycle.invariant.3 in
    let long = c.in-Some.ensures.steps.1.1 ∙ c.loop-cycle.invariant.4 in
    let room : f.shifts ≤ length memory = grind (arith, nat_tests) in
    let few : t < cycles f = grind (arith, nat_tests) in
    let word = cycle_word k t digits _ _ (sym here) long _ c.word_of.ensures in
    let step = load_step m f (digit_row digits) memory room t c.word_of.result few
    (subst (λ (n : ℕ). upto n (bit_of c.word_of.result) ≡ taken n (digit_row digits) (suc t)) c.channels-channels.ensures word) in
    let moved : underway (run_of c.shift.new.self) (g.M.Machine.cells c.shift.new.machine) c.shift.new.chains ≡ loaded_to m f (digit_row digits) memory (t + 1) =
    c.in_ok-shift.ensures.after
    ∙ ap₂ (λ (l : Linear) (o : Run × Bench). left_by o (shifting l o c.word_of.result)) c.loop-cycle.invariant.0 c.loop-cycle.invariant.1
    ∙ ap (left_by (loaded_to m f (digit_row digits) memory t)) step in
    let next : c.shift.new.self.done ≡ t + 1 = ap (λ (o : Run × Bench). o.0.done) moved in (
      c.in_ok-shift.ensures.same ∙ c.loop-cycle.invariant.0,
      moved ∙ ap (loaded_to m f (digit_row digits) memory) (sym next),
      omega arith,
      cycle_left k t digits _ _ (sym here) long ∙ ap (λ (n : ℕ). drop (n * k) digits) (sym next),
      c.in-Some.ensures.steps.0 ∙ c.loop-cycle.invariant.4,
    )

pub returns-in_err-close : goal.returns-in_err-close
returns-in_err-close g c =
    let k = c.channels-channels.result in
    let n = cycles c.args.frame in
    let count : length c.args.digits.now ≡ k * n = grind (arith, nat_tests) in
    let done : c.loop-cycle.run.done ≡ n =
    cycles_done k _ n _ c.args.digits.now _ count c.loop-cycle.invariant.2 c.loop-cycle.invariant.3 c.loop-cycle.invariant.4 c.in-None.ensures.steps.1.0 in
    absurd (grind (arith, nat_tests))

pub returns-clause-loaded : goal.returns-clause-loaded
returns-clause-loaded g c =
    let m = g.M.Machine.meaning c.args.machine.now in
    let f = c.args.frame in
    let x = digit_row c.args.digits.now in
    let memory = c.args.chains.now in
    let room : f.shifts ≤ length memory = grind (arith, nat_tests) in
    let done : c.loop-cycle.run.done ≡ cycles f = grind (arith, nat_tests) in
    let all = c.loop-cycle.invariant.1 ∙ ap (loaded_to m f x memory) done in
    λ _. subst (λ (o : Run × Bench). HoldsItsLoad m f x o.1.memory) (sym all) (holds_its_load m f x memory room)
