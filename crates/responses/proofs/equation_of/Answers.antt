use Rattle.std.proofs.Common.{◌≡◌, ℕ, ◌-◌, ◌*◌, ◌<◌, ◌≤◌, Ok, Result, refl, ap, ap₂, ◌∙◌, subst, arith}
use Rattle.std.proofs.lemmas.Bool.Decides.{nat_tests}
use Rattle.std.proofs.lemmas.Grind.{common_steps}
use Rattle.equations.specs.declared.Equation.{Equation}
use Rattle.equations.specs.Equations.{words_row}
use Rattle.machine.specs.Linear.{Linear}
use Rattle.scan.specs.Frames.{cycles}
use Rattle.responses.specs.Responses.{responded, EquationOf}
use Rattle.responses.proofs.Channels.{below, below_all, channel_more}
use Rattle.responses.proofs.Equations.{equation_stands}
use Rattle.responses.proofs.equation_of.Goals as goal

-- an accepted result holds one value
same_accepted : {X E : Type 0} (x y : X) → ◌≡◌ {A = Result X E} (Ok x) (Ok y) → x ≡ y
same_accepted x y h = cc

pub loop-channel-preserved : goal.loop-channel-preserved
loop-channel-preserved g c =
    let m = g.M.Machine.meaning c.args.machine.now in
    let k = c.loop-channel.channel in
    let chain = c.args.bit.chain in
    let t = cycles c.args.frame - c.args.bit.position in
    let few : m.channels * t ≤ 256 = grind (arith, common_steps) in (
      c.respond-more.ensures.same ∙ c.loop-channel.invariant.0,
      c.loop-channel.invariant.1,
      channel_more m (g.met.M.Machine.superposition c.args.machine.now) k t chain c.loop-channel.coefficients c.respond-more.result
          (g.met.M.Machine.counted c.args.machine.now).channels_some few c.loop-channel.invariant.2
          (c.respond-more.ensures.coefficients
          ∙ ap₂ (λ (l : Linear) (n : ℕ). responded l k n chain (words_row c.loop-channel.coefficients)) c.loop-channel.invariant.0 c.loop-channel.invariant.1),
    )

pub returns-clause-equation : goal.returns-clause-equation
returns-clause-equation g c =
    let m = g.M.Machine.meaning c.args.machine.now in
    let f = c.args.frame in
    let bit = c.args.bit in
    let t = cycles f - bit.position in
    let some = (g.met.M.Machine.counted c.args.machine.now).channels_some in
    let position : bit.position < f.shifts = omega arith in
    let all : c.loop-channel.channel ≡ m.channels = grind (arith, nat_tests) in
    let stands = equation_stands m (g.met.M.Machine.superposition c.args.machine.now) f bit _ some position
    (c.loop-channel.invariant.2 ∙ ap (λ (k : ℕ). below m k t bit.chain) all ∙ below_all m t bit.chain some) refl in
    λ e is. subst (λ (q : Equation). EquationOf m f bit q) (same_accepted _ e is) stands
