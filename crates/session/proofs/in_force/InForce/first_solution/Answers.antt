use Rattle.std.proofs.Common.{rules, tests, ◌≡◌, ℕ, ◌+◌, ◌<◌, None, length, get_or, take, refl, sym, subst, arith}
use Rattle.std.proofs.lemmas.Iterator.{YieldsList-from_slice}
use Rattle.std.proofs.lemmas.Iterator.Consumers.{YieldsList-from_enumerate, YieldsList-end}
use Rattle.std.proofs.lemmas.List.{length-take-le, get_or-take}
use Rattle.equations.specs.Equations.{words_row}
use Rattle.session.specs.Leaders.{Told}
use Rattle.session.proofs.Solving.{Solving, LedAt, solving_none, solving_on, solving_all, folds_on}
use Rattle.session.proofs.in_force.InForce.first_solution.Goals as goal

pub returns : goal.returns
returns c =
    let s = c.args.self.now in
    let n : ℕ = length s.rows.now in
    let few = s.few in
    let every = c.leaders-leaders.result in
    let leaders = take s.variables every in
    let whole : length every ≡ 256 = omega arith in
    let long : length leaders ≡ s.variables = length-take-le s.variables every (omega arith) in
    let run = c.fold.ensures.ran in
    let all = YieldsList-end (YieldsList-from_enumerate (YieldsList-from_slice leaders (cc)) (cc)) run.0 run.2.1.0 run.2.1.1 None run.2.0 refl run.2.1.2 in
    solving_all s (0 + length leaders) (words_row c.fold.result) (omega arith)
    (folds_on _ _ (λ a x b. Told a x.0 x.1 b) _ (λ a x b q k. search (rules, tests)) (λ k w. Solving s.rows.now n k (words_row w)) (λ k o. (k < 256) × LedAt s.rows.now n k o)
    (λ k o a b at so_far told. solving_on s k o a b at.0 at.1 so_far told) None run.0 leaders 0 all.0
    (λ k h. let k' : k ≡ 0 + k = omega arith in
    let small : k < 256 = omega arith in
    let same = get_or-take s.variables every k None (omega arith) in
    subst (λ (i : ℕ). (i < 256) × LedAt s.rows.now n i (get_or leaders k None)) k' (small, subst (LedAt s.rows.now n k) (sym same) (c.leaders-leaders.ensures k small)))
    _ c.fold.result _ _ refl run.3 (solving_none s.rows.now n))
