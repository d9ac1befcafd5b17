use Rattle.std.proofs.Common.{rules, ◌≡◌, ℕ, true, Err, Result, sym, refl, ap, ◌∙◌, subst}
use Rattle.std.proofs.lemmas.Result.{err_from_is_err_and}
use Rattle.refusals.specs.declared.Refusal.{Refusal}
use Rattle.session.specs.Fits.{fitting_at}
use Rattle.session.specs.Sessions.{is_like, Proposed}
use Rattle.session.specs.Views.{session_at}
use Rattle.session.proofs.Proposals.{truly, follows, conflicts, clear_of_them, enters}
use Rattle.session.proofs.trial.Trial.propose.Goals as goal

pub returns-in_err-row-clause-proposed : goal.returns-in_err-row-clause-proposed
returns-in_err-row-clause-proposed g c =
    let m = g.M.Machine.meaning c.args.machine.now in
    let t = c.args.table.now in
    let n : ℕ = c.args.self.now.counter.now.count in
    let like : is_like m (session_at t n) ≡ true = search rules in
    let frame : c.frame.result ≡ (fitting_at t.fit).frame = search rules in
    let p = err_from_is_err_and c.from_residual-in_err-row.result c.from_residual-in_err-row.ensures.1 in
    subst (λ (q : Result ℕ Refusal). Proposed m (session_at t n) c.args.bit q (session_at t n)) (sym (p.1 ∙ ap (λ (y : Refusal). Err y) p.2))
    (conflicts m t n c.args.bit c.in_ok-in_force.in_force c.in_ok-in_force.ensures like c.frame.result frame c.in_ok-equation.ensures.answer c.in_ok-equation.equation
    (c.in_ok-equation.ensures.equation _ refl) c.in_err-row.field-0.0 c.in_err-row.ensures)

pub returns-in_err-row-clause-truly : goal.returns-in_err-row-clause-truly
returns-in_err-row-clause-truly g c = truly _ _ _ _ _ (returns-in_err-row-clause-proposed g c)

pub returns-in_default-clause-proposed : goal.returns-in_default-clause-proposed
returns-in_default-clause-proposed g c =
    let m = g.M.Machine.meaning c.args.machine.now in
    let t = c.args.table.now in
    let n : ℕ = c.args.self.now.counter.now.count in
    let like : is_like m (session_at t n) ≡ true = search rules in
    let frame : c.frame.result ≡ (fitting_at t.fit).frame = search rules in
    follows m t n c.args.bit c.in_ok-in_force.in_force c.in_ok-in_force.ensures like c.frame.result frame c.in_ok-equation.ensures.answer c.in_ok-equation.equation
    (c.in_ok-equation.ensures.equation _ refl) c.in_ok-row.field-0 c.in_default.is c.in_ok-row.ensures

pub returns-in_default-clause-truly : goal.returns-in_default-clause-truly
returns-in_default-clause-truly g c = truly _ _ _ _ _ (returns-in_default-clause-proposed g c)

pub write-requires-clause-clear : goal.write-requires-clause-clear
write-requires-clause-clear g c =
    let m = g.M.Machine.meaning c.args.machine.now in
    let t = c.args.table.now in
    let n : ℕ = c.args.self.now.counter.now.count in
    let like : is_like m (session_at t n) ≡ true = search rules in
    let frame : c.frame.result ≡ (fitting_at t.fit).frame = search rules in
    clear_of_them m t n c.args.bit c.in_ok-in_force.in_force c.in_ok-in_force.ensures like c.frame.result frame c.in_ok-equation.ensures.answer c.in_ok-equation.equation
    (c.in_ok-equation.ensures.equation _ refl) c.in_ok-row.field-0 c.in-Some.row c.in-Some.is c.in_ok-row.ensures

pub returns-clause-proposed : goal.returns-clause-proposed
returns-clause-proposed g c =
    let m = g.M.Machine.meaning c.args.machine.now in
    let t = c.args.table.now in
    let n : ℕ = c.args.self.now.counter.now.count in
    let like : is_like m (session_at t n) ≡ true = search rules in
    let frame : c.frame.result ≡ (fitting_at t.fit).frame = search rules in
    let l = c.write.ensures in
    enters m t n c.args.bit c.in_ok-in_force.in_force c.in_ok-in_force.ensures like c.frame.result frame c.in_ok-equation.ensures.answer c.in_ok-equation.equation
    (c.in_ok-equation.ensures.equation _ refl) c.in_ok-row.field-0 c.in-Some.row c.in-Some.is c.in_ok-row.ensures
    c.write.new.self l.rows l.written l.fit

pub returns-clause-truly : goal.returns-clause-truly
returns-clause-truly g c = truly _ _ _ _ _ (returns-clause-proposed g c)
