-- An equation put beside those in force: what it is answered, and what then holds.
use Rattle.std.proofs.Common.{◌≡◌, ℕ, ◌+◌, ◌-◌, ◌^◌, ◌<◌, ◌≤◌, Bool, true, false, cond, ◌&&◌, List, length, take, set, is_some, Some, None, Ok, Err, Option, Result, sym, refl, ap, ◌∙◌, subst, arith, pow_pos}
use mathlib.Core.Bool.{beq}
use Rattle.std.proofs.Math.Seq.{take-length}
use Rattle.std.proofs.lemmas.Nat.{pow_below}
use Rattle.std.proofs.lemmas.List.{length-take-le, get_or-take}
use Rattle.std.proofs.lemmas.Bool.{false≢true, true≢false, eq-eqb, ne_eqb, lt-ltb, le-ltb, cond-true, cond-false}
use Rattle.bits.specs.Lists.{row_of}
use Rattle.equations.specs.declared.Equation.{Equation}
use Rattle.equations.specs.Counting.{Test, both, number}
use Rattle.equations.specs.Equations.{holds, solves, solutions, lead_of}
use Rattle.equations.specs.Systems.{is_below, ClearOf, Led, Apart, Clear, Within, Reduced}
use Rattle.equations.proofs.Counts.{number_same, number_none}
use Rattle.equations.proofs.Leads.{below_is, holds_none}
use Rattle.equations.proofs.Reductions.{Keeps, keeps, lead_low, number_more, room_more, solutions_more}
use Rattle.equations.proofs.Solved.{system_number}
use Rattle.refusals.specs.declared.Refusal.{Refusal}
use Rattle.refusals.specs.declared.Refusal.TheVariants.{Conflict}
use Rattle.scan.specs.declared.fit.Fit.{Fit}
use Rattle.scan.specs.Frames.{variables}
use Rattle.session.specs.declared.in_force.InForce.{InForce}
use Rattle.session.specs.declared.table.EquationTable.{EquationTable}
use Rattle.session.specs.Fits.{fitting_at}
use Rattle.session.specs.Judgements.{Judged}
use Rattle.session.specs.Lent.{Lent}
use Rattle.session.specs.Sessions.{judging, with_row, After}
use Rattle.session.specs.Standing.{weighed}
use Rattle.session.specs.Views.{session_at}

-- a lead that is there
pub some_is : (o : Option ℕ) → true ≡ is_some o → (v : ℕ) × (o ≡ Some v)
some_is None h = absurd (true≢false h)
some_is (Some v) h = (v, refl)

pub none_is : (o : Option ℕ) → false ≡ is_some o → o ≡ None
none_is None h = refl
none_is (Some v) h = absurd (false≢true h)

-- what is left of an equation: nothing but its right side, which every solution of the others then gives it
pub left_says : (v : ℕ) (rows : List Equation) (e r : Equation) → Reduced v rows (length rows) e r → lead_of r ≡ None
    → (x : List Bool) → solutions rows x ≡ true → holds e (row_of x) ≡ beq false r.right
left_says v rows e r reduced none x h =
    sym (reduced.same (row_of x) (ap (λ (es : List Equation). solves es (row_of x)) (take-length rows) ∙ h)) ∙ holds_none r (row_of x) none

-- or a lead, which is a variable
pub left_leads : (v : ℕ) (rows : List Equation) (e r : Equation) (w : ℕ) → Within v e → Reduced v rows (length rows) e r → lead_of r ≡ Some w → is_below v (lead_of r) ≡ true
left_leads v rows e r w within reduced lead =
    ap (is_below v) lead ∙ lt-ltb w v (lead_low v rows (length rows) e r reduced (λ x. holds e (row_of x)) (λ x _. refl) w lead within)

-- a fit leaves room, and where there was no opening nothing is needed
pub few_at : (o : Option Fit) → variables (fitting_at o).channels (fitting_at o).frame ≤ 256
few_at None = omega arith
few_at (Some f) = f.few

-- what a table keeps when such an equation is written into the row after the first n
pub kept : (t : EquationTable) (n : ℕ) (r : Equation) → n ≤ t.written → is_below (variables (fitting_at t.fit).channels (fitting_at t.fit).frame) (lead_of r) ≡ true → ClearOf t.rows n r
    → Keeps (variables (fitting_at t.fit).channels (fitting_at t.fit).frame) t.rows n r
kept t n r up lead clear =
    let few = few_at t.fit in
    let long = t.long in
    let room = t.room in
    keeps (variables (fitting_at t.fit).channels (fitting_at t.fit).frame) t.rows t.written n r up (omega arith) (omega arith) t.led t.apart t.clear lead clear

-- numbers weighed: none is left, as many, or fewer
weighed_none : (a b : ℕ) → b ≡ 0 → weighed a b ≡ Err Conflict
weighed_none a b e = cond-true _ _ _ (eq-eqb b 0 e)

weighed_same : (a b : ℕ) → 0 < a → b ≡ a → weighed a b ≡ Ok 0
weighed_same a b some e = cond-false _ _ _ (ne_eqb b 0 (λ z. omega arith)) ∙ ap (λ (t : Bool). Ok (cond t 1 0)) (le-ltb b a (omega arith))

weighed_fewer : (a b : ℕ) → 0 < b → b < a → weighed a b ≡ Ok 1
weighed_fewer a b some less = cond-false _ _ _ (ne_eqb b 0 (λ z. omega arith)) ∙ ap (λ (t : Bool). Ok (cond t 1 0)) (lt-ltb b a less)

-- a second test that those that pass a first one pass, or that none of them passes
both_pass : (p q : Bool) → (p ≡ true → q ≡ true) → (p && q) ≡ p
both_pass true q h = h refl
both_pass false q h = refl

none_pass : (p q : Bool) → (p ≡ true → q ≡ false) → (p && q) ≡ false
none_pass true q h = h refl
none_pass false q h = refl

-- an equation beside the first n rows of a table
module _ (t : EquationTable) (n : ℕ) (e : Equation) (up : n ≤ t.written) where
  abbrev vars : ℕ
  vars = variables (fitting_at t.fit).channels (fitting_at t.fit).frame

  abbrev bit : Test
  bit x = holds e (row_of x)

  -- what is lent says
  pub of_lent : (s : InForce) (r : Result (Option Equation) Refusal) → Lent t n (Ok s) → Judged s.variables s.rows.now e r → Judged vars (take n t.rows) e r
  of_lent s r lent judged = subst (λ (q : ℕ × List Equation). Judged q.0 q.1 e r) (λ i. (lent.2 i, lent.1 i)) judged

  rows_enough : n ≤ length t.rows
  rows_enough = let h = t.room in let l = t.long in omega arith

  led : Led vars t.rows n
  led k h = t.led k (omega arith)

  apart : Apart t.rows n
  apart j k l h = t.apart j k l (omega arith)

  clear : Clear t.rows n
  clear j k l h = t.clear j k l (omega arith)

  in_all : number vars (solutions (take n t.rows)) ≡ 2 ^ (vars - n)
  in_all = system_number vars t.rows n rows_enough led apart

  some_left : 0 < number vars (solutions (take n t.rows))
  some_left = subst (λ (k : ℕ). 0 < k) (sym in_all) (pow_pos (vars - n))

  -- it follows from them
  module _ (judged : Judged vars (take n t.rows) e (Ok None)) where
    pass : (x : List Bool) → length x ≡ vars → both (solutions (take n t.rows)) bit x ≡ solutions (take n t.rows) x
    pass x l = both_pass (solutions (take n t.rows) x) (bit x) (judged x l)

    pub follows_answer : Ok 0 ≡ judging (session_at t n) bit
    follows_answer = sym (weighed_same _ _ some_left (number_same vars _ _ pass))

    pub follows_after : After (session_at t n) bit (Ok 0) (session_at t n)
    follows_after = record { unchanged = λ _. refl; written = λ z. absurd (omega arith); narrowed = λ _ x l. sym (pass x l) }

  -- it contradicts them
  module _ (x : Refusal) (judged : Judged vars (take n t.rows) e (Err x)) where
    pub conflict_answer : Err x ≡ judging (session_at t n) bit
    conflict_answer =
        ap (λ (y : Refusal). Err y) judged.0
        ∙ sym (weighed_none _ _ (number_none vars _ (λ y l. none_pass (solutions (take n t.rows) y) (bit y) (judged.1 y l))))

    pub conflict_after : After (session_at t n) bit (Err x) (session_at t n)
    conflict_after = record { unchanged = λ _. refl; written = λ z. absurd (omega arith); narrowed = λ z. absurd (false≢true z) }

  -- a lead of its own is left of it
  module _ (r : Equation) (within : Within vars e) (judged : Judged vars (take n t.rows) e (Ok (Some r))) where
    pub reduced : Reduced vars t.rows n e r
    reduced = record {
      same = λ x h. judged.0.same x (ap (λ (es : List Equation). solves es x) (take-length (take n t.rows)) ∙ h);
      clear = λ k v h lead.
          let many = length-take-le n t.rows rows_enough in
          judged.0.clear k v (omega arith) (ap lead_of (get_or-take n t.rows k _ h) ∙ lead);
      within = judged.0.within;
    }

    -- it is written
    module _ (u : EquationTable) (rows : u.rows ≡ set t.rows n r) (written : u.written ≡ n + 1) (fit : u.fit ≡ t.fit) where
      place : n < length t.rows
      place = let h = u.room in let l = t.long in omega arith

      pub new_answer : Ok 1 ≡ judging (session_at t n) bit
      new_answer =
          let lead = below_is vars (lead_of r) judged.1 in
          let more = number_more vars t.rows n e r reduced bit (λ x _. refl) lead.0 lead.1 within place led apart clear in
          let less = room_more vars t.rows n e r reduced bit (λ x _. refl) lead.0 lead.1 within place led apart clear in
          let all = in_all in
          let some = pow_pos (vars - (n + 1)) in
          let fewer = pow_below (vars - (n + 1)) (vars - n) (omega arith) in
          sym (weighed_fewer _ _ (omega arith) (omega arith))

      same : session_at u (n + 1) ≡ with_row (session_at t n) r
      same = simp (rows, written, fit)

      pub new_after : After (session_at t n) bit (Ok 1) (session_at u (n + 1))
      new_after =
          let lead = below_is vars (lead_of r) judged.1 in
          record {
            unchanged = λ z. absurd (omega arith);
            written = λ _. (r, same);
            narrowed = λ _ x l. ap (λ (es : List Equation). solutions (take (n + 1) es) x) rows
                ∙ solutions_more vars t.rows n e r reduced bit (λ y _. refl) lead.0 lead.1 within place led apart clear x l;
          }
