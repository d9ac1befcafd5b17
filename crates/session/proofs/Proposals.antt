-- A proposal: which of its checks decides, and what its equation says.
use Rattle.std.proofs.Common.{◌≡◌, ℕ, ◌+◌, ◌≤◌, Bool, true, false, not, ◌&&◌, eqb, ltb, List, length, take, set, Some, None, Option, Ok, Err, Result, sym, refl, ap, ◌∙◌, subst, arith}
use Rattle.std.proofs.lemmas.Bool.{and_parts, or_from, ltb-true, eqb-true, le-ltb, cond-true, cond-false}
use Rattle.bits.specs.Lists.{row_of}
use Rattle.equations.specs.declared.Equation.{Equation}
use Rattle.equations.specs.Counting.{both, number}
use Rattle.equations.specs.Equations.{holds}
use Rattle.equations.specs.Systems.{Within, ClearOf}
use Rattle.equations.proofs.Counts.{number_same}
use Rattle.machine.specs.Linear.{Linear}
use Rattle.refusals.specs.declared.Refusal.{Refusal}
use Rattle.refusals.specs.declared.Refusal.TheVariants.{OutOfRange, TooMany}
use Rattle.refusals.specs.Chains.{refused_if}
use Rattle.responses.specs.Ranges.{is_in_range, in_chains}
use Rattle.responses.specs.Responses.{EquationOf}
use Rattle.scan.specs.declared.care.CareBit.{CareBit}
use Rattle.scan.specs.declared.frame.Frame.{Frame}
use Rattle.scan.specs.Frames.{span, variables, out_of_limits, in_limits, in_span}
use Rattle.session.specs.declared.in_force.InForce.{InForce}
use Rattle.session.specs.declared.table.EquationTable.{EquationTable}
use Rattle.session.specs.Dialogues.{ToldTruly}
use Rattle.session.specs.Fits.{fitting_at}
use Rattle.session.specs.Judgements.{Judged}
use Rattle.session.specs.Lent.{Lent}
use Rattle.session.specs.Sessions.{Session, is_like, in_force, proposable, judging, After, Proposed}
use Rattle.session.specs.Standing.{loading, weighed}
use Rattle.session.specs.Views.{session_at}
use Rattle.session.proofs.Entering.{few_at, of_lent, reduced, follows_answer, follows_after, conflict_answer, conflict_after, new_answer, new_after}
use Rattle.session.proofs.Truths.{propose_true}

-- a proposal that does what it should answers truly
pub truly : (m : Linear) (s : Session) (b : CareBit) (r : Result ℕ Refusal) (t : Session) → Proposed m s b r t → ToldTruly m s b r t
truly m s b r t p bits st = propose_true m s.frame s bits st b r t p

-- what the look at a bit comes to, in a frame whose numbers are not too large
module _ (m : Linear) (f : Frame) (b : CareBit) (warm : f.warmup ≤ 64) (short : f.shifts ≤ 256) (few : span m.channels f ≤ 256) where
  in_span_lem : {X : Type 0} (r : Result X Refusal) → in_span m.channels f r ≡ r
  in_span_lem r = cond-false _ _ _ (le-ltb 256 (span m.channels f) few)

  pub looked_in : is_in_range m f b ≡ true → in_limits f (in_span m.channels f (in_chains m f b (Ok (tt {0})))) ≡ Ok (tt {0})
  looked_in e =
      let below = ltb-true b.position f.shifts (and_parts (ltb b.chain m.outlets) (ltb b.position f.shifts) e).1 in
      cond-false _ _ _ (or_from _ _ (le-ltb 64 f.warmup warm) (or_from _ _ (le-ltb f.shifts 1 (omega arith)) (le-ltb 256 f.shifts short)))
      ∙ in_span_lem (in_chains m f b (Ok (tt {0}))) ∙ cond-false _ _ _ (ap not e)

  pub looked_out : is_in_range m f b ≡ false → in_limits f (in_span m.channels f (in_chains m f b (Ok (tt {0})))) ≡ Err OutOfRange
  looked_out e =
      ap (λ (r : Result Unit Refusal). in_limits f r) (in_span_lem (in_chains m f b (Ok (tt {0}))) ∙ cond-true _ _ _ (ap not e)) ∙ same (out_of_limits f)
    where
      same : (a : Bool) → refused_if {X = Unit {0}} a OutOfRange (Err OutOfRange) ≡ Err OutOfRange
      same true = refl
      same false = refl

-- a proposal on a machine like the one at the opening, whose bit is in range: the equations in force are lent, and the bit has its equation
module _ (m : Linear) (t : EquationTable) (n : ℕ) (b : CareBit) (s : InForce) (lent : Lent t n (Ok s)) (like : is_like m (session_at t n) ≡ true)
    (f : Frame) (same_frame : f ≡ (fitting_at t.fit).frame) (accepted : Ok (tt {0}) ≡ in_limits f (in_span m.channels f (in_chains m f b (Ok (tt {0})))))
    (e : Equation) (is : EquationOf m f b e) where
  channels : m.channels ≡ (fitting_at t.fit).channels
  channels = eqb-true m.channels (fitting_at t.fit).channels (and_parts (eqb m.channels (fitting_at t.fit).channels) (eqb m.outlets (fitting_at t.fit).outlets) like).0

  within_range : is_in_range m (fitting_at t.fit).frame b ≡ true
  within_range = subst (λ (g : Frame). is_in_range m g b ≡ true) same_frame (go (out_of_limits f) (ltb 256 (span m.channels f)) (is_in_range m f b) accepted)
    where
      go : (p q r : Bool) → Ok (tt {0}) ≡ refused_if p OutOfRange (refused_if q TooMany (refused_if (not r) OutOfRange (Ok (tt {0})))) → r ≡ true
      go p q true h = refl
      go true q false h = absurd (let z : ◌≡◌ {A = ℕ} 0 1 = cc in omega arith)
      go false true false h = absurd (let z : ◌≡◌ {A = ℕ} 0 1 = cc in omega arith)
      go false false false h = absurd (let z : ◌≡◌ {A = ℕ} 0 1 = cc in omega arith)

  passes_to : (r : Result ℕ Refusal) → proposable m (session_at t n) b r ≡ r
  passes_to r = cond-false _ _ _ (le-ltb t.written n lent.0) ∙ cond-false _ _ _ (ap not like) ∙ cond-false _ _ _ (ap not within_range)

  equation : EquationOf m (fitting_at t.fit).frame b e
  equation = subst (λ (g : Frame). EquationOf m g b e) same_frame is

  same_test : (x : List Bool) → length x ≡ variables (fitting_at t.fit).channels (fitting_at t.fit).frame
      → both (in_force (session_at t n)) (λ y. holds e (row_of y)) x ≡ both (in_force (session_at t n)) (loading m (fitting_at t.fit).frame b) x
  same_test x l = ap (λ (p : Bool). in_force (session_at t n) x && p) (let k = few_at t.fit in equation.told x (omega arith))

  in_proposed : (r : Result ℕ Refusal) (u : Session) → r ≡ judging (session_at t n) (λ x. holds e (row_of x))
      → After (session_at t n) (λ x. holds e (row_of x)) r u → Proposed m (session_at t n) b r u
  in_proposed r u judged after = record {
    answer = judged ∙ ap (weighed (number (variables (fitting_at t.fit).channels (fitting_at t.fit).frame) (in_force (session_at t n)))) (number_same (variables (fitting_at t.fit).channels (fitting_at t.fit).frame) _ _ same_test) ∙ sym (passes_to _);
    after = record {
      unchanged = after.unchanged;
      written = after.written;
      narrowed = λ ok x l. after.narrowed ok x l ∙ same_test x l;
    };
  }

  within : Within (variables (fitting_at t.fit).channels (fitting_at t.fit).frame) e
  within i h l = equation.past i (subst (λ (k : ℕ). variables k (fitting_at t.fit).frame ≤ i) (sym channels) h)

  -- the equation follows from those in force, or contradicts them
  pub follows : (o : Option Equation) → o ≡ None → Judged s.variables s.rows.now e (Ok o) → Proposed m (session_at t n) b (Ok 0) (session_at t n)
  follows o none judged =
      let j = of_lent t n e lent.0 s (Ok None) lent (subst (λ (p : Option Equation). Judged s.variables s.rows.now e (Ok p)) none judged) in
      in_proposed (Ok 0) (session_at t n) (follows_answer t n e lent.0 j) (follows_after t n e lent.0 j)

  pub conflicts : (x : Refusal) → Judged s.variables s.rows.now e (Err x) → Proposed m (session_at t n) b (Err x) (session_at t n)
  conflicts x judged =
      let j = of_lent t n e lent.0 s (Err x) lent judged in
      in_proposed (Err x) (session_at t n) (conflict_answer t n e lent.0 x j) (conflict_after t n e lent.0 x j)

  -- or is new
  module _ (o : Option Equation) (r : Equation) (some : o ≡ Some r) (judged : Judged s.variables s.rows.now e (Ok o)) where
    new : Judged (variables (fitting_at t.fit).channels (fitting_at t.fit).frame) (take n t.rows) e (Ok (Some r))
    new = of_lent t n e lent.0 s (Ok (Some r)) lent (subst (λ (p : Option Equation). Judged s.variables s.rows.now e (Ok p)) some judged)

    pub clear_of_them : ClearOf t.rows n r
    clear_of_them = (reduced t n e lent.0 r within new).clear

    pub enters : (u : EquationTable) → u.rows ≡ set t.rows n r → u.written ≡ n + 1 → u.fit ≡ t.fit
        → Proposed m (session_at t n) b (Ok 1) (session_at u (n + 1))
    enters u rows written fit =
        in_proposed (Ok 1) (session_at u (n + 1)) (new_answer t n e lent.0 r within new u rows written fit)
        (new_after t n e lent.0 r within new u rows written fit)
