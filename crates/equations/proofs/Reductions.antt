-- An equation reduced row by row, and what it then says of the solutions.
use Rattle.std.proofs.Common.{◌≡◌, ℕ, ◌+◌, ◌-◌, ◌^◌, ◌<◌, ◌≤◌, Bool, true, false, ◌&&◌, List, [], ◌∷◌, ◌++◌, length, take, set, Some, None, Option, sym, refl, ap, ◌∙◌, ap₂, inl, inr, arith}
use mathlib.Core.Bool.{beq, and-true, and-false}
use Rattle.std.proofs.Math.Bool.{and_assoc}
use Rattle.std.proofs.lemmas.List.{take_more, take_more_set, length-set}
use Rattle.std.proofs.lemmas.Bool.{both_ways, cases_eq, cases_lt, and_parts, lt-ltb}
use Rattle.bits.specs.Lists.{row_of}
use Rattle.bits.specs.Rows.{Row, xor, plus, sum_of}
use Rattle.bits.proofs.Arrays.{set_before, set_here, all_more}
use Rattle.bits.proofs.Sums.{sum_plus, ext}
use Rattle.equations.specs.declared.Equation.{Equation}
use Rattle.equations.specs.Counting.{Test, both, number}
use Rattle.equations.specs.Equations.{coefficients_of, dot, holds, solves, solutions, lead_of}
use Rattle.equations.specs.Systems.{row_at, is_below, Led, Apart, is_among, Clear, ClearOf, Within, Reduced}
use Rattle.equations.proofs.Counts.{number_same, number_none}
use Rattle.equations.proofs.Leads.{below_is, lead_top, holds_none}
use Rattle.equations.proofs.Solved.{system_number, system_room}

dot_plus : (c d x : Row) → dot (plus c d) x ≡ xor (dot c x) (dot d x)
unfolding dot
dot_plus c d x = ap (λ (s : Row). sum_of 256 s) (ext (λ i. and_over (c i) (d i) (x i))) ∙ sum_plus 256 (λ i. c i && x i) (λ i. d i && x i)
  where
    and_over : (a b y : Bool) → (xor a b && y) ≡ xor (a && y) (b && y)
    and_over true true true = refl
    and_over true true false = refl
    and_over true false true = refl
    and_over true false false = refl
    and_over false b y = refl

-- a sum of two equations, of which the second holds, says what the first says
holds_sum : (a b r : Equation) (x : Row) → coefficients_of r ≡ plus (coefficients_of a) (coefficients_of b) → r.right ≡ xor a.right b.right
    → holds b x ≡ true → holds r x ≡ holds a x
holds_sum a b r x cs rs h =
    ap₂ beq (ap (λ (c : Row). dot c x) cs ∙ dot_plus (coefficients_of a) (coefficients_of b) x) rs
    ∙ cancel (dot (coefficients_of a) x) (dot (coefficients_of b) x) a.right b.right h
  where
    cancel : (p q s t : Bool) → beq q t ≡ true → beq (xor p q) (xor s t) ≡ beq p s
    cancel true true true true h = refl
    cancel true true false true h = refl
    cancel false true true true h = refl
    cancel false true false true h = refl
    cancel true false true false h = refl
    cancel true false false false h = refl
    cancel false false true false h = refl
    cancel false false false false h = refl
    cancel p true s false h = absurd (both_ways false refl h)
    cancel p false s true h = absurd (both_ways false refl h)

pub solves_push : (es : List Equation) (e : Equation) (x : Row) → solves (es ++ (e ∷ [])) x ≡ (solves es x && holds e x)
solves_push [] e x = and-true (holds e x)
solves_push (a ∷ es) e x = ap (λ (b : Bool). holds a x && b) (solves_push es e x) ∙ sym (and_assoc (holds a x) (solves es x) (holds e x))

-- a row has none of the leads before it
pub clear_of : (rows : List Equation) (n j k u : ℕ) → Clear rows n → j < k → k < n → lead_of (row_at rows j) ≡ Some u → coefficients_of (row_at rows k) u ≡ false
clear_of rows n j k u clear l h lead =
    not_so (coefficients_of (row_at rows k) u) (λ z. clear j k l h (ap (λ (o : Option ℕ). is_among o (coefficients_of (row_at rows k))) lead ∙ z))
  where
    not_so : (b : Bool) → (b ≡ true → ⊥) → b ≡ false
    not_so true n = absurd (n refl)
    not_so false n = refl

module _ (v : ℕ) (rows : List Equation) (e : Equation) where
  pub reduced_none : Reduced v rows 0 e e
  reduced_none = record { same = λ x _. refl; clear = λ k w h. absurd (omega arith); within = λ past. past }

  module _ (n : ℕ) (r : Equation) (long : n < length rows) (so_far : Reduced v rows n e r) where
    solved : (x : Row) → solves (take (n + 1) rows) x ≡ true → (solves (take n rows) x ≡ true) × (holds (row_at rows n) x ≡ true)
    solved x h = and_parts _ _ (sym (ap (λ (es : List Equation). solves es x) (take_more rows n _ long) ∙ solves_push (take n rows) (row_at rows n) x) ∙ h)

    -- the row's lead is not among the variables: the row is passed over
    pub reduced_skip : (w : ℕ) → lead_of (row_at rows n) ≡ Some w → coefficients_of r w ≡ false → Reduced v rows (n + 1) e r
    reduced_skip w lead none = record {
      same = λ x h. so_far.same x (solved x h).0;
      clear = λ k u h z. elim (cases_eq k n) [
        | inl i ↦ (
            let both : ◌≡◌ {A = Option ℕ} (Some u) (Some w) = sym z ∙ ap (λ (j : ℕ). lead_of (row_at rows j)) i ∙ lead in
            let same : u ≡ w = cc in
            ap (coefficients_of r) same ∙ none)
        | inr ne ↦ so_far.clear k u (omega arith) z
      ];
      within = so_far.within;
    }

    -- it is: the row is added
    pub reduced_add : (w : ℕ) (s : Equation) → lead_of (row_at rows n) ≡ Some w → w < v → coefficients_of r w ≡ true
        → ((k u : ℕ) → k < n → lead_of (row_at rows k) ≡ Some u → coefficients_of (row_at rows n) u ≡ false) → Within v (row_at rows n)
        → coefficients_of s ≡ plus (coefficients_of r) (coefficients_of (row_at rows n)) → s.right ≡ xor r.right (row_at rows n).right
        → Reduced v rows (n + 1) e s
    reduced_add w s lead low has clear past cs rs = record {
      same = λ x h. holds_sum r (row_at rows n) s x cs rs (solved x h).1 ∙ so_far.same x (solved x h).0;
      clear = λ k u h z. ap (λ (c : Row). c u) cs ∙ elim (cases_eq k n) [
        | inl i ↦ (
            let both : ◌≡◌ {A = Option ℕ} (Some u) (Some w) = sym z ∙ ap (λ (j : ℕ). lead_of (row_at rows j)) i ∙ lead in
            let same : u ≡ w = cc in
            ap₂ xor (ap (coefficients_of r) same ∙ has) (ap (coefficients_of (row_at rows n)) same ∙ (lead_top (row_at rows n) w lead).set))
        | inr ne ↦ ap₂ xor (so_far.clear k u (omega arith) z) (clear k u (omega arith) z)
      ];
      within = λ none i h l. ap (λ (c : Row). c i) cs ∙ ap₂ xor (so_far.within none i h l) (past i h l);
    }

-- an equation whose lead is below v has no variable from v on
pub lead_within : (v w : ℕ) (e : Equation) → lead_of e ≡ Some w → w < v → Within v e
lead_within v w e lead low i h l = (lead_top e w lead).above i (omega arith) l

-- a bit whose test is that of the equation e, which reduces to r
module _ (v : ℕ) (rows : List Equation) (n : ℕ) (e r : Equation) (reduced : Reduced v rows n e r) (bit : Test)
    (is : (x : List Bool) → length x ≡ v → bit x ≡ holds e (row_of x)) where
  says : (x : List Bool) → length x ≡ v → solutions (take n rows) x ≡ true → bit x ≡ holds r (row_of x)
  says x l h = is x l ∙ sym (reduced.same (row_of x) h)

  -- both tests, where the second follows from the first by what r says
  both_says : (x : List Bool) → length x ≡ v → both (solutions (take n rows)) bit x ≡ (solutions (take n rows) x && holds r (row_of x))
  both_says x l = go (solutions (take n rows) x) refl
    where
      go : (p : Bool) → solutions (take n rows) x ≡ p → (p && bit x) ≡ (p && holds r (row_of x))
      go true h = says x l h
      go false h = refl

  -- nothing is left to say: the bit is implied
  pub implied : lead_of r ≡ None → r.right ≡ false → (x : List Bool) → length x ≡ v → both (solutions (take n rows)) bit x ≡ solutions (take n rows) x
  implied none right x l =
      both_says x l ∙ ap (λ (b : Bool). solutions (take n rows) x && b) (holds_none r (row_of x) none ∙ ap (beq false) right) ∙ and-true (solutions (take n rows) x)

  -- 0 = 1 is left: the bit contradicts
  pub contradicts : lead_of r ≡ None → r.right ≡ true → number v (both (solutions (take n rows)) bit) ≡ 0
  contradicts none right =
      number_none v _ (λ x l. both_says x l ∙ ap (λ (b : Bool). solutions (take n rows) x && b) (holds_none r (row_of x) none ∙ ap (beq false) right)
      ∙ and-false (solutions (take n rows) x))

  -- a lead is left: the equation is new
  module _ (w : ℕ) (lead : lead_of r ≡ Some w) (within : Within v e) where
    pub lead_low : w < v
    lead_low =
        let top = lead_top r w lead in
        elim (cases_lt w v) [ inl l ↦ l | inr l ↦ absurd (both_ways (coefficients_of r w) (reduced.within within w l top.below) top.set) ]

    pub lead_new : (k : ℕ) → k < n → lead_of (row_at rows k) ≡ Some w → ⊥
    lead_new k h z = both_ways (coefficients_of r w) (reduced.clear k w h z) (lead_top r w lead).set

    module _ (long : n < length rows) (led : Led v rows n) (apart : Apart rows n) (clear : Clear rows n) where
      row_before : (k : ℕ) → k < n → row_at (set rows n r) k ≡ row_at rows k
      row_before k h = set_before rows n r _ long k h

      row_here : row_at (set rows n r) n ≡ r
      row_here = set_here rows n r _ long

      pub led_more : Led v (set rows n r) (n + 1)
      led_more = all_more rows n r _ long (λ a. is_below v (lead_of a) ≡ true) led (ap (is_below v) lead ∙ lt-ltb w v lead_low)

      pub apart_more : Apart (set rows n r) (n + 1)
      apart_more j k l h z =
          elim (cases_eq k n) [
            | inl i ↦ lead_new j (omega arith) (sym (ap lead_of (row_before j (omega arith))) ∙ z ∙ ap (λ (m : ℕ). lead_of (row_at (set rows n r) m)) i ∙ ap lead_of row_here ∙ lead)
            | inr ne ↦ apart j k l (omega arith) (sym (ap lead_of (row_before j (omega arith))) ∙ z ∙ ap lead_of (row_before k (omega arith)))
          ]

      pub clear_more : Clear (set rows n r) (n + 1)
      clear_more j k l h z =
          let first = ap (λ (a : Equation). is_among (lead_of a) (coefficients_of (row_at (set rows n r) k))) (row_before j (omega arith)) in
          elim (cases_eq k n) [
            | inl i ↦ (
                let second = ap (λ (m : ℕ). is_among (lead_of (row_at rows j)) (coefficients_of (row_at (set rows n r) m))) i in
                let third = ap (λ (a : Equation). is_among (lead_of (row_at rows j)) (coefficients_of a)) row_here in
                here (lead_of (row_at rows j)) (λ u y. reduced.clear j u (omega arith) y) (sym (first ∙ second ∙ third) ∙ z))
            | inr ne ↦ (
                let second = ap (λ (a : Equation). is_among (lead_of (row_at rows j)) (coefficients_of a)) (row_before k (omega arith)) in
                clear j k l (omega arith) (sym (first ∙ second) ∙ z))
          ]
        where
          here : (o : Option ℕ) → ((u : ℕ) → o ≡ Some u → coefficients_of r u ≡ false) → is_among o (coefficients_of r) ≡ true → ⊥
          here None none y = both_ways false refl y
          here (Some u) none y = both_ways (coefficients_of r u) (none u refl) y

      pub solutions_more : (x : List Bool) → length x ≡ v → solutions (take (n + 1) (set rows n r)) x ≡ both (solutions (take n rows)) bit x
      solutions_more x l =
          ap (λ (es : List Equation). solves es (row_of x)) (take_more_set rows n r long) ∙ solves_push (take n rows) r (row_of x) ∙ sym (both_says x l)

      pub number_more : number v (both (solutions (take n rows)) bit) ≡ 2 ^ (v - (n + 1))
      number_more =
          let size = length-set rows n r in
          sym (number_same v _ _ solutions_more) ∙ system_number v (set rows n r) (n + 1) (omega arith) led_more apart_more

      pub room_more : n < v
      room_more = system_room v rows n (omega arith) led apart w lead_low lead_new

-- one row of a table, of which the first `written` rows are led and clear
module _ (v : ℕ) (rows : List Equation) (written : ℕ) (led : Led v rows written) (clear : Clear rows written)
    (n : ℕ) (e r : Equation) (long : n < length rows) (inside : n < written) (so_far : Reduced v rows n e r) where
  lead_of_lem : (v : ℕ) (rows : List Equation) (n written : ℕ) → Led v rows written → n < written → (w : ℕ) → lead_of (row_at rows n) ≡ Some w → w < v
  lead_of_lem v rows n written led inside w lead =
      let below = below_is v (lead_of (row_at rows n)) (led n inside) in
      let both : ◌≡◌ {A = Option ℕ} (Some w) (Some below.0) = sym lead ∙ below.1 in
      let same : w ≡ below.0 = cc in
      let h = below.2 in
      omega arith

  -- its lead is among the variables so far, and the sum of the two is s
  pub row_added : (w : ℕ) (s : Equation) → lead_of (row_at rows n) ≡ Some w → coefficients_of r w ≡ true
      → coefficients_of s ≡ plus (coefficients_of r) (coefficients_of (row_at rows n)) → s.right ≡ xor r.right (row_at rows n).right → Reduced v rows (n + 1) e s
  row_added w s lead has cs rs =
      let low = lead_of_lem v rows n written led inside w lead in
      reduced_add v rows e n r long so_far w s lead low has (λ k u h z. clear_of rows written k n u clear h inside z) (lead_within v w (row_at rows n) lead low) cs rs

  pub row_passed : (w : ℕ) → lead_of (row_at rows n) ≡ Some w → coefficients_of r w ≡ false → Reduced v rows (n + 1) e r
  row_passed w lead none = reduced_skip v rows e n r long so_far w lead none

  -- a row without a lead is none of the table's
  pub row_leads : lead_of (row_at rows n) ≡ None → ⊥
  row_leads none =
      let below = below_is v (lead_of (row_at rows n)) (led n inside) in
      let both : ◌≡◌ {A = Option ℕ} None (Some below.0) = sym none ∙ below.1 in
      let z : ◌≡◌ {A = ℕ} 0 1 = cc in
      omega arith

-- what writing an equation into the row after the first n keeps
pub record Keeps (v : ℕ) (rows : List Equation) (n : ℕ) (r : Equation) : Type 0 where
  pub room : n < length rows
  pub led : Led v (set rows n r) (n + 1)
  pub apart : Apart (set rows n r) (n + 1)
  pub clear : Clear (set rows n r) (n + 1)

pub keeps : (v : ℕ) (rows : List Equation) (written n : ℕ) (r : Equation) → n ≤ written → written ≤ length rows → v ≤ length rows
    → Led v rows written → Apart rows written → Clear rows written → is_below v (lead_of r) ≡ true → ClearOf rows n r → Keeps v rows n r
keeps v rows written n r up long few led apart clear low clear-of-them =
    let lead = below_is v (lead_of r) low in
    let itself : Reduced v rows n r r = record { same = λ x _. refl; clear = clear-of-them; within = λ p. p } in
    let within : Within v r = lead_within v lead.0 r lead.1 lead.2 in
    let led-n : Led v rows n = λ k h. led k (omega arith) in
    let apart-n : Apart rows n = λ j k l h. apart j k l (omega arith) in
    let clear-n : Clear rows n = λ j k l h. clear j k l (omega arith) in
    let bit : Test = λ x. holds r (row_of x) in
    let here = lead.0 in
    let new = lead_new v rows n r r itself bit (λ x _. refl) here lead.1 within in
    let less = system_room v rows n (omega arith) led-n apart-n here lead.2 new in
    let room : n < length rows = omega arith in
    record {
      room = room;
      led = led_more v rows n r r itself bit (λ x _. refl) here lead.1 within room led-n apart-n clear-n;
      apart = apart_more v rows n r r itself bit (λ x _. refl) here lead.1 within room led-n apart-n clear-n;
      clear = clear_more v rows n r r itself bit (λ x _. refl) here lead.1 within room led-n apart-n clear-n;
    }
