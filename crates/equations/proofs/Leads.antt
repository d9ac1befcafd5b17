-- Leads: what they say of an equation, and which equation of a list has a given one.
use Rattle.std.proofs.Common.{◌≡◌, ℕ, zero, suc, ◌<◌, Bool, true, false, cond, ◌&&◌, eqb, List, [], ◌∷◌, length, Some, None, Option, sym, refl, ap, ◌∙◌, inl, inr, arith}
use mathlib.Core.Bool.{beq}
use Rattle.std.proofs.lemmas.Bool.{false≢true, both_ways, cases_eq, ltb-true, eq-eqb, ne_eqb, eqb-true, cond-true, cond-false}
use Rattle.bits.specs.Rows.{Row, xor, sum_of}
use Rattle.bits.proofs.Sums.{sum_same, sum_cut, sum_none}
use Rattle.equations.specs.declared.Equation.{Equation}
use Rattle.equations.specs.Equations.{coefficients_of, dot, holds, highest, last_bit, lead_of}
use Rattle.equations.specs.Systems.{row_at, is_below, Apart}

-- what the highest place says
pub record Top (n : ℕ) (c : Row) (v : ℕ) : Type 0 where
  pub below : v < n
  pub set : c v ≡ true
  pub above : (i : ℕ) → v < i → i < n → c i ≡ false

highest_top : (n : ℕ) (c : Row) (v : ℕ) → highest n c ≡ Some v → Top n c v
highest_top zero c v e = absurd (let z : ◌≡◌ {A = ℕ} 0 1 = cc in omega arith)
highest_top (suc n) c v e = go (c n) refl e (highest_top n c v)
  where
    go : (b : Bool) → c n ≡ b → cond b (Some n) (highest n c) ≡ Some v → (highest n c ≡ Some v → Top n c v) → Top (suc n) c v
    go true p e more =
        let same : n ≡ v = cc in
        record { below = omega arith; set = ap c (sym same) ∙ p; above = λ i l h. absurd (omega arith) }
    go false p e more =
        let t = more e in
        let l = t.below in
        record {
          below = omega arith;
          set = t.set;
          above = λ i k h. elim (cases_eq i n) [ inl z ↦ ap c z ∙ p | inr ne ↦ t.above i k (omega arith) ];
        }

highest_nothing : (n : ℕ) (c : Row) → highest n c ≡ None → (i : ℕ) → i < n → c i ≡ false
highest_nothing zero c e i h = absurd (omega arith)
highest_nothing (suc n) c e i h = go (c n) refl e (highest_nothing n c)
  where
    go : (b : Bool) → c n ≡ b → cond b (Some n) (highest n c) ≡ None → (highest n c ≡ None → (i : ℕ) → i < n → c i ≡ false) → c i ≡ false
    go true p e more = absurd (let z : ◌≡◌ {A = ℕ} 0 1 = cc in omega arith)
    go false p e more = elim (cases_eq i n) [ inl z ↦ ap c z ∙ p | inr ne ↦ more e i (omega arith) ]

pub lead_top : (e : Equation) (v : ℕ) → lead_of e ≡ Some v → Top 256 (coefficients_of e) v
unfolding last_bit
lead_top e v h = highest_top 256 (coefficients_of e) v h

pub lead_none : (e : Equation) → lead_of e ≡ None → (i : ℕ) → i < 256 → coefficients_of e i ≡ false
unfolding last_bit
lead_none e h = highest_nothing 256 (coefficients_of e) h

-- an equation without variables holds of every row, or of none
pub holds_none : (e : Equation) (x : Row) → lead_of e ≡ None → holds e x ≡ beq false e.right
unfolding dot
holds_none e x h =
    ap (λ (b : Bool). beq b e.right) (sum_none 256 (λ i. coefficients_of e i && x i) (λ i l. ap (λ (b : Bool). b && x i) (lead_none e h i l)))

-- what an equation tells its lead to be, by the variables before
abbrev pub said_of : Equation → ℕ → Row → Bool
said_of e v x = xor e.right (sum_of v (λ i. coefficients_of e i && x i))

-- an equation holds if its lead is as it is told to be
pub holds_lead : (e : Equation) (v : ℕ) (x : Row) → lead_of e ≡ Some v → holds e x ≡ beq (x v) (said_of e v x)
unfolding dot
holds_lead e v x h =
    let t = lead_top e v h in
    let c : Row = coefficients_of e in
    let s : Row = λ i. c i && x i in
    ap (λ (b : Bool). beq b e.right) (sum_cut (suc v) 256 s (λ i a b. ap (λ (u : Bool). u && x i) (t.above i a b)) t.below ∙ ap (λ (b : Bool). xor (sum_of v s) (b && x v)) t.set) ∙ turn (sum_of v s) (x v) e.right
  where
    turn : (a b r : Bool) → beq (xor a b) r ≡ beq b (xor r a)
    turn true true true = refl
    turn true true false = refl
    turn true false true = refl
    turn true false false = refl
    turn false true true = refl
    turn false true false = refl
    turn false false true = refl
    turn false false false = refl

-- whether a lead is this variable
abbrev pub is_at : Option ℕ → ℕ → Bool
is_at None v = false
is_at (Some w) v = eqb w v

pub is_at_lem : (o : Option ℕ) (v : ℕ) → is_at o v ≡ true → o ≡ Some v
is_at_lem None v h = absurd (false≢true h)
is_at_lem (Some w) v h = ap Some (eqb-true w v h)

pub at_is : (o : Option ℕ) (v : ℕ) → o ≡ Some v → is_at o v ≡ true
at_is o v e = ap (λ (u : Option ℕ). is_at u v) e ∙ eq-eqb v v refl

pub not_at : (o : Option ℕ) (v : ℕ) → (o ≡ Some v → ⊥) → is_at o v ≡ false
not_at None v ne = refl
not_at (Some w) v ne = ne_eqb w v (λ z. ne (ap Some z))

-- the lead that a lead below n is
pub below_is : (n : ℕ) (o : Option ℕ) → is_below n o ≡ true → (v : ℕ) × (o ≡ Some v) × (v < n)
below_is n None h = absurd (false≢true h)
below_is n (Some v) h = (v, refl, ltb-true v n h)

-- the first equation of a list with a given lead
abbrev pub leader_of : List Equation → ℕ → Option Equation
leader_of [] v = None
leader_of (e ∷ es) v = cond (is_at (lead_of e) v) (Some e) (leader_of es v)

pub leader_none : (es : List Equation) (v : ℕ) → ((k : ℕ) → k < length es → lead_of (row_at es k) ≡ Some v → ⊥) → leader_of es v ≡ None
leader_none [] v ne = refl
leader_none (e ∷ es) v ne =
    cond-false _ (Some e) (leader_of es v) (not_at (lead_of e) v (ne zero (omega arith))) ∙ leader_none es v (λ k h. ne (suc k) (omega arith))

-- where no two leads are the same, the equation that leads with a variable is the one that has it
pub leader_at : (es : List Equation) (k v : ℕ) → Apart es (length es) → k < length es → lead_of (row_at es k) ≡ Some v → leader_of es v ≡ Some (row_at es k)
leader_at [] k v apart h e = absurd (omega arith)
leader_at (a ∷ es) zero v apart h e = cond-true _ (Some a) (leader_of es v) (at_is (lead_of a) v e)
leader_at (a ∷ es) (suc k) v apart h e =
    cond-false _ (Some a) (leader_of es v) (not_at (lead_of a) v (λ z. apart zero (suc k) (omega arith) h (z ∙ sym e)))
    ∙ leader_at es k v (λ i j l m. apart (suc i) (suc j) (omega arith) (omega arith)) (omega arith) e

-- an equation of the list that has the lead
pub record Leader (es : List Equation) (v : ℕ) (e : Equation) : Type 0 where
  pub place : ℕ
  pub within : place < length es
  pub is : row_at es place ≡ e
  pub leads : lead_of e ≡ Some v

pub leader_from : (es : List Equation) (v : ℕ) (e : Equation) → leader_of es v ≡ Some e → Leader es v e
leader_from [] v e h = absurd (let z : ◌≡◌ {A = ℕ} 0 1 = cc in omega arith)
leader_from (a ∷ es) v e h = go (is_at (lead_of a) v) refl h (leader_from es v e)
  where
    go : (b : Bool) → is_at (lead_of a) v ≡ b → cond b (Some a) (leader_of es v) ≡ Some e → (leader_of es v ≡ Some e → Leader es v e) → Leader (a ∷ es) v e
    go true p h more =
        let same : a ≡ e = cc in
        record { place = zero; within = omega arith; is = same; leads = ap lead_of (sym same) ∙ is_at_lem (lead_of a) v p }
    go false p h more =
        let m = more h in
        let l = m.within in
        record { place = suc m.place; within = omega arith; is = m.is; leads = m.leads }

pub leader_not : (es : List Equation) (v : ℕ) → leader_of es v ≡ None → (k : ℕ) → k < length es → lead_of (row_at es k) ≡ Some v → ⊥
leader_not [] v h k l e = absurd (omega arith)
leader_not (a ∷ es) v h k l e = go (is_at (lead_of a) v) refl h (leader_not es v) k l e
  where
    go : (b : Bool) → is_at (lead_of a) v ≡ b → cond b (Some a) (leader_of es v) ≡ None
        → (leader_of es v ≡ None → (k : ℕ) → k < length es → lead_of (row_at es k) ≡ Some v → ⊥)
        → (k : ℕ) → k < length (a ∷ es) → lead_of (row_at (a ∷ es) k) ≡ Some v → ⊥
    go true p h more k l e = let z : ◌≡◌ {A = ℕ} 0 1 = cc in omega arith
    go false p h more zero l e = both_ways (is_at (lead_of a) v) p (at_is (lead_of a) v e)
    go false p h more (suc k) l e = more h k (omega arith) e

-- by which bit a variable is told, if it leads an equation
abbrev pub said_by : Option Equation → ℕ → Row → Bool
said_by None v x = false
said_by (Some e) v x = said_of e v x

pub said_same : (o : Option Equation) (v : ℕ) (x y : Row) → ((i : ℕ) → i < v → x i ≡ y i) → said_by o v x ≡ said_by o v y
said_same None v x y same = refl
said_same (Some e) v x y same =
    ap (xor e.right) (sum_same v _ _ (λ i h. ap (λ (b : Bool). coefficients_of e i && b) (same i h)))
