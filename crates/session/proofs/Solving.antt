-- The first solution: who leads, and the variables one by one.
use Rattle.std.proofs.Common.{◌≡◌, ℕ, suc, Bor, ◌+◌, ◌/◌, ◌<◌, ◌≤◌, Bool, true, false, not, ◌&&◌, ◌||◌, eqb, List, [], ◌∷◌, ◌++◌, map, length, get_or, drop, set, replicate, Some, None, Option, sym, refl, ap, ◌∙◌, subst, ap₂, inl, inr, add-zero, arith, MatchOption}
use mathlib.Core.Bool.{beq, and-false}
use Rattle.std.proofs.lemmas.List.{append_assoc, length-map, length-set, map_push, drop_more, set_at, get_or-replicate, get_or_past, get_or-set_same, get_or-set_other}
use Rattle.std.proofs.lemmas.Bool.{ltb-true, cases_eq, cases_lt, cases_order, eq-eqb, ne_eqb}
use Rattle.std.proofs.Math.Bool.{or-false}
use Rattle.std.proofs.Math.Seq.{take-length}
use Rattle.std.specs.Fn.{Called, Mut}
use Rattle.std.specs.List.{enumerate_from, FoldsTo}
use Rattle.bits.specs.Digits.{digit_of, digits_of}
use Rattle.bits.specs.Lists.{list_of}
use Rattle.bits.specs.Rows.{Row, xor, upto, sum_of}
use Rattle.bits.proofs.Lists.{length_list_of, list_of_more}
use Rattle.bits.proofs.Sums.{sum_same, sum_cut, upto_at, upto_past}
use Rattle.equations.specs.declared.Equation.{Equation}
use Rattle.equations.specs.Equations.{coefficients_of, dot, lead_of, solutions, words_row}
use Rattle.equations.specs.Counting.{first}
use Rattle.equations.specs.Systems.{row_at, is_below, Apart}
use Rattle.equations.proofs.FourWords.{word_none}
use Rattle.equations.proofs.Leads.{said_of}
use Rattle.equations.proofs.Solved.{system_first}
use Rattle.session.specs.declared.in_force.InForce.{InForce}
use Rattle.session.specs.Leaders.{NoneLed, IsLeader, Leaders, Told}

same_some : (a b : ℕ) (o : Option ℕ) → o ≡ Some a → o ≡ Some b → a ≡ b
same_some a b o p q = cc

-- what is said of one variable
abbrev pub LedAt : List Equation → ℕ → ℕ → Option (Bor Equation) → Type 0
LedAt rows n v o = MatchOption o (NoneLed rows n v) (λ e. IsLeader rows n v e.now)

-- the leaders among the first n rows, in a list of 256
pub record LeadersOf (rows : List Equation) (n : ℕ) (leaders : List (Option (Bor Equation))) : Type 0 where
  pub long : length leaders ≡ 256
  pub each : Leaders rows n leaders

pub leaders_none : (rows : List Equation) → LeadersOf rows 0 (replicate 256 None)
leaders_none rows = record { long = refl; each = λ v h. subst (LedAt rows 0 v) (sym (get_or-replicate 256 v None None h)) (λ k l. absurd (omega arith)) }

-- one row more, which does not lead with v
led_on : (rows : List Equation) (n v : ℕ) (o : Option (Bor Equation)) → (lead_of (row_at rows n) ≡ Some v → ⊥) → LedAt rows n v o → LedAt rows (n + 1) v o
led_on rows n v None ne none = λ k h z. elim (cases_eq k n) [ inl e ↦ ne (ap (λ (j : ℕ). lead_of (row_at rows j)) (sym e) ∙ z) | inr d ↦ none k (omega arith) z ]
led_on rows n v (Some e) ne led = let l = led.within in record { place = led.place; within = omega arith; is = led.is; leads = led.leads }

pub leaders_more : (rows : List Equation) (n : ℕ) (leaders : List (Option (Bor Equation))) (w : ℕ) (e : Bor Equation) → e.now ≡ row_at rows n
    → lead_of (row_at rows n) ≡ Some w → w < 256 → LeadersOf rows n leaders → LeadersOf rows (n + 1) (set leaders w (Some e))
leaders_more rows n leaders w e is lead low so_far = record {
  long = length-set leaders w (Some e) ∙ so_far.long;
  each = λ v h.
      elim (cases_eq v w) [
        | inl same ↦ (
            let there : get_or (set leaders w (Some e)) v None ≡ Some e =
            ap (λ (i : ℕ). get_or (set leaders w (Some e)) i None) same ∙ get_or-set_same leaders w (Some e) None (let l = so_far.long in omega arith) in
            subst (LedAt rows (n + 1) v) (sym there) (record { place = n; within = omega arith; is = is; leads = lead ∙ ap Some (sym same) }))
        | inr ne ↦ (
            subst (LedAt rows (n + 1) v) (sym (get_or-set_other leaders w v (Some e) None ne))
            (led_on rows n v (get_or leaders v None) (λ z. ne (same_some v w (lead_of (row_at rows n)) z lead)) (so_far.each v h)))
      ];
}

pub leaders_skip : (rows : List Equation) (n : ℕ) (leaders : List (Option (Bor Equation))) → lead_of (row_at rows n) ≡ None → LeadersOf rows n leaders → LeadersOf rows (n + 1) leaders
leaders_skip rows n leaders none so_far = record {
  long = so_far.long;
  each = λ v h. led_on rows n v (get_or leaders v None) (λ z. absurd (let both : ◌≡◌ {A = Option ℕ} None (Some v) = sym none ∙ z in let y : ◌≡◌ {A = ℕ} 0 1 = cc in omega arith)) (so_far.each v h);
}

-- of a row that is 0 from v on, only the bits below v count
dot_below : (c y : Row) (v : ℕ) → v ≤ 256 → ((i : ℕ) → v ≤ i → y i ≡ false) → dot c y ≡ sum_of v (λ i. c i && y i)
unfolding dot
dot_below c y v h past = sum_cut v 256 (λ i. c i && y i) (λ i a _. ap (λ (b : Bool). c i && b) (past i a) ∙ and-false (c i)) h

-- the variables below v are as the first solution has them, and the others are 0
pub record Solving (rows : List Equation) (n v : ℕ) (y : Row) : Type 0 where
  pub led : (k w : ℕ) → k < n → lead_of (row_at rows k) ≡ Some w → w < v → y w ≡ said_of (row_at rows k) w y
  pub free : (w : ℕ) → w < v → NoneLed rows n w → y w ≡ false
  pub past : (i : ℕ) → v ≤ i → y i ≡ false

no_bits : (i : ℕ) → words_row (replicate 4 0) i ≡ false
no_bits i = word_none (replicate 4 0) i (elim (cases_lt (i / 64) 4) [ inl l ↦ get_or-replicate 4 (i / 64) 0 0 l | inr l ↦ get_or_past (replicate 4 0) (i / 64) 0 l ])

pub solving_none : (rows : List Equation) (n : ℕ) → Solving rows n 0 (words_row (replicate 4 0))
solving_none rows n = record { led = λ k w h z l. absurd (omega arith); free = λ w l. absurd (omega arith); past = λ i _. no_bits i }

-- a variable that leads nothing stays 0
pub solving_free : (rows : List Equation) (n v : ℕ) (y : Row) → NoneLed rows n v → Solving rows n v y → Solving rows n (v + 1) y
solving_free rows n v y none s = record {
  led = λ k w h z l. elim (cases_eq w v) [ inl e ↦ absurd (none k h (z ∙ ap Some e)) | inr ne ↦ s.led k w h z (omega arith) ];
  free = λ w l no_one. elim (cases_eq w v) [ inl e ↦ s.past w (omega arith) | inr ne ↦ s.free w (omega arith) no_one ];
  past = λ i l. s.past i (omega arith);
}

-- a variable that leads is told by its equation
module _ (rows : List Equation) (n v : ℕ) (y z : Row) (k : ℕ) (told : Bool) (small : v < 256) (inside : k < n) (lead : lead_of (row_at rows k) ≡ Some v)
    (apart : Apart rows n) (is-told : told ≡ xor (row_at rows k).right (dot (coefficients_of (row_at rows k)) y))
    (is : z ≡ upto 256 (λ i. y i || (eqb v i && told))) (s : Solving rows n v y) where
  z_other : (i : ℕ) → (i ≡ v → ⊥) → z i ≡ y i
  z_other i ne =
      ap (λ (r : Row). r i) is ∙ elim (cases_lt i 256) [
        | inl l ↦ upto_at 256 (λ j. y j || (eqb v j && told)) i l ∙ ap (λ (b : Bool). y i || (b && told)) (ne_eqb v i (λ e. ne (sym e))) ∙ or-false (y i)
        | inr l ↦ upto_past 256 (λ j. y j || (eqb v j && told)) i l ∙ sym (s.past i (omega arith))
      ]

  z_here : z v ≡ told
  z_here =
      ap (λ (r : Row). r v) is ∙ upto_at 256 (λ j. y j || (eqb v j && told)) v small
      ∙ ap₂ (λ (a b : Bool). a || (b && told)) (s.past v (omega arith)) (eq-eqb v v refl)

  -- what an equation says of a variable goes by those before
  said_z : (e : Equation) (w : ℕ) → w ≤ v → said_of e w y ≡ said_of e w z
  said_z e w low = ap (xor e.right) (sum_same w _ _ (λ i h. ap (λ (b : Bool). coefficients_of e i && b) (sym (z_other i (λ q. omega arith)))))

  told_is : told ≡ said_of (row_at rows k) v y
  told_is = is-told ∙ ap (xor (row_at rows k).right) (dot_below (coefficients_of (row_at rows k)) y v (omega arith) s.past)

  one_leader : (j : ℕ) → j < n → lead_of (row_at rows j) ≡ Some v → j ≡ k
  one_leader j h q = elim (cases_order j k) [
    | inl e ↦ e
    | inr other ↦ elim other [ inl l ↦ absurd (apart j k l inside (q ∙ sym lead)) | inr l ↦ absurd (apart k j l h (lead ∙ sym q)) ]
  ]

  pub solving_led : Solving rows n (v + 1) z
  solving_led = record {
    led = λ j w h q l. elim (cases_eq w v) [
      | inl e ↦ (
          ap z e ∙ z_here ∙ told_is ∙ said_z (row_at rows k) v (omega arith)
          ∙ ap₂ (λ (i u : ℕ). said_of (row_at rows i) u z) (sym (one_leader j h (q ∙ ap Some e))) (sym e))
      | inr ne ↦ z_other w ne ∙ s.led j w h q (omega arith) ∙ said_z (row_at rows j) w (omega arith)
    ];
    free = λ w l no_one. elim (cases_eq w v) [ inl e ↦ absurd (no_one k inside (lead ∙ ap Some (sym e))) | inr ne ↦ z_other w ne ∙ s.free w (omega arith) no_one ];
    past = λ i l. z_other i (λ q. omega arith) ∙ s.past i (omega arith);
  }

pub solving_all : (s : InForce) (v : ℕ) (y : Row) → s.variables ≤ v → Solving s.rows.now (length s.rows.now) v y
    → first s.variables (solutions s.rows.now) ≡ Some (list_of s.variables y)
solving_all s v y all solved =
    let rows = s.rows.now in
    ap (λ (es : List Equation). first s.variables (solutions es)) (sym (take-length rows))
    ∙ system_first s.variables rows (length rows) (omega arith) s.led s.apart y (record {
      led_by = λ k w h z. solved.led k w h z (let low = lead_low (s.led k h) z in omega arith);
      free_is = λ w h none. solved.free w (omega arith) none;
    })
  where
    lead_low : {o : Option ℕ} {w : ℕ} → is_below s.variables o ≡ true → o ≡ Some w → w < s.variables
    lead_low {o} {w} low is = ltb-true w s.variables (ap (is_below s.variables) (sym is) ∙ low)

-- `a != b` of two flags
pub differ : (a b : Bool) → not (beq a b) ≡ xor a b
differ true true = refl
differ true false = refl
differ false true = refl
differ false false = refl

-- a fold over the elements of a list with their indices, each call of which leaves the closure as it is and takes what holds one index on
pub folds_on : {A X C F : Type 0} (g : Mut F (C × (A × Unit {0})) C) (v : A → ℕ × X) (R : C → ℕ × X → C → Type 0) (f : F)
    → ((a : C) (x : A) (b : C) (q : F) → Called g f (a, (x, tt)) b q → (q ≡ f) × R a (v x) b)
    → (Holds : ℕ → C → Type 0) (P : ℕ → X → Type 0) → ((k : ℕ) (x : X) (a b : C) → P k x → Holds k a → R a (k, x) b → Holds (k + 1) b)
    → (d : X) (xs : List A) (all : List X) (i : ℕ) → map v xs ≡ enumerate_from i all → ((k : ℕ) → k < length all → P (i + k) (get_or all k d))
    → (a r : C) (p q : F) → p ≡ f → FoldsTo {P = F × C} (λ s x t. Called g s.0 (s.1, (x, tt)) t.1 t.0) (p, a) xs (q, r) → Holds i a → Holds (i + length all) r
folds_on {A} {X} {C} {F} g v R f calls Holds P step d [] [] i e at a r p q same folds j =
    let done : a ≡ r = ap (λ (s : F × C). s.1) folds in
    subst (Holds (i + 0)) done (subst (λ (k : ℕ). Holds k a) (sym (add-zero i)) j)
folds_on g v R f calls Holds P step d [] (y ∷ all) i e at a r p q same folds j = absurd (let z : ◌≡◌ {A = ℕ} 0 1 = cc in omega arith)
folds_on g v R f calls Holds P step d (x ∷ xs) [] i e at a r p q same folds j = absurd (let z : ◌≡◌ {A = ℕ} 0 1 = cc in omega arith)
folds_on {A} {X} {C} {F} g v R f calls Holds P step d (x ∷ xs) (y ∷ all) i e at a r p q same folds j =
    let first : v x ≡ (i, y) = cc in
    let others : map v xs ≡ enumerate_from (i + 1) all = cc in
    let call = calls a x folds.0.1 folds.0.0 (subst (λ (h : F). Called g h (a, (x, tt)) folds.0.1 folds.0.0) same folds.1) in
    let here : P i y = subst (λ (k : ℕ). P k y) (add-zero i) (at 0 (omega arith)) in
    let next : Holds (i + 1) folds.0.1 = step i y a folds.0.1 here j (subst (λ (w : ℕ × X). R a w folds.0.1) first call.1) in
    subst (λ (k : ℕ). Holds k r) (omega arith)
    (folds_on g v R f calls Holds P step d xs all (i + 1) others
    (λ k h. let k' : i + suc k ≡ i + 1 + k = omega arith in subst (λ (n : ℕ). P n (get_or all k d)) k' (at (suc k) (omega arith))) folds.0.1 r folds.0.0 q call.0 folds.2 next)

-- one variable more
pub solving_on : (s : InForce) (v : ℕ) (o : Option (Bor Equation)) (a b : List ℕ) → v < 256 → LedAt s.rows.now (length s.rows.now) v o
    → Solving s.rows.now (length s.rows.now) v (words_row a) → Told a v o b → Solving s.rows.now (length s.rows.now) (v + 1) (words_row b)
unfolding Told
solving_on s v None a b small led so_far told =
    subst (λ (w : List ℕ). Solving s.rows.now (length s.rows.now) (v + 1) (words_row w)) (sym told) (solving_free s.rows.now (length s.rows.now) v (words_row a) led so_far)
solving_on s v (Some e) a b small led so_far told =
    solving_led s.rows.now (length s.rows.now) v (words_row a) (words_row b) led.place _ small led.within led.leads s.apart
    (ap (λ (r : Equation). xor r.right (dot (coefficients_of r) (words_row a))) led.is)
    told so_far

-- one digit more over the beginning of memory
pub digits_more : (i d : ℕ) (s : Row) (memory now : List ℕ) → i < length memory → now ≡ digits_of i s ++ drop i memory → d ≡ digit_of (s i)
    → set now i d ≡ digits_of (i + 1) s ++ drop (i + 1) memory
digits_more i d s memory now h so_far is =
    let many : length (digits_of i s) ≡ i = length-map (list_of i s) digit_of ∙ length_list_of i s in
    ap (λ (xs : List ℕ). set xs i d) (so_far ∙ ap (λ (ys : List ℕ). digits_of i s ++ ys) (drop_more memory i 0 h))
    ∙ set_at (digits_of i s) (get_or memory i 0) (drop (i + 1) memory) d i many
    ∙ sym (append_assoc (digits_of i s) (d ∷ []) (drop (i + 1) memory))
    ∙ ap (λ (xs : List ℕ). xs ++ drop (i + 1) memory)
    (ap (λ (e : ℕ). digits_of i s ++ (e ∷ [])) is ∙ sym (map_push digit_of (list_of i s) (s i)) ∙ ap (map digit_of) (sym (list_of_more i s)))
