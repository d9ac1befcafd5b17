-- Equations whose leads differ: how many rows solve them, and which is the first.
use Rattle.std.proofs.Common.{◌≡◌, ℕ, zero, suc, ◌-◌, ◌^◌, ◌<◌, ◌≤◌, Bool, true, false, cond, ◌&&◌, List, [], ◌∷◌, length, take, is_some, Some, None, Option, sym, refl, ap, ◌∙◌, arith}
use mathlib.Core.Bool.{beq}
use Rattle.std.proofs.lemmas.List.{length-take-le, get_or-take}
use Rattle.std.proofs.lemmas.Bool.{cond-true, cond-false}
use Rattle.bits.specs.Lists.{row_of, list_of}
use Rattle.bits.specs.Rows.{Row}
use Rattle.equations.specs.declared.Equation.{Equation}
use Rattle.equations.specs.Counting.{number, first}
use Rattle.equations.specs.Equations.{holds, solves, solutions, lead_of}
use Rattle.equations.specs.Systems.{row_at, is_below, Led, Apart}
use Rattle.equations.proofs.Counts.{number_same, first_same}
use Rattle.equations.proofs.Leads.{below_is, at_is, not_at, leader_of, leader_none, leader_from, leader_not, said_of, said_by, said_same, holds_lead}
use Rattle.equations.proofs.Triangles.{free, marked, free_marked, marked_room, marked_more, every_more, obeys, fits, number_fits, first_fits}

-- each equation has a lead below v, which none after it has
pub Sound : ℕ → List Equation → Type 0
Sound v [] = Unit {0}
Sound v (e ∷ es) = ((w : ℕ) × (lead_of e ≡ Some w) × (w < v) × (leader_of es w ≡ None)) × Sound v es

sound_list : (v : ℕ) (es : List Equation) → Led v es (length es) → Apart es (length es) → Sound v es
unfolding Sound
sound_list v [] led apart = tt
sound_list v (e ∷ es) led apart =
    let lead = below_is v (lead_of e) (led zero (omega arith)) in (
      (lead.0, lead.1, lead.2, leader_none es lead.0 (λ k h z. apart zero (suc k) (omega arith) (omega arith) (lead.1 ∙ sym z))),
      sound_list v es (λ k h. led (suc k) (omega arith)) (λ j k l h. apart (suc j) (suc k) (omega arith) (omega arith)),
    )

-- which variables lead, and by which bit each is told
module _ (es : List Equation) where
  abbrev pub told : ℕ → Bool
  told v = is_some (leader_of es v)

  abbrev pub value : ℕ → Row → Bool
  value v x = said_by (leader_of es v) v x

-- one equation more in front, with a lead that none of the others has
module _ (e : Equation) (es : List Equation) (w : ℕ) (lead : lead_of e ≡ Some w) (new : leader_of es w ≡ None) where
  here : leader_of (e ∷ es) w ≡ Some e
  here = cond-true _ (Some e) (leader_of es w) (at_is (lead_of e) w lead)

  other : (v : ℕ) → (v ≡ w → ⊥) → leader_of (e ∷ es) v ≡ leader_of es v
  other v ne = cond-false _ (Some e) (leader_of es v) (not_at (lead_of e) v (λ z. ne (same z)))
    where
      same : lead_of e ≡ Some v → v ≡ w
      same z = let both : ◌≡◌ {A = Option ℕ} (Some v) (Some w) = sym z ∙ lead in cc

  more_marked : (n : ℕ) → w < n → marked (told (e ∷ es)) n ≡ suc (marked (told es) n)
  more_marked n h = marked_more (told es) (told (e ∷ es)) w (ap is_some new) (ap is_some here) (λ v ne. ap is_some (other v ne)) n h

  more_fits : (n : ℕ) → w < n → (x : Row) → fits (told (e ∷ es)) (value (e ∷ es)) n x ≡ (holds e x && fits (told es) (value es) n x)
  more_fits n h x =
      every_more (λ v. obeys (told es) (value es) v x) (λ v. obeys (told (e ∷ es)) (value (e ∷ es)) v x) w
      (ap (λ (o : Option Equation). cond (is_some o) (beq (x w) (said_by o w x)) true) new)
      (λ v ne. ap (λ (o : Option Equation). cond (is_some o) (beq (x v) (said_by o v x)) true) (other v ne)) n h
      ∙ ap (λ (b : Bool). b && fits (told es) (value es) n x)
      (ap (λ (o : Option Equation). cond (is_some o) (beq (x w) (said_by o w x)) true) here ∙ sym (holds_lead e w x lead))

none_marked : (n : ℕ) → marked (told []) n ≡ 0
none_marked zero = refl
none_marked (suc n) = none_marked n

none_fits : (n : ℕ) (x : Row) → fits (told []) (value []) n x ≡ true
none_fits zero x = refl
none_fits (suc n) x = ap (λ (b : Bool). b && true) (none_fits n x)

-- as many variables lead as there are equations
leads_all : (v : ℕ) (es : List Equation) → Sound v es → marked (told es) v ≡ length es
unfolding Sound
leads_all v [] sound = none_marked v
leads_all v (e ∷ es) sound =
    let lead = sound.0 in
    more_marked e es lead.0 lead.1 lead.3 v lead.2 ∙ ap suc (leads_all v es sound.1)

-- a row solves the equations if each lead is as it is told to be
solves_fits : (v : ℕ) (es : List Equation) → Sound v es → (x : Row) → solves es x ≡ fits (told es) (value es) v x
unfolding Sound
solves_fits v [] sound x = sym (none_fits v x)
solves_fits v (e ∷ es) sound x =
    let lead = sound.0 in
    ap (λ (b : Bool). holds e x && b) (solves_fits v es sound.1 x) ∙ sym (more_fits e es lead.0 lead.1 lead.3 v lead.2 x)

-- a system of equations over v variables, the first n of some rows
module _ (v : ℕ) (rows : List Equation) (n : ℕ) (long : n ≤ length rows) (led : Led v rows n) (apart : Apart rows n) where
  abbrev pub system : List Equation
  system = take n rows

  many : length (take n rows) ≡ n
  many = length-take-le n rows long

  pub row_in : (k : ℕ) → k < n → row_at (take n rows) k ≡ row_at rows k
  row_in k h = get_or-take n rows k _ h

  apart_in : Apart (take n rows) (length (take n rows))
  apart_in j k l h e =
      let s = many in
      apart j k l (omega arith) (sym (ap lead_of (row_in j (omega arith))) ∙ e ∙ ap lead_of (row_in k (omega arith)))

  sound : Sound v (take n rows)
  sound =
      let s = many in
      sound_list v (take n rows) (λ k h. ap (λ (e : Equation). is_below v (lead_of e)) (row_in k (omega arith)) ∙ led k (omega arith)) apart_in

  leading : marked (told (take n rows)) v ≡ n
  leading = leads_all v (take n rows) sound ∙ many

  -- each equation halves the number of solutions
  pub system_number : number v (solutions (take n rows)) ≡ 2 ^ (v - n)
  system_number =
      let all = free_marked (told (take n rows)) v in
      let l = leading in
      let f : free (told (take n rows)) v ≡ v - n = omega arith in
      number_same v _ _ (λ x _. solves_fits v (take n rows) sound (row_of x))
      ∙ number_fits (told (take n rows)) (value (take n rows)) (λ w x y. said_same (leader_of (take n rows) w) w x y) v ∙ ap (λ (k : ℕ). 2 ^ k) f

  -- there are no more equations than variables
  pub system_few : n ≤ v
  system_few = let all = free_marked (told (take n rows)) v in let l = leading in omega arith

  -- and fewer where a variable leads none of them
  pub system_room : (w : ℕ) → w < v → ((k : ℕ) → k < n → lead_of (row_at rows k) ≡ Some w → ⊥) → n < v
  system_room w h none =
      let s = many in
      let l = leading in
      let room = marked_room (told (take n rows)) v w h (ap is_some (leader_none (take n rows) w
      (λ k i z. none k (omega arith) (sym (ap lead_of (row_in k (omega arith))) ∙ z)))) in
      omega arith

  -- the row that is 0 where it is free, and else as it is told, is the first solution
  pub record Smallest (y : Row) : Type 0 where
    pub led_by : (k w : ℕ) → k < n → lead_of (row_at rows k) ≡ Some w → y w ≡ said_of (row_at rows k) w y
    pub free_is : (w : ℕ) → w < v → ((k : ℕ) → k < n → lead_of (row_at rows k) ≡ Some w → ⊥) → y w ≡ false

  pub system_first : (y : Row) → Smallest y → first v (solutions (take n rows)) ≡ Some (list_of v y)
  system_first y small =
      first_same v _ _ (λ x _. solves_fits v (take n rows) sound (row_of x))
      ∙ first_fits (told (take n rows)) (value (take n rows)) (λ w a b. said_same (leader_of (take n rows) w) w a b) v y
      (λ w h. each w h (leader_of (take n rows) w) refl)
    where
      each : (w : ℕ) → w < v → (o : Option Equation) → leader_of (take n rows) w ≡ o
          → y w ≡ cond (is_some (leader_of (take n rows) w)) (said_by (leader_of (take n rows) w) w y) false
      each w h None e =
          small.free_is w h (λ k l z. leader_not (take n rows) w e k (let s = many in omega arith) (ap lead_of (row_in k l) ∙ z))
          ∙ sym (ap (λ (o : Option Equation). cond (is_some o) (said_by o w y) false) e)
      each w h (Some a) e =
          let by = leader_from (take n rows) w a e in
          let s = many in
          let l = by.within in
          let same : row_at rows by.place ≡ a = sym (row_in by.place (omega arith)) ∙ by.is in
          small.led_by by.place w (omega arith) (ap lead_of same ∙ by.leads) ∙ ap (λ (b : Equation). said_of b w y) same
          ∙ sym (ap (λ (o : Option Equation). cond (is_some o) (said_by o w y) false) e)
