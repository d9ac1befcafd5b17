-- Systems in which each variable is free or told by those before it: how many rows fit, and which is the first.
use Rattle.std.proofs.Common.{◌≡◌, ℕ, zero, suc, ◌+◌, ◌^◌, ◌<◌, ◌≤◌, Bool, true, false, cond, not, ◌&&◌, List, [], ◌∷◌, ◌++◌, length, Some, sym, refl, ap, ◌∙◌, ap₂, inl, inr, pow-suc, arith}
use mathlib.Core.Bool.{beq, and-true, and-false}
use Rattle.std.proofs.Math.Bool.{and_assoc, and_comm}
use Rattle.std.proofs.lemmas.List.{get_or_append_left, get_or_at}
use Rattle.std.proofs.lemmas.Bool.{false≢true, cases_eq, and_left}
use Rattle.bits.specs.Lists.{row_of, list_of}
use Rattle.bits.specs.Rows.{Row, xor}
use Rattle.bits.proofs.Lists.{length_list_of, row_of_list_of}
use Rattle.equations.specs.Counting.{number, first, before}
use Rattle.equations.proofs.Counts.{number_same, number_split, number_last, first_is}

-- of the first n variables, how many are free and how many are told
module _ (told : ℕ → Bool) where
  abbrev pub free : ℕ → ℕ
  free zero = 0
  free (suc v) = cond (told v) (free v) (suc (free v))

  abbrev pub marked : ℕ → ℕ
  marked zero = 0
  marked (suc v) = cond (told v) (suc (marked v)) (marked v)

  free_more : (b : Bool) (f k n : ℕ) → f + k ≡ n → cond b f (suc f) + cond b (suc k) k ≡ suc n
  free_more true f k n e = omega arith
  free_more false f k n e = omega arith

  pub free_marked : (n : ℕ) → free n + marked n ≡ n
  free_marked zero = refl
  free_marked (suc n) = free_more (told n) (free n) (marked n) n (free_marked n)

  -- a variable that is free leaves room for one more
  pub marked_room : (n v : ℕ) → v < n → told v ≡ false → marked n < n
  marked_room zero v h none = absurd (omega arith)
  marked_room (suc n) v h none =
      elim (cases_eq n v) [
        | inl e ↦ (
            let k : cond (told n) (suc (marked n)) (marked n) ≡ marked n = ap (λ (b : Bool). cond b (suc (marked n)) (marked n)) (ap told e ∙ none) in
            let all = free_marked n in omega arith)
        | inr ne ↦ up (told n) (marked n) n (marked_room n v (omega arith) none)
      ]
    where
      up : (b : Bool) (k n : ℕ) → k < n → cond b (suc k) k < suc n
      up true k n h = omega arith
      up false k n h = omega arith

module _ (told more : ℕ → Bool) where
  marked_same : (n : ℕ) → ((i : ℕ) → i < n → more i ≡ told i) → marked more n ≡ marked told n
  marked_same zero same = refl
  marked_same (suc n) same = ap₂ (λ (b : Bool) (k : ℕ). cond b (suc k) k) (same n (omega arith)) (marked_same n (λ i h. same i (omega arith)))

  -- one variable more is told
  pub marked_more : (v : ℕ) → told v ≡ false → more v ≡ true → ((i : ℕ) → (i ≡ v → ⊥) → more i ≡ told i) → (n : ℕ) → v < n → marked more n ≡ suc (marked told n)
  marked_more v was is other zero h = absurd (omega arith)
  marked_more v was is other (suc n) h =
      elim (cases_eq n v) [
        | inl e ↦ (
            ap₂ (λ (b : Bool) (k : ℕ). cond b (suc k) k) (ap more e ∙ is) (marked_same n (λ i l. other i (λ z. omega arith)))
            ∙ sym (ap (λ (b : Bool). suc (cond b (suc (marked told n)) (marked told n))) (ap told e ∙ was)))
        | inr ne ↦ (
            ap₂ (λ (b : Bool) (k : ℕ). cond b (suc k) k) (other n ne) (marked_more v was is other n (omega arith)) ∙ out (told n) (marked told n))
      ]
    where
      out : (b : Bool) (k : ℕ) → cond b (suc (suc k)) (suc k) ≡ suc (cond b (suc k) k)
      out true k = refl
      out false k = refl

-- each of the first n passes
abbrev pub every : (ℕ → Bool) → ℕ → Bool
every o zero = true
every o (suc n) = every o n && o n

module _ (o more : ℕ → Bool) where
  every_same : (n : ℕ) → ((i : ℕ) → i < n → more i ≡ o i) → every more n ≡ every o n
  every_same zero same = refl
  every_same (suc n) same = ap₂ ◌&&◌ (every_same n (λ i h. same i (omega arith))) (same n (omega arith))

  -- a test that only one of them has to pass
  pub every_more : (v : ℕ) → o v ≡ true → ((i : ℕ) → (i ≡ v → ⊥) → more i ≡ o i) → (n : ℕ) → v < n → every more n ≡ (more v && every o n)
  every_more v was other zero h = absurd (omega arith)
  every_more v was other (suc n) h =
      elim (cases_eq n v) [
        | inl e ↦ (
            ap₂ ◌&&◌ (every_same n (λ i l. other i (λ z. omega arith))) (ap more e) ∙ and_comm (every o n) (more v)
            ∙ ap (λ (b : Bool). more v && b) (sym (and-true (every o n)) ∙ ap (λ (b : Bool). every o n && b) (sym was ∙ ap o (sym e))))
        | inr ne ↦ (
            ap₂ ◌&&◌ (every_more v was other n (omega arith)) (other n ne) ∙ and_assoc (more v) (every o n) (o n))
      ]

-- `told` says which variables are told, and `value` by which bit
module _ (told : ℕ → Bool) (value : ℕ → Row → Bool) where
  -- variable v is as it is told to be
  abbrev pub obeys : ℕ → Row → Bool
  obeys v x = cond (told v) (beq (x v) (value v x)) true

  -- the first n variables are
  abbrev pub fits : ℕ → Row → Bool
  fits n x = every (λ v. obeys v x) n

-- x is 0 and y is 1 at a place below n, and before it they agree
record Differ (n : ℕ) (x y : Row) : Type 0 where
  at : ℕ
  below : at < n
  alike : (i : ℕ) → i < at → x i ≡ y i
  low : x at ≡ false
  high : y at ≡ true

differ_later : (n : ℕ) (x y : Row) → x zero ≡ y zero → Differ n (λ i. x (suc i)) (λ i. y (suc i)) → Differ (suc n) x y
differ_later n x y e d = let h = d.below in record { at = suc d.at; below = omega arith; alike = alike; low = d.low; high = d.high }
  where
    alike : (i : ℕ) → i < suc d.at → x i ≡ y i
    alike zero l = e
    alike (suc i) l = d.alike i (omega arith)

before_differs : (n : ℕ) (x y : Row) → before n x y ≡ true → Differ n x y
before_differs zero x y h = absurd (false≢true h)
before_differs (suc n) x y h = go (x zero) (y zero) refl refl h (before_differs n (λ i. x (suc i)) (λ i. y (suc i)))
  where
    go : (a b : Bool) → x zero ≡ a → y zero ≡ b → cond (xor a b) b (before n (λ i. x (suc i)) (λ i. y (suc i))) ≡ true
        → (before n (λ i. x (suc i)) (λ i. y (suc i)) ≡ true → Differ n (λ i. x (suc i)) (λ i. y (suc i))) → Differ (suc n) x y
    go true true p q h more = differ_later n x y (p ∙ sym q) (more h)
    go true false p q h more = absurd (false≢true h)
    go false true p q h more = record { at = zero; below = omega arith; alike = λ i l. absurd (omega arith); low = p; high = q }
    go false false p q h more = differ_later n x y (p ∙ sym q) (more h)

-- a variable is told by those before it
module _ (told : ℕ → Bool) (value : ℕ → Row → Bool) (lower : (v : ℕ) (x y : Row) → ((i : ℕ) → i < v → x i ≡ y i) → value v x ≡ value v y) where
  obeys_same : (v : ℕ) (x y : Row) → ((i : ℕ) → i < suc v → x i ≡ y i) → obeys told value v x ≡ obeys told value v y
  obeys_same v x y same =
      ap₂ (λ (a b : Bool). cond (told v) (beq a b) true) (same v (omega arith)) (lower v x y (λ i h. same i (omega arith)))

  fits_same : (n : ℕ) (x y : Row) → ((i : ℕ) → i < n → x i ≡ y i) → fits told value n x ≡ fits told value n y
  fits_same zero x y same = refl
  fits_same (suc n) x y same = ap₂ ◌&&◌ (fits_same n x y (λ i h. same i (omega arith))) (obeys_same n x y same)

  -- one bit more at the end
  fits_last : (n : ℕ) (b : Bool) (x : List Bool) → length x ≡ n
      → fits told value (suc n) (row_of (x ++ (b ∷ []))) ≡ (fits told value n (row_of x) && cond (told n) (beq b (value n (row_of x))) true)
  fits_last n b x l =
      let front : (i : ℕ) → i < n → row_of (x ++ (b ∷ [])) i ≡ row_of x i = λ i h. get_or_append_left x (b ∷ []) false i (omega arith) in
      ap₂ (λ (u w : Bool). u && w) (fits_same n (row_of (x ++ (b ∷ []))) (row_of x) front)
      (ap₂ (λ (a c : Bool). cond (told n) (beq a c) true) (get_or_at x b [] false n l) (lower n (row_of (x ++ (b ∷ []))) (row_of x) front))

  -- each free variable doubles the number of rows that fit
  pub number_fits : (n : ℕ) → number n (λ x. fits told value n (row_of x)) ≡ 2 ^ free told n
  number_fits zero = refl
  number_fits (suc n) =
      number_last n (λ x. fits told value (suc n) (row_of x)) ∙ ap₂ ◌+◌ (number_same n _ _ (fits_last n false)) (number_same n _ _ (fits_last n true))
      ∙ go (told n) (number_fits n)
    where
      beq_false : (b : Bool) → beq false b ≡ not b
      beq_false true = refl
      beq_false false = refl

      beq_true : (b : Bool) → beq true b ≡ b
      beq_true true = refl
      beq_true false = refl

      go : (t : Bool) → number n (λ x. fits told value n (row_of x)) ≡ 2 ^ free told n
          → number n (λ x. fits told value n (row_of x) && cond t (beq false (value n (row_of x))) true)
          + number n (λ x. fits told value n (row_of x) && cond t (beq true (value n (row_of x))) true)
          ≡ 2 ^ cond t (free told n) (suc (free told n))
      go true e =
          ap₂ ◌+◌ (number_same n _ _ (λ x l. ap (λ (b : Bool). fits told value n (row_of x) && b) (beq_false (value n (row_of x)))))
          (number_same n _ _ (λ x l. ap (λ (b : Bool). fits told value n (row_of x) && b) (beq_true (value n (row_of x)))))
          ∙ number_split n (λ x. fits told value n (row_of x)) (λ x. value n (row_of x)) ∙ e
      go false e =
          let half = number_same n (λ x. fits told value n (row_of x) && true) (λ x. fits told value n (row_of x)) (λ x l. and-true (fits told value n (row_of x))) in
          let two = pow-suc 2 (free told n) in
          omega arith

  -- the row in which free variables are 0 and told ones are as they are told
  module _ (n : ℕ) (y : Row) (is : (v : ℕ) → v < n → y v ≡ cond (told v) (value v y) false) where
    obeys_it : (v : ℕ) → v < n → obeys told value v y ≡ true
    obeys_it v h = go (told v) (y v) (value v y) (is v h)
      where
        go : (t a b : Bool) → a ≡ cond t b false → cond t (beq a b) true ≡ true
        go true true true e = refl
        go true false false e = refl
        go true true false e = sym e
        go true false true e = e
        go false a b e = refl

    fits_it : (k : ℕ) → k ≤ n → fits told value k y ≡ true
    fits_it zero h = refl
    fits_it (suc k) h = ap₂ ◌&&◌ (fits_it k (omega arith)) (obeys_it k (omega arith))

    -- a row that is 0 where this one is told to be 1 does not fit
    fails : (z : Row) (v k : ℕ) → v < k → obeys told value v z ≡ false → fits told value k z ≡ false
    fails z v zero l not_so = absurd (omega arith)
    fails z v (suc k) l not_so =
        elim (cases_eq v k) [
          | inl e ↦ ap (λ (b : Bool). fits told value k z && b) (ap (λ (u : ℕ). obeys told value u z) (sym e) ∙ not_so) ∙ and-false (fits told value k z)
          | inr ne ↦ and_left (fits told value k z) (obeys told value k z) (fails z v k (omega arith) not_so)
        ]

    disobeys : (z : Row) (v : ℕ) → v < n → ((i : ℕ) → i < v → z i ≡ y i) → z v ≡ false → y v ≡ true → obeys told value v z ≡ false
    disobeys z v h same low high =
        ap₂ (λ (a b : Bool). cond (told v) (beq a b) true) low (lower v z y same) ∙ go (told v) (value v y) (sym high ∙ is v h)
      where
        go : (t b : Bool) → true ≡ cond t b false → cond t (beq false b) true ≡ false
        go true true e = refl
        go true false e = absurd (false≢true (sym e))
        go false b e = absurd (false≢true (sym e))

    pub first_fits : first n (λ x. fits told value n (row_of x)) ≡ Some (list_of n y)
    first_fits = first_is n (λ x. fits told value n (row_of x)) (list_of n y) (record {
      size = length_list_of n y;
      passes = fits_same n (row_of (list_of n y)) y (row_of_list_of n y) ∙ fits_it n (omega arith);
      none_before = λ z l b.
          let d = before_differs n (row_of z) (row_of (list_of n y)) b in
          let h = d.below in
          fails (row_of z) d.at n d.below (disobeys (row_of z) d.at d.below (λ i k. d.alike i k ∙ row_of_list_of n y i (omega arith)) d.low
          (sym (row_of_list_of n y d.at d.below) ∙ d.high));
    })
