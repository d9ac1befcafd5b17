-- How many lists pass a test, and which is the first.
use Rattle.std.proofs.Common.{◌≡◌, ℕ, zero, suc, ◌+◌, ◌<◌, Bool, true, false, cond, not, ◌&&◌, List, [], ◌∷◌, ◌++◌, length, Some, None, Option, refl, ap, subst, ap₂, arith}
use Rattle.std.proofs.lemmas.Bool.{false≢true}
use Rattle.std.specs.Option.{option_map}
use Rattle.bits.specs.Lists.{row_of}
use Rattle.bits.specs.Words.{one_if}
use Rattle.equations.specs.Counting.{Test, both, number, or_else, first, before, FirstOf, FirstInDictionaryOrder}

pub number_same : (n : ℕ) (p q : Test) → ((x : List Bool) → length x ≡ n → p x ≡ q x) → number n p ≡ number n q
number_same zero p q e = ap one_if (e [] refl)
number_same (suc n) p q e =
    ap₂ ◌+◌ (number_same n _ _ (λ x l. e (false ∷ x) (ap suc l))) (number_same n _ _ (λ x l. e (true ∷ x) (ap suc l)))

pub number_none : (n : ℕ) (p : Test) → ((x : List Bool) → length x ≡ n → p x ≡ false) → number n p ≡ 0
number_none zero p none = ap one_if (none [] refl)
number_none (suc n) p none =
    ap₂ ◌+◌ (number_none n _ (λ x l. none (false ∷ x) (ap suc l))) (number_none n _ (λ x l. none (true ∷ x) (ap suc l)))

-- those that pass a second test and those that do not
pub number_split : (n : ℕ) (p q : Test) → number n (both p (λ x. not (q x))) + number n (both p q) ≡ number n p
number_split zero p q = one (p []) (q [])
  where
    one : (a b : Bool) → one_if (a && not b) + one_if (a && b) ≡ one_if a
    one true true = refl
    one true false = refl
    one false b = refl
number_split (suc n) p q =
    let a = number_split n (λ x. p (false ∷ x)) (λ x. q (false ∷ x)) in
    let b = number_split n (λ x. p (true ∷ x)) (λ x. q (true ∷ x)) in
    omega arith

-- the last bit first
pub number_last : (n : ℕ) (p : Test) → number (suc n) p ≡ number n (λ x. p (x ++ (false ∷ []))) + number n (λ x. p (x ++ (true ∷ [])))
number_last zero p = refl
number_last (suc n) p =
    let a = number_last n (λ x. p (false ∷ x)) in
    let b = number_last n (λ x. p (true ∷ x)) in
    omega arith

-- what the first of a test is, from those of the lists that begin with 0 and with 1
abbrev joined : Option (List Bool) → Option (List Bool) → Option (List Bool)
joined u w = or_else (option_map (λ x. false ∷ x) u) (option_map (λ x. true ∷ x) w)

abbrev lone : Bool → Option (List Bool)
lone b = cond b (Some []) None

-- where there is no first, none passes
none_passes : (n : ℕ) (p : Test) → first n p ≡ None → (x : List Bool) → length x ≡ n → p x ≡ false
none_passes zero p e [] l = go (p []) refl e
  where
    go : (b : Bool) → p [] ≡ b → lone b ≡ None → p [] ≡ false
    go true q h = absurd (let z : ◌≡◌ {A = ℕ} 0 1 = cc in omega arith)
    go false q h = q
none_passes zero p e (b ∷ x) l = absurd (omega arith)
none_passes (suc n) p e [] l = absurd (omega arith)
none_passes (suc n) p e (true ∷ x) l = none_passes n (λ y. p (true ∷ y)) (parts (first n (λ y. p (false ∷ y))) (first n (λ y. p (true ∷ y))) e) x (omega arith)
  where
    parts : (u w : Option (List Bool)) → joined u w ≡ None → w ≡ None
    parts (Some y) w h = absurd (let z : ◌≡◌ {A = ℕ} 0 1 = cc in omega arith)
    parts None (Some y) h = absurd (let z : ◌≡◌ {A = ℕ} 0 1 = cc in omega arith)
    parts None None h = refl
none_passes (suc n) p e (false ∷ x) l = none_passes n (λ y. p (false ∷ y)) (parts (first n (λ y. p (false ∷ y))) (first n (λ y. p (true ∷ y))) e) x (omega arith)
  where
    parts : (u w : Option (List Bool)) → joined u w ≡ None → u ≡ None
    parts (Some y) w h = absurd (let z : ◌≡◌ {A = ℕ} 0 1 = cc in omega arith)
    parts None w h = refl

pub first_same : (n : ℕ) (p q : Test) → ((x : List Bool) → length x ≡ n → p x ≡ q x) → first n p ≡ first n q
first_same zero p q e = ap lone (e [] refl)
first_same (suc n) p q e =
    ap₂ joined (first_same n _ _ (λ x l. e (false ∷ x) (ap suc l))) (first_same n _ _ (λ x l. e (true ∷ x) (ap suc l)))

-- where some pass there is a first
pub first_some : (n : ℕ) (p : Test) → 0 < number n p → (x : List Bool) × (first n p ≡ Some x)
first_some n p some = go (first n p) refl
  where
    go : (o : Option (List Bool)) → first n p ≡ o → (x : List Bool) × (first n p ≡ Some x)
    go None e = absurd (let none = number_none n p (none_passes n p e) in omega arith)
    go (Some x) e = (x, e)

pub first_none : (n : ℕ) (p : Test) → ((x : List Bool) → length x ≡ n → p x ≡ false) → first n p ≡ None
first_none zero p none = ap lone (none [] refl)
first_none (suc n) p none =
    ap₂ joined
    (first_none n _ (λ x l. none (false ∷ x) (ap suc l))) (first_none n _ (λ x l. none (true ∷ x) (ap suc l)))

-- what passes while nothing before it does is the first
pub first_is : (n : ℕ) (p : Test) (x : List Bool) → FirstOf n p x → first n p ≡ Some x
first_is zero p [] law = ap lone law.passes
first_is zero p (b ∷ x) law = absurd (let l = law.size in omega arith)
first_is (suc n) p [] law = absurd (let l = law.size in omega arith)
first_is (suc n) p (false ∷ x) law =
    let l = law.size in
    ap (λ (u : Option (List Bool)). joined u (first n (λ y. p (true ∷ y))))
    (first_is n (λ y. p (false ∷ y)) x (record { size = omega arith; passes = law.passes; none_before = λ y e h. law.none_before (false ∷ y) (ap suc e) h }))
first_is (suc n) p (true ∷ x) law =
    let l = law.size in
    ap₂ joined
    (first_none n (λ y. p (false ∷ y)) (λ y e. law.none_before (false ∷ y) (ap suc e) refl))
    (first_is n (λ y. p (true ∷ y)) x (record { size = omega arith; passes = law.passes; none_before = λ y e h. law.none_before (true ∷ y) (ap suc e) h }))

module _ (n : ℕ) (p : Test) where
  -- the first that begins with 0 is the first
  begins_low : (y : List Bool) → FirstOf n (λ z. p (false ∷ z)) y → FirstOf (suc n) p (false ∷ y)
  begins_low y law = record { size = ap suc law.size; passes = law.passes; none_before = none }
    where
      none : (z : List Bool) → length z ≡ suc n → before (suc n) (row_of z) (row_of (false ∷ y)) ≡ true → p z ≡ false
      none [] l b = absurd (omega arith)
      none (true ∷ z) l b = absurd (false≢true b)
      none (false ∷ z) l b = law.none_before z (omega arith) b

  -- the first that begins with 1 is the first if none that begins with 0 passes
  begins_high : (y : List Bool) → ((z : List Bool) → length z ≡ n → p (false ∷ z) ≡ false) → FirstOf n (λ z. p (true ∷ z)) y → FirstOf (suc n) p (true ∷ y)
  begins_high y low law = record { size = ap suc law.size; passes = law.passes; none_before = none }
    where
      none : (z : List Bool) → length z ≡ suc n → before (suc n) (row_of z) (row_of (true ∷ y)) ≡ true → p z ≡ false
      none [] l b = absurd (omega arith)
      none (true ∷ z) l b = law.none_before z (omega arith) b
      none (false ∷ z) l b = low z (omega arith)

  begins : (x : List Bool) (u w : Option (List Bool)) → first n (λ z. p (false ∷ z)) ≡ u → joined u w ≡ Some x
      → ((y : List Bool) → u ≡ Some y → FirstOf n (λ z. p (false ∷ z)) y) → ((y : List Bool) → w ≡ Some y → FirstOf n (λ z. p (true ∷ z)) y) → FirstOf (suc n) p x
  begins x (Some y) w none h low high = let same : (false ∷ y) ≡ x = cc in subst (FirstOf (suc n) p) same (begins_low y (low y refl))
  begins x None (Some y) none h low high =
      let same : (true ∷ y) ≡ x = cc in subst (FirstOf (suc n) p) same (begins_high y (none_passes n (λ z. p (false ∷ z)) none) (high y refl))
  begins x None None none h low high = absurd (let z : ◌≡◌ {A = ℕ} 0 1 = cc in omega arith)

pub first_in_order : FirstInDictionaryOrder
first_in_order zero p x e = go (p []) refl e
  where
    go : (b : Bool) → p [] ≡ b → lone b ≡ Some x → FirstOf zero p x
    go true q h =
        let nil : [] ≡ x = cc in
        subst (FirstOf zero p) nil (record { size = refl; passes = q; none_before = λ y l b. absurd (false≢true b) })
    go false q h = absurd (let z : ◌≡◌ {A = ℕ} 0 1 = cc in omega arith)
first_in_order (suc n) p x e =
    begins n p x (first n (λ z. p (false ∷ z))) (first n (λ z. p (true ∷ z))) refl e (first_in_order n (λ z. p (false ∷ z))) (first_in_order n (λ z. p (true ∷ z)))
