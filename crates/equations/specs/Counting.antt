-- Tests on lists of bits: how many lists pass, and which of them is the first.
use Rattle.std.specs.Prelude.{◌≡◌, ℕ, zero, suc, ◌+◌, Bool, true, false, cond, ◌&&◌, List, [], ◌∷◌, length, Some, None, Option}
use Rattle.std.specs.Option.{option_map}
use Rattle.bits.specs.Lists.{row_of}
use Rattle.bits.specs.Rows.{Row, xor}
use Rattle.bits.specs.Words.{one_if}

-- a test on lists of bits
abbrev pub Test : Type 0
Test = List Bool → Bool

-- both tests are passed
abbrev pub both : Test → Test → Test
both p q x = p x && q x

-- how many lists of n bits pass a test
abbrev pub number : ℕ → Test → ℕ
number zero p = one_if (p [])
number (suc n) p = number n (λ x. p (false ∷ x)) + number n (λ x. p (true ∷ x))

abbrev pub or_else : {X : Type 0} → Option X → Option X → Option X
or_else None b = b
or_else (Some x) b = Some x

-- the first list of n bits, in dictionary order, that passes: one that begins with 0, if there is one
abbrev pub first : ℕ → Test → Option (List Bool)
first zero p = cond (p []) (Some []) None
first (suc n) p =
    or_else (option_map (λ x. false ∷ x) (first n (λ x. p (false ∷ x)))) (option_map (λ x. true ∷ x) (first n (λ x. p (true ∷ x))))

-- dictionary order of rows of n bits: the first place where they differ decides, and 0 comes before 1
abbrev pub before : ℕ → Row → Row → Bool
before zero x y = false
before (suc n) x y = cond (xor (x zero) (y zero)) (y zero) (before n (λ i. x (suc i)) (λ i. y (suc i)))

-- the law above `first`: it has n bits and passes, and none that comes before it passes
pub record FirstOf (n : ℕ) (p : Test) (x : List Bool) : Type 0 where
  pub size : length x ≡ n
  pub passes : p x ≡ true
  pub none_before : (y : List Bool) → length y ≡ n → before n (row_of y) (row_of x) ≡ true → p y ≡ false

abbrev pub FirstInDictionaryOrder : Type 0
FirstInDictionaryOrder = (n : ℕ) (p : Test) (x : List Bool) → first n p ≡ Some x → FirstOf n p x
