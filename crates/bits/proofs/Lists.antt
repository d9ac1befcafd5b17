-- Lists of bits and rows say the same.
use Rattle.std.proofs.Common.{◌≡◌, ℕ, zero, suc, ◌+◌, ◌<◌, Bool, false, List, [], ◌∷◌, ◌++◌, length, sym, refl, ap, ◌∙◌, add-one, arith}
use Rattle.std.proofs.lemmas.List.{get_or_past}
use Rattle.bits.specs.Rows.{Row, xor, plus, upto}
use Rattle.bits.specs.Lists.{row_of, list_of, plus_list}
use Rattle.bits.proofs.Sums.{ext, same_upto}

pub length_list_of : (n : ℕ) (s : Row) → length (list_of n s) ≡ n
length_list_of zero s = refl
length_list_of (suc n) s = ap suc (length_list_of n (λ i. s (suc i)))

pub list_of_row_of : (n : ℕ) (xs : List Bool) → length xs ≡ n → list_of n (row_of xs) ≡ xs
list_of_row_of zero [] e = refl
list_of_row_of zero (x ∷ xs) e = absurd (omega arith)
list_of_row_of (suc n) [] e = absurd (omega arith)
list_of_row_of (suc n) (x ∷ xs) e = ap (λ ys. x ∷ ys) (list_of_row_of n xs (omega arith))

pub row_of_list_of : (n : ℕ) (s : Row) (i : ℕ) → i < n → row_of (list_of n s) i ≡ s i
row_of_list_of zero s i h = absurd (omega arith)
row_of_list_of (suc n) s zero h = refl
row_of_list_of (suc n) s (suc i) h = row_of_list_of n (λ j. s (suc j)) i (omega arith)

pub list_of_plus : (n : ℕ) (s t : Row) → list_of n (plus s t) ≡ plus_list (list_of n s) (list_of n t)
list_of_plus zero s t = refl
list_of_plus (suc n) s t = ap (λ ys. xor (s zero) (t zero) ∷ ys) (list_of_plus n (λ i. s (suc i)) (λ i. t (suc i)))

plus_list_at : (xs ys : List Bool) (i : ℕ) → length xs ≡ length ys → row_of (plus_list xs ys) i ≡ xor (row_of xs i) (row_of ys i)
plus_list_at [] [] i e = refl
plus_list_at [] (y ∷ ys) i e = absurd (omega arith)
plus_list_at (x ∷ xs) [] i e = absurd (omega arith)
plus_list_at (x ∷ xs) (y ∷ ys) zero e = refl
plus_list_at (x ∷ xs) (y ∷ ys) (suc i) e = plus_list_at xs ys i (omega arith)

pub row_of_plus : (xs ys : List Bool) → length xs ≡ length ys → row_of (plus_list xs ys) ≡ plus (row_of xs) (row_of ys)
row_of_plus xs ys e = ext (λ i. plus_list_at xs ys i e)

pub upto_row_of : (n : ℕ) (xs : List Bool) → length xs ≡ n → upto n (row_of xs) ≡ row_of xs
upto_row_of n xs e = sym (same_upto n (row_of xs) (row_of xs) (λ i _. refl) (λ i h. get_or_past xs i false (omega arith)))

-- one bit more at the end
pub list_of_more : (n : ℕ) (s : Row) → list_of (n + 1) s ≡ list_of n s ++ (s n ∷ [])
list_of_more n s = ap (λ (m : ℕ). list_of m s) (add-one n) ∙ go n s
  where
    go : (n : ℕ) (s : Row) → list_of (suc n) s ≡ list_of n s ++ (s n ∷ [])
    go zero s = refl
    go (suc n) s = ap (λ ys. s zero ∷ ys) (go n (λ i. s (suc i)))
