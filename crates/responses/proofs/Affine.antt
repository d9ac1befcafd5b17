-- A bit of a row that each flip changes by a coefficient is a sum over the row.
use Rattle.std.proofs.Common.{◌≡◌, ℕ, zero, suc, ◌≤◌, Bool, true, false, cond, ◌&&◌, List, length, sym, refl, ap, ◌∙◌, arith}
use Rattle.std.proofs.lemmas.Bool.Decides.{nat_tests}
use mathlib.Core.Bool.{and-true, and-false, beq}
use Rattle.std.proofs.lemmas.List.{get_or_past}
use Rattle.bits.specs.Lists.{row_of}
use Rattle.bits.specs.Rows.{Row, xor, zeros, plus, upto, sum_of}
use Rattle.bits.proofs.Sums.{ext, xor_false, xor_assoc, upto_past, same_upto}
use Rattle.equations.specs.Equations.{dot, unit}

-- one bit more of a row
upto_more : (n : ℕ) (x : Row) → upto (suc n) x ≡ cond (x n) (plus (upto n x) (unit n)) (upto n x)
upto_more n x = ext (λ i. go (x n) refl i)
  where
    go : (b : Bool) → x n ≡ b → (i : ℕ) → upto (suc n) x i ≡ cond b (plus (upto n x) (unit n)) (upto n x) i
    go true e i = grind (arith, nat_tests)
    go false e i = grind (arith, nat_tests)

module _ (F : Row → Bool) (c : Row) (flips : (x : Row) (i : ℕ) → F (plus x (unit i)) ≡ xor (F x) (c i)) where
  -- from noughts on, flip by flip
  affine : (n : ℕ) (x : Row) → F (upto n x) ≡ xor (F zeros) (sum_of n (λ i. c i && x i))
  affine zero x = ap F (ext (λ i. upto_past zero x i (omega arith))) ∙ sym (xor_false (F zeros))
  affine (suc n) x = ap F (upto_more n x) ∙ more (affine n x) (x n)
    where
      more : F (upto n x) ≡ xor (F zeros) (sum_of n (λ i. c i && x i)) → (b : Bool)
          → F (cond b (plus (upto n x) (unit n)) (upto n x)) ≡ xor (F zeros) (xor (sum_of n (λ i. c i && x i)) (c n && b))
      more so_far true =
          flips (upto n x) n ∙ ap (λ (a : Bool). xor a (c n)) so_far ∙ xor_assoc (F zeros) (sum_of n (λ i. c i && x i)) (c n)
          ∙ ap (λ (a : Bool). xor (F zeros) (xor (sum_of n (λ i. c i && x i)) a)) (sym (and-true (c n)))
      more so_far false =
          so_far ∙ ap (xor (F zeros)) (sym (ap (xor (sum_of n (λ i. c i && x i))) (and-false (c n)) ∙ xor_false (sum_of n (λ i. c i && x i))))

  -- a list of at most 256 bits
  affine_list : (x : List Bool) → length x ≤ 256 → F (row_of x) ≡ xor (F zeros) (dot c (row_of x))
  unfolding dot
  affine_list x h =
      ap F (same_upto 256 (row_of x) (row_of x) (λ i _. refl) (λ i l. get_or_past x i false (omega arith))) ∙ affine 256 (row_of x)

  -- so the bit has a value exactly if the sum is what is left of it
  pub told_by : (value : Bool) (x : List Bool) → length x ≤ 256 → beq (dot c (row_of x)) (xor value (F zeros)) ≡ beq (F (row_of x)) value
  told_by value x h = left (dot c (row_of x)) value (F zeros) ∙ ap (λ (a : Bool). beq a value) (sym (affine_list x h))
    where
      left : (d v z : Bool) → beq d (xor v z) ≡ beq (xor z d) v
      left d v z = grind arith
