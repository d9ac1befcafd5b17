-- The front of an array, one place longer.
use Rattle.std.proofs.Common.{◌≡◌, ℕ, ◌+◌, ◌<◌, List, length, get_or, set, sym, subst, arith, below_more}
use Rattle.std.proofs.lemmas.List.{get_or-set_same, get_or-set_other}

module _ {X : Type 0} (xs : List X) (n : ℕ) (y d : X) (room : n < length xs) where
  pub set_before : (k : ℕ) → k < n → get_or (set xs n y) k d ≡ get_or xs k d
  set_before k h = get_or-set_other xs n k y d (λ z. omega arith)

  pub set_here : get_or (set xs n y) n d ≡ y
  set_here = get_or-set_same xs n y d room

  -- what holds of the first n elements and of the one that is written after them holds of n + 1
  pub all_more : (P : X → Type 0) → ((k : ℕ) → k < n → P (get_or xs k d)) → P y → (k : ℕ) → k < n + 1 → P (get_or (set xs n y) k d)
  all_more P all here = below_more _ n (λ k h. subst P (sym (set_before k h)) (all k h)) (subst P (sym set_here) here)
