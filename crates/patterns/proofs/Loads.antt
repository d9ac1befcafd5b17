-- Where a position's bit comes from.
use Rattle.std.proofs.Common.{◌≡◌, ℕ, zero, suc, ◌+◌, ◌-◌, ◌<◌, Bool, cond, ap, ◌∙◌, arith}
use Rattle.std.proofs.lemmas.Bool.{lt-ltb}
use Rattle.bits.specs.Rows.{Row}
use Rattle.machine.specs.Linear.{Linear}
use Rattle.scan.specs.declared.frame.Frame.{Frame}
use Rattle.scan.specs.Frames.{cycles}
use Rattle.scan.specs.Loads.{Chains, cells_after, moved_up, chains_after, PositionEndsWithItsOutlet}

module _ (m : Linear) (f : Frame) (x : Row) where
  -- in a cycle above the warm-up the chains move up
  above_moves : (t : ℕ) → f.warmup < suc t → chains_after m f x (suc t) ≡ moved_up (m.out (cells_after m x (suc t))) (chains_after m f x t)
  above_moves t h =
      ap (λ (b : Bool). cond b (moved_up (m.out (cells_after m x (suc t))) (chains_after m f x t)) (chains_after m f x t)) (lt-ltb f.warmup (suc t) h)

  -- after t cycles, a position that was filled holds the outlets of p cycles ago
  position_after : (t p : ℕ) → p + f.warmup < t → chains_after m f x t p ≡ m.out (cells_after m x (t - p))
  position_after zero p h = absurd (omega arith)
  position_after (suc t) zero h =
      let e : suc t ≡ suc t - 0 = omega arith in
      ap (λ (c : Chains). c zero) (above_moves t (omega arith)) ∙ ap (λ (k : ℕ). m.out (cells_after m x k)) e
  position_after (suc t) (suc p) h =
      let e : t - p ≡ suc t - suc p = omega arith in
      ap (λ (c : Chains). c (suc p)) (above_moves t (omega arith)) ∙ position_after t p (omega arith) ∙ ap (λ (k : ℕ). m.out (cells_after m x k)) e

pub position_ends : (m : Linear) (f : Frame) → PositionEndsWithItsOutlet m f
position_ends m f x p h = position_after m f x (cycles f) p (omega arith)
