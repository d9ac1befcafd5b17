-- Superposition over a run: the sum of two injections leads to the sum of what each leads to.
use Rattle.std.proofs.Common.{◌≡◌, ℕ, zero, suc, ◌-◌, ◌<◌, false, sym, refl, ap, ◌∙◌, ap₂, arith}
use Rattle.bits.specs.Rows.{Row, xor, zeros, plus, upto}
use Rattle.bits.proofs.Sums.{ext, plus_self, upto_plus}
use Rattle.machine.specs.Linear.{Linear, Superposes}
use Rattle.patterns.proofs.Loads.{position_ends}
use Rattle.scan.specs.declared.frame.Frame.{Frame}
use Rattle.scan.specs.Frames.{cycles, place_of, taken}
use Rattle.scan.specs.Loads.{cells_after, load}

-- the first bits of the row of noughts
pub upto_zeros : (n : ℕ) → upto n zeros ≡ zeros
upto_zeros n = ext (λ i. grind arith)

module _ (m : Linear) (law : Superposes m) where
  -- noughts make noughts
  pub silence : m.next zeros zeros ≡ zeros
  silence = law.next_sum zeros zeros zeros zeros ∙ plus_self (m.next zeros zeros)

  pub out_silence : m.out zeros ≡ zeros
  out_silence = law.out_sum zeros zeros ∙ plus_self (m.out zeros)

  pub run_sum : (x y : Row) (t : ℕ) → cells_after m (plus x y) t ≡ plus (cells_after m x t) (cells_after m y t)
  run_sum x y zero = refl
  run_sum x y (suc t) =
      ap₂ m.next (run_sum x y t)
      (upto_plus m.channels (λ c. x (place_of m.channels (suc t) c)) (λ c. y (place_of m.channels (suc t) c)))
      ∙ law.next_sum (cells_after m x t) (cells_after m y t) (taken m.channels x (suc t)) (taken m.channels y (suc t))

  -- an injection of noughts
  pub run_silence : (t : ℕ) → cells_after m zeros t ≡ zeros
  run_silence zero = refl
  run_silence (suc t) = ap₂ m.next (run_silence t) (upto_zeros m.channels) ∙ silence

  module _ (f : Frame) (p c : ℕ) (below : p < f.shifts) where
    -- what a position ends with is a sum over sums of injections
    pub load_sum : (x y : Row) → load m f (plus x y) p c ≡ xor (load m f x p c) (m.out (cells_after m y (cycles f - p)) c)
    load_sum x y =
        ap (λ (s : Row). s c) (position_ends m f (plus x y) p below ∙ ap m.out (run_sum x y (cycles f - p))
        ∙ law.out_sum (cells_after m x (cycles f - p)) (cells_after m y (cycles f - p)))
        ∙ ap (λ (s : Row). xor (s c) (m.out (cells_after m y (cycles f - p)) c)) (sym (position_ends m f x p below))

    -- the load of noughts is 0
    pub load_silence : load m f zeros p c ≡ false
    load_silence =
        ap (λ (s : Row). s c) (position_ends m f zeros p below ∙ ap m.out (run_silence (cycles f - p)) ∙ out_silence)
