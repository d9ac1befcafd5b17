-- Coefficients that are the responses make the equation of a bit.
use Rattle.std.proofs.Common.{◌≡◌, ℕ, ◌-◌, ◌<◌, ◌≤◌, sym, ap, ◌∙◌, arith}
use mathlib.Core.Bool.{beq}
use Rattle.std.proofs.lemmas.Nat.{mul-le}
use Rattle.bits.specs.Lists.{row_of}
use Rattle.bits.specs.Rows.{Row, xor, zeros, plus}
use Rattle.bits.proofs.Sums.{xor_false}
use Rattle.equations.specs.declared.Equation.{Equation}
use Rattle.equations.specs.Equations.{coefficients_of, dot, unit}
use Rattle.machine.specs.Linear.{Linear, Superposes}
use Rattle.scan.specs.declared.care.CareBit.{CareBit}
use Rattle.scan.specs.declared.frame.Frame.{Frame}
use Rattle.scan.specs.Frames.{cycles}
use Rattle.scan.specs.Loads.{load}
use Rattle.responses.specs.Responses.{response, EquationOf}
use Rattle.responses.proofs.Affine.{told_by}
use Rattle.responses.proofs.Impulses.{response_past}
use Rattle.responses.proofs.Superposition.{load_sum, load_silence}

module _ (m : Linear) (law : Superposes m) (f : Frame) (b : CareBit) (e : Equation) (some : 1 ≤ m.channels) (position : b.position < f.shifts)
    (coefficients : coefficients_of e ≡ response m (cycles f - b.position) b.chain) (value : e.right ≡ b.value) where
  flips : (x : Row) (i : ℕ) → load m f (plus x (unit i)) b.position b.chain ≡ xor (load m f x b.position b.chain) (coefficients_of e i)
  flips x i =
      load_sum m law f b.position b.chain position x (unit i)
      ∙ ap (λ (c : Row). xor (load m f x b.position b.chain) (c i)) (sym coefficients)

  right : e.right ≡ xor b.value (load m f zeros b.position b.chain)
  right = value ∙ sym (ap (xor b.value) (load_silence m law f b.position b.chain position) ∙ xor_false b.value)

  pub equation_stands : EquationOf m f b e
  equation_stands = record {
    flips = flips;
    right = right;
    past = λ i h.
        (let long = mul-le m.channels (cycles f - b.position) m.channels (cycles f) (omega arith) (omega arith) in
        ap (λ (c : Row). c i) coefficients ∙ response_past m law (cycles f - b.position) b.chain i some (omega arith));
    told = λ x h. ap (beq (dot (coefficients_of e) (row_of x))) right
        ∙ told_by (λ y. load m f y b.position b.chain) (coefficients_of e) flips b.value x h;
  }
