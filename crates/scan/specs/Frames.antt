-- Frames and injections.
use Rattle.std.specs.Prelude.{ℕ, zero, suc, ◌+◌, ◌-◌, ◌*◌, Bool, false, cond, ◌||◌, Result, nat_lt}
use Rattle.bits.specs.Rows.{Row, xor, upto}
use Rattle.refusals.specs.declared.Refusal.{Refusal}
use Rattle.refusals.specs.declared.Refusal.TheVariants.{OutOfRange, TooMany}
use Rattle.refusals.specs.Chains.{refused_if}
use Rattle.scan.specs.declared.frame.Frame.{Frame}

-- the cycles of a frame: its warm-up cycles, then its shift cycles
abbrev pub cycles : Frame → ℕ
cycles f = f.warmup + f.shifts

-- the bits that k channels take in all cycles of a frame; at most 256 are allowed
abbrev pub span : ℕ → Frame → ℕ
span k f = k * cycles f

-- the bits of an injection into k channels: as many as the span, but a name of its own, since it is what is free to be chosen
abbrev pub variables : ℕ → Frame → ℕ
variables k f = span k f

-- the place in an injection of the bit that channel c of k takes in cycle t, cycles being counted from 1
abbrev pub place_of : ℕ → ℕ → ℕ → ℕ
place_of k t c = (t - 1) * k + c

-- what k channels take of an injection in cycle t
abbrev pub taken : ℕ → Row → ℕ → Row
taken k x t = upto k (λ c. x (place_of k t c))

-- dictionary order of injections of n bits: the first place where they differ decides, and 0 comes before 1
abbrev pub before : ℕ → Row → Row → Bool
before zero x y = false
before (suc n) x y = cond (xor (x zero) (y zero)) (y zero) (before n (λ i. x (suc i)) (λ i. y (suc i)))

-- a frame has 0 to 64 warm-up cycles and 1 to 256 shift cycles
abbrev pub out_of_limits : Frame → Bool
out_of_limits f = nat_lt 64 f.warmup || (nat_lt f.shifts 1 || nat_lt 256 f.shifts)

abbrev pub in_limits : {X : Type 0} → Frame → Result X Refusal → Result X Refusal
in_limits f r = refused_if (out_of_limits f) OutOfRange r

-- its span is 256 bits at most
abbrev pub in_span : {X : Type 0} → ℕ → Frame → Result X Refusal → Result X Refusal
in_span k f r = refused_if (nat_lt 256 (span k f)) TooMany r
