use Rattle.std.proofs.Common.{◌≡◌, ℕ, ◌<◌, ◌≤◌, true, ap, ◌∙◌, arith, is_le, is_lt, nat_cmp}
use lib.Pow.{pow-lt}
use Rattle.std.proofs.lemmas.Bool.Decides.{nat_tests}
use Rattle.std.proofs.lemmas.Map.Keys.{le_from_is_le}
use Rattle.std.proofs.lemmas.Nat.{one_shl, or_lt}
use Rattle.bits.specs.Rows.{Row}
use Rattle.bits.proofs.Bitwise.{bits_with}
use Rattle.registers.proofs.taps.gather.TapsGathers.add.Goals as goal

-- a tap in the range
record InRange (tap n : ℕ) : Type 0 where
  pub low : 1 ≤ tap
  pub high : tap < n

in_range : (tap n : ℕ) → (is_le (nat_cmp 1 tap) ≡ true) × (is_lt (nat_cmp tap n) ≡ true) → InRange tap n
in_range tap n e = record { low = le_from_is_le 1 tap e.0; high = grind arith }

pub invariant_of-self : goal.invariant_of-self
invariant_of-self c =
    let t = c.args.self.now in
    let tap = in_range c.args.tap _ c.if-not-contains.ensures.cases in
    let low = tap.low in
    let high : c.args.tap < t.size.cells = omega (arith, tap.high) in
    let few : c.args.tap < 64 = omega (arith, t.size.few) in
    record {
      within = or_lt t.size.cells t.set _ t.within (rw one_shl (pow-lt high));
      apart = ap (λ (s : Row). s 0) (bits_with t.set c.args.tap few) ∙ grind (arith, nat_tests);
    }

pub returns : goal.returns
returns c =
    let t = c.args.self.now in
    let tap = in_range c.args.tap _ c.if-not-contains.ensures.cases in
    let low = tap.low in
    let high : c.args.tap < t.size.cells = omega (arith, tap.high) in
    let few : c.args.tap < 64 = omega (arith, t.size.few) in
    record { answer = grind (arith, nat_tests); after = rw (bits_with t.set c.args.tap few) (grind (arith, nat_tests)) }
