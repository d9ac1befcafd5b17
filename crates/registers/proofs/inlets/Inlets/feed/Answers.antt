use Rattle.std.proofs.Common.{◌≡◌, ℕ, zero, ◌*◌, ◌%◌, ◌^◌, ◌<◌, ◌≤◌, length, get_or, lt_of_lt_of_le, arith, pow_pos, pow_mono}
use lib.Bits.{bit_xor}
use lib.Count.{count_trailing_zeros}
use lib.Pow.{pow-lt}
use Rattle.std.proofs.lemmas.Bool.Decides.{nat_tests}
use Rattle.std.proofs.lemmas.Nat.{one_shl, xor_lt}
use Rattle.bits.specs.Words.{bit_of}
use Rattle.bits.proofs.Bitwise.{bit_zero, lowest_set, set_below, clear_less, word_bits, word_fits, word_self}
use Rattle.bits.proofs.Sums.{ext, plus_zeros}
use Rattle.lists.proofs.Lengths.{listed_few}
use Rattle.registers.specs.Views.{inlets_read}
use Rattle.registers.specs.Feeds.{bits_flip, fed_one, fed_plus, fed_upto, fed_zeros}
use Rattle.registers.proofs.inlets.Inlets.feed.Goals as goal

-- the lowest bit of a word of n bits that is not 0
record Lowest (rest n p : ℕ) : Type 0 where
  pub below : p < n
  pub small : p < 64
  pub less : bit_xor rest ((1 * 2 ^ p) % 2 ^ 64) < rest

lowest : (rest n : ℕ) → (rest ≡ zero → ⊥) → rest < 2 ^ n → n ≤ 64 → Lowest rest n (count_trailing_zeros 64 rest)
lowest rest n some fits few =
    let p = count_trailing_zeros 64 rest in
    let set = lowest_set 64 rest some (lt_of_lt_of_le fits (pow_mono few)) in
    let small = set.0 in
    record { below = set_below rest n p fits set.1; small = small; less = rw one_shl (clear_less rest p set.1) }

pub loop-rest-init : goal.loop-rest-init
loop-rest-init c =
    let t = c.args.self.now in
    let low = rw c.channels-channels.ensures at c.low-rest.ensures in
    record {
      low = rw low (word_fits (length (inlets_read t).into) (bit_of c.args.word));
      fits = pow_pos t.size.cells;
      together = simp (bit_zero, low, word_bits, fed_upto);
    }

pub bounds-cells-channel : goal.bounds-cells-channel
bounds-cells-channel c =
    let low = lowest c.loop-rest.rest _ c.loop-rest-test.true c.loop-rest.invariant.low (listed_few c.args.self.now.cells) in
    rw c.as_slice-cells.ensures low.below

pub loop-rest-smaller : goal.loop-rest-smaller
loop-rest-smaller c = (lowest c.loop-rest.rest _ c.loop-rest-test.true c.loop-rest.invariant.low (listed_few c.args.self.now.cells)).less

pub loop-rest-preserved : goal.loop-rest-preserved
loop-rest-preserved c =
    let t = c.args.self.now in
    let into = (inlets_read t).into in
    let p = count_trailing_zeros 64 c.loop-rest.rest in
    let inv = c.loop-rest.invariant in
    let low = lowest c.loop-rest.rest _ c.loop-rest-test.true inv.low (listed_few t.cells) in
    let cell = get_or into p 0 in
    let inside : cell < t.size.cells = t.inside p 0 low.below in
    let few : cell < 64 = lt_of_lt_of_le inside t.size.few in
    rw c.as_slice-cells.ensures
    (record {
      low = omega (arith, low.less, inv.low);
      fits = xor_lt t.size.cells _ _ inv.fits (rw (one_shl cell 64 few) (pow-lt inside));
      together = rw (← inv.together) (simp (bits_flip, fed_plus, fed_one, low.small, low.below) (ext (λ i. grind (arith, nat_tests))));
    })

pub returns : goal.returns
returns c =
    let inv = c.loop-rest.invariant in
    let left = simp (c.loop-rest-test.false, bit_zero, fed_zeros, plus_zeros) at inv.together in
    rw left at (word_self c.args.self.now.size.cells _ inv.fits)
