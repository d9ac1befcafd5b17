use Rattle.std.proofs.Common.{refl}
use Rattle.std.proofs.lemmas.Nat.{xor_lt}
use Rattle.bits.proofs.Bitwise.{word_bits, word_fits, word_plus}
use Rattle.registers.specs.Feeds.{fed_upto}
use Rattle.registers.proofs.register.shifts.RegisterMachine.shift.Goals as goal

pub invariant_of-self-clause-held : goal.invariant_of-self-clause-held
invariant_of-self-clause-held g c =
    let r = c.args.self.now in
    rw (c.turn.ensures, c.feed.ensures, ← r.alike) (xor_lt (g.T.Turns.size r.turning) _ _ (word_fits _ _) (word_fits _ _))

pub returns : goal.returns
returns g c = record { same = refl; after = simp (c.turn.ensures, c.feed.ensures, c.args.self.now.alike, word_plus, word_bits, fed_upto) }
