use Rattle.std.proofs.Common.{◌∙◌, arith}
use Rattle.std.proofs.lemmas.List.{length-set}
use Rattle.session.proofs.Entering.{kept}
use Rattle.session.proofs.table.EquationTable.write.Goals as goal

pub bounds-self-count : goal.bounds-self-count
bounds-self-count c =
    let place = (kept c.args.self.now c.args.count c.args.equation c.requires.written c.requires.lead c.requires.clear).room in
    omega (arith, c.args.self.now.long)

pub invariant_of-self : goal.invariant_of-self
invariant_of-self c =
    let t = c.args.self.now in
    let k = kept t c.args.count c.args.equation c.requires.written c.requires.lead c.requires.clear in
    let place = k.room in
    let long = t.long in
    record {
      long = length-set t.rows c.args.count _ ∙ t.long;
      room = omega arith;
      led = k.led;
      apart = k.apart;
      clear = k.clear;
    }
