use Rattle.std.proofs.Common.{◌≡◌, ◌++◌, length, arith, rules}
use Rattle.std.proofs.lemmas.Bool.Decides.{nat_tests}
use Rattle.bits.specs.Words.{bit_of}
use Rattle.scan.specs.Memory.{chains_in}
use Rattle.scan.proofs.Memory.{read_fits, read_enters, moved_words}
use Rattle.scan.proofs.loading.Loading.shift.Goals as goal

pub move_up-requires : goal.move_up-requires
move_up-requires g c = read_fits (g.M.Machine.meaning c.args.machine.now) _ _ _ _ c.shift.ensures.same (grind (arith, nat_tests)) c.read.ensures

pub returns-then-self-fit-clause-after : goal.returns-then-self-fit-clause-after
returns-then-self-fit-clause-after g c =
    let m = g.M.Machine.meaning c.args.machine.now in
    let fit = c.args.self.now.fit in
    let memory = c.args.chains.now in
    let words = c.in_ok-chains.words.now in
    let rest = c.in_ok-chains.field-0-1.now in
    let outlets : m.outlets ≡ fit.outlets = grind (arith, nat_tests) in
    let cut : memory ≡ words ++ rest = search rules in
    let all : length words ≡ fit.frame.shifts = search rules in
    let moved =
    read_enters m _ fit.outlets c.read.result (g.M.Machine.cells c.shift.new.self) c.shift.ensures.same
    outlets c.read.ensures fit.frame.shifts (chains_in memory) memory (c.move_up.new.words ++ rest)
    (moved_words fit.frame.shifts fit.outlets words rest memory cut all (bit_of c.read.result) c.move_up.new.words c.move_up.ensures) in
    search rules
