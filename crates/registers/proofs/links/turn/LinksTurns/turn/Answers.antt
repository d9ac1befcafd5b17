use Rattle.std.proofs.Common.{◌<◌, length, get_or, take}
use Rattle.std.proofs.lemmas.List.{take_more}
use Rattle.lists.specs.Listed.{listed}
use Rattle.registers.specs.Rules.{no_link}
use Rattle.registers.proofs.Circles.{link_more}
use Rattle.registers.proofs.links.turn.LinksTurns.turn.Goals as goal

pub loop-link-preserved : goal.loop-link-preserved
loop-link-preserved c =
    let t = c.args.self.now in
    let links = listed t.links in
    let k = c.loop-link.link-index in
    let here : k < length links = rw c.as_slice-links.ensures at c.loop-link-test.true in
    rw (c.as_slice-links.ensures, take_more links k no_link here)
    (link_more t.size.cells c.args.cells c.loop-link.moved (take k links) (get_or links k no_link) t.size.few (t.lawful k no_link here).1 c.loop-link.invariant)
