-- What the values of this crate stand for.
use Rattle.bits.specs.Words.{bit_of}
use Rattle.lists.specs.Listed.{listed}
use Rattle.machine.specs.Linear.{State}
use Rattle.registers.specs.declared.taps.Taps.{Taps}
use Rattle.registers.specs.declared.links.Links.{Links}
use Rattle.registers.specs.declared.register.Register.{Register}
use Rattle.registers.specs.declared.inlets.Inlets.{Inlets}
use Rattle.registers.specs.Rules.{TapsRead, LinksRead, InletsRead}
use Rattle.registers.specs.Registers.{register}

-- the size, and the set of the tapped cells
abbrev pub taps_read : Taps → TapsRead
taps_read t = record { size = t.size.cells; tapped = bit_of t.set }

-- the size, and the links in the order of their lines
abbrev pub links_read : Links → LinksRead
links_read t = record { size = t.size.cells; links = listed t.links }

-- the size, and the cells that the channels feed, channel by channel
abbrev pub inlets_read : Inlets → InletsRead
inlets_read t = record { size = t.size.cells; into = listed t.cells }

-- a register over a part that turns its cells: its meaning, and its cells
abbrev pub register_state : {T : Type 0} {turns : _} → Register T turns → State
register_state {turns = turns} r = record { meaning = register (turns.size r.turning) (inlets_read r.inlets).into (turns.turned r.turning); cells = bit_of r.cells }
