-- A delay of one shift over a linear machine.
use Rattle.std.specs.Prelude.{ℕ, ◌+◌, ◌-◌, cond, nat_lt}
use Rattle.bits.specs.Rows.{Row, upto}
use Rattle.machine.specs.Linear.{Linear}

-- the first n bits of s, and then the bits of t
abbrev pub joined : ℕ → Row → Row → Row
joined n s t i = cond (nat_lt i n) (s i) (t (i - n))

-- the cells are those below and then one for each outlet below, which takes that outlet as it is before the shift; the outlets are these cells
abbrev pub delayed : Linear → Linear
delayed m = record {
  size = m.size + m.outlets;
  channels = m.channels;
  outlets = m.outlets;
  next = λ s j. joined m.size (m.next (upto m.size s) j) (upto m.outlets (m.out (upto m.size s)));
  out = λ s i. s (m.size + i);
}
