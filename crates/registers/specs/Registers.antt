-- Galois registers and ring generators as linear machines.
use Rattle.std.specs.Prelude.{ℕ, zero, suc, ◌-◌, false, not, ◌&&◌, ◌||◌, List, [], ◌∷◌, length, Ok, Result, ◌==◌, nat_lt, slice_index}
use Rattle.bits.specs.Rows.{Row, xor, plus, upto, sum_of}
use Rattle.machine.specs.Linear.{Linear}
use Rattle.refusals.specs.declared.Refusal.{Refusal}
use Rattle.refusals.specs.declared.Refusal.TheVariants.{OutOfRange}
use Rattle.refusals.specs.Chains.{and_then, refused_if}
use Rattle.registers.specs.declared.Link.{Link}
use Rattle.registers.specs.Rules.{TapsRead, tap_lines, LinksRead, link_lines, InletsRead, inlet_lines}

-- the cell before cell i on a circle of n cells
abbrev pub before : ℕ → ℕ → ℕ
before n zero = n - 1
before n (suc i) = i

-- what is injected into cell i: the sum of the bits of the channels that feed it, channel k feeding the k-th of the cells listed
abbrev pub fed : List ℕ → Row → Row
fed into j i = sum_of (length into) (λ k. (slice_index into k == i) && j k)

-- a register of n cells: a shift turns the cells, and adds what is injected; outlet i is cell i
abbrev pub register : ℕ → List ℕ → (Row → Row) → Linear
register n into turn = record {
  size = n;
  channels = length into;
  outlets = n;
  next = λ s j. upto n (plus (turn s) (fed into j));
  out = λ s. s;
}

-- each cell takes the one before it, and a tapped cell adds the last
abbrev pub galois_turn : ℕ → Row → Row → Row
galois_turn n tapped s i = xor (s (before n i)) (tapped i && s (n - 1))

-- what the links add to cell i: a link adds the cell that it comes from to the cell that it goes to
abbrev pub linked_into : List Link → Row → Row
linked_into [] s i = false
linked_into (l ∷ ls) s i = xor (l.to == i && s l.from) (linked_into ls s i)

-- each cell takes the one before it, and adds what the links bring
abbrev pub ring_turn : ℕ → List Link → Row → Row
ring_turn n links s i = xor (s (before n i)) (linked_into links s i)

abbrev pub galois : ℕ → Row → List ℕ → Linear
galois n tapped into = register n into (galois_turn n tapped)

abbrev pub ring : ℕ → List Link → List ℕ → Linear
ring n links into = register n into (ring_turn n links)

-- parts of one size, with at least one inlet, can be wired together: n and turn tell the part that turns the cells
abbrev pub wired : ℕ → (Row → Row) → InletsRead → Result Linear Refusal
wired n turn inlets = refused_if (not (n == inlets.size) || nat_lt (length inlets.into) 1) OutOfRange (Ok (register n inlets.into turn))

-- taps and inlets wired to a Galois register
abbrev pub wired_galois : TapsRead → InletsRead → Result Linear Refusal
wired_galois t = wired t.size (galois_turn t.size t.tapped)

-- links and inlets wired to a ring generator
abbrev pub wired_ring : LinksRead → InletsRead → Result Linear Refusal
wired_ring t = wired t.size (ring_turn t.size t.links)

-- a register from its lines: size, taps or links, inlets, read in this order
abbrev pub galois_from : ℕ → List ℕ → List ℕ → Result Linear Refusal
galois_from n taps cells = and_then (tap_lines n taps) (λ t. and_then (inlet_lines n cells) (wired_galois t))

abbrev pub ring_from : ℕ → List Link → List ℕ → Result Linear Refusal
ring_from n links cells = and_then (link_lines n links) (λ t. and_then (inlet_lines n cells) (wired_ring t))
