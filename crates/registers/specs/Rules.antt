-- The rules of a register's lines: its size, its taps or links, its inlets.
-- Each line is read after what the lines before it left, and is refused or adds to that.
use Rattle.std.specs.Prelude.{ℕ, suc, ◌<◌, Bool, cond, ◌&&◌, ◌||◌, List, [], ◌∷◌, ◌++◌, length, Ok, Result, ◌==◌, ◌≢◌, nat_le, nat_lt}
use Rattle.std.specs.List.{list_any}
use Rattle.bits.specs.Rows.{Row, zeros}
use Rattle.refusals.specs.declared.Refusal.{Refusal}
use Rattle.refusals.specs.declared.Refusal.TheVariants.{OutOfRange, Repeated, TooMany}
use Rattle.refusals.specs.Chains.{and_then, refused_if, reading}
use Rattle.registers.specs.declared.Link.{Link}

-- a register has 2 to 64 cells
abbrev pub sized : {X : Type 0} → ℕ → X → Result X Refusal
sized n x = refused_if (nat_lt n 2 || nat_lt 64 n) OutOfRange (Ok x)

-- the size, and which cells are tapped so far
pub record TapsRead : Type 0 where
  pub size : ℕ
  pub tapped : Row

abbrev pub with_tap : TapsRead → ℕ → TapsRead
with_tap t tap = record { size = t.size; tapped = λ i. t.tapped i || (tap == i) }

-- a tap is a cell from 1 to size - 1 that is not tapped yet
abbrev pub tap_line : TapsRead → ℕ → Result TapsRead Refusal
tap_line t tap =
    refused_if (nat_lt tap 1 || nat_le t.size tap) OutOfRange
    (refused_if (t.tapped tap) Repeated
    (Ok (with_tap t tap)))

-- no tap yet
abbrev pub no_taps : ℕ → Result TapsRead Refusal
no_taps n = sized n (record { size = n; tapped = zeros })

abbrev pub tap_lines : ℕ → List ℕ → Result TapsRead Refusal
tap_lines n taps = and_then (no_taps n) (λ t. reading tap_line t taps)

-- the size, and the links so far
pub record LinksRead : Type 0 where
  pub size : ℕ
  pub links : List Link

-- the next cell of a circle of n cells: that of the last is cell 0
abbrev pub next_cell : ℕ → ℕ → ℕ
next_cell n i = cond (suc i == n) 0 (suc i)

-- a link that can stand in a circle of n cells: from one of them to one that is not the next; it may be the same
abbrev pub Lawful : ℕ → Link → Type 0
Lawful n l = (l.from < n) × (l.to < n) × (l.to ≢ next_cell n l.from)

abbrev pub no_link : Link
no_link = record { from = 0; to = 0 }

abbrev pub same_link : Link → Link → Bool
same_link a b = a.from == b.from && a.to == b.to

-- a link is among others
abbrev pub is_linked : List Link → Link → Bool
is_linked links link = list_any (λ l. same_link l link) links

abbrev pub with_link : LinksRead → Link → LinksRead
with_link t link = record { size = t.size; links = t.links ++ (link ∷ []) }

-- a link goes from a cell to one that is not the next; it is new, and one of 16 at most
abbrev pub link_line : LinksRead → Link → Result LinksRead Refusal
link_line t link =
    refused_if (nat_le t.size link.from || (nat_le t.size link.to || link.to == next_cell t.size link.from)) OutOfRange
    (refused_if (is_linked t.links link) Repeated
    (refused_if (nat_le 16 (length t.links)) TooMany
    (Ok (with_link t link))))

-- no link yet
abbrev pub no_links : ℕ → Result LinksRead Refusal
no_links n = sized n (record { size = n; links = [] })

abbrev pub link_lines : ℕ → List Link → Result LinksRead Refusal
link_lines n links = and_then (no_links n) (λ t. reading link_line t links)

-- the size, and the cells that the channels 0, 1, 2, .. so far feed
pub record InletsRead : Type 0 where
  pub size : ℕ
  pub into : List ℕ

abbrev pub with_inlet : InletsRead → ℕ → InletsRead
with_inlet t cell = record { size = t.size; into = t.into ++ (cell ∷ []) }

-- an inlet feeds a cell; there are 64 channels at most
abbrev pub inlet_line : InletsRead → ℕ → Result InletsRead Refusal
inlet_line t cell = refused_if (nat_le 64 (length t.into) || nat_le t.size cell) OutOfRange (Ok (with_inlet t cell))

-- no inlet yet
abbrev pub no_inlets : ℕ → Result InletsRead Refusal
no_inlets n = sized n (record { size = n; into = [] })

abbrev pub inlet_lines : ℕ → List ℕ → Result InletsRead Refusal
inlet_lines n cells = and_then (no_inlets n) (λ t. reading inlet_line t cells)
