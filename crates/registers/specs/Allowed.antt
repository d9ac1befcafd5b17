-- What a register may be like, in plain terms; its lines are accepted exactly then, and describe it.
use Rattle.std.specs.Prelude.{◌≡◌, ℕ, ◌<◌, ◌≤◌, true, false, ◌||◌, List, [], ◌∷◌, length, is_ok, Ok, ◌==◌, ◌≢◌, slice_index, slice_index_or}
use Rattle.bits.specs.Rows.{Row}
use Rattle.registers.specs.declared.Link.{Link}
use Rattle.registers.specs.Rules.{Lawful, no_link}
use Rattle.registers.specs.Registers.{galois, ring, galois_from, ring_from}

-- the set of the numbers in a list
abbrev pub among : List ℕ → Row
among [] i = false
among (x ∷ xs) i = x == i || among xs i

-- 2 to 64 cells
pub record SizeAllowed (n : ℕ) : Type 0 where
  pub some : 2 ≤ n
  pub few : n ≤ 64

-- taps among cells 1 to n - 1, none twice
pub record TapsAllowed (n : ℕ) (taps : List ℕ) : Type 0 where
  pub inside : (k : ℕ) → k < length taps → (1 ≤ slice_index taps k) × (slice_index taps k < n)
  pub once : (j k : ℕ) → j < k → k < length taps → slice_index taps j ≢ slice_index taps k

-- links between the cells, none to the next, none twice, at most 16
pub record LinksAllowed (n : ℕ) (links : List Link) : Type 0 where
  pub lawful : (k : ℕ) → k < length links → Lawful n (slice_index_or links k no_link)
  pub once : (j k : ℕ) → j < k → k < length links → slice_index_or links j no_link ≢ slice_index_or links k no_link
  pub few : length links ≤ 16

-- 1 to 64 channels, each into a cell
pub record InletsAllowed (n : ℕ) (cells : List ℕ) : Type 0 where
  pub some : 1 ≤ length cells
  pub few : length cells ≤ 64
  pub inside : (k : ℕ) → k < length cells → slice_index cells k < n

abbrev pub GaloisAllowed : ℕ → List ℕ → List ℕ → Type 0
GaloisAllowed n taps cells = SizeAllowed n × TapsAllowed n taps × InletsAllowed n cells

abbrev pub RingAllowed : ℕ → List Link → List ℕ → Type 0
RingAllowed n links cells = SizeAllowed n × LinksAllowed n links × InletsAllowed n cells

-- lines that are allowed make the register that they describe, and lines that make one are allowed
pub record GaloisExactly (n : ℕ) (taps cells : List ℕ) : Type 0 where
  pub allowed : GaloisAllowed n taps cells → galois_from n taps cells ≡ Ok (galois n (among taps) cells)
  pub only : is_ok (galois_from n taps cells) ≡ true → GaloisAllowed n taps cells

pub record RingExactly (n : ℕ) (links : List Link) (cells : List ℕ) : Type 0 where
  pub allowed : RingAllowed n links cells → ring_from n links cells ≡ Ok (ring n links cells)
  pub only : is_ok (ring_from n links cells) ≡ true → RingAllowed n links cells
