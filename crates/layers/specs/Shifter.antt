-- A phase shifter over a linear machine.
use Rattle.std.specs.Prelude.{◌≡◌, ℕ, ◌<◌, ◌≤◌, true, ◌&&◌, ◌||◌, List, [], ◌∷◌, ◌++◌, length, is_ok, Ok, Result, ◌==◌, nat_le, nat_lt, slice_index}
use Rattle.std.specs.Result.{result_map_both}
use Rattle.bits.specs.Rows.{Row, sum_of}
use Rattle.bits.specs.Words.{bit_of}
use Rattle.machine.specs.Linear.{Linear}
use Rattle.refusals.specs.declared.Refusal.{Refusal}
use Rattle.refusals.specs.declared.handed_back.HandedBack.{HandedBack}
use Rattle.refusals.specs.declared.Refusal.TheVariants.{OutOfRange}
use Rattle.refusals.specs.Chains.{and_then, refused_if, reading}

-- outlet i is the sum of those of the n outlets below that are in set i; a set is a word, outlet j below in bit j
abbrev pub mixed : ℕ → List ℕ → Row → Row
mixed n sets s i = sum_of n (λ j. bit_of (slice_index sets i) j && s j)

-- an outlet for each set; cells, channels and next are those below
abbrev pub shifter : Linear → List ℕ → Linear
shifter m sets = record {
  size = m.size;
  channels = m.channels;
  outlets = length sets;
  next = m.next;
  out = λ s. mixed m.outlets sets (m.out s);
}

-- one set more: it is not empty, and there are 64 at most
abbrev pub set_line : List ℕ → ℕ → Result (List ℕ) Refusal
set_line sets set = refused_if (nat_le 64 (length sets) || set == 0) OutOfRange (Ok (sets ++ (set ∷ [])))

abbrev pub set_lines : List ℕ → Result (List ℕ) Refusal
set_lines sets = reading set_line [] sets

-- a shifter has at least one outlet
abbrev pub some_outlet : List ℕ → Result (List ℕ) Refusal
some_outlet sets = refused_if (nat_lt (length sets) 1) OutOfRange (Ok sets)

-- the sets of a shifter, from its lines
abbrev pub outlets_from : List ℕ → Result (List ℕ) Refusal
outlets_from sets = and_then (set_lines sets) some_outlet

-- 1 to 64 outlets, each with a set that is not empty
pub record OutletsAllowed (sets : List ℕ) : Type 0 where
  pub some : 1 ≤ length sets
  pub few : length sets ≤ 64
  pub filled : (k : ℕ) → k < length sets → 0 < slice_index sets k

-- sets that are allowed make a shifter of them, and sets that make one are allowed
pub record ShifterExactly (sets : List ℕ) : Type 0 where
  pub allowed : OutletsAllowed sets → outlets_from sets ≡ Ok sets
  pub only : is_ok (outlets_from sets) ≡ true → OutletsAllowed sets

-- a shifter by its machine below and its sets, or the machine handed back with the refusal
abbrev pub shifter_over : {M : Type 0} → M → Result (List ℕ) Refusal → Result (M × List ℕ) (HandedBack M)
shifter_over m sets = result_map_both (λ accepted. (m, accepted)) (λ refusal. record { value = m; refusal = refusal }) sets
