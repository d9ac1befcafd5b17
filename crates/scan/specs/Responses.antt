-- A test run once it is loaded: capture, then unload.
use Rattle.std.specs.Prelude.{ℕ, ◌+◌, ◌-◌, Bool, not, ◌&&◌, ◌||◌, List, length, Ok, Result, nat_le, nat_lt, slice_index}
use Rattle.bits.specs.Words.{bit_of, word_of}
use Rattle.refusals.specs.declared.Refusal.{Refusal}
use Rattle.refusals.specs.declared.Refusal.TheVariants.{MemoryTooShort, NoCycleLeft}
use Rattle.refusals.specs.declared.handed_back.HandedBack.{HandedBack}
use Rattle.refusals.specs.Chains.{refused_if}
use Rattle.scan.specs.declared.response.Loaded.{Loaded}
use Rattle.scan.specs.declared.response.Captured.{Captured}

-- a list of values or one of unknown marks has fewer words than there are positions
abbrev pub short : ℕ → List ℕ → List ℕ → Bool
short n values unknowns = nat_lt (length values) n || nat_lt (length unknowns) n

-- capturing a response; a refusal hands the loaded run back
abbrev pub capturing : Loaded → List ℕ → List ℕ → Result Captured (HandedBack Loaded)
capturing l values unknowns =
    refused_if (short l.positions values unknowns) (record { value = l; refusal = MemoryTooShort })
    (Ok (record { loaded = l; unloaded = 0 }))

-- the pair for c chains: values, a value under a mark being 0, and unknown marks
abbrev pub pair_of : ℕ → ℕ → ℕ → ℕ × ℕ
pair_of c value unknown = (word_of c (λ i. bit_of value i && not (bit_of unknown i)), word_of c (bit_of unknown))

-- unload cycle j, counted from 1, answers the pair of position L − j
abbrev pub unloading : Captured → List ℕ → List ℕ → Result ((ℕ × ℕ) × Captured) Refusal
unloading u values unknowns =
    refused_if (short u.loaded.positions values unknowns) MemoryTooShort (refused_if (nat_le u.loaded.positions u.unloaded) NoCycleLeft
    (let p = u.loaded.positions - (u.unloaded + 1) in
    Ok (
      pair_of u.loaded.chains (slice_index values p) (slice_index unknowns p),
      record { loaded = u.loaded; unloaded = u.unloaded + 1 },
    )))
