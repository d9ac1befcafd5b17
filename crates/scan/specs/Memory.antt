-- Chain memory: one word for each position, with chain c in bit c.
use Rattle.std.specs.Prelude.{ℕ, zero, suc, List, [], ◌∷◌, ◌++◌, drop, Result, nat_lt, slice_index}
use Rattle.bits.specs.Words.{bit_of, word_of}
use Rattle.refusals.specs.declared.Refusal.{Refusal}
use Rattle.refusals.specs.declared.Refusal.TheVariants.{MemoryTooShort}
use Rattle.refusals.specs.Chains.{refused_if}
use Rattle.scan.specs.Loads.{Chains}

-- the words of n positions of c chains
abbrev pub words_of : ℕ → ℕ → Chains → List ℕ
words_of zero c h = []
words_of (suc n) c h = word_of c (h zero) ∷ words_of n c (λ p. h (suc p))

-- what memory holds of chains
abbrev pub chains_in : List ℕ → Chains
chains_in memory p = bit_of (slice_index memory p)

-- memory with n positions of c chains written over its first words; its later words stay
abbrev pub holding : ℕ → ℕ → Chains → List ℕ → List ℕ
holding n c h memory = words_of n c h ++ drop n memory

-- room for n positions, a word each
abbrev pub in_memory : {X : Type 0} → ℕ → ℕ → Result X Refusal → Result X Refusal
in_memory n room r = refused_if (nat_lt room n) MemoryTooShort r
