-- Chain memory: its words one by one, and when it holds given chains.
use Rattle.std.proofs.Common.{◌≡◌, ℕ, zero, suc, ◌+◌, ◌-◌, ◌^◌, ◌<◌, ◌≤◌, List, ◌∷◌, [], ◌++◌, length, get_or, drop, set, replicate, sym, refl, ap, ◌∙◌, subst, ap₂, inl, inr, add-one, arith}
use Rattle.std.proofs.lemmas.List.{length-append, length-drop, get_or_append_left, get_or-append_right, get_or-drop, ext_get_or, drop_at}
use Rattle.std.proofs.lemmas.Bool.{cases_lt}
use Rattle.bits.specs.Rows.{Row}
use Rattle.bits.specs.Words.{bit_of, word_of}
use Rattle.bits.proofs.Bitwise.{word_zeros, word_self, word_fits}
use Rattle.machine.specs.Linear.{Linear, shown}
use Rattle.scan.specs.Loads.{Chains, empty, moved_up}
use Rattle.scan.specs.Memory.{words_of, chains_in, holding}

pub length_words : (n c : ℕ) (h : Chains) → length (words_of n c h) ≡ n
length_words zero c h = refl
length_words (suc n) c h = ap suc (length_words n c (λ p. h (suc p)))

pub words_at : (n c : ℕ) (h : Chains) (p : ℕ) → p < n → get_or (words_of n c h) p 0 ≡ word_of c (h p)
words_at zero c h p l = absurd (omega arith)
words_at (suc n) c h zero l = refl
words_at (suc n) c h (suc p) l = words_at n c (λ q. h (suc q)) p (omega arith)

pub words_same : (n c : ℕ) (h k : Chains) → ((p : ℕ) → p < n → word_of c (h p) ≡ word_of c (k p)) → words_of n c h ≡ words_of n c k
words_same zero c h k same = refl
words_same (suc n) c h k same =
    ap₂ (λ (w : ℕ) (ws : List ℕ). w ∷ ws) (same zero (omega arith)) (words_same n c (λ p. h (suc p)) (λ p. k (suc p)) (λ p l. same (suc p) (omega arith)))

pub words_empty : (n c : ℕ) → replicate n 0 ≡ words_of n c empty
words_empty zero c = refl
words_empty (suc n) c = ap₂ (λ (w : ℕ) (ws : List ℕ). w ∷ ws) (sym (word_zeros c)) (words_empty n c)

module _ (n c : ℕ) (h : Chains) (memory : List ℕ) (room : n ≤ length memory) where
  pub length_holding : length (holding n c h memory) ≡ length memory
  length_holding = let a = length_words n c h in let d = length-drop n memory in length-append (words_of n c h) (drop n memory) ∙ (omega arith)

  -- a position of the chains
  pub holding_at : (p : ℕ) → p < n → get_or (holding n c h memory) p 0 ≡ word_of c (h p)
  holding_at p l = let e = length_words n c h in get_or_append_left (words_of n c h) (drop n memory) 0 p (omega arith) ∙ words_at n c h p l

  -- a word past them
  pub holding_past : (p : ℕ) → n ≤ p → get_or (holding n c h memory) p 0 ≡ get_or memory p 0
  holding_past p l =
      let e : n + (p - n) ≡ p = omega arith in
      get_or-append_right (words_of n c h) (drop n memory) n p 0 (length_words n c h) l ∙ get_or-drop n memory (p - n) 0
      ∙ ap (λ (q : ℕ). get_or memory q 0) e

  -- memory holds the chains if its words say so
  pub holding_is : (words : List ℕ) → length words ≡ length memory → ((p : ℕ) → p < n → get_or words p 0 ≡ word_of c (h p))
      → ((p : ℕ) → n ≤ p → get_or words p 0 ≡ get_or memory p 0) → words ≡ holding n c h memory
  holding_is words long here past =
      ext_get_or 0 words (holding n c h memory) (long ∙ sym length_holding) (λ p _.
      elim (cases_lt p n) [ inl l ↦ here p l ∙ sym (holding_at p l) | inr l ↦ past p l ∙ sym (holding_past p l) ])

-- what the next position takes is what stood where the chains are written next
pub next_carried : (n c : ℕ) (first : Row) (h : Chains) (memory : List ℕ) → n < length memory
    → word_of c (bit_of (get_or (holding n c h memory) n 0)) ≡ word_of c (moved_up first (chains_in memory) (n + 1))
next_carried n c first h memory l =
    ap (λ (w : ℕ). word_of c (bit_of w)) (holding_past n c h memory (omega arith) n (omega arith))
    ∙ ap (λ (q : ℕ). word_of c (moved_up first (chains_in memory) q)) (sym (add-one n))

-- one word more of the chains is written
pub holding_more : (n c w : ℕ) (h : Chains) (memory : List ℕ) → n < length memory → w ≡ word_of c (h n)
    → set (holding n c h memory) n w ≡ holding (n + 1) c h memory
holding_more n c w h memory l is = go n h memory l is ∙ ap (λ (k : ℕ). holding k c h memory) (sym (add-one n))
  where
    go : (n : ℕ) (h : Chains) (memory : List ℕ) → n < length memory → w ≡ word_of c (h n) → set (holding n c h memory) n w ≡ holding (suc n) c h memory
    go n h [] l is = absurd (omega arith)
    go zero h (x ∷ memory) l is = ap (λ (v : ℕ). v ∷ memory) is
    go (suc n) h (x ∷ memory) l is = ap (λ (ws : List ℕ). word_of c (h zero) ∷ ws) (go n (λ p. h (suc p)) memory (omega arith) is)

-- memory cut into the words of the chains and the later ones, where the words alone are written
module _ (n c : ℕ) (words rest memory : List ℕ) (cut : memory ≡ words ++ rest) (all : length words ≡ n) where
  later : rest ≡ drop n memory
  later = sym (ap (λ (ws : List ℕ). drop n ws) cut ∙ drop_at words rest n all)

  pub cleared_words : (written : List ℕ) → written ≡ replicate (length words) 0 → written ++ rest ≡ holding n c empty memory
  cleared_words written is = ap₂ (λ (front back : List ℕ). front ++ back) (is ∙ ap (λ (k : ℕ). replicate k 0) all ∙ words_empty n c) later

  pub moved_words : (first : Row) (written : List ℕ) → written ≡ words_of (length words) c (moved_up first (chains_in words))
      → written ++ rest ≡ holding n c (moved_up first (chains_in memory)) memory
  moved_words first written is =
      ap₂ (λ (front back : List ℕ). front ++ back)
      (is ∙ ap (λ (k : ℕ). words_of k c (moved_up first (chains_in words))) all ∙ words_same n c _ _ same) later
    where
      same : (p : ℕ) → p < n → word_of c (moved_up first (chains_in words) p) ≡ word_of c (moved_up first (chains_in memory) p)
      same zero l = refl
      same (suc p) l =
          ap (λ (w : ℕ). word_of c (bit_of w)) (sym (ap (λ (ws : List ℕ). get_or ws p 0) cut ∙ get_or_append_left words rest 0 p (omega arith)))

-- only as many bits of what enters count as there are chains
pub holding_entering : (n c : ℕ) (s t : Row) (h : Chains) (memory : List ℕ) → word_of c s ≡ word_of c t
    → holding n c (moved_up s h) memory ≡ holding n c (moved_up t h) memory
holding_entering zero c s t h memory e = refl
holding_entering (suc n) c s t h memory e = ap (λ (w : ℕ). (w ∷ words_of n c h) ++ drop (suc n) memory) e

-- outlets as they were read go into the chains as they are
module _ (m k : Linear) (c word : ℕ) (s : Row) (same : k ≡ m) (outlets : m.outlets ≡ c) (read : word ≡ shown k s) where
  as_read : word ≡ word_of c (m.out s)
  as_read = read ∙ ap (λ (l : Linear). shown l s) same ∙ ap (λ (n : ℕ). word_of n (m.out s)) outlets

  pub read_fits : word ≡ word_of c (bit_of word)
  read_fits = word_self c word (subst (λ (x : ℕ). x < 2 ^ c) (sym as_read) (word_fits c (m.out s)))

  pub read_enters : (n : ℕ) (h : Chains) (memory words : List ℕ) → words ≡ holding n c (moved_up (bit_of word) h) memory
      → words ≡ holding n c (moved_up (m.out s) h) memory
  read_enters n h memory words e = e ∙ holding_entering n c (bit_of word) (m.out s) h memory (sym read_fits ∙ as_read)
