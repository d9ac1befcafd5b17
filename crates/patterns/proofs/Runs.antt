-- Whole runs: what the calls of a run leave, from start to close.
use Rattle.std.proofs.Common.{◌≡◌, ℕ, zero, suc, ◌+◌, ◌<◌, ◌≤◌, Bool, true, false, cond, not, eqb, ltb, List, [], ◌∷◌, ◌++◌, length, get_or, drop, Ok, Result, sym, refl, ap, ◌∙◌, ap₂, add-one, arith}
use mathlib.Core.Bool.{beq}
use Rattle.std.proofs.lemmas.List.{drop_at, take_at}
use Rattle.std.proofs.lemmas.Bool.{ltb-false, le-ltb, lt-leb, eq-eqb, and_from, cond-false}
use Rattle.std.specs.Result.{result_map_both}
use Rattle.bits.specs.Digits.{all_digits, digit_row}
use Rattle.bits.specs.Rows.{Row, upto}
use Rattle.bits.specs.Words.{bit_of, word_of}
use Rattle.bits.proofs.Bitwise.{word_self, word_fits, word_at}
use Rattle.machine.specs.Linear.{Linear}
use Rattle.refusals.specs.declared.Refusal.{Refusal}
use Rattle.refusals.specs.declared.Refusal.TheVariants.{OutOfRange, TooMany, MemoryTooShort, MalformedField}
use Rattle.refusals.specs.declared.handed_back.HandedBack.{HandedBack}
use Rattle.refusals.specs.Chains.{ok_map, and_then, refused_if, reading}
use Rattle.scan.specs.declared.frame.Frame.{Frame}
use Rattle.scan.specs.declared.response.Loaded.{Loaded}
use Rattle.scan.specs.Frames.{cycles, span, variables, taken, out_of_limits, in_limits, in_span}
use Rattle.scan.specs.Loads.{Chains, cells_after, chains_after, moved_up, load}
use Rattle.scan.specs.Memory.{words_of, chains_in, holding}
use Rattle.scan.specs.Runs.{Bench, bench, Run, run_at, underway, memory_after, cycled, shifting, closing}
use Rattle.patterns.specs.Replays.{replaying, HoldsItsLoad, closed, run_by_hand, InjectionWords, seen, WholeRuns}
use Rattle.scan.proofs.Memory.{length_words, length_holding, holding_at, words_same}

-- chains that memory holds move up as the chains themselves do
moves_on : (n c : ℕ) (entering : Row) (h : Chains) (memory : List ℕ) → n ≤ length memory
    → holding n c (moved_up entering (chains_in (holding n c h memory))) (holding n c h memory) ≡ holding n c (moved_up entering h) memory
moves_on n c entering h memory room =
    ap₂ (λ (xs ys : List ℕ). xs ++ ys) (words_same n c _ _ here) (drop_at (words_of n c h) (drop n memory) n (length_words n c h))
  where
    here : (p : ℕ) → p < n → word_of c (moved_up entering (chains_in (holding n c h memory)) p) ≡ word_of c (moved_up entering h p)
    here zero l = refl
    here (suc p) l =
        ap (λ (w : ℕ). word_of c (bit_of w)) (holding_at n c h memory room p (omega arith)) ∙ sym (word_self c (word_of c (h p)) (word_fits c (h p)))

-- memory shows the chains that it holds
pub holds_its_load : (m : Linear) (f : Frame) (x : Row) (memory : List ℕ) → f.shifts ≤ length memory
    → HoldsItsLoad m f x (holding f.shifts m.outlets (load m f x) memory)
holds_its_load m f x memory room b in-range =
    ap (λ (v : Bool). beq v b.value)
    (ap (λ (w : ℕ). bit_of w b.chain) (holding_at f.shifts m.outlets (load m f x) memory room b.position in-range.position_below)
    ∙ word_at m.outlets (load m f x b.position) b.chain in-range.chain_below)

module _ (m : Linear) (f : Frame) (x : Row) (memory : List ℕ) where
  -- what memory holds after t cycles of the load
  abbrev memory_to : ℕ → List ℕ
  memory_to t = holding f.shifts m.outlets (chains_after m f x t) memory

  -- the run after t cycles of the load, and the bench
  abbrev pub loaded_to : ℕ → Run × Bench
  loaded_to t = underway (run_at m f t) (cells_after m x t) (memory_to t)

module _ (m : Linear) (f : Frame) (x : Row) (memory : List ℕ) (room : f.shifts ≤ length memory) where
  memory_step : (t : ℕ) → memory_after m (run_at m f t) (cells_after m x (suc t)) (memory_to m f x memory t) ≡ memory_to m f x memory (suc t)
  memory_step t =
      ap (λ (k : ℕ). cond (ltb f.warmup k) (holding f.shifts m.outlets (moved_up (m.out (cells_after m x (suc t))) (chains_in (memory_to m f x memory t))) (memory_to m f x memory t)) (memory_to m f x memory t))
      (add-one t)
      ∙ go (ltb f.warmup (suc t)) (m.out (cells_after m x (suc t)))
    where
      go : (above : Bool) (out : Row) → cond above (holding f.shifts m.outlets (moved_up out (chains_in (memory_to m f x memory t))) (memory_to m f x memory t)) (memory_to m f x memory t)
          ≡ holding f.shifts m.outlets (cond above (moved_up out (chains_after m f x t)) (chains_after m f x t)) memory
      go true out = moves_on f.shifts m.outlets out (chains_after m f x t) memory room
      go false out = refl

  bench_step : (t word : ℕ) → upto m.channels (bit_of word) ≡ taken m.channels x (suc t)
      → cycled m word (run_at m f t) (loaded_to m f x memory t).1 ≡ (loaded_to m f x memory (suc t)).1
  bench_step t word e =
      ap (λ (s : Row). bench s (memory_after m (run_at m f t) s (memory_to m f x memory t))) (ap (m.next (cells_after m x t)) e)
      ∙ ap (bench (cells_after m x (suc t))) (memory_step t)

  -- one cycle of the load
  pub load_step : (t word : ℕ) → t < cycles f → upto m.channels (bit_of word) ≡ taken m.channels x (suc t)
      → shifting m (loaded_to m f x memory t) word ≡ Ok (loaded_to m f x memory (t + 1))
  load_step t word h e =
      let long = length_holding f.shifts m.outlets (chains_after m f x t) memory room in
      cond-false _ _ _ (ap not (and_from _ _ (eq-eqb m.channels m.channels refl) (eq-eqb m.outlets m.outlets refl)))
      ∙ cond-false _ _ _ (le-ltb (length (memory_to m f x memory t)) f.shifts (omega arith))
      ∙ cond-false _ _ _ (lt-leb (cycles f) t h)
      ∙ ap (λ (b : Bench). Ok (run_at m f (t + 1), b)) (bench_step t word e ∙ ap (λ (k : ℕ). (loaded_to m f x memory k).1) (sym (add-one t)))

  -- all cycles of the load, from cycle t on
  load_steps : (t : ℕ) (words : List ℕ) → t + length words ≡ cycles f
      → ((i : ℕ) → i < length words → upto m.channels (bit_of (get_or words i 0)) ≡ taken m.channels x (suc (t + i)))
      → reading (shifting m) (loaded_to m f x memory t) words ≡ Ok (loaded_to m f x memory (cycles f))
  load_steps t [] n each = let e : t ≡ cycles f = omega arith in ap (λ (k : ℕ). Ok (loaded_to m f x memory k)) e
  load_steps t (w ∷ ws) n each =
      let here : suc (t + 0) ≡ suc t = omega arith in
      ap (λ (r : Result (Run × Bench) Refusal). and_then r (λ o. reading (shifting m) o ws))
      (load_step t w (omega arith) (each zero (omega arith) ∙ ap (taken m.channels x) here))
      ∙ load_steps (t + 1) ws (omega arith) (λ i l.
      let e : suc (t + suc i) ≡ suc (t + 1 + i) = omega arith in each (suc i) (omega arith) ∙ ap (taken m.channels x) e)

-- closing after all cycles
pub all_done : (m : Linear) (f : Frame) → closing (run_at m f (cycles f)) ≡ Ok (record { positions = f.shifts; chains = m.outlets })
all_done m f = cond-false _ _ _ (le-ltb (cycles f) (cycles f) (omega arith))

-- the tests of a start and of a replay, one after another; p to s are what they refuse with
module _ (p q r s : Refusal) where
  -- what comes after a start that is not refused
  start_tests : {X Y : Type 0} (a b c : Bool) (x : X) (g : X → Result Y Refusal) (y : Result Y Refusal) → (c ≡ false → g x ≡ y)
      → and_then (refused_if a p (refused_if b q (refused_if c r (Ok x)))) g ≡ refused_if a p (refused_if b q (refused_if c r y))
  start_tests a b c x g y h = grind arith

  -- with the right digits a replay has the tests of a start
  replay_tests : {Y : Type 0} (a n b c d : Bool) (y : Result Y Refusal) → n ≡ false → d ≡ false
      → refused_if a p (refused_if b q (refused_if c r y)) ≡ refused_if a p (refused_if n p (refused_if b q (refused_if c r (refused_if d s y))))
  replay_tests a n b c d y none good = rw (none, good)

  -- what is seen of a replay that has room
  seen_tests : {X Y : Type 0} (a n b c d : Bool) (x : X) (g : X → Y) → c ≡ false
      → ok_map g (refused_if a p (refused_if n p (refused_if b q (refused_if c r (refused_if d s (Ok x))))))
      ≡ refused_if a p (refused_if n p (refused_if b q (refused_if d s (Ok (g x)))))
  seen_tests a n b c d x g e = grind arith

module _ (m : Linear) (f : Frame) (digits : List ℕ) where
  abbrev injection : Row
  injection = digit_row digits

  abbrev loaded : Loaded
  loaded = record { positions = f.shifts; chains = m.outlets }

  abbrev wrong_count : Bool
  wrong_count = not (eqb (length digits) (variables m.channels f))

  -- the words of the injection, from a start with room to the close
  drives : (words : List ℕ) (memory : List ℕ) (room : f.shifts ≤ length memory) → InjectionWords m f injection words
      → and_then (reading (shifting m) (loaded_to m f injection memory 0) words) closed ≡ Ok (loaded, (loaded_to m f injection memory (cycles f)).1)
  drives words memory room each =
      let all = each.all_cycles in
      ap (λ (r : Result (Run × Bench) Refusal). and_then r closed)
      (load_steps m f injection memory room 0 words (omega arith) (λ i l.
      let e : suc i ≡ suc (0 + i) = omega arith in each.each i (omega arith) ∙ ap (taken m.channels injection) e))
      ∙ ap (λ (r : Result Loaded (HandedBack Run)). result_map_both (λ l. (l, (loaded_to m f injection memory (cycles f)).1)) (λ (back : HandedBack Run). back.refusal) r) (all_done m f)

  by_hand : (words : List ℕ) (b : Bench) → length digits ≡ variables m.channels f → all_digits digits ≡ true → InjectionWords m f injection words
      → run_by_hand m f words b ≡ replaying m f digits b
  by_hand words b count good each =
      let short = ltb (length b.memory) f.shifts in
      let over = ltb 256 (span m.channels f) in
      start_tests OutOfRange TooMany MemoryTooShort MalformedField (out_of_limits f) over short _ _ _
      (λ no. drives words b.memory (ltb-false (length b.memory) f.shifts no) each)
      ∙ replay_tests OutOfRange TooMany MemoryTooShort MalformedField (out_of_limits f) wrong_count over short (not (all_digits digits)) _
      (ap not (eq-eqb (length digits) (variables m.channels f) count)) (ap not good)

  from_anything : (words : List ℕ) (b c : Bench) → length digits ≡ variables m.channels f → all_digits digits ≡ true
      → InjectionWords m f injection words → f.shifts ≤ length b.memory → f.shifts ≤ length c.memory
      → seen f (run_by_hand m f words b) ≡ seen f (replaying m f digits c)
  from_anything words b c count good each hb hc = ap (seen f) (by_hand words b count good each) ∙ plain b hb ∙ sym (plain c hc)
    where
      plain : (b : Bench) → f.shifts ≤ length b.memory → seen f (replaying m f digits b)
          ≡ in_limits f (refused_if wrong_count OutOfRange (in_span m.channels f (refused_if (not (all_digits digits)) MalformedField
          (Ok (loaded, (cells_after m injection (cycles f), words_of f.shifts m.outlets (load m f injection)))))))
      plain b room =
          seen_tests OutOfRange TooMany MemoryTooShort MalformedField (out_of_limits f) wrong_count (ltb 256 (span m.channels f))
          (ltb (length b.memory) f.shifts) (not (all_digits digits)) _ _ (le-ltb (length b.memory) f.shifts room)
          ∙ ap (λ (ws : List ℕ). in_limits f (refused_if wrong_count OutOfRange (in_span m.channels f (refused_if (not (all_digits digits)) MalformedField
          (Ok (loaded, (cells_after m injection (cycles f), ws)))))))
          (take_at (words_of f.shifts m.outlets (load m f injection)) (drop f.shifts b.memory) f.shifts
          (length_words f.shifts m.outlets (load m f injection)))

pub whole_runs : (m : Linear) (f : Frame) → WholeRuns m f
whole_runs m f = record { by_hand = by_hand m f; from_anything = from_anything m f }
