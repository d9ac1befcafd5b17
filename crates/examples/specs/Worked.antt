-- Worked examples, computed from the definitions.
use Rattle.std.specs.Prelude.{◌≡◌, ℕ, zero, suc, Bool, true, false, List, [], ◌∷◌, map, replicate, Ok, Err, codes, Result, nat_eq}
use Prim.Native.String.{String}
use Rattle.std.specs.List.{range_with_len}
use Rattle.bits.specs.Rows.{Row, zeros}
use Rattle.bits.specs.Lists.{row_of, list_of}
use Rattle.machine.specs.Linear.{Linear}
use Rattle.refusals.specs.declared.Refusal.{Refusal}
use Rattle.refusals.specs.declared.Refusal.TheVariants.{NoCycleLeft}
use Rattle.refusals.specs.Numbers.{number_of}
use Rattle.refusals.specs.Chains.{ok_map, and_then, left_by}
use Rattle.registers.specs.Registers.{galois_from, ring_from}
use Rattle.registers.specs.declared.Link.{Link}
use Rattle.layers.specs.Shifter.{shifter, outlets_from}
use Rattle.layers.specs.Delayed.{delayed}
use Rattle.scan.specs.Frames.{before}
use Rattle.scan.specs.Loads.{load, loads}
use Rattle.patterns.specs.Replays.{replaying}
use Rattle.scan.specs.Responses.{pair_of, capturing, unloading}
use Rattle.scan.specs.Runs.{bench, starting}
use Rattle.scan.specs.declared.care.CareBit.{CareBit}
use Rattle.scan.specs.declared.frame.Frame.{Frame}
use Rattle.scan.specs.declared.response.Captured.{Captured}
use Rattle.scan.specs.declared.response.Loaded.{Loaded}

-- bits written as noughts and ones, place 0 first
abbrev pub bits : String → List Bool
bits digits = map (λ c. nat_eq c 49) (codes digits)

-- the cells after each of n silent shifts
abbrev pub silent : Linear → ℕ → Row → List (List Bool)
silent m zero s = []
silent m (suc n) s = list_of m.size (m.next s zeros) ∷ silent m n (m.next s zeros)

-- the outlets after each cycle from some cells; in each cycle channel 0 takes the next of the bits
abbrev pub showing : Linear → Row → List Bool → List (List Bool)
showing m s [] = []
showing m s (b ∷ bs) = list_of m.outlets (m.out (m.next s (row_of (b ∷ [])))) ∷ showing m (m.next s (row_of (b ∷ []))) bs

-- the number with which something is refused, and 0 where it is made
abbrev pub refused_with : {X : Type 0} → Result X Refusal → ℕ
refused_with (Ok x) = 0
refused_with (Err refusal) = number_of refusal

abbrev pub link : ℕ → ℕ → Link
link a b = record { from = a; to = b }

-- links from cell 0 to each of these cells
abbrev pub from_first : List ℕ → List Link
from_first cells = map (link 0) cells

-- the four-cell ring with a link from cell 0 to cell 3 and one inlet, into cell 0
abbrev pub ring_of_four : Result Linear Refusal
ring_of_four = ring_from 4 (link 0 3 ∷ []) (0 ∷ [])

abbrev pub frame : ℕ → ℕ → Frame
frame w l = record { warmup = w; shifts = l }

-- what each chain of a machine is loaded with, position 0 first
abbrev pub loaded : Linear → Frame → List Bool → List (List Bool)
loaded m f x = map (λ c. list_of f.shifts (λ p. load m f (row_of x) p c)) (range_with_len 0 m.outlets)

abbrev pub care : ℕ → ℕ → Bool → CareBit
care c p v = record { chain = c; position = p; value = v }

-- the number with which a start is refused by n words of memory
abbrev pub start_refused : Frame → ℕ → Result Linear Refusal → ℕ
start_refused f n made = refused_with (and_then made (λ m. starting m f (bench zeros (replicate n 9))))

-- the replay of a pattern by frame 2 2 on the four-cell ring: what it answers, and what it leaves in n words that were 9
abbrev pub replay_of : String → ℕ → Result (Loaded × List ℕ) Refusal
replay_of digits n =
    and_then ring_of_four (λ m. ok_map (λ o. (o.0, o.1.memory)) (replaying m (frame 2 2) (codes digits) (bench zeros (replicate n 9))))

-- what n unload cycles answer
abbrev pub unloaded : ℕ → Captured → List ℕ → List ℕ → List (Result (ℕ × ℕ) Refusal)
unloaded zero u values unknowns = []
unloaded (suc n) u values unknowns =
    ok_map (λ o. o.0) (unloading u values unknowns) ∷ unloaded n (left_by u (ok_map (λ o. o.1) (unloading u values unknowns))) values unknowns

-- the list: each example has a name
pub record WorkedExamples : Type 0 where
  -- the Galois register of 3 cells with a tap at cell 1, from 100
  pub galois_of_three :
      ok_map (λ m. silent m 4 (row_of (bits "100"))) (galois_from 3 (1 ∷ []) (0 ∷ [])) ≡ Ok (bits "010" ∷ bits "001" ∷ bits "110" ∷ bits "011" ∷ [])
  -- the four-cell ring, from reset with the injection 1000: a bit that is injected comes round and is added by the link
  pub four_cell_ring :
      ok_map (λ m. showing m zeros (bits "1000")) ring_of_four ≡ Ok (bits "1000" ∷ bits "0101" ∷ bits "1010" ∷ bits "0100" ∷ [])
  -- the same under a phase shifter of two outlets: outlet 0 below, and the sum of outlets 1 and 2 below
  pub ring_under_shifter :
      ok_map (λ m. showing (shifter m (0b001 ∷ 0b110 ∷ [])) zeros (bits "1000")) ring_of_four ≡ Ok (bits "10" ∷ bits "01" ∷ bits "11" ∷ bits "01" ∷ [])
  -- an outlet that is missing below counts as 0
  pub shifter_past_the_outlets :
      ok_map (λ m. showing (shifter m (0b10010 ∷ [])) zeros (bits "1000")) ring_of_four ≡ Ok (bits "0" ∷ bits "1" ∷ bits "0" ∷ bits "1" ∷ [])
  -- the same under a delay: each outlet one cycle later
  pub ring_under_delay :
      ok_map (λ m. showing (delayed m) zeros (bits "1000")) ring_of_four ≡ Ok (bits "0000" ∷ bits "1000" ∷ bits "0101" ∷ bits "1010" ∷ [])
  -- two channels into one cell cancel out
  pub two_into_one_cell :
      ok_map (λ m. list_of 3 (m.next zeros (row_of (bits "110")))) (galois_from 3 [] (1 ∷ 1 ∷ 2 ∷ [])) ≡ Ok (bits "000")
  -- registers of 1, 2, 64 and 65 cells
  pub sizes : map (λ n. refused_with (galois_from n [] (0 ∷ []))) (1 ∷ 2 ∷ 64 ∷ 65 ∷ []) ≡ (7 ∷ 0 ∷ 0 ∷ 7 ∷ [])
  -- beside the tap at cell 1 of four, a second one at cells 0 to 4
  pub taps : map (λ t. refused_with (galois_from 4 (1 ∷ t ∷ []) (0 ∷ []))) (0 ∷ 1 ∷ 2 ∷ 3 ∷ 4 ∷ []) ≡ (7 ∷ 8 ∷ 0 ∷ 0 ∷ 7 ∷ [])
  -- links from the last of four cells: to the next, which is cell 0; to others; to itself; past the end
  pub links : map (λ d. refused_with (ring_from 4 (link 3 d ∷ []) (0 ∷ []))) (0 ∷ 1 ∷ 2 ∷ 3 ∷ 4 ∷ []) ≡ (7 ∷ 0 ∷ 0 ∷ 0 ∷ 7 ∷ [])
  -- the first fault in the order of the lines counts: a link given again, before one past the end
  pub first_fault : refused_with (ring_from 4 (link 0 2 ∷ link 0 2 ∷ link 9 9 ∷ []) []) ≡ 8
  -- 16 links, and a 17th
  pub sixteen_links : refused_with (ring_from 64 (from_first (2 ∷ 3 ∷ 4 ∷ 5 ∷ 6 ∷ 7 ∷ 8 ∷ 9 ∷ 10 ∷ 11 ∷ 12 ∷ 13 ∷ 14 ∷ 15 ∷ 16 ∷ 17 ∷ [])) (0 ∷ [])) ≡ 0
  pub seventeen_links : refused_with (ring_from 64 (from_first (2 ∷ 3 ∷ 4 ∷ 5 ∷ 6 ∷ 7 ∷ 8 ∷ 9 ∷ 10 ∷ 11 ∷ 12 ∷ 13 ∷ 14 ∷ 15 ∷ 16 ∷ 17 ∷ 18 ∷ [])) (0 ∷ [])) ≡ 9
  -- inlets: none, one into the last of four cells, a second one past it
  pub inlets : map (λ cells. refused_with (galois_from 4 [] cells)) ([] ∷ (3 ∷ []) ∷ (3 ∷ 4 ∷ []) ∷ []) ≡ (7 ∷ 0 ∷ 7 ∷ [])
  -- 64 channels and 65, all into cell 1
  pub channels : map (λ k. refused_with (galois_from 2 [] (replicate k 1))) (64 ∷ 65 ∷ []) ≡ (0 ∷ 7 ∷ [])
  -- shifters of no outlet, one, 64 and 65
  pub outlets : map (λ k. refused_with (outlets_from (replicate k 1))) (0 ∷ 1 ∷ 64 ∷ 65 ∷ []) ≡ (7 ∷ 0 ∷ 0 ∷ 7 ∷ [])
  -- a shifter with an empty set
  pub empty_set : refused_with (outlets_from (1 ∷ 0 ∷ 1 ∷ [])) ≡ 7
  -- the four-cell ring, two warm-up cycles and two shift cycles: what 0011 loads into chains 0 to 3
  pub load_of_four : ok_map (λ m. loaded m (frame 2 2) (bits "0011")) ring_of_four ≡ Ok (bits "11" ∷ bits "10" ∷ bits "00" ∷ bits "10" ∷ [])
  -- the same under the phase shifter of two outlets
  pub load_under_shifter :
      ok_map (λ m. loaded (shifter m (0b001 ∷ 0b110 ∷ [])) (frame 2 2) (bits "0011")) ring_of_four ≡ Ok (bits "11" ∷ bits "10" ∷ [])
  pub load_under_shifter_of_another :
      ok_map (λ m. loaded (shifter m (0b001 ∷ 0b110 ∷ [])) (frame 2 2) (bits "0100")) ring_of_four ≡ Ok (bits "10" ∷ bits "11" ∷ [])
  -- the same under a delay
  pub load_under_delay : ok_map (λ m. loaded (delayed m) (frame 2 2) (bits "0011")) ring_of_four ≡ Ok (bits "10" ∷ bits "00" ∷ bits "00" ∷ bits "00" ∷ [])
  pub load_under_delay_of_another :
      ok_map (λ m. loaded (delayed m) (frame 2 2) (bits "0100")) ring_of_four ≡ Ok (bits "01" ∷ bits "10" ∷ bits "00" ∷ bits "10" ∷ [])
  -- without warm-up every cycle fills a position
  pub load_without_warm_up : ok_map (λ m. loaded m (frame 0 4) (bits "0011")) ring_of_four ≡ Ok (bits "1100" ∷ bits "1000" ∷ bits "0000" ∷ bits "1000" ∷ [])
  -- two channels, which feed cells 0 and 2: in cycle 1 they take bits 0 and 1, in cycle 2 bits 2 and 3
  pub two_channels : ok_map (λ m. loaded m (frame 0 2) (bits "1101")) (galois_from 3 [] (0 ∷ 2 ∷ [])) ≡ Ok (bits "11" ∷ bits "10" ∷ bits "11" ∷ [])
  -- 0011 loads a 1 into position 1 of chain 0, and no 1 into position 1 of chain 1
  pub loads_a_bit :
      ok_map (λ m. map (loads m (frame 2 2) (row_of (bits "0011"))) (care 0 1 true ∷ care 1 1 true ∷ care 1 1 false ∷ [])) ring_of_four
      ≡ Ok (true ∷ false ∷ true ∷ [])
  -- dictionary order: 0011 before 0100, not the other way, and not before itself
  pub dictionary :
      map (λ x. before 4 (row_of (bits "0011")) (row_of (bits x))) ("0100" ∷ "0010" ∷ "0011" ∷ []) ≡ (true ∷ false ∷ false ∷ [])
  -- warm-up cycles: 0, 64 and 65, and one shift cycle
  pub warm_ups : map (λ w. start_refused (frame w 1) 1 ring_of_four) (0 ∷ 64 ∷ 65 ∷ []) ≡ (0 ∷ 0 ∷ 7 ∷ [])
  -- shift cycles: 0, 1, 256 and 257
  pub shift_cycles : map (λ l. start_refused (frame 0 l) 300 ring_of_four) (0 ∷ 1 ∷ 256 ∷ 257 ∷ []) ≡ (7 ∷ 0 ∷ 0 ∷ 7 ∷ [])
  -- bits of an injection: 256, and one cycle more
  pub spans : map (λ w. start_refused (frame w 256) 256 ring_of_four) (0 ∷ 1 ∷ []) ≡ (0 ∷ 9 ∷ [])
  -- memory of a word less than there are positions
  pub rooms : map (λ n. start_refused (frame 2 2) n ring_of_four) (1 ∷ 2 ∷ 3 ∷ []) ≡ (13 ∷ 0 ∷ 0 ∷ [])
  -- the count of digits goes before the memory, and the memory before a byte that is no digit
  pub patterns :
      (refused_with (replay_of "0011" 2) ∷ refused_with (replay_of "001" 1) ∷ refused_with (replay_of "00110" 2) ∷ refused_with (replay_of "0021" 1) ∷ refused_with (replay_of "0021" 2) ∷ [])
      ≡ (0 ∷ 7 ∷ 7 ∷ 13 ∷ 5 ∷ [])
  -- what a replay of 0011 answers, and what it leaves in three words: one for each of two positions, chain c in bit c
  pub replayed : replay_of "0011" 3 ≡ Ok (record { positions = 2; chains = 4 }, 0b1011 ∷ 0b0001 ∷ 9 ∷ [])
  -- values 101 and marks 001 of three chains: a value under a mark is 0, and bits past the chains are 0
  pub pair : pair_of 3 0b11101 0b10001 ≡ (0b100, 0b001)
  -- two positions are unloaded, the higher first, and then no cycle is left
  pub unloads :
      ok_map (λ u. unloaded 3 u (0b01 ∷ 0b11 ∷ []) (0b00 ∷ 0b10 ∷ [])) (capturing (record { positions = 2; chains = 3 }) (0b01 ∷ 0b11 ∷ []) (0b00 ∷ 0b10 ∷ []))
      ≡ Ok (Ok (0b01, 0b10) ∷ Ok (0b01, 0b00) ∷ Err NoCycleLeft ∷ [])
