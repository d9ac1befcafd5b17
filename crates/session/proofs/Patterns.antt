-- The digits of an injection that loads bits can be replayed, and load them.
use Rattle.std.proofs.Common.{◌≡◌, ℕ, zero, suc, ◌≤◌, Bool, true, false, not, ltb, List, [], ◌∷◌, map, length, is_ok, Ok, refl, ap, ◌∙◌}
use Rattle.std.proofs.lemmas.List.{length-map}
use Rattle.std.proofs.lemmas.Bool.{false≢true, and_parts, eq-eqb, lt-ltb, le-ltb, cond-true, cond-false}
use Rattle.bits.specs.Digits.{digit_of, all_digits, digit_row}
use Rattle.bits.specs.Lists.{row_of}
use Rattle.bits.specs.Rows.{Row}
use Rattle.bits.proofs.Sums.{ext}
use Rattle.machine.specs.Linear.{Linear}
use Rattle.patterns.proofs.Runs.{holds_its_load}
use Rattle.refusals.specs.declared.Refusal.TheVariants.{OutOfRange, TooMany}
use Rattle.refusals.specs.Chains.{refused_if}
use Rattle.scan.specs.declared.care.CareBit.{CareBit}
use Rattle.scan.specs.declared.frame.Frame.{Frame}
use Rattle.scan.specs.Frames.{span, variables, out_of_limits, in_limits, in_span}
use Rattle.scan.specs.Loads.{load, loads}
use Rattle.scan.specs.Memory.{holding}
use Rattle.session.specs.Dialogues.{AllIn, Replays}
use Rattle.session.specs.Sessions.{AllInRange}
use Rattle.session.specs.Standing.{loads_all}

digits_row : (x : List Bool) → digit_row (map digit_of x) ≡ row_of x
digits_row x = ext (at x)
  where
    at : (x : List Bool) (i : ℕ) → digit_row (map digit_of x) i ≡ row_of x i
    at [] i = refl
    at (true ∷ x) zero = refl
    at (false ∷ x) zero = refl
    at (b ∷ x) (suc i) = at x i

digits_good : (x : List Bool) → all_digits (map digit_of x) ≡ true
digits_good [] = refl
digits_good (true ∷ x) = digits_good x
digits_good (false ∷ x) = digits_good x

-- an accepted frame is within its limits, and so is its span
pub accepted_parts : (k : ℕ) (f : Frame) → is_ok (in_limits f (in_span k f (Ok (tt {0})))) ≡ true → (out_of_limits f ≡ false) × (ltb 256 (span k f) ≡ false)
accepted_parts k f h = go (out_of_limits f) (ltb 256 (span k f)) h
  where
    go : (a b : Bool) → is_ok (refused_if a OutOfRange (refused_if b TooMany (Ok (tt {0})))) ≡ true → (a ≡ false) × (b ≡ false)
    go false false h = (refl, refl)
    go false true h = absurd (false≢true h)
    go true b h = absurd (false≢true h)

module _ (m : Linear) (f : Frame) (x : List Bool) (size : length x ≡ variables m.channels f)
    (accepted : is_ok (in_limits f (in_span m.channels f (Ok (tt {0})))) ≡ true) where
  many : length (map digit_of x) ≡ variables m.channels f
  many = length-map x digit_of ∙ size

  -- memory that holds the load has each bit that the injection loads
  all_in : (bits : List CareBit) (memory : List ℕ) → f.shifts ≤ length memory → AllInRange m f bits → loads_all m f bits x ≡ true
      → AllIn (holding f.shifts m.outlets (load m f (digit_row (map digit_of x))) memory) bits
  all_in [] memory room ranged all = tt
  all_in (b ∷ bs) memory room ranged all =
      let parts = and_parts (loads m f (row_of x) b) (loads_all m f bs x) all in (
        holds_its_load m f (digit_row (map digit_of x)) memory room b ranged.0 ∙ ap (λ (s : Row). loads m f s b) (digits_row x) ∙ parts.0,
        all_in bs memory room ranged.1 parts.1,
      )

  pub replays_all : (bits : List CareBit) → AllInRange m f bits → loads_all m f bits x ≡ true → Replays m f (map digit_of x) bits
  replays_all bits ranged all =
      let ok = accepted_parts m.channels f accepted in
      record {
        short = λ b h. cond-false _ _ _ ok.0 ∙ cond-false _ _ _ (ap not (eq-eqb _ _ many)) ∙ cond-false _ _ _ ok.1 ∙ cond-true _ _ _ (lt-ltb _ _ h);
        loads = λ b room. (
          _,
          cond-false _ _ _ ok.0 ∙ cond-false _ _ _ (ap not (eq-eqb _ _ many)) ∙ cond-false _ _ _ ok.1 ∙ cond-false _ _ _ (le-ltb _ _ room)
              ∙ cond-false _ _ _ (ap not (digits_good x)),
          all_in bits b.memory room ranged all,
        );
      }
