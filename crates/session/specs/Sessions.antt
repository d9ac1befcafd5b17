-- A session: a table of equations with a counter, and what its calls do.
use Rattle.std.specs.Prelude.{◌≡◌, ℕ, ◌+◌, ◌-◌, ◌^◌, ◌≤◌, Bool, true, cond, not, ◌&&◌, List, [], ◌∷◌, ◌++◌, map, length, take, drop, is_ok, Some, None, Ok, Err, Option, Result, ◌==◌, nat_lt, slice_set}
use Rattle.bits.specs.Digits.{digit_of}
use Rattle.bits.specs.Rows.{Row, zeros}
use Rattle.equations.specs.declared.Equation.{Equation}
use Rattle.equations.specs.Counting.{Test, both, number, first}
use Rattle.equations.specs.Equations.{solutions}
use Rattle.machine.specs.Linear.{Linear}
use Rattle.refusals.specs.declared.Refusal.{Refusal}
use Rattle.refusals.specs.declared.Refusal.TheVariants.{OutOfRange, CounterAhead}
use Rattle.refusals.specs.Chains.{refused_if}
use Rattle.responses.specs.Ranges.{in_chains}
use Rattle.scan.specs.declared.care.CareBit.{CareBit}
use Rattle.scan.specs.declared.frame.Frame.{Frame}
use Rattle.scan.specs.Frames.{variables, in_limits, in_span}
use Rattle.scan.specs.Loads.{InRange}
use Rattle.scan.specs.Memory.{in_memory}
use Rattle.session.specs.Standing.{loading, loads_all, weighed}

-- what a table holds, and the count of equations in force
pub record Session : Type 0 where
  pub rows : List Equation
  pub written : ℕ
  -- as at the opening: the frame, and the channels and outlets of the machine
  pub frame : Frame
  pub channels : ℕ
  pub outlets : ℕ
  pub count : ℕ

-- the number of variables
abbrev pub size : Session → ℕ
size s = variables s.channels s.frame

-- the solutions of the equations in force
abbrev pub in_force : Session → Test
in_force s = solutions (take s.count s.rows)

-- the counter fits the table: it does not exceed the equations written
abbrev pub counter_fits : {X : Type 0} → Session → Result X Refusal → Result X Refusal
counter_fits s r = refused_if (nat_lt s.written s.count) CounterAhead r

-- the machine has as many channels and outlets as the one at the opening
abbrev pub is_like : Linear → Session → Bool
is_like m s = m.channels == s.channels && m.outlets == s.outlets

-- opening: no equation is written, and none in force
abbrev pub opening : Linear → Frame → Session → Result Session Refusal
opening m f s =
    in_limits f (in_span m.channels f
    (Ok (record { rows = s.rows; written = 0; frame = f; channels = m.channels; outlets = m.outlets; count = 0 })))

-- the checks of a proposal
abbrev pub proposable : {X : Type 0} → Linear → Session → CareBit → Result X Refusal → Result X Refusal
proposable m s b r = counter_fits s (refused_if (not (is_like m s)) OutOfRange (in_chains m s.frame b r))

-- the answer to a bit, given as a test, by the solutions in force and those of them that pass it
abbrev pub judging : Session → Test → Result ℕ Refusal
judging s bit = weighed (number (size s) (in_force s)) (number (size s) (both (in_force s) bit))

-- the answer to a proposal
abbrev pub proposing : Linear → Session → CareBit → Result ℕ Refusal
proposing m s b = proposable m s b (judging s (loading m s.frame b))

-- the cells after a proposal: once its numbers are checked the machine is driven, and left at reset
abbrev pub cells_left : Linear → Session → CareBit → Row → Row
cells_left m s b cells = cond (is_ok (proposable m s b (Ok (tt {0})))) zeros cells

-- by how much the free count fell
abbrev pub fall : Result ℕ Refusal → ℕ
fall (Ok n) = n
fall (Err e) = 0

-- a session with one equation more, in the row after those in force
abbrev pub with_row : Session → Equation → Session
with_row s e = record {
  rows = slice_set s.rows s.count e;
  written = s.count + 1;
  frame = s.frame;
  channels = s.channels;
  outlets = s.outlets;
  count = s.count + 1;
}

-- what a session s has become once a bit, given as a test, was answered r
pub record After (s : Session) (bit : Test) (r : Result ℕ Refusal) (t : Session) : Type 0 where
  -- refused or answered 0, all is as it was
  pub unchanged : fall r ≡ 0 → t ≡ s
  -- answered 1, an equation was written into the row after those in force, and it is the last written
  pub written : fall r ≡ 1 → (e : Equation) × (t ≡ with_row s e)
  -- accepted, the solutions in force are those that pass
  pub narrowed : is_ok r ≡ true → (x : List Bool) → length x ≡ size s → in_force t x ≡ both (in_force s) bit x

-- what a proposal does
pub record Proposed (m : Linear) (s : Session) (b : CareBit) (r : Result ℕ Refusal) (t : Session) : Type 0 where
  pub answer : r ≡ proposing m s b
  pub after : After s (loading m s.frame b) r t

-- the free count: the variables less the equations in force
abbrev pub freeing : Session → Result ℕ Refusal
freeing s = counter_fits s (Ok (size s - s.count))

-- digits written over the beginning of memory
abbrev pub written_over : Option (List Bool) → List ℕ → List ℕ
written_over None memory = memory
written_over (Some x) memory = map digit_of x ++ drop (length x) memory

-- reading the pattern: the first solution of the equations in force, in digits
abbrev pub patterning : Session → List ℕ → Result (List ℕ) Refusal
patterning s memory =
    counter_fits s (in_memory (size s) (length memory) (Ok (written_over (first (size s) (in_force s)) memory)))

-- each equation in force halves the number of solutions, so that the free count tells how many there are
abbrev pub Halved : Session → Type 0
Halved s = s.count ≤ s.written → number (size s) (in_force s) ≡ 2 ^ (size s - s.count)

-- each bit of a list is in range
abbrev pub AllInRange : Linear → Frame → List CareBit → Type 0
AllInRange m f [] = Unit {0}
AllInRange m f (b ∷ bs) = InRange m f b × AllInRange m f bs

-- table and counter stand for bits of a machine's chains: the solutions in force are the injections that load them all
pub record Stands (m : Linear) (f : Frame) (s : Session) (bits : List CareBit) : Type 0 where
  -- the frame is one that an opening accepts, and the numbers are those of the opening
  pub accepted : is_ok (in_limits f (in_span m.channels f (Ok (tt {0})))) ≡ true
  pub frame : s.frame ≡ f
  pub channels : s.channels ≡ m.channels
  pub outlets : s.outlets ≡ m.outlets
  pub counted : s.count ≤ s.written
  pub ranged : AllInRange m f bits
  pub solved : (x : List Bool) → length x ≡ size s → in_force s x ≡ loads_all m f bits x
