-- Lists of calls on one session with their answers, and when these are true.
use Rattle.std.specs.Prelude.{◌≡◌, ℕ, ◌^◌, ◌<◌, ◌≤◌, Bool, true, List, [], ◌∷◌, ◌++◌, map, length, drop, Some, Ok, Err, Result}
use Rattle.std.specs.Bool.{beq}
use Rattle.bits.specs.Digits.{digit_of}
use Rattle.equations.specs.Counting.{FirstOf}
use Rattle.machine.specs.Linear.{Linear}
use Rattle.patterns.specs.Replays.{replaying}
use Rattle.refusals.specs.declared.Refusal.{Refusal}
use Rattle.refusals.specs.declared.Refusal.TheVariants.{MemoryTooShort}
use Rattle.refusals.specs.Chains.{answer_of, left_by}
use Rattle.scan.specs.declared.care.CareBit.{CareBit}
use Rattle.scan.specs.declared.frame.Frame.{Frame}
use Rattle.scan.specs.declared.response.Loaded.{Loaded}
use Rattle.scan.specs.Frames.{variables}
use Rattle.scan.specs.Memory.{chains_in}
use Rattle.scan.specs.Runs.{Bench}
use Rattle.session.specs.Sessions.{Session, Proposed, freeing, patterning, Halved, Stands}
use Rattle.session.specs.Standing.{loads_all, ways, first_injection, verdict}

-- a call with its answer; a pattern is read into memory, told as it was before and after
pub data Event : Type 0 where
  opens : Event
  proposes : CareBit → Result ℕ Refusal → Event
  keeps : Event
  lets_go : Event
  reads_free : Result ℕ Refusal → Event
  reads_pattern : List ℕ → Result Unit Refusal → List ℕ → Event

-- the bits that stand, and those that stood when the last trial was opened
pub record Standing : Type 0 where
  pub bits : List CareBit
  pub noted : List CareBit

-- a session just opened: none stands
abbrev pub none : Standing
none = record { bits = []; noted = [] }

-- an accepted bit becomes the last that stands
abbrev pub with_bit : Result ℕ Refusal → List CareBit → CareBit → List CareBit
with_bit (Ok n) bits b = bits ++ (b ∷ [])
with_bit (Err e) bits b = bits

-- which bits stand after a call, by the call and its answer alone
abbrev pub step : Standing → Event → Standing
step s opens = record { bits = s.bits; noted = s.bits }
step s (proposes b r) = record { bits = with_bit r s.bits b; noted = s.noted }
step s keeps = s
step s lets_go = record { bits = s.noted; noted = s.noted }
step s (reads_free r) = s
step s (reads_pattern before r after) = s

-- after a list of calls
abbrev pub steps : Standing → List Event → Standing
steps s [] = s
steps s (e ∷ es) = steps (step s e) es

-- memory has each of these bits
abbrev pub AllIn : List ℕ → List CareBit → Type 0
AllIn memory [] = Unit {0}
AllIn memory (b ∷ bs) = (beq (chains_in memory b.position b.chain) b.value ≡ true) × AllIn memory bs

-- replaying digits, whatever cells and chains held, is refused for short memory alone, and else loads each of these bits
pub record Replays (m : Linear) (f : Frame) (digits : List ℕ) (bits : List CareBit) : Type 0 where
  pub short : (b : Bench) → length b.memory < f.shifts → replaying m f digits b ≡ Err MemoryTooShort
  pub loads : (b : Bench) → f.shifts ≤ length b.memory → (o : Loaded × Bench) × (replaying m f digits b ≡ Ok o) × AllIn o.1.memory bits

-- what is true of a free count that is read while bits stand: so many injections load them
abbrev pub FreeTrue : Linear → Frame → List CareBit → Result ℕ Refusal → Type 0
FreeTrue m f bits r = (n : ℕ) × (r ≡ Ok n) × (ways m f bits ≡ 2 ^ n)

-- memory begins with the digits of the first injection that loads the bits, later bytes are as they were, and the digits can be replayed
pub record FirstRead (m : Linear) (f : Frame) (bits : List CareBit) (before after : List ℕ) : Type 0 where
  pub injection : List Bool
  pub first : first_injection m f bits ≡ Some injection
  -- it loads them all, and none before it in dictionary order does
  pub in_order : FirstOf (variables m.channels f) (loads_all m f bits) injection
  pub digits : after ≡ map digit_of injection ++ drop (variables m.channels f) before
  pub replays : Replays m f (map digit_of injection) bits

-- what is true of a pattern that is read while bits stand
pub record PatternTrue (m : Linear) (f : Frame) (bits : List CareBit) (before : List ℕ) (r : Result Unit Refusal) (after : List ℕ) : Type 0 where
  -- it is refused for short memory alone, and memory is then as it was
  pub short : length before < variables m.channels f → (r ≡ Err MemoryTooShort) × (after ≡ before)
  -- else the first injection is read
  pub told : variables m.channels f ≤ length before → (r ≡ Ok tt) × FirstRead m f bits before after

-- what makes a call's answer true while bits stand
abbrev pub True : Linear → Frame → List CareBit → Event → Type 0
True m f bits opens = Unit {0}
True m f bits (proposes b r) = r ≡ verdict m f bits b
True m f bits keeps = Unit {0}
True m f bits lets_go = Unit {0}
True m f bits (reads_free r) = FreeTrue m f bits r
True m f bits (reads_pattern before r after) = PatternTrue m f bits before r after

-- every answer of a list of calls is true of the bits then standing
abbrev pub AllTrue : Linear → Frame → Standing → List Event → Type 0
AllTrue m f s [] = Unit {0}
AllTrue m f s (e ∷ es) = True m f s.bits e × AllTrue m f (step s e) es

-- a proposal answered truly: for every list of bits for which table and counter stand, and then for those that stand after it
abbrev pub ToldTruly : Linear → Session → CareBit → Result ℕ Refusal → Session → Type 0
ToldTruly m s b r t =
    (bits : List CareBit) → Stands m s.frame s bits → True m s.frame bits (proposes b r) × Stands m s.frame t (with_bit r bits b)

-- a free count read truly, whatever machine and bits table and counter stand for
abbrev pub FreeTruly : Session → Result ℕ Refusal → Type 0
FreeTruly s r = (m : Linear) (bits : List CareBit) → Stands m s.frame s bits → True m s.frame bits (reads_free r)

-- a pattern read truly
abbrev pub ReadTruly : Session → List ℕ → Result Unit Refusal → List ℕ → Type 0
ReadTruly s before r after = (m : Linear) (bits : List CareBit) → Stands m s.frame s bits → True m s.frame bits (reads_pattern before r after)

-- a session beside the count that the last trial found
pub record Held : Type 0 where
  pub session : Session
  pub found : ℕ

-- table as it is, with so many equations in force
abbrev pub counted : Session → ℕ → Session
counted s n = record { rows = s.rows; written = s.written; frame = s.frame; channels = s.channels; outlets = s.outlets; count = n }

-- what the contracts of the single calls say that each does
abbrev pub Call : Linear → Held → Event → Held → Type 0
Call m a opens z = z ≡ record { session = a.session; found = a.session.count }
Call m a (proposes b r) z = Proposed m a.session b r z.session × (z.found ≡ a.found)
Call m a keeps z = z ≡ a
Call m a lets_go z = z ≡ record { session = counted a.session a.found; found = a.found }
Call m a (reads_free r) z = (z ≡ a) × (r ≡ freeing a.session) × Halved a.session
Call m a (reads_pattern before r after) z =
    (z ≡ a) × (r ≡ answer_of (patterning a.session before)) × (after ≡ left_by before (patterning a.session before)) × Halved a.session

-- calls one after another
abbrev pub Chain : Linear → Held → List Event → Held → Type 0
Chain m a [] z = z ≡ a
Chain m a (e ∷ es) z = (b : Held) × Call m a e b × Chain m b es z

-- a session whose last trial found the count that it has now
abbrev pub begun : Session → Held
begun s = record { session = s; found = s.count }

-- from a session for which no bit stands, every list of calls is answered truly, and table and counter go on standing for the bits that stand
abbrev pub EveryListIsAnsweredTruly : Linear → Frame → Session → Type 0
EveryListIsAnsweredTruly m f s = (es : List Event) (z : Held) → Chain m (begun s) es z → AllTrue m f none es × Stands m f z.session (steps none es).bits
