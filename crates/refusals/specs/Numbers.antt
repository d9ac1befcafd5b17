-- The number of each refusal.
use Rattle.std.specs.Prelude.{ℕ}
use Rattle.refusals.specs.declared.Refusal.{Refusal}
use Rattle.refusals.specs.declared.Refusal.TheVariants.{LineTooLong, StrayByte, NoRecordWord, FieldCount, MalformedField, OutOfPlace, OutOfRange, Repeated, TooMany, EmptyCube, Conflict, CounterAhead, MemoryTooShort, NoCycleLeft, CyclesLeft}

abbrev pub number_of : Refusal → ℕ
number_of LineTooLong = 1
number_of StrayByte = 2
number_of NoRecordWord = 3
number_of FieldCount = 4
number_of MalformedField = 5
number_of OutOfPlace = 6
number_of OutOfRange = 7
number_of Repeated = 8
number_of TooMany = 9
number_of EmptyCube = 10
number_of Conflict = 11
number_of CounterAhead = 12
number_of MemoryTooShort = 13
number_of NoCycleLeft = 14
number_of CyclesLeft = 15
