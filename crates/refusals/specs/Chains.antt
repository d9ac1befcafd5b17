-- Steps of which the first that refuses decides.
use Rattle.std.specs.Prelude.{Bool, cond, List, [], ◌∷◌, Ok, Err, Result}

-- what an accepted result holds, seen as f shows it
abbrev pub ok_map : {X Y E : Type 0} → (X → Y) → Result X E → Result Y E
ok_map f (Ok x) = Ok (f x)
ok_map f (Err e) = Err e

-- the next step, where the one before was accepted
abbrev pub and_then : {X Y E : Type 0} → Result X E → (X → Result Y E) → Result Y E
and_then (Ok x) f = f x
and_then (Err e) f = Err e

-- a test that refuses, and what comes after it
abbrev pub refused_if : {X E : Type 0} → Bool → E → Result X E → Result X E
refused_if b e r = cond b (Err e) r

-- lines read one by one, each after what those before it left: the first refusal, or what the last line leaves
abbrev pub reading : {X S E : Type 0} → (S → X → Result S E) → S → List X → Result S E
reading line s [] = Ok s
reading line s (x ∷ xs) = and_then (line s x) (λ t. reading line t xs)

-- what a line answers: nothing more than that it was accepted, or its refusal
abbrev pub answer_of : {S E : Type 0} → Result S E → Result Unit E
answer_of (Ok s) = Ok tt
answer_of (Err e) = Err e

-- what a line leaves of what was there before it: a refused line leaves all as it was
abbrev pub left_by : {S E : Type 0} → S → Result S E → S
left_by before (Ok s) = s
left_by before (Err e) = before
