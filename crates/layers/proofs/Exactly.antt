-- A shifter is made exactly of the sets that are allowed.
use Rattle.std.proofs.Common.{◌≡◌, ℕ, zero, suc, ◌+◌, ◌<◌, ◌≤◌, true, List, [], ◌∷◌, ◌++◌, length, get_or, is_ok, Ok, Result, sym, ap, ◌∙◌, append_assoc, arith}
use Rattle.std.proofs.lemmas.List.{append-nil, length-append}
use Rattle.std.proofs.lemmas.Bool.Decides.{nat_tests}
use Rattle.refusals.specs.declared.Refusal.{Refusal}
use Rattle.refusals.proofs.Steps.{then_ok}
use Rattle.refusals.specs.Chains.{and_then, reading}
use Rattle.layers.specs.Mixes.{set_new}
use Rattle.layers.specs.Shifter.{set_line, set_lines, some_outlet, outlets_from, ShifterExactly}

set_accepts : (sets : List ℕ) (set : ℕ) → is_ok (set_line sets set) ≡ true → (length sets < 64) × (0 < set)
set_accepts sets set ok = (grind (arith, nat_tests), grind (arith, nat_tests))

sets_read_lem : (sofar sets : List ℕ) → length sofar + length sets ≤ 64 → ((k : ℕ) → k < length sets → 0 < get_or sets k 0)
    → reading set_line sofar sets ≡ Ok (sofar ++ sets)
sets_read_lem sofar [] room filled = ap Ok (sym (append-nil sofar))
sets_read_lem sofar (x ∷ xs) room filled =
    let len : length (sofar ++ (x ∷ [])) ≡ length sofar + 1 = length-append sofar (x ∷ []) in
    ap (λ (r : Result (List ℕ) Refusal). and_then r (λ v. reading set_line v xs)) (set_new sofar x (omega arith) (filled zero (omega arith)))
    ∙ sets_read_lem (sofar ++ (x ∷ [])) xs (omega arith) (λ k h. filled (suc k) (omega arith))
    ∙ ap Ok (append_assoc sofar (x ∷ []) xs)

sets_only : (sofar sets : List ℕ) → length sofar ≤ 64 → is_ok (reading set_line sofar sets) ≡ true
    → (length sofar + length sets ≤ 64) × ((k : ℕ) → k < length sets → 0 < get_or sets k 0)
sets_only sofar [] room ok = (omega arith, λ k h. absurd (omega arith))
sets_only sofar (x ∷ xs) room ok =
    let here = set_accepts sofar x (then_ok (set_line sofar x) _ ok) in
    let len : length (sofar ++ (x ∷ [])) ≡ length sofar + 1 = length-append sofar (x ∷ []) in
    let rest =
    sets_only (sofar ++ (x ∷ [])) xs (omega (arith, here.0, len))
    (sym (ap (λ (r : Result (List ℕ) Refusal). is_ok (and_then r (λ v. reading set_line v xs))) (set_new sofar x here.0 here.1)) ∙ ok) in
    (omega (arith, rest.0, len), filled here.1 rest.1)
  where
    filled : 0 < x → ((k : ℕ) → k < length xs → 0 < get_or xs k 0) → (k : ℕ) → k < length (x ∷ xs) → 0 < get_or (x ∷ xs) k 0
    filled here rest zero h = here
    filled here rest (suc k) h = rest k (omega arith)

lines_are : (sets : List ℕ) → length sets ≤ 64 → ((k : ℕ) → k < length sets → 0 < get_or sets k 0) → outlets_from sets ≡ some_outlet sets
lines_are sets few filled = ap (λ (r : Result (List ℕ) Refusal). and_then r some_outlet) (sets_read_lem [] sets (omega arith) filled)

pub shifter_exactly : (sets : List ℕ) → ShifterExactly sets
shifter_exactly sets = record {
  allowed = λ a. lines_are sets a.few a.filled ∙ grind (arith, nat_tests);
  only = λ ok.
      let more = sets_only [] sets (omega arith) (then_ok (set_lines sets) some_outlet ok) in
      let few : length sets ≤ 64 = omega (arith, more.0) in
      record {
        some = let accepted = sym (ap is_ok (lines_are sets few more.1)) ∙ ok in grind (arith, nat_tests);
        few = few;
        filled = more.1;
      };
}
