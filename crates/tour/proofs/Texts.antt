-- Bits as texts of ASCII characters.
use Rattle.std.proofs.Common.{◌≡◌, ℕ, zero, suc, ◌+◌, ◌<◌, Bool, true, false, List, [], ◌∷◌, length, map, get_or, Option, Result, IfOk, String, string_bytes, refl, ap, ◌∙◌, ap₂, arith, lit<}
use Rattle.std.specs.Bool.{⊤}
use Rattle.std.specs.Iterator.{DrainsIf}
use Rattle.std.specs.List.{range_with_len}
use Rattle.std.specs.Result.{MatchResult}
use Rattle.std.specs.Str.{IsAscii}
use Rattle.std.proofs.Math.Utf8.{encodes}
use Rattle.std.proofs.lemmas.Iterator.{YieldsList, text_from_collect}
use Rattle.std.proofs.lemmas.Result.{IfOk-weaker}
use Rattle.std.proofs.lemmas.Str.{encodes-IsAscii}
use Rattle.bits.specs.Digits.{digit_of, digits_of}
use Rattle.bits.specs.Rows.{Row}
use Rattle.tour.specs.Marks.{mark_of}

pub digit_small : (b : Bool) → digit_of b < 128
digit_small true = lit< tt
digit_small false = lit< tt

pub mark_small : (u b : Bool) → mark_of u b < 128
mark_small true b = lit< tt
mark_small false b = digit_small b

small_all : {A : Type 0} (f : A → ℕ) (xs : List A) → ((x : A) → f x < 128) → IsAscii (map f xs)
small_all f [] small i = lit< tt
small_all f (x ∷ xs) small zero = small x
small_all f (x ∷ xs) small (suc i) = small_all f xs small i

-- ASCII characters that are collected are the bytes of the text
pub text_of : {S Z E A : Type 0} {steps : S → Option ℕ → S → Type 0} {s : S} (f : A → ℕ) (xs : List A) {all : List ℕ} (r : Result (String Z) E)
    → ((x : A) → f x < 128) → map f xs ≡ all → MatchResult r (λ w. (ys : List ℕ) × DrainsIf steps ⊤ s ys × (string_bytes w ≡ encodes ys)) (λ _. ⊤)
    → YieldsList steps (λ x. x) s (map f xs) → IfOk r (λ w. string_bytes w ≡ all)
text_of f xs r small same ran given =
    IfOk-weaker r _ _ (λ w e. e ∙ encodes-IsAscii (map f xs) (small_all f xs small) ∙ same) (text_from_collect r ran given)

digits_from : (n a : ℕ) (s t : Row) → ((i : ℕ) → s (a + i) ≡ t i) → map (λ p. digit_of (s p)) (range_with_len a n) ≡ digits_of n t
digits_from zero a s t same = refl
digits_from (suc n) a s t same =
    let first : a ≡ a + 0 = omega arith in
    ap₂ ◌∷◌ (ap (λ p. digit_of (s p)) first ∙ ap digit_of (same 0))
    (digits_from n (a + 1) s (λ i. t (suc i)) (λ i. let next : a + 1 + i ≡ a + suc i = omega arith in ap s next ∙ same (suc i)))

pub digits_by_place : (n : ℕ) (s : Row) → map (λ p. digit_of (s p)) (range_with_len 0 n) ≡ digits_of n s
digits_by_place n s = digits_from n 0 s s (λ i. let e : 0 + i ≡ i = omega arith in ap s e)

pub digits_by_word : (f : ℕ → Bool) (xs : List ℕ) → map (λ x. digit_of (f x)) xs ≡ digits_of (length xs) (λ p. f (get_or xs p 0))
digits_by_word f [] = refl
digits_by_word f (x ∷ xs) = ap (λ ds. digit_of (f x) ∷ ds) (digits_by_word f xs)
