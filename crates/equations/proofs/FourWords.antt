-- Rows of 256 bits as four words.
use Rattle.std.proofs.Common.{◌≡◌, ℕ, zero, suc, ◌+◌, ◌-◌, ◌*◌, ◌/◌, ◌%◌, ◌^◌, ◌<◌, ◌≤◌, Bool, true, false, ◌&&◌, ◌||◌, eqb, ◌⊎◌, List, [], ◌∷◌, length, get_or, set, Some, None, sym, refl, ap, ◌∙◌, ap₂, subst, inl, inr, suc-add, pow-suc, zero-add, arith, pow_pos}
use lib.Bits.{bit_and, bit_or, bit_xor}
use lib.Count.{count_leading_zeros}
use mir.Val.{bool_byte}
use Rattle.std.proofs.Math.Bool.{or-false}
use Rattle.std.proofs.lemmas.Nat.{leading_top, le-div, div_below}
use Rattle.std.proofs.lemmas.List.{get_or_past, get_or-set_same, get_or-set_other}
use Rattle.std.proofs.lemmas.Bool.{cases_eq, cases_lt, eq-eqb, ne_eqb, cond-true, cond-false}
use Rattle.std.specs.Array.{IsFromFnResultFrom}
use Rattle.std.specs.Fn.{Called, Mut}
use Rattle.std.specs.List.{fold, zip}
use Rattle.bits.specs.Rows.{Row, xor, plus, upto, sum_of}
use Rattle.bits.specs.Words.{bit_of}
use Rattle.bits.proofs.Bitwise.{bit_zero, bit_above, bit_of_xor, bit_of_and, bit_of_or, bit_pulse}
use Rattle.bits.proofs.Sums.{ext, xor_false, xor_assoc, sum_plus, sum_none, sum_same, same_upto}
use Rattle.equations.specs.Equations.{words_row, dot, highest, last_bit}

-- a word that is 0 has no bit
pub word_none : (words : List ℕ) (i : ℕ) → get_or words (i / 64) 0 ≡ 0 → words_row words i ≡ false
word_none words i none = ap (λ (w : ℕ). bit_of w (i % 64)) none ∙ ap (λ (s : Row). s (i % 64)) bit_zero

-- past the words there is no bit
pub words_past : (words : List ℕ) → length words ≡ 4 → (i : ℕ) → 256 ≤ i → words_row words i ≡ false
words_past words four i h =
    word_none words i (get_or_past words (i / 64) 0 (omega arith))

-- place i of word w
pub words_at : (words : List ℕ) (w i : ℕ) → i < 64 → words_row words (64 * w + i) ≡ bit_of (get_or words w 0) i
words_at words w i h =
    let q : (64 * w + i) / 64 ≡ w = omega arith in
    let r : (64 * w + i) % 64 ≡ i = omega arith in
    ap₂ (λ (x y : ℕ). bit_of (get_or words x 0) y) q r

-- what `array::from_fn` makes by calls that leave the closure as it is
pub made_by : {F B : Type 0} (g : Mut F (ℕ × Unit {0}) B) (h : ℕ → B) (f : F) (ys : List B) → ((i : ℕ) (y : B) (q : F) → Called g f (i, tt) y q → (q ≡ f) × (y ≡ h i))
    → (i n : ℕ) → IsFromFnResultFrom g f ys i n → (k : ℕ) (d : B) → i ≤ k → k < i + n → get_or ys k d ≡ h k
made_by g h f ys calls i zero made k d low high = absurd (omega arith)
made_by {F} {B} g h f ys calls i (suc n) made k d low high =
    let one = calls i made.1 made.0 made.3 in
    elim (cases_eq k i) [
      | inl e ↦ ap (λ (j : ℕ). get_or ys j d) e ∙ made.2.1 d ∙ one.1 ∙ ap h (sym e)
      | inr ne ↦ made_by g h f ys calls (i + 1) n (subst (λ (p : F). IsFromFnResultFrom g p ys (i + 1) n) one.0 made.4) k d (omega arith) (omega arith)
    ]

-- words that are added one by one
pub words_plus : (a b sum : List ℕ) → length a ≡ 4 → length b ≡ 4 → length sum ≡ 4
    → ((w : ℕ) → w < 4 → get_or sum w 0 ≡ bit_xor (get_or a w 0) (get_or b w 0)) → words_row sum ≡ plus (words_row a) (words_row b)
words_plus a b sum four four' four'' each = ext (λ i. elim (cases_lt (i / 64) 4) [
  | inl l ↦ ap (λ (w : ℕ). bit_of w (i % 64)) (each (i / 64) l) ∙ bit_of_xor (get_or a (i / 64) 0) (get_or b (i / 64) 0) (i % 64)
  | inr l ↦ words_past sum four'' i (omega arith) ∙ sym (ap₂ xor (words_past a four i (omega arith)) (words_past b four' i (omega arith)))
])

eqb_split : (p i : ℕ) → p / 64 ≡ i / 64 → eqb (p % 64) (i % 64) ≡ eqb p i
eqb_split p i e =
    elim (cases_eq p i) [
      | inl same ↦ eq-eqb (p % 64) (i % 64) (ap (λ (x : ℕ). x % 64) same) ∙ sym (eq-eqb p i same)
      | inr apart ↦ ne_eqb (p % 64) (i % 64) (λ z. apart (omega arith)) ∙ sym (ne_eqb p i apart)
    ]

flag_bit : (b : Bool) (p i : ℕ) → p < 64 → bit_of ((bool_byte b * 2 ^ p) % 2 ^ 64) i ≡ (eqb p i && b)
flag_bit true p i h = bit_pulse 1 p i (omega arith) h
flag_bit false p i h = bit_pulse 0 p i (omega arith) h

-- a bit set within the words
module _ (words : List ℕ) (p : ℕ) (b : Bool) (four : length words ≡ 4) (h : p < 256) where
  -- the word in which it stands, with the bit
  abbrev word : ℕ
  word = bit_or (get_or words (p / 64) 0) ((bool_byte b * 2 ^ (p % 64)) % 2 ^ 64)

  other_word : (i : ℕ) → (i / 64 ≡ p / 64 → ⊥) → get_or (set words (p / 64) word) (i / 64) 0 ≡ get_or words (i / 64) 0
  other_word i ne = get_or-set_other words (p / 64) (i / 64) word 0 ne

  with_at : (i : ℕ) → (i / 64 ≡ p / 64) ⊎ (i / 64 ≡ p / 64 → ⊥) → words_row (set words (p / 64) word) i ≡ (words_row words i || (eqb p i && b))
  with_at i (inl e) =
      ap (λ (w : ℕ). bit_of w (i % 64)) (ap (λ (w : ℕ). get_or (set words (p / 64) word) w 0) e ∙ get_or-set_same words (p / 64) word 0 (omega arith))
      ∙ bit_of_or (get_or words (p / 64) 0) ((bool_byte b * 2 ^ (p % 64)) % 2 ^ 64) (i % 64)
      ∙ ap₂ (λ (x y : Bool). x || y) (ap (λ (w : ℕ). bit_of (get_or words w 0) (i % 64)) (sym e))
      (flag_bit b (p % 64) (i % 64) (omega arith) ∙ ap (λ (x : Bool). x && b) (eqb_split p i (sym e)))
  with_at i (inr ne) =
      ap (λ (w : ℕ). bit_of w (i % 64)) (other_word i ne)
      ∙ sym (ap (λ (x : Bool). words_row words i || (x && b)) (ne_eqb p i (λ z. ne (ap (λ (x : ℕ). x / 64) (sym z)))) ∙ or-false (words_row words i))

  pub words_with : words_row (set words (p / 64) word) ≡ upto 256 (λ i. words_row words i || (eqb p i && b))
  words_with =
      same_upto 256 _ _ (λ i l. with_at i (cases_eq (i / 64) (p / 64)))
      (λ i l. ap (λ (w : ℕ). bit_of w (i % 64)) (other_word i (λ z. omega arith)) ∙ words_past words four i l)

-- a sum in two parts
sum_parts : (n m : ℕ) (s : Row) → sum_of (m + n) s ≡ xor (sum_of n s) (sum_of m (λ i. s (n + i)))
sum_parts n zero s = ap (λ (k : ℕ). sum_of k s) (zero-add n) ∙ sym (xor_false (sum_of n s))
sum_parts n (suc m) s =
    let e : m + n ≡ n + m = omega arith in
    ap (λ (k : ℕ). sum_of k s) (suc-add m n)
    ∙ ap₂ xor (sum_parts n m s) (ap s e)
    ∙ xor_assoc (sum_of n s) (sum_of m (λ i. s (n + i))) (s (n + m))

-- the common bits of two words, added to those so far
abbrev pub add_common : ℕ → ℕ × ℕ → ℕ
add_common sum p = bit_xor sum (bit_and p.0 p.1)

xor_sum : (n x y : ℕ) → sum_of n (bit_of (bit_xor x y)) ≡ xor (sum_of n (bit_of x)) (sum_of n (bit_of y))
xor_sum n x y = ap (sum_of n) (ext (bit_of_xor x y)) ∙ sum_plus n (bit_of x) (bit_of y)

-- a word before others
words_after : (x : ℕ) (xs : List ℕ) (i : ℕ) → words_row (x ∷ xs) (64 + i) ≡ words_row xs i
words_after x xs i =
    let q : (64 + i) / 64 ≡ suc (i / 64) = omega arith in
    let r : (64 + i) % 64 ≡ i % 64 = omega arith in
    ap₂ (λ (k j : ℕ). bit_of (get_or (x ∷ xs) k 0) j) q r

-- the sum of the common bits of words that are taken pair by pair
words_common : (n : ℕ) → n ≡ 64 → (a b : List ℕ) (sum : ℕ) → length a ≡ length b
    → sum_of n (bit_of (fold add_common sum (zip a b))) ≡ xor (sum_of n (bit_of sum)) (sum_of (n * length a) (λ i. words_row a i && words_row b i))
words_common n e [] b sum same =
    let empty : n * 0 ≡ 0 = omega arith in
    sym (ap (λ (k : ℕ). xor (sum_of n (bit_of sum)) (sum_of k (λ i. words_row [] i && words_row b i))) empty ∙ xor_false (sum_of n (bit_of sum)))
words_common n e (x ∷ xs) [] sum same = absurd (omega arith)
words_common n e (x ∷ xs) (y ∷ ys) sum same =
    let s : Row = λ i. words_row (x ∷ xs) i && words_row (y ∷ ys) i in
    let all : n * suc (length xs) ≡ n * length xs + n = omega arith in
    let here : sum_of n (bit_of (bit_and x y)) ≡ sum_of n s =
    sum_same n (bit_of (bit_and x y)) s (λ i h. bit_of_and x y i ∙ sym (ap₂ ◌&&◌ (words_at (x ∷ xs) 0 i (omega arith)) (words_at (y ∷ ys) 0 i (omega arith))) ∙ ap s (zero-add i)) in
    let after : sum_of (n * length xs) (λ i. words_row xs i && words_row ys i) ≡ sum_of (n * length xs) (λ i. s (n + i)) =
    sum_same (n * length xs) _ _ (λ i h. sym (ap₂ ◌&&◌ (ap (λ (k : ℕ). words_row (x ∷ xs) (k + i)) e ∙ words_after x xs i) (ap (λ (k : ℕ). words_row (y ∷ ys) (k + i)) e ∙ words_after y ys i))) in
    words_common n e xs ys (bit_xor sum (bit_and x y)) (omega arith)
    ∙ ap₂ xor (xor_sum n sum (bit_and x y) ∙ ap (xor (sum_of n (bit_of sum))) here) after
    ∙ xor_assoc (sum_of n (bit_of sum)) (sum_of n s) (sum_of (n * length xs) (λ i. s (n + i)))
    ∙ ap (xor (sum_of n (bit_of sum))) (sym (ap (λ (k : ℕ). sum_of k s) all ∙ sum_parts n (n * length xs) s))

pub words_dot : (n : ℕ) → n ≡ 64 → (a b : List ℕ) → length a ≡ 4 → length b ≡ 4 → sum_of n (bit_of (fold add_common 0 (zip a b))) ≡ dot (words_row a) (words_row b)
unfolding dot
words_dot n e a b four four' =
    words_common n e a b 0 (omega arith)
    ∙ ap₂ xor (sum_none n (bit_of 0) (λ i h. ap (λ (s : Row). s i) bit_zero)) (ap₂ (λ (k m : ℕ). sum_of (k * m) (λ i. words_row a i && words_row b i)) e four)

-- the highest place with a bit
pub highest_is : (n : ℕ) (c : Row) (v : ℕ) → v < n → c v ≡ true → ((i : ℕ) → v < i → c i ≡ false) → highest n c ≡ Some v
highest_is zero c v h set above = absurd (omega arith)
highest_is (suc n) c v h set above =
    elim (cases_eq n v) [
      | inl e ↦ cond-true (c n) (Some n) (highest n c) (ap c e ∙ set) ∙ ap Some e
      | inr ne ↦ cond-false (c n) (Some n) (highest n c) (above n (omega arith)) ∙ highest_is n c v (omega arith) set above
    ]

pub highest_none : (n : ℕ) (c : Row) → ((i : ℕ) → i < n → c i ≡ false) → highest n c ≡ None
highest_none zero c none = refl
highest_none (suc n) c none = cond-false (c n) (Some n) (highest n c) (none n (omega arith)) ∙ highest_none n c (λ i h. none i (omega arith))

-- the top bit of a number
top_bit : (a j : ℕ) → 2 ^ j ≤ a → a < 2 ^ suc j → bit_of a j ≡ true
top_bit a j low high =
    let two = pow-suc 2 j in
    let least = le-div 1 a (2 ^ j) (pow_pos j) (omega arith) in
    let most = div_below a (2 ^ j) 2 (pow_pos j) (omega arith) in
    eq-eqb (a / 2 ^ j % 2) 1 (omega arith)

-- word w is the highest that is not 0
pub words_highest : (words : List ℕ) (w : ℕ) → length words ≡ 4 → w < 4 → (get_or words w 0 ≡ 0 → ⊥) → get_or words w 0 < 2 ^ 64
    → ((k : ℕ) → w < k → k < 4 → get_or words k 0 ≡ 0) → Some (64 * w + 63 - count_leading_zeros 64 (get_or words w 0)) ≡ last_bit (words_row words)
unfolding last_bit
words_highest words w four h some fits past =
    let top = leading_top 64 (get_or words w 0) (omega arith) fits in
    let j : ℕ = top.0 in
    let lower = top.1 in
    let place : 64 * w + j ≡ 64 * w + 63 - count_leading_zeros 64 (get_or words w 0) = omega arith in
    sym (highest_is 256 (words_row words) (64 * w + j) (omega arith) (words_at words w j (omega arith) ∙ top_bit (get_or words w 0) j top.2 top.3) (λ i l.
    elim (cases_lt i 256) [
      | inl in_words ↦ elim (cases_eq (i / 64) w) [
        | inl q ↦ ap (λ (k : ℕ). bit_of (get_or words k 0) (i % 64)) q ∙ bit_above (get_or words w 0) (suc j) (i % 64) top.3 (omega arith)
        | inr other ↦ word_none words i (past (i / 64) (omega arith) (omega arith))
      ]
      | inr up ↦ words_past words four i up
    ]) ∙ ap Some place)

pub words_none : (words : List ℕ) → ((k : ℕ) → k < 4 → get_or words k 0 ≡ 0) → None ≡ last_bit (words_row words)
unfolding last_bit
words_none words none = sym (highest_none 256 (words_row words) (λ i h. word_none words i (none (i / 64) (omega arith))))
