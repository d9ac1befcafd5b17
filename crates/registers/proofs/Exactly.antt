-- A register is made exactly of the lines that are allowed, and then it is the one that they describe.
use Rattle.std.proofs.Common.{◌≡◌, ℕ, zero, suc, ◌+◌, ◌-◌, ◌<◌, ◌≤◌, ◌≢◌, Bool, true, false, ◌||◌, eqb, List, [], ◌∷◌, ◌++◌, length, get_or, is_ok, Ok, Err, Result, refl, ◌∙◌, append_assoc, arith}
use Rattle.std.specs.Bool.{Decides}
use Rattle.std.specs.Result.{OkIff}
use mathlib.Core.Bool.{or-false, or_assoc}
use mathlib.Core.Logic.{◌↔◌}
use Rattle.std.proofs.lemmas.List.{append-nil, length-append}
use Rattle.std.proofs.lemmas.List.Folds.{list_any-append}
use Rattle.std.proofs.lemmas.List.Elements.{All-cons, All-from_get_or}
use Rattle.std.proofs.lemmas.Bool.Decides.{nat_tests, Decides-eqb}
use Rattle.std.proofs.lemmas.Grind.{common_steps}
use Rattle.std.proofs.lemmas.Result.{Ok-from_Ok_iff, OkIff-decides}
use Rattle.bits.specs.Rows.{Row, zeros}
use Rattle.refusals.specs.declared.Refusal.{Refusal}
use Rattle.refusals.specs.Chains.{and_then, reading}
use Rattle.registers.specs.declared.Link.{Link}
use Rattle.registers.specs.Rules.{sized, TapsRead, with_tap, tap_line, tap_lines, LinksRead, with_link, link_line, link_lines, InletsRead, with_inlet, inlet_line, inlet_lines, Lawful, no_link, same_link, is_linked}
use Rattle.registers.specs.Registers.{register, galois, galois_turn, ring, ring_turn, wired, galois_from, ring_from}
use Rattle.registers.specs.Allowed.{among, SizeAllowed, InletsAllowed, GaloisAllowed, RingAllowed, GaloisExactly, RingExactly}

-- ---- steps that are accepted exactly where a condition holds

exactly : {X E : Type 0} (r : Result X E) {P : Type 0} {v : X} → (P → r ≡ Ok v) → (is_ok r ≡ true → P) → OkIff r P v
exactly (Ok x) is only = (only refl, cc (is (only refl)))
exactly (Err e) is only = λ p. absurd (cc (is p))

-- the condition in other words
same_ok : {X E : Type 0} (r : Result X E) {P Q : Type 0} {v w : X} → (P → Q) → (Q → P) → v ≡ w → OkIff r P v → OkIff r Q w
same_ok (Ok x) to back e h = (to h.0, h.1 ∙ e)
same_ok (Err d) to back e h = λ q. h (back q)

-- two steps are accepted where both are, which R says
both_ok : {X Y E : Type 0} (r : Result X E) (f : X → Result Y E) (v : X) {P Q R : Type 0} {w z : Y}
    → (P × Q → R) → (R → P × Q) → w ≡ z → OkIff r P v → (P → OkIff (f v) Q w) → OkIff (and_then r f) R z
both_ok (Ok x) f v to back e h k = same_ok (f x) (λ q. to (h.0, q)) (λ b. (back b).1) e (rw h.1 (k h.0))
both_ok (Err d) f v to back e h k = λ b. h (back b).0

-- ---- each rule

sized_ok : {X : Type 0} (n : ℕ) (x : X) → OkIff (sized n x) (SizeAllowed n) x
sized_ok n x = exactly (sized n x) (λ a. grind (arith, nat_tests)) (λ ok. grind (arith, nat_tests))

-- lines read after the size
after_size : {S X : Type 0} (line : S → X → Result S Refusal) (n : ℕ) (s v : S) (xs : List X) (P : Type 0)
    → OkIff (reading line s xs) P v → OkIff (and_then (sized n s) (λ t. reading line t xs)) (SizeAllowed n × P) v
after_size line n s v xs P h = both_ok (sized n s) (λ t. reading line t xs) s (λ a. a) (λ a. a) refl (sized_ok n s) (λ a. h)

abbrev Inside : ℕ → ℕ → Type 0
Inside n tap = (1 ≤ tap) × (tap < n)

tap_ok : (t : TapsRead) (tap : ℕ) → OkIff (tap_line t tap) (Inside t.size tap × (t.tapped tap ≡ false)) (with_tap t tap)
tap_ok t tap = exactly (tap_line t tap) (λ a. grind (arith, nat_tests)) (λ ok. grind (arith, nat_tests))

inlet_ok : (t : InletsRead) (cell : ℕ) → OkIff (inlet_line t cell) ((length t.into < 64) × (cell < t.size)) (with_inlet t cell)
inlet_ok t cell = exactly (inlet_line t cell) (λ a. grind (arith, nat_tests)) (λ ok. grind (arith, nat_tests))

link_ok : (t : LinksRead) (link : Link)
    → OkIff (link_line t link) ((Lawful t.size link × (is_linked t.links link ≡ false)) × (length t.links < 16)) (with_link t link)
link_ok t link = exactly (link_line t link) (λ a. grind (arith, nat_tests)) (λ ok. grind (arith, nat_tests))

wired_ok : (n : ℕ) (cells : List ℕ) (turn : Row → Row) → OkIff (wired n turn (record { size = n; into = cells })) (1 ≤ length cells) (register n cells turn)
wired_ok n cells turn = exactly (wired n turn (record { size = n; into = cells })) (λ some. grind (arith, nat_tests)) (λ ok. grind (arith, nat_tests))

-- ---- items of which none may stand twice

each_more : {X : Type 0} (P : X → Type 0) (x d : X) (xs : List X) → P x → ((k : ℕ) → k < length xs → P (get_or xs k d)) → (k : ℕ) → k < length (x ∷ xs) → P (get_or (x ∷ xs) k d)
each_more P x d xs here rest k h = All-cons P x xs here (All-from_get_or P xs d rest) k d h

-- items that can follow those there: each of them is allowed and new, and none stands twice
record New {X : Type 0} (Allowed : X → Type 0) (d : X) (there : X → Bool) (xs : List X) : Type 0 where
  pub allowed : (k : ℕ) → k < length xs → Allowed (get_or xs k d)
  pub fresh : (k : ℕ) → k < length xs → there (get_or xs k d) ≡ false
  pub once : (j k : ℕ) → j < k → k < length xs → get_or xs j d ≢ get_or xs k d

new_none : {X : Type 0} (Allowed : X → Type 0) (d : X) (there : X → Bool) → New Allowed d there []
new_none Allowed d there = record { allowed = λ k h. absurd (omega arith); fresh = λ k h. absurd (omega arith); once = λ j k l h. absurd (omega arith) }

-- the first of them joins those there
new_first : {X : Type 0} (Allowed : X → Type 0) (d x : X) (xs : List X) (there with_x : X → Bool) (same : X → X → Bool)
    → ((a b : X) → Decides (same a b) (a ≡ b)) → ((y : X) → with_x y ≡ (there y || same x y))
    → ((Allowed x × (there x ≡ false)) × New Allowed d with_x xs) ↔ New Allowed d there (x ∷ xs)
new_first Allowed d x xs there with_x same tied joins = (
  λ a. let m = a.1 in record {
    allowed = each_more Allowed x d xs a.0.0 m.allowed;
    fresh = λ k h. grind (arith, common_steps, nat_tests, joins (get_or xs (k - 1) d), m.fresh (k - 1));
    once = λ j k l h e. grind (arith, common_steps, nat_tests, joins (get_or xs (k - 1) d), m.fresh (k - 1), m.once (j - 1) (k - 1), (tied x (get_or xs (k - 1) d)).1);
  },
  λ m. (
    (m.allowed zero (omega arith), m.fresh zero (omega arith)),
    record {
      allowed = λ k h. m.allowed (suc k) (omega arith);
      fresh = λ k h. grind (arith, nat_tests, joins (get_or xs k d), m.fresh (suc k), m.once zero (suc k), (tied x (get_or xs k d)).0);
      once = λ j k l h. m.once (suc j) (suc k) (omega arith) (omega arith);
    },
  ),
)

-- ---- lines after lines

taps_ok : (t : TapsRead) (taps : List ℕ)
    → OkIff (reading tap_line t taps) (New (Inside t.size) 0 t.tapped taps) (record { size = t.size; tapped = λ i. t.tapped i || among taps i })
taps_ok t [] = (new_none _ 0 t.tapped, simp or-false)
taps_ok t (x ∷ xs) =
    let u = with_tap t x in
    let first = new_first (Inside t.size) 0 x xs t.tapped u.tapped eqb Decides-eqb (λ y. refl) in
    both_ok (tap_line t x) _ u first.0 first.1 (simp or_assoc) (tap_ok t x) (λ a. taps_ok u xs)

link_decides : (a b : Link) → Decides (same_link a b) (a ≡ b)
link_decides a b = (λ e. grind (arith, nat_tests), λ e. grind (arith, nat_tests))

linked_push : (ls : List Link) (l link : Link) → is_linked (ls ++ (l ∷ [])) link ≡ (is_linked ls link || same_link l link)
linked_push ls l link = simp (list_any-append, or-false)

links_ok : (t : LinksRead) (links : List Link) → length t.links ≤ 16
    → OkIff (reading link_line t links) (New (Lawful t.size) no_link (is_linked t.links) links × (length t.links + length links ≤ 16)) (record { size = t.size; links = t.links ++ links })
links_ok t [] room = ((new_none _ no_link (is_linked t.links), omega arith), simp append-nil)
links_ok t (x ∷ xs) room =
    let u = with_link t x in
    let len : length u.links ≡ length t.links + 1 = length-append t.links (x ∷ []) in
    let first = new_first (Lawful t.size) no_link x xs (is_linked t.links) (is_linked u.links) same_link link_decides (linked_push t.links x) in
    both_ok (link_line t x) _ u
    (λ a. (first.0 (a.0.0, a.1.0), omega (arith, len, a.1.1)))
    (λ m. let b = first.1 m.0 in ((b.0, omega (arith, m.1)), (b.1, omega (arith, len, m.1))))
    (simp append_assoc) (link_ok t x) (λ a. links_ok u xs (omega (arith, len, a.1)))

inlets_ok : (t : InletsRead) (cells : List ℕ) → length t.into ≤ 64
    → OkIff (reading inlet_line t cells) ((length t.into + length cells ≤ 64) × ((k : ℕ) → k < length cells → get_or cells k 0 < t.size)) (record { size = t.size; into = t.into ++ cells })
inlets_ok t [] room = ((omega arith, λ k h. absurd (omega arith)), simp append-nil)
inlets_ok t (x ∷ xs) room =
    let u = with_inlet t x in
    let len : length u.into ≡ length t.into + 1 = length-append t.into (x ∷ []) in
    both_ok (inlet_line t x) _ u
    (λ a. (omega (arith, len, a.1.0), each_more (λ cell. cell < t.size) x 0 xs a.0.1 a.1.1))
    (λ m. ((omega (arith, m.0), m.1 zero (omega arith)), (omega (arith, len, m.0), λ k h. m.1 (suc k) (omega arith))))
    (simp append_assoc) (inlet_ok t x) (λ a. inlets_ok u xs (omega (arith, len, a.0)))

-- ---- a register

-- the inlets and the wiring, whatever the other part is
inlets_wired : (n : ℕ) (cells : List ℕ) (turn : Row → Row) → OkIff (and_then (inlet_lines n cells) (wired n turn)) (SizeAllowed n × InletsAllowed n cells) (register n cells turn)
inlets_wired n cells turn =
    let none : InletsRead = record { size = n; into = [] } in
    let all : InletsRead = record { size = n; into = cells } in
    both_ok (inlet_lines n cells) (wired n turn) all
    (λ a. (a.0.0, record { some = a.1; few = omega (arith, a.0.1.0); inside = a.0.1.1 }))
    (λ a. ((a.0, (omega (arith, a.1.few), a.1.inside)), a.1.some))
    refl (after_size inlet_line n none all cells _ (inlets_ok none cells (omega arith))) (λ a. wired_ok n cells turn)

galois_ok : (n : ℕ) (taps cells : List ℕ) → OkIff (galois_from n taps cells) (GaloisAllowed n taps cells) (galois n (among taps) cells)
galois_ok n taps cells =
    let none : TapsRead = record { size = n; tapped = zeros } in
    let all : TapsRead = record { size = n; tapped = among taps } in
    both_ok (tap_lines n taps) _ all
    (λ a. (a.0.0, record { inside = a.0.1.allowed; once = a.0.1.once }, a.1.1))
    (λ a. ((a.0, record { allowed = a.1.inside; fresh = λ k h. refl; once = a.1.once }), (a.0, a.2)))
    refl (after_size tap_line n none all taps _ (taps_ok none taps)) (λ a. inlets_wired n cells (galois_turn n (among taps)))

ring_ok : (n : ℕ) (links : List Link) (cells : List ℕ) → OkIff (ring_from n links cells) (RingAllowed n links cells) (ring n links cells)
ring_ok n links cells =
    let none : LinksRead = record { size = n; links = [] } in
    let all : LinksRead = record { size = n; links = links } in
    both_ok (link_lines n links) _ all
    (λ a. (a.0.0, record { lawful = a.0.1.0.allowed; once = a.0.1.0.once; few = omega (arith, a.0.1.1) }, a.1.1))
    (λ a. ((a.0, (record { allowed = a.1.lawful; fresh = λ k h. refl; once = a.1.once }, omega (arith, a.1.few))), (a.0, a.2)))
    refl (after_size link_line n none all links _ (links_ok none links (omega arith))) (λ a. inlets_wired n cells (ring_turn n links))

pub galois_exactly : (n : ℕ) (taps cells : List ℕ) → GaloisExactly n taps cells
galois_exactly n taps cells = let h = galois_ok n taps cells in record { allowed = Ok-from_Ok_iff _ _ _ h; only = (OkIff-decides _ _ _ h).0 }

pub ring_exactly : (n : ℕ) (links : List Link) (cells : List ℕ) → RingExactly n links cells
ring_exactly n links cells = let h = ring_ok n links cells in record { allowed = Ok-from_Ok_iff _ _ _ h; only = (OkIff-decides _ _ _ h).0 }
