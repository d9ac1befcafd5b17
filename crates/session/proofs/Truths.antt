-- What the single calls answer is true of the bits for which table and counter stand.
use Rattle.std.proofs.Common.{◌≡◌, ℕ, ◌-◌, ◌<◌, ◌≤◌, Bool, true, false, cond, not, ◌&&◌, eqb, ltb, ◌⊎◌, List, [], ◌∷◌, ◌++◌, map, length, drop, is_ok, Some, Ok, Err, Option, Result, sym, refl, ap, ◌∙◌, subst, ap₂, inl, inr, arith, pow_pos}
use mathlib.Core.Bool.{and-true}
use Rattle.std.proofs.Math.Bool.{and_assoc}
use Rattle.std.proofs.lemmas.Bool.{and_from, and_parts, ltb-true, eq-eqb, lt-ltb, le-ltb, cond-true, cond-false}
use Rattle.bits.specs.Digits.{digit_of}
use Rattle.equations.specs.Counting.{both, number, first}
use Rattle.equations.proofs.Counts.{number_same, first_same, first_some, first_in_order}
use Rattle.machine.specs.Linear.{Linear}
use Rattle.refusals.specs.declared.Refusal.{Refusal}
use Rattle.refusals.specs.declared.Refusal.TheVariants.{Conflict, OutOfRange, MemoryTooShort}
use Rattle.refusals.specs.Chains.{refused_if, answer_of, left_by}
use Rattle.responses.specs.Ranges.{is_in_range, in_chains}
use Rattle.scan.specs.declared.care.CareBit.{CareBit}
use Rattle.scan.specs.declared.frame.Frame.{Frame}
use Rattle.scan.specs.Frames.{variables}
use Rattle.scan.specs.Loads.{InRange}
use Rattle.session.specs.Dialogues.{with_bit, FreeTrue, FirstRead, PatternTrue}
use Rattle.session.specs.Sessions.{Session, size, in_force, proposing, fall, with_row, Proposed, freeing, written_over, patterning, Halved, AllInRange, Stands}
use Rattle.session.specs.Standing.{loading, loads_all, ways, first_injection, weighed, verdict}
use Rattle.session.proofs.Patterns.{replays_all}

-- one bit more
pub loads_push : (m : Linear) (f : Frame) (bits : List CareBit) (b : CareBit) (x : List Bool) → loads_all m f (bits ++ (b ∷ [])) x ≡ (loads_all m f bits x && loading m f b x)
loads_push m f [] b x = and-true (loading m f b x)
loads_push m f (a ∷ bits) b x = ap (λ (t : Bool). loading m f a x && t) (loads_push m f bits b x) ∙ sym (and_assoc (loading m f a x) (loads_all m f bits x) (loading m f b x))

ranged_push : (m : Linear) (f : Frame) (bits : List CareBit) (b : CareBit) → AllInRange m f bits → InRange m f b → AllInRange m f (bits ++ (b ∷ []))
ranged_push m f [] b all one = (one, tt)
ranged_push m f (a ∷ bits) b all one = (all.0, ranged_push m f bits b all.1 one)

-- what an accepted bit was weighed as
weighed_small : (a b n : ℕ) → weighed a b ≡ Ok n → (n ≡ 0) ⊎ (n ≡ 1)
weighed_small a b n h = go (eqb b 0) (ltb b a) h
  where
    go : (p q : Bool) → refused_if p Conflict (Ok (cond q 1 0)) ≡ Ok n → (n ≡ 0) ⊎ (n ≡ 1)
    go true q h = absurd (let z : ◌≡◌ {A = ℕ} 0 1 = cc in omega arith)
    go false true h = inr (cc)
    go false false h = inl (cc)

-- a bit that was accepted is in range, and was weighed
in_chains_lem : (m : Linear) (f : Frame) (b : CareBit) (w : Result ℕ Refusal) (n : ℕ) → in_chains m f b w ≡ Ok n → InRange m f b × (w ≡ Ok n)
in_chains_lem m f b w n h = go (is_in_range m f b) refl h
  where
    go : (p : Bool) → is_in_range m f b ≡ p → refused_if (not p) OutOfRange w ≡ Ok n → InRange m f b × (w ≡ Ok n)
    go true e h =
        let parts = and_parts (ltb b.chain m.outlets) (ltb b.position f.shifts) e in
        (record { chain_below = ltb-true _ _ parts.0; position_below = ltb-true _ _ parts.1 }, h)
    go false e h = absurd (let z : ◌≡◌ {A = ℕ} 0 1 = cc in omega arith)

module _ (m : Linear) (f : Frame) (s : Session) (bits : List CareBit) (st : Stands m f s bits) where
  pub same_size : size s ≡ variables m.channels f
  same_size = ap₂ (λ (k : ℕ) (g : Frame). variables k g) st.channels st.frame

  pub ways_is : number (size s) (in_force s) ≡ ways m f bits
  ways_is = number_same (size s) _ _ st.solved ∙ ap (λ (n : ℕ). number n (loads_all m f bits)) same_size

  counter_fits_lem : ltb s.written s.count ≡ false
  counter_fits_lem = le-ltb _ _ st.counted

  with_bit_lem : (b : CareBit) (x : List Bool) → length x ≡ size s → both (in_force s) (loading m s.frame b) x ≡ loads_all m f (bits ++ (b ∷ [])) x
  with_bit_lem b x l = ap₂ ◌&&◌ (st.solved x l) (ap (λ (g : Frame). loading m g b x) st.frame) ∙ sym (loads_push m f bits b x)

  is_verdict : (b : CareBit) → proposing m s b ≡ verdict m f bits b
  is_verdict b =
      cond-false _ _ _ counter_fits_lem
      ∙ cond-false _ _ _ (ap not (and_from _ _ (eq-eqb _ _ (sym st.channels)) (eq-eqb _ _ (sym st.outlets))))
      ∙ ap₂ (λ (g : Frame) (w : Result ℕ Refusal). in_chains m g b w) st.frame
      (ap₂ weighed ways_is (number_same (size s) _ _ (with_bit_lem b) ∙ ap (λ (n : ℕ). number n (loads_all m f (bits ++ (b ∷ [])))) same_size))

  module _ (b : CareBit) (r : Result ℕ Refusal) (t : Session) (p : Proposed m s b r t) where
    told : r ≡ verdict m f bits b
    told = p.answer ∙ is_verdict b

    grown : (n : ℕ) → r ≡ Ok n → Stands m f t (bits ++ (b ∷ []))
    grown n e =
        let parts = in_chains_lem m f b _ n (sym told ∙ e) in
        let narrow = p.after.narrowed (ap is_ok e) in
        elim (weighed_small _ _ n parts.1) [
          | inl z ↦ (
              let same : t ≡ s = p.after.unchanged (ap fall e ∙ z) in
              record {
                accepted = st.accepted;
                frame = ap (λ (u : Session). u.frame) same ∙ st.frame;
                channels = ap (λ (u : Session). u.channels) same ∙ st.channels;
                outlets = ap (λ (u : Session). u.outlets) same ∙ st.outlets;
                counted = subst (λ (u : Session). u.count ≤ u.written) (sym same) st.counted;
                ranged = ranged_push m f bits b st.ranged parts.0;
                solved = λ x l. narrow x (l ∙ ap size same) ∙ with_bit_lem b x (l ∙ ap size same);
              })
          | inr z ↦ (
              let row = p.after.written (ap fall e ∙ z) in
              let same : t ≡ with_row s row.0 = row.1 in
              record {
                accepted = st.accepted;
                frame = ap (λ (u : Session). u.frame) same ∙ st.frame;
                channels = ap (λ (u : Session). u.channels) same ∙ st.channels;
                outlets = ap (λ (u : Session). u.outlets) same ∙ st.outlets;
                counted = subst (λ (u : Session). u.count ≤ u.written) (sym same) (omega arith);
                ranged = ranged_push m f bits b st.ranged parts.0;
                solved = λ x l. narrow x (l ∙ ap size same) ∙ with_bit_lem b x (l ∙ ap size same);
              })
        ]

    -- the free count falls by one or not at all
    fall_small : (q : Result ℕ Refusal) → verdict m f bits b ≡ q → (fall q ≡ 0) ⊎ (fall q ≡ 1)
    fall_small (Ok n) e = weighed_small _ _ n (in_chains_lem m f b _ n e).1
    fall_small (Err x) e = inl refl

    pub answered_small : (fall r ≡ 0) ⊎ (fall r ≡ 1)
    answered_small = fall_small r (sym told)

    stands_with : (q : Result ℕ Refusal) → r ≡ q → Stands m f t (with_bit q bits b)
    stands_with (Ok n) e = grown n e
    stands_with (Err x) e = subst (λ (u : Session). Stands m f u bits) (sym (p.after.unchanged (ap fall e))) st

    pub propose_true : (r ≡ verdict m f bits b) × Stands m f t (with_bit r bits b)
    propose_true = (told, stands_with r refl)

  pub free_true : (r : Result ℕ Refusal) → r ≡ freeing s → Halved s → FreeTrue m f bits r
  free_true r is halved = (size s - s.count, is ∙ cond-false _ _ _ counter_fits_lem, sym ways_is ∙ halved st.counted)

  -- the first solution in force is the first injection
  first_is_first : first (size s) (in_force s) ≡ first_injection m f bits
  first_is_first = first_same (size s) _ _ st.solved ∙ ap (λ (n : ℕ). first n (loads_all m f bits)) same_size

  pub pattern_true : (before : List ℕ) (r : Result Unit Refusal) (after : List ℕ) → r ≡ answer_of (patterning s before)
      → after ≡ left_by before (patterning s before) → Halved s → PatternTrue m f bits before r after
  pattern_true before r after is left halved = record {
    short = λ h.
        let e : patterning s before ≡ Err MemoryTooShort = cond-false _ _ _ counter_fits_lem ∙ cond-true _ _ _ (lt-ltb _ _ (subst (λ (n : ℕ). length before < n) (sym same_size) h)) in
        (is ∙ ap answer_of e, left ∙ ap (left_by before) e);
    told = λ h. go h (first_some (size s) (in_force s) (subst (λ (n : ℕ). 0 < n) (sym (halved st.counted)) (pow_pos (size s - s.count))));
  }
    where
      go : variables m.channels f ≤ length before → (x : List Bool) × (first (size s) (in_force s) ≡ Some x) → (r ≡ Ok tt) × FirstRead m f bits before after
      go h found =
          let e : patterning s before ≡ Ok (written_over (first (size s) (in_force s)) before) =
          cond-false _ _ _ counter_fits_lem ∙ cond-false _ _ _ (le-ltb _ _ (subst (λ (n : ℕ). n ≤ length before) (sym same_size) h)) in
          let x : List Bool = found.0 in
          let is-first : first_injection m f bits ≡ Some x = sym first_is_first ∙ found.1 in
          let law = first_in_order (variables m.channels f) (loads_all m f bits) x is-first in (
            is ∙ ap answer_of e,
            record {
              injection = x;
              first = is-first;
              in_order = law;
              digits = left ∙ ap (left_by before) e ∙ ap (λ (o : Option (List Bool)). written_over o before) found.1
                  ∙ ap (λ (n : ℕ). map digit_of x ++ drop n before) law.size;
              replays = replays_all m f x law.size st.accepted bits st.ranged law.passes;
            },
          )
