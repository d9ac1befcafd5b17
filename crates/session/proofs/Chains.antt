-- Calls one after another: every answer is true of the bits then standing.
use Rattle.std.proofs.Common.{◌≡◌, ℕ, ◌≤◌, ◌⊎◌, List, [], ◌∷◌, ◌++◌, Result, sym, refl, ap, ◌∙◌, subst, inl, inr, arith}
use Rattle.std.proofs.lemmas.List.{take-set-le}
use Rattle.equations.specs.declared.Equation.{Equation}
use Rattle.equations.specs.Equations.{solutions}
use Rattle.machine.specs.Linear.{Linear}
use Rattle.refusals.specs.declared.Refusal.{Refusal}
use Rattle.scan.specs.declared.care.CareBit.{CareBit}
use Rattle.scan.specs.declared.frame.Frame.{Frame}
use Rattle.session.specs.Dialogues.{Event, opens, proposes, keeps, lets_go, reads_free, reads_pattern, Standing, none, step, steps, True, AllTrue, Held, counted, Call, Chain, begun, EveryListIsAnsweredTruly}
use Rattle.session.specs.Sessions.{Session, fall, with_row, Proposed, Stands}
use Rattle.session.proofs.Truths.{propose_true, free_true, pattern_true, answered_small}

-- table and counter stand for the bits that stand, and with the count that the last trial found they would stand for those noted
record Sound (m : Linear) (f : Frame) (h : Held) (s : Standing) : Type 0 where
  now_standing : Stands m f h.session s.bits
  less : h.found ≤ h.session.count
  noted_standing : Stands m f (counted h.session h.found) s.noted

module _ (m : Linear) (f : Frame) where
  -- what stands with fewer equations in force stays so when a row after those in force is written
  still : (s t : Session) (n : ℕ) (b : CareBit) (r : Result ℕ Refusal) (bits : List CareBit) → n ≤ s.count → Proposed m s b r t
      → (fall r ≡ 0) ⊎ (fall r ≡ 1) → Stands m f (counted s n) bits → (n ≤ t.count) × Stands m f (counted t n) bits
  still s t n b r bits low p (inl z) st =
      let same : t ≡ s = p.after.unchanged z in
      (subst (λ (u : Session). n ≤ u.count) (sym same) low, subst (λ (u : Session). Stands m f (counted u n) bits) (sym same) st)
  still s t n b r bits low p (inr z) st =
      let row = p.after.written z in
      let same : t ≡ with_row s row.0 = row.1 in (
        subst (λ (u : Session). n ≤ u.count) (sym same) (omega arith),
        subst (λ (u : Session). Stands m f (counted u n) bits) (sym same) (record {
          accepted = st.accepted;
          frame = st.frame;
          channels = st.channels;
          outlets = st.outlets;
          counted = omega arith;
          ranged = st.ranged;
          solved = λ x l. ap (λ (es : List Equation). solutions es x) (take-set-le n s.rows s.count row.0 low) ∙ st.solved x l;
        }),
      )

  -- one call
  call_true : (a : Held) (e : Event) (z : Held) (s : Standing) → Call m a e z → Sound m f a s → True m f s.bits e × Sound m f z (step s e)
  call_true a opens z s call sound = (
    tt,
    subst (λ (h : Held). Sound m f h (step s opens)) (sym call)
        (record { now_standing = sound.now_standing; less = omega arith; noted_standing = sound.now_standing }),
  )
  call_true a (proposes b r) z s call sound =
      let proposed : Proposed m a.session b r z.session = call.0 in
      let here = propose_true m f a.session s.bits sound.now_standing b r z.session proposed in
      let kept = still a.session z.session a.found b r s.noted sound.less proposed
      (answered_small m f a.session s.bits sound.now_standing b r z.session proposed) sound.noted_standing in
      let found : z.found ≡ a.found = call.1 in (
        here.0,
        record {
          now_standing = here.1;
          less = subst (λ (n : ℕ). n ≤ z.session.count) (sym found) kept.0;
          noted_standing = subst (λ (n : ℕ). Stands m f (counted z.session n) s.noted) (sym found) kept.1;
        },
      )
  call_true a keeps z s call sound = (tt, subst (λ (h : Held). Sound m f h s) (sym call) sound)
  call_true a lets_go z s call sound = (
    tt,
    subst (λ (h : Held). Sound m f h (step s lets_go)) (sym call)
        (record { now_standing = sound.noted_standing; less = omega arith; noted_standing = sound.noted_standing }),
  )
  call_true a (reads_free r) z s call sound = (
    free_true m f a.session s.bits sound.now_standing r call.1 call.2,
    subst (λ (h : Held). Sound m f h s) (sym call.0) sound,
  )
  call_true a (reads_pattern before r after) z s call sound = (
    pattern_true m f a.session s.bits sound.now_standing before r after call.1 call.2 call.3,
    subst (λ (h : Held). Sound m f h s) (sym call.0) sound,
  )

  chain_true : (a : Held) (es : List Event) (z : Held) (s : Standing) → Chain m a es z → Sound m f a s → AllTrue m f s es × Sound m f z (steps s es)
  chain_true a [] z s chain sound = (tt, subst (λ (h : Held). Sound m f h s) (sym chain) sound)
  chain_true a (e ∷ es) z s chain sound =
      let one = call_true a e chain.0 s chain.1 sound in
      let rest = chain_true chain.0 es z (step s e) chain.2 one.1 in
      ((one.0, rest.0), rest.1)

  pub every_list : (s : Session) → Stands m f s [] → EveryListIsAnsweredTruly m f s
  every_list s st es z chain =
      let all = chain_true (begun s) es z none chain (record { now_standing = st; less = omega arith; noted_standing = st }) in
      (all.0, all.1.now_standing)

-- one call more at the end
pub chain_push : (m : Linear) (a : Held) (es : List Event) (y : Held) (e : Event) (z : Held) → Chain m a es y → Call m y e z → Chain m a (es ++ (e ∷ [])) z
chain_push m a [] y e z chain call = (z, subst (λ (h : Held). Call m h e z) chain call, refl)
chain_push m a (d ∷ es) y e z chain call = (chain.0, chain.1, chain_push m chain.0 es y e z chain.2 call)
