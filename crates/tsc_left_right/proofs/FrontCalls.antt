-- Participants that are divided and put together, in the shape that the calls ask for.
use Rattle.std.proofs.Common.{◌≡◌, ◌∙◌, sym, ap, subst, ℕ, ◌<◌, List, [], ◌∷◌, ◌++◌, length}
use Rattle.std.proofs.Common.{arith}
use Rattle.atomic_table.specs.Table.{Step, Allows, Splits, Joins}
use Rattle.tsc_left_right.specs.declared.table.Setup.{Setup}
use Rattle.tsc_left_right.specs.declared.table.Slot.{Slot}
use Rattle.tsc_left_right.specs.declared.table.SeatState.{SeatState}
use Rattle.tsc_left_right.specs.declared.table.Knowledge.{Knowledge}
use Rattle.tsc_left_right.specs.Rule.{LeftRightRule, keeping, at_rest}
use Rattle.tsc_left_right.specs.Steps.{At, state_in, with_state, front_of, spent, first_state}
use Rattle.tsc_left_right.specs.Steps.{other_states, seated, number_of, seen_of, count_of}
use Rattle.tsc_left_right.specs.Steps.{CatchesUp, catches_up}
use Rattle.tsc_left_right.specs.Participating.{IsAtRest, IsFront, KeepsStates, HasLooked}
use Rattle.tsc_left_right.specs.Participating.{SeesNewest}
use Rattle.std.specs.Arc.{arc_value}
use Rattle.atomic_table.specs.Table.{rest}
use Rattle.tsc_left_right.specs.declared.table.Slot.TheVariants.{Empty, Writer, Handle}
use Rattle.tsc_left_right.specs.Rule.{Shows, side_slot}
use Rattle.tsc_left_right.specs.Steps.{SeesAll, staged}
use Rattle.tsc_left_right.specs.Participating.{HasHandle}
use Rattle.tsc_left_right.proofs.Seeing.{with_front, front_splits, front_joins, catch_up_allowed}
use Rattle.tsc_left_right.proofs.Seeing.{first_splits, states_join}
use Rattle.tsc_left_right.specs.declared.replicated.Replicated.{Ghosts}
use Rattle.tsc_left_right.proofs.Prefixes.{begins_on}

module _ {P C O S E : Type 0} (R : Ghosts P C O S E) where
  -- a front of what a seat has seen
  pub front_at : (key : Setup S) (id : ℕ) (me : At C O S E) → IsAtRest me
      → Splits (LeftRightRule R key) id me.0
      me.0 (front_of me.0.setup (seen_of me.0))
  front_at key id me rested = subst (λ (m : At C O S E). Splits (LeftRightRule R key) id m.0 m.0
      (front_of me.0.setup (seen_of me.0))) (sym rested) (front_splits R key id me.0.setup
      (at_rest (number_of me.0) (seen_of me.0) (count_of me.0)))

  -- A front goes to another participant.
  pub join_at : (key : Setup S) (id : ℕ) (me : At C O S E) (other : ℕ) (front : At C O S E)
      → IsAtRest me → IsFront front
      → Joins (LeftRightRule R key) id me.0 other front.0 (record me.0 { front = front.0.front })
      (spent R.unsettled)
  join_at key id me other front rested is =
      let seen : List E = front.0.front in
      let u : Setup S = front.0.setup in
      subst (λ (w : Knowledge S E). Joins (LeftRightRule R key) id me.0 other w (record me.0 {
        front =
            w.front;
      }) (spent R.unsettled)) (sym (ap (λ (m : At C O S E). m.0) is))
      (subst (λ (m : At C O S E). Joins (LeftRightRule R key) id m.0 other (front_of u seen)
      (record m.0 { front = seen }) (spent R.unsettled)) (sym rested)
      (front_joins R key id me.0.setup (at_rest (number_of me.0) (seen_of me.0)
      (count_of me.0)) other u
      seen))

  -- a seat that has taken in a front
  pub joined_then : (me me' front : At C O S E) → IsAtRest me → me' ≡ (
    record me.0 { front = front.0.front },
    me.1,
  ) → me' ≡ (
    with_front me.0.setup (at_rest (number_of me.0) (seen_of me.0) (count_of me.0))
        front.0.front,
    [],
  )
  joined_then me me' front rested is = is ∙ (λ i. (
    record (rested i).0 { front = front.0.front },
    (rested i).1,
  ))

  pub catch_up_at : (key : Setup S) (slots : ℕ) (st : Step (Slot C O)) (id : ℕ) (me : At C O S E)
      (t : Setup S) (number : ℕ) (seen : List E) (count : ℕ) (other : List E)
      → me ≡ (with_front t (at_rest number seen count) other, [])
      → Allows (LeftRightRule R key) slots id me 0 (λ n. n) (catches_up R st me)
  catch_up_at key slots st id me t number seen count other is =
      subst (λ (m : At C O S E). Allows (LeftRightRule R key) slots id m 0 (λ n. n)
      (catches_up R st m)) (sym is)
      (catch_up_allowed R key slots st id t (at_rest number seen count) other)

  -- It has caught up then,
  pub caught_up_then : (st : Step (Slot C O)) (found : ℕ) (me was me' : At C O S E) (other : List E)
      → was ≡ (
        with_front me.0.setup (at_rest (number_of me.0) (seen_of me.0) (count_of me.0)) other,
        [],
      ) → IsAtRest me → catches_up R st was found me' → CatchesUp R me me' other
  caught_up_then st found me was me' other is rested done =
      let m : CatchesUp R (
        with_front me.0.setup (at_rest (number_of me.0) (seen_of me.0)
            (count_of me.0)) other,
        [],
      ) me' other = subst (λ (x : At C O S E). catches_up R st x found me') is
      done in
      record {
        history = m.history;
        is_longer = m.is_longer;
        after = m.after ∙ (λ i. (
          with_state me.0 (record (state_in (sym rested i).0) {
            seen =
                m.history;
          }),
          [],
        ));
        begins = m.begins;
        begins_other = m.begins_other;
        legal = m.legal;
        own = m.own;
        limit = m.limit;
      }

  -- and is at rest
  pub caught_up_rests : (me me' : At C O S E) (other : List E) → IsAtRest me
      → CatchesUp R me me' other → IsAtRest me'
  caught_up_rests me me' other rested c =
      let is : me' ≡ (seated me.0.setup (number_of me.0) c.history (count_of me.0), []) = c.after
      ∙ (λ i. (with_state me.0 (record (state_in (rested i).0) { seen = c.history }), [])) in
      is ∙ (λ i. let m = sym is i in (
        seated m.0.setup (number_of m.0) (seen_of m.0) (count_of m.0),
        [],
      ))

  -- what a seat that has caught up and then looked has seen
  pub newest_then : (me me₁ me' : At C O S E) (other : List E) (found : ℕ) (cache : C) → IsAtRest me
      → CatchesUp R me me₁ other → HasLooked R me₁.0 me' found cache
      → SeesNewest R me me' other found
  newest_then me me₁ me' other found cache rested c l =
      let is : me₁ ≡ (seated me.0.setup (number_of me.0) c.history (count_of me.0), []) = c.after
      ∙ (λ i. (with_state me.0 (record (state_in (rested i).0) { seen = c.history }), [])) in
      let h : HasLooked R (seated me.0.setup (number_of me.0) c.history (count_of me.0)) me' found
      cache = subst (λ (m : At C O S E). HasLooked R m.0 me' found cache) is l in
      record {
        history = h.history;
        after = h.after;
        begins = begins_on h.history c.history (seen_of me.0) h.begins c.begins;
        begins_other = begins_on h.history c.history other h.begins c.begins_other;
        legal = h.legal;
        own = h.own;
        limit = h.limit;
        long = h.long;
      }

  -- the first of the states goes to a participant of its own
  pub split_at : (key : Setup S) (id : ℕ) (v : Knowledge S E) → KeepsStates v → 0 < length v.states
      → Splits (LeftRightRule R key) id v (keeping v.setup (other_states v.states))
      (keeping v.setup (first_state v.states ∷ []))
  split_at key id v is some =
      subst (λ (x : Knowledge S E). Splits (LeftRightRule R key) id x
      (keeping x.setup (other_states x.states)) (keeping x.setup (first_state x.states ∷ [])))
      (sym is) (split v.setup v.states some)
    where
      split : (t : Setup S) (ps : List (SeatState E)) → 0 < length ps
          → Splits (LeftRightRule R key) id
          (keeping t ps) (keeping t (other_states ps)) (keeping t (first_state ps ∷ []))
      split t [] some = absurd (omega (arith, some))
      split t (p ∷ ps) some = first_splits R key id t p ps

  -- two participants come together
  pub merge_at : (key : Setup S) (id : ℕ) (v : Knowledge S E) (other : ℕ) (w : Knowledge S E)
      → KeepsStates v → KeepsStates w
      → Joins (LeftRightRule R key) id v other w (keeping v.setup (v.states ++ w.states))
      (spent R.unsettled)
  merge_at key id v other w is iw =
      subst (λ (x : Knowledge S E). Joins (LeftRightRule R key) id x other w
      (keeping x.setup (x.states ++ w.states)) (spent R.unsettled)) (sym is)
      (subst (λ (y : Knowledge S E). Joins (LeftRightRule R key) id
      (keeping v.setup v.states) other y
      (keeping v.setup (v.states ++ y.states)) (spent R.unsettled)) (sym iw)
      (states_join R key id v.setup v.states other w.setup w.states))

  abbrev what_first : Slot C O → List (ℕ × Slot C O) → Slot C O
  what_first d [] = d
  what_first d (x ∷ xs) = x.1

  -- A seat at rest that was pinned, looked, and was unpinned.
  pub looked : (Finds : C → Type 0) (me me₁ me₂ : At C O S E) (head number side slot found : ℕ)
      (x y : Slot C O) → IsAtRest me → me₁.1 ≡ (side_slot number side, x) ∷ []
      → SeesAll R me.0 me₁.0 head x → me₁.1 ≡ (slot, y) ∷ rest me₁.1
      → HasHandle y (λ copy length. (found ≡ length) × Finds copy)
      → me₂ ≡ (with_state me₁.0 (staged (state_in me₁.0) 0), [])
      → (copy : C) × HasLooked R me.0 me₂ found copy × Finds copy
  looked Finds me me₁ me₂ head number side slot found x y rested hand sees out has left =
      let same : x ≡ y = ap (what_first x) (sym hand ∙ out) in
      by_slot y (subst (Shows R me.0.setup sees.history) same sees.shows) has
    where
      by_slot : (y : Slot C O) → Shows R me.0.setup sees.history y
          → HasHandle y (λ copy length. (found ≡ length) × Finds copy)
          → (copy : C) × HasLooked R me.0 me₂ found copy × Finds copy
      by_slot Empty shows has = absurd has
      by_slot (Writer state) shows has = absurd has
      by_slot (Handle handle) shows has = (
        arc_value handle.copy,
        record {
          history = sees.history;
          after = left ∙ (λ i. let w = sees.after i in (with_state w (staged (state_in w) 0), []))
              ∙ (λ i. let v = (rested i).0 in (
                with_state v (staged (record (state_in v) { seen = sees.history; stage = 0 }) 0),
                [],
              ));
          begins = sees.begins;
          legal = sees.legal;
          own = sees.own;
          limit = sees.limit;
          stands = shows.0;
          long = has.0 ∙ shows.1;
        },
        has.1,
      )
