-- Each seat has a participant of its own, and all come together again.
use Rattle.std.proofs.Common.{◌≡◌, ◌∙◌, refl, sym, ap, subst, ℕ, suc, ◌+◌, ◌-◌, ◌<◌, List, [], ◌∷◌, ◌++◌, length, arith}
use Rattle.std.specs.Prelude.{map}
use Rattle.atomic_table.specs.Seated.{TableId}
use Rattle.tsc_left_right.specs.Rule.{at_rest, keeping, first_knowledge, fresh_states}
use Rattle.tsc_left_right.specs.Steps.{seated, first_state, other_states, number_of, seen_of, count_of}
use Rattle.tsc_left_right.specs.Participating.{IsAtRest, IsOf, KeepsStates}
use Rattle.tsc_left_right.proofs.Calls.{still_of}
use Rattle.tsc_cache.specs.declared.history.Entry.{Entry}
use Rattle.tsc_shared.specs.Seats.{SharedView, SeatView}
use Rattle.tsc_shared.specs.Keeping.{cache_of, seat_view, shared_view, state_of_seat}
use Rattle.tsc_shared.specs.Caches.{At, Participant, SeatState, Setup}

-- the first of the states that are left
fresh_first : (number n : ℕ) → number < n → fresh_states {E = Entry} number (n - number)
    ≡ at_rest number [] 0 ∷
    fresh_states (number + 1) (n - (number + 1))
fresh_first number n low =
    let more : n - number ≡ suc (n - (number + 1)) = omega arith in
    let next : suc number ≡ number + 1 = omega arith in
    ap (fresh_states number) more ∙
    ap (λ (k : ℕ). at_rest number [] 0 ∷ fresh_states k (n - (number + 1))) next

-- a participant that keeps those that are left
abbrev pub left_over : Setup → ℕ → ℕ → At
left_over t number n = (keeping t (fresh_states number (n - number)), [])

abbrev first_over : Setup → ℕ → ℕ → At
first_over t number n = (
  keeping t
      (at_rest number [] 0 ∷ fresh_states (number + 1) (n - (number + 1))),
  [],
)

left_first : (me : At) (t : Setup) (number n : ℕ) → number < n → me ≡ left_over t number n →
    me ≡ first_over t number n
left_first me t number n low is = is ∙
    ap (λ (ps : List SeatState). (keeping t ps, [])) (fresh_first number n low)

-- it takes part in the table
pub left_at : (p q : Participant) (shared : TableId) (t : Setup) (number : ℕ) → IsOf p shared →
    p.me ≡ (first_knowledge t, []) → q.table_id ≡ p.table_id → q.me ≡ left_over t number t.seats →
    IsOf q shared
left_at p q shared t number at all table is =
    still_of p q shared at table (ap (λ (m : At). m.0.setup) is ∙
    sym (ap (λ (m : At). m.0.setup) all))

-- and keeps states
pub left_keeps : (me : At) (t : Setup) (number n : ℕ) → me ≡ left_over t number n → KeepsStates me.0
left_keeps me t number n is = subst (λ (m : At). KeepsStates m.0) (sym is) refl

-- of which there is a first
pub left_some : (me : At) (t : Setup) (number n : ℕ) → number < n → me ≡ left_over t number n →
    0 < length me.0.states
left_some me t number n low is = subst (λ (m : At). 0 < length m.0.states)
    (sym (left_first me t number n low is)) (omega arith)

-- what is left then
pub left_then : (me me' : At) (t : Setup) (number n : ℕ) → number < n → me ≡ left_over t number n →
    me' ≡ (keeping me.0.setup (other_states me.0.states), me.1) → me' ≡ left_over t (number + 1) n
left_then me me' t number n low is then' =
    then' ∙ ap (λ (m : At). (keeping m.0.setup (other_states m.0.states), m.1))
    (left_first me t number n low is)

-- and what the new one keeps
pub dealt_then : (me me' : At) (t : Setup) (number n : ℕ) → number < n → me ≡ left_over t number n →
    me' ≡ (keeping me.0.setup (first_state me.0.states ∷ []), []) → me' ≡ (seated t number [] 0, [])
dealt_then me me' t number n low is then' =
    then' ∙ ap (λ (m : At). (keeping m.0.setup (first_state m.0.states ∷ []), []))
    (left_first me t number n low is)

-- a seat keeps its state
pub rest_keeps : (me : At) → IsAtRest me → KeepsStates me.0
rest_keeps me rest = subst (λ (m : At). KeepsStates m.0) (sym rest) refl

-- and what has come together so far keeps the states of those seats
pub taken_keeps : (all : At) (taken : List SeatView) →
    all ≡ (keeping all.0.setup (map state_of_seat taken), []) → KeepsStates all.0
taken_keeps all taken is = subst (λ (m : At). KeepsStates m.0) (sym is) refl

-- the state of a seat comes to the others
pub gathered_then : (me me' all : At) (seat : SeatView) (taken : List SeatView) → IsAtRest me →
    at_rest (number_of me.0) (seen_of me.0) (count_of me.0) ≡ state_of_seat seat
    → all ≡ (keeping all.0.setup (map state_of_seat taken), []) →
    me' ≡ (keeping me.0.setup (me.0.states ++ all.0.states), me.1) →
    me' ≡ (keeping me'.0.setup (map state_of_seat (seat ∷ taken)), [])
gathered_then me me' all seat taken rest same alls then' =
    let setup : me'.0.setup ≡ me.0.setup = ap (λ m. m.0.setup) then' in
    then' ∙ (λ i. (keeping (sym setup i) ((rest i).0.states ++ (alls i).0.states), (rest i).1)) ∙
    ap (λ (p : SeatState). (keeping me'.0.setup (p ∷ map state_of_seat taken), [])) same

-- what was merged to a seat's participant is of its cache
pub merged_cache : (new p : Participant) (seat : SeatView) (cache : SharedView)
    → new.table_id ≡ p.table_id → new.me.0.setup ≡ p.me.0.setup → seat_view p ≡ seat
    → seat.cache ≡ cache → cache_of new ≡ cache
merged_cache new p seat cache table setup is its =
    (λ i. shared_view (table i) (setup i)) ∙ ap (λ (s : SeatView). s.cache) is ∙ its
