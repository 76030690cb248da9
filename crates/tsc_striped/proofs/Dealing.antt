-- Each seat has a participant of its own, and all come together again.
use Rattle.std.proofs.Common.{◌≡◌, ◌∙◌, refl, sym, ap, subst, ℕ, suc, ◌+◌, ◌-◌, ◌<◌, ◌≤◌, List, [], ◌∷◌}
use Rattle.std.proofs.Common.{◌++◌, length, arith, map}
use Rattle.std.specs.Prelude.{All, slice_index_or}
use Rattle.std.proofs.lemmas.List.{length-append, length_push}
use Rattle.atomic_table.specs.Seated.{TableId}
use Rattle.tsc_stripe_table.specs.declared.table.SeatState.{SeatState}
use Rattle.tsc_stripe_table.specs.Stripes.{Terms}
use Rattle.tsc_stripe_table.specs.Rule.{at_rest, keeping, fresh_states}
use Rattle.tsc_stripe_table.specs.Steps.{At, seated, first_state, other_states, number_of, seen_of}
use Rattle.tsc_stripe_table.specs.Steps.{count_of}
use Rattle.tsc_stripe_table.specs.Participating.{Participant, IsAtRest, IsOf, IsSized, KeepsStates}
use Rattle.tsc_striped.specs.Seats.{SeatView, IsSettled}
use Rattle.tsc_striped.specs.Keeping.{state_of_seat, striped_view, cache_of, dealer_view, seat_view}
use Rattle.tsc_striped.specs.Keeping.{KeepsOthers, KeepsSeat}
use Rattle.tsc_striped.specs.Answers.{Deals}
use Rattle.tsc_striped.proofs.SeatSteps.{new_rests, new_view}

-- the first of the states that are left
fresh_first : (number n : ℕ) → number < n → fresh_states number (n - number)
    ≡ at_rest number [] 0 ∷ fresh_states (number + 1) (n - (number + 1))
fresh_first number n low =
    let more : n - number ≡ suc (n - (number + 1)) = omega arith in
    let next : suc number ≡ number + 1 = omega arith in
    ap (fresh_states number) more
    ∙ ap (λ (k : ℕ). at_rest number [] 0 ∷ fresh_states k (n - (number + 1))) next

-- a participant that keeps those that are left
abbrev pub left_over : Terms → ℕ → At
left_over t number = (keeping t (fresh_states number (t.seats - number)), [])

abbrev first_over : Terms → ℕ → At
first_over t number = (
  keeping t (at_rest number [] 0 ∷ fresh_states (number + 1) (t.seats - (number + 1))),
  [],
)

left_first : (me : At) (t : Terms) (number : ℕ) → number < t.seats → me ≡ left_over t number
    → me ≡ first_over t number
left_first me t number low is = is
    ∙ ap (λ (ps : List SeatState). (keeping t ps, [])) (fresh_first number t.seats low)

-- keeps states
pub left_keeps : (me : At) (t : Terms) (number : ℕ) → me ≡ left_over t number → KeepsStates me.0
left_keeps me t number is = subst (λ (m : At). KeepsStates m.0) (sym is) refl

-- of which there is a first
pub left_some : (me : At) (t : Terms) (number : ℕ) → number < t.seats → me ≡ left_over t number
    → 0 < length me.0.states
left_some me t number low is = subst (λ (m : At). 0 < length m.0.states)
    (sym (left_first me t number low is)) (omega arith)

-- what is left then
pub left_then : (me me' : At) (t : Terms) (number : ℕ) → number < t.seats
    → me ≡ left_over t number → me' ≡ (keeping me.0.setup (other_states me.0.states), me.1)
    → me' ≡ left_over t (number + 1)
left_then me me' t number low is then' =
    then' ∙ ap (λ (m : At). (keeping m.0.setup (other_states m.0.states), m.1))
    (left_first me t number low is)

-- and what the new one keeps
pub dealt_then : (me me' : At) (t : Terms) (number : ℕ) → number < t.seats
    → me ≡ left_over t number
    → me' ≡ (keeping me.0.setup (first_state me.0.states ∷ []), [])
    → me' ≡ (seated t number [] 0, [])
dealt_then me me' t number low is then' =
    then' ∙ ap (λ (m : At). (keeping m.0.setup (first_state m.0.states ∷ []), []))
    (left_first me t number low is)

-- a dealer keeps those that are left
pub keeps_left : (p : Participant) (t : Terms) (number : ℕ) → p.me ≡ left_over t number
    → number ≤ t.seats → IsSized p.table_id t.bounds → KeepsOthers p number
keeps_left p t number is some sized = record {
  states = subst (λ (m : At). m ≡ left_over m.0.setup number) (sym is) refl;
  some = subst (λ (m : At). number ≤ m.0.setup.seats) (sym is) some;
  sized = subst (λ (m : At). IsSized p.table_id m.0.setup.bounds) (sym is) sized;
}

-- a seat keeps its state
pub rest_keeps : (me : At) → IsAtRest me → KeepsStates me.0
rest_keeps me rest = subst (λ (m : At). KeepsStates m.0) (sym rest) refl

-- and what has come together so far keeps the states of those seats, before others
pub taken_keeps : (all : At) (taken : List SeatView) (others : List SeatState)
    → all ≡ (keeping all.0.setup (map state_of_seat taken ++ others), []) → KeepsStates all.0
taken_keeps all taken others is = subst (λ (m : At). KeepsStates m.0) (sym is) refl

-- the state of a seat comes to the others
pub gathered_then : (me me' all : At) (seat : SeatView) (taken : List SeatView)
    (others : List SeatState) → IsAtRest me
    → at_rest (number_of me.0) (seen_of me.0) (count_of me.0) ≡ state_of_seat seat
    → all ≡ (keeping all.0.setup (map state_of_seat taken ++ others), [])
    → me' ≡ (keeping me.0.setup (me.0.states ++ all.0.states), me.1)
    → me' ≡ (keeping me'.0.setup (map state_of_seat (seat ∷ taken) ++ others), [])
gathered_then me me' all seat taken others rest same alls then' =
    let setup : me'.0.setup ≡ me.0.setup = ap (λ m. m.0.setup) then' in
    then' ∙ (λ i. (keeping (sym setup i) ((rest i).0.states ++ (alls i).0.states), (rest i).1))
    ∙ ap (λ (p : SeatState). (
      keeping me'.0.setup
          (p ∷ (map state_of_seat taken ++ others)),
      [],
    )) same

-- a dealer that deals the next seat
module _ (p p' q : Participant) (dealt : ℕ) (k : KeepsOthers p dealt)
    (low : dealt < p.me.0.setup.seats) (table : p'.table_id ≡ p.table_id)
    (others : p'.me ≡ (keeping p.me.0.setup (other_states p.me.0.states), p.me.1))
    (first : q.me ≡ (keeping p.me.0.setup (first_state p.me.0.states ∷ []), []))
    (of : q.table_id ≡ p.table_id) where
  left_is : p'.me ≡ left_over p.me.0.setup (dealt + 1)
  left_is = left_then p.me p'.me p.me.0.setup dealt low k.states others

  first_is : q.me ≡ (seated p.me.0.setup dealt [] 0, [])
  first_is = dealt_then p.me q.me p.me.0.setup dealt low k.states first

  pub keeps_next : KeepsOthers p' (dealt + 1)
  keeps_next = keeps_left p' p.me.0.setup (dealt + 1) left_is (omega (arith, low))
      (subst (λ (t : TableId). IsSized t p.me.0.setup.bounds) (sym table) k.sized)

  pub keeps_first : IsSettled p.me.0.setup → KeepsSeat q dealt 0
  keeps_first settled = new_rests q p.me.0.setup dealt first_is low settled
      (subst (λ (t : TableId). IsSized t p.me.0.setup.bounds) (sym of) k.sized)

  pub deals : Deals (dealer_view p dealt) (dealer_view p' (dealt + 1)) (seat_view q)
  deals = record {
    some = low;
    seat_is = new_view q p.me.0.setup p.table_id dealt of first_is;
    dealer = (λ i. record {
      cache = striped_view (table i) ((left_is i).0.setup);
      dealt = dealt + 1;
    }) ∙ ap (λ (n : ℕ). record { cache = cache_of p; dealt = n }) (omega arith);
  }

-- it takes part in its table
pub dealer_of : (p : Participant) (dealt : ℕ) (table : TableId) → KeepsOthers p dealt
    → p.table_id ≡ table → IsOf p table
dealer_of p dealt table k same = record {
  table = same;
  sized = subst (λ (t : TableId). IsSized t p.me.0.setup.bounds) same k.sized;
}
