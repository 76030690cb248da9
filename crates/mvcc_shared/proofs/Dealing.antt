-- Each client has a participant of its own, and all come together again.
use Rattle.std.proofs.Common.{◌≡◌, ◌∙◌, refl, sym, ap, subst, ℕ, suc, ◌+◌, ◌-◌, ◌<◌, ◌≤◌, List, []}
use Rattle.std.proofs.Common.{◌∷◌, ◌++◌, length, arith, map}
use Rattle.std.specs.Prelude.{All, slice_index_or}
use Rattle.std.proofs.lemmas.List.{length-append, length_push}
use Rattle.atomic_table.specs.Seated.{TableId}
use Rattle.mvcc_range.specs.Steps.{IsOpened}
use Rattle.mvcc_shared.specs.declared.table.ClientState.{ClientState}
use Rattle.mvcc_shared.specs.History.{Terms}
use Rattle.mvcc_shared.specs.Rule.{at_rest, keeping, fresh_states}
use Rattle.mvcc_shared.specs.Steps.{At, resting, first_state, other_states, number_of, seen_of}
use Rattle.mvcc_shared.specs.Participating.{Participant, IsAtRest, IsOf, IsSized, KeepsStates}
use Rattle.mvcc_shared.specs.Clients.{ClientView, IsClient, new_client}
use Rattle.mvcc_shared.specs.Keeping.{
  state_of_client,
  range_of,
  dealer_view,
  client_view,
  KeepsOthers,
  KeepsClient,
}
use Rattle.mvcc_shared.specs.Answers.{Deals}

-- the first of the states that are left
fresh_first : (number n : ℕ) → number < n → fresh_states number (n - number)
    ≡ at_rest number [] ∷ fresh_states (number + 1) (n - (number + 1))
fresh_first number n low =
    let more : n - number ≡ suc (n - (number + 1)) = omega arith in
    let next : suc number ≡ number + 1 = omega arith in
    ap (fresh_states number) more
    ∙ ap (λ (k : ℕ). at_rest number [] ∷ fresh_states k (n - (number + 1))) next

-- a participant that keeps those that are left
abbrev pub left_over : Terms → ℕ → At
left_over t number = (keeping t (fresh_states number (t.clients - number)), [])

abbrev first_over : Terms → ℕ → At
first_over t number = (
  keeping t (at_rest number [] ∷ fresh_states (number + 1) (t.clients - (number + 1))),
  [],
)

left_first : (me : At) (t : Terms) (number : ℕ) → number < t.clients → me ≡ left_over t number
    → me ≡ first_over t number
left_first me t number low is = is
    ∙ ap (λ (ps : List ClientState). (keeping t ps, [])) (fresh_first number t.clients low)

-- keeps states
pub left_keeps : (me : At) (t : Terms) (number : ℕ) → me ≡ left_over t number → KeepsStates me.0
left_keeps me t number is = subst (λ (m : At). KeepsStates m.0) (sym is) refl

-- of which there is a first
pub left_some : (me : At) (t : Terms) (number : ℕ) → number < t.clients → me ≡ left_over t number
    → 0 < length me.0.states
left_some me t number low is = subst (λ (m : At). 0 < length m.0.states)
    (sym (left_first me t number low is)) (omega arith)

-- what is left then
left_then : (me me' : At) (t : Terms) (number : ℕ) → number < t.clients
    → me ≡ left_over t number → me' ≡ (keeping me.0.setup (other_states me.0.states), me.1)
    → me' ≡ left_over t (number + 1)
left_then me me' t number low is then' =
    then' ∙ ap (λ (m : At). (keeping m.0.setup (other_states m.0.states), m.1))
    (left_first me t number low is)

-- and what the new one keeps
dealt_then : (me me' : At) (t : Terms) (number : ℕ) → number < t.clients
    → me ≡ left_over t number
    → me' ≡ (keeping me.0.setup (first_state me.0.states ∷ []), [])
    → me' ≡ (resting t number [], [])
dealt_then me me' t number low is then' =
    then' ∙ ap (λ (m : At). (keeping m.0.setup (first_state m.0.states ∷ []), []))
    (left_first me t number low is)

-- a dealer keeps those that are left
pub keeps_left : (p : Participant) (t : Terms) (number : ℕ) → p.me ≡ left_over t number
    → number ≤ t.clients → IsOpened t.config t.opened → IsSized p.table_id → KeepsOthers p number
keeps_left p t number is some opened sized = record {
  states = subst (λ (m : At). m ≡ left_over m.0.setup number) (sym is) refl;
  some = subst (λ (m : At). number ≤ m.0.setup.clients) (sym is) some;
  opened = subst (λ (m : At). IsOpened m.0.setup.config m.0.setup.opened) (sym is) opened;
  sized = sized;
}

-- a client that nobody has used
new_rests : (p : Participant) (t : Terms) (number : ℕ) → p.me ≡ (resting t number [], [])
    → number < t.clients → IsOpened t.config t.opened → IsSized p.table_id → KeepsClient p
new_rests p t number is low opened sized = record {
  rest = subst IsAtRest (sym is) refl;
  client = subst (λ (m : At). IsClient (record {
    range = record { table = p.table_id; terms = m.0.setup };
    number = number_of m.0;
    seen = seen_of m.0;
  })) (sym is) (record { number = low; legal = record { opened = opened; follows = tt } });
  sized = sized;
}

new_view : (p : Participant) (t : Terms) (table : TableId) (number : ℕ) → p.table_id ≡ table
    → p.me ≡ (resting t number [], [])
    → client_view p ≡ new_client (record { table = table; terms = t }) number
new_view p t table number same is = λ i. record {
  range = record { table = same i; terms = (is i).0.setup };
  number = number_of (is i).0;
  seen = seen_of (is i).0;
}

-- a dealer that deals the next client
module _ (p p' q : Participant) (dealt : ℕ) (k : KeepsOthers p dealt)
    (low : dealt < p.me.0.setup.clients) (table : p'.table_id ≡ p.table_id)
    (others : p'.me ≡ (keeping p.me.0.setup (other_states p.me.0.states), p.me.1))
    (first : q.me ≡ (keeping p.me.0.setup (first_state p.me.0.states ∷ []), []))
    (of : q.table_id ≡ p.table_id) where
  left_is : p'.me ≡ left_over p.me.0.setup (dealt + 1)
  left_is = left_then p.me p'.me p.me.0.setup dealt low k.states others

  first_is : q.me ≡ (resting p.me.0.setup dealt [], [])
  first_is = dealt_then p.me q.me p.me.0.setup dealt low k.states first

  pub keeps_next : KeepsOthers p' (dealt + 1)
  keeps_next = keeps_left p' p.me.0.setup (dealt + 1) left_is (omega (arith, low)) k.opened
      (subst IsSized (sym table) k.sized)

  pub keeps_first : KeepsClient q
  keeps_first = new_rests q p.me.0.setup dealt first_is low k.opened
      (subst IsSized (sym of) k.sized)

  pub deals : Deals (dealer_view p dealt) (dealer_view p' (dealt + 1)) (client_view q)
  deals = record {
    some = low;
    client_is = new_view q p.me.0.setup p.table_id dealt of first_is;
    dealer = (λ i. record {
      range = record { table = table i; terms = (left_is i).0.setup };
      dealt = dealt + 1;
    }) ∙ ap (λ (n : ℕ). record { range = range_of p; dealt = n }) (omega arith);
  }

-- it takes part in its table
pub dealer_of : (p : Participant) (dealt : ℕ) (table : TableId) → KeepsOthers p dealt
    → p.table_id ≡ table → IsOf p table
dealer_of p dealt table k same = record { table = same; sized = subst IsSized same k.sized }

-- ---- coming together

-- a client keeps its state
pub rest_keeps : (me : At) → IsAtRest me → KeepsStates me.0
rest_keeps me rest = subst (λ (m : At). KeepsStates m.0) (sym rest) refl

-- and what has come together so far keeps the states of those clients, before others
pub taken_keeps : (all : At) (taken : List ClientView) (others : List ClientState)
    → all ≡ (keeping all.0.setup (map state_of_client taken ++ others), []) → KeepsStates all.0
taken_keeps all taken others is = subst (λ (m : At). KeepsStates m.0) (sym is) refl

-- the state of a client comes to the others
pub gathered_then : (me me' all : At) (client : ClientView) (taken : List ClientView)
    (others : List ClientState) → IsAtRest me
    → at_rest (number_of me.0) (seen_of me.0) ≡ state_of_client client
    → all ≡ (keeping all.0.setup (map state_of_client taken ++ others), [])
    → me' ≡ (keeping me.0.setup (me.0.states ++ all.0.states), me.1)
    → me' ≡ (keeping me'.0.setup (map state_of_client (client ∷ taken) ++ others), [])
gathered_then me me' all client taken others rest same alls then' =
    let setup : me'.0.setup ≡ me.0.setup = ap (λ m. m.0.setup) then' in
    then' ∙ (λ i. (keeping (sym setup i) ((rest i).0.states ++ (alls i).0.states), (rest i).1))
    ∙ ap (λ (p : ClientState). (
      keeping me'.0.setup
          (p ∷ (map state_of_client taken ++ others)),
      [],
    )) same
