-- The end of a range, when all its clients have come together.
use Rattle.std.proofs.Common.{◌≡◌, ◌⊎◌, ◌∙◌, refl, sym, ap, subst, ℕ, zero, suc, ◌+◌, ◌-◌, ◌<◌}
use Rattle.std.proofs.Common.{◌≤◌, List, [], ◌∷◌, ◌++◌, length, map, arith, inl, inr, Bool, true, false}
use Rattle.std.specs.Prelude.{slice_index_or, count_by, ◌==◌, nat_lt}
use Rattle.std.specs.List.{sum_by}
use mathlib.Core.Option as maybe
use lib.ListN.{get_elem?}
use Rattle.std.proofs.lemmas.Bool.Decides.{nat_tests}
use Rattle.std.proofs.lemmas.List.{length-append, length-map}
use Rattle.std.proofs.lemmas.List.Sums.{sum_by-cons, sum_by-append}
use Rattle.atomic_table.proofs.Lists.{at_index, at_map}
use Rattle.mvcc_range.specs.Steps.{RangeView}
use Rattle.tsc_left_right.proofs.Plain.{at_left, at_right}
use Rattle.mvcc_shared.specs.declared.served.Served.{Served}
use Rattle.mvcc_shared.specs.declared.answers.Closed.{Closed}
use Rattle.mvcc_shared.specs.declared.table.ClientState.{ClientState}
use Rattle.mvcc_shared.specs.declared.table.Knowledge.{Knowledge}
use Rattle.mvcc_shared.specs.History.{History, Terms, Follows, calls_of, range_after, log_of}
use Rattle.mvcc_shared.specs.Rule.{at_rest, one_if, keeping, fresh_states, holders, StateFits}
use Rattle.mvcc_shared.specs.Steps.{At}
use Rattle.mvcc_shared.specs.Participating.{IsEnd}
use Rattle.mvcc_shared.specs.Clients.{DealerView, ClientView}
use Rattle.mvcc_shared.specs.Keeping.{state_of_client}
use Rattle.mvcc_shared.specs.Answers.{Closes}
use Rattle.mvcc_shared.proofs.Moves.{other_number}
use Rattle.mvcc_shared.proofs.Running.{is_serializable}
use Rattle.mvcc_shared.proofs.Openings.{fresh_before, fresh_hold_none, fresh_length}

-- the states of the clients that were dealt, and of those that were not
abbrev pub all_states : List ClientView → ℕ → ℕ → List ClientState
all_states clients dealt others = map state_of_client clients ++ fresh_states dealt others

states_length : (clients : List ClientView) (dealt others : ℕ)
    → length (all_states clients dealt others) ≡ length clients + others
states_length clients dealt others = omega (
  arith,
  length-append (map state_of_client clients) (fresh_states dealt others),
  length-map clients state_of_client,
  fresh_length dealt others,
)

-- none of them holds the lock
clients_hold_none : (clients : List ClientView)
    → sum_by (λ (p : ClientState). one_if p.holds) (map state_of_client clients) ≡ 0
clients_hold_none [] = refl
clients_hold_none (c ∷ clients) = omega (
  arith,
  sum_by-cons (λ (p : ClientState). one_if p.holds) (state_of_client c)
      (map state_of_client clients),
  clients_hold_none clients,
)

nobody_holds : (clients : List ClientView) (dealt others : ℕ)
    → sum_by (λ (p : ClientState). one_if p.holds) (all_states clients dealt others) ≡ 0
nobody_holds clients dealt others = omega (
  arith,
  sum_by-append (λ (p : ClientState). one_if p.holds) (map state_of_client clients)
      (fresh_states dealt others),
  clients_hold_none clients,
  fresh_hold_none dealt others,
)

-- clients are counted as their states are
count_in : (number : ℕ) (clients : List ClientView)
    → count_by (λ (client : ClientView). client.number == number) clients
    ≡ sum_by (λ (p : ClientState). one_if (p.number == number)) (map state_of_client clients)
count_in number [] = refl
count_in number (c ∷ clients) =
    let first : count_by (λ (client : ClientView). client.number == number) (c ∷ clients)
    ≡ one_if (c.number == number)
    + count_by (λ (client : ClientView). client.number == number) clients
    = sum_by-cons (λ (client : ClientView). one_if (client.number == number)) c clients in
    omega (
      arith,
      first,
      sum_by-cons (λ (p : ClientState). one_if (p.number == number))
          (state_of_client c) (map state_of_client clients),
      count_in number clients,
    )

at_fresh : (from n j : ℕ) → j < n
    → get_elem? (fresh_states from n) j ≡ maybe.some (at_rest (from + j) [])
at_fresh from zero j low = absurd (omega (arith, low))
at_fresh from (suc n) zero low =
    let same : from ≡ from + 0 = omega arith in
    ap (λ (k : ℕ). maybe.some (at_rest k [])) same
at_fresh from (suc n) (suc j) low =
    let same : suc from + j ≡ from + suc j = omega arith in
    at_fresh (suc from) n j (omega (arith, low))
    ∙ ap (λ (k : ℕ). maybe.some (at_rest k [])) same

-- no call is one of a client past the last
none_past : (n : ℕ) (r : RangeView) (h : History) (number : ℕ) → Follows n r h → n ≤ number
    → calls_of number h ≡ []
none_past n r [] number f high = refl
none_past n r (e ∷ h) number f high =
    let is : (e.client == number) ≡ false =
    other_number e.client number (λ same. omega (arith, same, f.0, high)) in
    rw is (none_past n e.range h number f.2 high)

below_or_not : (a b : ℕ) → (a < b) ⊎ (b ≤ a)
below_or_not a b = by_test (nat_lt a b) refl
  where
    by_test : (t : Bool) → nat_lt a b ≡ t → (a < b) ⊎ (b ≤ a)
    by_test true is = inl (grind (arith, nat_tests))
    by_test false is = inr (grind (arith, nat_tests))

-- the closed range
pub closes : (dealer : DealerView) (clients : List ClientView) (ps : List ClientState)
    (key : Terms) (served : Served) (closed : Closed) → key ≡ dealer.range.terms
    → dealer.dealt ≤ dealer.range.terms.clients
    → ps ≡ all_states clients dealer.dealt (dealer.range.terms.clients - dealer.dealt)
    → IsEnd key ps served → closed ≡ record { range = served.range; log = served.log }
    → Closes dealer clients closed
closes dealer clients ps key served closed same some is end_ closed_is =
    let e : End = subst (λ (t : Terms). IsEnd t all served) same
    (subst (λ (qs : List ClientState). IsEnd key qs served) is end_) in record {
      each = λ number low. count_in number clients ∙ each e number low;
      history = e.history;
      legal = e.legal;
      begins = λ i d low. (at_client e i d low).begins;
      own = λ i d low. (at_client e i d low).own;
      none = none e;
      range = range e;
      log = log e;
      serializable = is_serializable dealer.range.terms e.history closed.range closed.log.items
          e.legal (range e) (log e);
    }
  where
    others : ℕ
    others = dealer.range.terms.clients - dealer.dealt

    all : List ClientState
    all = all_states clients dealer.dealt others

    End : Type 0
    End = IsEnd dealer.range.terms all served

    range : (e : End) → closed.range ≡ range_after dealer.range.terms.opened e.history
    range e = ap (λ (c : Closed). c.range) closed_is ∙ e.stands.range

    log : (e : End) → closed.log.items ≡ log_of e.history
    log e = ap (λ (c : Closed). c.log.items) closed_is ∙ e.stands.log

    each : (e : End) (number : ℕ) → number < dealer.dealt
        → sum_by (λ (p : ClientState). one_if (p.number == number)) (map state_of_client clients)
        ≡ 1
    each e number low = omega (
      arith,
      e.each number (omega (arith, low, some)),
      sum_by-append (λ (p : ClientState). one_if (p.number == number))
          (map state_of_client clients) (fresh_states dealer.dealt others),
      fresh_before dealer.dealt others number low,
    )

    get_same : (xs : List ClientView) (i : ℕ) (d : ClientView) → i < length xs
        → slice_index_or xs i d ≡ slice_index_or xs i (slice_index_or xs i d)
    get_same [] i d low = absurd (omega (arith, low))
    get_same (x ∷ xs) zero d low = refl
    get_same (x ∷ xs) (suc i) d low = get_same xs i d (omega (arith, low))

    at_client : (e : End) (i : ℕ) (d : ClientView) → i < length clients
        → StateFits e.history (state_of_client (slice_index_or clients i d))
    at_client e i d low = e.fits i (state_of_client (slice_index_or clients i d))
        (at_left (map state_of_client clients) (fresh_states dealer.dealt others) i
        (state_of_client (slice_index_or clients i d))
        (at_map state_of_client clients i (slice_index_or clients i d)
        (at_index clients i (slice_index_or clients i d) low (get_same clients i d low))))

    none : (e : End) (number : ℕ) → dealer.dealt ≤ number → calls_of number e.history ≡ []
    none e number high = elim (below_or_not number dealer.range.terms.clients) [
      | inr past ↦ none_past dealer.range.terms.clients dealer.range.terms.opened e.history number
          e.legal.follows past
      | inl low ↦ (let j : ℕ = number - dealer.dealt in
          let there : dealer.dealt + j ≡ number = omega (arith, high) in
          let fits = e.fits (length (map state_of_client clients) + j)
          (at_rest (dealer.dealt + j) [])
          (at_right (map state_of_client clients) (fresh_states dealer.dealt others) j
          ∙ at_fresh dealer.dealt others j (omega (arith, high, low))) in
          ap (λ (k : ℕ). calls_of k e.history) (sym there) ∙ fits.own)
    ]

-- the states that have come together
pub gathered_states : (all others : At) (clients : List ClientView) (dealt : ℕ)
    → all.0 ≡ keeping all.0.setup (map state_of_client clients ++ others.0.states)
    → others ≡ (keeping others.0.setup (fresh_states dealt (others.0.setup.clients - dealt)), [])
    → all.0.states ≡ all_states clients dealt (others.0.setup.clients - dealt)
gathered_states all others clients dealt is left =
    ap (λ (v : Knowledge). v.states) is
    ∙ ap (λ (m : At). map state_of_client clients ++ m.0.states) left

pub all_gathered : (ps : List ClientState) (clients : List ClientView) (dealt n : ℕ)
    → ps ≡ all_states clients dealt (n - dealt) → length clients ≡ dealt → dealt ≤ n
    → length ps ≡ n
all_gathered ps clients dealt n is long some =
    ap length is ∙ states_length clients dealt (n - dealt) ∙ omega (arith, long, some)

pub none_held : (v : Knowledge) (clients : List ClientView) (dealt others : ℕ)
    → v.states ≡ all_states clients dealt others → holders v ≡ 0
none_held v clients dealt others is =
    ap (λ (ps : List ClientState). sum_by (λ (p : ClientState). one_if p.holds) ps) is
    ∙ nobody_holds clients dealt others
