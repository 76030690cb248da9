-- The end of a cache.
use Rattle.std.proofs.Common.{◌≡◌, ◌∙◌, refl, sym, ap, subst, ℕ, zero, suc, ◌+◌, ◌-◌, ◌<◌, ◌≤◌}
use Rattle.std.proofs.Common.{List, [], ◌∷◌, ◌++◌, length, map, arith, inl, inr}
use Rattle.std.specs.Prelude.{slice_index_or, count_by, ◌==◌}
use Rattle.std.specs.List.{sum_by}
use mathlib.Core.Option as maybe
use lib.ListN.{get_elem?}
use Rattle.std.proofs.lemmas.Bool.Decides.{nat_tests}
use Rattle.std.proofs.lemmas.List.{length-append, length-map}
use Rattle.std.proofs.lemmas.List.Sums.{sum_by-cons, sum_by-append}
use Rattle.atomic_table.proofs.Lists.{at_index, at_map}
use Rattle.tsc_cache.specs.CacheView.{CacheView}
use Rattle.tsc_cache.specs.History.{own_count, IsLegal}
use Rattle.tsc_stripe_table.specs.declared.table.SeatState.{SeatState}
use Rattle.tsc_stripe_table.specs.Stripes.{Terms}
use Rattle.tsc_stripe_table.specs.declared.table.Knowledge.{Knowledge}
use Rattle.tsc_stripe_table.specs.Rule.{at_rest, one_if, keeping, fresh_states, times_held, holders}
use Rattle.tsc_stripe_table.specs.Steps.{At}
use Rattle.tsc_stripe_table.specs.Closing.{EndFits, IsEnd}
use Rattle.tsc_stripe_table.proofs.Prefixes.{own_append, own_of_one}
use Rattle.tsc_left_right.proofs.Plain.{at_left, at_right}
use Rattle.tsc_stripe_table.proofs.Openings.{nobody_fresh}
use Rattle.tsc_striped.specs.Seats.{DealerView, SeatView}
use Rattle.tsc_striped.specs.Keeping.{state_of_seat}
use Rattle.tsc_striped.specs.Answers.{Retires}
use Rattle.tsc_striped.proofs.Touches.{in_or_past}

-- the states of the seats that were dealt, and of those that were not
abbrev pub all_states : List SeatView → ℕ → ℕ → List SeatState
all_states seats dealt others = map state_of_seat seats ++ fresh_states dealt others

pub fresh_length : (from n : ℕ) → length (fresh_states from n) ≡ n
fresh_length from zero = refl
fresh_length from (suc n) = ap suc (fresh_length (suc from) n)

pub states_length : (seats : List SeatView) (dealt others : ℕ)
    → length (all_states seats dealt others) ≡ length seats + others
states_length seats dealt others = omega (
  arith,
  length-append (map state_of_seat seats) (fresh_states dealt others),
  length-map seats state_of_seat,
  fresh_length dealt others,
)

seats_hold_none : (stripe : ℕ) (seats : List SeatView)
    → sum_by (λ (p : SeatState). times_held stripe p.holds) (map state_of_seat seats) ≡ 0
seats_hold_none stripe [] = refl
seats_hold_none stripe (s ∷ seats) = omega (
  arith,
  sum_by-cons (λ (p : SeatState). times_held stripe p.holds) (state_of_seat s)
      (map state_of_seat seats),
  seats_hold_none stripe seats,
)

pub nobody_holds : (stripe : ℕ) (seats : List SeatView) (dealt others : ℕ)
    → sum_by (λ (p : SeatState). times_held stripe p.holds) (all_states seats dealt others) ≡ 0
nobody_holds stripe seats dealt others = omega (
  arith,
  sum_by-append (λ (p : SeatState). times_held stripe p.holds) (map state_of_seat seats)
      (fresh_states dealt others),
  seats_hold_none stripe seats,
  nobody_fresh stripe dealt others,
)

other_number : (a b : ℕ) → a < b → one_if (b == a) ≡ 0
other_number a b less = grind (arith, nat_tests)

-- seats that were not dealt have no lower numbers
fresh_above : (number from n : ℕ) → number < from
    → sum_by (λ (p : SeatState). one_if (p.number == number)) (fresh_states from n) ≡ 0
fresh_above number from zero low = refl
fresh_above number from (suc n) low = omega (
  arith,
  sum_by-cons (λ (p : SeatState). one_if (p.number == number)) (at_rest from [] 0)
      (fresh_states (suc from) n),
  other_number number from low,
  fresh_above number (suc from) n (omega (arith, low)),
)

-- seats are counted as their states are
count_in : (number : ℕ) (seats : List SeatView)
    → count_by (λ (seat : SeatView). seat.number == number) seats
    ≡ sum_by (λ (p : SeatState). one_if (p.number == number)) (map state_of_seat seats)
count_in number [] = refl
count_in number (s ∷ seats) =
    let first : count_by (λ (seat : SeatView). seat.number == number) (s ∷ seats)
    ≡ one_if (s.number == number) + count_by (λ (seat : SeatView). seat.number == number) seats
    = sum_by-cons (λ (seat : SeatView). one_if (seat.number == number)) s seats in
    omega (
      arith,
      first,
      sum_by-cons (λ (p : SeatState). one_if (p.number == number))
          (state_of_seat s) (map state_of_seat seats),
      count_in number seats,
    )

at_fresh : (from n j : ℕ) → j < n
    → get_elem? (fresh_states from n) j ≡ maybe.some (at_rest (from + j) [] 0)
at_fresh from zero j low = absurd (omega (arith, low))
at_fresh from (suc n) zero low =
    let same : from ≡ from + 0 = omega arith in
    ap (λ (k : ℕ). maybe.some (at_rest k [] 0)) same
at_fresh from (suc n) (suc j) low =
    let same : suc from + j ≡ from + suc j = omega arith in
    at_fresh (suc from) n j (omega (arith, low))
    ∙ ap (λ (k : ℕ). maybe.some (at_rest k [] 0)) same

-- the seats and the caches at the end
pub retires : (dealer : DealerView) (seats : List SeatView) (ps : List SeatState) (key : Terms)
    (caches : List CacheView) → key ≡ dealer.cache.terms
    → dealer.dealt ≤ dealer.cache.terms.seats
    → ps ≡ all_states seats dealer.dealt (dealer.cache.terms.seats - dealer.dealt)
    → IsEnd key ps caches → Retires dealer seats caches
retires dealer seats ps key caches same some is end_ =
    let e : IsEnd dealer.cache.terms (all_states seats dealer.dealt others) caches =
    subst (λ (t : Terms). IsEnd t (all_states seats dealer.dealt others) caches) same
    (subst (λ (qs : List SeatState). IsEnd key qs caches) is end_) in record {
      each = λ number low. count_in number seats ∙ each e number low;
      history = e.history;
      legal = legal e;
      begins = λ i d low. (at_seat e i d low).begins;
      own = λ i d low. (at_seat e i d low).own;
      stripes = record { count = e.count; stands = e.stands };
    }
  where
    others : ℕ
    others = dealer.cache.terms.seats - dealer.dealt

    End : Type 0
    End = IsEnd dealer.cache.terms (all_states seats dealer.dealt others) caches

    each : (e : End) (number : ℕ) → number < dealer.dealt
        → sum_by (λ (p : SeatState). one_if (p.number == number)) (map state_of_seat seats) ≡ 1
    each e number low = omega (
      arith,
      e.each number (omega (arith, low, some)),
      sum_by-append (λ (p : SeatState). one_if (p.number == number)) (map state_of_seat seats)
          (fresh_states dealer.dealt others),
      fresh_above number dealer.dealt others low,
    )

    get_same : (xs : List SeatView) (i : ℕ) (d : SeatView) → i < length xs
        → slice_index_or xs i d ≡ slice_index_or xs i (slice_index_or xs i d)
    get_same [] i d low = absurd (omega (arith, low))
    get_same (x ∷ xs) zero d low = refl
    get_same (x ∷ xs) (suc i) d low = get_same xs i d (omega (arith, low))

    at_seat : (e : End) (i : ℕ) (d : SeatView) → i < length seats
        → EndFits e.history (state_of_seat (slice_index_or seats i d))
    at_seat e i d low = e.fits i (state_of_seat (slice_index_or seats i d))
        (at_left (map state_of_seat seats) (fresh_states dealer.dealt others) i
        (state_of_seat (slice_index_or seats i d))
        (at_map state_of_seat seats i (slice_index_or seats i d)
        (at_index seats i (slice_index_or seats i d) low (get_same seats i d low))))

    undealt : (e : End) (number : ℕ) → dealer.dealt ≤ number → number < dealer.cache.terms.seats
        → own_count number e.history ≡ 0
    undealt e number high low =
        let j : ℕ = number - dealer.dealt in
        let there : dealer.dealt + j ≡ number = omega (arith, high) in
        let fits = e.fits (length (map state_of_seat seats) + j) (at_rest (dealer.dealt + j) [] 0)
        (at_right (map state_of_seat seats) (fresh_states dealer.dealt others) j
        ∙ at_fresh dealer.dealt others j (omega (arith, high, low))) in
        ap (λ (k : ℕ). own_count k e.history) (sym there) ∙ fits.own

    legal : (e : End) → IsLegal dealer.cache.terms.config dealer.dealt e.history
    legal e before f b = let next = e.legal before f b in record {
      seat = elim (in_or_past f.seat dealer.dealt) [
        | inl low ↦ low
        | inr high ↦ absurd (omega (
          arith,
          undealt e f.seat high next.seat,
          ap (own_count f.seat) b.1 ∙ own_append f.seat (before ++ f ∷ []) b.0,
          own_append f.seat before (f ∷ []),
          own_of_one f.seat f refl,
        ))
      ];
      number = next.number;
      made = next.made;
    }

-- the states that have come together
pub gathered_states : (all others : At) (seats : List SeatView) (dealt : ℕ)
    → all.0 ≡ keeping all.0.setup (map state_of_seat seats ++ others.0.states)
    → others ≡ (keeping others.0.setup (fresh_states dealt (others.0.setup.seats - dealt)), [])
    → all.0.states ≡ all_states seats dealt (others.0.setup.seats - dealt)
gathered_states all others seats dealt is left =
    ap (λ (v : Knowledge). v.states) is
    ∙ ap (λ (m : At). map state_of_seat seats ++ m.0.states) left

pub all_gathered : (ps : List SeatState) (seats : List SeatView) (dealt n : ℕ)
    → ps ≡ all_states seats dealt (n - dealt) → length seats ≡ dealt → dealt ≤ n → length ps ≡ n
all_gathered ps seats dealt n is long some =
    ap length is ∙ states_length seats dealt (n - dealt) ∙ omega (arith, long, some)

pub none_held : (stripe : ℕ) (v : Knowledge) (seats : List SeatView) (dealt others : ℕ)
    → v.states ≡ all_states seats dealt others → holders stripe v ≡ 0
none_held stripe v seats dealt others is =
    ap (λ (ps : List SeatState). sum_by (λ (p : SeatState). times_held stripe p.holds) ps) is
    ∙ nobody_holds stripe seats dealt others
