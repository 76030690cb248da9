-- The Adds of all seats together are all Adds.
use Rattle.std.proofs.Common.{◌≡◌, ◌∙◌, refl, ap, subst, ℕ, suc, ◌+◌, ◌<◌, List, [], ◌∷◌, ◌++◌, length, All, arith}
use Rattle.std.specs.Prelude.{count_by, ◌==◌}
use Rattle.std.specs.List.{sum_by}
use mathlib.Core.Logic.{dite}
use native.Mathlib.Decide.{ℕ_discrete}
use Rattle.std.proofs.lemmas.Bool.Decides.{nat_tests}
use Rattle.std.proofs.lemmas.List.Sums.{sum_by-cons}
use Rattle.tsc_cache.specs.declared.history.Entry.{Entry}
use Rattle.tsc_cache.specs.ConfigView.{ConfigView}
use Rattle.tsc_cache.specs.History.{History, own_count, BeginsWith, IsLegal}
use Rattle.tsc_left_right.specs.Rule.{one_if}
use Rattle.tsc_shared.specs.Seats.{SeatView}

same_test : (a b : ℕ) → one_if (a == b) ≡ one_if (b == a)
same_test a b = dite (ℕ_discrete a b)
    (λ is. subst (λ (x : ℕ). one_if (a == x) ≡ one_if (x == a)) is refl)
    (λ isnt. grind (arith, nat_tests))

-- one entry more is one more for the seats with its number
one_more : (seats : List SeatView) (e : Entry) (h : History)
    → sum_by (λ (seat : SeatView). own_count seat.number (e ∷ h)) seats ≡
    count_by (λ (seat : SeatView). seat.number == e.seat) seats + sum_by
    (λ (seat : SeatView). own_count seat.number h) seats
one_more [] e h = refl
one_more (s ∷ seats) e h =
    let own : own_count s.number (e ∷ h) ≡ one_if (e.seat == s.number) + own_count s.number h =
    sum_by-cons (λ (f : Entry). one_if (f.seat == s.number)) e h in
    let first : count_by (λ (seat : SeatView). seat.number == e.seat) (s ∷ seats) ≡
    one_if (s.number == e.seat) + count_by (λ (seat : SeatView). seat.number == e.seat) seats
    = sum_by-cons (λ (seat : SeatView). one_if (seat.number == e.seat)) s seats in
    omega (
      arith,
      own,
      first,
      same_test e.seat s.number,
      one_more seats e h,
      sum_by-cons (λ (seat : SeatView). own_count seat.number (e ∷ h)) s seats,
      sum_by-cons (λ (seat : SeatView). own_count seat.number h) s seats,
    )

none_own : (seats : List SeatView) →
    sum_by (λ (seat : SeatView). own_count seat.number []) seats ≡ 0
none_own [] = refl
none_own (s ∷ seats) = omega (
  arith,
  sum_by-cons (λ (seat : SeatView). own_count seat.number []) s seats,
  none_own seats,
)

all_own : (seats : List SeatView) (n : ℕ) →
    ((number : ℕ) → number < n → count_by (λ (seat : SeatView). seat.number == number) seats ≡ 1)
    → (h : History) → ((before : History) (e : Entry) → BeginsWith h (before ++ e ∷ []) →
    e.seat < n) → sum_by (λ (seat : SeatView). own_count seat.number h) seats ≡ length h
all_own seats n each [] low = none_own seats
all_own seats n each (e ∷ h) low =
    let others = all_own seats n each h
    (λ before f b. low (e ∷ before) f (b.0, ap (λ (x : History). e ∷ x) b.1)) in
    omega (arith, one_more seats e h, each e.seat (low [] e (h, refl)), others)

as_counted : (h : History) (seats : List SeatView) →
    All (λ (seat : SeatView). own_count seat.number h ≡ seat.count) seats
    → sum_by (λ (seat : SeatView). seat.count) seats ≡
    sum_by (λ (seat : SeatView). own_count seat.number h) seats
as_counted h [] own = refl
as_counted h (s ∷ seats) own =
    omega (
      arith,
      sum_by-cons (λ (seat : SeatView). seat.count) s seats,
      sum_by-cons (λ (seat : SeatView). own_count seat.number h) s seats,
      own 0 s (omega arith),
      as_counted h seats (λ i d low. own (suc i) d (omega (arith, low))),
    )

-- where each seat is there once, and counts its own Adds of a legal history
pub all_counts : (config : ConfigView) (seats : List SeatView) (n : ℕ) →
    ((number : ℕ) → number < n → count_by (λ (seat : SeatView). seat.number == number) seats ≡ 1) →
    (h : History) → IsLegal config n h
    → All (λ (seat : SeatView). own_count seat.number h ≡ seat.count) seats →
    sum_by (λ (seat : SeatView). seat.count) seats ≡ length h
all_counts config seats n each h legal own = as_counted h seats own ∙
    all_own seats n each h (λ before e b. (legal before e b).seat)
