-- The end of the table: its caches are after one history, which fits all seats.
use Rattle.std.specs.Prelude.{◌≡◌, ◌<◌, ◌==◌, ℕ, List, length}
use Rattle.std.specs.List.{sum_by}
use mathlib.Core.Option as maybe
use lib.ListN.{get_elem?}
use Rattle.tsc_cache.specs.CacheView.{CacheView}
use Rattle.tsc_cache.specs.History.{History, own_count, BeginsWith, IsLegal}
use Rattle.tsc_stripe_table.specs.declared.table.SeatState.{SeatState}
use Rattle.tsc_stripe_table.specs.Stripes.{Terms, stripe_count, IsStateOn}
use Rattle.tsc_stripe_table.specs.Rule.{one_if}

-- What a seat has seen fits the history, which has all its Adds.
pub record EndFits (history : History) (p : SeatState) : Type 0 where
  pub begins : BeginsWith history p.seen
  pub own : own_count p.number history ≡ p.count

-- At the end each seat has one of these states, and there is a cache for each stripe. The caches
-- are after one history, which fits all states.
pub record IsEnd (setup : Terms) (states : List SeatState) (caches : List CacheView)
    : Type 0 where
  pub each : (number : ℕ) → number < setup.seats
      → sum_by (λ (p : SeatState). one_if (p.number == number)) states ≡ 1
  pub history : History
  pub legal : IsLegal setup.config setup.seats history
  pub count : length caches ≡ stripe_count setup.bounds
  pub stands : (stripe : ℕ) (cache : CacheView) → get_elem? caches stripe ≡ maybe.some cache
      → IsStateOn setup stripe history cache
  pub fits : (i : ℕ) (p : SeatState) → get_elem? states i ≡ maybe.some p → EndFits history p
