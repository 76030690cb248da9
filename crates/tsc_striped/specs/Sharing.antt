-- What becomes of the participant of a seat that copies the caches of stripes. (For private
-- contracts.)
use Rattle.std.specs.Prelude.{◌≡◌, ℕ, suc, ◌-◌, ◌≤◌, List, ◌++◌, length}
use Rattle.tsc_cache.specs.ConfigView.{ConfigView}
use Rattle.tsc_cache.specs.State.{CacheState}
use Rattle.tsc_cache.specs.CacheView.{CacheView, RepresentsState}
use Rattle.tsc_cache.specs.History.{History, own_count, BeginsWith, IsLegal}
use Rattle.tsc_stripe_table.specs.declared.table.SeatState.{SeatState}
use Rattle.tsc_stripe_table.specs.Stripes.{Terms}
use Rattle.tsc_stripe_table.specs.Steps.{At, number_of, seen_of, count_of, reached_of, holds_of}
use Rattle.tsc_stripe_table.specs.Steps.{state_in, with_state, reached_with, AgreeOn}
use Rattle.tsc_stripe_table.specs.Participating.{CanAcquire, IsStripe}
use Rattle.tsc_striped.specs.Looks.{StandFrom}

-- a copy stands for all that a cache stands for
abbrev pub IsCopy : CacheView → CacheView → Type 0
IsCopy cache copy = (config : ConfigView) (s : CacheState) → RepresentsState cache config s
    → RepresentsState copy config s

-- a seat that has seen this history, and reached it with the locks that it holds
abbrev pub with_seen : SeatState → History → SeatState
with_seen p h = record p { seen = h; reached = reached_with p.holds h }

-- A seat may copy the caches of the stripes from one to the last.
pub record CanShareFrom (me : At) (stripe last : ℕ) : Type 0 where
  pub acquire : CanAcquire me.0 stripe
  pub reached : reached_with (holds_of me.0) (reached_of me.0) ≡ reached_of me.0
  pub order : stripe ≤ last
  pub is_last : IsStripe me.0 last

-- The copies are of all stripes from the first to the last, and stand for what a history leaves
-- there.
pub record AreCopies (terms : Terms) (h : History) (first last : ℕ) (copies : List CacheView)
    : Type 0 where
  pub all : length copies ≡ suc (last - first)
  pub stand : StandFrom terms h first copies

-- A seat that holds locks has copied these caches, from a history for which the stripes that it
-- holds stand as before, and has seen that history.
pub record SharesFrom (me me' : At) (stripe last : ℕ) (old new : List CacheView) : Type 0 where
  pub history : History
  pub after : me' ≡ (with_state me.0 (with_seen (state_in me.0) history), me.1)
  pub begins : BeginsWith history (seen_of me.0)
  pub legal : IsLegal me.0.setup.config me.0.setup.seats history
  pub own : own_count (number_of me.0) history ≡ count_of me.0
  pub unchanged : AgreeOn me.0.setup.bounds (holds_of me.0) history (reached_of me.0)
  pub copies : List CacheView
  pub behind : new ≡ old ++ copies
  pub are : AreCopies me.0.setup history stripe last copies
