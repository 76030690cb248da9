-- What can be seen of a striped cache, of its seats, of its dealer, and of its fronts.
use Rattle.std.specs.Prelude.{◌≡◌, ℕ, ◌<◌, ◌≤◌, true, [], length}
use Rattle.atomic_table.specs.Seated.{TableId}
use Rattle.tsc_cache.specs.History.{History, own_count, IsLegal}
use Rattle.tsc_cache.specs.ConfigView.{IsWithinLimits}
use Rattle.tsc_stripe_table.specs.Stripes.{Terms}
use Rattle.tsc_striped.specs.Limits.{most_stripes, least_page_max}
use Rattle.tsc_striped.specs.Touching.{are_in_order}

-- Which cache it is, by its table, and what was settled when it was opened: how each stripe is set
-- up, how many seats there are, and at which keys stripes begin.
pub record StripedView : Type 0 where
  pub table : TableId
  pub terms : Terms

-- A seat: its cache, its number, how many Adds of its own were accepted, and the history that it
-- has seen.
pub record SeatView : Type 0 where
  pub cache : StripedView
  pub number : ℕ
  pub count : ℕ
  pub seen : History

-- a front: its cache, and the history that it stands for
pub record FrontView : Type 0 where
  pub cache : StripedView
  pub seen : History

-- a dealer: its cache, and how many seats it has dealt
pub record DealerView : Type 0 where
  pub cache : StripedView
  pub dealt : ℕ

-- What was settled fits: the settings are within their limits, the largest page has room for any
-- span, and the bounds ascend and are not too many.
pub record IsSettled (terms : Terms) : Type 0 where
  pub limits : IsWithinLimits terms.config
  pub room : least_page_max ≤ terms.config.page_max
  pub in_order : are_in_order terms.bounds ≡ true
  pub few : length terms.bounds < most_stripes

-- What a seat always is: its number is one of those of the cache. It has seen a legal history,
-- which has exactly its own accepted Adds.
pub record IsSeat (s : SeatView) : Type 0 where
  pub number : s.number < s.cache.terms.seats
  pub legal : IsLegal s.cache.terms.config s.cache.terms.seats s.seen
  pub own : own_count s.number s.seen ≡ s.count
  pub settled : IsSettled s.cache.terms

-- a front stands for a legal history
pub record IsFront (f : FrontView) : Type 0 where
  pub legal : IsLegal f.cache.terms.config f.cache.terms.seats f.seen

-- a seat that nobody has used yet
abbrev pub new_seat : StripedView → ℕ → SeatView
new_seat cache number = record { cache = cache; number = number; count = 0; seen = [] }
