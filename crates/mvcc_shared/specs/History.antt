-- The history of a range that threads share: what each call did, one call after another.
use Rattle.std.specs.Prelude.{◌≡◌, ℕ, ◌<◌, ◌==◌, List, [], ◌∷◌, ◌++◌, filter}
use Rattle.timestamp_cache.specs.Words.{Time, SpanView, ConfigView}
use Rattle.mvcc_range.specs.declared.range.Outcome.{Outcome}
use Rattle.mvcc_range.specs.declared.range.Outcome.TheVariants.{Committed, Restart}
use Rattle.mvcc_range.specs.Serial.{Transaction, moved}
use Rattle.mvcc_range.specs.Steps.{RangeView, IsOpened, IsSame, HandsOn, Collects}
use Rattle.mvcc_range.specs.Calls.{Reads, Ends}

-- What a call did. It read a span, by which a transaction became another one; or it ended a
-- transaction; or it handed the range on, with these settings; or it dropped what is of no use from
-- a time on; or it was refused.
pub data Call : Type 0 where
  has_read : (before after : Transaction) (span : SpanView) (now : Time) → Call
  has_ended : (t : Transaction) (now : Time) (outcome : Outcome) → Call
  has_handed_on : ConfigView → Call
  has_collected : Time → Call
  was_refused : Call

-- A call makes of a range what it does by the range's own contract. One that was refused leaves the
-- range as it was.
abbrev pub Makes : RangeView → Call → RangeView → Type 0
Makes old (has_read before after span now) new = Reads old new before after span now
Makes old (has_ended t now outcome) new = Ends old new t now outcome
Makes old (has_handed_on config) new = HandsOn config old new
Makes old (has_collected before) new = Collects old new before
Makes old was_refused new = IsSame old new

-- a call of a client, and the range after it
pub record Event : Type 0 where
  pub client : ℕ
  pub call : Call
  pub range : RangeView

-- calls in their order, the first of them first
abbrev pub History : Type 0
History = List Event

-- the calls of one client
abbrev pub calls_of : ℕ → History → History
calls_of number h = filter (λ e. e.client == number) h

-- the range after some calls
abbrev pub range_after : RangeView → History → RangeView
range_after range [] = range
range_after range (e ∷ h) = range_after e.range h

-- what the end of a transaction adds to the log: that transaction, at the time at which it
-- committed
abbrev pub entries_ended : Transaction → Outcome → List Transaction
entries_ended t (Committed at) = moved t at ∷ []
entries_ended t (Restart reason) = []

-- what a call adds to the log
abbrev pub entries_of : Call → List Transaction
entries_of (has_read before after span now) = []
entries_of (has_ended t now outcome) = entries_ended t outcome
entries_of (has_handed_on config) = []
entries_of (has_collected before) = []
entries_of was_refused = []

-- the transactions that committed in some calls, in the order in which they did
abbrev pub log_of : History → List Transaction
log_of [] = []
log_of (e ∷ h) = entries_of e.call ++ log_of h

-- a history begins with another where that one is a first part of it
abbrev pub BeginsWith : History → History → Type 0
BeginsWith h start = (rest : History) × (h ≡ start ++ rest)

-- Each call is of a client whose number is below a bound, and makes of the range before it what the
-- range is after it.
abbrev pub Follows : ℕ → RangeView → History → Type 0
Follows clients range [] = Unit {0}
Follows clients range (e ∷ h) = (e.client < clients) × Makes range e.call e.range
    × Follows clients e.range h

-- what was settled at the opening: how the range was set up, how many clients there are, and what
-- the range was then
pub record Terms : Type 0 where
  pub config : ConfigView
  pub clients : ℕ
  pub opened : RangeView

-- A history is legal where the range was opened as its terms say, and each call follows on those
-- before it.
pub record IsLegal (terms : Terms) (h : History) : Type 0 where
  pub opened : IsOpened terms.config terms.opened
  pub follows : Follows terms.clients terms.opened h
