-- What each call of a striped cache answers, and what its seat has seen then.
use Rattle.std.specs.Prelude.{◌≡◌, ◌≢◌, ℕ, suc, ◌-◌, ◌<◌, List, [], ◌∷◌, ◌++◌, length}
use Rattle.std.specs.Prelude.{◌⊎◌, All, count_by, ◌==◌, nat_lt, not, true, false, Option}
use Rattle.std.specs.Prelude.{Some, None, Result, IfOk, IfErr, OnOk, OnErr, IsErr, IsErrOf}
use Rattle.std.specs.Prelude.{if◌then◌else◌}
use Rattle.std.specs.List.{Contains}
use mathlib.Core.Option as maybe
use lib.ListN.{get_elem?}
use Rattle.tsc_time.specs.Time.{Time, is_before}
use Rattle.tsc_time.specs.ValueView.{Owner, ValueView}
use Rattle.tsc_time.specs.Joint.{IsAtMost}
use Rattle.tsc_span.specs.Span.{KeyBytes, SpanView, overlaps}
use Rattle.tsc_page_model.specs.Page.{Mark}
use Rattle.tsc_cache.specs.ConfigView.{ConfigView}
use Rattle.tsc_cache.specs.Counts.{figures_of}
use Rattle.tsc_cache.specs.CacheView.{CacheView}
use Rattle.tsc_cache.specs.Laws.{IsClearOf}
use Rattle.tsc_cache.specs.declared.figures.Figures.{Figures}
use Rattle.tsc_cache.specs.declared.history.Entry.{Entry}
use Rattle.tsc_cache.specs.History.{History, own_count, BeginsWith, IsLegal}
use Rattle.tsc_stripe_table.specs.Stripes.{Terms, stripe_count, state_on, IsStateOn}
use Rattle.tsc_striped.specs.declared.answers.OpenFault.{OpenFault}
use Rattle.tsc_striped.specs.declared.answers.OpenFault.TheVariants as refused
use Rattle.tsc_striped.specs.declared.answers.AddFault.{AddFault}
use Rattle.tsc_striped.specs.declared.answers.AddFault.TheVariants as fault
use Rattle.tsc_striped.specs.declared.answers.TryAddFault.{TryAddFault}
use Rattle.tsc_striped.specs.declared.answers.TryAddFault.TheVariants.{Busy, Refused}
use Rattle.tsc_striped.specs.declared.answers.Busy.{Busy as LockBusy}
use Rattle.tsc_striped.specs.declared.answers.Receipt.{Receipt}
use Rattle.tsc_striped.specs.declared.answers.Closed.{Closed}
use Rattle.tsc_striped.specs.declared.answers.Snapshot.{Snapshot}
use Rattle.tsc_striped.specs.Limits.{most_stripes, least_page_max, most_adds}
use Rattle.tsc_striped.specs.Touching.{are_in_order, first_touched, last_touched, IsTouched}
use Rattle.tsc_striped.specs.Looks.{look_over, added_over, StandFrom}
use Rattle.tsc_striped.specs.Seats.{StripedView, SeatView, FrontView, DealerView, IsSettled}
use Rattle.tsc_striped.specs.Seats.{IsSeat, new_seat}

-- A cache is opened with these settings, bounds, and that many seats, none of which is dealt.
pub record Opens (config : ConfigView) (bounds : List KeyBytes) (count : ℕ) (cache : StripedView)
    (dealer : DealerView) : Type 0 where
  pub terms : cache.terms ≡ record { config = config; seats = count; bounds = bounds }
  pub settled : IsSettled cache.terms
  pub dealer_is : dealer ≡ record { cache = cache; dealt = 0 }

-- Why no cache is opened: there are too many bounds, or they do not ascend, or the largest page is
-- too small, or else memory was refused.
abbrev pub open_fault : ConfigView → List KeyBytes → OpenFault
open_fault config bounds =
    if not (nat_lt (length bounds) most_stripes) then refused.TooManyStripes
    else if not (are_in_order bounds) then refused.BoundsOutOfOrder
    else if nat_lt config.page_max least_page_max then refused.PageTooSmall
    else refused.NoMemory

-- The next seat is dealt, which nobody has used.
pub record Deals (old new : DealerView) (seat : SeatView) : Type 0 where
  pub some : old.dealt < old.cache.terms.seats
  pub seat_is : seat ≡ new_seat old.cache old.dealt
  pub dealer : new ≡ record { cache = old.cache; dealt = suc old.dealt }

-- All seats are dealt, and the dealer stays as it is.
pub record DealsNone (old new : DealerView) : Type 0 where
  pub all : old.dealt ≡ old.cache.terms.seats
  pub same : new ≡ old

-- the entry that a seat's next Add of these marks makes
abbrev pub entry_by : SeatView → List Mark → Time → Entry
entry_by seat ms now = record { seat = seat.number; number = seat.count; marks = ms; now = now }

-- one mark by itself
abbrev pub one_mark : SpanView → ValueView → List Mark
one_mark span value = record { span = span; value = value } ∷ []

-- A seat stays who it is, and is as seats always are. What it has seen begins with what it had
-- seen.
pub record GoesOn (old new : SeatView) : Type 0 where
  pub cache : new.cache ≡ old.cache
  pub number : new.number ≡ old.number
  pub begins : BeginsWith new.seen old.seen
  pub is_seat : IsSeat new

-- An accepted Add of some marks: after a history that begins with all that the seat had seen stands
-- this one entry, with all of the marks, which is the last that the seat has seen then. The receipt
-- has the entry's number among the seat's own. What was added is the step from the state that the
-- history leaves on each stripe.
pub record Accepts (old new : SeatView) (ms : List Mark) (now : Time) (receipt : Receipt) : Type 0
  where
    pub before : History
    pub begins : BeginsWith before old.seen
    pub seen : new.seen ≡ before ++ entry_by old ms now ∷ []
    pub count : new.count ≡ suc old.count
    pub number : receipt.number ≡ old.count
    pub added : receipt.added ≡ added_over old.cache.terms before ms now
    pub front : receipt.front ≡ record { cache = old.cache; seen = new.seen }

-- a seat can count one more Add
abbrev pub CanCount : SeatView → Type 0
CanCount seat = seat.count ≢ most_adds

-- Why an Add was refused: the seat counts as many Adds as it can, or else it is said that memory
-- was refused, which no clause can check.
abbrev pub RefusedFor : SeatView → AddFault → Type 0
RefusedFor old fault.SeatFull = old.count ≡ most_adds
RefusedFor old fault.NoMemory = CanCount old

-- Why an Add that does not wait was refused: another seat held a lock at each try, or else as an
-- Add that waits.
abbrev pub TryRefusedFor : SeatView → TryAddFault → Type 0
TryRefusedFor old Busy = CanCount old
TryRefusedFor old (Refused fault) = RefusedFor old fault

-- What an Add of some marks at a moment answers at a seat. It is accepted, or refused for one of
-- the reasons: the seat is then as it was, and no history that it sees has that Add.
pub record AnswersAdd (old new : SeatView) (ms : List Mark) (now : Time)
    (result : Result Receipt AddFault) : Type 0 where
  pub accepted : IfOk result (λ receipt. Accepts old new ms now receipt)
  pub may : OnOk result (CanCount old)
  pub seat : GoesOn old new
  pub refused : OnErr result (new ≡ old)
  pub why : IfErr result (λ fault. RefusedFor old fault)

-- there is an end of the tries, and not one of them
abbrev pub IsNoTry : Option ℕ → Type 0
IsNoTry None = ⊥
IsNoTry (Some tries) = tries ≡ 0

-- What such an Add answers that gives up after `tries` tries, if these have an end. It is refused
-- without any try.
pub record AnswersTriedAdd (old new : SeatView) (ms : List Mark) (now : Time)
    (tries : Option ℕ) (result : Result Receipt TryAddFault) : Type 0 where
  pub accepted : IfOk result (λ receipt. Accepts old new ms now receipt)
  pub may : OnOk result (CanCount old)
  pub seat : GoesOn old new
  pub refused : OnErr result (new ≡ old)
  pub why : IfErr result (λ fault. TryRefusedFor old fault)
  pub no_tries : IsNoTry tries → CanCount old → IsErrOf result Busy

-- What a lookup answers is no less than any mark on the span of an entry that its seat has seen,
-- and no earlier than the floor of any stripe that the span touches. So a write that is clear of
-- the answer is clear of each read on the span that the seat has seen.
pub record IsAbove (seat : SeatView) (span : SpanView) (value : ValueView) : Type 0 where
  pub adds : (e : Entry) (m : Mark) → Contains seat.seen e → Contains e.marks m
      → overlaps m.span span ≡ true → IsAtMost m.value value
  pub floors : (stripe : ℕ) → IsTouched seat.cache.terms.bounds span stripe
      → is_before value.time (state_on seat.cache.terms stripe seat.seen).floor ≡ false
  pub clear : (writer : Owner) (time : Time) → IsClearOf value writer time
      → (e : Entry) (m : Mark) → Contains seat.seen e → Contains e.marks m
      → overlaps m.span span ≡ true → IsClearOf m.value writer time

-- What a lookup answers tells no part of an entry, in however many stripes that lies. Whatever
-- history goes on from what its seat has seen, as the one at closing does: each of its entries
-- either stands behind all that was seen, or was seen with all of its marks, and then the answer is
-- no less than any of them on the span.
abbrev pub ReportsNoPart : SeatView → SpanView → ValueView → Type 0
ReportsNoPart seat span value =
    (before after : History) (e : Entry) → BeginsWith (before ++ e ∷ after) seat.seen
    → BeginsWith before seat.seen
    ⊎ (BeginsWith seat.seen (before ++ e ∷ [])
    × ((m : Mark) → Contains e.marks m → overlaps m.span span ≡ true → IsAtMost m.value value))

-- A lookup answers from the states of all that the seat has seen then. It is above all of that, and
-- tells no part of an entry.
pub record AnswersLookup (old new : SeatView) (span : SpanView) (value : ValueView) : Type 0 where
  pub goes_on : GoesOn old new
  pub count : new.count ≡ old.count
  pub value_is : value ≡ look_over old.cache.terms new.seen span
  pub above : IsAbove new span value
  pub whole : ReportsNoPart new span value

-- What a call answers at a seat that gives it up after `tries` tries: what it answers else, or that
-- another seat held a lock at each of them, and then the seat is as it was. Without any try that is
-- always so.
pub record Tries {A : Type 0} (old new : SeatView) (tries : ℕ) (Answers : A → Type 0)
    (result : Result A LockBusy) : Type 0 where
  pub answered : IfOk result Answers
  pub busy : OnErr result (new ≡ old)
  pub no_tries : tries ≡ 0 → IsErr result

-- The floor of a stripe is that of its state after all that the seat has seen then.
pub record ReadsFloor (old new : SeatView) (stripe : ℕ) (time : Time) : Type 0 where
  pub goes_on : GoesOn old new
  pub count : new.count ≡ old.count
  pub time_is : time ≡ (state_on old.cache.terms stripe new.seen).floor

-- The figures of a stripe are those of its state after all that the seat has seen then.
pub record ReadsFigures (old new : SeatView) (stripe : ℕ) (figures : Figures) : Type 0 where
  pub goes_on : GoesOn old new
  pub count : new.count ≡ old.count
  pub figures_are : figures ≡ figures_of (state_on old.cache.terms stripe new.seen)

-- A snapshot has a copy for each stripe that a span touches. Each stands for the state of its
-- stripe after all that the seat has seen then.
pub record TakesSnapshot (old new : SeatView) (span : SpanView) (snapshot : Snapshot) : Type 0
  where
    pub goes_on : GoesOn old new
    pub count : new.count ≡ old.count
    pub first : snapshot.first ≡ first_touched old.cache.terms.bounds span
    pub all : length snapshot.caches.items
        ≡ suc (last_touched old.cache.terms.bounds span - snapshot.first)
    pub stand : StandFrom old.cache.terms new.seen snapshot.first snapshot.caches.items

-- Two seats meet: both have seen one history then, which begins with what each had seen.
pub record Meets (a b a' b' : SeatView) : Type 0 where
  pub first : GoesOn a a'
  pub second : GoesOn b b'
  pub first_count : a'.count ≡ a.count
  pub second_count : b'.count ≡ b.count
  pub same : a'.seen ≡ b'.seen

-- A seat has learned a front: what it has seen then begins with what it had seen, and with the
-- front's history.
pub record Learns (old new : SeatView) (front : FrontView) : Type 0 where
  pub goes_on : GoesOn old new
  pub count : new.count ≡ old.count
  pub begins : BeginsWith new.seen front.seen

-- There is a cache for each stripe, and it stands for the state that a history leaves there.
pub record AreStripes (terms : Terms) (history : History) (caches : List CacheView) : Type 0 where
  pub count : length caches ≡ stripe_count terms.bounds
  pub stands : (stripe : ℕ) (cache : CacheView) → get_elem? caches stripe ≡ maybe.some cache
      → IsStateOn terms stripe history cache

-- A cache ended with these seats, which are all that were dealt, and its stripes hold these caches.
-- There is one history, legal for the number of seats. What each seat has seen is a beginning of
-- it. It has exactly the accepted Adds of each seat, and none of a seat that was not dealt. The
-- caches stand for its states.
pub record Retires (dealer : DealerView) (seats : List SeatView) (caches : List CacheView) : Type 0
  where
    pub each : (number : ℕ) → number < dealer.dealt
        → count_by (λ (seat : SeatView). seat.number == number) seats ≡ 1
    pub history : History
    pub legal : IsLegal dealer.cache.terms.config dealer.dealt history
    pub begins : All (λ seat. BeginsWith history seat.seen) seats
    pub own : All (λ seat. own_count seat.number history ≡ seat.count) seats
    pub stripes : AreStripes dealer.cache.terms history caches

-- A cache that is closed ended so with the caches that closing gives.
abbrev pub Closes : DealerView → List SeatView → Closed → Type 0
Closes dealer seats closed = Retires dealer seats closed.caches.items
