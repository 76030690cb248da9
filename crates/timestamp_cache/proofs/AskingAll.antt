-- What a seat is told of several spans.
use Rattle.std.proofs.Common.{◌≡◌, ◌∙◌, refl, sym, ap, subst, ℕ, zero, suc, ◌+◌, ◌<◌, ◌≤◌, List, [], ◌∷◌, length, get_or, drop, drop-cons, add-one, false, Option, Some, None, IfSome, arith}
use Rattle.std.proofs.Math.ListN.{drop_of_length-le}
use Rattle.tsc_time.specs.Time.{Time, is_before}
use Rattle.tsc_time.specs.ValueView.{Owner}
use Rattle.tsc_time.proofs.TimeOrder.{is_before-itself, no_earlier-transitive}
use Rattle.tsc_span.specs.Span.{SpanView}
use Rattle.tsc_cache.specs.History.{History, BeginsWith}
use Rattle.tsc_cache.proofs.Beginnings.{begins_itself, begins_entries}
use Rattle.timestamp_cache.specs.SeatKinds.{SeatKind, HasLookedOn}
use Rattle.timestamp_cache.specs.Clear.{IsClearOfReads, IsClearOfAllReads, AsksEarliestAt}
use Rattle.timestamp_cache.specs.Clear.{AsksInTurn, all_asked, none_reported, one_reported}
use Rattle.timestamp_cache.specs.Clear.{IsClearInTurn, all_clear, one_clear, IsClearOfLast}
use Rattle.timestamp_cache.specs.Clear.{AsksOfAllAt}
use Rattle.timestamp_cache.specs.SeatLaws.{SeatLaws}
use Rattle.timestamp_cache.proofs.Earliest.{clear_later}

-- ---- reads

-- What is clear of the reads of a history is clear of those of each beginning, and stays so at each
-- later time.
clear_still : (h start : History) (span : SpanView) (by : Owner) (at later : Time) →
    BeginsWith h start → is_before later at ≡ false → IsClearOfReads h span by at →
    IsClearOfReads start span by later
clear_still h start span by at later begins on clear e m there own over =
    clear_later m.value by at later on (clear e m (begins_entries h start e begins there) own over)

-- so it is with several spans
clear_first : (h start : History) (span : SpanView) (others : List SpanView) (by : Owner) (t : Time)
    → BeginsWith h start → IsClearOfReads start span by t → IsClearOfAllReads h others by t →
    IsClearOfAllReads start (span ∷ others) by t
clear_first h start span others by t begins first rest zero d below = first
clear_first h start span others by t begins first rest (suc k) d below =
    λ e m there own over. rest k d (omega (arith, below)) e m
    (begins_entries h start e begins there) own over

-- What is clear of each span in turn is clear of the last one in the end.
last_clear : (by : Owner) (t : Time) (h end : History) (spans : List SpanView) →
    IsClearInTurn by t h spans end → IsClearOfLast end spans by t
last_clear by t h end spans (all_clear seen) = tt
last_clear by t h end spans (one_clear before seen last span others begins clear (all_clear s))
    = clear
last_clear by t h end spans (one_clear before seen last span others begins clear
    (one_clear b s l next more on again rest)) =
    last_clear by t seen last (next ∷ more) (one_clear b s l next more on again rest)

last_of : (by : Owner) (h end : History) (spans : List SpanView) (reported : Option Time) →
    IfSome reported (λ t. IsClearInTurn by t h spans end) →
    IfSome reported (λ t. IsClearOfLast end spans by t)
last_of by h end spans None clear = tt
last_of by h end spans (Some t) clear = last_clear by t h end spans clear

-- and of all in the beginning
first_clear : (by : Owner) (t : Time) (h end : History) (spans : List SpanView) →
    IsClearInTurn by t h spans end → IsClearOfAllReads h spans by t
first_clear by t h end spans (all_clear seen) = λ k d below. absurd (omega (arith, below))
first_clear by t h end spans (one_clear before seen last span others begins clear rest) =
    clear_first seen before span others by t begins
    (λ e m there own over. clear e m (begins_entries seen before e begins there) own over)
    (first_clear by t seen last others rest)

first_of : (by : Owner) (h end : History) (spans : List SpanView) (reported : Option Time) →
    IfSome reported (λ t. IsClearInTurn by t h spans end) →
    IfSome reported (λ t. IsClearOfAllReads h spans by t)
first_of by h end spans None clear = tt
first_of by h end spans (Some t) clear = first_clear by t h end spans clear

-- ---- all that is told

-- all of it, from what is told in turn
reported_all : {S : Type 0} (kind : SeatKind S) (old new : S) (spans : List SpanView) (by : Owner)
    (from : Time) (reported : Option Time) → kind.GoesOn old new → kind.count new ≡ kind.count old →
    AsksInTurn kind by old new spans from reported
    → IfSome reported (λ t. is_before t from ≡ false) →
    IfSome reported (λ t. IsClearInTurn by t (kind.seen old) spans (kind.seen new)) →
    AsksOfAllAt kind old new spans by from reported
reported_all kind old new spans by from reported on count turn later clear = record {
  goes_on = on;
  count = count;
  in_turn = turn;
  from_on = later;
  each = clear;
  last = last_of by (kind.seen old) (kind.seen new) spans reported clear;
  reads = first_of by (kind.seen old) (kind.seen new) spans reported clear;
}

-- one span more in front
ahead : {S : Type 0} (kind : SeatKind S) (laws : SeatLaws kind) (old next new : S)
    (span : SpanView) (others : List SpanView) (by : Owner) (from at : Time)
    (reported : Option Time)
    → AsksEarliestAt kind old next span by from (Some at) →
    AsksOfAllAt kind next new others by at reported
    → AsksOfAllAt kind old new (span ∷ others) by from reported
ahead kind laws old next new span others by from at reported asks all =
    reported_all kind old new (span ∷ others) by from reported
    (laws.onward old next new asks.goes_on all.goes_on) (all.count ∙ asks.count)
    (one_reported old next new span others from at reported asks all.in_turn)
    (no_earlier reported all.from_on) (clear_there reported all.from_on all.each)
  where
    no_earlier : (o : Option Time) → IfSome o (λ t. is_before t at ≡ false) →
        IfSome o (λ t. is_before t from ≡ false)
    no_earlier None on = tt
    no_earlier (Some t) on = no_earlier-transitive from at t asks.earliest.from_on on

    clear_there : (o : Option Time) → IfSome o (λ t. is_before t at ≡ false) →
        IfSome o (λ t. IsClearInTurn by t (kind.seen next) others (kind.seen new)) →
        IfSome o (λ t. IsClearInTurn by t (kind.seen old) (span ∷ others) (kind.seen new))
    clear_there None on clear = tt
    clear_there (Some t) on clear =
        one_clear (kind.seen old) (kind.seen next) (kind.seen new) span others
        (laws.begins old next asks.goes_on)
        (clear_still (kind.seen next) (kind.seen next) span by at t
        (begins_itself (kind.seen next)) on asks.reads) clear

-- What a seat is told of spans in turn is all that it asks for.
pub asks_all : {S : Type 0} (kind : SeatKind S) (laws : SeatLaws kind) (by : Owner) (old new : S)
    (spans : List SpanView) (from : Time) (reported : Option Time) → kind.GoesOn old old →
    AsksInTurn kind by old new spans from reported → AsksOfAllAt kind old new spans by from reported
asks_all kind laws by old new spans from reported is (all_asked seat at) =
    reported_all kind seat seat [] by at (Some at) is refl (all_asked seat at) (is_before-itself at)
    (all_clear (kind.seen seat))
asks_all kind laws by old new spans from reported is (none_reported first last span others at asks)
    = reported_all kind first last (span ∷ others) by at None asks.goes_on asks.count
    (none_reported first last span others at asks) tt tt
asks_all kind laws by old new spans from reported is
    (one_reported first next last span others at later end asks rest) =
    ahead kind laws first next last span others by at later end asks
    (asks_all kind laws by next last others later end (laws.stays first next asks.goes_on) rest)

-- ---- one after another

-- So far: the seat has looked, and whatever the spans that are left tell from here on, all of them
-- tell from the beginning.
pub record HasAsked {S : Type 0} (kind : SeatKind S) (old now : S) (spans left : List SpanView)
    (by : Owner) (from at : Time) : Type 0 where
  pub looked : HasLookedOn kind old now
  pub goes_on : (new : S) (reported : Option Time) → AsksInTurn kind by now new left at reported →
      AsksInTurn kind by old new spans from reported

pub asked_none : {S : Type 0} (kind : SeatKind S) (seat : S) (spans : List SpanView) (by : Owner)
    (from : Time) → kind.GoesOn seat seat →
    HasAsked kind seat seat spans (drop 0 spans) by from from
asked_none kind seat spans by from is = record {
  looked = record { goes_on = is; count = refl };
  goes_on = λ new reported turn. turn;
}

left_from : (spans : List SpanView) (i : ℕ) (s : SpanView) → i < length spans →
    get_or spans i s ≡ s → drop i spans ≡ s ∷ drop (i + 1) spans
left_from spans i s there is = drop-cons spans i s there ∙ ap (λ x. x ∷ drop (suc i) spans) is ∙
    ap (λ n. s ∷ drop n spans) (sym (add-one i))

-- one more
pub asked_more : {S : Type 0} (kind : SeatKind S) (laws : SeatLaws kind) (old now next : S)
    (spans : List SpanView) (i : ℕ) (s : SpanView) (by : Owner) (from at later : Time)
    → i < length spans → get_or spans i s ≡ s
    → HasAsked kind old now spans (drop i spans) by from at →
    AsksEarliestAt kind now next s by at (Some later) →
    HasAsked kind old next spans (drop (i + 1) spans) by from later
asked_more kind laws old now next spans i s by from at later there is so_far asks = record {
  looked = record {
    goes_on = laws.onward old now next so_far.looked.goes_on asks.goes_on;
    count = asks.count ∙ so_far.looked.count;
  };
  goes_on = λ new reported turn. so_far.goes_on new reported
      (subst (λ (left : List SpanView). AsksInTurn kind by now new left at reported)
      (sym (left_from spans i s there is))
      (one_reported now next new s (drop (i + 1) spans) at later reported asks turn));
}

-- where there is no time for one more, there is none for all
pub asked_last : {S : Type 0} (kind : SeatKind S) (laws : SeatLaws kind) (old now new : S)
    (spans : List SpanView) (i : ℕ) (s : SpanView) (by : Owner) (from at : Time)
    → kind.GoesOn old old → i < length spans → get_or spans i s ≡ s
    → HasAsked kind old now spans (drop i spans) by from at →
    AsksEarliestAt kind now new s by at None → AsksOfAllAt kind old new spans by from None
asked_last kind laws old now new spans i s by from at seat there is so_far asks =
    asks_all kind laws by old new spans from None seat (so_far.goes_on new None
    (subst (λ (left : List SpanView). AsksInTurn kind by now new left at None)
    (sym (left_from spans i s there is)) (none_reported now new s (drop (i + 1) spans) at asks)))

-- until none is left
pub asked_all : {S : Type 0} (kind : SeatKind S) (laws : SeatLaws kind) (old new : S)
    (spans : List SpanView) (i : ℕ) (by : Owner) (from at : Time) → kind.GoesOn old old →
    length spans ≤ i → HasAsked kind old new spans (drop i spans) by from at →
    AsksOfAllAt kind old new spans by from (Some at)
asked_all kind laws old new spans i by from at seat past so_far =
    asks_all kind laws by old new spans from (Some at) seat
    (so_far.goes_on new (Some at)
    (subst (λ (left : List SpanView). AsksInTurn kind by new new left at (Some at))
    (sym (drop_of_length-le spans past)) (all_asked new at)))

-- where the lookup of one more is refused, the seat has looked at the others
pub asked_until : {S : Type 0} (kind : SeatKind S) (old now next : S) → next ≡ now →
    HasLookedOn kind old now → HasLookedOn kind old next
asked_until {S} kind old now next same looked =
    subst (λ (seat : S). HasLookedOn kind old seat) (sym same) looked

-- ---- of one span

-- Who asks of one span alone is told the earliest time from the one on that is clear of the answer
-- from all that the seat has seen then.
pub asked_of_one : {S : Type 0} (kind : SeatKind S) (old new : S) (span : SpanView) (by : Owner)
    (from : Time) (reported : Option Time) → AsksInTurn kind by old new (span ∷ []) from reported →
    AsksEarliestAt kind old new span by from reported
asked_of_one kind old new span by from reported (none_reported first last s others at asks) = asks
asked_of_one {S} kind old new span by from reported
    (one_reported first next last s others at later end asks rest) =
    no_more next last by later end first s at asks rest
  where
    no_more : (next last : S) (by : Owner) (later : Time) (end : Option Time) (first : S)
        (s : SpanView) (at : Time) → AsksEarliestAt kind first next s by at (Some later) →
        AsksInTurn kind by next last [] later end → AsksEarliestAt kind first last s by at end
    no_more next last by later end first s at asks (all_asked seat t) = asks
