-- What is told of a write of several spans, one after another.
use Rattle.std.proofs.Common.{arith, ◌≡◌, ◌∙◌, refl, sym, subst, inl, inr, ℕ, zero, suc, ◌+◌}
use Rattle.std.proofs.Common.{◌<◌, ◌≤◌}
use Rattle.std.proofs.Common.{List, [], ◌∷◌, length, get_or, drop, true, Option, Some, None}
use Rattle.std.proofs.Common.{IfSome}
use Rattle.std.specs.Prelude.{Result, Ok, Err, IfOk}
use Rattle.std.proofs.lemmas.List.{drop_more, drop_all}
use Rattle.std.proofs.lemmas.List.Elements.{Contains-get_or}
use Rattle.tsc_time.specs.Time.{Time, is_in_range}
use Rattle.tsc_time.specs.ValueView.{Owner}
use Rattle.tsc_time.proofs.TimeOrder.{is_before-itself}
use Rattle.tsc_span.specs.Span.{SpanView}
use Rattle.tsc_cache.specs.ConfigView.{ConfigView}
use Rattle.tsc_cache.specs.History.{History, state_of}
use Rattle.tsc_cache.specs.CacheView.{CacheView, RepresentsState, cache_answer}
use Rattle.tsc_shared.specs.Seats.{SeatView}
use Rattle.tsc_striped.specs.Seats.{SeatView as StripedSeat}
use Rattle.tsc_striped_leases.specs.StripedSeats.{striped_seat, striped_seat_laws, striped_seat_rests}
use Rattle.timestamp_cache.specs.Clear.{IsClearOf, IsClearOfAnswers, IsClearOfAllReads}
use Rattle.timestamp_cache.specs.Clear.{AsksInTurn, all_asked, none_reported, one_reported}
use Rattle.timestamp_cache.specs.Earliest.{ReportsEarliest}
use Rattle.timestamp_cache.specs.SeatKinds.{SeatKind, shared_seat}
use Rattle.timestamp_cache.specs.SeatLaws.{SeatLaws, shared_seat_laws, shared_seat_rests}
use Rattle.timestamp_cache.proofs.Earliest.{clear_later, one_more, none_more, clear_of_all_reads}
use Rattle.timestamp_cache.proofs.AskingAll.{asks_all}
use Rattle.tsc_ffi_store.specs.declared.ctypes.TscSpan.{TscSpan}
use Rattle.tsc_ffi_store.specs.declared.refusal.Refusal.{Refusal}
use Rattle.tsc_ffi_store.specs.Writes.{AskedWrite, IsSpan, AreSpans, RefusesSpan, RefusesSpans}
use Rattle.tsc_ffi_store.specs.Writes.{ReportsWrite, AsksWriteOf, RefusesWrite}
use Rattle.tsc_ffi_store.specs.WriteSteps.{ReportsLater, AsksLaterOf, AsksLater, AsksLaterStriped}
use Rattle.tsc_ffi_store.specs.WriteSteps.{AsksOfWrite, AsksOfWriteStriped}
use Rattle.tsc_ffi_store.specs.declared.seats.kinds.AnySeat.{AnySeat}
use Rattle.tsc_ffi_store.specs.declared.seats.kinds.AnySeat.TheVariants.{Shared, Striped}
use Rattle.tsc_ffi_store.specs.Kinds.{ByKind, IsAnySeat}
use Rattle.tsc_ffi_store.specs.StripedCalls.{LooksOn}
use Rattle.tsc_ffi_store.proofs.ByKinds.{by_same, by_kind_more}
use Rattle.tsc_ffi_store.proofs.AskedAtSeat.{never}
use Rattle.tsc_ffi_store.proofs.StripesRead.{looked_on}

-- ---- one span more in front of others

clear_both : (cache : CacheView) (s : SpanView) (rest : List SpanView) (by : Owner) (t : Time)
    → IsClearOf (cache_answer cache s) by t → IsClearOfAnswers cache rest by t → IsClearOfAnswers
    cache (s ∷ rest) by t
clear_both cache s rest by t first others zero d lt = first
clear_both cache s rest by t first others (suc k) d lt = others k d (omega arith)

clear_parts : (cache : CacheView) (s : SpanView) (rest : List SpanView) (by : Owner) (t : Time)
    → IsClearOfAnswers cache (s ∷ rest) by t → IsClearOf (cache_answer cache s) by t ×
    IsClearOfAnswers cache rest by t
clear_parts cache s rest by t clear = (
  clear 0 s (omega arith),
  λ k d lt. clear (suc k) d
      (omega arith),
)

-- what is told of the spans that are left, from a time on, if there is one so far
abbrev pub ReportsFrom : CacheView → List SpanView → Owner → Option Time → Option Time → Type 0
ReportsFrom cache rest by None reported = reported ≡ None
ReportsFrom cache rest by (Some from) reported = ReportsEarliest
    (λ t. IsClearOfAnswers cache rest by t) from reported

in_front : (cache : CacheView) (s : SpanView) (rest : List SpanView) (by : Owner)
    (time later reported : Option Time)
    → ReportsLater cache s by time later → ReportsFrom cache rest by later reported →
    ReportsFrom cache (s ∷ rest) by time reported
in_front cache s rest by None later reported is reports =
    let P : Option Time → Type 0 = λ l. ReportsFrom cache rest by l reported in
    subst P is reports
in_front cache s rest by (Some from) None reported never reports =
    let none : ReportsEarliest (λ t. IsClearOfAnswers cache (s ∷ rest) by t) from None =
    λ t there on clear. never t there on (clear_parts cache s rest by t clear).0 in
    subst (λ (o : Option Time). ReportsEarliest (λ t. IsClearOfAnswers cache (s ∷ rest) by t) from
    o)
    (sym reports) none
in_front cache s rest by (Some from) (Some at) None first none =
    none_more (λ t. IsClearOf (cache_answer cache s) by t) (λ t. IsClearOfAnswers cache rest by t)
    (λ t. IsClearOfAnswers cache (s ∷ rest) by t) from at
    (λ t. clear_parts cache s rest by t) first none
in_front cache s rest by (Some from) (Some at) (Some next) first second =
    one_more (λ t. IsClearOf (cache_answer cache s) by t) (λ t. IsClearOfAnswers cache rest by t)
    (λ t. IsClearOfAnswers cache (s ∷ rest) by t) from at next
    (λ t u on. clear_later (cache_answer cache s) by t u on) (λ t. clear_both cache s rest by t)
    (λ t. clear_parts cache s rest by t) first second

-- ---- in a loop

-- what is told of all
pub record ReportsAll (cache : CacheView) (keys : List ℕ) (words : List TscSpan) (by : Owner)
    (from : Time) (reported : Option Time) : Type 0 where
  pub spans : List SpanView
  pub are : AreSpans keys words spans
  pub earliest : ReportsEarliest (λ t. IsClearOfAnswers cache spans by t) from reported

-- So far: whatever the words that are left ask for, what is told of that from here on is told of
-- all.
pub record HasReported (cache : CacheView) (keys : List ℕ) (words left : List TscSpan) (by : Owner)
    (from : Time) (time : Option Time) : Type 0 where
  pub in_range : IfSome time (λ t. is_in_range t ≡ true)
  pub goes_on : (rest : List SpanView) (reported : Option Time) → AreSpans keys left rest →
      ReportsFrom cache rest by time reported → ReportsAll cache keys words by from reported

pub reported_none : (cache : CacheView) (keys : List ℕ) (words : List TscSpan) (by : Owner)
    (from : Time) → is_in_range from ≡ true → HasReported cache keys words words by from (Some from)
reported_none cache keys words by from range = record {
  in_range = range;
  goes_on = λ rest reported are reports. record
      { spans = rest; are = are; earliest = reports };
}

later_in_range : (cache : CacheView) (s : SpanView) (by : Owner) (time later : Option Time) →
    ReportsLater cache s by time later → IfSome later (λ t. is_in_range t ≡ true)
later_in_range cache s by time None reports = tt
later_in_range cache s by None (Some at) reports = absurd cc
later_in_range cache s by (Some from) (Some at) reports = reports.in_range

pub reported_more : (cache : CacheView) (keys : List ℕ) (words : List TscSpan) (i : ℕ) (d : TscSpan)
    (s : SpanView) (by : Owner) (from : Time) (time later : Option Time)
    → i < length words → IsSpan keys (get_or words i d) s → ReportsLater cache s by time later →
    HasReported cache keys words (drop i words) by from time → HasReported cache keys words
    (drop (i + 1) words) by from later
reported_more cache keys words i d s by from time later lt is reports so_far = record {
  in_range = later_in_range cache s by time later reports;
  goes_on = λ rest reported are on.
      so_far.goes_on (s ∷ rest) reported (subst (λ (ws : List TscSpan). AreSpans keys ws (s ∷ rest))
      (sym (drop_more words i d lt)) (is, are))
      (in_front cache s rest by time later reported reports on);
}

none_left : (cache : CacheView) (by : Owner) (time : Option Time) → IfSome time
    (λ t. is_in_range t ≡ true) → ReportsFrom cache [] by time time
none_left cache by None range = refl
none_left cache by (Some at) range = record {
  in_range = range;
  from_on = is_before-itself at;
  holds
      = λ k d lt. absurd (omega (arith, lt));
  least = λ t _ on _. on;
}

reads_of : (cache : CacheView) (spans : List SpanView) (by : Owner) (from : Time)
    (reported : Option Time) → ReportsEarliest (λ t. IsClearOfAnswers cache spans by t) from
    reported
    → IfSome reported (λ t. (config : ConfigView) (h : History) → RepresentsState cache config
    (state_of config h) → IsClearOfAllReads h spans by t)
reads_of cache spans by from None reports = tt
reads_of cache spans by from (Some at) reports = clear_of_all_reads cache spans by at reports.holds

pub reported_all : (cache : CacheView) (asked : AskedWrite) (i : ℕ) (time : Option Time) → length
    asked.spans ≤ i → HasReported cache asked.keys asked.spans (drop i asked.spans) asked.by
    asked.time time → ReportsWrite cache asked time
reported_all cache asked i time le so_far =
    let all = so_far.goes_on [] time (subst (λ (ws : List TscSpan). AreSpans asked.keys ws [])
    (sym (drop_all i asked.spans le)) tt) (none_left cache asked.by time so_far.in_range) in
    record {
      spans = all.spans;
      asked_for = all.are;
      earliest = all.earliest;
      reads = reads_of cache
          all.spans asked.by asked.time time all.earliest;
    }

-- where the words of one are refused, all are
pub one_refused : (why : Refusal) (keys : List ℕ) (words : List TscSpan) (i : ℕ) (d : TscSpan) → i <
    length words → RefusesSpan why keys (get_or words i d) → RefusesSpans why keys words
one_refused why keys words i d lt refused = (
  get_or words i d,
  Contains-get_or words i d lt,
  refused,
)

-- ---- at a seat

-- what a seat of some kind is told of the spans that are left
abbrev pub AsksFrom : {S : Type 0} → SeatKind S → Owner → S → S → List SpanView → Option Time
    → Option Time → Type 0
AsksFrom kind by old new rest None reported = (reported ≡ None) × (new ≡ old)
AsksFrom kind by old new rest (Some from) reported = AsksInTurn kind by old new rest from reported

asks_in_front : {S : Type 0} (kind : SeatKind S) (by : Owner) (old next new : S) (s : SpanView)
    (rest : List SpanView) (time later reported : Option Time)
    → AsksLaterOf kind old next s by time later → AsksFrom kind by next new rest later reported
    → AsksFrom kind by old new (s ∷ rest) time reported
asks_in_front kind by old next new s rest None later reported is asks =
    let at_none : AsksFrom kind by next new rest None reported = subst
    (λ (l : Option Time). AsksFrom kind by next new rest l reported) is.0 asks in
    (at_none.0, at_none.1 ∙ is.1)
asks_in_front {S} kind by old next new s rest (Some from) None reported first asks =
    let none : AsksInTurn kind by old next (s ∷ rest) from None =
    none_reported old next s rest from first in
    subst (λ (n : S). AsksInTurn kind by old n (s ∷ rest) from reported) (sym asks.1)
    (subst (λ (o : Option Time). AsksInTurn kind by old next (s ∷ rest) from o)
    (sym asks.0) none)
asks_in_front kind by old next new s rest (Some from) (Some at) reported first asks = one_reported
    old next new s rest from at reported first asks

pub record AsksAll {S : Type 0} (kind : SeatKind S) (old new : S) (keys : List ℕ)
    (words : List TscSpan) (by : Owner) (from : Time) (reported : Option Time) : Type 0 where
  pub spans : List SpanView
  pub are : AreSpans keys words spans
  pub turn : AsksInTurn kind by old new spans from reported

pub record HasAsked {S : Type 0} (kind : SeatKind S) (old now : S) (keys : List ℕ)
    (words left : List TscSpan) (by : Owner) (from : Time) (time : Option Time) : Type 0 where
  pub goes_on : (rest : List SpanView) (new : S) (reported : Option Time) → AreSpans keys left
      rest → AsksFrom kind by now new rest time reported →
      AsksAll kind old new keys words by from reported

pub asked_none : {S : Type 0} (kind : SeatKind S) (seat : S) (keys : List ℕ) (words : List TscSpan)
    (by : Owner) (from : Time)
    → HasAsked kind seat seat keys words words by from (Some from)
asked_none kind seat keys words by from = record {
  goes_on = λ rest new reported are asks. record
      { spans = rest; are = are; turn = asks };
}

pub asked_more : {S : Type 0} (kind : SeatKind S) (old now next : S) (keys : List ℕ)
    (words : List TscSpan) (i : ℕ)
    (d : TscSpan) (s : SpanView) (by : Owner) (from : Time) (time later : Option Time)
    → i < length words → IsSpan keys (get_or words i d) s → AsksLaterOf kind now next s by time later →
    HasAsked kind old now keys words (drop i words) by from time → HasAsked kind old next keys words
    (drop (i + 1) words) by from later
asked_more kind old now next keys words i d s by from time later lt is asks so_far = record {
  goes_on = λ rest new reported are on.
      so_far.goes_on (s ∷ rest) new reported (subst
      (λ (ws : List TscSpan). AreSpans keys ws (s ∷ rest)) (sym (drop_more words i d lt)) (is, are))
      (asks_in_front kind by now next new s rest time later reported asks on);
}

none_asked : {S : Type 0} (kind : SeatKind S) (by : Owner) (seat : S) (time : Option Time)
    → AsksFrom kind by seat seat [] time time
none_asked kind by seat None = (refl, refl)
none_asked kind by seat (Some at) = all_asked seat at

pub asked_all : {S : Type 0} (kind : SeatKind S) → SeatLaws kind → (old now : S)
    (asked : AskedWrite) (i : ℕ) (time : Option Time) → kind.GoesOn old old
    → length asked.spans ≤ i → HasAsked kind old now asked.keys asked.spans (drop i asked.spans) asked.by
    asked.time time → AsksWriteOf kind old now asked time
asked_all kind laws old now asked i time rests le so_far =
    let all = so_far.goes_on [] now time (subst (λ (ws : List TscSpan). AreSpans asked.keys ws [])
    (sym (drop_all i asked.spans le)) tt) (none_asked kind asked.by now time) in
    record {
      spans = all.spans;
      asked_for = all.are;
      asks = asks_all kind laws asked.by old now all.spans asked.time time rests all.turn;
    }

-- ---- at a seat of either kind

-- what a seat in stripes was told so far, which has looked, or is as it was
pub record HasAskedInStripes (old now : StripedSeat) (keys : List ℕ) (words left : List TscSpan)
    (by : Owner) (from : Time) (time : Option Time) : Type 0 where
  pub asked : HasAsked striped_seat old now keys words left by from time
  pub looked : LooksOn old now

abbrev pub HasAskedAny : AnySeat → AnySeat → List ℕ → List TscSpan → List TscSpan → Owner → Time
    → Option Time → Type 0
HasAskedAny old now keys words left by from time = ByKind
    (λ x y (t : Option Time). HasAsked shared_seat x y keys words left by from t)
    (λ x y (t : Option Time). HasAskedInStripes x y keys words left by from t) old now time

pub asked_none_any : (seat : AnySeat) (keys : List ℕ) (words : List TscSpan) (by : Owner)
    (from : Time) → HasAskedAny seat seat keys words words by from (Some from)
asked_none_any seat keys words by from =
    by_same (λ x y (t : Option Time). HasAsked shared_seat x y keys words words by from t)
    (λ x y (t : Option Time). HasAskedInStripes x y keys words words by from t) (Some from)
    (λ x. asked_none shared_seat x keys words by from)
    (λ x. record { asked = asked_none striped_seat x keys words by from; looked = inl refl }) seat

looks_later : (now next : StripedSeat) (s : SpanView) (by : Owner) (time later : Option Time)
    → AsksLaterOf striped_seat now next s by time later → LooksOn now next
looks_later now next s by None later asks = inl asks.1
looks_later now next s by (Some from) later asks =
    inr (record { goes_on = asks.goes_on; count = asks.count })

pub looks_further : (old now next : StripedSeat) → LooksOn old now → LooksOn now next
    → LooksOn old next
looks_further old now next (inl same) two =
    subst (λ (x : StripedSeat). LooksOn x next) same two
looks_further old now next (inr one) two = inr (looked_on old now next one two)

pub asked_more_any : (old now next : AnySeat) (keys : List ℕ) (words : List TscSpan) (i : ℕ)
    (d : TscSpan) (s : SpanView) (by : Owner) (from : Time) (time later : Option Time)
    → i < length words → IsSpan keys (get_or words i d) s
    → ByKind (AsksLater s by time) (AsksLaterStriped s by time) now next (Ok later)
    → HasAskedAny old now keys words (drop i words) by from time
    → HasAskedAny old next keys words (drop (i + 1) words) by from later
asked_more_any old now next keys words i d s by from time later lt is asks so_far =
    by_kind_more
    (λ x y (t : Option Time). HasAsked shared_seat x y keys words (drop i words) by from t)
    (λ x y (t : Option Time). HasAskedInStripes x y keys words (drop i words) by from t)
    (AsksLater s by time) (AsksLaterStriped s by time)
    (λ x y (t : Option Time). HasAsked shared_seat x y keys words (drop (i + 1) words) by from t)
    (λ x y (t : Option Time). HasAskedInStripes x y keys words (drop (i + 1) words) by from t)
    time (Ok later) later
    (λ x y z one two. asked_more shared_seat x y z keys words i d s by from time later lt is
    (subst (λ (r : Result (Option Time) Refusal). IfOk r
    (λ reported. AsksLaterOf shared_seat y z s by time reported)) (sym two.is) two.asks) one)
    (λ x y z one two. record {
      asked = asked_more striped_seat x y z keys words i d s by from time later lt is two.reported
          one.asked;
      looked = looks_further x y z one.looked (looks_later y z s by time later two.reported);
    }) old now next so_far asks

-- A lookup in stripes was refused. What a seat of a shared cache asks is never refused.
pub asked_busy_any : (old now next : AnySeat) (asked : AskedWrite) (left : List TscSpan)
    (s : SpanView) (time : Option Time) (why : Refusal)
    → ByKind (AsksLater s asked.by time) (AsksLaterStriped s asked.by time) now next (Err why)
    → HasAskedAny old now asked.keys asked.spans left asked.by asked.time time
    → ByKind (AsksOfWrite asked) (AsksOfWriteStriped asked) old next (Err why)
asked_busy_any old now next asked left s time why asks so_far =
    by_kind_more
    (λ x y (t : Option Time). HasAsked shared_seat x y asked.keys asked.spans left asked.by
    asked.time t)
    (λ x y (t : Option Time). HasAskedInStripes x y asked.keys asked.spans left asked.by
    asked.time t) (AsksLater s asked.by time) (AsksLaterStriped s asked.by time)
    (AsksOfWrite asked) (AsksOfWriteStriped asked) time (Err why) (Err why)
    (λ x y z one two. absurd (never two.reported why two.is))
    (λ x y z one two. record {
      reported = tt;
      refused = inr (two.refused.0, looks_further x y z one.looked (inl two.refused.1));
    }) old now next so_far asks

pub asked_all_any : (old now : AnySeat) (asked : AskedWrite) (i : ℕ) (time : Option Time)
    → IsAnySeat old → length asked.spans ≤ i
    → HasAskedAny old now asked.keys asked.spans (drop i asked.spans) asked.by asked.time time
    → ByKind (AsksOfWrite asked) (AsksOfWriteStriped asked) old now (Ok time)
asked_all_any (Shared old) (Shared now) asked i time is le so_far = record {
  reported = asked_all shared_seat shared_seat_laws old now asked i time (shared_seat_rests old is)
      le so_far;
  refused = tt;
  unchanged = tt;
}
asked_all_any (Shared old) (Striped now) asked i time is le so_far = absurd so_far
asked_all_any (Striped old) (Shared now) asked i time is le so_far = absurd so_far
asked_all_any (Striped old) (Striped now) asked i time is le so_far = record {
  reported = asked_all striped_seat striped_seat_laws old now asked i time
      (striped_seat_rests old is) le so_far.asked;
  refused = tt;
}

-- what a call says of a write is refused before the seat is asked
pub asked_nothing : (seat : AnySeat) (asked : AskedWrite) (why : Refusal) → RefusesWrite why asked
    → ByKind (AsksOfWrite asked) (AsksOfWriteStriped asked) seat seat (Err why)
asked_nothing seat asked why is =
    by_same (AsksOfWrite asked) (AsksOfWriteStriped asked) (Err why)
    (λ x. record { reported = tt; refused = is; unchanged = refl })
    (λ x. record { reported = tt; refused = inl (is, refl) }) seat
