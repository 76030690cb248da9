-- What an Add at a seat of either kind answers, by what its cache said.
use Rattle.std.proofs.Common.{◌≡◌, ◌∙◌, ◌⊎◌, refl, sym, ap, subst, inl, inr, ℕ, List, [], ◌∷◌, Bool, true, false}
use Rattle.std.specs.Prelude.{Option, Some, Result, Ok, Err, IfOk, IfErr, OnErr, IsErrOf}
use Rattle.tsc_time.specs.Time.{Time}
use Rattle.tsc_time.specs.ValueView.{ValueView}
use Rattle.tsc_span.specs.Span.{SpanView}
use Rattle.tsc_page_model.specs.Page.{Mark}
use Rattle.tsc_cache.specs.declared.added.Added.{Added}
use Rattle.tsc_cache.specs.ConfigView.{fits}
use Rattle.tsc_cache.specs.Batch.{all_fit}
use Rattle.tsc_shared.specs.Seats.{SeatView as SharedSeat}
use Rattle.tsc_shared.specs.declared.answers.Receipt.{Receipt}
use Rattle.tsc_shared.specs.declared.answers.TryAddFault.{TryAddFault}
use Rattle.tsc_shared.specs.Answers as shared
use Rattle.tsc_striped.specs.Seats.{SeatView as StripedSeat}
use Rattle.tsc_striped.specs.declared.answers.Receipt.{Receipt as StripedReceipt}
use Rattle.tsc_striped.specs.declared.answers.TryAddFault.{TryAddFault as StripedFault}
use Rattle.tsc_striped.specs.declared.answers.TryAddFault.TheVariants.{Busy, Refused}
use Rattle.tsc_striped.specs.declared.answers.AddFault.TheVariants.{SeatFull, NoMemory}
use Rattle.tsc_striped.specs.Answers as striped
use Rattle.tsc_striped.specs.Limits.{most_adds}
use Rattle.tsc_ffi_store.specs.declared.refusal.Refusal.{Refusal}
use Rattle.tsc_ffi_store.specs.declared.refusal.Refusal.TheVariants as refusal
use Rattle.tsc_ffi_store.specs.declared.seats.placed.Placed.{Placed}
use Rattle.tsc_ffi_store.specs.declared.seats.kinds.AnySeat.{AnySeat}
use Rattle.tsc_ffi_store.specs.declared.seats.kinds.AnySeat.TheVariants.{Shared, Striped}
use Rattle.tsc_ffi_store.specs.Decode.{AskedAdd, AskedBatch, NamesAdd}
use Rattle.tsc_ffi_store.specs.Marks.{NamesAddAll}
use Rattle.tsc_ffi_store.specs.Kinds.{ByKind, config_of}
use Rattle.tsc_ffi_store.specs.Asking.{AddsShared, AddsStriped, IsPlaced, IsPlacedInStripes}
use Rattle.tsc_ffi_store.specs.Asking.{one_mark}
use Rattle.tsc_ffi_store.specs.Asking.{LacksShared, LacksStriped}
use Rattle.tsc_ffi_store.specs.SeatCalls.{SeatAccepts, RefusesTried, KeepsOnRefusal, IsCodeOf}
use Rattle.tsc_ffi_store.specs.SeatCalls.{AnswersTriedAdd, AnswersTriedAddAll}
use Rattle.tsc_ffi_store.specs.StripedCalls.{StripedAccepts, RefusesInStripes, IsStripedCode}
use Rattle.tsc_ffi_store.specs.StripedCalls.{AnswersStripedTriedAdd, AnswersStripedTriedAll}
use Rattle.tsc_ffi_store.proofs.Trying.{why_refused}

-- ---- at a shared cache

pub record Accepted (reported : Result Receipt TryAddFault) (placed : Placed) : Type 0 where
  pub receipt : Receipt
  pub is : reported ≡ Ok receipt
  pub place : placed.place ≡ receipt.place
  pub added : placed.added ≡ receipt.added

accepted : (reported : Result Receipt TryAddFault) (placed : Placed) → IsPlaced reported (Ok placed)
    → Accepted reported placed
accepted (Ok receipt) placed is =
    record { receipt = receipt; is = refl; place = is.0; added = is.1 }
accepted (Err fault) placed is = absurd is

pub record Faulted (reported : Result Receipt TryAddFault) (why : Refusal) : Type 0 where
  pub fault : TryAddFault
  pub is : reported ≡ Err fault
  pub code : IsCodeOf fault why

faulted : (reported : Result Receipt TryAddFault) (why : Refusal) → IsPlaced reported (Err why)
    → Faulted reported why
faulted (Ok receipt) why is = absurd is
faulted (Err fault) why is = record { fault = fault; is = refl; code = is }

seat_accepts : (ms : List Mark) (now : Time) (fit : Bool) (tries : ℕ) (placed : Placed)
    (added : Added) (old new : SharedSeat) → placed.added ≡ added
    → AddsShared ms now fit tries old new (Ok placed)
    → SeatAccepts old new ms now placed.place added
seat_accepts ms now fit tries placed added old new same a =
    let t = accepted a.reported placed a.is in
    record {
      receipt = t.receipt;
      accepts = subst (λ (r : Result Receipt TryAddFault). IfOk r
          (λ receipt. shared.Accepts old new ms now receipt)) t.is a.answers.accepted;
      goes_on = a.answers.seat;
      place_is = t.place;
      added_is = sym same ∙ t.added;
    }

-- Why it was refused, where X says that the marks do not fit, and Y that they do.
seat_refuses : {X Y : Type 0} (ms : List Mark) (now : Time) (fit : Bool) (tries : ℕ) (why : Refusal)
    (old new : SharedSeat) → AddsShared ms now fit tries old new (Err why)
    → (fit ≡ false → why ≡ refusal.TooLarge → new ≡ old → X)
    → (fit ≡ true → RefusesTried why old new → Y) → X ⊎ Y
seat_refuses {X} {Y} ms now fit tries why old new a large tried =
    let t = faulted a.reported why a.is in
    let answers : shared.AnswersTriedAdd old new ms now fit (Some tries) (Err t.fault) =
    subst (λ (r : Result Receipt TryAddFault). shared.AnswersTriedAdd old new ms now fit
    (Some tries) r) t.is a.answers in
    why_refused why old new fit t.fault t.code answers.why answers.too_large large tried

seat_spared : (ms : List Mark) (now : Time) (fit : Bool) (tries : ℕ) (why : Refusal)
    (old new : SharedSeat) → AddsShared ms now fit tries old new (Err why)
    → KeepsOnRefusal old new
seat_spared ms now fit tries why old new a =
    let t = faulted a.reported why a.is in
    let answers : shared.AnswersTriedAdd old new ms now fit (Some tries) (Err t.fault) =
    subst (λ (r : Result Receipt TryAddFault). shared.AnswersTriedAdd old new ms now fit
    (Some tries) r) t.is a.answers in
    inr (record { goes_on = answers.seat; refuses = answers.refused })

-- ---- in stripes

pub record AcceptedInStripes (reported : Result StripedReceipt StripedFault) (placed : Placed) :
    Type 0 where
  pub receipt : StripedReceipt
  pub is : reported ≡ Ok receipt
  pub place_is : placed.place ≡ receipt.number
  pub added : placed.added ≡ receipt.added

accepted_in_stripes : (reported : Result StripedReceipt StripedFault) (placed : Placed)
    → IsPlacedInStripes reported (Ok placed) → AcceptedInStripes reported placed
accepted_in_stripes (Ok receipt) placed is =
    record { receipt = receipt; is = refl; place_is = is.0; added = is.1 }
accepted_in_stripes (Err fault) placed is = absurd is

pub record FaultedInStripes (reported : Result StripedReceipt StripedFault) (why : Refusal) : Type
    0 where
  pub fault : StripedFault
  pub is : reported ≡ Err fault
  pub code : IsStripedCode fault why

faulted_in_stripes : (reported : Result StripedReceipt StripedFault) (why : Refusal)
    → IsPlacedInStripes reported (Err why) → FaultedInStripes reported why
faulted_in_stripes (Ok receipt) why is = absurd is
faulted_in_stripes (Err fault) why is = record { fault = fault; is = refl; code = is }

striped_accepts : (ms : List Mark) (now : Time) (tries : ℕ) (placed : Placed) (added : Added)
    (old new : StripedSeat) → placed.added ≡ added → AddsStriped ms now tries old new (Ok placed)
    → StripedAccepts old new ms now placed.place added
striped_accepts ms now tries placed added old new same a =
    let t = accepted_in_stripes a.reported placed a.is in
    let accepts : striped.Accepts old new ms now t.receipt =
    subst (λ (r : Result StripedReceipt StripedFault). IfOk r
    (λ receipt. striped.Accepts old new ms now receipt)) t.is a.answers.accepted in
    record {
      receipt = t.receipt;
      accepts = accepts;
      goes_on = a.answers.seat;
      place_is = t.place_is ∙ accepts.number;
      added_is = sym same ∙ t.added;
    }

why_in_stripes : (why : Refusal) (old : StripedSeat) (fault : StripedFault)
    → IsStripedCode fault why → striped.TryRefusedFor old fault → RefusesInStripes why old
why_in_stripes why old Busy code reported = inr (inl (code, reported))
why_in_stripes why old (Refused SeatFull) code reported = inl (code, (λ can. can reported))
why_in_stripes why old (Refused NoMemory) code reported = inr (inr (code, reported))

striped_refuses : (ms : List Mark) (now : Time) (tries : ℕ) (why : Refusal)
    (old new : StripedSeat) → AddsStriped ms now tries old new (Err why)
    → RefusesInStripes why old
striped_refuses ms now tries why old new a =
    let t = faulted_in_stripes a.reported why a.is in
    why_in_stripes why old t.fault t.code
    (subst (λ (r : Result StripedReceipt StripedFault). IfErr r
    (λ fault. striped.TryRefusedFor old fault)) t.is a.answers.why)

striped_same : (ms : List Mark) (now : Time) (tries : ℕ) (why : Refusal) (old new : StripedSeat)
    → AddsStriped ms now tries old new (Err why) → new ≡ old
striped_same ms now tries why old new a =
    let t = faulted_in_stripes a.reported why a.is in
    subst (λ (r : Result StripedReceipt StripedFault). OnErr r (new ≡ old)) t.is a.answers.refused

-- ---- an Add of a span

abbrev pub TriesOne : SpanView → ValueView → Time → ℕ → AnySeat → AnySeat → Result Placed Refusal
    → Type 0
TriesOne span value now tries old new did = ByKind
    (λ x y (r : Result Placed Refusal). AddsShared (one_mark span value) now
    (fits x.cache.config span) tries x y r) (AddsStriped (one_mark span value) now tries) old new did

pub one_refused : (asked : AskedAdd) (span : SpanView) (value : ValueView) (now : Time) (tries : ℕ)
    (why : Refusal) (place : ℕ) (reported : Added) (old new : AnySeat) → NamesAdd asked span
    → fits (config_of old) span ≡ true → TriesOne span value now tries old new (Err why)
    → ByKind {A = Result (Unit {0}) Refusal} (AnswersTriedAdd asked place reported)
    (AnswersStripedTriedAdd asked place reported) old new (Err why)
one_refused asked span value now tries why place reported (Shared x) (Shared y) names fit a = record {
  added = tt;
  refused = seat_refuses (one_mark span value) now (fits x.cache.config span) tries why x y a
      (λ large code same. (
        inr (record { span = span; names = names; too_large = large; reported = code }),
        same,
      ))
      (λ does code. record { span = span; names = names; fit = does; reported = code });
  spared = seat_spared (one_mark span value) now (fits x.cache.config span) tries why x y a;
}
one_refused asked span value now tries why place reported (Shared x) (Striped y) names fit a =
    absurd a
one_refused asked span value now tries why place reported (Striped x) (Shared y) names fit a =
    absurd a
one_refused asked span value now tries why place reported (Striped x) (Striped y) names fit a =
    record {
      added = tt;
      refused = inr (inr (record {
        span = span;
        names = names;
        fit = fit;
        reported = striped_refuses (one_mark span value) now tries why x y a;
      }));
      unchanged = striped_same (one_mark span value) now tries why x y a;
    }

-- where there was no memory for a copy of what is added
pub one_lacks : (asked : AskedAdd) (span : SpanView) (why : Refusal) (place : ℕ) (reported : Added)
    (old new : AnySeat) → NamesAdd asked span → fits (config_of old) span ≡ true
    → ByKind LacksShared LacksStriped old new why
    → ByKind {A = Result (Unit {0}) Refusal} (AnswersTriedAdd asked place reported)
    (AnswersStripedTriedAdd asked place reported) old new (Err why)
one_lacks asked span why place reported (Shared x) (Shared y) names fit a = record {
  added = tt;
  refused = inr (record { span = span; names = names; fit = fit; reported = a.tried });
  spared = inr a.spared;
}
one_lacks asked span why place reported (Shared x) (Striped y) names fit a = absurd a
one_lacks asked span why place reported (Striped x) (Shared y) names fit a = absurd a
one_lacks asked span why place reported (Striped x) (Striped y) names fit a = record {
  added = tt;
  refused = inr (inr (record { span = span; names = names; fit = fit; reported = a.refuses }));
  unchanged = a.same;
}

-- ---- an Add of several marks

abbrev pub TriesAll : List Mark → Time → ℕ → AnySeat → AnySeat → Result Placed Refusal → Type 0
TriesAll ms now tries old new did = ByKind
    (λ x y (r : Result Placed Refusal). AddsShared ms now (all_fit x.cache.config ms) tries x y r)
    (AddsStriped ms now tries) old new did

pub all_added : (asked : AskedBatch) (ms : List Mark) (tries : ℕ) (placed : Placed)
    (reported : Added)
    (old new : AnySeat) → NamesAddAll asked ms → all_fit (config_of old) ms ≡ true
    → placed.added ≡ reported → TriesAll ms asked.moment tries old new (Ok placed)
    → ByKind {A = Result (Unit {0}) Refusal} (AnswersTriedAddAll asked placed.place reported)
    (AnswersStripedTriedAll asked placed.place reported) old new (Ok tt)
all_added asked ms tries placed reported (Shared x) (Shared y) names fit added a = record {
  added = record {
    marks = ms;
    names = names;
    fit = fit;
    accepted = seat_accepts ms asked.moment (all_fit x.cache.config ms) tries placed
        reported x y added a;
  };
  refused = tt;
  spared = tt;
}
all_added asked ms tries placed reported (Shared x) (Striped y) names fit added a = absurd a
all_added asked ms tries placed reported (Striped x) (Shared y) names fit added a = absurd a
all_added asked ms tries placed reported (Striped x) (Striped y) names fit added a = record {
  added = record {
    marks = ms;
    names = names;
    fit = fit;
    accepted = striped_accepts ms asked.moment tries placed reported x y added a;
  };
  refused = tt;
  unchanged = tt;
}

pub all_refused : (asked : AskedBatch) (ms : List Mark) (now : Time) (tries : ℕ)
    (why : Refusal) (place : ℕ) (reported : Added) (old new : AnySeat) → NamesAddAll asked ms
    → all_fit (config_of old) ms ≡ true → TriesAll ms now tries old new (Err why)
    → ByKind {A = Result (Unit {0}) Refusal} (AnswersTriedAddAll asked place reported)
    (AnswersStripedTriedAll asked place reported) old new (Err why)
all_refused asked ms now tries why place reported (Shared x) (Shared y) names fit a = record {
  added = tt;
  refused = seat_refuses ms now (all_fit x.cache.config ms) tries why x y a
      (λ large code same. (
        inr (record { marks = ms; names = names; too_large = large; reported = code }),
        same,
      ))
      (λ does code. record { marks = ms; names = names; fit = does; reported = code });
  spared = seat_spared ms now (all_fit x.cache.config ms) tries why x y a;
}
all_refused asked ms now tries why place reported (Shared x) (Striped y) names fit a = absurd a
all_refused asked ms now tries why place reported (Striped x) (Shared y) names fit a = absurd a
all_refused asked ms now tries why place reported (Striped x) (Striped y) names fit a = record {
  added = tt;
  refused = inr (inr (record {
    marks = ms;
    names = names;
    fit = fit;
    reported = striped_refuses ms now tries why x y a;
  }));
  unchanged = striped_same ms now tries why x y a;
}

-- where there was no memory for a copy of what is added
pub all_lacks : (asked : AskedBatch) (ms : List Mark) (why : Refusal) (place : ℕ) (reported : Added)
    (old new : AnySeat) → NamesAddAll asked ms → all_fit (config_of old) ms ≡ true
    → ByKind LacksShared LacksStriped old new why
    → ByKind {A = Result (Unit {0}) Refusal} (AnswersTriedAddAll asked place reported)
    (AnswersStripedTriedAll asked place reported) old new (Err why)
all_lacks asked ms why place reported (Shared x) (Shared y) names fit a = record {
  added = tt;
  refused = inr (record { marks = ms; names = names; fit = fit; reported = a.tried });
  spared = inr a.spared;
}
all_lacks asked ms why place reported (Shared x) (Striped y) names fit a = absurd a
all_lacks asked ms why place reported (Striped x) (Shared y) names fit a = absurd a
all_lacks asked ms why place reported (Striped x) (Striped y) names fit a = record {
  added = tt;
  refused = inr (inr (record { marks = ms; names = names; fit = fit; reported = a.refuses }));
  unchanged = a.same;
}
