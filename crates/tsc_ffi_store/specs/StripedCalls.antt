-- What a call makes of a cache in stripes, or of a seat of one, and why it is refused.
use Rattle.std.specs.Prelude.{◌≡◌, ◌≢◌, ◌⊎◌, ◌++◌, ◌∷◌, ◌+◌, ◌-◌, ◌<◌, ◌≤◌, ◌^◌, ℕ, zero, suc}
use Rattle.std.specs.Prelude.{List, [], map, length, true, false, Bool, Option, Some, None}
use Rattle.std.specs.Prelude.{Result, Ok, Err, IfOk, IfErr, IsOk, OnErr, IsTrue, ◌↔◌}
use Rattle.std.specs.List.{sum_by, concat, Contains}
use Rattle.tsc_time.specs.Time.{Time}
use Rattle.tsc_time.specs.ValueView.{ValueView}
use Rattle.tsc_span.specs.Span.{KeyBytes, SpanView, longest_key}
use Rattle.tsc_page_model.specs.Page.{Mark}
use Rattle.tsc_cache.specs.declared.added.Added.{Added}
use Rattle.tsc_cache.specs.declared.figures.Figures.{Figures}
use Rattle.tsc_cache.specs.Counts.{up_to_end}
use Rattle.tsc_cache.specs.ConfigView.{ConfigView, fits}
use Rattle.tsc_cache.specs.Batch.{all_fit}
use Rattle.tsc_stripe_table.specs.Stripes.{stripe_count}
use Rattle.tsc_striped.specs.declared.answers.Receipt.{Receipt}
use Rattle.tsc_striped.specs.declared.answers.OpenFault.{OpenFault}
use Rattle.tsc_striped.specs.declared.answers.OpenFault.TheVariants as opening
use Rattle.tsc_striped.specs.declared.answers.AddFault.TheVariants as fault
use Rattle.tsc_striped.specs.declared.answers.TryAddFault.{TryAddFault}
use Rattle.tsc_striped.specs.declared.answers.TryAddFault.TheVariants as tried
use Rattle.tsc_striped.specs.Seats.{StripedView, SeatView}
use Rattle.tsc_striped.specs.Limits.{most_stripes}
use Rattle.tsc_striped.specs.Answers.{GoesOn, Accepts, AnswersLookup, ReadsFloor, ReadsFigures, CanCount}
use Rattle.tsc_striped.specs.Answers.{open_fault}
use Rattle.tsc_striped_leases.specs.StripedSeats.{striped_seat}
use Rattle.tsc_striped_leases.specs.Leases.{HasLookedOn, SummarizesInStripes}
use Rattle.tsc_striped_leases.specs.Merging.{merged, earlier, last_time}
use Rattle.timestamp_cache.specs.SummaryBytes.{summary_bytes}
use Rattle.timestamp_cache.specs.SummaryReading.{summary_of}
use Rattle.timestamp_cache.specs.HandOver.{Summary}
use Rattle.tsc_ffi_store.specs.declared.ctypes.TscFigures.{TscFigures}
use Rattle.tsc_ffi_store.specs.declared.counts.Counts.{Counts}
use Rattle.tsc_ffi_store.specs.declared.refusal.Refusal.{Refusal}
use Rattle.tsc_ffi_store.specs.declared.refusal.Refusal.TheVariants as refusal
use Rattle.tsc_ffi_store.specs.Decode.{AskedSpan, AskedAdd, AskedBatch, lookup_span}
use Rattle.tsc_ffi_store.specs.Decode.{NamesAdd, NamesAddSpan, figures_reported, RefusesEnds, RefusesNamed}
use Rattle.tsc_ffi_store.specs.Marks.{NamesAddAll, RefusesBatch}
use Rattle.tsc_ffi_store.specs.CacheCalls.{IsTooLarge, AreTooLarge}
use Rattle.tsc_ffi_store.specs.Writes.{AskedWrite, AsksWriteOf, RefusesWrite}
use Rattle.tsc_ffi_store.specs.Summaries.{AskedSummary, RefusesSummary}
use Rattle.tsc_ffi_store.specs.declared.store.Slot.{Slot}
use Rattle.tsc_ffi_store.specs.declared.store.Slot.TheVariants.{Shared, Seat}
use Rattle.tsc_ffi_store.specs.Decode.{AskedConfig, NamesConfig, RefusesConfig}
use Rattle.tsc_ffi_store.specs.Store.{RefusesHandles}
use Rattle.tsc_ffi_store.specs.Owners.{OwnerView, handle_of, IsStriped}
use Rattle.tsc_ffi_store.specs.declared.counts.CountedSeat.{CountedSeat}
use Rattle.tsc_ffi_store.specs.Counts.{CountsNothing}
use Rattle.tsc_ffi_store.specs.SeatCalls.{unasked, AnswersSeatFigures}
use Rattle.tsc_ffi_store.specs.Kinds.{ByKind, new_any_seats}

-- ---- opening

-- The bounds that a call names: its bytes, cut into keys of these lengths, one behind another.
pub record AreBounds (keys lens : List ℕ) (bounds : List KeyBytes) : Type 0 where
  pub all : concat bounds ≡ keys
  pub lengths : map length bounds ≡ lens

-- One of the lengths is above that of the longest key.
pub record IsOneTooLong (lens : List ℕ) : Type 0 where
  pub one : ℕ
  pub there : Contains lens one
  pub long : longest_key < one

-- There are not too many lengths, and they use up the bytes.
pub record UseUp (keys lens : List ℕ) : Type 0 where
  pub few : length lens < most_stripes
  pub whole : sum_by (λ n. n) lens ≡ length keys

-- Why they do not: there are too many, or they come to something else.
abbrev pub RefusesLengths : Refusal → List ℕ → List ℕ → Type 0
RefusesLengths why keys lens =
    ((why ≡ refusal.Stripes) × (length lens < most_stripes → ⊥))
    ⊎ ((why ≡ refusal.Outside) × (sum_by (λ n. n) lens ≢ length keys))

-- Why there are no copies of the bounds: one is too long, or memory was refused. Whether a later
-- one is too long, or not above the one before it, is not known then.
abbrev pub RefusesBounds : Refusal → List ℕ → Type 0
RefusesBounds why lens = ((why ≡ refusal.KeyTooLong) × IsOneTooLong lens) ⊎ (why ≡ refusal.NoMemory)

-- why no cache is opened, and what C is told
abbrev pub IsOpenCode : OpenFault → Refusal → Type 0
IsOpenCode opening.TooManyStripes why = why ≡ refusal.Stripes
IsOpenCode opening.BoundsOutOfOrder why = why ≡ refusal.Bounds
IsOpenCode opening.PageTooSmall why = why ≡ refusal.PageSize
IsOpenCode opening.NoMemory why = why ≡ refusal.NoMemory

-- Why a cache with these settings and the bounds that are named was not opened: by the bounds
-- themselves, or as a cache in stripes refuses them.
pub record RefusesStripes (why : Refusal) (config : ConfigView) (keys lens : List ℕ) : Type
    0 where
  pub bounds : List KeyBytes
  pub named : AreBounds keys lens bounds
  pub reported : IsOpenCode (open_fault config bounds) why

-- A cache in stripes is opened at the next handle, and its seats, which nobody has used, at the
-- handles behind it, in their order. All that was given stays.
pub record OpensAtBounds (old new : List Slot) (handle : ℕ) (config : ConfigView) (count : ℕ)
    (bounds : List KeyBytes) : Type 0 where
  pub owner : OwnerView
  pub next : handle ≡ length old
  pub given : new ≡ old ++ Shared owner ∷
      map (λ s. Seat (unasked handle (handle_of owner.returns s))) (new_any_seats owner.cache 0
      count)
  pub cache : IsStriped config count bounds owner.cache
  pub none_back : owner.back ≡ []
  pub none_missed : owner.missed ≡ []

-- The same with the bounds that a call names.
pub record OpensStriped (old new : List Slot) (handle : ℕ) (config : ConfigView) (count : ℕ)
    (keys lens : List ℕ) : Type 0 where
  pub bounds : List KeyBytes
  pub named : AreBounds keys lens bounds
  pub opens : OpensAtBounds old new handle config count bounds

-- A cache in stripes has some seat.
abbrev pub RefusesNoSeats : Refusal → ℕ → Type 0
RefusesNoSeats why count = (why ≡ refusal.Seats) × (count ≡ 0)

-- Why a call names no cache in stripes, as far as its numbers tell.
abbrev pub RefusesNumbers : Refusal → ℕ → List ℕ → List ℕ → Type 0
RefusesNumbers why count keys lens = RefusesNoSeats why count ⊎ RefusesLengths why keys lens

-- There is some seat, the lengths use up the bytes, and there are handles for all. But the bounds
-- were refused, or the cache.
pub record RefusesStripesOf (why : Refusal) (old : List Slot) (config : ConfigView) (count : ℕ)
    (keys lens : List ℕ) : Type 0 where
  pub some : 0 < count
  pub use_up : UseUp keys lens
  pub handles : length old + (count + 1) ≤ 2 ^ 64 - 1
  pub refused : RefusesBounds why lens ⊎ RefusesStripes why config keys lens

-- Why a cache in stripes with these settings was not opened.
abbrev pub RefusesOpenStriped : Refusal → List Slot → ConfigView → ℕ → List ℕ → List ℕ → Type 0
RefusesOpenStriped why old config count keys lens =
    RefusesNumbers why count keys lens ⊎ RefusesHandles why old (count + 1)
    ⊎ RefusesStripesOf why old config count keys lens

-- What a call does that opens a cache in stripes, at the next handle.
pub record AnswersOpenStriped {A : Type 0} (asked : AskedConfig) (count : ℕ) (keys lens : List ℕ)
    (handle : ℕ) (old new : List Slot) (did : Result A Refusal) : Type 0 where
  pub opened : IfOk did (λ _. (config : ConfigView) × NamesConfig asked config ×
      OpensStriped old new handle config count keys lens)
  pub refused : IfErr did (λ why. RefusesConfig why asked ⊎ ((config : ConfigView) ×
      NamesConfig asked config × RefusesOpenStriped why old config count keys lens))
  pub unchanged : OnErr did (new ≡ old)

-- ---- lookups

-- A seat is as it was, or has looked.
abbrev pub LooksOn : SeatView → SeatView → Type 0
LooksOn old new = (new ≡ old) ⊎ HasLookedOn old new

-- Another seat held a lock at each try, and the seat is as it was.
abbrev pub IsLocked : Refusal → SeatView → SeatView → Type 0
IsLocked why old new = (why ≡ refusal.Busy) × (new ≡ old)

-- What a seat answers to the span that a call names, after all that it has seen then, which has
-- `seen` Adds of its own.
pub record StripedLooks (old new : SeatView) (asked : AskedSpan) (seen : ℕ) (v : ValueView) : Type
    0 where
  pub span : SpanView
  pub asked_for : lookup_span asked ≡ Some span
  pub looks : AnswersLookup old new span v
  pub counted : seen ≡ new.count

-- What a lookup at a seat answers.
pub record AnswersStripedLookup {A : Type 0} (asked : AskedSpan) (seen : ℕ) (v : ValueView)
    (old new : SeatView) (did : Result A Refusal) : Type 0 where
  pub looked : IfOk did (λ _. StripedLooks old new asked seen v)
  pub refused : IfErr did (λ why. RefusesEnds why asked.ends ⊎ (why ≡ refusal.Busy))
  pub unchanged : OnErr did (new ≡ old)

-- ---- floors and figures

-- The floors of the first stripes were read, so many of them, one after another. The earliest of
-- them is this time, or the last time that there is where none was read.
abbrev pub ReadsFloors : SeatView → SeatView → ℕ → Time → Type 0
ReadsFloors old new zero least = (new ≡ old) × (least ≡ last_time)
ReadsFloors old new (suc stripe) least = (next : SeatView) × (before : Time) × (floor : Time)
    × ReadsFloors old next stripe before × ReadsFloor next new stripe floor
    × (least ≡ earlier before floor)

-- What a call answers that asks for the floor: the earliest floor of all stripes. It is refused
-- where a lock was held at each try.
pub record AnswersStripedLowWater {A : Type 0} (seen : ℕ) (floor : Time) (old new : SeatView)
    (did : Result A Refusal) : Type 0 where
  pub reads : IfOk did (λ _. ReadsFloors old new (stripe_count old.cache.terms.bounds) floor)
  pub counted : IfOk did (λ _. seen ≡ new.count)
  pub refused : IfErr did (λ why. why ≡ refusal.Busy)
  pub looked : OnErr did (LooksOn old new)

-- the figures of nothing
abbrev pub no_figures : Figures
no_figures = record {
  pages = 0;
  rotations = 0;
  nodes = 0;
  bytes = 0;
  floor = record { wall = 0; logical = 0 };
}

-- What the figures of two parts come to together. The floor is that of the first.
abbrev pub both_figures : Figures → Figures → Figures
both_figures one other = record {
  pages = up_to_end (one.pages + other.pages);
  rotations = up_to_end (one.rotations + other.rotations);
  nodes = up_to_end (one.nodes + other.nodes);
  bytes = up_to_end (one.bytes + other.bytes);
  floor = one.floor;
}

-- The figures of the first stripes were read, so many of them, one after another. They come to
-- these together.
abbrev pub ReadsAllFigures : SeatView → SeatView → ℕ → Figures → Type 0
ReadsAllFigures old new zero sum = (new ≡ old) × (sum ≡ no_figures)
ReadsAllFigures old new (suc stripe) sum = (next : SeatView) × (before : Figures)
    × (figures : Figures) × ReadsAllFigures old next stripe before
    × ReadsFigures next new stripe figures × (sum ≡ both_figures before figures)

-- The figures of all stripes together, which were read one after another. The seat may have seen
-- more after that. Of the memory nothing is said.
pub record ReportsStripedFigures (old new : SeatView) (counts : Counts) (seen : ℕ)
    (figures : TscFigures) : Type 0 where
  pub counted : Figures
  pub read : SeatView
  pub reads : ReadsAllFigures old read (stripe_count old.cache.terms.bounds) counted
  pub on : LooksOn read new
  pub reported : figures ≡ figures_reported counted figures.memory counts
  pub own : seen ≡ new.count

-- What a call answers that asks for them. It is refused where a lock was held at each try.
pub record AnswersStripedFigures {A : Type 0} (counts : Counts) (seen : ℕ) (figures : TscFigures)
    (old new : SeatView) (did : Result A Refusal) : Type 0 where
  pub reports : IfOk did (λ _. ReportsStripedFigures old new counts seen figures)
  pub refused : IfErr did (λ why. why ≡ refusal.Busy)
  pub looked : OnErr did (LooksOn old new)

-- What a call answers that asks for the figures of a seat of either kind, and for what was asked of
-- it. The call is not counted.
abbrev pub AnswersFigures : {A : Type 0} → ℕ → TscFigures → CountedSeat → CountedSeat
    → Result A Refusal → Type 0
AnswersFigures seen figures old new did = CountsNothing
    (ByKind (AnswersSeatFigures old.counts seen figures)
    (AnswersStripedFigures old.counts seen figures)) old new did

-- ---- Adds

-- An Add of some marks at a seat, which has this place among the seat's own, and did this.
pub record StripedAccepts (old new : SeatView) (marks : List Mark) (now : Time) (place : ℕ)
    (added : Added) : Type 0 where
  pub receipt : Receipt
  pub accepts : Accepts old new marks now receipt
  pub goes_on : GoesOn old new
  pub place_is : place ≡ old.count
  pub added_is : added ≡ receipt.added

-- Why a cache refused an Add: the seat counts as many as it can, or else a lock was held at each
-- try, or memory was refused.
abbrev pub RefusesInStripes : Refusal → SeatView → Type 0
RefusesInStripes why old =
    ((why ≡ refusal.Full) × (CanCount old → ⊥)) ⊎ ((why ≡ refusal.Busy) × CanCount old)
    ⊎ ((why ≡ refusal.NoMemory) × CanCount old)

-- what a cache says of an Add that it refused, and what C is told
abbrev pub IsStripedCode : TryAddFault → Refusal → Type 0
IsStripedCode tried.Busy why = why ≡ refusal.Busy
IsStripedCode (tried.Refused fault.SeatFull) why = why ≡ refusal.Full
IsStripedCode (tried.Refused fault.NoMemory) why = why ≡ refusal.NoMemory

-- What an Add of the span that a call names makes of a seat, where the span fits a page.
pub record StripedAdds (old new : SeatView) (asked : AskedAdd) (place : ℕ) (added : Added) : Type
    0 where
  pub span : SpanView
  pub names : NamesAdd asked span
  pub fit : fits old.cache.terms.config span ≡ true
  pub accepted : StripedAccepts old new (record { span = span; value = asked.value } ∷ [])
      asked.moment place added

-- What an Add of the marks that a call names makes of a seat, where the span of each fits a page.
pub record StripedAddsAll (old new : SeatView) (asked : AskedBatch) (place : ℕ) (added : Added) :
    Type 0 where
  pub marks : List Mark
  pub names : NamesAddAll asked marks
  pub fit : all_fit old.cache.terms.config marks ≡ true
  pub accepted : StripedAccepts old new marks asked.moment place added

-- All that a call says of an Add is right, and its span fits a page. It was refused for a reason
-- that lies with the cache, or for memory.
pub record FitsInStripes (why : Refusal) (old : SeatView) (asked : AskedAdd) : Type 0 where
  pub span : SpanView
  pub names : NamesAdd asked span
  pub fit : fits old.cache.terms.config span ≡ true
  pub reported : RefusesInStripes why old

-- Why an Add at a seat was refused.
abbrev pub RefusesStripedAdd : Refusal → SeatView → AskedAdd → Type 0
RefusesStripedAdd why old asked = RefusesNamed why asked
    ⊎ IsTooLarge why old.cache.terms.config asked ⊎ FitsInStripes why old asked

-- All that a call says of several marks is right, and the span of each fits a page. They were
-- refused for a reason that lies with the cache, or for memory.
pub record AllFitInStripes (why : Refusal) (old : SeatView) (asked : AskedBatch) : Type 0 where
  pub marks : List Mark
  pub names : NamesAddAll asked marks
  pub fit : all_fit old.cache.terms.config marks ≡ true
  pub reported : RefusesInStripes why old

-- Why an Add of several marks at a seat was refused.
abbrev pub RefusesStripedAddAll : Refusal → SeatView → AskedBatch → Type 0
RefusesStripedAddAll why old asked = RefusesBatch why asked
    ⊎ AreTooLarge why old.cache.terms.config asked ⊎ AllFitInStripes why old asked

-- What an Add at a seat does that may be tried. Where it is refused the seat is as it was.
pub record AnswersStripedTried {A : Type 0} (Adds : ℕ → Added → Type 0)
    (Refuses : Refusal → Type 0) (place : ℕ) (reported : Added) (old new : SeatView)
    (did : Result A Refusal) : Type 0 where
  pub added : IfOk did (λ _. Adds place reported)
  pub refused : IfErr did (λ why. Refuses why)
  pub unchanged : OnErr did (new ≡ old)

-- Without tries an Add is refused by name, before all else that it names is read.
pub record AnswersStripedAdding {A : Type 0} (Adds : SeatView → SeatView → ℕ → Added → Type 0)
    (Refuses : Refusal → Type 0) (tries place : ℕ) (reported : Added) (old new : SeatView)
    (did : Result A Refusal) : Type 0 where
  pub no_tries : tries ≡ 0 → (did ≡ Err refusal.Tries) × (new ≡ old)
  pub tried : tries ≢ 0 → AnswersStripedTried (Adds old new) Refuses place reported old new did

abbrev pub AnswersStripedTriedAdd : {A : Type 0} → AskedAdd → ℕ → Added → SeatView → SeatView
    → Result A Refusal → Type 0
AnswersStripedTriedAdd asked place reported old new did =
    AnswersStripedTried (StripedAdds old new asked) (λ why. RefusesStripedAdd why old asked) place
    reported old new did

abbrev pub AnswersStripedTriedAll : {A : Type 0} → AskedBatch → ℕ → Added → SeatView → SeatView
    → Result A Refusal → Type 0
AnswersStripedTriedAll asked place reported old new did =
    AnswersStripedTried (StripedAddsAll old new asked) (λ why. RefusesStripedAddAll why old asked)
    place reported old new did

-- What an Add of a span at a seat does. It is refused for its tries just where they are 0.
abbrev pub AnswersStripedAdd : {A : Type 0} → AskedAdd → ℕ → ℕ → Added → SeatView → SeatView
    → Result A Refusal → Type 0
AnswersStripedAdd asked tries place reported old new did =
    AnswersStripedAdding (λ old new. StripedAdds old new asked)
    (λ why. RefusesStripedAdd why old asked) tries place reported old new did

-- What an Add of several marks does, in the same way.
abbrev pub AnswersStripedAddAll : {A : Type 0} → AskedBatch → ℕ → ℕ → Added → SeatView → SeatView
    → Result A Refusal → Type 0
AnswersStripedAddAll asked tries place reported old new did =
    AnswersStripedAdding (λ old new. StripedAddsAll old new asked)
    (λ why. RefusesStripedAddAll why old asked) tries place reported old new did

-- ---- writes

-- What a seat answers to the question from when on a write may be made. The seat counts `seen` Adds
-- of its own.
pub record AnswersStripedWrite {A : Type 0} (asked : AskedWrite) (seen : ℕ) (at : Time)
    (old new : SeatView) (did : Result A Refusal) : Type 0 where
  pub reported : IfOk did (λ _. AsksWriteOf striped_seat old new asked (Some at))
  pub front : IfOk did (λ _. seen ≡ new.count)
  pub refused : IfErr did (λ why. (RefusesWrite why asked × (new ≡ old))
      ⊎ ((why ≡ refusal.NoTime) × AsksWriteOf striped_seat old new asked None)
      ⊎ ((why ≡ refusal.Busy) × LooksOn old new))

-- A seat asks of some spans, one after another, from when on a write is clear. The write may be
-- made at its time just where that very time is told.
pub record AsksStripedMayWrite (old new : SeatView) (asked : AskedWrite) (may : Bool) : Type
    0 where
  pub reported : Option Time
  pub asks : AsksWriteOf striped_seat old new asked reported
  pub value : IsTrue may ↔ (reported ≡ Some asked.time)

-- What a seat answers to the question whether a write may be made.
pub record AnswersStripedMayWrite {A : Type 0} (asked : AskedWrite) (seen : ℕ) (may : Bool)
    (old new : SeatView) (did : Result A Refusal) : Type 0 where
  pub reported : IfOk did (λ _. AsksStripedMayWrite old new asked may)
  pub front : IfOk did (λ _. seen ≡ new.count)
  pub refused : IfErr did (λ why. (RefusesWrite why asked × (new ≡ old))
      ⊎ ((why ≡ refusal.Busy) × LooksOn old new))

-- ---- summaries

-- Bytes tell what a seat is told of the reads of the span that a call names: of each stripe that
-- the span touches, of one moment, as one summary. They are read back as that.
pub record ReportsStripedSummary (old new : SeatView) (asked : AskedSummary) (seen : ℕ)
    (bytes : List ℕ) : Type 0 where
  pub span : SpanView
  pub names : NamesAddSpan asked.span span
  pub parts : List Summary
  pub summarizes : SummarizesInStripes old new span asked.most parts
  pub front : seen ≡ new.count
  pub written : bytes ≡ summary_bytes (merged span parts)
  pub read_back : summary_of bytes ≡ Ok (merged span parts)

-- What a seat answers that is asked for a summary. It has no Add more of its own then, and goes on.
pub record AnswersStripedSummary (asked : AskedSummary) (seen : ℕ) (old new : SeatView)
    (did : Result (List ℕ) Refusal) : Type 0 where
  pub reported : IfOk did (λ bytes. ReportsStripedSummary old new asked seen bytes)
  pub refused : IfErr did (λ why. RefusesSummary why asked ⊎ (why ≡ refusal.Busy))
  pub looked : LooksOn old new
