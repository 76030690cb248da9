-- What a call makes of a shared cache, or of the seat that it names, and why it is refused.
use Rattle.std.specs.Prelude.{◌≡◌, ◌≢◌, ◌⊎◌, ◌++◌, ◌∷◌, ◌+◌, ◌<◌, ℕ, List, [], map, length, slice_get, slice_set, true, false, Option, Some, None, Result, Err, IfOk, IfErr, IsOk, OnErr}
use Rattle.tsc_time.specs.Time.{Time}
use Rattle.tsc_time.specs.ValueView.{ValueView}
use Rattle.tsc_span.specs.Span.{SpanView}
use Rattle.tsc_page_model.specs.Page.{Mark}
use Rattle.tsc_cache.specs.declared.added.Added.{Added}
use Rattle.tsc_cache.specs.declared.figures.Figures.{Figures}
use Rattle.tsc_cache.specs.ConfigView.{ConfigView, fits}
use Rattle.tsc_cache.specs.Batch.{all_fit}
use Rattle.tsc_shared.specs.declared.answers.Receipt.{Receipt}
use Rattle.tsc_shared.specs.declared.answers.AddFault.TheVariants.{HistoryFull, NoMemory, TooLarge}
use Rattle.tsc_shared.specs.declared.answers.TryAddFault.{TryAddFault}
use Rattle.tsc_shared.specs.declared.answers.TryAddFault.TheVariants.{DeskBusy, SeatInside, Refused}
use Rattle.tsc_shared.specs.Seats.{SeatView, is_seat_count}
use Rattle.tsc_shared.specs.Answers.{GoesOn, Accepts, Refuses, AnswersLookup, IsAbove, ReportsNoPart, ReadsFloor, ReadsFigures}
use Rattle.tsc_ffi_store.specs.declared.ctypes.TscFigures.{TscFigures}
use Rattle.tsc_ffi_store.specs.declared.refusal.Refusal.{Refusal}
use Rattle.tsc_ffi_store.specs.declared.refusal.Refusal.TheVariants as refusal
use Rattle.tsc_ffi_store.specs.declared.store.Slot.{Slot}
use Rattle.tsc_ffi_store.specs.declared.store.Slot.TheVariants.{Closed, Shared, Seat}
use Rattle.tsc_ffi_store.specs.Decode.{AskedSpan, AskedAdd, AskedBatch, AskedConfig, lookup_span, figures_reported, NamesAdd, NamesConfig, RefusesEnds, RefusesNamed, RefusesConfig}
use Rattle.tsc_ffi_store.specs.Marks.{NamesAddAll, RefusesBatch}
use Rattle.tsc_ffi_store.specs.CacheCalls.{IsTooLarge, AreTooLarge, LacksMemoryForHandles}
use Rattle.tsc_ffi_store.specs.declared.counts.CountedSeat.{CountedSeat}
use Rattle.tsc_ffi_store.specs.declared.counts.Counts.{Counts}
use Rattle.tsc_ffi_store.specs.declared.seats.kinds.AnySeat.{AnySeat}
use Rattle.tsc_ffi_store.specs.Kinds.{new_any_seats}
use Rattle.tsc_ffi_store.specs.Owners.{HandleView, OwnerView, handle_of, IsShared, MissesSeat, EndsSo}
use Rattle.tsc_ffi_store.specs.Counts.{no_counts}
use Rattle.tsc_ffi_store.specs.Store.{cache_at, shared_of, shared_at, seat_at, Keeps, RefusesHandles}
use Rattle.atomic_table.specs.Seated.{TableId}

-- a seat of which nothing was asked, whose cache was opened at a handle
abbrev pub unasked : ℕ → HandleView → CountedSeat
unasked at seat = record { seat = seat; opened_at = at; counts = no_counts }

-- A shared cache is opened at the next handle, and its seats, which nobody has used, at the handles
-- behind it, in their order. All that was given stays.
pub record OpensShared (old new : List Slot) (handle : ℕ) (config : ConfigView) (count limit : ℕ) :
    Type 0 where
  pub owner : OwnerView
  pub next : handle ≡ length old
  pub given : new ≡ old ++ Shared owner ∷
      map (λ s. Seat (unasked handle (handle_of owner.returns s))) (new_any_seats owner.cache 0 count)
  pub cache : IsShared config count limit owner.cache
  pub none_back : owner.back ≡ []
  pub none_missed : owner.missed ≡ []

-- No shared cache may have `count` seats.
abbrev pub RefusesSeats : Refusal → ℕ → Type 0
RefusesSeats why count = (why ≡ refusal.Seats) × (is_seat_count count ≡ false)

-- A shared cache may have `count` seats, and there are handles for them, but no memory.
abbrev pub LacksMemoryForSeats : Refusal → ℕ → List Slot → Type 0
LacksMemoryForSeats why count slots =
    (is_seat_count count ≡ true) × LacksMemoryForHandles why slots (count + 1)

-- All that a call says of a shared cache is right, and there are handles for it, but no memory.
pub record LacksMemoryToShare (why : Refusal) (asked : AskedConfig) (count : ℕ)
    (slots : List Slot) : Type 0 where
  pub config : ConfigView
  pub names : NamesConfig asked config
  pub lacks : LacksMemoryForSeats why count slots

-- Why no shared cache was opened.
abbrev pub RefusesOpenShared : Refusal → AskedConfig → ℕ → List Slot → Type 0
RefusesOpenShared why asked count slots = RefusesConfig why asked ⊎ RefusesSeats why count ⊎
    RefusesHandles why slots (count + 1) ⊎ LacksMemoryToShare why asked count slots

-- What a call does that opens a shared cache, at the next handle.
pub record AnswersOpenShared {A : Type 0} (asked : AskedConfig) (count limit handle : ℕ)
    (old new : List Slot) (did : Result A Refusal) : Type 0 where
  pub opened : IfOk did (λ _. (config : ConfigView) × NamesConfig asked config ×
      OpensShared old new handle config count limit)
  pub refused : IfErr did (λ why. RefusesOpenShared why asked count old)
  pub unchanged : OnErr did (new ≡ old)

-- What the cache of a seat answers to the span that a call names: by all that the seat has seen
-- then, which are `seen` Adds.
pub record SeatLooks (old new : SeatView) (asked : AskedSpan) (seen : ℕ) (v : ValueView) : Type
    0 where
  pub span : SpanView
  pub asked_for : lookup_span asked ≡ Some span
  pub looks : AnswersLookup old new span (record { value = v; front = seen })
  pub above : IsAbove new span v
  pub whole : ReportsNoPart new span v

-- What a lookup at a seat answers.
pub record AnswersSeatLookup {A : Type 0} (asked : AskedSpan) (seen : ℕ) (v : ValueView)
    (old new : SeatView) (did : Result A Refusal) : Type 0 where
  pub looked : IfOk did (λ _. SeatLooks old new asked seen v)
  pub refused : IfErr did (λ why. RefusesEnds why asked.ends)
  pub unchanged : OnErr did (new ≡ old)

-- Where the floor of the cache of a seat stands, after all that the seat has seen then.
pub record AnswersSeatLowWater {A : Type 0} (seen : ℕ) (floor : Time) (old new : SeatView)
    (did : Result A Refusal) : Type 0 where
  pub reads : ReadsFloor old new (record { time = floor; front = seen })
  pub done : IsOk did

-- The figures of the cache of a seat, after all that the seat has seen then, and what was asked of
-- the seat. Of the memory nothing is said.
pub record ReportsFiguresAt (counts : Counts) (seen : ℕ) (figures : TscFigures) (old new : SeatView)
    : Type 0 where
  pub counted : Figures
  pub reported : figures ≡ figures_reported counted figures.memory counts
  pub reads : ReadsFigures old new (record { figures = counted; front = seen })

-- What a call answers that tells them.
pub record AnswersSeatFigures {A : Type 0} (counts : Counts) (seen : ℕ) (figures : TscFigures)
    (old new : SeatView) (did : Result A Refusal) : Type 0 where
  pub reports : ReportsFiguresAt counts seen figures old new
  pub done : IsOk did

-- An Add of some marks at a seat, which has this place in the history of its cache, and did this.
pub record SeatAccepts (old new : SeatView) (marks : List Mark) (now : Time) (place : ℕ)
    (added : Added) : Type 0 where
  pub receipt : Receipt
  pub accepts : Accepts old new marks now receipt
  pub goes_on : GoesOn old new
  pub place_is : place ≡ receipt.place
  pub added_is : added ≡ receipt.added

-- What an Add of the span that a call names makes of a seat, where the span fits a page.
pub record SeatAdds (old new : SeatView) (asked : AskedAdd) (place : ℕ) (added : Added) : Type
    0 where
  pub span : SpanView
  pub names : NamesAdd asked span
  pub fit : fits old.cache.config span ≡ true
  pub accepted : SeatAccepts old new (record { span = span; value = asked.value } ∷ []) asked.moment
      place added

-- What an Add of the marks that a call names makes of a seat, where the span of each fits a page.
pub record SeatAddsAll (old new : SeatView) (asked : AskedBatch) (place : ℕ) (added : Added) : Type
    0 where
  pub marks : List Mark
  pub names : NamesAddAll asked marks
  pub fit : all_fit old.cache.config marks ≡ true
  pub accepted : SeatAccepts old new marks asked.moment place added

-- What a refused Add leaves: a seat that counts as many Adds as before, and may have seen more.
pub record IsSpared (old new : SeatView) : Type 0 where
  pub goes_on : GoesOn old new
  pub refuses : Refuses old new

abbrev pub KeepsOnRefusal : SeatView → SeatView → Type 0
KeepsOnRefusal old new = (new ≡ old) ⊎ IsSpared old new

-- The history of the seat's cache is full, and the seat has seen all of it.
abbrev pub IsFull : Refusal → SeatView → SeatView → Type 0
IsFull why old new = (why ≡ refusal.Full) × (length new.seen ≡ old.cache.limit)

-- The history of the seat's cache was not full when the seat looked.
abbrev pub IsBelowLimit : SeatView → SeatView → Type 0
IsBelowLimit old new = length new.seen < old.cache.limit

-- Others were in the way at each try: another seat had the writer lock, and the seat is as it was;
-- or a seat was inside a lookup, and the history was not full.
abbrev pub IsBusy : Refusal → SeatView → SeatView → Type 0
IsBusy why old new = (why ≡ refusal.Busy) × ((new ≡ old) ⊎ IsBelowLimit old new)

-- Memory was refused, and the history was not full.
abbrev pub LacksMemory : Refusal → SeatView → SeatView → Type 0
LacksMemory why old new = (why ≡ refusal.NoMemory) × IsBelowLimit old new

-- Why a cache refused an Add that fits a page of it.
abbrev pub RefusesTried : Refusal → SeatView → SeatView → Type 0
RefusesTried why old new = IsBusy why old new ⊎ IsFull why old new ⊎ LacksMemory why old new

-- what a cache says of an Add that it refused, and what C is told
abbrev pub IsCodeOf : TryAddFault → Refusal → Type 0
IsCodeOf DeskBusy why = why ≡ refusal.Busy
IsCodeOf SeatInside why = why ≡ refusal.Busy
IsCodeOf (Refused (HistoryFull front)) why = why ≡ refusal.Full
IsCodeOf (Refused NoMemory) why = why ≡ refusal.NoMemory
IsCodeOf (Refused TooLarge) why = why ≡ refusal.TooLarge

-- All that a call says of an Add is right, and its span fits a page. It was refused for a reason
-- that lies with the cache, or for memory.
pub record RefusesFitting (why : Refusal) (old new : SeatView) (asked : AskedAdd) : Type 0 where
  pub span : SpanView
  pub names : NamesAdd asked span
  pub fit : fits old.cache.config span ≡ true
  pub reported : RefusesTried why old new

-- An Add was refused before the seat was asked: what the call says of it is wrong, or too large.
abbrev pub RefusesUntried : Refusal → SeatView → AskedAdd → Type 0
RefusesUntried why seat asked = RefusesNamed why asked ⊎ IsTooLarge why seat.cache.config asked

-- Why an Add at a seat was refused.
abbrev pub RefusesSeatAdd : Refusal → SeatView → SeatView → AskedAdd → Type 0
RefusesSeatAdd why old new asked =
    (RefusesUntried why old asked × (new ≡ old)) ⊎ RefusesFitting why old new asked

-- What an Add at a seat does that may be tried.
pub record AnswersTriedAdd {A : Type 0} (asked : AskedAdd) (place : ℕ) (reported : Added)
    (old new : SeatView) (did : Result A Refusal) : Type 0 where
  pub added : IfOk did (λ _. SeatAdds old new asked place reported)
  pub refused : IfErr did (λ why. RefusesSeatAdd why old new asked)
  pub spared : OnErr did (KeepsOnRefusal old new)

-- Without tries an Add is refused by name, before all else that it names is read. The seat is as it
-- was.
pub record RefusesNoTries {A : Type 0} (old new : SeatView) (did : Result A Refusal) : Type 0 where
  pub reported : did ≡ Err refusal.Tries
  pub same : new ≡ old

-- What an Add at a seat does. It is refused for its tries just where they are 0.
pub record AnswersSeatAdd {A : Type 0} (asked : AskedAdd) (tries place : ℕ) (reported : Added)
    (old new : SeatView) (did : Result A Refusal) : Type 0 where
  pub no_tries : tries ≡ 0 → RefusesNoTries old new did
  pub tried : tries ≢ 0 → AnswersTriedAdd asked place reported old new did

-- All that a call says of several marks is right, and the span of each fits a page. They were
-- refused for a reason that lies with the cache, or for memory.
pub record RefusesAllFitting (why : Refusal) (old new : SeatView) (asked : AskedBatch) : Type
    0 where
  pub marks : List Mark
  pub names : NamesAddAll asked marks
  pub fit : all_fit old.cache.config marks ≡ true
  pub reported : RefusesTried why old new

-- Several marks were refused before the seat was asked: what the call says of them is wrong, or one
-- is too large.
abbrev pub RefusesAllUntried : Refusal → SeatView → AskedBatch → Type 0
RefusesAllUntried why seat asked = RefusesBatch why asked ⊎ AreTooLarge why seat.cache.config asked

-- Why an Add of several marks at a seat was refused.
abbrev pub RefusesSeatAddAll : Refusal → SeatView → SeatView → AskedBatch → Type 0
RefusesSeatAddAll why old new asked =
    (RefusesAllUntried why old asked × (new ≡ old)) ⊎ RefusesAllFitting why old new asked

-- What an Add of several marks at a seat does that may be tried.
pub record AnswersTriedAddAll {A : Type 0} (asked : AskedBatch) (place : ℕ) (reported : Added)
    (old new : SeatView) (did : Result A Refusal) : Type 0 where
  pub added : IfOk did (λ _. SeatAddsAll old new asked place reported)
  pub refused : IfErr did (λ why. RefusesSeatAddAll why old new asked)
  pub spared : OnErr did (KeepsOnRefusal old new)

-- What an Add of several marks at a seat does. It is refused for its tries just where they are 0.
pub record AnswersSeatAddAll {A : Type 0} (asked : AskedBatch) (tries place : ℕ) (reported : Added)
    (old new : SeatView) (did : Result A Refusal) : Type 0 where
  pub no_tries : tries ≡ 0 → RefusesNoTries old new did
  pub tried : tries ≢ 0 → AnswersTriedAddAll asked place reported old new did

-- What a handle names in one store goes to the next handle of another. The handle names nothing
-- from then on.
pub record Moves (from to from' to' : List Slot) (handle m : ℕ) : Type 0 where
  pub slot : Slot
  pub held : slice_get from handle ≡ Some slot
  pub open_ : slot ≢ Closed
  pub left : from' ≡ slice_set from handle Closed
  pub came : to' ≡ to ++ slot ∷ []
  pub next : m ≡ length to

-- A handle names nothing.
abbrev pub NamesNone : List Slot → ℕ → Type 0
NamesNone slots handle = (cache_at slots handle ≡ None) × (shared_at slots handle ≡ None) ×
    (seat_at slots handle ≡ None)

-- A handle names something.
abbrev pub NamesSome : List Slot → ℕ → Type 0
NamesSome slots handle = (slot : Slot) × (slice_get slots handle ≡ Some slot) × (slot ≢ Closed)

-- Why nothing was moved.
abbrev pub RefusesMove : Refusal → List Slot → List Slot → ℕ → Type 0
RefusesMove why slots other handle = ((why ≡ refusal.Closed) × NamesNone slots handle) ⊎
    RefusesHandles why other 1 ⊎
    (NamesSome slots handle × LacksMemoryForHandles why other 1)

-- What a call does that moves what a handle names.
pub record AnswersMove {A : Type 0} (handle m : ℕ) (from to from' to' : List Slot)
    (did : Result A Refusal) : Type 0 where
  pub moved : IfOk did (λ _. Moves from to from' to' handle m)
  pub refused : IfErr did (λ why. RefusesMove why from to handle)

-- An owner learns that seats came back to its cache, as what they are.
pub record KnowsBack (returns : TableId) (seats : List AnySeat) (old new : Slot) : Type 0 where
  pub owner : OwnerView
  pub held : old ≡ Shared owner
  pub its : owner.returns ≡ returns
  pub knows : new ≡ Shared (record owner { back = owner.back ++ seats })

-- What does not hold their cache learns nothing of seats that came back.
pub record LearnsNothing (returns : TableId) (old new : Slot) : Type 0 where
  pub other : (owner : OwnerView) → old ≡ Shared owner → owner.returns ≢ returns
  pub same : new ≡ old

abbrev pub Learns : TableId → List AnySeat → Slot → Slot → Type 0
Learns returns seats old new = KnowsBack returns seats old new ⊎ LearnsNothing returns old new

abbrev pub LearnsIf : TableId → List AnySeat → Option Slot → Option Slot → Type 0
LearnsIf returns seats None new = new ≡ None
LearnsIf returns seats (Some slot) new =
    (after : Slot) × (new ≡ Some after) × Learns returns seats slot after

-- What a handle names learns of seats that came back. What the others name is as before.
pub record LearnsAt (returns : TableId) (seats : List AnySeat) (old new : List Slot)
    (handle : ℕ) : Type 0 where
  pub there : LearnsIf returns seats (slice_get old handle) (slice_get new handle)
  pub others : Keeps old new handle

-- A seat is handed in, and its handle names nothing. Its cache's owner knows of it, as it is then,
-- if the owner lies where both were opened.
pub record ComesBack (old new : List Slot) (handle : ℕ) : Type 0 where
  pub seat : CountedSeat
  pub held : slice_get old handle ≡ Some (Seat seat)
  pub left : List Slot
  pub goes : left ≡ slice_set old handle Closed
  pub learns : LearnsAt seat.seat.returns (seat.seat.seat ∷ []) left new seat.opened_at

-- What a call does that hands in the seat that a handle names.
pub record AnswersCloseSeat {A : Type 0} (handle : ℕ) (old new : List Slot)
    (did : Result A Refusal) : Type 0 where
  pub closed : IfOk did (λ _. ComesBack old new handle)
  pub refused : IfErr did (λ why. (why ≡ refusal.Closed) × (seat_at old handle ≡ None))

-- A shared cache is closed. All its seats were handed in, those that its owner knows of among them.
-- What all of them saw was a beginning of one history, which has `adds` Adds: as many as the seats
-- count together.
pub record ClosesShared (held after : Option OwnerView) (adds : ℕ) : Type 0 where
  pub owner : OwnerView
  pub holds : held ≡ Some owner
  pub none : after ≡ None
  pub ends : EndsSo owner.cache owner.back adds

-- A slot holds a shared cache, whose owner looked for a seat in vain.
pub record StaysOpen (old new : Slot) : Type 0 where
  pub owner : OwnerView
  pub after : OwnerView
  pub held : old ≡ Shared owner
  pub misses : MissesSeat owner after
  pub left : new ≡ Shared after

-- Why the shared cache of a slot was not closed, and what the slot holds then.
abbrev pub KeepsShared : Refusal → Slot → Slot → Type 0
KeepsShared why old new = ((why ≡ refusal.Closed) × (shared_of old ≡ None) × (new ≡ old)) ⊎
    ((why ≡ refusal.StillOut) × StaysOpen old new)

-- What becomes of a slot whose shared cache is to be closed, and how many Adds its history has.
pub record EndsShared {A : Type 0} (adds : ℕ) (old new : Slot) (did : Result A Refusal) : Type
    0 where
  pub closed : IfOk did (λ _. ClosesShared (shared_of old) (shared_of new) adds)
  pub refused : IfErr did (λ why. KeepsShared why old new)

-- There is a shared cache, and a seat of it is out: in this very call its owner looked for the
-- seat, and saw that it was not returned. All is as before, but that the owner saw so.
pub record IsStillOut (old new : List Slot) (handle : ℕ) : Type 0 where
  pub owner : OwnerView
  pub after : OwnerView
  pub holds : shared_at old handle ≡ Some owner
  pub misses : MissesSeat owner after
  pub leaves : new ≡ slice_set old handle (Shared after)

-- Why a shared cache was not closed: there is none, and all is as before, or a seat is still out.
abbrev pub RefusesCloseShared : Refusal → List Slot → List Slot → ℕ → Type 0
RefusesCloseShared why old new handle =
    ((why ≡ refusal.Closed) × (shared_at old handle ≡ None) × (new ≡ old)) ⊎
    ((why ≡ refusal.StillOut) × IsStillOut old new handle)

-- What a call does that closes the shared cache that a handle names, and how many Adds its history
-- has.
pub record AnswersCloseShared {A : Type 0} (adds handle : ℕ) (old new : List Slot)
    (did : Result A Refusal) : Type 0 where
  pub closed : IfOk did (λ _. ClosesShared (shared_at old handle) (shared_at new handle) adds)
  pub refused : IfErr did (λ why. RefusesCloseShared why old new handle)
  pub others : Keeps old new handle
