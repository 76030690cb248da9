-- Writes that calls ask about: from when on they may be made.
use Rattle.std.specs.Prelude.{◌≡◌, ◌↔◌, ◌⊎◌, ℕ, List, [], ◌∷◌, length, Bool, IsTrue, Option, Some}
use Rattle.std.specs.Prelude.{None, Result, IfOk, IfErr, IfSome}
use Rattle.std.specs.List.{Contains}
use Rattle.tsc_time.specs.Time.{Time}
use Rattle.tsc_time.specs.ValueView.{Owner}
use Rattle.tsc_span.specs.Span.{KeyBytes, SpanView}
use Rattle.tsc_cache.specs.ConfigView.{ConfigView}
use Rattle.tsc_cache.specs.History.{History, state_of}
use Rattle.tsc_cache.specs.CacheView.{CacheView, RepresentsState}
use Rattle.tsc_shared.specs.Seats.{SeatView}
use Rattle.timestamp_cache.specs.Clear.{IsClearOfAnswers, IsClearOfAllReads, AsksOfAllAt}
use Rattle.timestamp_cache.specs.Earliest.{ReportsEarliest}
use Rattle.timestamp_cache.specs.SeatKinds.{SeatKind, shared_seat}
use Rattle.tsc_ffi_store.specs.declared.ctypes.TscSpan.{TscSpan}
use Rattle.tsc_ffi_store.specs.declared.ctypes.TscValue.{TscValue}
use Rattle.tsc_ffi_store.specs.declared.ctypes.WriteArgs.{WriteArgs}
use Rattle.tsc_ffi_store.specs.declared.refusal.Refusal.{Refusal}
use Rattle.tsc_ffi_store.specs.declared.refusal.Refusal.TheVariants as refusal
use Rattle.tsc_ffi_store.specs.Decode.{span_asked, add_span, RefusesTime}
use Rattle.tsc_ffi_store.specs.Decode.{RefusesWrittenSpan}
use Rattle.tsc_ffi_store.specs.Marks.{part_of, RefusesPart}

-- What a call says of a write: where the keys of its spans lie, these, when it is to be made, and
-- by whom. Sixteen zero bytes own no read.
pub record AskedWrite : Type 0 where
  pub keys : List ℕ
  pub spans : List TscSpan
  pub time : Time
  pub by : Owner

abbrev pub write_asked : List ℕ → List TscSpan → TscValue → AskedWrite
write_asked keys spans write = record {
  keys = keys;
  spans = spans;
  time = record { wall = write.wall; logical = write.logical };
  by = write.owner;
}

abbrev pub asked_write : WriteArgs → AskedWrite
asked_write args = write_asked args.keys.now args.spans.now args.write.now

-- A span is the one that some words ask for: both of its keys are parts of the bytes, and it is not
-- inverted.
pub record IsSpan (keys : List ℕ) (words : TscSpan) (s : SpanView) : Type 0 where
  pub from : KeyBytes
  pub to : KeyBytes
  pub from_lies : part_of keys words.from_at words.from_len ≡ Some from
  pub to_lies : part_of keys words.to_at words.to_len ≡ Some to
  pub span : add_span (span_asked from to words.ends) ≡ Some s

-- Spans are those that an array asks for: as many, in their order.
abbrev pub AreSpans : List ℕ → List TscSpan → List SpanView → Type 0
AreSpans keys [] [] = Unit {0}
AreSpans keys [] (s ∷ ss) = ⊥
AreSpans keys (w ∷ ws) [] = ⊥
AreSpans keys (w ∷ ws) (s ∷ ss) = IsSpan keys w s × AreSpans keys ws ss

-- each of some words asks for a span
abbrev pub AllSpans : List ℕ → List TscSpan → Type 0
AllSpans keys words = (spans : List SpanView) × AreSpans keys words spans

-- Both keys of a span lie among the bytes, and they and its ends name no span to be written.
pub record RefusesKeysAndEnds (why : Refusal) (keys : List ℕ) (words : TscSpan) : Type 0 where
  pub from : KeyBytes
  pub to : KeyBytes
  pub from_lies : part_of keys words.from_at words.from_len ≡ Some from
  pub to_lies : part_of keys words.to_at words.to_len ≡ Some to
  pub refused : RefusesWrittenSpan why (span_asked from to words.ends)

-- Why the words of a span were refused.
abbrev pub RefusesSpan : Refusal → List ℕ → TscSpan → Type 0
RefusesSpan why keys words =
    RefusesPart why keys words.from_at words.from_len ⊎
    RefusesPart why keys words.to_at words.to_len ⊎ RefusesKeysAndEnds why keys words

-- Why an array of spans was refused: one of them is.
abbrev pub RefusesSpans : Refusal → List ℕ → List TscSpan → Type 0
RefusesSpans why keys ws = (w : TscSpan) × Contains ws w × RefusesSpan why keys w

-- A cache tells from when on a write of some spans is clear of what it answers, and if it tells a
-- time, the write is clear there of each read that was added.
pub record ReportsWrite (cache : CacheView) (asked : AskedWrite) (reported : Option Time) : Type 0
  where
    pub spans : List SpanView
    pub asked_for : AreSpans asked.keys asked.spans spans
    pub earliest : ReportsEarliest (λ t. IsClearOfAnswers cache spans asked.by t) asked.time reported
    pub reads : IfSome reported (λ t. (config : ConfigView) (h : History)
        → RepresentsState cache config (state_of config h) → IsClearOfAllReads h spans asked.by t)

-- A seat of some kind asks of some spans, one after another, from when on a write is clear.
pub record AsksWriteOf {S : Type 0} (kind : SeatKind S) (old new : S) (asked : AskedWrite)
    (reported : Option Time) : Type 0 where
  pub spans : List SpanView
  pub asked_for : AreSpans asked.keys asked.spans spans
  pub asks : AsksOfAllAt kind old new spans asked.by asked.time reported

-- a seat of a shared cache asks so
abbrev pub AsksWrite : SeatView → SeatView → AskedWrite → Option Time → Type 0
AsksWrite = AsksWriteOf shared_seat

-- Why what a call says of a write was refused.
abbrev pub RefusesWrite : Refusal → AskedWrite → Type 0
RefusesWrite why asked = RefusesTime why asked.time ⊎ RefusesSpans why asked.keys asked.spans

-- What a call answers of a write: a time, or that there is none.
abbrev pub ReportsTime : {A : Type 0} → (Option Time → Type 0) → AskedWrite → Time →
    Result A Refusal
    → Type 0
ReportsTime Reports asked at did =
    IfOk did (λ _. Reports (Some at))
    × IfErr did (λ why. RefusesWrite why asked ⊎ ((why ≡ refusal.NoTime) × Reports None))

-- What a cache answers to the question from when on a write may be made.
abbrev pub AnswersWrite : {A : Type 0} → AskedWrite → Time → CacheView → Result A Refusal → Type 0
AnswersWrite asked at cache did = ReportsTime (ReportsWrite cache asked) asked at did

-- A seat was asked about what is no write, or a write is clear at no time. Where it was no write,
-- the seat is as it was.
abbrev pub RefusesSeatWrite : Refusal → AskedWrite → SeatView → SeatView → Type 0
RefusesSeatWrite why asked old new = (RefusesWrite why asked × (new ≡ old)) ⊎
    ((why ≡ refusal.NoTime) × AsksWrite old new asked None)

-- What a seat answers to the question from when on a write may be made. The seat has seen `seen`
-- Adds in the end.
pub record AnswersSeatWrite {A : Type 0} (asked : AskedWrite) (seen : ℕ) (at : Time)
    (old new : SeatView) (did : Result A Refusal) : Type 0 where
  pub reported : IfOk did (λ _. AsksWrite old new asked (Some at))
  pub front : IfOk did (λ _. seen ≡ length new.seen)
  pub refused : IfErr did (λ why. RefusesSeatWrite why asked old new)

-- A cache tells whether a write of some spans may be made at its time: whether that is clear of
-- what it answers to each. If it may, the write is clear of each read that was added.
pub record ReportsMayWrite (cache : CacheView) (asked : AskedWrite) (may : Bool) : Type 0 where
  pub spans : List SpanView
  pub asked_for : AreSpans asked.keys asked.spans spans
  pub value : IsTrue may ↔ IsClearOfAnswers cache spans asked.by asked.time
  pub reads : IsTrue may → (config : ConfigView) (h : History)
      → RepresentsState cache config (state_of config h)
      → IsClearOfAllReads h spans asked.by asked.time

-- What a cache answers to the question whether a write may be made.
pub record AnswersMayWrite {A : Type 0} (asked : AskedWrite) (may : Bool) (cache : CacheView)
    (did : Result A Refusal) : Type 0 where
  pub reported : IfOk did (λ _. ReportsMayWrite cache asked may)
  pub refused : IfErr did (λ why. RefusesWrite why asked)

-- A seat asks of some spans, one after another, from when on a write is clear. The write may be
-- made at its time just where that very time is told.
pub record AsksMayWrite (old new : SeatView) (asked : AskedWrite) (may : Bool) : Type 0 where
  pub reported : Option Time
  pub asks : AsksWrite old new asked reported
  pub value : IsTrue may ↔ (reported ≡ Some asked.time)

-- What a seat answers to the question whether a write may be made. The seat has seen `seen` Adds in
-- the end.
pub record AnswersSeatMayWrite {A : Type 0} (asked : AskedWrite) (seen : ℕ) (may : Bool)
    (old new : SeatView) (did : Result A Refusal) : Type 0 where
  pub reported : IfOk did (λ _. AsksMayWrite old new asked may)
  pub front : IfOk did (λ _. seen ≡ length new.seen)
  pub refused : IfErr did (λ why. RefusesWrite why asked × (new ≡ old))
