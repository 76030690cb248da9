-- What was read of a span, told as bytes, and what such bytes make of a cache.
use Rattle.std.specs.Prelude.{◌≡◌, ◌⊎◌, ℕ, List, length, true, false, Result, Ok, Err, IfOk, IfErr, OnErr}
use Rattle.tsc_time.specs.Time.{Time, is_in_range}
use Rattle.tsc_span.specs.Span.{SpanView}
use Rattle.tsc_cache.specs.declared.added.Added.{Added}
use Rattle.tsc_cache.specs.ConfigView.{ConfigView}
use Rattle.tsc_cache.specs.State.{CacheState, step_all}
use Rattle.tsc_cache.specs.Batch.{AddsAll, all_fit}
use Rattle.tsc_cache.specs.CacheView.{CacheView, RepresentsState}
use Rattle.tsc_shared.specs.Seats.{SeatView}
use Rattle.tsc_shared.specs.Answers.{HasLookedOn}
use Rattle.timestamp_cache.specs.declared.summary_fault.SummaryFault.{SummaryFault}
use Rattle.timestamp_cache.specs.declared.summary_fault.SummaryFault.TheVariants.{Version, Length}
use Rattle.timestamp_cache.specs.declared.summary_fault.SummaryFault.TheVariants.{Checksum, Form}
use Rattle.timestamp_cache.specs.declared.summary_fault.SummaryFault.TheVariants.{NoMemory}
use Rattle.timestamp_cache.specs.HandOver.{Summary, Summarizes, marks_reported, TakesOver}
use Rattle.timestamp_cache.specs.declared.hand_over.SeatSummary.{SeatSummary}
use Rattle.timestamp_cache.specs.SeatSummaries.{SummarizesAt}
use Rattle.timestamp_cache.specs.SummaryBytes.{summary_bytes}
use Rattle.timestamp_cache.specs.SummaryReading.{summary_of}
use Rattle.tsc_ffi_store.specs.declared.ctypes.TscTime.{TscTime}
use Rattle.tsc_ffi_store.specs.declared.refusal.Refusal.{Refusal}
use Rattle.tsc_ffi_store.specs.declared.refusal.Refusal.TheVariants as refusal
use Rattle.tsc_ffi_store.specs.Codes.{code_of}
use Rattle.tsc_ffi_store.specs.Decode.{AskedSpan, asked_span, time_of}
use Rattle.tsc_ffi_store.specs.Decode.{NamesAddSpan, RefusesTime, RefusesCopy}
use Rattle.tsc_ffi_store.specs.Puts.{Puts}
use Rattle.tsc_ffi_store.specs.declared.ctypes.SummaryArgs.{SummaryArgs}
use Rattle.tsc_ffi_store.specs.declared.ctypes.ApplyArgs.{ApplyArgs}

-- What a call says of a summary: of which span, and in how many marks at the most.
pub record AskedSummary : Type 0 where
  pub span : AskedSpan
  pub most : ℕ

abbrev pub summary_asked : AskedSpan → ℕ → AskedSummary
summary_asked span most = record { span = span; most = most }

abbrev pub asked_summary : SummaryArgs → AskedSummary
asked_summary args = summary_asked (asked_span args.span) args.most

-- What a call says that applies a summary: its bytes, and the moment.
pub record AskedApply : Type 0 where
  pub bytes : List ℕ
  pub moment : Time

abbrev pub apply_asked : List ℕ → TscTime → AskedApply
apply_asked bytes moment = record { bytes = bytes; moment = time_of moment }

abbrev pub asked_apply : ApplyArgs → AskedApply
asked_apply args = apply_asked args.summary.now args.moment.now

-- Bytes tell what was read in a cache of the span that a call names. They are read back as that.
pub record ReportsSummary (cache : CacheView) (asked : AskedSummary) (bytes : List ℕ) : Type 0 where
  pub span : SpanView
  pub names : NamesAddSpan asked.span span
  pub reported : Summary
  pub summarizes : Summarizes cache span asked.most reported
  pub written : bytes ≡ summary_bytes reported
  pub read_back : summary_of bytes ≡ Ok reported

-- Why no summary was told: for want of memory only where a span is named.
abbrev pub RefusesSummary : Refusal → AskedSummary → Type 0
RefusesSummary why asked = RefusesCopy why asked.span

-- What a cache answers that is asked for a summary.
pub record AnswersSummary (asked : AskedSummary) (cache : CacheView) (did : Result (List ℕ) Refusal)
    : Type 0 where
  pub reported : IfOk did (λ bytes. ReportsSummary cache asked bytes)
  pub refused : IfErr did (λ why. RefusesSummary why asked)

-- Bytes tell what a seat is told of the reads of the span that a call names. They are read back as
-- that, and the seat has seen `seen` Adds then.
pub record ReportsSeatSummary (old new : SeatView) (asked : AskedSummary) (seen : ℕ)
    (bytes : List ℕ) : Type 0 where
  pub span : SpanView
  pub names : NamesAddSpan asked.span span
  pub reported : SeatSummary
  pub summarizes : SummarizesAt old new span asked.most reported
  pub front : seen ≡ length new.seen
  pub written : bytes ≡ summary_bytes reported.summary
  pub read_back : summary_of bytes ≡ Ok reported.summary

-- What a seat answers that is asked for a summary. It has no Add more of its own then, and goes on.
pub record AnswersSeatSummary (asked : AskedSummary) (seen : ℕ) (old new : SeatView)
    (did : Result (List ℕ) Refusal) : Type 0 where
  pub reported : IfOk did (λ bytes. ReportsSeatSummary old new asked seen bytes)
  pub refused : IfErr did (λ why. RefusesSummary why asked)
  pub looked : (new ≡ old) ⊎ HasLookedOn old new

-- Bytes that are answered go into a buffer. Where they are refused it is as before.
abbrev pub PutsBytes : Result (List ℕ) Refusal → ℕ → List ℕ → List ℕ → ℕ → ℕ → Type 0
PutsBytes (Ok bytes) code old new len len' = Puts 0 bytes code old new len'
PutsBytes (Err why) code old new len len' = (code ≡ code_of why) × (new ≡ old) × (len' ≡ len)

-- A number tells of a call that answers bytes, and of the buffer that they go into.
pub record PutsOr (Answers : Result (List ℕ) Refusal → Type 0) (code : ℕ) (old new : List ℕ)
    (len len' : ℕ) : Type 0 where
  pub did : Result (List ℕ) Refusal
  pub answers : Answers did
  pub put : PutsBytes did code old new len len'

-- The same of a call that tells something else besides, which is kept where no bytes are answered.
pub record PutsOrKeeps (Answers : Result (List ℕ) Refusal → Type 0) (Kept : Type 0) (code : ℕ)
    (old new : List ℕ) (len len' : ℕ) : Type 0 where
  pub did : Result (List ℕ) Refusal
  pub answers : Answers did
  pub put : PutsBytes did code old new len len'
  pub kept : OnErr did Kept

-- All that a call says of a summary is right: its moment is in range, and the bytes are this one.
pub record NamesSummary (asked : AskedApply) (reported : Summary) : Type 0 where
  pub moment : is_in_range asked.moment ≡ true
  pub read : summary_of asked.bytes ≡ Ok reported

-- Bytes are read as a summary whose spans fit a page, and what it tells is added to a cache: all of
-- it, as one Add.
pub record AppliesIn (cache after : CacheView) (asked : AskedApply) (added : Added) : Type 0 where
  pub reported : Summary
  pub names : NamesSummary asked reported
  pub fit : all_fit cache.config (marks_reported reported) ≡ true
  pub adds : AddsAll cache after (marks_reported reported) asked.moment added
  pub stands : (config : ConfigView) (s : CacheState) → RepresentsState cache config s
      → RepresentsState after config (step_all config s (marks_reported reported)
      asked.moment).state
  pub reports : (config : ConfigView) (s : CacheState) → RepresentsState cache config s
      → added ≡ (step_all config s (marks_reported reported) asked.moment).added
  pub takes_over : (config : ConfigView) (s : CacheState) → RepresentsState cache config s
      → TakesOver s (step_all config s (marks_reported reported) asked.moment).state reported

-- why bytes are no summary, and what C is told
abbrev pub IsFaultOf : SummaryFault → Refusal → Type 0
IsFaultOf Version why = why ≡ refusal.SummaryVersion
IsFaultOf Length why = why ≡ refusal.SummaryLength
IsFaultOf Checksum why = why ≡ refusal.SummaryChecksum
IsFaultOf Form why = why ≡ refusal.SummaryForm
IsFaultOf NoMemory why = why ≡ refusal.NoMemory

-- Bytes are no summary, for this reason.
pub record IsNoSummary (why : Refusal) (bytes : List ℕ) : Type 0 where
  pub fault : SummaryFault
  pub read : summary_of bytes ≡ Err fault
  pub reported : IsFaultOf fault why

-- The moment is in range, and memory was refused. What the bytes are may not be known then.
abbrev pub LacksMemoryToApply : Refusal → AskedApply → Type 0
LacksMemoryToApply why asked =
    (why ≡ refusal.NoMemory) × (is_in_range asked.moment ≡ true)

-- Why bytes were not read as a summary to be applied.
abbrev pub RefusesBytes : Refusal → AskedApply → Type 0
RefusesBytes why asked = IsNoSummary why asked.bytes ⊎ RefusesTime why asked.moment ⊎
    LacksMemoryToApply why asked

-- All that a call says of a summary is right, but a span of it costs more than the largest page may
-- have.
pub record IsSummaryTooLarge (why : Refusal) (config : ConfigView) (asked : AskedApply) : Type
    0 where
  pub summary : Summary
  pub names : NamesSummary asked summary
  pub too_large : all_fit config (marks_reported summary) ≡ false
  pub reported : why ≡ refusal.TooLarge

-- Why a summary was not applied.
abbrev pub RefusesApply : Refusal → CacheView → AskedApply → Type 0
RefusesApply why cache asked =
    RefusesBytes why asked ⊎ IsSummaryTooLarge why cache.config asked

-- What a call does that applies a summary.
pub record AnswersApply {A : Type 0} (asked : AskedApply) (reported : Added)
    (cache after : CacheView) (did : Result A Refusal) : Type 0 where
  pub added : IfOk did (λ _. AppliesIn cache after asked reported)
  pub refused : IfErr did (λ why. RefusesApply why cache asked)
  pub unchanged : OnErr did (after ≡ cache)
