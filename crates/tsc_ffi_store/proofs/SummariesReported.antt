-- Summaries at a seat of either kind, as bytes tell them.
use Rattle.std.proofs.Common.{◌≡◌, ◌∙◌, ◌⊎◌, ap, inl, inr, ℕ}
use Rattle.std.specs.Prelude.{Result, Ok, Err}
use Rattle.tsc_span.specs.Span.{SpanView}
use Rattle.timestamp_cache.specs.HandOver.{Summary}
use Rattle.timestamp_cache.specs.SummaryBytes.{summary_bytes}
use Rattle.timestamp_cache.specs.SummaryReading.{summary_of}
use Rattle.timestamp_cache.specs.declared.hand_over.SeatSummary.{SeatSummary}
use Rattle.timestamp_cache.specs.declared.summary_fault.SummaryFault.{SummaryFault}
use Rattle.tsc_ffi_store.specs.declared.refusal.Refusal.{Refusal}
use Rattle.tsc_ffi_store.specs.declared.refusal.Refusal.TheVariants as refusal
use Rattle.tsc_ffi_store.specs.declared.seats.kinds.AnySeat.{AnySeat}
use Rattle.tsc_ffi_store.specs.declared.summary_requests.SeatBytes.{SeatBytes}
use Rattle.tsc_ffi_store.specs.Asking.{SumsUpShared, SumsUpStriped}
use Rattle.tsc_ffi_store.specs.Decode.{NamesAddSpan}
use Rattle.tsc_ffi_store.specs.Kinds.{ByKind}
use Rattle.tsc_ffi_store.specs.StripedCalls.{AnswersStripedSummary}
use Rattle.tsc_ffi_store.specs.Summaries.{AskedSummary, AnswersSeatSummary, RefusesSummary}
use Rattle.tsc_ffi_store.specs.SummarySteps.{ReportsBytes, ReportsStripedBytes}
use Rattle.tsc_ffi_store.proofs.ByKinds.{by_kind}

-- a seat of either kind sums up the span that a call names
abbrev pub SumsUp : AskedSummary → SpanView → AnySeat → AnySeat → Result SeatSummary Refusal
    → Type 0
SumsUp asked span old new did =
    ByKind (SumsUpShared span asked.most) (SumsUpStriped span asked.most) old new did

pub bytes_reported : (asked : AskedSummary) (span : SpanView) (reported : SeatSummary)
    (bytes : SeatBytes)
    (old new : AnySeat) → NamesAddSpan asked.span span → bytes.front ≡ reported.front
    → bytes.bytes.items ≡ summary_bytes reported.summary
    → summary_of bytes.bytes.items ≡ Ok reported.summary → SumsUp asked span old new (Ok reported)
    → ByKind (ReportsBytes asked) (ReportsStripedBytes asked) old new (Ok bytes)
bytes_reported asked span reported bytes old new names front written read_back did =
    by_kind (SumsUpShared span asked.most) (SumsUpStriped span asked.most) (ReportsBytes asked)
    (ReportsStripedBytes asked) (Ok reported) (Ok bytes)
    (λ x y a. record {
      reported = record {
        span = span;
        names = names;
        reported = reported;
        summarizes = a.reported;
        front = front ∙ a.reported.front;
        written = written;
        read_back = read_back;
      };
      refused = tt;
      looked = inr a.looked;
    })
    (λ x y a. record {
      reported = record {
        span = span;
        names = names;
        parts = a.reported.parts;
        summarizes = a.reported.summarizes;
        front = front ∙ a.reported.front;
        written = written ∙ ap summary_bytes a.reported.merges;
        read_back = read_back ∙ ap {B = Result Summary SummaryFault} Ok
            a.reported.merges;
      };
      refused = tt;
      looked = a.looked;
    }) old new did

-- where memory was refused for the summary of a span that is named
lacks_memory : (asked : AskedSummary) (span : SpanView) (why : Refusal)
    → NamesAddSpan asked.span span → why ≡ refusal.NoMemory → RefusesSummary why asked
lacks_memory asked span why names is = inr (record { span = span; names = names; reported = is })

refused_in_stripes : (asked : AskedSummary) (span : SpanView) (why : Refusal)
    → NamesAddSpan asked.span span → (why ≡ refusal.Busy) ⊎ (why ≡ refusal.NoMemory)
    → RefusesSummary why asked ⊎ (why ≡ refusal.Busy)
refused_in_stripes asked span why names (inl busy) = inr busy
refused_in_stripes asked span why names (inr memory) =
    inl (lacks_memory asked span why names memory)

pub no_bytes : (asked : AskedSummary) (span : SpanView) (why : Refusal) (old new : AnySeat)
    → NamesAddSpan asked.span span → SumsUp asked span old new (Err why)
    → ByKind (ReportsBytes asked) (ReportsStripedBytes asked) old new (Err why)
no_bytes asked span why old new names did =
    by_kind (SumsUpShared span asked.most) (SumsUpStriped span asked.most) (ReportsBytes asked)
    (ReportsStripedBytes asked) (Err why) (Err why)
    (λ x y a. record {
      reported = tt;
      refused = lacks_memory asked span why names a.refused;
      looked = inr a.looked;
    })
    (λ x y a. record {
      reported = tt;
      refused = refused_in_stripes asked span why names a.refused;
      looked = a.looked;
    }) old new did

pub summary_reported : (asked : AskedSummary) (bytes : SeatBytes) (old new : AnySeat)
    → ByKind (ReportsBytes asked) (ReportsStripedBytes asked) old new (Ok bytes)
    → ByKind (AnswersSeatSummary asked bytes.front) (AnswersStripedSummary asked bytes.front) old
    new (Ok bytes.bytes.items)
summary_reported asked bytes old new did =
    by_kind (ReportsBytes asked) (ReportsStripedBytes asked) (AnswersSeatSummary asked bytes.front)
    (AnswersStripedSummary asked bytes.front) (Ok bytes) (Ok bytes.bytes.items)
    (λ x y a. record { reported = a.reported; refused = tt; looked = a.looked })
    (λ x y a. record { reported = a.reported; refused = tt; looked = a.looked }) old new did

pub summary_refused : (asked : AskedSummary) (seen : ℕ) (why : Refusal) (old new : AnySeat)
    → ByKind (ReportsBytes asked) (ReportsStripedBytes asked) old new (Err why)
    → ByKind (AnswersSeatSummary asked seen) (AnswersStripedSummary asked seen) old new (Err why)
summary_refused asked seen why old new did =
    by_kind (ReportsBytes asked) (ReportsStripedBytes asked) (AnswersSeatSummary asked seen)
    (AnswersStripedSummary asked seen) (Err why) (Err why)
    (λ x y a. record { reported = tt; refused = a.refused; looked = a.looked })
    (λ x y a. record { reported = tt; refused = a.refused; looked = a.looked }) old new did
