-- The figures of a seat of either kind, as words tell them.
use Rattle.std.proofs.Common.{◌≡◌, refl, sym, subst}
use Rattle.std.specs.Prelude.{Result, Ok, IfOk}
use Rattle.tsc_shared.specs.Answers.{ReadsFigures}
use Rattle.tsc_ffi_store.specs.declared.counts.Counts.{Counts}
use Rattle.tsc_ffi_store.specs.declared.ctypes.TscFigures.{TscFigures}
use Rattle.tsc_ffi_store.specs.declared.refusal.Refusal.{Refusal}
use Rattle.tsc_ffi_store.specs.declared.seats.kinds.AnySeat.{AnySeat}
use Rattle.tsc_ffi_store.specs.declared.seats.placed.Counted.{Counted}
use Rattle.tsc_ffi_store.specs.Asking.{CountsShared, CountsStriped}
use Rattle.tsc_ffi_store.specs.Decode.{figures_reported}
use Rattle.tsc_ffi_store.specs.Kinds.{ByKind}
use Rattle.tsc_ffi_store.specs.SeatCalls.{AnswersSeatFigures}
use Rattle.tsc_ffi_store.specs.StripedCalls.{AnswersStripedFigures}
use Rattle.tsc_ffi_store.proofs.ByKinds.{by_kind}

-- The words tell figures with the memory that stands in the words.
reported_with_memory : (counted : Counted) (counts : Counts) (words : TscFigures)
    → words ≡ figures_reported counted.figures.figures counted.memory counts
    → words ≡ figures_reported counted.figures.figures words.memory counts
reported_with_memory counted counts words is =
    subst (λ (w : TscFigures). w ≡ figures_reported counted.figures.figures w.memory counts)
    (sym is)
    refl

pub counted_at : (counts : Counts) (counted : Counted) (words : TscFigures) (old new : AnySeat)
    → words ≡ figures_reported counted.figures.figures counted.memory counts
    → ByKind CountsShared CountsStriped old new (Ok counted)
    → ByKind {A = Result (Unit {0}) Refusal}
    (AnswersSeatFigures counts counted.figures.front words)
    (AnswersStripedFigures counts counted.figures.front words) old new (Ok tt)
counted_at counts counted words old new is did =
    by_kind CountsShared CountsStriped (AnswersSeatFigures counts counted.figures.front words)
    (AnswersStripedFigures counts counted.figures.front words) (Ok counted) (Ok tt)
    (λ x y a. record {
      reports = record {
        counted = counted.figures.figures;
        reported = reported_with_memory counted counts words is;
        reads = subst (λ (r : Result Counted Refusal). IfOk r
            (λ given. ReadsFigures x y given.figures)) (sym a.is) a.reads;
      };
      done = refl;
    })
    (λ x y a. record {
      reports = record {
        counted = counted.figures.figures;
        read = a.counted.read;
        reads = a.counted.reads;
        on = a.counted.on;
        reported = reported_with_memory counted counts words is;
        own = a.counted.front;
      };
      refused = tt;
      looked = tt;
    }) old new did
