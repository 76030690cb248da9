-- The log of a closed range can be replayed.
use Rattle.std.proofs.Common.{◌≡◌, ◌∙◌, refl, sym, ap, subst, ℕ, List, [], ◌∷◌, arith}
use Rattle.std.specs.Prelude.{reverse}
use Rattle.std.specs.List.{sum_by}
use Rattle.std.proofs.lemmas.List.{reverse-append}
use Rattle.std.proofs.lemmas.List.Sums.{sum_by-cons, sum_by-append}
use Rattle.mvcc_versions.specs.Versions.{latest}
use Rattle.mvcc_range.specs.Serial.{Transaction, empty}
use Rattle.mvcc_range.specs.Steps.{RangeView}
use Rattle.mvcc_shared.specs.declared.answers.Closed.{Closed}
use Rattle.mvcc_shared.specs.History.{range_after, log_of}
use Rattle.mvcc_shared.specs.Clients.{ClientView, DealerView}
use Rattle.mvcc_shared.specs.Answers.{Closes}
use Rattle.mvcc_shared.specs.Laws.{HistoriesRun}
use Rattle.mvcc_shared.specs.Textbook.{TextbookSerializable, Runs}
use Rattle.example_bank.specs.Replays.{CanBeReplayed}

-- a list weighs as much the other way round
turned : (weight : Transaction → ℕ) (ts : List Transaction)
    → sum_by weight (reverse ts) ≡ sum_by weight ts
turned weight [] = refl
turned weight (t ∷ ts) = omega (
  arith,
  ap (sum_by weight) (reverse-append (t ∷ []) ts),
  sum_by-append weight (reverse ts) (t ∷ []),
  sum_by-cons weight t [],
  sum_by-cons weight t ts,
  turned weight ts,
)

pub can_be_replayed : HistoriesRun → TextbookSerializable → (dealer : DealerView)
    (clients : List ClientView) (closed : Closed) → Closes dealer clients closed
    → CanBeReplayed closed
can_be_replayed runs textbook dealer clients closed closes =
    let ran = runs dealer.range.terms closes.history closes.legal in
    let range : RangeView = range_after dealer.range.terms.opened closes.history in
    let found = textbook range ran.answered (reverse (log_of closes.history)) ran.run in
    record {
      order = found.0;
      same = λ weight. found.1 weight ∙ turned weight (log_of closes.history)
          ∙ ap (sum_by weight) (sym closes.log);
      in_time = found.2;
      runs = subst (λ (r : RangeView). Runs empty found.0 (latest r.chains)) (sym closes.range)
          found.3;
    }
