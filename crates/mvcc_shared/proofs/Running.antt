-- A legal history is an execution of calls on one range.
use Rattle.std.proofs.Common.{◌≡◌, sym, subst, ℕ, List, [], ◌∷◌, ◌++◌, append_assoc, append-nil}
use Rattle.std.specs.Prelude.{reverse}
use Rattle.std.proofs.lemmas.List.{reverse-append}
use Rattle.mvcc_range.specs.declared.range.Outcome.TheVariants.{Committed, Restart}
use Rattle.mvcc_range.specs.declared.range.Reason.TheVariants.{Changed, NoTime}
use Rattle.mvcc_range.specs.Serial.{Transaction, moved}
use Rattle.mvcc_range.specs.Steps.{RangeView, Execution, opened, answers, commits, stays, hands_on, collects}
use Rattle.mvcc_range.specs.Laws.{IsSerializable}
use Rattle.mvcc_range.proofs.Keeping.{serializable}
use Rattle.mvcc_shared.specs.History.{
  Call,
  has_read,
  has_ended,
  has_handed_on,
  has_collected,
  was_refused,
  Makes,
  History,
  Terms,
  Follows,
  IsLegal,
  range_after,
  log_of,
  entries_of,
}
use Rattle.mvcc_shared.specs.Laws.{IsExecution, HistoriesRun}

-- A call is one step more of an execution.
abbrev Ran : RangeView → List Transaction → Type 0
Ran range log = IsExecution range log

-- the log is as before
same_log : (range : RangeView) (log : List Transaction) → Ran range log → Ran range (log ++ [])
same_log range log ran = subst (Ran range) (sym (append-nil log)) ran

-- and so is the range
same_range : (old new : RangeView) (log : List Transaction) → Ran old log → new ≡ old
    → Ran new (log ++ [])
same_range old new log ran same = same_log new log (subst (λ (r : RangeView). Ran r log) (sym same)
    ran)

step_more : (old new : RangeView) (call : Call) (log : List Transaction) → Makes old call new
    → Ran old log → Ran new (log ++ entries_of call)
step_more old new (has_read before after span now) log reads ran = same_log new log (record {
  answered = record { by = before.by; at = before.at; read = reads.read } ∷ ran.answered;
  run = answers old new ran.answered (reverse log) before.by before.at now reads.read ran.run
      reads.answers;
})
step_more old new (has_ended t now (Committed at)) log ends ran = record {
  answered = ran.answered;
  run = subst (λ (l : List Transaction). Execution new ran.answered l)
      (sym (reverse-append log (moved t at ∷ [])))
      (commits old new ran.answered (reverse log) (moved t at) now ran.run ends.1);
}
step_more old new (has_ended t now (Restart (Changed at))) log ends ran =
    same_range old new log ran ends.2
step_more old new (has_ended t now (Restart NoTime)) log ends ran =
    same_range old new log ran ends.1
step_more old new (has_handed_on config) log hands ran = same_log new log (record {
  answered = ran.answered;
  run = hands_on config old new ran.answered (reverse log) ran.run hands;
})
step_more old new (has_collected before) log collected ran = same_log new log (record {
  answered = ran.answered;
  run = collects old new ran.answered (reverse log) before ran.run collected;
})
step_more old new was_refused log same ran = same_log new log (record {
  answered = ran.answered;
  run = stays old new ran.answered (reverse log) ran.run same;
})

steps_more : (n : ℕ) (range : RangeView) (h : History) (log : List Transaction)
    → Follows n range h → Ran range log → Ran (range_after range h) (log ++ log_of h)
steps_more n range [] log f ran = same_log range log ran
steps_more n range (e ∷ h) log f ran =
    subst (Ran (range_after e.range h)) (append_assoc log (entries_of e.call) (log_of h))
    (steps_more n e.range h (log ++ entries_of e.call) f.2
    (step_more range e.range e.call log f.1 ran))

pub histories_run : HistoriesRun
histories_run terms h legal = steps_more terms.clients terms.opened h [] legal.follows (record {
  answered = [];
  run = opened terms.config terms.opened legal.opened;
})

-- So what committed in it is serializable.
pub is_serializable : (terms : Terms) (h : History) (range : RangeView) (log : List Transaction)
    → IsLegal terms h → range ≡ range_after terms.opened h → log ≡ log_of h
    → IsSerializable (reverse log) range.chains
is_serializable terms h range log legal same all =
    let ran = histories_run terms h legal in
    subst (λ (r : RangeView). IsSerializable (reverse log) r.chains) (sym same)
    (subst (λ (l : List Transaction). IsSerializable (reverse l) (range_after terms.opened h).chains)
    (sym all)
    (serializable (range_after terms.opened h) ran.answered (reverse (log_of h)) ran.run))
