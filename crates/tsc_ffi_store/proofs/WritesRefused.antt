-- Why a seat of either kind does not answer what a write asks.
use Rattle.std.proofs.Common.{◌⊎◌, inl, inr, ℕ, Bool}
use Rattle.std.specs.Prelude.{Result, Err}
use Rattle.tsc_time.specs.Time.{Time}
use Rattle.tsc_ffi_store.specs.declared.refusal.Refusal.{Refusal}
use Rattle.tsc_ffi_store.specs.declared.seats.kinds.AnySeat.{AnySeat}
use Rattle.tsc_ffi_store.specs.Kinds.{ByKind}
use Rattle.tsc_ffi_store.specs.StripedCalls.{AnswersStripedWrite, AnswersStripedMayWrite}
use Rattle.tsc_ffi_store.specs.Writes.{AskedWrite, AnswersSeatWrite, AnswersSeatMayWrite}
use Rattle.tsc_ffi_store.specs.WriteSteps.{AsksOfWrite, AsksOfWriteStriped}
use Rattle.tsc_ffi_store.proofs.ByKinds.{by_kind}

-- one case more, between two
with_between : {P Q R : Type 0} → P ⊎ R → P ⊎ Q ⊎ R
with_between (inl p) = inl p
with_between (inr r) = inr (inr r)

pub write_refused : (asked : AskedWrite) (seen : ℕ) (at : Time) (why : Refusal)
    (old new : AnySeat) → ByKind (AsksOfWrite asked) (AsksOfWriteStriped asked) old new (Err why)
    → ByKind {A = Result (Unit {0}) Refusal} (AnswersSeatWrite asked seen at)
    (AnswersStripedWrite asked seen at) old new (Err why)
write_refused asked seen at why old new did =
    by_kind (AsksOfWrite asked) (AsksOfWriteStriped asked) (AnswersSeatWrite asked seen at)
    (AnswersStripedWrite asked seen at) (Err why) (Err why)
    (λ x y a. record { reported = tt; front = tt; refused = inl (a.refused, a.unchanged) })
    (λ x y a. record { reported = tt; front = tt; refused = with_between a.refused }) old new did

pub may_refused : (asked : AskedWrite) (seen : ℕ) (may : Bool) (why : Refusal)
    (old new : AnySeat) → ByKind (AsksOfWrite asked) (AsksOfWriteStriped asked) old new (Err why)
    → ByKind {A = Result (Unit {0}) Refusal} (AnswersSeatMayWrite asked seen may)
    (AnswersStripedMayWrite asked seen may) old new (Err why)
may_refused asked seen may why old new did =
    by_kind (AsksOfWrite asked) (AsksOfWriteStriped asked) (AnswersSeatMayWrite asked seen may)
    (AnswersStripedMayWrite asked seen may) (Err why) (Err why)
    (λ x y a. record { reported = tt; front = tt; refused = (a.refused, a.unchanged) })
    (λ x y a. record { reported = tt; front = tt; refused = a.refused }) old new did
