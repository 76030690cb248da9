-- An Add at a seat of either kind, without tries and with some.
use Rattle.std.proofs.Common.{◌≡◌, refl, ℕ}
use Rattle.std.specs.Prelude.{◌≢◌, Result, Err}
use Rattle.tsc_cache.specs.declared.added.Added.{Added}
use Rattle.tsc_ffi_store.specs.declared.refusal.Refusal.{Refusal}
use Rattle.tsc_ffi_store.specs.declared.refusal.Refusal.TheVariants as refusal
use Rattle.tsc_ffi_store.specs.declared.seats.kinds.AnySeat.{AnySeat}
use Rattle.tsc_ffi_store.specs.Decode.{AskedAdd, AskedBatch}
use Rattle.tsc_ffi_store.specs.Kinds.{ByKind}
use Rattle.tsc_ffi_store.specs.SeatCalls.{AnswersSeatAdd, AnswersSeatAddAll}
use Rattle.tsc_ffi_store.specs.SeatCalls.{AnswersTriedAdd, AnswersTriedAddAll}
use Rattle.tsc_ffi_store.specs.StripedCalls.{AnswersStripedAdd, AnswersStripedAddAll}
use Rattle.tsc_ffi_store.specs.StripedCalls.{AnswersStripedTriedAdd, AnswersStripedTriedAll}
use Rattle.tsc_ffi_store.proofs.ByKinds.{by_kind, by_same}

abbrev pub Did : Type 0
Did = Result (Unit {0}) Refusal

pub no_tries_one : (asked : AskedAdd) (tries place : ℕ) (reported : Added) (seat : AnySeat)
    → tries ≡ 0 → ByKind {A = Did} (AnswersSeatAdd asked tries place reported)
    (AnswersStripedAdd asked tries place reported) seat seat (Err refusal.Tries)
no_tries_one asked tries place reported seat none =
    by_same {A = Did} (AnswersSeatAdd asked tries place reported)
    (AnswersStripedAdd asked tries place reported) (Err refusal.Tries)
    (λ x. record {
      no_tries = λ zero. record { reported = refl; same = refl };
      tried = λ some. absurd (some none);
    })
    (λ x. record {
      no_tries = λ zero. (refl, refl);
      tried = λ some. absurd (some none);
    }) seat

pub tried_one : (asked : AskedAdd) (tries place : ℕ) (reported : Added) (did : Did)
    (old new : AnySeat) → tries ≢ 0 → ByKind {A = Did} (AnswersTriedAdd asked place reported)
    (AnswersStripedTriedAdd asked place reported) old new did
    → ByKind {A = Did} (AnswersSeatAdd asked tries place reported)
    (AnswersStripedAdd asked tries place reported) old new did
tried_one asked tries place reported did old new some is =
    by_kind {A = Did} {B = Did} (AnswersTriedAdd asked place reported)
    (AnswersStripedTriedAdd asked place reported) (AnswersSeatAdd asked tries place reported)
    (AnswersStripedAdd asked tries place reported) did did
    (λ x y a. record { no_tries = λ zero. absurd (some zero); tried = λ more. a })
    (λ x y a. record { no_tries = λ zero. absurd (some zero); tried = λ more. a }) old new is

pub no_tries_all : (asked : AskedBatch) (tries place : ℕ) (reported : Added) (seat : AnySeat)
    → tries ≡ 0 → ByKind {A = Did} (AnswersSeatAddAll asked tries place reported)
    (AnswersStripedAddAll asked tries place reported) seat seat (Err refusal.Tries)
no_tries_all asked tries place reported seat none =
    by_same {A = Did} (AnswersSeatAddAll asked tries place reported)
    (AnswersStripedAddAll asked tries place reported) (Err refusal.Tries)
    (λ x. record {
      no_tries = λ zero. record { reported = refl; same = refl };
      tried = λ some. absurd (some none);
    })
    (λ x. record {
      no_tries = λ zero. (refl, refl);
      tried = λ some. absurd (some none);
    }) seat

pub tried_all : (asked : AskedBatch) (tries place : ℕ) (reported : Added) (did : Did)
    (old new : AnySeat) → tries ≢ 0 → ByKind {A = Did} (AnswersTriedAddAll asked place reported)
    (AnswersStripedTriedAll asked place reported) old new did
    → ByKind {A = Did} (AnswersSeatAddAll asked tries place reported)
    (AnswersStripedAddAll asked tries place reported) old new did
tried_all asked tries place reported did old new some is =
    by_kind {A = Did} {B = Did} (AnswersTriedAddAll asked place reported)
    (AnswersStripedTriedAll asked place reported) (AnswersSeatAddAll asked tries place reported)
    (AnswersStripedAddAll asked tries place reported) did did
    (λ x y a. record { no_tries = λ zero. absurd (some zero); tried = λ more. a })
    (λ x y a. record { no_tries = λ zero. absurd (some zero); tried = λ more. a }) old new is
