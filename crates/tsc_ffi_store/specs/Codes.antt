-- The numbers by which C knows why a call was refused. Zero is none of them: it says that a call
-- did what was asked.
use Rattle.std.specs.Prelude.{◌≡◌, ℕ, Result, Ok, Err, OnErr}
use Rattle.tsc_ffi_store.specs.declared.refusal.Refusal.{Refusal}
use Rattle.tsc_ffi_store.specs.declared.refusal.Refusal.TheVariants as refusal

abbrev pub code_of : Refusal → ℕ
code_of refusal.Closed = 1
code_of refusal.Time = 2
code_of refusal.Ends = 3
code_of refusal.KeyTooLong = 4
code_of refusal.Inverted = 5
code_of refusal.TooLarge = 6
code_of refusal.Outside = 7
code_of refusal.PageSize = 8
code_of refusal.MinPages = 9
code_of refusal.Retention = 10
code_of refusal.NoMemory = 11
code_of refusal.Seats = 12
code_of refusal.StillOut = 13
code_of refusal.Busy = 14
code_of refusal.Full = 15
code_of refusal.NoTime = 18
code_of refusal.SummaryVersion = 19
code_of refusal.SummaryLength = 20
code_of refusal.SummaryChecksum = 21
code_of refusal.SummaryForm = 22
code_of refusal.Tries = 23
code_of refusal.Stripes = 24
code_of refusal.Bounds = 25

-- what C is told of a call
abbrev pub code_for : {A : Type 0} → Result A Refusal → ℕ
code_for (Ok done) = 0
code_for (Err why) = code_of why

-- A number tells of a call that did what it answers. Of a refused one, all that could be told is
-- kept.
pub record Reports (Answers : Result (Unit {0}) Refusal → Type 0) (Kept : Type 0) (code : ℕ) : Type
    0 where
  pub did : Result (Unit {0}) Refusal
  pub code_is : code ≡ code_for did
  pub answers : Answers did
  pub kept : OnErr did Kept
