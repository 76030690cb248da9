-- Clients that put a key of a span where they find nothing there.
use Rattle.std.specs.Prelude.{◌≡◌, ℕ, List, [], ◌∷◌, Bool, true, false, Some, None}
use Rattle.std.specs.List.{Contains}
use Rattle.tsc_span.specs.Span.{covers}
use Rattle.timestamp_cache.specs.Words.{KeyBytes, SpanView}
use Rattle.mvcc_versions.specs.Versions.{Read, row_of}
use Rattle.mvcc_range.specs.declared.range.Outcome.{Outcome}
use Rattle.mvcc_range.specs.declared.range.Outcome.TheVariants.{Committed, Restart}
use Rattle.mvcc_range.specs.Serial.{Transaction}
use Rattle.mvcc_shared.specs.Clients.{ClientView, new_client}
use Rattle.mvcc_shared.specs.History.{calls_of, log_of}
use Rattle.example_bank.specs.declared.claims.ForTwo.{ForTwo}
use Rattle.example_bank.specs.declared.claims.Claimant.{Claimant}

-- the transactions that a client has committed
abbrev pub committed : ClientView → List Transaction
committed c = log_of (calls_of c.number c.seen)

-- whether a transaction has committed
abbrev pub has_committed : Outcome → Bool
has_committed (Committed at) = true
has_committed (Restart reason) = false

-- A range was opened for two clients, which nobody has used.
pub record IsForTwo (opened : ForTwo) : Type 0 where
  pub dealer : opened.dealer.range ≡ opened.range
  pub clients : opened.range.terms.clients ≡ 2
  pub one : opened.one ≡ new_client opened.range 0
  pub two : opened.two ≡ new_client opened.range 1

-- A client has stayed who it is.
pub record StaysAt (old new : ClientView) : Type 0 where
  pub range : new.range ≡ old.range
  pub number : new.number ≡ old.number

-- A transaction has read a span, and found no key of it.
pub record FoundNothing (span : SpanView) (t : Transaction) : Type 0 where
  pub read : Read
  pub among : Contains t.reads read
  pub of_span : read.span ≡ span
  pub nothing : (k : KeyBytes) → covers span k ≡ true → row_of k read.rows ≡ None

-- A client has committed nothing yet, and may do so where it found nothing.
pub record MayClaim (span : SpanView) (who : Claimant) : Type 0 where
  pub none : committed who.client ≡ []
  pub writes : who.transaction.writes ≡ []
  pub found : who.free ≡ true → FoundNothing span who.transaction

-- A transaction found nothing in a span, and puts a key of it.
pub record IsClaim (span : SpanView) (t : Transaction) : Type 0 where
  pub found : FoundNothing span t
  pub key : KeyBytes
  pub value : List ℕ
  pub in_span : covers span key ≡ true
  pub writes : t.writes ≡ record { key = key; content = Some value } ∷ []

-- A client has committed nothing but a claim, or nothing at all.
abbrev pub HasClaimed : SpanView → ClientView → Bool → Type 0
HasClaimed span client true = (t : Transaction) × (committed client ≡ t ∷ []) × IsClaim span t
HasClaimed span client false = committed client ≡ []
