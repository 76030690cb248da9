-- What each call on a shared range answers, and what its client has seen then.
use Rattle.std.specs.Prelude.{
  ◌≡◌,
  ◌↔◌,
  ◌⊎◌,
  ◌&&◌,
  ℕ,
  suc,
  ◌<◌,
  ◌≤◌,
  ◌==◌,
  List,
  [],
  ◌∷◌,
  ◌++◌,
  All,
  not,
  true,
  false,
  count_by,
  reverse,
  Vec,
  Result,
  Ok,
  Err,
  IfOk,
  IfErr,
  OnOk,
  OnErr,
  IsErrOf,
}
use Rattle.tsc_cache.specs.ConfigView.{fits}
use Rattle.std.specs.declared.alloc.Global.{Global}
use Rattle.timestamp_cache.specs.Words.{Time, is_before, SpanView, ConfigView}
use Rattle.tsc_cache.specs.declared.fault.CacheFault.{CacheFault}
use Rattle.tsc_cache.specs.declared.fault.CacheFault.TheVariants as fault
use Rattle.mvcc_versions.specs.Versions.{Row, is_within, are_within}
use Rattle.mvcc_range.specs.declared.range.Outcome.{Outcome}
use Rattle.mvcc_range.specs.declared.fault.RangeFault.{RangeFault}
use Rattle.mvcc_range.specs.declared.fault.RangeFault.TheVariants.{OutOfRange, TooEarly, TooLarge}
use Rattle.mvcc_range.specs.Serial.{Transaction}
use Rattle.mvcc_range.specs.Steps.{RangeView, IsOpened, IsSame, Collects, reads_fit}
use Rattle.mvcc_range.specs.Calls.{Reads, SeesOwn, ReportsTooLarge, HandsOnBy, Ends}
use Rattle.mvcc_range.specs.Laws.{IsSerializable}
use Rattle.mvcc_shared.specs.declared.answers.Closed.{Closed}
use Rattle.mvcc_shared.specs.declared.answers.NotCommitted.{NotCommitted}
use Rattle.mvcc_shared.specs.History.{
  Call,
  has_read,
  has_ended,
  has_handed_on,
  has_collected,
  was_refused,
  Makes,
  History,
  calls_of,
  range_after,
  log_of,
  BeginsWith,
  IsLegal,
}
use Rattle.mvcc_shared.specs.Clients.{
  SharedView,
  ClientView,
  FrontView,
  DealerView,
  IsClient,
  new_client,
}

-- A range of a span is opened with these settings for that many clients, none of which is dealt.
pub record Opens (span : SpanView) (config : ConfigView) (clients : ℕ) (range : SharedView)
    (dealer : DealerView) : Type 0 where
  pub config_is : range.terms.config ≡ config
  pub clients_are : range.terms.clients ≡ clients
  pub opened : IsOpened config range.terms.opened
  pub span_is : range.terms.opened.span ≡ span
  pub dealer_is : dealer ≡ record { range = range; dealt = 0 }

-- The next client is dealt, which nobody has used.
pub record Deals (old new : DealerView) (client : ClientView) : Type 0 where
  pub some : old.dealt < old.range.terms.clients
  pub client_is : client ≡ new_client old.range old.dealt
  pub dealer : new ≡ record { range = old.range; dealt = suc old.dealt }

-- All clients are dealt, and the dealer stays as it is.
pub record DealsNone (old new : DealerView) : Type 0 where
  pub all : old.dealt ≡ old.range.terms.clients
  pub same : new ≡ old

-- A client stays who it is, and is as clients always are. What it has seen begins with what it had
-- seen.
pub record GoesOn (old new : ClientView) : Type 0 where
  pub range : new.range ≡ old.range
  pub number : new.number ≡ old.number
  pub begins : BeginsWith new.seen old.seen
  pub is_client : IsClient new

-- A client makes a call. Before it stands a history that begins with all that the client had seen,
-- and that has no more calls of the client. The call is the next one, and the last that the client
-- has seen then. Of the range before it, of the call, and of the range after it, something holds.
pub record Calls (old new : ClientView) (holds : RangeView → Call → RangeView → Type 0) : Type 0
  where
    pub goes_on : GoesOn old new
    pub before : History
    pub call : Call
    pub range : RangeView
    pub begins : BeginsWith before old.seen
    pub own : calls_of old.number before ≡ calls_of old.number old.seen
    pub seen : new.seen
        ≡ before ++ record { client = old.number; call = call; range = range } ∷ []
    pub made : Makes (range_after old.range.terms.opened before) call range
    pub answers : holds (range_after old.range.terms.opened before) call range

-- What a read answers on a range, as the range's own: the rows that the transaction sees, or why it
-- is refused.
pub record ReadsAt (old : RangeView) (call : Call) (new : RangeView) (before after : Transaction)
    (span : SpanView) (now : Time) (result : Result (Vec Row Global) RangeFault) : Type 0 where
  pub ok : OnOk result ((call ≡ has_read before after span now)
      × Reads old new before after span now)
  pub own : IfOk result (λ rows. SeesOwn old before span rows.items)
  pub err : OnErr result ((call ≡ was_refused) × (new ≡ old) × (after ≡ before))
  pub out_of_range : IsErrOf result OutOfRange ↔ (is_within span old.span ≡ false)
  pub too_early : IsErrOf result TooEarly
      ↔ ((is_within span old.span && is_before before.at old.threshold) ≡ true)
  pub too_large : IsErrOf result TooLarge
      ↔ ((is_within span old.span && not (is_before before.at old.threshold)
      && not (fits old.cache.config span)) ≡ true)

-- a commit was refused with this fault
abbrev pub IsRefusedAs : Result Outcome NotCommitted → RangeFault → Type 0
IsRefusedAs (Ok outcome) why = ⊥
IsRefusedAs (Err refused) why = refused.fault ≡ why

-- When a commit is refused, but for want of memory, for which none is that is wrong otherwise.
pub record ReportsRefused (range : RangeView) (t : Transaction)
    (result : Result Outcome NotCommitted) : Type 0 where
  pub out_of_range : IsRefusedAs result OutOfRange ↔ (are_within t.writes range.span ≡ false)
  pub too_early : IsRefusedAs result TooEarly
      ↔ ((are_within t.writes range.span && is_before t.at range.threshold) ≡ true)
  pub too_large : IsRefusedAs result TooLarge
      ↔ ((are_within t.writes range.span && not (is_before t.at range.threshold)
      && not (reads_fit range.cache.config t.reads)) ≡ true)

-- What a commit answers on a range, as the range's own: how the transaction ends, or why it is
-- refused. A transaction whose commit is refused comes back.
pub record EndsAt (old : RangeView) (call : Call) (new : RangeView) (t : Transaction) (now : Time)
    (result : Result Outcome NotCommitted) : Type 0 where
  pub ok : IfOk result (λ outcome. (call ≡ has_ended t now outcome) × Ends old new t now outcome)
  pub err : OnErr result ((call ≡ was_refused) × IsSame old new)
  pub again : IfErr result (λ refused. refused.transaction ≡ t)
  pub why : ReportsRefused old t result

-- What a hand-over to a new lease answers on a range, as the range's own.
pub record HandsOnAt (old : RangeView) (call : Call) (new : RangeView) (config : ConfigView)
    (most : ℕ) (now : Time) (result : Result Unit CacheFault) : Type 0 where
  pub ok : OnOk result ((call ≡ has_handed_on config) × HandsOnBy config most now old new)
  pub err : OnErr result ((call ≡ was_refused) × (new ≡ old))
  pub too_large : IsErrOf result fault.NoMemory
      ⊎ ReportsTooLarge old.cache old.span config most (IsErrOf result fault.TooLarge)

-- What the dropping of old versions makes of a range, as the range's own.
pub record CollectsAt (old : RangeView) (call : Call) (new : RangeView) (before : Time) : Type 0
  where
    pub is : call ≡ has_collected before
    pub collects : Collects old new before

-- A front stands for all that a client has seen.
pub record Shows (client : ClientView) (front : FrontView) : Type 0 where
  pub range : front.range ≡ client.range
  pub seen : front.seen ≡ client.seen

-- A client has learned a front: what it has seen then begins with what it had seen, and with the
-- front's history. It has no more calls of the client.
pub record Learns (old new : ClientView) (front : FrontView) : Type 0 where
  pub goes_on : GoesOn old new
  pub own : calls_of old.number new.seen ≡ calls_of old.number old.seen
  pub begins : BeginsWith new.seen front.seen

-- At closing each client that was dealt is there, and there is one legal history. What each client
-- has seen is a beginning of it, and it has just the calls that the client has seen of its own, and
-- none of others. The range is what it leaves. The log has just the transactions that committed in
-- it, in that order, and they are serializable.
pub record Closes (dealer : DealerView) (clients : List ClientView) (closed : Closed) : Type 0
  where
    pub each : (number : ℕ) → number < dealer.dealt
        → count_by (λ (client : ClientView). client.number == number) clients ≡ 1
    pub history : History
    pub legal : IsLegal dealer.range.terms history
    pub begins : All (λ client. BeginsWith history client.seen) clients
    pub own : All (λ client. calls_of client.number history ≡ calls_of client.number client.seen)
        clients
    pub none : (number : ℕ) → dealer.dealt ≤ number → calls_of number history ≡ []
    pub range : closed.range ≡ range_after dealer.range.terms.opened history
    pub log : closed.log.items ≡ log_of history
    pub serializable : IsSerializable (reverse closed.log.items) closed.range.chains
