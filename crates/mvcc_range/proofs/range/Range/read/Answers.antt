-- Proves the contract of `Range::read`. Answers a read of a transaction as of its time, and
-- remembers that.
use Rattle.std.proofs.Common.{◌≡◌, ◌∙◌, ap, subst, List}
use Rattle.timestamp_cache.specs.Words.{Time, SpanView}
use Rattle.mvcc_versions.specs.Versions.{Contents, Write, Matches, as_of, after_writes}
use Rattle.mvcc_range.specs.Serial.{Transaction, executed}
use Rattle.mvcc_range.proofs.range.Range.read.Goals as goal

pub returns-clause-own : goal.returns-clause-own
returns-clause-own c =
    let t = c.args.transaction.now in
    let range = c.args.self.now in
    let rows = c.in_ok-rows.rows.items in
    let read = c.in_ok-read.read in
    let there : Contents = as_of t.at range.chains in
    let at : c.transaction.inside.at ≡ t.at
    = ap (λ (x : Transaction). x.at) c.transaction.view_is in
    let was : Matches read there
    = subst (λ (u : Time). Matches read (as_of u range.chains)) at c.in_ok-read.ensures.1 in
    let ws : c.deref.result.now ≡ t.writes
    = c.deref.ensures.value ∙ ap (λ (x : Transaction). x.writes) c.transaction.view_is in
    let seen = c.in_ok-rows.ensures there was in
    subst (λ (s : SpanView). Matches (record { span = s; rows = rows }) (executed there t))
    c.in_ok-read.ensures.0
    (subst (λ (xs : List Write). Matches (record { span = read.span; rows = rows })
    (λ k. after_writes k (there k) xs)) ws seen)
