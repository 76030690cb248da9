-- Proves the contract of `Range::commit`. Commits a transaction at the earliest time, from the one
-- on at which it reads, that is free for its writes.
use Rattle.std.proofs.Common.{◌≡◌, ◌∙◌, ap, subst, List, Option}
use Rattle.std.specs.List.{All}
use Rattle.tsc_time.proofs.TimeOrder.{no_earlier-transitive}
use Rattle.timestamp_cache.specs.Words.{Time}
use Rattle.timestamp_cache.specs.Earliest.{IsEarliest, ReportsEarliest}
use Rattle.mvcc_versions.specs.Versions.{Read, as_of, Matches}
use Rattle.mvcc_range.specs.Serial.{Transaction}
use Rattle.mvcc_range.specs.Steps.{IsFree}
use Rattle.mvcc_range.proofs.Checks.{all_within}
use Rattle.mvcc_range.proofs.range.Range.commit.Goals as goal

pub returns-clause-ok : goal.returns-clause-ok
returns-clause-ok c =
    let range = c.args.self.now in
    let t = c.args.transaction.now in
    let at = c.in-Some.at in
    let earliest : IsEarliest (IsFree range.cache range.chains t.by t.writes) t.at at
    = subst (λ (o : Option Time). ReportsEarliest (IsFree range.cache range.chains t.by t.writes)
    t.at o) c.in-Some.is c.free_time.ensures in
    let reads : c.deref.result.now ≡ t.reads = c.deref.ensures.value
    ∙ ap (λ (x : Transaction). x.reads) c.transaction.view_is in (
      earliest,
      record {
        may = record {
          in_time = no_earlier-transitive range.threshold t.at at c.in_ok-check_commit.ensures.ok.1
              earliest.from_on;
          within = all_within t.writes range.span c.in_ok-check_commit.ensures.ok.0;
          refreshed =
              subst (λ (rs : List Read). All (λ (r : Read). Matches r (as_of at range.chains)) rs)
              reads (c.in_ok-so.ensures.0 c.if-not-so.false);
          free = earliest.holds;
        };
        does = c.in_ok-store_versions.ensures.ok;
      },
    )
