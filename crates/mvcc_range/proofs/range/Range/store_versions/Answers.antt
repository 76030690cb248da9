-- Proves the contract of `Range::store_versions`. Remembers the reads of a transaction at a time,
-- and lays down its writes as versions of it.
use Rattle.std.proofs.Common.{◌≡◌, ◌∙◌, ap, sym, subst, map, List}
use Rattle.std.proofs.lemmas.Result.{on_ok_weaker}
use Rattle.tsc_cache.specs.Batch.{all_fit}
use Rattle.tsc_cache.specs.CacheView.{StandsAfterAll}
use Rattle.timestamp_cache.specs.Words.{Mark}
use Rattle.mvcc_versions.specs.Versions.{Write, Read, stored, chain_of}
use Rattle.mvcc_range.specs.Serial.{Transaction}
use Rattle.mvcc_range.specs.Steps.{RangeView, mark_of, reads_fit}
use Rattle.mvcc_range.proofs.Checks.{fits_marks}
use Rattle.mvcc_range.proofs.range.Range.store_versions.Goals as goal

pub store_versions-requires : goal.store_versions-requires
store_versions-requires c =
    let at = c.args.at in
    let t = c.args.transaction.now in
    let marks : c.deref-3.result.now ≡ map (mark_of at t.by) t.reads = c.deref-3.ensures.value
    ∙ (c.in_ok-marks.ensures
    ∙ (ap (λ (rs : List Read). map (mark_of at c.transaction.inside.by) rs)
    c.deref.ensures.value
    ∙ ap (λ (x : Transaction). map (mark_of at x.by) x.reads) c.transaction.view_is)) in
    ap (λ (ms : List Mark). all_fit c.self.inside.cache.config ms) marks
    ∙ (sym (fits_marks c.self.inside.cache.config at t.by t.reads)
    ∙ (ap (λ (r : RangeView). reads_fit r.cache.config t.reads) c.self.view_is ∙ c.requires))

pub returns-clause-ok : goal.returns-clause-ok
returns-clause-ok c =
    let at = c.args.at in
    let t = c.args.transaction.now in
    let marks : c.deref-3.result.now ≡ map (mark_of at t.by) t.reads = c.deref-3.ensures.value
    ∙ (c.in_ok-marks.ensures
    ∙ (ap (λ (rs : List Read). map (mark_of at c.transaction.inside.by) rs)
    c.deref.ensures.value
    ∙ ap (λ (x : Transaction). map (mark_of at x.by) x.reads) c.transaction.view_is)) in
    on_ok_weaker c.store_versions.result (λ done. record {
      span = ap (λ (r : RangeView). r.span) c.self.view_is;
      threshold = ap (λ (r : RangeView). r.threshold) c.self.view_is;
      remembered = subst (λ (r : RangeView). StandsAfterAll r.cache c.store_versions.new.cache
          (map (mark_of at t.by) t.reads) c.args.now) c.self.view_is
          (subst (λ (ms : List Mark). StandsAfterAll c.self.inside.cache c.store_versions.new.cache
          ms c.args.now) marks done.0);
      chains = λ k. done.1 k
          ∙ (ap (λ (ws : List Write). stored k at c.transaction.inside.by ws
          (chain_of c.self.inside.versions k)) c.as_slice.ensures.value
          ∙ (ap (λ (x : Transaction). stored k at x.by x.writes
          (chain_of c.self.inside.versions k)) c.transaction.view_is
          ∙ ap (λ (r : RangeView). stored k at t.by t.writes (chain_of r.chains k))
          c.self.view_is));
    }) c.store_versions.ensures.done
