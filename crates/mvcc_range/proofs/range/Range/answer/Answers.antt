-- Proves the contract of `Range::answer`. Remembers a read that was answered, and gives it to its
-- transaction.
use Rattle.std.proofs.Common.{◌≡◌, ◌∙◌, ap, subst}
use Rattle.tsc_cache.specs.CacheView.{StandsAfter}
use Rattle.timestamp_cache.specs.Words.{ValueView, owner_of, SpanView, CacheView}
use Rattle.mvcc_versions.specs.Versions.{Read}
use Rattle.mvcc_range.specs.Serial.{Transaction}
use Rattle.mvcc_range.specs.Steps.{RangeView}
use Rattle.mvcc_range.proofs.range.Range.answer.Goals as goal

pub returns-clause-ok : goal.returns-clause-ok
returns-clause-ok c =
    let value_of : Transaction → ValueView = λ t. record { time = t.at; owner = owner_of t.by } in
    let value : c.of-value.result ≡ value_of c.args.transaction.now = c.of-value.ensures
    ∙ ap value_of c.transaction.view_is in
    let span : c.read.inside.span ≡ c.args.read.span = ap (λ (r : Read). r.span) c.read.view_is in
    let cache : c.self.inside.cache ≡ c.args.self.now.cache =
    ap (λ (r : RangeView). r.cache) c.self.view_is in
    record {
      in_time = c.requires.in_time;
      matches = c.requires.matches;
      span = ap (λ (r : RangeView). r.span) c.self.view_is;
      threshold = ap (λ (r : RangeView). r.threshold) c.self.view_is;
      chains = ap (λ (r : RangeView). r.chains) c.self.view_is;
      remembered = subst (λ (v : ValueView). StandsAfter c.args.self.now.cache c.add.new.cache
          (record { span = c.args.read.span; value = v }) c.args.now) value
          (subst (λ (s : SpanView). StandsAfter c.args.self.now.cache c.add.new.cache
          (record { span = s; value = c.of-value.result }) c.args.now) span
          (subst (λ (x : CacheView). StandsAfter x c.add.new.cache
          (record { span = c.read.inside.span; value = c.of-value.result }) c.args.now) cache
          c.in_ok-add.ensures.stands));
    }
