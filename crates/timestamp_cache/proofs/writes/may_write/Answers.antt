-- What is clear of the answer is clear of each read.
use Rattle.std.proofs.Common.{◌↔◌, IsTrue, subst}
use Rattle.tsc_time.specs.ValueView.{ValueView}
use Rattle.timestamp_cache.specs.Clear.{IsClearOf}
use Rattle.timestamp_cache.proofs.Earliest.{clear_of_reads}
use Rattle.timestamp_cache.proofs.writes.may_write.Goals as goal

pub returns-clause-value : goal.returns-clause-value
returns-clause-value c = subst (λ (v : ValueView). IsTrue c.is_clear_of.result ↔
    IsClearOf v c.args.by c.args.at) c.get_max.ensures.value c.is_clear_of.ensures

pub returns-clause-reads : goal.returns-clause-reads
returns-clause-reads c reported = clear_of_reads c.args.cache.now c.args.span.now c.args.by
    c.args.at ((returns-clause-value c).0 reported)
