-- A summary tells no less than each state answers that it tells of, on each span within its own.
use Rattle.timestamp_cache.proofs.Rising.{summaries_report_no_less}
use Rattle.timestamp_cache.proofs.laws.summaries_report_no_less.Goals as goal

pub returns : goal.returns
returns c = summaries_report_no_less
