-- Each summary is read back from its bytes as it is, and no beginning of the bytes is read.
use Rattle.timestamp_cache.proofs.SummaryFrame.{read_back, cut_refused}
use Rattle.timestamp_cache.proofs.laws.summaries_are_read_back.Goals as goal

pub returns : goal.returns
returns c = record { whole = read_back; cut = cut_refused }
