-- What was written is read back.
use Rattle.std.proofs.Common.{◌≡◌, rules}
use Rattle.timestamp_cache.specs.SummaryBytes.{content_bytes}
use Rattle.timestamp_cache.proofs.SummaryFrame.{written_back}
use Rattle.timestamp_cache.proofs.hand_over.ReadSummary.to_bytes.Goals as goal

pub returns-clause-read_back : goal.returns-clause-read_back
returns-clause-read_back c =
    let content : c.deref.result.now ≡ content_bytes c.args.self.now = search rules in
    written_back (λ v. v.items) c.sealed.result c.args.self.now c.deref.result.now content
    c.in_ok-content.ensures.made c.sealed.ensures
