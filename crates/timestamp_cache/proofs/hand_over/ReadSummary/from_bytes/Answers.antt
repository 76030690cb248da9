-- What is read was written.
use Rattle.std.proofs.Common.{arith, rules}
use Rattle.timestamp_cache.specs.SummaryReading.{Gives, summary_of}
use Rattle.timestamp_cache.specs.HandOver.{Summary}
use Rattle.timestamp_cache.proofs.SummaryFrame.{is_written}
use Rattle.timestamp_cache.proofs.hand_over.ReadSummary.from_bytes.Goals as goal

pub returns-clause-written : goal.returns-clause-written
returns-clause-written c =
    let read : Gives (λ (reported : Summary). reported) c.summary_in.result
    (summary_of c.args.bytes.now) =
    search rules in
    is_written c.args.bytes.now c.summary_in.result (λ i. omega (arith, c.type_inv.bytes i)) read
