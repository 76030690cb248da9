-- Proves the contract of `summary_at`. As `summary`, at a seat of a shared cache, which goes on.
use Rattle.std.proofs.Common.{rules, arith}
use Rattle.timestamp_cache.proofs.SeatReads.{summarizes_at}
use Rattle.timestamp_cache.proofs.hand_over.summary_at.Goals as goal

pub returns-clause-reported : goal.returns-clause-reported
returns-clause-reported c = summarizes_at c.args.seat.now c.snapshot.new.seat c.in_ok-snapshot.snapshot _
    c.args.span.now c.args.most _ c.in_ok-snapshot.ensures.taken (search rules)
    c.in_ok-reported.ensures (omega arith)
