-- Proves the contract of `Served::commit`. A commit that is not refused is refused for no reason.
use Rattle.std.proofs.Common.{ap}
use Rattle.mvcc_range.specs.Serial.{Transaction}
use Rattle.mvcc_range.specs.declared.fault.RangeFault.TheVariants.{OutOfRange, TooEarly, TooLarge}
use Rattle.mvcc_shared.specs.History.{has_ended}
use Rattle.mvcc_shared.proofs.Refusing.{still_not}
use Rattle.mvcc_shared.proofs.served.Served.commit.Goals as goal

pub returns-in-Ok-clause-ends : goal.returns-in-Ok-clause-ends
returns-in-Ok-clause-ends c = record {
  ok = (
    ap (λ (t : Transaction). has_ended t c.args.now c.in-Ok.outcome) c.of-ended.ensures,
    c.in-Ok.ensures.ok,
  );
  err = tt;
  again = tt;
  why = record {
    out_of_range = still_not c.in-Ok.outcome OutOfRange c.in-Ok.ensures.out_of_range;
    too_early = still_not c.in-Ok.outcome TooEarly c.in-Ok.ensures.too_early;
    too_large = still_not c.in-Ok.outcome TooLarge c.in-Ok.ensures.too_large;
  };
}
