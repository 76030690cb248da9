-- What is merged tells no less than its parts.
use Rattle.std.proofs.Common.{sym, subst}
use Rattle.timestamp_cache.specs.HandOver.{Summary}
use Rattle.tsc_striped_leases.specs.Merging.{ReportsNoLess}
use Rattle.tsc_striped_leases.proofs.AsOne.{merged_no_less}
use Rattle.tsc_striped_leases.proofs.merging.merged.Goals as goal

pub returns-in-Ok-clause-no_less : goal.returns-in-Ok-clause-no_less
returns-in-Ok-clause-no_less c =
    subst (λ (s : Summary). ReportsNoLess s c.args.parts.items) (sym c.in-Ok.ensures)
    (merged_no_less c.args.span.now c.args.parts.items)
