-- Proves the contract of `Held::new`. A key that nobody has read yet, with its value from the
-- beginning of time on.
use Rattle.std.proofs.Common.{List, All, sym, subst}
use Rattle.std.proofs.lemmas.List.Elements.{All-nil}
use Rattle.timestamp_cache.specs.Words.{ValueView}
use Rattle.example_lease_holder.specs.Reads.{HasRead}
use Rattle.example_lease_holder.specs.ReadSeats.{seen_by}
use Rattle.example_lease_holder.proofs.Carried.{point_overlaps_itself}
use Rattle.example_lease_holder.proofs.lease.Held.new.Goals as goal

pub invariant_of-result-clause-whole : goal.invariant_of-result-clause-whole
invariant_of-result-clause-whole g c = point_overlaps_itself _ _ c.point.ensures

pub invariant_of-result-clause-added : goal.invariant_of-result-clause-added
invariant_of-result-clause-added g c =
    let P : ValueView → Type 0 = HasRead c.point.result (seen_by c.args.handed.seat) in
    subst (λ (reads : List ValueView). All P reads) (sym c.new-2.ensures.items) (All-nil P)
