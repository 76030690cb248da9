-- Proves the contract of `Lease::read`. Reads a key at a time, while its latch is held.
use Rattle.std.proofs.Common.{subst}
use Rattle.std.specs.Prelude.{is_ok}
use Rattle.timestamp_cache.specs.Words.{ValueView}
use Rattle.example_lease_holder.specs.ReadSeats.{seen_by}
use Rattle.example_lease_holder.specs.Reads.{HasRead, read_of, since}
use Rattle.example_lease_holder.proofs.Carried.{added_since, handed_on, kept_or_not, one_more}
use Rattle.example_lease_holder.proofs.lease.Lease.read.Goals as goal

pub invariant_of-held : goal.invariant_of-held
invariant_of-held g c =
    let held = c.leave.new.held in
    let handed = seen_by held.handed.seat in
    let more =
    handed_on c.args.me.now.seat c.add.new.seat c.args.held.now.span held.span c.of-read.result
    c.in_ok-front.front handed held.answered.items c.leave.ensures.same.0
    c.in_ok-front.ensures.added held.whole c.leave.ensures.learned held.added in
    record {
      whole = held.whole;
      added = kept_or_not (HasRead held.span handed) held.answered.items
          c.push.new.self.items c.of-read.result (is_ok c.push.result) c.push.ensures.items
          held.added more;
    }

pub returns-in-Ok-clause-added : goal.returns-in-Ok-clause-added
returns-in-Ok-clause-added g c =
    let held = c.args.held.now in
    let old = c.args.me.now.seat in
    subst (λ (read : ValueView). HasRead held.span
    (since (seen_by old) (seen_by c.add.new.seat)) read) {y = read_of c.args.at c.args.by}
    c.of-read.ensures
    (added_since old c.add.new.seat held.span c.of-read.result c.in_ok-front.front
    c.in_ok-front.ensures.added held.whole)

pub returns-in-Ok-clause-answered : goal.returns-in-Ok-clause-answered
returns-in-Ok-clause-answered g c =
    one_more c.args.held.now.answered.items c.leave.new.held.answered.items c.push.new.self.items
    c.of-read.result _ c.in-Ok.ensures.items c.leave.ensures.same.2 c.of-read.ensures
