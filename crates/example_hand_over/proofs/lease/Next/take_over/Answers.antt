-- Proves the contract of `Next::take_over`. A new holder takes over what a summary tells of the
-- former one.
use Rattle.example_hand_over.proofs.Handing.{no_less}
use Rattle.example_hand_over.proofs.lease.Next.take_over.Goals as goal

pub invariant_of-result : goal.invariant_of-result
invariant_of-result g c = record {
  follows = ∣ no_less g.F.Former.cache c.in_ok-cache.cache c.apply.new.cache c.args.config
      c.args.reported.now g.F.Former.range c.args.now
      c.in_ok-cache.ensures.stands c.in_ok-apply.ensures.stands c.in_ok-apply.ensures.takes_over
      c.requires.range c.requires.reports ∣₁;
}

pub returns : goal.returns
returns g c =
    no_less g.F.Former.cache c.in_ok-cache.cache c.apply.new.cache c.args.config c.args.reported.now
    g.F.Former.range c.args.now
    c.in_ok-cache.ensures.stands c.in_ok-apply.ensures.stands c.in_ok-apply.ensures.takes_over
    c.requires.range c.requires.reports
