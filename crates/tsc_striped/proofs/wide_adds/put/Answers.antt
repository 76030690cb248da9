-- Proves the contract of `put`. The next version takes the place of the cache in hand.
use Rattle.std.proofs.Common.{refl, sym, subst}
use Rattle.std.specs.Box.{with_value}
use Rattle.tsc_cache.specs.CacheView.{CacheView}
use Rattle.tsc_stripe_table.specs.Stripes.{IsStateOn}
use Rattle.tsc_stripe_table.specs.Rule.{StoredStripe}
use Rattle.tsc_stripe_table.specs.Steps.{reached_of}
use Rattle.tsc_striped.proofs.wide_adds.put.Goals as goal

pub release-requires-clause-can : goal.release-requires-clause-can
release-requires-clause-can c =
    let me = c.args.who.now.me in
    let has = c.requires.has.1 in
    let x : StoredStripe = with_value c.slot_mut-stored.result.now c.replace-before.new.self in (
      x,
      record {
        has = record {
          one = has.one;
          is_stripe = has.is_stripe;
          holds = has.holds;
          hand = refl;
        };
        stands = subst (λ (v : CacheView). IsStateOn me.0.setup c.args.stripe (reached_of me.0) v)
            (sym c.replace-before.ensures.cache) c.requires.stands;
      },
    )
