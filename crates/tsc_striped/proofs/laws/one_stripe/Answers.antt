-- Without bounds the one stripe is a cache by itself.
use Rattle.tsc_striped.proofs.OneStripe.{one_stripe_over}
use Rattle.tsc_striped.proofs.laws.one_stripe.Goals as goal

pub returns : goal.returns
returns c = one_stripe_over
