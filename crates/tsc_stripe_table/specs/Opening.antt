-- What lies in the slots when the table is made. (For private contracts.)
use Rattle.std.specs.Prelude.{◌≡◌, ℕ, List, []}
use mathlib.Core.Option as maybe
use lib.ListN.{get_elem?}
use Rattle.tsc_cache.specs.State.{opening}
use Rattle.tsc_cache.specs.CacheView.{RepresentsState}
use Rattle.tsc_stripe_table.specs.Stripes.{Terms}
use Rattle.tsc_stripe_table.specs.Rule.{StoredStripe}

-- nothing was added to a stripe
abbrev pub IsOpened : Terms → StoredStripe → Type 0
IsOpened setup x = RepresentsState x.value.cache setup.config (opening setup.config)

-- nothing was added to any of these stripes
abbrev pub AreOpened : Terms → List StoredStripe → Type 0
AreOpened setup all = (i : ℕ) (x : StoredStripe) → get_elem? all i ≡ maybe.some x
    → IsOpened setup x
