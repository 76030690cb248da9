-- Small marks fit each page that has room for any span.
use Rattle.std.proofs.Common.{◌≡◌, refl, true, ℕ, ◌≤◌, List, [], ◌∷◌, arith}
use Rattle.std.specs.Prelude.{nat_le}
use Rattle.std.proofs.lemmas.Bool.{and_parts, and_from}
use Rattle.std.proofs.lemmas.Bool.Decides.{nat_tests}
use Rattle.tsc_span.specs.Span.{span_cost}
use Rattle.tsc_page_model.specs.Page.{Mark}
use Rattle.tsc_cache.specs.ConfigView.{ConfigView, fits}
use Rattle.tsc_cache.specs.Batch.{all_fit}
use Rattle.tsc_striped.specs.Limits.{least_page_max}
use Rattle.tsc_striped.specs.Sizes.{are_small}

within : (a b : ℕ) → a ≤ b → nat_le a b ≡ true
within a b le = grind (arith, nat_tests)

reported : (a b : ℕ) → nat_le a b ≡ true → a ≤ b
reported a b is = grind (arith, nat_tests)

pub small_fit : (config : ConfigView) (ms : List Mark) → least_page_max ≤ config.page_max
    → are_small ms ≡ true → all_fit config ms ≡ true
small_fit config [] room small = refl
small_fit config (m ∷ ms) room small =
    let both = and_parts (nat_le (span_cost m.span) least_page_max) (are_small ms) small in
    let one = reported (span_cost m.span) least_page_max both.0 in
    and_from (fits config m.span) (all_fit config ms)
    (within (span_cost m.span) config.page_max (omega (arith, one, room)))
    (small_fit config ms room both.1)
