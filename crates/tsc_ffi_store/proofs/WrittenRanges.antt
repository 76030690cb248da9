-- A range of two keys by their order.
use Rattle.std.proofs.Common.{◌≡◌, ◌∙◌, ap, Bool, true, false}
use Rattle.std.specs.Prelude.{Some}
use Rattle.std.specs.declared.cmp.Ordering.TheVariants.{Less, Equal, Greater}
use Rattle.std.specs.Ordering.{is_lt, ordering_reverse}
use Rattle.tsc_span.specs.Span.{KeyBytes, key_cmp, is_inverted, range, range_for_lookup}
use Rattle.tsc_span.proofs.CutsTotal.{key_cmp_back}

pub inverted_of_greater : (from to : KeyBytes) → key_cmp from to ≡ Greater →
    is_inverted from to ≡ true
inverted_of_greater from to h = ap is_lt (key_cmp_back from to ∙ ap ordering_reverse h)

-- a range that is not inverted is the one that is looked up
pub upright : (from to : KeyBytes) (xf xt : Bool) → is_inverted from to ≡ false →
    range from to xf xt ≡ Some (range_for_lookup from to xf xt)
upright from to xf xt h = simp h

pub upright_of_less : (from to : KeyBytes) (xf xt : Bool) → key_cmp from to ≡ Less →
    range from to xf xt ≡ Some (range_for_lookup from to xf xt)
upright_of_less from to xf xt h =
    upright from to xf xt (ap is_lt (key_cmp_back from to ∙ ap ordering_reverse h))

pub upright_of_equal : (from to : KeyBytes) (xf xt : Bool) → key_cmp from to ≡ Equal →
    range from to xf xt ≡ Some (range_for_lookup from to xf xt)
upright_of_equal from to xf xt h =
    upright from to xf xt (ap is_lt (key_cmp_back from to ∙ ap ordering_reverse h))
