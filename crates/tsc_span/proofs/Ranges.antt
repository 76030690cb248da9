-- What a range is, by the order of its two keys.
use Rattle.std.proofs.Common.{◌≡◌, ◌∙◌, refl, sym, ap, Bool, true, false, ◌&&◌, Some, None, if◌then◌else◌, ◌∷◌, []}
use Rattle.std.specs.declared.cmp.Ordering.TheVariants.{Less, Equal, Greater}
use Rattle.std.specs.Ordering.{is_lt, is_eq, ordering_reverse}
use Rattle.std.proofs.lemmas.Map.Text.{is_eq-slice_cmp}
use Rattle.std.specs.Str.{bytes_eq}
use Rattle.tsc_span.specs.Span.{KeyBytes, key_cmp, nothing, between, point, start_cut, end_cut, is_inverted, range, end_keys}
use Rattle.tsc_span.proofs.CutsTotal.{key_cmp_back}

pub range_of_greater : (from to : KeyBytes) (xf xt : Bool) → key_cmp from to ≡ Greater →
    range from to xf xt ≡ None
range_of_greater from to xf xt h =
    let inverted : is_inverted from to ≡ true =
    ap is_lt (key_cmp_back from to ∙ ap ordering_reverse h) in
    simp inverted

pub range_of_equal : (from to : KeyBytes) (xf xt : Bool) → key_cmp from to ≡ Equal →
    range from to xf xt ≡ Some (if xf && xt then nothing else point from)
range_of_equal from to xf xt h =
    let upright : is_inverted from to ≡ false =
    ap is_lt (key_cmp_back from to ∙ ap ordering_reverse h) in
    let same : bytes_eq from to ≡ true = sym (is_eq-slice_cmp from to) ∙ ap is_eq h in
    simp (upright, same)

pub range_of_less : (from to : KeyBytes) (xf xt : Bool) → key_cmp from to ≡ Less →
    range from to xf xt ≡ Some (between (start_cut from xf) (end_cut to xt))
range_of_less from to xf xt h =
    let upright : is_inverted from to ≡ false =
    ap is_lt (key_cmp_back from to ∙ ap ordering_reverse h) in
    let other : bytes_eq from to ≡ false = sym (is_eq-slice_cmp from to) ∙ ap is_eq h in
    simp (upright, other)

-- a range of two keys has them as its end keys
pub end_keys_of_range : (from to : KeyBytes) (xf xt : Bool) → is_lt (key_cmp from to) ≡ true →
    end_keys (between (start_cut from xf) (end_cut to xt)) ≡ from ∷ to ∷ []
end_keys_of_range from to xf xt h = cases xf xt
  where
    less_is_other : (o : _) → is_lt o ≡ true → is_eq o ≡ false
    less_is_other Less e = refl
    less_is_other Equal e = cc
    less_is_other Greater e = cc

    other : bytes_eq from to ≡ false
    other = sym (is_eq-slice_cmp from to) ∙ less_is_other (key_cmp from to) h

    cases : (a b : Bool) → end_keys (between (start_cut from a) (end_cut to b)) ≡ from ∷ to ∷ []
    cases true true = simp other
    cases true false = simp other
    cases false true = simp other
    cases false false = simp other
