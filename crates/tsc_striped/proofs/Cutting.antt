-- What lies of marks in a stripe.
use Rattle.std.proofs.Common.{◌≡◌, ◌∙◌, refl, sym, ap, Bool, true, false, ℕ, zero, suc, ◌+◌}
use Rattle.std.proofs.Common.{◌<◌, ◌≤◌, List, [], ◌∷◌, ◌++◌, length, take, get_or, arith, append-nil}
use Rattle.std.specs.Prelude.{slice_index_or, slice_get, Some}
use Rattle.std.specs.List.{All}
use Rattle.std.specs.declared.cmp.Ordering.{Ordering}
use Rattle.std.specs.declared.cmp.Ordering.TheVariants.{Less, Equal, Greater}
use Rattle.std.specs.Ordering.{is_lt, ordering_then}
use mathlib.Core.Bool.{true≢false}
use Rattle.std.proofs.lemmas.Bool.Decides.{nat_tests}
use Rattle.std.proofs.lemmas.Grind.{flat_map-append}
use Rattle.std.proofs.lemmas.List.{take_more}
use Rattle.tsc_span.specs.Span.{KeyBytes, key_cmp, before, after, is_below, start_cut, end_cut}
use Rattle.tsc_span.specs.Span.{range, between, longest_key}
use Rattle.tsc_span.specs.MadeSpan.{IsKey}
use Rattle.tsc_span.proofs.CutsTotal.{key_cmp-same}
use Rattle.tsc_span.proofs.Ranges.{range_of_less, range_of_equal}
use Rattle.tsc_page_model.specs.Page.{Mark}
use Rattle.tsc_stripe_table.specs.Stripes.{at_bound, stripe_start, stripe_end, piece_of, mark_on}
use Rattle.tsc_stripe_table.specs.Stripes.{marks_in}

-- the bound at an index
bound_at : (ks : List KeyBytes) (j : ℕ) (d : KeyBytes) → j < length ks
    → at_bound (slice_get ks j) ≡ before (slice_index_or ks j d)
bound_at [] j d low = absurd (omega (arith, low))
bound_at (k ∷ ks) zero d low = refl
bound_at (k ∷ ks) (suc j) d low = bound_at ks j d (omega (arith, low))

-- a stripe stops there
pub stops_at : (ks : List KeyBytes) (j : ℕ) (k : KeyBytes) → j < length ks
    → k ≡ slice_index_or ks j k → before k ≡ stripe_end ks j
stops_at ks j k low is = ap before is ∙ sym (bound_at ks j k low)

-- and the next one starts there
pub starts_at : (ks : List KeyBytes) (i j : ℕ) (k : KeyBytes) → i ≡ suc j → j < length ks
    → k ≡ slice_index_or ks j k → before k ≡ stripe_start ks i
starts_at ks i j k next low is = stops_at ks j k low is ∙ ap (stripe_start ks) (sym next)

pub is_key : (k : KeyBytes) → length k ≤ longest_key → All (λ b. b < 256) k → IsKey k
is_key k short bytes = record { fits = grind (arith, nat_tests); bytes = bytes }

pub short_key : (k : KeyBytes) → IsKey k → longest_key < length k → ⊥
short_key k is long = let fits = is.fits in grind (arith, nat_tests)

-- a range of two keys, where some place lies between its ends
pub in_order : (k m : KeyBytes) (xf xt : Bool) → is_below (start_cut k xf) (end_cut m xt) ≡ true
    → range k m xf xt ≡ Some (between (start_cut k xf) (end_cut m xt))
in_order k m xf xt below = by_order (key_cmp k m) refl xf xt below
  where
    by_order : (o : Ordering) → key_cmp k m ≡ o → (xf xt : Bool)
        → is_below (start_cut k xf) (end_cut m xt) ≡ true
        → range k m xf xt ≡ Some (between (start_cut k xf) (end_cut m xt))
    by_order Less is xf xt below = range_of_less k m xf xt is
    by_order Equal is true true below =
        absurd (true≢false (sym below ∙ ap (λ o. is_lt (ordering_then o Greater)) is))
    by_order Equal is true false below = absurd (true≢false (sym below ∙ ap is_lt is))
    by_order Equal is false true below = absurd (true≢false (sym below ∙ ap is_lt is))
    by_order Equal is false false below = range_of_equal k m false false is
        ∙ ap (λ n. Some (between (before k) (after n))) (key_cmp-same k m is)
    by_order Greater is true true below =
        absurd (true≢false (sym below ∙ ap (λ o. is_lt (ordering_then o Greater)) is))
    by_order Greater is true false below = absurd (true≢false (sym below ∙ ap is_lt is))
    by_order Greater is false true below = absurd (true≢false (sym below ∙ ap is_lt is))
    by_order Greater is false false below =
        absurd (true≢false (sym below ∙ ap (λ o. is_lt (ordering_then o Less)) is))

-- what lies of one more mark
pub marks_more : (bounds : List KeyBytes) (i : ℕ) (ms : List Mark) (k : ℕ) (m : Mark)
    → k < length ms → m ≡ get_or ms k m
    → marks_in bounds i (take (k + 1) ms)
    ≡ marks_in bounds i (take k ms) ++ mark_on (piece_of bounds i m.span) m
marks_more bounds i ms k m within is =
    ap (marks_in bounds i) (take_more ms k m within ∙ ap (λ n. take k ms ++ n ∷ []) (sym is))
    ∙ flat_map-append (λ (n : Mark). mark_on (piece_of bounds i n.span) n) (take k ms) (m ∷ [])
    ∙ ap (λ (ns : List Mark). marks_in bounds i (take k ms) ++ ns)
    (append-nil (mark_on (piece_of bounds i m.span) m))

-- nothing lies there of one that does not touch the stripe
pub marks_none : (bounds : List KeyBytes) (i : ℕ) (ms : List Mark) (k : ℕ) (m : Mark)
    → k < length ms → m ≡ get_or ms k m → marks_in bounds i (take k ms) ≡ []
    → mark_on (piece_of bounds i m.span) m ≡ [] → marks_in bounds i (take (k + 1) ms) ≡ []
marks_none bounds i ms k m within is none here =
    marks_more bounds i ms k m within is
    ∙ (λ j. none j ++ here j)
