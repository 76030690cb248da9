-- What lies of a span in a stripe lies within it, and within what lies there of a wider one.
use Rattle.std.proofs.Common.{◌≡◌, inl, inr, refl, sym, subst, Bool, true, false, ℕ, List}
use Rattle.std.specs.Prelude.{if◌then◌else◌}
use Rattle.tsc_span.specs.Span.{KeyBytes, Cut, is_below, greater_cut, smaller_cut}
use Rattle.tsc_span.specs.Span.{SpanView, nothing, between}
use Rattle.tsc_span.proofs.CutOrder.{Lt, Le, Lt-or_Le, Le-itself, Le-chain, Le_Lt-chain}
use Rattle.tsc_span.proofs.CutOrder.{Lt_Le-chain, Le-from_Lt}
use Rattle.tsc_stripe_table.specs.Stripes.{stripe_start, stripe_end, piece_between, piece_of}
use Rattle.tsc_striped.proofs.Overlaps.{greater_least, greater_first, greater_second_}
use Rattle.tsc_striped.proofs.Overlaps.{smaller_first_}
use Rattle.timestamp_cache.specs.HandOver.{IsWithin}

-- the lower one of two places is not above the second
smaller_second_ : (a b : Cut) → Le (smaller_cut a b) b
smaller_second_ a b = elim (Lt-or_Le a b) [
  | inl lt ↦ rw lt (Le-from_Lt a b lt)
  | inr ge ↦ rw ge (Le-itself b)
]

-- and what is not above both is not above it
smaller_greatest : (a b c : Cut) → Le c a → Le c b → Le c (smaller_cut a b)
smaller_greatest a b c p q = elim (Lt-or_Le a b) [
  | inl lt ↦ rw lt p
  | inr ge ↦ rw ge q
]

-- the ends of what lies of a span between two places
record Ends (s e from to x y : Cut) : Type 0 where
  start : x ≡ greater_cut from s
  stop : y ≡ smaller_cut to e

ends_of : (s e from to x y : Cut) → piece_between s e (between from to) ≡ between x y
    → Ends s e from to x y
ends_of s e from to x y is =
    by_test (is_below (greater_cut from s) (smaller_cut to e)) is
  where
    by_test : (t : Bool) → (if t then between (greater_cut from s) (smaller_cut to e)
        else nothing) ≡ between x y → Ends s e from to x y
    by_test true same =
        let both : between (greater_cut from s) (smaller_cut to e) ≡ between x y = same in
        record { start = cc; stop = cc }
    by_test false same = absurd (let never : nothing ≡ between x y = same in cc)

within_itself : (s e from to x y : Cut) → Ends s e from to x y → Lt x y
    → IsWithin (between x y) (between from to)
within_itself s e from to x y is below = (
  below,
  subst (λ (c : Cut). Le from c) (sym is.start) (greater_first from s),
  subst (λ (c : Cut). Le c to) (sym is.stop) (smaller_first_ to e),
)

within_wider : (s e from to x y first end : Cut) → Ends s e from to x y → Lt x y → Le first from
    → Le to end → IsWithin (between x y) (piece_between s e (between first end))
within_wider s e from to x y first end is below low high =
    let start : Le (greater_cut first s) x =
    subst (λ (c : Cut). Le (greater_cut first s) c) (sym is.start)
    (greater_least first s (greater_cut from s)
    (Le-chain first from (greater_cut from s) low (greater_first from s))
    (greater_second_ from s)) in
    let stop : Le y (smaller_cut end e) =
    subst (λ (c : Cut). Le c (smaller_cut end e)) (sym is.stop)
    (smaller_greatest end e (smaller_cut to e)
    (Le-chain (smaller_cut to e) to end (smaller_first_ to e) high) (smaller_second_ to e)) in
    let there : is_below (greater_cut first s) (smaller_cut end e) ≡ true =
    Le_Lt-chain (greater_cut first s) x (smaller_cut end e) start
    (Lt_Le-chain x y (smaller_cut end e) below stop) in
    let piece : piece_between s e (between first end)
    ≡ between (greater_cut first s) (smaller_cut end e) = rw there refl in
    subst (IsWithin (between x y)) (sym piece) (below, start, stop)

-- What lies of a span in a stripe, where the span lies within a wider one.
pub record IsPartOf (bounds : List KeyBytes) (stripe : ℕ) (x y : Cut) (inner outer : SpanView)
    : Type 0 where
  pub within : IsWithin (between x y) inner
  pub wider : IsWithin (between x y) (piece_of bounds stripe outer)

pub is_part_of : (bounds : List KeyBytes) (stripe : ℕ) (x y : Cut) (inner outer : SpanView)
    → IsWithin inner outer → piece_of bounds stripe inner ≡ between x y → Lt x y
    → IsPartOf bounds stripe x y inner outer
is_part_of bounds stripe x y nothing outer w part below = absurd w
is_part_of bounds stripe x y (between from to) nothing w part below = absurd w
is_part_of bounds stripe x y (between from to) (between first end) w part below =
    let s : Cut = stripe_start bounds stripe in
    let e : Cut = stripe_end bounds stripe in
    let is : Ends s e from to x y = ends_of s e from to x y part in record {
      within = within_itself s e from to x y is below;
      wider = within_wider s e from to x y first end is below w.1 w.2;
    }
