-- What nodes answer to a single key.
use Rattle.std.proofs.Common.{◌≡◌, ◌⊎◌, refl, subst, ℕ, suc, ◌+◌, ◌-◌, ◌≤◌, List, [], ◌∷◌, get_or, Ok, Err, arith}
use Rattle.std.proofs.lemmas.Slice.Eq.{bytes_eq-Decides}
use Rattle.tsc_time.specs.Time.{zero_time}
use Rattle.tsc_time.specs.ValueView.{ValueView, unowned}
use Rattle.tsc_time.specs.Joint.{joint}
use Rattle.tsc_span.specs.Span.{KeyBytes, before, after, point, end_keys}
use Rattle.tsc_page_nodes.specs.Nodes.{Node, IsSorted, StandsAt, FallsAt, HoldsGapsOn, answer_of}
use Rattle.tsc_span.proofs.CutOrder.{before-after}
use Rattle.tsc_page_nodes.proofs.Indices.{indices_found}
use Rattle.tsc_page_nodes.proofs.Seen.{IsJointOf, KeySeen, KeyMet, GapSeen, none_seen, key_seen, gap_seen, keys_met, all_seen}

-- a single key is the one end key
pub point_keys : (k : KeyBytes) → k ∷ [] ≡ end_keys (point k)
point_keys k = rw ((bytes_eq-Decides k k).1 refl) refl

-- nothing between a place and itself was seen
none_at : (ns : List Node) (i : ℕ) → IsJointOf (KeySeen ns i i) (unowned zero_time)
none_at ns i = none_seen (KeySeen ns i i) (λ w s. omega (arith, s.1, s.2))

-- where a key stands its value is the answer
pub value_there : (ns : List Node) (k : KeyBytes) (i : ℕ) (d : Node) → IsSorted ns →
    StandsAt ns k i → joint (unowned zero_time) ((get_or ns i d).value ∷ []) ≡
    answer_of ns (point k)
value_there ns k i d sorted at =
    let found = indices_found ns sorted (before k) (after k) (before-after k) (Ok i) (Ok i) at at in
    let best : ValueView = joint (unowned zero_time) ((get_or ns i d).value ∷ []) in
    let next : i + 1 ≡ suc i = omega arith in
    let seen = subst (λ (j : ℕ). IsJointOf (KeySeen ns i j) best) next
    (key_seen ns i i d (unowned zero_time) (omega arith) at.bound (none_at ns i)) in
    all_seen ns (point k) i i best found.1 (keys_met ns (point k) i (suc i) i best found.0 seen)

-- where it falls that of the gap is
pub value_between : (ns : List Node) (k : KeyBytes) (i : ℕ) (d : Node) → IsSorted ns → 1 ≤ i →
    FallsAt ns k i → joint (unowned zero_time) ((get_or ns (i - 1) d).gap ∷ []) ≡
    answer_of ns (point k)
value_between ns k i d sorted some falls =
    let found = indices_found ns sorted (before k) (after k) (before-after k) (Err i) (Err i) falls
    falls in
    let best : ValueView = joint (unowned zero_time) ((get_or ns (i - 1) d).gap ∷ []) in
    let next : i - 1 + 1 ≡ i = omega (arith, some) in
    let met = keys_met ns (point k) i i (i - 1) (unowned zero_time) found.0 (none_at ns i) in
    let seen = gap_seen ns (KeyMet ns (point k)) (i - 1) (i - 1) d (unowned zero_time) (omega arith)
    (omega (arith, some, falls.low.bound)) met in
    all_seen ns (point k) (i - 1) i best found.1
    (subst (λ (j : ℕ). IsJointOf (λ w. KeyMet ns (point k) w ⊎ GapSeen ns (i - 1) j w) best)
    next seen)

-- and below the first node there is nothing
pub value_below : (ns : List Node) (k : KeyBytes) (i : ℕ) → IsSorted ns → i ≡ 0 → FallsAt ns k i →
    unowned zero_time ≡ answer_of ns (point k)
value_below ns k i sorted none falls =
    let found = indices_found ns sorted (before k) (after k) (before-after k) (Err i) (Err i) falls
    falls in
    let low : i - 1 ≡ i = omega (arith, none) in
    all_seen ns (point k) i i (unowned zero_time)
    (subst (λ (j : ℕ). HoldsGapsOn ns (point k) j i) low found.1)
    (keys_met ns (point k) i i i (unowned zero_time) found.0 (none_at ns i))
