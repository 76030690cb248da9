-- Which keys and gaps lie between two cuts, by where these lie among sorted nodes.
use Rattle.std.proofs.Common.{◌≡◌, ◌⊎◌, inl, inr, refl, sym, subst, ℕ, zero, suc, ◌+◌, ◌-◌, ◌<◌, ◌≤◌, true, false, List, [], ◌∷◌, length, drop, get_or, Result, Ok, Err, arith}
use mathlib.Core.Bool.{true≢false}
use Rattle.std.specs.declared.cmp.Ordering.{Ordering}
use Rattle.std.specs.declared.cmp.Ordering.TheVariants.{Less, Equal, Greater}
use Rattle.std.specs.Ordering.{is_lt}
use Rattle.tsc_time.specs.Time.{zero_time}
use Rattle.tsc_time.specs.ValueView.{unowned}
use Rattle.std.proofs.lemmas.Bool.{cases_Bool}
use Rattle.std.proofs.lemmas.List.{get_or_default}
use Rattle.tsc_span.specs.Span.{KeyBytes, Cut, before, after, last, between, overlaps}
use Rattle.tsc_page_nodes.specs.Nodes.{Node, next_cut, node_stretches, IsSorted, HasKeysBelow, StandsAt, FallsAt, IsCutAt, key_above, first_gap, index_of, HoldsKeysOn, HoldsGapsOn}
use Rattle.tsc_span.proofs.CutOrder.{Lt, Le, Meet, Lt-not_Le, Lt-chain, Le-chain, Le_Lt-chain, Lt_Le-chain, Le-from_Lt, Le-itself, before-after, below_last, none_above_last, overlaps-from, overlaps-reports}

-- each way that two of them may stand
abbrev pub before_or_past : (a b : ℕ) → (a < b) ⊎ (b ≤ a)
before_or_past zero zero = inr (omega arith)
before_or_past zero (suc b) = inl (omega arith)
before_or_past (suc a) zero = inr (omega arith)
before_or_past (suc a) (suc b) = elim (before_or_past a b)
    [ inl h ↦ inl (omega arith) | inr h ↦ inr (omega arith) ]

-- what is read past the end of a list of nodes
pub some_node : Node
some_node = record { key = []; value = unowned zero_time; gap = unowned zero_time }

pub is_less : (o : Ordering) → is_lt o ≡ true → o ≡ Less
is_less Less h = refl
is_less Equal h = absurd (true≢false (sym h))
is_less Greater h = absurd (true≢false (sym h))

-- the first node stands below all others
first_below : (n : Node) (ns : List Node) → IsSorted (n ∷ ns) → (j : ℕ) (d : Node) → j < length ns →
    Lt (after n.key) (before (get_or ns j d).key)
first_below n [] sorted j d h = absurd (omega arith)
first_below n (m ∷ ms) sorted zero d h = sorted.0
first_below n (m ∷ ms) sorted (suc j) d h =
    Lt-chain (after n.key) (before m.key) (before (get_or ms j d).key) sorted.0
    (Lt-chain (before m.key) (after m.key) (before (get_or ms j d).key) (before-after m.key)
    (first_below m ms sorted.1 j d (omega arith)))

-- and each below those after it
pub sorted_at : (ns : List Node) → IsSorted ns → (i j : ℕ) (d : Node) → i < j → j < length ns →
    Lt (after (get_or ns i d).key) (before (get_or ns j d).key)
sorted_at [] sorted i j d h g = absurd (omega arith)
sorted_at (n ∷ ns) sorted i zero d h g = absurd (omega arith)
sorted_at (n ∷ ns) sorted zero (suc j) d h g = first_below n ns sorted j d (omega arith)
sorted_at (n ∷ ns) sorted (suc i) (suc j) d h g =
    sorted_at ns sorted.1 i j d (omega arith) (omega arith)

-- where the gap of a node ends: at the next one, or nowhere
pub next_at : (ns : List Node) (i : ℕ) (d : Node) → suc i < length ns →
    next_cut (node_stretches (drop (suc i) ns)) ≡ before (get_or ns (suc i) d).key
next_at [] i d h = absurd (omega arith)
next_at (n ∷ []) i d h = absurd (omega arith)
next_at (n ∷ m ∷ ms) zero d h = refl
next_at (n ∷ m ∷ ms) (suc i) d h = next_at (m ∷ ms) i d (omega arith)

pub next_past : (ns : List Node) (i : ℕ) → length ns ≤ suc i →
    next_cut (node_stretches (drop (suc i) ns)) ≡ last
next_past [] i h = refl
next_past (n ∷ []) zero h = refl
next_past (n ∷ []) (suc i) h = refl
next_past (n ∷ m ∷ ms) zero h = absurd (omega arith)
next_past (n ∷ m ∷ ms) (suc i) h = next_past (m ∷ ms) i (omega arith)

-- The keys that lie wholly below a cut stand before a place.
record StartsKeys (ns : List Node) (from : Cut) (start : ℕ) : Type 0 where
  low : (i : ℕ) (d : Node) → i < start → Le (after (get_or ns i d).key) from
  past : (i : ℕ) (d : Node) → start ≤ i → i < length ns → Lt from (after (get_or ns i d).key)

-- The keys that begin below a cut stand before a place.
record StopsKeys (ns : List Node) (to : Cut) (end : ℕ) : Type 0 where
  bound : end ≤ length ns
  below : (i : ℕ) (d : Node) → i < end → Lt (before (get_or ns i d).key) to
  high : (i : ℕ) (d : Node) → end ≤ i → i < length ns → Le to (before (get_or ns i d).key)

-- where the gap of a node ends
abbrev gap_end : List Node → ℕ → Cut
gap_end ns i = next_cut (node_stretches (drop (suc i) ns))

-- The gaps that end at or below a cut stand before a place.
record StartsGaps (ns : List Node) (from : Cut) (start : ℕ) : Type 0 where
  low : (i : ℕ) → i < start → Le (gap_end ns i) from
  past : (i : ℕ) → start ≤ i → i < length ns → Lt from (gap_end ns i)

-- The gaps that begin below a cut stand before a place.
record StopsGaps (ns : List Node) (to : Cut) (end : ℕ) : Type 0 where
  bound : end ≤ length ns
  below : (i : ℕ) (d : Node) → i < end → Lt (after (get_or ns i d).key) to
  high : (i : ℕ) (d : Node) → end ≤ i → i < length ns → Le to (after (get_or ns i d).key)

module _ (ns : List Node) (sorted : IsSorted ns) where
  -- the keys rise along the list
  rising : (i j : ℕ) (d : Node) → i ≤ j → j < length ns →
      Le (before (get_or ns i d).key) (before (get_or ns j d).key)
  rising i j d h g = elim (before_or_past i j) [
    | inl l ↦ Le-from_Lt (before (get_or ns i d).key) (before (get_or ns j d).key)
        (Lt-chain (before (get_or ns i d).key) (after (get_or ns i d).key)
        (before (get_or ns j d).key) (before-after (get_or ns i d).key)
        (sorted_at ns sorted i j d l g))
    | inr l ↦ let e : i ≡ j = omega arith in rw e (Le-itself (before (get_or ns j d).key))
  ]

  rising_after : (i j : ℕ) (d : Node) → i ≤ j → j < length ns →
      Le (after (get_or ns i d).key) (after (get_or ns j d).key)
  rising_after i j d h g = elim (before_or_past i j) [
    | inl l ↦ Le-from_Lt (after (get_or ns i d).key) (after (get_or ns j d).key)
        (Lt-chain (after (get_or ns i d).key) (before (get_or ns j d).key)
        (after (get_or ns j d).key) (sorted_at ns sorted i j d l g)
        (before-after (get_or ns j d).key))
    | inr l ↦ let e : i ≡ j = omega arith in rw e (Le-itself (after (get_or ns j d).key))
  ]

  -- a gap lies between its node and the next one
  opens : (i : ℕ) (d : Node) → i < length ns → Lt (after (get_or ns i d).key) (gap_end ns i)
  opens i d h = elim (before_or_past (suc i) (length ns)) [
    | inl g ↦ rw (next_at ns i d g) (sorted_at ns sorted i (suc i) d (omega arith) g)
    | inr g ↦ rw (next_past ns i g) (below_last (get_or ns i d).key)
  ]

  -- a key below the one before a place is below it, as all before it are
  pub all_smaller : (k : KeyBytes) (p : ℕ) (d : Node) → p < length ns →
      Lt (after (get_or ns p d).key) (before k) → HasKeysBelow ns k (p + 1)
  all_smaller k p d inside up = record {
    bound = omega arith;
    below = λ i e h. Le_Lt-chain (after (get_or ns i e).key) (after (get_or ns p e).key) (before k)
        (rising_after i p e (omega arith) inside)
        (subst (λ (n : Node). Lt (after n.key) (before k)) (get_or_default ns p d e inside) up);
  }

  -- a key below that of a place is below all from there on
  pub falls_before : (k : KeyBytes) (p : ℕ) (d : Node) → HasKeysBelow ns k p → p < length ns →
      Lt (after k) (before (get_or ns p d).key) → FallsAt ns k p
  falls_before k p d low inside up = record {
    low = low;
    high = λ i e h g. Lt_Le-chain (after k) (before (get_or ns p e).key)
        (before (get_or ns i e).key)
        (subst (λ (n : Node). Lt (after k) (before n.key)) (get_or_default ns p d e inside) up)
        (rising p i e h g);
  }

  pub falls_last : (k : KeyBytes) (p : ℕ) → HasKeysBelow ns k p → length ns ≤ p → FallsAt ns k p
  falls_last k p low past = record { low = low; high = λ i d h g. absurd (omega arith) }

  -- around a key, at either of its cuts
  module _ (k : KeyBytes) (c : Cut) (from_key : Le (before k) c) (to_key : Le c (after k)) where
    -- where the key falls between nodes
    module _ (p : ℕ) (falls : FallsAt ns k p) where
      past_keys : (i : ℕ) (d : Node) → i < p → Lt (after (get_or ns i d).key) c
      past_keys i d h = Lt_Le-chain (after (get_or ns i d).key) (before k) c (falls.low.below i d h)
          from_key

      under_keys : (i : ℕ) (d : Node) → p ≤ i → i < length ns → Lt c (before (get_or ns i d).key)
      under_keys i d h g = Le_Lt-chain c (after k) (before (get_or ns i d).key) to_key
          (falls.high i d h g)

      falls_starts : StartsKeys ns c p
      falls_starts = record {
        low = λ i d h. Le-from_Lt (after (get_or ns i d).key) c (past_keys i d h);
        past = λ i d h g. Lt-chain c (before (get_or ns i d).key) (after (get_or ns i d).key)
            (under_keys i d h g) (before-after (get_or ns i d).key);
      }

      falls_stops : StopsKeys ns c p
      falls_stops = record {
        bound = falls.low.bound;
        below = λ i d h. Lt-chain (before (get_or ns i d).key) (after (get_or ns i d).key) c
            (before-after (get_or ns i d).key) (past_keys i d h);
        high = λ i d h g. Le-from_Lt c (before (get_or ns i d).key) (under_keys i d h g);
      }

      falls_starts_gaps : Lt c last → StartsGaps ns c (p - 1)
      falls_starts_gaps ends = record {
        low = λ i h.
            let m : KeyBytes = (get_or ns (suc i) some_node).key in
            let inside : suc i < length ns = omega (arith, h, falls.low.bound) in
            rw (next_at ns i some_node inside)
            (Le-from_Lt (before m) c
            (Lt-chain (before m) (after m) c (before-after m)
            (past_keys (suc i) some_node (omega (arith, h)))));
        past = λ i h g. elim (before_or_past (suc i) (length ns)) [
          | inl l ↦ rw (next_at ns i some_node l)
              (under_keys (suc i) some_node (omega (arith, h)) l)
          | inr l ↦ rw (next_past ns i l) ends
        ];
      }

      falls_stops_gaps : StopsGaps ns c p
      falls_stops_gaps = record {
        bound = falls.low.bound;
        below = past_keys;
        high = λ i d h g. Le-chain c (before (get_or ns i d).key) (after (get_or ns i d).key)
            (Le-from_Lt c (before (get_or ns i d).key) (under_keys i d h g))
            (Le-from_Lt (before (get_or ns i d).key) (after (get_or ns i d).key)
            (before-after (get_or ns i d).key));
      }

    -- where it is a node's
    module _ (p : ℕ) (stands : StandsAt ns k p) where
      up_to_node : (d : Node) → Le c (after (get_or ns p d).key)
      up_to_node d = subst (λ (m : KeyBytes). Le c (after m)) (sym (stands.key d)) to_key

      from_node : (d : Node) → Le (before (get_or ns p d).key) c
      from_node d = subst (λ (m : KeyBytes). Le (before m) c) (sym (stands.key d)) from_key

      stands_starts_gaps : StartsGaps ns c p
      stands_starts_gaps = record {
        low = λ i h.
            let inside : suc i < length ns = omega (arith, h, stands.bound) in
            rw (next_at ns i some_node inside)
            (Le-chain (before (get_or ns (suc i) some_node).key)
            (before (get_or ns p some_node).key) c
            (rising (suc i) p some_node (omega (arith, h)) stands.bound) (from_node some_node));
        past = λ i h g. Le_Lt-chain c (after (get_or ns i some_node).key) (gap_end ns i)
            (Le-chain c (after (get_or ns p some_node).key) (after (get_or ns i some_node).key)
            (up_to_node some_node) (rising_after p i some_node h g)) (opens i some_node g);
      }

      stands_stops_gaps : StopsGaps ns c p
      stands_stops_gaps = record {
        bound = omega (arith, stands.bound);
        below = λ i d h. Lt_Le-chain (after (get_or ns i d).key) (before (get_or ns p d).key) c
            (sorted_at ns sorted i p d h stands.bound) (from_node d);
        high = λ i d h g. Le-chain c (after (get_or ns p d).key) (after (get_or ns i d).key)
            (up_to_node d) (rising_after p i d h g);
      }

  -- the keys around the two cuts of a node's
  module _ (k : KeyBytes) (p : ℕ) (stands : StandsAt ns k p) where
    before_starts : StartsKeys ns (before k) p
    before_starts = record {
      low = λ i d h. Le-from_Lt (after (get_or ns i d).key) (before k)
          (subst (λ (m : KeyBytes). Lt (after (get_or ns i d).key) (before m)) (stands.key d)
          (sorted_at ns sorted i p d h stands.bound));
      past = λ i d h g. Le_Lt-chain (before k) (before (get_or ns i d).key)
          (after (get_or ns i d).key)
          (subst (λ (m : KeyBytes). Le (before m) (before (get_or ns i d).key)) (stands.key d)
          (rising p i d h g)) (before-after (get_or ns i d).key);
    }

    after_starts : StartsKeys ns (after k) (suc p)
    after_starts = record {
      low = λ i d h. subst (λ (m : KeyBytes). Le (after (get_or ns i d).key) (after m))
          (stands.key d) (rising_after i p d (omega (arith, h)) stands.bound);
      past = λ i d h g. Lt-chain (after k) (before (get_or ns i d).key) (after (get_or ns i d).key)
          (subst (λ (m : KeyBytes). Lt (after m) (before (get_or ns i d).key)) (stands.key d)
          (sorted_at ns sorted p i d (omega (arith, h)) g)) (before-after (get_or ns i d).key);
    }

    before_stops : StopsKeys ns (before k) p
    before_stops = record {
      bound = omega (arith, stands.bound);
      below = λ i d h. Lt-chain (before (get_or ns i d).key) (after (get_or ns i d).key) (before k)
          (before-after (get_or ns i d).key)
          (subst (λ (m : KeyBytes). Lt (after (get_or ns i d).key) (before m)) (stands.key d)
          (sorted_at ns sorted i p d h stands.bound));
      high = λ i d h g. subst (λ (m : KeyBytes). Le (before m) (before (get_or ns i d).key))
          (stands.key d) (rising p i d h g);
    }

    after_stops : StopsKeys ns (after k) (suc p)
    after_stops = record {
      bound = omega (arith, stands.bound);
      below = λ i d h. Le_Lt-chain (before (get_or ns i d).key) (before k) (after k)
          (subst (λ (m : KeyBytes). Le (before (get_or ns i d).key) (before m)) (stands.key d)
          (rising i p d (omega (arith, h)) stands.bound)) (before-after k);
      high = λ i d h g. Le-from_Lt (after k) (before (get_or ns i d).key)
          (subst (λ (m : KeyBytes). Lt (after m) (before (get_or ns i d).key)) (stands.key d)
          (sorted_at ns sorted p i d (omega (arith, h)) g));
    }

  -- the cuts of a key lie around it
  before_low : (k : KeyBytes) → Le (before k) (before k)
  before_low k = Le-itself (before k)

  before_high : (k : KeyBytes) → Le (before k) (after k)
  before_high k = Le-from_Lt (before k) (after k) (before-after k)

  after_high : (k : KeyBytes) → Le (after k) (after k)
  after_high k = Le-itself (after k)

  -- what starts at a cut, by where it lies
  starts : (c : Cut) (index : Result ℕ ℕ) → Lt c last → IsCutAt ns c index →
      StartsKeys ns c (key_above index c) × StartsGaps ns c (first_gap index)
  starts (before k) (Ok p) ends at =
      (before_starts k p at, stands_starts_gaps k (before k) (before_low k) (before_high k) p at)
  starts (after k) (Ok p) ends at =
      (after_starts k p at, stands_starts_gaps k (after k) (before_high k) (after_high k) p at)
  starts (before k) (Err p) ends at = (
    falls_starts k (before k) (before_low k) (before_high k) p at,
    falls_starts_gaps k (before k) (before_low k) (before_high k) p at ends,
  )
  starts (after k) (Err p) ends at = (
    falls_starts k (after k) (before_high k) (after_high k) p at,
    falls_starts_gaps k (after k) (before_high k) (after_high k) p at ends,
  )
  starts last index ends at = absurd (Lt-not_Le last last ends (none_above_last last))

  -- and what stops there
  stops : (c : Cut) (index : Result ℕ ℕ) → IsCutAt ns c index →
      StopsKeys ns c (key_above index c) × StopsGaps ns c (index_of index)
  stops (before k) (Ok p) at = (
    before_stops k p at,
    stands_stops_gaps k (before k) (before_low k) (before_high k) p at,
  )
  stops (after k) (Ok p) at = (
    after_stops k p at,
    stands_stops_gaps k (after k) (before_high k) (after_high k) p at,
  )
  stops (before k) (Err p) at = (
    falls_stops k (before k) (before_low k) (before_high k) p at,
    falls_stops_gaps k (before k) (before_low k) (before_high k) p at,
  )
  stops (after k) (Err p) at = (
    falls_stops k (after k) (before_high k) (after_high k) p at,
    falls_stops_gaps k (after k) (before_high k) (after_high k) p at,
  )
  stops last (Ok p) at = let none : ⊥ = cc in absurd none
  stops last (Err p) at =
      let all : p ≡ length ns = cc in (
        record {
          bound = omega arith;
          below = λ i d h. refl;
          high = λ i d h g. absurd (omega arith);
        },
        record {
          bound = omega arith;
          below = λ i d h. refl;
          high = λ i d h g. absurd (omega arith);
        },
      )

  module _ (from to : Cut) (upright : Lt from to) where
    unmet : (c e : Cut) → (Meet c e from to → ⊥) → overlaps (between c e) (between from to) ≡ false
    unmet c e apart = elim (cases_Bool (overlaps (between c e) (between from to))) [
      | inl h ↦ absurd (apart (overlaps-reports c e from to h))
      | inr h ↦ h
    ]

    keys_between : (start end : ℕ) → StartsKeys ns from start → StopsKeys ns to end →
        start ≤ length ns → HoldsKeysOn ns (between from to) start end
    keys_between start end first past bound = record {
      order = elim (before_or_past end start) [
        | inl h ↦ absurd (crossed h)
        | inr h ↦ h
      ];
      bound = past.bound;
      within = λ i d low high.
          let k : KeyBytes = (get_or ns i d).key in
          let inside : i < length ns = omega (arith, high, past.bound) in
          overlaps-from (before k) (after k) from to
          (before-after k, past.below i d high, first.past i d low inside, upright);
      below = λ i d h. let k : KeyBytes =
          (get_or ns i d).key in unmet (before k) (after k)
          (λ m. Lt-not_Le from (after k) m.2 (first.low i d h));
      above = λ i d low high. let k : KeyBytes =
          (get_or ns i d).key in unmet (before k) (after k)
          (λ m. Lt-not_Le (before k) to m.1 (past.high i d low high));
    }
      where
        crossed : end < start → ⊥
        crossed h =
            let k : KeyBytes = (get_or ns end some_node).key in
            let inside : end < length ns = omega (arith, h, bound) in
            let low : Le (after k) from = first.low end some_node h in
            let high : Le to (before k) = past.high end some_node (omega arith) inside in
            Lt-not_Le from to upright
            (Le-chain to (before k) from high
            (Le-chain (before k) (after k) from
            (Le-from_Lt (before k) (after k) (before-after k)) low))

    gaps_between : (start end : ℕ) → StartsGaps ns from start → StopsGaps ns to end →
        start ≤ length ns → HoldsGapsOn ns (between from to) start end
    gaps_between start end first past bound = record {
      order = elim (before_or_past end start) [
        | inl h ↦ absurd (crossed h)
        | inr h ↦ h
      ];
      bound = past.bound;
      within = λ i d g h.
          let k : KeyBytes = (get_or ns i d).key in
          let inside : i < length ns = omega (arith, h, past.bound) in
          overlaps-from (after k) (gap_end ns i) from to
          (opens i d inside, past.below i d h, first.past i g inside, upright);
      below = λ i d h. let k : KeyBytes =
          (get_or ns i d).key in unmet (after k) (gap_end ns i)
          (λ m. Lt-not_Le from (gap_end ns i) m.2 (first.low i h));
      above = λ i d g h. let k : KeyBytes =
          (get_or ns i d).key in unmet (after k) (gap_end ns i)
          (λ m. Lt-not_Le (after k) to m.1 (past.high i d g h));
    }
      where
        crossed : end < start → ⊥
        crossed h =
            let k : KeyBytes = (get_or ns end some_node).key in
            let inside : end < length ns = omega (arith, h, bound) in
            let end_met : Le to (after k) = past.high end some_node (omega arith) inside in
            Lt-not_Le from to upright
            (Le-chain to (after k) from end_met
            (Le-chain (after k) (gap_end ns end) from
            (Le-from_Lt (after k) (gap_end ns end) (opens end some_node inside))
            (first.low end h)))

    -- within the list
    inside : (c : Cut) (index : Result ℕ ℕ) → IsCutAt ns c index →
        (key_above index c ≤ length ns) × (first_gap index ≤ length ns)
    inside (before k) (Ok p) at = (omega (arith, at.bound), omega (arith, at.bound))
    inside (after k) (Ok p) at = (omega (arith, at.bound), omega (arith, at.bound))
    inside (before k) (Err p) at = (omega (arith, at.low.bound), omega (arith, at.low.bound))
    inside (after k) (Err p) at = (omega (arith, at.low.bound), omega (arith, at.low.bound))
    inside last index at = rw at (omega arith, omega arith)

    -- the keys and the gaps between two cuts, by where these lie
    pub indices_found : (low high : Result ℕ ℕ) → IsCutAt ns from low → IsCutAt ns to high
        → HoldsKeysOn ns (between from to) (key_above low from) (key_above high to) ×
        HoldsGapsOn ns (between from to) (first_gap low) (index_of high)
    indices_found low high at_low at_high =
        let first = starts from low (Lt_Le-chain from to last upright (none_above_last to))
        at_low in
        let past = stops to high at_high in
        let bounds = inside from low at_low in (
          keys_between (key_above low from) (key_above high to) first.0 past.0 bounds.0,
          gaps_between (first_gap low) (index_of high) first.1 past.1 bounds.1,
        )
