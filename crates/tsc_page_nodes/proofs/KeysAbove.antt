-- A search for the first of sorted keys that lies above a cut.
use Rattle.std.proofs.Common.{◌≡◌, inl, inr, refl, subst, Bool, ℕ, zero, suc, ◌<◌, ◌≤◌, true, false, List, [], ◌∷◌, length, get_or, arith}
use Rattle.std.specs.Prelude.{Some, None}
use Rattle.std.specs.List.{AllWithin}
use Rattle.std.specs.List.Sorted.{IsPartitionPoint, IsPartitionedBy}
use Rattle.tsc_span.specs.Span.{KeyBytes, Cut, before, after, is_below}
use Rattle.tsc_page_nodes.specs.declared.nodes.Values.{Values}
use Rattle.tsc_page_nodes.specs.Nodes.{Node, paired, node_keys, IsSorted}
use Rattle.tsc_page_model.specs.KeysAbove.{first_above}
use Rattle.tsc_span.proofs.CutOrder.{Lt, Lt-chain, before-after}
use Rattle.tsc_page_nodes.proofs.Indices.{before_or_past, some_node, sorted_at}
use Rattle.tsc_page_nodes.proofs.Apart.{key_at, long_as, paired-keys}

-- whether the place right before a key lies below a cut
abbrev pub begins_below : Cut → KeyBytes → Bool
begins_below c k = is_below (before k) c

-- of sorted keys those that begin below a cut come first
pub keys_parted : (ks : List KeyBytes) (vs : List Values) (ns : List Node) → length ks ≡ length vs →
    paired ks vs ≡ ns → IsSorted ns → (c : Cut) → IsPartitionedBy (begins_below c) ks
keys_parted ks vs ns same is sorted c i j d low high at = elim (before_or_past i j) [
  | inl h ↦
      let a : KeyBytes = get_or ks i d in
      let b : KeyBytes = get_or ks j d in
      let long : length ns ≡ length ks = long_as ks vs ns same is in
      let rise = sorted_at ns sorted i j some_node h (omega (arith, high, long)) in
      let up : Lt (after a) (before b) =
      subst (λ (k : KeyBytes). Lt (after k) (before b))
      (key_at ks vs ns same is i some_node d (omega (arith, h, high)))
      (subst (λ (k : KeyBytes). Lt (after (get_or ns i some_node).key) (before k))
      (key_at ks vs ns same is j some_node d high) rise) in
      Lt-chain (before a) (after a) c (before-after a) (Lt-chain (after a) (before b) c up at)
  | inr h ↦ let e : i ≡ j = omega (arith, h, low) in rw e at
]

-- the key at the place where the others begin is the first one above the cut
key_found : (c : Cut) (ks : List KeyBytes) (i : ℕ) (k : KeyBytes) → i < length ks →
    k ≡ get_or ks i k → AllWithin (λ m. begins_below c m ≡ true) ks 0 i →
    AllWithin (λ m. begins_below c m ≡ false) ks i (length ks) → Some k ≡ first_above c ks
key_found c [] i k h is low high = absurd (omega (arith, h))
key_found c (m ∷ ks) zero k h is low high = rw (high 0 m (omega arith) (omega arith), is) refl
key_found c (m ∷ ks) (suc i) k h is low high = rw (low 0 m (omega arith) (omega arith))
    (key_found c ks i k (omega (arith, h)) is
    (λ j d g f. low (suc j) d (omega arith) (omega (arith, f)))
    (λ j d g f. high (suc j) d (omega (arith, g)) (omega (arith, f))))

-- and where there are no others none is
none_found : (c : Cut) (ks : List KeyBytes) (i : ℕ) → length ks ≤ i →
    AllWithin (λ m. begins_below c m ≡ true) ks 0 i → None ≡ first_above c ks
none_found c [] i h low = refl
none_found c (m ∷ ks) zero h low = absurd (omega (arith, h))
none_found c (m ∷ ks) (suc i) h low =
    rw (low 0 m (omega arith) (omega arith))
    (none_found c ks i (omega (arith, h))
    (λ j d g f. low (suc j) d (omega arith) (omega (arith, f))))

-- and so of nodes that are two lists
module _ (ks : List KeyBytes) (vs : List Values) (ns : List Node) (same : length ks ≡ length vs)
    (is : paired ks vs ≡ ns) (c : Cut) (i : ℕ)
    (point : IsPartitionPoint (λ k. begins_below c k ≡ true) (λ k. begins_below c k ≡ false) ks
    i) where
  keys_are : node_keys ns ≡ ks
  keys_are = subst (λ (ms : List Node). node_keys ms ≡ ks) is (paired-keys ks vs same)

  pub first_node : (k : KeyBytes) → i < length ks → k ≡ get_or ks i k →
      Some k ≡ first_above c (node_keys ns)
  first_node k h at = rw keys_are (key_found c ks i k h at point.0 point.1)

  pub no_node : length ks ≤ i → None ≡ first_above c (node_keys ns)
  no_node h = rw keys_are (none_found c ks i h point.0)
