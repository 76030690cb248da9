-- A key stands at the place that was told for it, once the new keys have nodes.
use Rattle.std.proofs.Common.{◌≡◌, inl, inr, ◌∙◌, ap, subst, Bool, cond, ℕ, zero, suc, ◌+◌, ◌-◌, ◌^◌, ◌<◌, ◌≤◌, List, [], ◌∷◌, length, get_or, arith}
use Rattle.std.specs.Prelude.{Option, Some, None, IfSome, is_some}
use Rattle.std.specs.List.{insert}
use Rattle.std.proofs.lemmas.List.Edits.{length-insert, get_or-insert_at, get_or-insert_below, get_or-insert_above}
use Rattle.tsc_time.specs.Time.{zero_time}
use Rattle.tsc_time.specs.ValueView.{unowned}
use Rattle.tsc_span.specs.Span.{KeyBytes, Cut, before, after}
use Rattle.tsc_page_nodes.specs.Nodes.{Node, IsSorted, FitsAt, StandsAt, IsNewKey, IsInOrder, IsIndexReported, StandsWhereReported, with_new, node_in_gap, gap_value}
use Rattle.tsc_span.proofs.CutOrder.{Lt, Le, Lt-chain, Lt_Le-chain, Lt-not_Le, Le-itself, before-after}
use Rattle.tsc_page_nodes.proofs.Edits.{past}
use Rattle.tsc_page_nodes.proofs.NewKeys.{still_new, with_new_splits}
use Rattle.tsc_page_nodes.proofs.Indices.{sorted_at, before_or_past, some_node}

-- a node stands where it comes in
stands_inserted : (ns : List Node) (i : ℕ) (x : Node) → i ≤ length ns →
    StandsAt (insert ns i x) x.key i
stands_inserted ns i x h = record {
  bound = omega (arith, length-insert ns i x h);
  key = λ d. ap (λ (n : Node). n.key) (get_or-insert_at ns i x d h);
}

-- those before it stay, and those from there on move by one
stands_before : (ns : List Node) (i j : ℕ) (x : Node) (k : KeyBytes) → i < j → j ≤ length ns →
    StandsAt ns k i → StandsAt (insert ns j x) k i
stands_before ns i j x k h g at = record {
  bound = omega (arith, length-insert ns j x g, at.bound);
  key = λ d. ap (λ (n : Node). n.key) (get_or-insert_below ns j x d i h g) ∙ at.key d;
}

stands_behind : (ns : List Node) (i j : ℕ) (x : Node) (k : KeyBytes) → j ≤ i → j ≤ length ns →
    StandsAt ns k i → StandsAt (insert ns j x) k (i + 1)
stands_behind ns i j x k h g at = record {
  bound = omega (arith, length-insert ns j x g, at.bound);
  key = λ d. ap (λ (n : Node). n.key) (get_or-insert_above ns j x d i h g) ∙ at.key d;
}

-- a key that fits at a place is below those from there on
fits_below : (m : KeyBytes) (low : Cut) (ns : List Node) (j i : ℕ) (d : Node) → IsSorted ns →
    FitsAt m low ns j → j ≤ i → i < length ns → Lt (after m) (before (get_or ns i d).key)
fits_below m low [] zero i d sorted fits h g = absurd (omega arith)
fits_below m low (n ∷ ns) zero zero d sorted fits h g = fits.1
fits_below m low (n ∷ ns) zero (suc i) d sorted fits h g =
    Lt-chain (after m) (before n.key) (before (get_or ns i d).key) fits.1
    (Lt-chain (before n.key) (after n.key) (before (get_or ns i d).key) (before-after n.key)
    (sorted_at (n ∷ ns) sorted zero (suc i) d (omega arith) g))
fits_below m low [] (suc j) i d sorted fits h g = absurd fits
fits_below m low (n ∷ ns) (suc j) zero d sorted fits h g = absurd (omega arith)
fits_below m low (n ∷ ns) (suc j) (suc i) d sorted fits h g =
    fits_below m (after n.key) ns j i d sorted.1 fits (omega arith) (omega arith)

-- and above those before it
fits_above : (m : KeyBytes) (low : Cut) (ns : List Node) (j i : ℕ) (d : Node) → IsSorted ns →
    FitsAt m low ns j → i < j → Le (after (get_or ns i d).key) (before m)
fits_above m low ns zero i d sorted fits h = absurd (omega arith)
fits_above m low [] (suc j) i d sorted fits h = absurd fits
fits_above m low (n ∷ ns) (suc j) zero d sorted fits h = past m n ns j sorted fits
fits_above m low (n ∷ ns) (suc j) (suc i) d sorted fits h =
    fits_above m (after n.key) ns j i d sorted.1 fits (omega arith)

-- of two keys in order the other one is not below
in_order : (k m : KeyBytes) → Lt (after k) (before m) → Le (after m) (before k) → ⊥
in_order k m up down = Lt-not_Le (before k) (before k)
    (Lt-chain (before k) (after k) (before k) (before-after k)
    (Lt-chain (after k) (before m) (before k) up
    (Lt_Le-chain (before m) (after m) (before k) (before-after m) down))) (Le-itself (before k))

-- so the smaller one of two stands before the place for the greater one
smaller_before : (k m : KeyBytes) (ns : List Node) (i j : ℕ) → Lt (after k) (before m) →
    IsSorted ns → StandsAt ns k i → FitsAt m (before []) ns j → i < j
smaller_before k m ns i j up sorted at fits = elim (before_or_past i j) [
  | inl h ↦ h
  | inr h ↦
      let high = fits_below m (before []) ns j i some_node sorted fits h at.bound in
      let over : Lt (after m) (before k) =
      subst (λ (q : KeyBytes). Lt (after m) (before q)) (at.key some_node) high in
      absurd (Lt-not_Le (after k) (after k)
      (Lt-chain (after k) (before m) (after k) up
      (Lt-chain (before m) (after m) (after k) (before-after m)
      (Lt-chain (after m) (before k) (after k) over (before-after k)))) (Le-itself (after k)))
]

-- and the greater one from the place for the smaller one on
greater_from : (k m : KeyBytes) (ns : List Node) (i j : ℕ) → Lt (after k) (before m) → IsSorted ns →
    FitsAt k (before []) ns i → StandsAt ns m j → i ≤ j
greater_from k m ns i j up sorted fits at = elim (before_or_past j i) [
  | inl h ↦ absurd (in_order k m up
      (subst (λ (q : KeyBytes). Le (after q) (before k)) (at.key some_node)
      (fits_above k (before []) ns i j some_node sorted fits h)))
  | inr h ↦ h
]

-- a new node stands where its key was told
pub stands_new : (ns : List Node) (k : KeyBytes) (f : ℕ × KeyBytes) →
    IsNewKey ns (Some k) (Some f) → StandsAt (with_new ns (Some f)) k f.0
stands_new ns k f new = subst (λ (q : KeyBytes). StandsAt (with_new ns (Some f)) q f.0) new.0
    (stands_inserted ns f.0 (node_in_gap f.1 (gap_value (unowned zero_time) ns f.0)) new.2)

-- a place within a list can be moved by one
pub moved_within : (n : ℕ) (found reported : Option ℕ) (more some : Bool) → n < 2 ^ 64 - 1 →
    more ≡ some → IfSome found (λ i. i < 2 ^ 64 - 1 → reported ≡ Some (i + cond more 1 0)) →
    IfSome found (λ i. i ≤ n → reported ≡ Some (i + cond some 1 0))
moved_within n None reported more some few e moved = tt
moved_within n (Some i) reported more some few e moved = λ h. moved (omega arith) ∙
    ap (λ (b : Bool). Some (i + cond b 1 0)) e

module _ (ns : List Node) (sorted : IsSorted ns) where
  -- the smaller key
  pub first_stands : (o p : Option KeyBytes) (f g : Option (ℕ × KeyBytes)) (reported : Option ℕ) →
      IsInOrder o p → IsNewKey ns o f → IsNewKey ns p g → IsIndexReported ns o f reported →
      StandsWhereReported (with_new (with_new ns g) f) o reported
  first_stands None p f g reported order new other at = at
  first_stands (Some k) p None g None order new other at = absurd at
  first_stands (Some k) p None None (Some i) order new other at = at
  first_stands (Some k) None None (Some g) (Some i) order new other at = absurd other
  first_stands (Some k) (Some m) None (Some g) (Some i) order new other at =
      stands_before ns i g.0 (node_in_gap g.1 (gap_value (unowned zero_time) ns g.0)) k
      (smaller_before k m ns i g.0 order sorted at other.1) other.2 at
  first_stands (Some k) p (Some f) g reported order new other at =
      rw at (stands_new (with_new ns g) k f
      (still_new ns (Some k) p (Some f) g sorted order new other))

  -- and the greater one, behind the node of the smaller one
  behind_first : (o : Option KeyBytes) (m : KeyBytes) (f g : Option (ℕ × KeyBytes)) (j : ℕ) →
      IsInOrder o (Some m) → IsNewKey ns o f → IsNewKey ns (Some m) g →
      StandsAt (with_new ns g) m j →
      StandsAt (with_new (with_new ns g) f) m (j + cond (is_some f) 1 0)
  behind_first o m None g j order new other at = let e : j + 0 ≡ j = omega arith in rw e at
  behind_first None m (Some f) g j order new other at = absurd new
  behind_first (Some k) m (Some f) g j order new other at =
      let ms : List Node = with_new ns g in
      let still = still_new ns (Some k) (Some m) (Some f) g sorted order new other in
      let up = (with_new_splits ns (Some m) g sorted other).sorted in
      stands_behind ms j f.0 (node_in_gap f.1 (gap_value (unowned zero_time) ms f.0)) m
      (greater_from k m ms f.0 j order up still.1 at) still.2 at

  pub second_stands : (o p : Option KeyBytes) (f g : Option (ℕ × KeyBytes))
      (found reported : Option ℕ)
      → IsInOrder o p → IsNewKey ns o f → IsNewKey ns p g → IsIndexReported ns p g found
      → (found ≡ None → reported ≡ None) →
      IfSome found (λ i. i ≤ length ns → reported ≡ Some (i + cond (is_some f) 1 0)) →
      StandsWhereReported (with_new (with_new ns g) f) p reported
  second_stands o None f g found reported order new other at none moved = none at
  second_stands o (Some m) f None None reported order new other at none moved = absurd at
  second_stands o (Some m) f None (Some j) reported order new other at none moved =
      rw (moved (omega (arith, at.bound))) (behind_first o m f None j order new other at)
  second_stands o (Some m) f (Some g) found reported order new other at none moved =
      let on = subst (λ r. IfSome r (λ i. i ≤ length ns →
      reported ≡ Some (i + cond (is_some f) 1 0)))
      at moved in
      rw (on other.2) (behind_first o m f (Some g) g.0 order new other (stands_new ns m g other))
