-- Loops over subtrees: a value ratcheted into each, and the search for the one in which a cut
-- falls.
use Rattle.std.proofs.Common.{◌≡◌, inl, inr, ◌∙◌, refl, sym, ap, subst, true, false, ℕ, zero, suc, ◌+◌, ◌-◌, ◌<◌, ◌≤◌, List, [], ◌∷◌, length, map, set, get_or, arith}
use Rattle.std.proofs.lemmas.List.{get_or_default, get_or-set_same, get_or-set_other, length-set, length-map}
use Rattle.tsc_time.specs.ValueView.{ValueView}
use Rattle.tsc_span.specs.Span.{Cut, is_below}
use Rattle.tsc_page_nodes.specs.Nodes.{Node, IsSorted, raise_nodes}
use Rattle.tsc_page_tree.specs.Leaves.{nodes_of, start_of, IsLeafAt, IsNotAbove}
use Rattle.tsc_page_tree.specs.Lazy.{everything}
use Rattle.tsc_page_nodes.proofs.Indices.{before_or_past}
use Rattle.tsc_page_tree.proofs.LeafLists.{leaf_sorted, subtree_read}
use Rattle.tsc_page_tree.proofs.Lazy.{raised_indices}

-- The subtrees before a place are raised, and those from there on are as before.
pub record AreRaised {X : Type 0} (f : X → List Node) (v : ValueView) (old now : List X) (i : ℕ) :
    Type 0 where
  pub as_long : length now ≡ length old
  pub raised : (j : ℕ) (d : X) → j < i → j < length old →
      f (get_or now j d) ≡ raise_nodes everything v (f (get_or old j d))
  pub rest : (j : ℕ) (d : X) → i ≤ j → get_or now j d ≡ get_or old j d

pub none_raised : {X : Type 0} (f : X → List Node) (v : ValueView) (xs : List X) →
    AreRaised f v xs xs 0
none_raised f v xs = record {
  as_long = refl;
  raised = λ j d h g. absurd (omega (arith, h));
  rest = λ j d h. refl;
}

-- the next subtree is in order
pub next_sorted : {X : Type 0} (f : X → List Node) (v : ValueView) (old now : List X) (i : ℕ)
    (d : X) → IsSorted (nodes_of (map f old)) → i < length now → AreRaised f v old now i →
    IsSorted (f (get_or now i d))
next_sorted f v old now i d sorted inside so_far =
    let here : i < length old = omega (arith, inside, so_far.as_long) in
    let in_map : i < length (map f old) = omega (arith, here, length-map old f) in
    subst IsSorted (sym (ap f (so_far.rest i d (omega arith)) ∙ subtree_read f old i d here))
    (leaf_sorted (map f old) i [] in_map sorted)

-- and raised
pub one_raised : {X : Type 0} (f : X → List Node) (v : ValueView) (old now : List X) (i : ℕ)
    (d y : X) → i < length now → f y ≡ raise_nodes everything v (f (get_or now i d)) →
    AreRaised f v old now i → AreRaised f v old (set now i y) (i + 1)
one_raised {X = X} f v old now i d y inside is so_far = record {
  as_long = length-set now i y ∙ so_far.as_long;
  raised = λ j e h g. elim (before_or_past j i) [
    | inl k ↦ ap f (get_or-set_other now i j y e (λ q. omega (arith, k, q))) ∙ so_far.raised j e k g
    | inr k ↦
        let here : j ≡ i = omega (arith, h, k) in
        let at : get_or now i d ≡ get_or old i e = get_or_default now i d e inside ∙
        so_far.rest i e (omega arith) in
        subst (λ (q : ℕ). f (get_or (set now i y) q e) ≡ raise_nodes everything v
        (f (get_or old q e))) (sym here)
        (ap f (get_or-set_same now i y e inside) ∙ is ∙
        ap (λ (x : X). raise_nodes everything v (f x)) at)
  ];
  rest = λ j e h. get_or-set_other now i j y e (λ q. omega (arith, h, q)) ∙
      so_far.rest j e (omega (arith, h));
}

pub all_raised : {X : Type 0} (f : X → List Node) (v : ValueView) (old now : List X) (i : ℕ) →
    IsSorted (nodes_of (map f old)) → length old ≤ i → AreRaised f v old now i →
    nodes_of (map f now) ≡ raise_nodes everything v (nodes_of (map f old))
all_raised f v old now i sorted past so_far = raised_indices v f f old now so_far.as_long
    (λ j d e h. ap f (get_or_default now j e d (omega (arith, h, so_far.as_long))) ∙
    so_far.raised j d (omega (arith, h, past)) h) sorted

-- what another subtree in a place has in common with the one there, all have
pub same_by : {X Y : Type 0} (s : X → Y) (xs : List X) (i : ℕ) (d y : X) → i < length xs →
    s y ≡ s (get_or xs i d) → map s (set xs i y) ≡ map s xs
same_by s [] i d y inside same = absurd (omega (arith, inside))
same_by s (x ∷ xs) zero d y inside same = ap (λ z. z ∷ map s xs) same
same_by s (x ∷ xs) (suc i) d y inside same =
    ap (λ zs. s x ∷ zs) (same_by s xs i d y (omega (arith, inside)) same)

-- the first place isn't above a cut
pub none_above : (ls : List (List Node)) (c : Cut) → IsNotAbove ls c 0
none_above ls c = record { bound = omega arith; low = λ h. absurd (omega (arith, h)) }

-- nor that of a subtree that doesn't begin above it
pub not_above : {X : Type 0} (f : X → List Node) (xs : List X) (c : Cut) (p : ℕ) (d : X) →
    p < length xs → is_below c (start_of (f (get_or xs p d))) ≡ false → IsNotAbove (map f xs) c p
not_above f xs c p d inside reports = record {
  bound = omega (arith, inside, length-map xs f);
  low = λ h. subst (λ (l : List Node). is_below c (start_of l) ≡ false)
      (subtree_read f xs p d inside) reports;
}

-- where the next subtree begins above the cut, it falls in the one before
pub falls_before_next : {X : Type 0} (f : X → List Node) (xs : List X) (c : Cut) (p : ℕ) (d : X) →
    1 ≤ p → p < length xs → is_below c (start_of (f (get_or xs p d))) ≡ true →
    IsNotAbove (map f xs) c (p - 1) → IsLeafAt (map f xs) c (p - 1)
falls_before_next f xs c p d some inside reports so_far =
    let next : p ≡ suc (p - 1) = omega (arith, some) in
    record {
      bound = so_far.bound;
      low = so_far.low;
      high = λ h. subst (λ (j : ℕ). is_below c (start_of (get_or (map f xs) j [])) ≡ true) next
          (subst (λ (l : List Node). is_below c (start_of l) ≡ true) (subtree_read f xs p d inside)
          reports);
    }

-- and where there is none, in the last one
pub falls_in_last : (ls : List (List Node)) (c : Cut) (p : ℕ) → p ≡ length ls - 1 →
    IsNotAbove ls c p → IsLeafAt ls c p
falls_in_last ls c p is so_far = record {
  bound = so_far.bound;
  low = so_far.low;
  high = λ h. absurd (omega (arith, h, is));
}
