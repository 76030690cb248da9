-- Lists of leaves, and where a cut falls among them.
use Rattle.std.proofs.Common.{◌≡◌, ◌⊎◌, inl, inr, ◌∙◌, refl, sym, ap, subst, ℕ, zero, suc, ◌<◌, ◌≤◌, List, [], ◌∷◌, ◌++◌, length, map, take, drop, get_or, set, arith}
use Rattle.std.specs.Prelude.{Some, None, slice_get}
use Rattle.std.specs.List.{All, insert}
use Rattle.std.proofs.lemmas.List.{append_assoc}
use Rattle.tsc_span.specs.Span.{Cut, before, after, last}
use Rattle.tsc_page_model.specs.PageView.{AreLeafSizes}
use Rattle.tsc_page_nodes.specs.Nodes.{Node, IsSorted}
use Rattle.tsc_page_tree.specs.Leaves.{nodes_of, AreSome, AreSubtrees, IsSubtree, start_of, IsLeafAt}
use Rattle.tsc_span.proofs.CutOrder.{Lt, Le, Le-from_Lt, Le-itself, Lt-chain, Le-chain, Le_Lt-chain, before-after}
use Rattle.tsc_page_nodes.proofs.Cuts.{lowest}
use Rattle.tsc_page_nodes.proofs.Indices.{before_or_past}
use Rattle.tsc_page_tree.proofs.Joins.{sorted_left, sorted_right, below_next}

-- the nodes before a place and from there on
pub parted_at : (ls : List (List Node)) (p : ℕ) →
    nodes_of ls ≡ nodes_of (take p ls) ++ nodes_of (drop p ls)
parted_at ls zero = refl
parted_at [] (suc p) = refl
parted_at (l ∷ ls) (suc p) = ap (λ (ns : List Node). l ++ ns) (parted_at ls p) ∙
    sym (append_assoc l (nodes_of (take p ls)) (nodes_of (drop p ls)))

-- a leaf, and the nodes after it
pub leaf_first : (ls : List (List Node)) (p : ℕ) (d : List Node) → p < length ls →
    nodes_of (drop p ls) ≡ get_or ls p d ++ nodes_of (drop (suc p) ls)
leaf_first [] p d h = absurd (omega arith)
leaf_first (l ∷ ls) zero d h = refl
leaf_first (l ∷ ls) (suc p) d h = leaf_first ls p d (omega arith)

-- another leaf at a place
pub leaf_set : (ls : List (List Node)) (p : ℕ) (l : List Node) → p < length ls →
    nodes_of (set ls p l) ≡ nodes_of (take p ls) ++ (l ++ nodes_of (drop (suc p) ls))
leaf_set [] p l h = absurd (omega arith)
leaf_set (m ∷ ls) zero l h = refl
leaf_set (m ∷ ls) (suc p) l h = ap (λ (ns : List Node). m ++ ns) (leaf_set ls p l (omega arith)) ∙
    sym (append_assoc m (nodes_of (take p ls)) (l ++ nodes_of (drop (suc p) ls)))

pub sorted_from : (ls : List (List Node)) (p : ℕ) → IsSorted (nodes_of ls) →
    IsSorted (nodes_of (drop p ls))
sorted_from ls p sorted = sorted_right (nodes_of (take p ls)) (nodes_of (drop p ls))
    (subst IsSorted (parted_at ls p) sorted)

pub leaf_sorted : (ls : List (List Node)) (p : ℕ) (d : List Node) → p < length ls →
    IsSorted (nodes_of ls) → IsSorted (get_or ls p d)
leaf_sorted ls p d h sorted = sorted_left (get_or ls p d) (nodes_of (drop (suc p) ls))
    (subst IsSorted (leaf_first ls p d h) (sorted_from ls p sorted))

-- the nodes of all leaves begin no later than those of each
from_first : (ls : List (List Node)) → AreSome ls → IsSorted (nodes_of ls) →
    (j : ℕ) (d : List Node) → j < length ls → Le (start_of (nodes_of ls)) (start_of (get_or ls j d))
from_first [] sizes sorted j d h = absurd (omega arith)
from_first ([] ∷ ls) sizes sorted j d h = absurd (omega (arith, sizes.0))
from_first ((n ∷ ns) ∷ ls) sizes sorted zero d h = Le-itself (before n.key)
from_first ((n ∷ ns) ∷ ls) sizes sorted (suc j) d h =
    Le-chain (before n.key) (start_of (nodes_of ls)) (start_of (get_or ls j d))
    (Le-from_Lt (before n.key) (start_of (nodes_of ls))
    (Lt-chain (before n.key) (after n.key) (start_of (nodes_of ls)) (before-after n.key)
    (below_next n ns (nodes_of ls) sorted)))
    (from_first ls sizes.1 (sorted_right (n ∷ ns) (nodes_of ls) sorted) j d (omega arith))

-- leaves begin in their order
pub starts_rise : (ls : List (List Node)) → AreSome ls → IsSorted (nodes_of ls) →
    (i j : ℕ) (d : List Node) → i ≤ j → j < length ls →
    Le (start_of (get_or ls i d)) (start_of (get_or ls j d))
starts_rise [] sizes sorted i j d h g = absurd (omega arith)
starts_rise ([] ∷ ls) sizes sorted zero j d h g = absurd (omega (arith, sizes.0))
starts_rise ((n ∷ ns) ∷ ls) sizes sorted zero j d h g =
    from_first ((n ∷ ns) ∷ ls) sizes sorted j d g
starts_rise (l ∷ ls) sizes sorted (suc i) zero d h g = absurd (omega arith)
starts_rise (l ∷ ls) sizes sorted (suc i) (suc j) d h g =
    starts_rise ls sizes.1 (sorted_right l (nodes_of ls) sorted) i j d (omega arith) (omega arith)

-- the nodes from a place on begin where its leaf does
pub start_at : (ls : List (List Node)) → AreSome ls → (p : ℕ) (d : List Node) → p < length ls →
    start_of (nodes_of (drop p ls)) ≡ start_of (get_or ls p d)
start_at [] sizes p d h = absurd (omega arith)
start_at ([] ∷ ls) sizes zero d h = absurd (omega (arith, sizes.0))
start_at ((n ∷ ns) ∷ ls) sizes zero d h = refl
start_at (l ∷ ls) sizes (suc p) d h = start_at ls sizes.1 p d (omega arith)

-- and past the last one nowhere
pub start_past : (ls : List (List Node)) (p : ℕ) → length ls ≤ p →
    start_of (nodes_of (drop p ls)) ≡ last
start_past [] zero h = refl
start_past [] (suc p) h = refl
start_past (l ∷ ls) zero h = absurd (omega arith)
start_past (l ∷ ls) (suc p) h = start_past ls p (omega arith)

-- the lowest cut is below all that comes after a leaf
pub lowest_below : (ls : List (List Node)) → AreSome ls → IsSorted (nodes_of ls) → (p : ℕ) →
    Lt (before []) (start_of (nodes_of (drop (suc p) ls)))
lowest_below [] sizes sorted p = refl
lowest_below ([] ∷ ls) sizes sorted p = absurd (omega (arith, sizes.0))
lowest_below ((n ∷ ns) ∷ ls) sizes sorted zero =
    Le_Lt-chain (before []) (before n.key) (start_of (nodes_of ls)) (lowest (before n.key))
    (Lt-chain (before n.key) (after n.key) (start_of (nodes_of ls)) (before-after n.key)
    (below_next n ns (nodes_of ls) sorted))
lowest_below (l ∷ ls) sizes sorted (suc p) =
    lowest_below ls sizes.1 (sorted_right l (nodes_of ls) sorted) p

-- a leaf that is read
pub read_leaf : {X : Type 0} (f : X → List Node) (xs : List X) (i : ℕ) (x : X) → i < length xs →
    x ≡ get_or xs i x → f x ≡ get_or (map f xs) i []
read_leaf f [] i x h e = absurd (omega arith)
read_leaf f (y ∷ ys) zero x h e = ap f e
read_leaf f (y ∷ ys) (suc i) x h e = read_leaf f ys i x (omega arith) e

pub some_nodes : (ls : List (List Node)) → AreSome ls → (p : ℕ) (d : List Node) → p < length ls →
    1 ≤ length (get_or ls p d)
some_nodes [] sizes p d h = absurd (omega arith)
some_nodes (l ∷ ls) sizes zero d h = sizes.0
some_nodes (l ∷ ls) sizes (suc p) d h = some_nodes ls sizes.1 p d (omega arith)

-- and none is above 64
pub size_small : (ns : List ℕ) (i n : ℕ) → AreLeafSizes ns → Some n ≡ slice_get ns i → n ≤ 64
size_small [] zero n sizes e = absurd (differs e)
  where
    differs : Some n ≡ None → ⊥
    differs c = cc
size_small [] (suc i) n sizes e = absurd (differs e)
  where
    differs : Some n ≡ None → ⊥
    differs c = cc
size_small (m ∷ ns) zero n sizes e = let same : n ≡ m = cc in omega (arith, sizes.1)
size_small (m ∷ ns) (suc i) n sizes e = size_small ns i n sizes.2 e

-- what stands before the leaf of a cut stands below the cut
pub starts_low : (ls : List (List Node)) (c : Cut) (p : ℕ) → AreSome ls → IsLeafAt ls c p →
    (nodes_of (take p ls) ≡ []) ⊎ Le (start_of (nodes_of (drop p ls))) c
starts_low ls c zero sizes at = inl refl
starts_low ls c (suc p) sizes at =
    inr (subst (λ (x : Cut). Le x c) (sym (start_at ls sizes (suc p) [] (omega (arith, at.bound))))
    (at.low (omega arith)))

-- and what comes after it begins above
pub ends_high : (ls : List (List Node)) (c : Cut) (p : ℕ) → AreSome ls → Lt c last →
    IsLeafAt ls c p → Lt c (start_of (nodes_of (drop (suc p) ls)))
ends_high ls c p sizes below at = elim (before_or_past (suc p) (length ls)) [
  | inl h ↦ subst (Lt c) (sym (start_at ls sizes (suc p) [] h)) (at.high h)
  | inr h ↦ subst (Lt c) (sym (start_past ls (suc p) h)) below
]

-- A leaf in which a cut falls, and the nodes before it and after it.
pub record StandsAround (ls : List (List Node)) (p : ℕ) (c : Cut) : Type 0 where
  pub whole : nodes_of ls ≡ nodes_of (take p ls) ++ (get_or ls p [] ++ nodes_of (drop (suc p) ls))
  pub sorted : IsSorted (nodes_of (take p ls) ++ (get_or ls p [] ++ nodes_of (drop (suc p) ls)))
  pub some : 1 ≤ length (get_or ls p [])
  pub low : (nodes_of (take p ls) ≡ []) ⊎ Le (start_of (get_or ls p [])) c
  pub high : Lt c (start_of (nodes_of (drop (suc p) ls)))

pub stands_around : (ls : List (List Node)) (p : ℕ) (c : Cut) → AreSome ls →
    IsSorted (nodes_of ls) → p < length ls → Lt c last → IsLeafAt ls c p → StandsAround ls p c
stands_around ls p c sizes sorted inside below at = record {
  whole = whole;
  sorted = subst IsSorted whole sorted;
  some = some_nodes ls sizes p [] inside;
  low = elim (starts_low ls c p sizes at) [
    | inl h ↦ inl h
    | inr h ↦ inr
        (subst (λ (x : Cut). Le x c) (start_at ls sizes p [] inside) h)
  ];
  high = ends_high ls c p sizes below at;
}
  where
    whole : nodes_of ls ≡ nodes_of (take p ls) ++ (get_or ls p [] ++ nodes_of (drop (suc p) ls))
    whole = parted_at ls p ∙ ap (λ (ns : List Node). nodes_of (take p ls) ++ ns)
        (leaf_first ls p [] inside)

-- subtrees that are whole have nodes
pub all_some : {X : Type 0} (f : X → List Node) (Q : X → Type 0) (xs : List X) →
    ((x : X) → Q x → 1 ≤ length (f x)) → All Q xs → AreSome (map f xs)
all_some f Q [] some all = tt
all_some f Q (x ∷ xs) some all = (
  some x (all 0 x (omega arith)),
  all_some f Q xs some (λ i d h. all (suc i) d (omega arith)),
)

-- a subtree, wherever it is read
pub subtree_read : {X : Type 0} (f : X → List Node) (xs : List X) (i : ℕ) (d : X) → i < length xs →
    f (get_or xs i d) ≡ get_or (map f xs) i []
subtree_read f [] i d h = absurd (omega arith)
subtree_read f (x ∷ xs) zero d h = refl
subtree_read f (x ∷ xs) (suc i) d h = subtree_read f xs i d (omega arith)

-- what holds of all holds of them with another in a place
pub all_set : {X : Type 0} (Q : X → Type 0) (xs : List X) (p : ℕ) (y : X) → All Q xs → Q y →
    All Q (set xs p y)
all_set Q [] p y all at i d h = absurd (omega (arith, h))
all_set Q (x ∷ xs) zero y all at zero d h = at
all_set Q (x ∷ xs) zero y all at (suc i) d h = all (suc i) d (omega (arith, h))
all_set Q (x ∷ xs) (suc p) y all at zero d h = all 0 d (omega arith)
all_set Q (x ∷ xs) (suc p) y all at (suc i) d h =
    all_set Q xs p y (λ j e g. all (suc j) e (omega arith)) at i d (omega (arith, h))

-- and with one more
pub all_insert : {X : Type 0} (Q : X → Type 0) (xs : List X) (p : ℕ) (y : X) → p ≤ length xs →
    All Q xs → Q y → All Q (insert xs p y)
all_insert Q xs zero y few all at zero d h = at
all_insert Q xs zero y few all at (suc i) d h = all i d (omega (arith, h))
all_insert Q [] (suc p) y few all at i d h = absurd (omega (arith, few))
all_insert Q (x ∷ xs) (suc p) y few all at zero d h = all 0 d (omega arith)
all_insert Q (x ∷ xs) (suc p) y few all at (suc i) d h =
    all_insert Q xs p y (omega (arith, few)) (λ j e g. all (suc j) e (omega arith)) at i d
    (omega (arith, h))

-- each of subtrees in order is in order
pub subtree_sorted : {X : Type 0} (f : X → List Node) (Q : X → Type 0) (xs : List X)
    (p : ℕ) (d : X) →
    p < length xs → AreSubtrees f Q xs → IsSorted (f (get_or xs p d))
subtree_sorted f Q [] p d inside subtrees = absurd (omega (arith, inside))
subtree_sorted f Q (x ∷ xs) zero d inside subtrees = sorted_left (f x) (nodes_of (map f xs))
    subtrees.sorted
subtree_sorted f Q (x ∷ xs) (suc p) d inside subtrees =
    subtree_sorted f Q xs p d (omega (arith, inside))
    (record {
      whole = λ i e h. subtrees.whole (suc i) e (omega (arith, h));
      sorted = sorted_right (f x) (nodes_of (map f xs)) subtrees.sorted;
    })

pub is_subtree : {X : Type 0} (f : X → List Node) (Q : X → Type 0) (xs : List X) (p : ℕ) (d : X) →
    p < length xs → AreSubtrees f Q xs → IsSubtree f Q (get_or xs p d)
is_subtree f Q xs p d inside subtrees =
    record { whole = subtrees.whole p d inside; sorted = subtree_sorted f Q xs p d inside subtrees }

pub read_subtree : {X : Type 0} (f : X → List Node) (Q : X → Type 0) (xs : List X) (p : ℕ) (x : X) →
    p < length xs → x ≡ get_or xs p x → AreSubtrees f Q xs → IsSubtree f Q x
read_subtree f Q xs p x inside is subtrees = subst (IsSubtree f Q) (sym is) (is_subtree f Q xs p x
    inside subtrees)
