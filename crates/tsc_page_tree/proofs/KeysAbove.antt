-- The least key above a cut, among subtrees one after another.
use Rattle.std.proofs.Common.{◌≡◌, inl, inr, ◌∙◌, refl, sym, ap, subst, ℕ, zero, suc, ◌≤◌, ◌-◌, List, [], ◌∷◌, ◌++◌, length, take, drop, get_or, arith}
use Rattle.std.proofs.lemmas.Bool.{cases_Bool}
use Rattle.std.specs.Prelude.{Option, Some, None}
use Rattle.tsc_span.specs.Span.{KeyBytes, Cut, before, after, is_below}
use Rattle.tsc_page_nodes.specs.Nodes.{Node, IsSorted, node_keys}
use Rattle.tsc_page_model.specs.KeysAbove.{first_above}
use Rattle.tsc_span.proofs.CutOrder.{Lt, Le, Lt-chain, Lt_Le-chain, Le-from_Lt, before-after}
use Rattle.tsc_page_nodes.proofs.Indices.{before_or_past}
use Rattle.tsc_page_tree.specs.Leaves.{nodes_of, start_of, AreSome, IsLeafAt}
use Rattle.tsc_page_tree.proofs.Joins.{below_next}
use Rattle.tsc_page_tree.proofs.LeafLists.{parted_at, leaf_first, some_nodes, starts_low}

-- the first key of nodes above a cut
abbrev pub node_above : Cut → List Node → Option KeyBytes
node_above c ns = first_above c (node_keys ns)

-- the first of two keys that there is
abbrev pub or_next : Option KeyBytes → Option KeyBytes → Option KeyBytes
or_next None second = second
or_next (Some k) second = Some k

-- of two lists the second one tells where the first one has none
above-append : (c : Cut) (xs ys : List Node) →
    node_above c (xs ++ ys) ≡ or_next (node_above c xs) (node_above c ys)
above-append c [] ys = refl
above-append c (x ∷ xs) ys = elim (cases_Bool (is_below (before x.key) c)) [
  | inl h ↦ rw h (above-append c xs ys)
  | inr h ↦ rw h refl
]

-- nodes before those that begin at a cut or below it have none above it
none_before : (c : Cut) (xs ys : List Node) → IsSorted (xs ++ ys) → Le (start_of ys) c →
    node_above c xs ≡ None
none_before c [] ys sorted low = refl
none_before c (x ∷ xs) ys sorted low =
    let up : Lt (before x.key) c =
    Lt_Le-chain (before x.key) (start_of ys) c
    (Lt-chain (before x.key) (after x.key) (start_of ys) (before-after x.key)
    (below_next x xs ys sorted)) low in
    rw up (none_before c xs ys sorted.1 low)

-- where nodes begin above a cut their first key is told
first_reported : (c : Cut) (ns ys : List Node) → 1 ≤ length ns → Lt c (start_of ns) →
    or_next (node_above c ns) (node_above c ys) ≡ node_above c ns
first_reported c [] ys some high = absurd (omega (arith, some))
first_reported c (n ∷ ns) ys some high = rw (Le-from_Lt c (before n.key) high) refl

or_none : (o : Option KeyBytes) → or_next o None ≡ o
or_none None = refl
or_none (Some k) = refl

-- the nodes behind a subtree, of which the next subtree tells
reported_behind : (ls : List (List Node)) (c : Cut) (p : ℕ) → AreSome ls → IsLeafAt ls c p →
    node_above c (nodes_of (drop (suc p) ls)) ≡ node_above c (get_or ls (suc p) [])
reported_behind ls c p sizes at = elim (before_or_past (suc p) (length ls)) [
  | inl h ↦
      ap (node_above c) (leaf_first ls (suc p) [] h)
      ∙ above-append c (get_or ls (suc p) []) (nodes_of (drop (suc (suc p)) ls))
      ∙ first_reported c (get_or ls (suc p) []) (nodes_of (drop (suc (suc p)) ls))
      (some_nodes ls sizes (suc p) [] h) (at.high h)
  | inr h ↦ ap (node_above c) (none_left ls (suc p) h) ∙
      ap (node_above c) (sym (none_there ls (suc p) h))
]
  where
    none_left : (ms : List (List Node)) (i : ℕ) → length ms ≤ i → nodes_of (drop i ms) ≡ []
    none_left [] zero h = refl
    none_left [] (suc i) h = refl
    none_left (m ∷ ms) zero h = absurd (omega arith)
    none_left (m ∷ ms) (suc i) h = none_left ms i (omega arith)

    none_there : (ms : List (List Node)) (i : ℕ) → length ms ≤ i → get_or ms i [] ≡ []
    none_there [] i h = refl
    none_there (m ∷ ms) zero h = absurd (omega arith)
    none_there (m ∷ ms) (suc i) h = none_there ms i (omega arith)

-- the subtree in which a cut falls tells, or else the next one
pub above_in_subtree : (ls : List (List Node)) (c : Cut) (p : ℕ) → AreSome ls →
    IsSorted (nodes_of ls) → IsLeafAt ls c p
    → node_above c (nodes_of ls) ≡ or_next (node_above c (get_or ls p []))
    (node_above c (get_or ls (suc p) []))
above_in_subtree ls c p sizes sorted at = elim (before_or_past p (length ls)) [
  | inl h ↦
      ap (node_above c) (parted_at ls p)
      ∙ above-append c (nodes_of (take p ls)) (nodes_of (drop p ls))
      ∙ ap (λ o. or_next o (node_above c (nodes_of (drop p ls)))) none
      ∙ ap (node_above c) (leaf_first ls p [] h)
      ∙ above-append c (get_or ls p []) (nodes_of (drop (suc p) ls))
      ∙ ap (or_next (node_above c (get_or ls p []))) (reported_behind ls c p sizes at)
  | inr h ↦ empty ls p h at.bound
]
  where
    none : node_above c (nodes_of (take p ls)) ≡ None
    none = elim (starts_low ls c p sizes at) [
      | inl e ↦ ap (node_above c) e
      | inr l ↦ none_before c (nodes_of (take p ls)) (nodes_of (drop p ls))
          (subst IsSorted (parted_at ls p) sorted) l
    ]

    empty : (ms : List (List Node)) (i : ℕ) → length ms ≤ i → i ≤ length ms - 1 →
        node_above c (nodes_of ms) ≡ or_next (node_above c (get_or ms i []))
        (node_above c (get_or ms (suc i) []))
    empty [] i h g = refl
    empty (m ∷ ms) i h g = absurd (omega arith)

-- a key that is found is told, and else what comes next
pub found_first : (o first second : Option KeyBytes) (k : KeyBytes) → o ≡ or_next first second →
    Some k ≡ first → Some k ≡ o
found_first o first second k is found = ap (λ f. or_next f second) found ∙ sym is

pub found_next : (o first second : Option KeyBytes) → o ≡ or_next first second → None ≡ first →
    (r : Option KeyBytes) → r ≡ second → r ≡ o
found_next o first second is none r next = next ∙ ap (λ f. or_next f second) none ∙ sym is

-- what a subtree tells, by another word for its place
pub at_index : (c : Cut) (ls : List (List Node)) {i : ℕ} (j : ℕ) (r : Option KeyBytes) →
    r ≡ node_above c (get_or ls i []) → i ≡ j → r ≡ node_above c (get_or ls j [])
at_index c ls j r reported is = reported ∙ ap (λ (k : ℕ). node_above c (get_or ls k [])) is
