-- A value raised in one leaf after another.
use Rattle.std.proofs.Common.{◌≡◌, inl, inr, ◌∙◌, refl, sym, ap, subst, ℕ, zero, suc, ◌<◌, ◌≤◌, List, [], ◌∷◌, ◌++◌, length, map, take, drop, get_or, set, arith}
use Rattle.std.proofs.lemmas.List.{append_assoc, length-map, map-set}
use Rattle.tsc_time.specs.ValueView.{ValueView}
use Rattle.tsc_span.specs.Span.{Cut, before, last, SpanView, between}
use Rattle.tsc_page_nodes.specs.Nodes.{Node, IsSorted, raise_nodes}
use Rattle.tsc_page_tree.specs.Leaves.{nodes_of, leaf_sizes, AreSome, start_of, IsLeafAt}
use Rattle.tsc_span.proofs.CutOrder.{Lt, Le, Le_Lt-chain}
use Rattle.tsc_page_nodes.proofs.Cuts.{lowest}
use Rattle.tsc_page_nodes.proofs.Edits.{raise_nodes-length}
use Rattle.tsc_page_tree.proofs.Joins.{raises_left, raises_right, raises_both, up_to_last}
use Rattle.tsc_page_tree.proofs.LeafLists.{parted_at, leaf_first, leaf_set, sorted_from, starts_low, ends_high, lowest_below, subtree_read}

-- The leaves before a place are raised, and those from there on are as before.
pub record RaisesSoFar (old now : List (List Node)) (from to low : Cut) (v : ValueView) (p : ℕ) :
    Type 0 where
  pub sizes : leaf_sizes now ≡ leaf_sizes old
  pub rest : drop p now ≡ drop p old
  pub raised : raise_nodes (between from to) v (nodes_of old) ≡ nodes_of (take p now) ++
      raise_nodes (between low to) v (nodes_of (drop p old))
  pub up : Lt low to
  pub below : Lt low (start_of (nodes_of (drop (suc p) old)))

pub raises_start : (old : List (List Node)) (from to : Cut) (v : ValueView) (p : ℕ) → AreSome old →
    IsSorted (nodes_of old) → Lt from to → IsLeafAt old from p →
    RaisesSoFar old old from to from v p
raises_start old from to v p some sorted up at = record {
  sizes = refl;
  rest = refl;
  raised = ap (raise_nodes (between from to) v) (parted_at old p) ∙
      elim (starts_low old from p some at) [
        | inl h ↦ ap (λ (ns : List Node). raise_nodes (between from to) v (ns ++ nodes_of (drop p old)))
            h ∙ ap (λ (ns : List Node). ns ++ raise_nodes (between from to) v (nodes_of (drop p old)))
            (sym h)
        | inr h ↦ raises_right from to (nodes_of (drop p old)) h v (nodes_of (take p old))
            (subst IsSorted (parted_at old p) sorted)
      ];
  up = up;
  below = ends_high old from p some (up_to_last from to up) at;
}

-- another leaf of the same size
pub sizes_set : (ls : List (List Node)) (p : ℕ) (l : List Node) →
    length l ≡ length (get_or ls p []) → leaf_sizes (set ls p l) ≡ leaf_sizes ls
sizes_set [] p l h = refl
sizes_set (m ∷ ls) zero l h = ap (λ (n : ℕ). n ∷ leaf_sizes ls) h
sizes_set (m ∷ ls) (suc p) l h = ap (λ (ns : List ℕ). length m ∷ ns) (sizes_set ls p l h)

same_drop : (p : ℕ) (ls ms : List (List Node)) → drop p ls ≡ drop p ms →
    drop (suc p) ls ≡ drop (suc p) ms
same_drop p ls ms h = sym (one_more p ls) ∙ ap (drop 1) h ∙ one_more p ms
  where
    one_more : (q : ℕ) (ns : List (List Node)) → drop 1 (drop q ns) ≡ drop (suc q) ns
    one_more zero ns = refl
    one_more (suc q) [] = refl
    one_more (suc q) (n ∷ ns) = one_more q ns

set_drop : (ls : List (List Node)) (p : ℕ) (l : List Node) →
    drop (suc p) (set ls p l) ≡ drop (suc p) ls
set_drop [] p l = refl
set_drop (m ∷ ls) zero l = refl
set_drop (m ∷ ls) (suc p) l = set_drop ls p l

set_take : (ls : List (List Node)) (p : ℕ) (l : List Node) → p < length ls →
    nodes_of (take (suc p) (set ls p l)) ≡ nodes_of (take p ls) ++ l
set_take [] p l h = absurd (omega arith)
set_take (m ∷ ls) zero l h = append_nil l
  where
    append_nil : (ns : List Node) → ns ++ [] ≡ ns
    append_nil [] = refl
    append_nil (n ∷ ns) = ap (λ (ms : List Node). n ∷ ms) (append_nil ns)
set_take (m ∷ ls) (suc p) l h = ap (λ (ns : List Node). m ++ ns) (set_take ls p l (omega arith)) ∙
    sym (append_assoc m (nodes_of (take p ls)) l)

pub as_many : (old now : List (List Node)) → leaf_sizes now ≡ leaf_sizes old →
    length now ≡ length old
as_many old now h = omega (
  arith,
  ap length h,
  length-map now (λ l. length l),
  length-map old (λ l. length l),
)

module _ (old now : List (List Node)) (from to low : Cut) (v : ValueView) (p : ℕ)
    (some : AreSome old) (sorted : IsSorted (nodes_of old)) (inside : p < length now)
    (so_far : RaisesSoFar old now from to low v p) where
  abbrev pub leaf : List Node
  leaf = get_or now p []

  abbrev pub rest : List Node
  rest = nodes_of (drop (suc p) now)

  left : nodes_of (drop p old) ≡ leaf ++ rest
  left = ap nodes_of (sym so_far.rest) ∙ leaf_first now p [] inside

  rest_is : rest ≡ nodes_of (drop (suc p) old)
  rest_is = ap nodes_of (same_drop p now old so_far.rest)

  pub left_sorted : IsSorted (leaf ++ rest)
  left_sorted = subst IsSorted left (sorted_from old p sorted)

  below_rest : Lt low (start_of rest)
  below_rest = subst (λ (ns : List Node). Lt low (start_of ns)) (sym rest_is) so_far.below

  pub sizes_after : (s : SpanView) → leaf_sizes (set now p (raise_nodes s v leaf)) ≡ leaf_sizes old
  sizes_after s = sizes_set now p (raise_nodes s v leaf) (raise_nodes-length s v leaf) ∙
      so_far.sizes

  -- the last leaf that the span meets
  pub raises_last : Le to (start_of rest) →
      nodes_of (set now p (raise_nodes (between low to) v leaf)) ≡ raise_nodes (between from to) v
      (nodes_of old)
  raises_last high =
      leaf_set now p (raise_nodes (between low to) v leaf) inside
      ∙ ap (λ (ns : List Node). nodes_of (take p now) ++ ns)
      (sym (raises_left low to so_far.up rest high v leaf left_sorted))
      ∙ ap (λ (ns : List Node). nodes_of (take p now) ++ raise_nodes (between low to) v ns)
      (sym left)
      ∙ sym so_far.raised

  -- one that it goes beyond
  pub raises_go_on : Lt (start_of rest) to →
      RaisesSoFar old (set now p (raise_nodes (between low last) v leaf)) from to (before []) v
      (suc p)
  raises_go_on high = record {
    sizes = sizes_after (between low last);
    rest = set_drop now p (raise_nodes (between low last) v leaf) ∙ same_drop p now old so_far.rest;
    raised = so_far.raised
        ∙ ap (λ (ns : List Node). nodes_of (take p now) ++ raise_nodes (between low to) v ns) left
        ∙ ap (λ (ns : List Node). nodes_of (take p now) ++ ns)
        (raises_both low to rest below_rest high v leaf left_sorted)
        ∙ sym (append_assoc (nodes_of (take p now)) (raise_nodes (between low last) v leaf)
        (raise_nodes (between (before []) to) v rest))
        ∙ ap (λ (ns : List Node). ns ++ raise_nodes (between (before []) to) v rest)
        (sym (set_take now p (raise_nodes (between low last) v leaf) inside))
        ∙ ap (λ (ns : List Node). nodes_of
        (take (suc p) (set now p (raise_nodes (between low last) v leaf))) ++
        raise_nodes (between (before []) to) v ns) rest_is;
    up = Le_Lt-chain (before []) low to (lowest low) so_far.up;
    below = lowest_below old some sorted (suc p);
  }

-- no leaf is left
pub raises_end : (old now : List (List Node)) (from to low : Cut) (v : ValueView) (p : ℕ) →
    length now ≤ p → RaisesSoFar old now from to low v p →
    nodes_of now ≡ raise_nodes (between from to) v (nodes_of old)
raises_end old now from to low v p h so_far =
    sym (append_nil (nodes_of now))
    ∙ ap (λ (ls : List (List Node)). nodes_of ls ++ []) (sym (all_taken p now h))
    ∙ ap (λ (ls : List (List Node)). nodes_of (take p now) ++
    raise_nodes (between low to) v (nodes_of ls))
    (sym (none_left p old (omega (arith, as_many old now so_far.sizes))))
    ∙ sym so_far.raised
  where
    append_nil : (ns : List Node) → ns ++ [] ≡ ns
    append_nil [] = refl
    append_nil (n ∷ ns) = ap (λ (ms : List Node). n ∷ ms) (append_nil ns)

    all_taken : (q : ℕ) (ls : List (List Node)) → length ls ≤ q → take q ls ≡ ls
    all_taken zero [] g = refl
    all_taken (suc q) [] g = refl
    all_taken zero (l ∷ ls) g = absurd (omega arith)
    all_taken (suc q) (l ∷ ls) g =
        ap (λ (ms : List (List Node)). l ∷ ms) (all_taken q ls (omega arith))

    none_left : (q : ℕ) (ls : List (List Node)) → length ls ≤ q → drop q ls ≡ []
    none_left zero [] g = refl
    none_left (suc q) [] g = refl
    none_left zero (l ∷ ls) g = absurd (omega arith)
    none_left (suc q) (l ∷ ls) g = none_left q ls (omega arith)

-- another subtree in a place, which is the one there raised
pub raised_subtree : {X : Type 0} (f : X → List Node) (xs : List X) (p : ℕ) (d y : X) (s : SpanView)
    (v : ValueView) → p < length xs → f y ≡ raise_nodes s v (f (get_or xs p d)) →
    map f (set xs p y) ≡ set (map f xs) p (raise_nodes s v (get_or (map f xs) p []))
raised_subtree f xs p d y s v inside is = map-set f xs p y ∙
    ap (λ (l : List Node). set (map f xs) p l)
    (is ∙ ap (raise_nodes s v) (subtree_read f xs p d inside))
