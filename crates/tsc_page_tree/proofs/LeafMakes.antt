-- A node made in a subtree, of which what lies behind may be cut off.
use Rattle.std.proofs.Common.{◌≡◌, ◌∙◌, refl, sym, ap, subst, ℕ, zero, suc, ◌<◌, List, [], ◌∷◌, ◌++◌, length, map, take, drop, get_or, set, arith}
use Rattle.std.specs.List.{insert}
use Rattle.std.proofs.lemmas.List.{append_assoc, length-map, map-set}
use Rattle.tsc_span.specs.Span.{KeyBytes, before}
use Rattle.tsc_page_nodes.specs.Nodes.{Node, IsSorted}
use Rattle.tsc_page_tree.specs.Leaves.{nodes_of, AreSome, IsLeafAt, HasNode}
use Rattle.tsc_page_tree.proofs.LeafLists.{StandsAround, stands_around, leaf_set, subtree_read}
use Rattle.tsc_page_tree.proofs.LeafKeys.{wholly_below, made_in_subtree}

pub append_nil : (ns : List Node) → ns ++ [] ≡ ns
append_nil [] = refl
append_nil (n ∷ ns) = ap (λ (ms : List Node). n ∷ ms) (append_nil ns)

-- a subtree in another's place, and one behind it
subtree_cut : (ls : List (List Node)) (p : ℕ) (a u : List Node) → p < length ls →
    nodes_of (insert (set ls p a) (suc p) u) ≡ nodes_of (take p ls) ++
    ((a ++ (u ++ [])) ++ nodes_of (drop (suc p) ls))
subtree_cut [] p a u h = absurd (omega arith)
subtree_cut (m ∷ ls) zero a u h = sym (append_assoc a u (nodes_of ls)) ∙
    ap (λ (ns : List Node). (a ++ ns) ++ nodes_of ls) (sym (append_nil u))
subtree_cut (m ∷ ls) (suc p) a u h = ap (λ (ns : List Node). m ++ ns) (subtree_cut ls p a u
    (omega arith))
    ∙ sym (append_assoc m (nodes_of (take p ls)) ((a ++ (u ++ [])) ++ nodes_of (drop (suc p) ls)))

pub map_insert : {X : Type 0} (f : X → List Node) (xs : List X) (i : ℕ) (x : X) →
    map f (insert xs i x) ≡ insert (map f xs) i (f x)
map_insert f xs zero x = refl
map_insert f [] (suc i) x = refl
map_insert f (y ∷ ys) (suc i) x = ap (λ (ls : List (List Node)). f y ∷ ls) (map_insert f ys i x)

module _ {X : Type 0} (f : X → List Node) (xs : List X) (p : ℕ) (d y : X) (k : KeyBytes)
    (some : AreSome (map f xs)) (sorted : IsSorted (nodes_of (map f xs))) (inside : p < length xs)
    (at : IsLeafAt (map f xs) (before k) p) where
  abbrev pub ls : List (List Node)
  ls = map f xs

  around : StandsAround ls p (before k)
  around = stands_around ls p (before k) some sorted (omega (arith, inside, length-map xs f))
      refl at

  made_among : (new : List Node) → HasNode (f (get_or xs p d)) new k →
      HasNode (nodes_of ls) (nodes_of (take p ls) ++ (new ++ nodes_of (drop (suc p) ls))) k
  made_among new made = subst (λ (ns : List Node). HasNode ns
      (nodes_of (take p ls) ++ (new ++ nodes_of (drop (suc p) ls))) k) (sym around.whole)
      (made_in_subtree k (nodes_of (take p ls)) (get_or ls p []) new (nodes_of (drop (suc p) ls))
      around.some around.low (wholly_below k (nodes_of (drop (suc p) ls)) around.high)
      (subst (λ (l : List Node). HasNode l new k) (subtree_read f xs p d inside) made))

  pub made_whole : HasNode (f (get_or xs p d)) (f y ++ []) k →
      HasNode (nodes_of ls) (nodes_of (map f (set xs p y))) k
  made_whole made = subst (λ (ns : List Node). HasNode (nodes_of ls) ns k)
      (sym (ap (λ (ms : List (List Node)). nodes_of ms) (map-set f xs p y) ∙
      leaf_set ls p (f y) (omega (arith, inside, length-map xs f)) ∙
      ap (λ (ns : List Node). nodes_of (take p ls) ++ (ns ++ nodes_of (drop (suc p) ls)))
      (sym (append_nil (f y)))))
      (made_among (f y ++ []) made)

  pub made_cut : (u : X) → HasNode (f (get_or xs p d)) (f y ++ (f u ++ [])) k →
      HasNode (nodes_of ls) (nodes_of (map f (insert (set xs p y) (suc p) u))) k
  made_cut u made = subst (λ (ns : List Node). HasNode (nodes_of ls) ns k)
      (sym (ap (λ (ms : List (List Node)). nodes_of ms)
      (map_insert f (set xs p y) (suc p) u ∙
      ap (λ (ms : List (List Node)). insert ms (suc p) (f u)) (map-set f xs p y)) ∙
      subtree_cut ls p (f y) (f u) (omega (arith, inside, length-map xs f))))
      (made_among (f y ++ (f u ++ [])) made)
