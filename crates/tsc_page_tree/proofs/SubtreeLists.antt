-- Lists of subtrees: copies of them, cut in two, and with a node more.
use Rattle.std.proofs.Common.{◌≡◌, ◌∙◌, refl, sym, ap, subst, ℕ, zero, suc, List, [], ◌∷◌, ◌++◌, length, map, take, drop, arith}
use Rattle.std.specs.Prelude.{Option}
use Rattle.std.specs.List.{All, AllZip}
use Rattle.std.proofs.lemmas.List.{map-append, take-append-drop}
use Rattle.tsc_time.specs.ValueView.{ValueView}
use Rattle.tsc_span.specs.Span.{KeyBytes, SpanView}
use Rattle.tsc_page_nodes.specs.Nodes.{Node, IsSorted, IsInOrder, AddsNodes}
use Rattle.tsc_page_tree.specs.Leaves.{nodes_of, AreSubtrees, HasNode}
use Rattle.tsc_page_tree.specs.Lazy.{sizes_of}
use Rattle.tsc_page_tree.specs.Copies.{IsSameAs}
use Rattle.tsc_page_nodes.proofs.Edits.{raise_nodes-sorted}
use Rattle.tsc_page_nodes.proofs.NewKeys.{makes_sorted}
use Rattle.tsc_page_tree.proofs.Joins.{sorted_left, sorted_right}
use Rattle.tsc_page_tree.proofs.LeafAdds.{nodes_append}
use Rattle.tsc_page_tree.proofs.LeafKeys.{has_node_splits}

-- What copies have in common with what they are copies of.
pub record AreSameAs {X : Type 0} (f : X → List Node) (s : X → List ℕ) (Q : X → Type 0)
    (xs ys : List X) : Type 0 where
  pub nodes : map f ys ≡ map f xs
  pub sizes : map s ys ≡ map s xs
  pub long : length ys ≡ length xs
  pub whole : All Q xs → All Q ys

pub copies_same : {X : Type 0} (f : X → List Node) (s : X → List ℕ) (Q : X → Type 0)
    (R : X → X → Type 0) (xs ys : List X) → ((x y : X) → R x y → IsSameAs f s Q x y) →
    AllZip R xs ys → AreSameAs f s Q xs ys
copies_same f s Q R [] [] law all =
    record { nodes = refl; sizes = refl; long = refl; whole = λ h. h }
copies_same f s Q R [] (y ∷ ys) law all = absurd all
copies_same f s Q R (x ∷ xs) [] law all = absurd all
copies_same {X = X} f s Q R (x ∷ xs) (y ∷ ys) law all =
    let first = law x y all.0 in
    let rest = copies_same f s Q R xs ys law all.1 in
    record {
      nodes = ap (λ (ns : List Node). ns ∷ map f ys) first.nodes ∙
          ap (λ (ls : List (List Node)). f x ∷ ls) rest.nodes;
      sizes = ap (λ (ns : List ℕ). ns ∷ map s ys) first.sizes ∙
          ap (λ (ls : List (List ℕ)). s x ∷ ls) rest.sizes;
      long = ap suc rest.long;
      whole = λ h. each h (first.whole (h 0 x (omega arith)))
          (rest.whole (λ i d g. h (suc i) d (omega (arith, g))));
    }
  where
    each : All Q (x ∷ xs) → Q y → All Q ys → All Q (y ∷ ys)
    each h one more zero d g = one
    each h one more (suc i) d g = more i d (omega (arith, g))

-- one list is a copy of itself
pub same_list : {X : Type 0} (f : X → List Node) (s : X → List ℕ) (Q : X → Type 0) (xs ys : List X)
    → ys ≡ xs → AreSameAs f s Q xs ys
same_list f s Q xs ys is = record {
  nodes = ap (map f) is;
  sizes = ap (map s) is;
  long = ap length is;
  whole = λ h. subst (All Q) (sym is) h;
}

-- copies are in order where these were
pub copies_sorted : {X : Type 0} (f : X → List Node) (s : X → List ℕ) (Q : X → Type 0)
    (xs ys : List X) → AreSameAs f s Q xs ys → AreSubtrees f Q xs → AreSubtrees f Q ys
copies_sorted f s Q xs ys same subtrees =
    record {
      whole = same.whole subtrees.whole;
      sorted = subst (λ (ls : List (List Node)). IsSorted (nodes_of ls)) (sym same.nodes)
          subtrees.sorted;
    }

-- what holds of all holds of those before a place, and of those from there on
pub all_take : {X : Type 0} (Q : X → Type 0) (n : ℕ) (xs : List X) → All Q xs → All Q (take n xs)
all_take Q zero xs all i d h = absurd (omega (arith, h))
all_take Q (suc n) [] all i d h = absurd (omega (arith, h))
all_take Q (suc n) (x ∷ xs) all zero d h = all 0 d (omega arith)
all_take Q (suc n) (x ∷ xs) all (suc i) d h =
    all_take Q n xs (λ j e g. all (suc j) e (omega arith)) i d (omega (arith, h))

pub all_drop : {X : Type 0} (Q : X → Type 0) (n : ℕ) (xs : List X) → All Q xs → All Q (drop n xs)
all_drop Q zero xs all = all
all_drop Q (suc n) [] all = all
all_drop Q (suc n) (x ∷ xs) all = all_drop Q n xs (λ j e g. all (suc j) e (omega arith))

-- the nodes of two lists of subtrees
pub nodes_of_both : {X : Type 0} (f : X → List Node) (xs ys : List X) →
    nodes_of (map f (xs ++ ys)) ≡ nodes_of (map f xs) ++ nodes_of (map f ys)
nodes_of_both f xs ys = ap (λ (ls : List (List Node)). nodes_of ls) (map-append f xs ys) ∙
    nodes_append (map f xs) (map f ys)

pub sizes_of_both : {X : Type 0} (s : X → List ℕ) (xs ys : List X) →
    sizes_of (map s (xs ++ ys)) ≡ sizes_of (map s xs) ++ sizes_of (map s ys)
sizes_of_both s [] ys = refl
sizes_of_both s (x ∷ xs) ys = ap (λ (ns : List ℕ). s x ++ ns) (sizes_of_both s xs ys) ∙
    sym (grouped (s x) (sizes_of (map s xs)))
  where
    grouped : (a b : List ℕ) → (a ++ b) ++ sizes_of (map s ys) ≡ a ++ (b ++ sizes_of (map s ys))
    grouped [] b = refl
    grouped (n ∷ a) b = ap (λ (ns : List ℕ). n ∷ ns) (grouped a b)

-- subtrees cut in two
pub nodes_cut : {X : Type 0} (f : X → List Node) (n : ℕ) (xs : List X) →
    nodes_of (map f xs) ≡ nodes_of (map f (take n xs)) ++ nodes_of (map f (drop n xs))
nodes_cut {X = X} f n xs = ap (λ (ys : List X). nodes_of (map f ys)) (sym (take-append-drop n xs)) ∙
    nodes_of_both f (take n xs) (drop n xs)

pub sorted_take : {X : Type 0} (f : X → List Node) (n : ℕ) (xs : List X) →
    IsSorted (nodes_of (map f xs)) → IsSorted (nodes_of (map f (take n xs)))
sorted_take f n xs sorted = sorted_left (nodes_of (map f (take n xs)))
    (nodes_of (map f (drop n xs))) (subst IsSorted (nodes_cut f n xs) sorted)

pub sorted_drop : {X : Type 0} (f : X → List Node) (n : ℕ) (xs : List X) →
    IsSorted (nodes_of (map f xs)) → IsSorted (nodes_of (map f (drop n xs)))
sorted_drop f n xs sorted = sorted_right (nodes_of (map f (take n xs)))
    (nodes_of (map f (drop n xs))) (subst IsSorted (nodes_cut f n xs) sorted)

-- nodes with that of a key are in order, in whatever subtrees they stand
pub made_sorted : (old new : List Node) (k : KeyBytes) → IsSorted old → HasNode old new k →
    IsSorted new
made_sorted old new k sorted made = (has_node_splits old new k sorted made).sorted

-- an Add keeps the order
pub adds_sorted : (old new : List Node) (o q : Option KeyBytes) (s : SpanView) (v : ValueView) →
    IsSorted old → IsInOrder o q → AddsNodes old new o q s v → IsSorted new
adds_sorted old new o q s v sorted order adds =
    subst IsSorted (sym adds.raised)
    (raise_nodes-sorted s v adds.mid (makes_sorted old adds.mid o q sorted order adds.made))

-- and others that stand for the same
pub subtrees_kept : {X : Type 0} (f : X → List Node) (Q : X → Type 0) (old new : List X) →
    AreSubtrees f Q old → All Q new → nodes_of (map f new) ≡ nodes_of (map f old) →
    AreSubtrees f Q new
subtrees_kept f Q old new subtrees all same =
    record { whole = all; sorted = subst IsSorted (sym same) subtrees.sorted }
