-- How the nodes of a page stand in leaves, one after another.
use Rattle.std.specs.List.{All}
use Rattle.std.specs.Prelude.{◌≡◌, ℕ, suc, ◌<◌, ◌≤◌, ◌-◌, List, [], ◌∷◌, ◌++◌, length, map, drop, slice_index_or, true, false, Option, Some, None, if◌then◌else◌}
use Rattle.tsc_time.specs.ValueView.{ValueView}
use Rattle.tsc_span.specs.Span.{KeyBytes, Cut, after, SpanView, is_below, end_keys}
use Rattle.tsc_page_model.specs.PageView.{AreLeafSizes}
use Rattle.tsc_page_nodes.specs.Nodes.{Node, next_cut, node_stretches, IsSorted, IsNewKey, IsSplitAt, with_new, raise_nodes}

-- the nodes of all leaves, in their order
abbrev pub nodes_of : List (List Node) → List Node
nodes_of [] = []
nodes_of (l ∷ ls) = l ++ nodes_of ls

-- how many nodes each leaf has
abbrev pub leaf_sizes : List (List Node) → List ℕ
leaf_sizes ls = map (λ l. length l) ls

-- no list is empty
abbrev pub AreSome : List (List Node) → Type 0
AreSome [] = Unit {0}
AreSome (l ∷ ls) = (1 ≤ length l) × AreSome ls

-- Subtrees that are as they have to be, one by one and in the order of their keys.
pub record AreSubtrees {X : Type 0} (nodes : X → List Node) (IsWhole : X → Type 0) (xs : List X) :
    Type
    0 where
  pub whole : All IsWhole xs
  pub sorted : IsSorted (nodes_of (map nodes xs))

-- A subtree that is as it has to be, with its nodes in the order of their keys.
pub record IsSubtree {X : Type 0} (nodes : X → List Node) (IsWhole : X → Type 0) (x : X) :
    Type 0 where
  pub whole : IsWhole x
  pub sorted : IsSorted (nodes x)

-- Subtrees in order, of which there are some.
pub record AreSomeSubtrees {X : Type 0} (nodes : X → List Node) (IsWhole : X → Type 0)
    (xs : List X) :
    Type 0 where
  pub subtrees : AreSubtrees nodes IsWhole xs
  pub some : 1 ≤ length xs

-- how many nodes a leaf has
abbrev pub IsLeaf : List Node → Type 0
IsLeaf l = (1 ≤ length l) × (length l ≤ 64)

-- where nodes begin
abbrev pub start_of : List Node → Cut
start_of ns = next_cut (node_stretches ns)

-- Nodes with that of a key, which they have already or which is new.
pub record HasNode (old new : List Node) (k : KeyBytes) : Type 0 where
  pub found : Option (ℕ × KeyBytes)
  pub at : IsNewKey old (Some k) found
  pub nodes : new ≡ with_new old found

-- Leaves of 1 to 64 nodes, in the order of their keys.
pub record AreLeaves (ls : List (List Node)) : Type 0 where
  pub sizes : AreLeafSizes (leaf_sizes ls)
  pub sorted : IsSorted (nodes_of ls)

-- The place of the leaf in which a cut falls: the last one that does not begin above it, or the
-- first one.
pub record IsLeafAt (ls : List (List Node)) (c : Cut) (p : ℕ) : Type 0 where
  pub bound : p ≤ length ls - 1
  pub low : 1 ≤ p → is_below c (start_of (slice_index_or ls p [])) ≡ false
  pub high : suc p < length ls → is_below c (start_of (slice_index_or ls (suc p) [])) ≡ true

-- What starts at a cut, in the subtree at a place, and stops at another cut behind that subtree.
pub record GoesBeyond {X : Type 0} (nodes : X → List Node) (xs : List X) (from to : Cut) (p : ℕ) :
    Type 0 where
  pub bound : p < length xs
  pub first : IsLeafAt (map nodes xs) from p
  pub beyond : is_below (start_of (nodes_of (drop (suc p) (map nodes xs)))) to ≡ true

-- A place at which no leaf begins above a cut: the first one, whatever is there, or that of a leaf
-- that doesn't.
pub record IsNotAbove (ls : List (List Node)) (c : Cut) (p : ℕ) : Type 0 where
  pub bound : p ≤ length ls - 1
  pub low : 1 ≤ p → is_below c (start_of (slice_index_or ls p [])) ≡ false

-- What an Add of a span makes of nodes: those of its end keys come in, and the value is raised in
-- it.
pub record AddsTo (old new : List Node) (span : SpanView) (value : ValueView) : Type 0 where
  pub mid : List Node
  pub split : IsSplitAt old mid (end_keys span)
  pub raised : new ≡ raise_nodes span value mid

-- a key, where it lies wholly below a cut
abbrev pub key_below : Cut → Option KeyBytes → Option KeyBytes
key_below c None = None
key_below c (Some k) = if is_below (after k) c then Some k else None
