-- What the root of a page's tree and the tree stand for, and when they are as they have to be.
use Rattle.std.specs.Prelude.{◌≡◌, List, ◌++◌, length, map, ℕ, ◌<◌, ◌≤◌, Bool, true, false, Option, Some, None, Result, Ok, Err, option_to_list}
use Rattle.std.specs.List.{All}
use Rattle.tsc_time.specs.ValueView.{ValueView}
use Rattle.tsc_span.specs.Span.{SpanView, between, is_below, is_empty_span, end_keys}
use Rattle.tsc_page_model.specs.Page.{cost_distinct}
use Rattle.tsc_page_nodes.specs.Nodes.{Node, IsSorted, node_keys, nodes_cost}
use Rattle.tsc_page_nodes.specs.Insertions.{InsertionView, LiesAt}
use Rattle.tsc_page_tree.specs.Leaves.{nodes_of, AddsTo}
use Rattle.tsc_page_tree.specs.Lazy.{sizes_of, AreSizesOf}
use Rattle.tsc_page_tree.specs.Trees.{leaf_nodes, leaf_sizes, IsWholeLeaf, branch_nodes, branch_sizes, IsWholeBranch, AreFewSubtrees}
use Rattle.tsc_page_tree.specs.declared.leaf.Leaf.{Leaf}
use Rattle.tsc_page_tree.specs.declared.branch.Branch.{Branch}
use Rattle.tsc_page_tree.specs.declared.root.Root.{Root}
use Rattle.tsc_page_tree.specs.declared.root.Root.TheVariants.{One, Two, Three, Four}

-- branches of leaves
abbrev pub two_nodes : Branch Leaf → List Node
two_nodes = branch_nodes leaf_nodes

abbrev pub two_sizes : Branch Leaf → List ℕ
two_sizes = branch_sizes leaf_sizes

abbrev pub IsWholeTwo : Branch Leaf → Type 0
IsWholeTwo = IsWholeBranch leaf_nodes leaf_sizes IsWholeLeaf

-- branches of branches of leaves
abbrev pub three_nodes : Branch (Branch Leaf) → List Node
three_nodes = branch_nodes two_nodes

abbrev pub three_sizes : Branch (Branch Leaf) → List ℕ
three_sizes = branch_sizes two_sizes

abbrev pub IsWholeThree : Branch (Branch Leaf) → Type 0
IsWholeThree = IsWholeBranch two_nodes two_sizes IsWholeTwo

-- the nodes of a branch over branches over branches of leaves
abbrev pub four_nodes : Branch (Branch (Branch Leaf)) → List Node
four_nodes = branch_nodes three_nodes

abbrev pub four_sizes : Branch (Branch (Branch Leaf)) → List ℕ
four_sizes = branch_sizes three_sizes

abbrev pub IsWholeFour : Branch (Branch (Branch Leaf)) → Type 0
IsWholeFour = IsWholeBranch three_nodes three_sizes IsWholeThree

-- the nodes of a root's subtrees
abbrev pub root_nodes : Root → List Node
root_nodes (One ps) = nodes_of (map leaf_nodes ps.items)
root_nodes (Two ps) = nodes_of (map two_nodes ps.items)
root_nodes (Three ps) = nodes_of (map three_nodes ps.items)
root_nodes (Four ps) = nodes_of (map four_nodes ps.items)

-- the sizes of a root's leaves
abbrev pub root_sizes : Root → List ℕ
root_sizes (One ps) = sizes_of (map leaf_sizes ps.items)
root_sizes (Two ps) = sizes_of (map two_sizes ps.items)
root_sizes (Three ps) = sizes_of (map three_sizes ps.items)
root_sizes (Four ps) = sizes_of (map four_sizes ps.items)

-- A root of 1 to 64 subtrees: leaves may also be none, and the highest subtrees may be more.
abbrev pub IsWholeRoot : Root → Type 0
IsWholeRoot (One ps) = All IsWholeLeaf ps.items × (length ps.items ≤ 64)
IsWholeRoot (Two ps) = AreFewSubtrees IsWholeTwo ps.items
IsWholeRoot (Three ps) = AreFewSubtrees IsWholeThree ps.items
IsWholeRoot (Four ps) = All IsWholeFour ps.items × (1 ≤ length ps.items)

-- A root that is as it has to be, with its nodes in the order of their keys.
pub record IsOrderedRoot (r : Root) : Type 0 where
  pub whole : IsWholeRoot r
  pub sorted : IsSorted (root_nodes r)

-- What can be seen of a tree: its nodes, how many of them each leaf has, and what their keys cost.
pub record TreeView : Type 0 where
  pub nodes : List Node
  pub sizes : List ℕ
  pub bytes : ℕ

-- Subtrees in order, how many nodes they have, and what these cost.
pub record IsCounted (r : Root) (n b : ℕ) : Type 0 where
  pub whole : IsWholeRoot r
  pub sorted : IsSorted (root_nodes r)
  pub sizes : AreSizesOf (root_sizes r) (root_nodes r)
  pub count : n ≡ length (root_nodes r)
  pub bytes : b ≡ nodes_cost (root_nodes r)

-- What is known of a tree by what can be seen of it.
pub record IsKnown (t : TreeView) : Type 0 where
  pub sorted : IsSorted t.nodes
  pub sizes : AreSizesOf t.sizes t.nodes
  pub bytes : t.bytes ≡ nodes_cost t.nodes

-- Two cuts in order, and the keys at them for which the span between these needs nodes.
pub record AreEnds (a : InsertionView) : Type 0 where
  pub order : is_below a.from a.to ≡ true
  pub first : LiesAt a.first a.from
  pub second : LiesAt a.second a.to
  pub keys : option_to_list a.first ++ option_to_list a.second ≡ end_keys (between a.from a.to)

-- what is inserted of a span and a value, unless the span is empty
abbrev pub IsInsertionOf : SpanView → ValueView → Option InsertionView → Type 0
IsInsertionOf span v (Some a) = (between a.from a.to ≡ span) × (a.value ≡ v)
IsInsertionOf span v None = is_empty_span span ≡ true

-- What inserting makes of a tree, whose keys then cost no more than `most` bytes.
pub record Inserts (old new : TreeView) (a : InsertionView) (most : ℕ) : Type 0 where
  pub order : is_below a.from a.to ≡ true
  pub adds : AddsTo old.nodes new.nodes (between a.from a.to) a.value
  pub within : new.bytes ≤ most
  pub known : IsKnown new

-- the keys would cost more
abbrev pub IsFullFor : TreeView → InsertionView → ℕ → Type 0
IsFullFor t a most = most < cost_distinct (node_keys t.nodes ++ end_keys (between a.from a.to))

-- what a call tells that inserts, or may leave all as it is where there is room too
abbrev pub IsTryReported : {E : Type 0} → (old new : TreeView) → InsertionView → ℕ →
    Result Bool E → Type 0
IsTryReported old new a most (Ok true) = Inserts old new a most
IsTryReported old new a most (Ok false) = new ≡ old
IsTryReported old new a most (Err e) = new ≡ old

-- what a call tells that makes another tree where there is room, and else none
abbrev pub IsInsertedReported : {E : Type 0} → TreeView → InsertionView → ℕ →
    Result (Option TreeView) E → Type 0
IsInsertedReported old a most (Ok (Some new)) = Inserts old new a most
IsInsertedReported old a most (Ok None) = IsFullFor old a most
IsInsertedReported old a most (Err e) = Unit {0}
