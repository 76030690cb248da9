-- What the subtrees of a tree stand for, and when they are as they have to be.
use Rattle.std.specs.Prelude.{◌≡◌, List, [], length, map, ℕ, ◌≤◌, ◌∷◌, Option, Some, None}
use Rattle.std.proofs.Common.{◌∙◌, sym, ap, subst}
use Rattle.std.specs.Arc.{arc_value}
use Rattle.std.specs.List.{All}
use Rattle.std.specs.declared.vec.Vec.{Vec}
use Rattle.tsc_page_nodes.specs.Nodes.{Node, IsSorted}
use Rattle.tsc_page_tree.specs.Leaves.{nodes_of, IsLeaf}
use Rattle.tsc_page_tree.specs.Lazy.{with_lazy, IsReportedOf, sizes_of, AreSizesOf}
use Rattle.tsc_page_tree.specs.Copies.{IsSameAs}
use Rattle.tsc_page_tree.specs.declared.aggregate.Aggregate.{Aggregate}
use Rattle.tsc_page_tree.specs.declared.leaf.Leaf.{Leaf}
use Rattle.tsc_page_tree.specs.declared.branch.Branch.{Branch}
use Rattle.tsc_page_tree.specs.declared.branch.Siblings.{Siblings}
use Rattle.tsc_page_tree.specs.declared.branch.Siblings.TheVariants.{Subtrees, Branches}

-- nodes, where there are some
abbrev pub nodes_in : Option (List Node) → List Node
nodes_in None = []
nodes_in (Some n) = n

-- the subtrees in an optional list
abbrev pub items_in : {P Z : Type 0} → Option (Vec P Z) → List P
items_in None = []
items_in (Some ps) = ps.items

-- what an aggregate says of nodes
abbrev pub IsReported : Aggregate → List Node → Type 0
IsReported s ns = IsReportedOf s.start s.joint s.lazy ns

-- the nodes of a leaf
abbrev pub leaf_nodes : Leaf → List Node
leaf_nodes l = with_lazy l.aggregate.lazy (arc_value l.nodes)

-- one leaf, and how many nodes it has
abbrev pub leaf_sizes : Leaf → List ℕ
leaf_sizes l = length (arc_value l.nodes) ∷ []

-- A leaf of 1 to 64 nodes.
pub record IsLeafOf (s : Aggregate) (ns : List Node) : Type 0 where
  pub leaf : IsLeaf ns
  pub reported : IsReported s ns
  pub some : 1 ≤ length (with_lazy s.lazy ns)
  pub sizes : AreSizesOf (length ns ∷ []) (with_lazy s.lazy ns)

abbrev pub IsWholeLeaf : Leaf → Type 0
IsWholeLeaf l = IsLeafOf l.aggregate (arc_value l.nodes)

-- the nodes of a branch's subtrees
abbrev pub branch_nodes : {P : Type 0} → (P → List Node) → Branch P → List Node
branch_nodes nodes f = with_lazy f.aggregate.lazy
    (nodes_of (map nodes (arc_value f.subtrees).items))

-- the sizes of a branch's leaves
abbrev pub branch_sizes : {P : Type 0} → (P → List ℕ) → Branch P → List ℕ
branch_sizes sizes f = sizes_of (map sizes (arc_value f.subtrees).items)

-- 1 to 64 subtrees.
pub record AreFewSubtrees {P : Type 0} (IsWhole : P → Type 0) (ps : List P) : Type 0 where
  pub each : All IsWhole ps
  pub some : 1 ≤ length ps
  pub few : length ps ≤ 64

-- 1 to 64 subtrees, with their nodes in the order of their keys.
pub record AreBranchSubtrees {P : Type 0} (nodes : P → List Node) (IsWhole : P → Type 0)
    (ps : List P) :
    Type 0 where
  pub few : AreFewSubtrees IsWhole ps
  pub sorted : IsSorted (nodes_of (map nodes ps))

-- A branch of 1 to 64 subtrees.
pub record IsBranchOf {P : Type 0} (nodes : P → List Node) (sizes_in : P → List ℕ)
    (IsWhole : P → Type 0) (s : Aggregate) (ps : List P) : Type 0 where
  pub subtrees : AreFewSubtrees IsWhole ps
  pub reported : IsReported s (nodes_of (map nodes ps))
  pub some : 1 ≤ length (with_lazy s.lazy (nodes_of (map nodes ps)))
  pub sizes : AreSizesOf (sizes_of (map sizes_in ps))
      (with_lazy s.lazy (nodes_of (map nodes ps)))

abbrev pub IsWholeBranch : {P : Type 0} → (P → List Node) → (P → List ℕ) → (P → Type 0) →
    Branch P → Type 0
IsWholeBranch nodes sizes IsWhole f = IsBranchOf nodes sizes IsWhole f.aggregate
    (arc_value f.subtrees).items

-- a copy of a leaf has its aggregate and its nodes
abbrev pub IsLeafCopy : Leaf → Leaf → Type 0
IsLeafCopy l m = (m.aggregate ≡ l.aggregate) × (arc_value m.nodes ≡ arc_value l.nodes)

-- a leaf's copy stands for the leaf's nodes
pub leaf_copied : (l m : Leaf) → IsLeafCopy l m → IsSameAs leaf_nodes leaf_sizes IsWholeLeaf l m
leaf_copied l m same = record {
  nodes = ap (λ (s : Aggregate). with_lazy s.lazy (arc_value m.nodes)) same.0 ∙
      ap (λ (ns : List Node). with_lazy l.aggregate.lazy ns) same.1;
  sizes = ap (λ (ns : List Node). length ns ∷ []) same.1;
  whole = λ w. subst (λ (s : Aggregate). IsLeafOf s (arc_value m.nodes)) (sym same.0)
      (subst (λ (ns : List Node). IsLeafOf l.aggregate ns) (sym same.1) w);
}

-- a copy of a branch has its aggregate and its subtrees
abbrev pub IsBranchCopy : {P : Type 0} → Branch P → Branch P → Type 0
IsBranchCopy f g = (g.aggregate ≡ f.aggregate) × ((arc_value g.subtrees).items ≡
    (arc_value f.subtrees).items)

-- a branch's copy stands for the branch's nodes
pub branch_copied : {P : Type 0} (nodes : P → List Node) (sizes : P → List ℕ) (IsWhole : P → Type 0)
    (f g : Branch P) → IsBranchCopy f g →
    IsSameAs (branch_nodes nodes) (branch_sizes sizes) (IsWholeBranch nodes sizes IsWhole) f g
branch_copied {P = P} nodes sizes IsWhole f g same = record {
  nodes = ap (λ (s : Aggregate). with_lazy s.lazy
      (nodes_of (map nodes (arc_value g.subtrees).items))) same.0 ∙
      ap (λ (ps : List P). with_lazy f.aggregate.lazy (nodes_of (map nodes ps))) same.1;
  sizes = ap (λ (ps : List P). sizes_of (map sizes ps)) same.1;
  whole = λ w. subst (λ (s : Aggregate). IsBranchOf nodes sizes IsWhole s
      (arc_value g.subtrees).items)
      (sym same.0) (subst (λ (ps : List P). IsBranchOf nodes sizes IsWhole f.aggregate ps)
      (sym same.1) w);
}

-- the nodes of subtrees, or of branches of them
abbrev pub sibling_nodes : {P : Type 0} → (P → List Node) → Siblings P → List Node
sibling_nodes nodes (Subtrees ps) = nodes_of (map nodes ps.items)
sibling_nodes nodes (Branches fs) = nodes_of (map (branch_nodes nodes) fs.items)

-- 1 to 64 subtrees, or branches of them
abbrev pub AreWholeSiblings : {P : Type 0} → (P → List Node) → (P → List ℕ) → (P → Type 0) →
    Siblings P → Type 0
AreWholeSiblings nodes sizes IsWhole (Subtrees ps) = AreFewSubtrees IsWhole ps.items
AreWholeSiblings nodes sizes IsWhole (Branches fs) = AreFewSubtrees (IsWholeBranch nodes sizes
    IsWhole) fs.items
