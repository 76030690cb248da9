-- When a leaf and a branch are whole.
use Rattle.std.proofs.Common.{◌≡◌, ◌∙◌, sym, ap, subst, ℕ, ◌+◌, ◌≤◌, List, [], ◌∷◌, length, map, arith}
use mathlib.Core.Bool.{true≢false}
use Rattle.std.specs.Prelude.{Option, Some, None, Result, Ok, Err, OnErr, slice_get}
use Rattle.tsc_page_model.specs.PageView.{AreLeafSizes}
use Rattle.std.specs.Result.{IsErr, result_ok}
use Rattle.std.specs.Option.{IfSome}
use Rattle.tsc_time.specs.ValueView.{ValueView}
use Rattle.tsc_page_nodes.specs.declared.nodes.Growth.{Growth}
use Rattle.tsc_page_nodes.specs.Nodes.{Node, IsSorted}
use Rattle.tsc_page_nodes.specs.Insertions.{InsertionView}
use Rattle.tsc_page_nodes.specs.Insertions as insertions
use Rattle.tsc_page_tree.specs.Leaves.{nodes_of, IsLeaf, AreSubtrees}
use Rattle.std.proofs.lemmas.List.{length-append}
use Rattle.tsc_page_tree.proofs.Lazy.{sorted_without}
use Rattle.tsc_page_tree.specs.Lazy.{with_lazy, IsReportedOf, sizes_of, AreSizesOf, ReportsSize, AddsSome, IsAddReported}
use Rattle.tsc_page_tree.specs.Trees.{IsReported, IsLeafOf, IsBranchOf, AreFewSubtrees}
use Rattle.tsc_page_tree.specs.declared.aggregate.Aggregate.{Aggregate}
use Rattle.tsc_page_tree.proofs.SubtreeLists.{AreSameAs}
use Rattle.tsc_page_tree.proofs.SubtreeSizes.{one_size, sizes_lazy, sizes_of_subtrees}
use Rattle.tsc_page_tree.proofs.Reported.{reported_some}
use Rattle.tsc_page_tree.proofs.LeafLists.{size_small}

pub leaf_whole : (s : Aggregate) (ns : List Node) → IsLeaf ns → IsReported s ns → IsLeafOf s ns
leaf_whole s ns leaf reported = record {
  leaf = leaf;
  reported = reported;
  some = reported_some s.start s.joint s.lazy ns reported;
  sizes = sizes_lazy s.lazy (length ns ∷ []) ns (one_size ns leaf.0 leaf.1);
}

pub branch_whole : {P : Type 0} (nodes : P → List Node) (sizes : P → List ℕ) (IsWhole : P → Type 0)
    (s : Aggregate) (ps : List P) → ((p : P) → IsWhole p → AreSizesOf (sizes p) (nodes p)) →
    AreFewSubtrees IsWhole ps → IsReported s (nodes_of (map nodes ps))
    → IsBranchOf nodes sizes IsWhole s ps
branch_whole nodes sizes IsWhole s ps law subtrees reported = record {
  subtrees = subtrees;
  reported = reported;
  some = reported_some s.start s.joint s.lazy (nodes_of (map nodes ps)) reported;
  sizes = sizes_lazy s.lazy (sizes_of (map sizes ps)) (nodes_of (map nodes ps))
      (sizes_of_subtrees nodes sizes IsWhole ps law subtrees.each);
}

-- the same is told by what is the same
pub reported_as : (n m : ℕ) (a b : ValueView) (p q : Option ValueView) (ns : List Node) → m ≡ n →
    b ≡ a → q ≡ p → IsReportedOf n a p ns → IsReportedOf m b q ns
reported_as n m a b p q ns start joint lazy reported =
    subst (λ (k : ℕ). IsReportedOf k b q ns) (sym start)
    (subst (λ (w : ValueView). IsReportedOf n w q ns) (sym joint)
    (subst (λ (o : Option ValueView). IsReportedOf n a o ns) (sym lazy) reported))

-- what an Add to nodes tells of a leaf
pub add_reported : {E : Type 0} (r : Result (Option Growth) E) (old new : List Node)
    (a : InsertionView) (room : Growth) → insertions.IsReported old new a room r →
    IsAddReported old new (length old ∷ []) (length new ∷ []) a room.bytes r
add_reported (Ok (Some more)) old new a room reported =
    record { adds = reported.adds; grown = reported.grown; within = reported.within.1 }
add_reported (Ok None) old new a room is = (is, ap (λ (ns : List Node). length ns ∷ []) is)
add_reported (Err e) old new a room is = (is, ap (λ (ns : List Node). length ns ∷ []) is)

-- a leaf takes no more than it has room for
pub leaf_added : {E : Type 0} (r : Result (Option Growth) E) (old new : List Node)
    (a : InsertionView)
    (room : Growth) → IsLeaf old → room.nodes + length old ≤ 64 →
    insertions.IsReported old new a room r →
    IsLeaf new
leaf_added (Ok (Some more)) old new a room leaf few made =
    (omega (arith, leaf.0, made.grown.count), omega (arith, few, made.grown.count, made.within.0))
leaf_added (Ok None) old new a room leaf few is =
    subst (λ (ns : List Node). IsLeaf ns) (sym is) leaf
leaf_added (Err e) old new a room leaf few is = subst (λ (ns : List Node). IsLeaf ns) (sym is) leaf

-- subtrees have nodes
pub some_in : {P : Type 0} (nodes : P → List Node) (IsWhole : P → Type 0) (ps : List P) →
    ((p : P) → IsWhole p → 1 ≤ length (nodes p)) → AreFewSubtrees IsWhole ps →
    1 ≤ length (nodes_of (map nodes ps))
some_in nodes IsWhole [] law subtrees = absurd (omega (arith, subtrees.some))
some_in nodes IsWhole (p ∷ ps) law subtrees = let first =
    law p (subtrees.each 0 p (omega arith)) in omega
    (arith, first, length-append (nodes p) (nodes_of (map nodes ps)))

-- subtrees in order, below a branch
pub branch_subtrees : {P : Type 0} (nodes : P → List Node) (sizes : P → List ℕ)
    (IsWhole : P → Type 0)
    (s : Aggregate) (ps : List P) → IsBranchOf nodes sizes IsWhole s ps →
    IsSorted (with_lazy s.lazy (nodes_of (map nodes ps))) → AreSubtrees nodes IsWhole ps
branch_subtrees nodes sizes IsWhole s ps whole sorted =
    record {
      whole = whole.subtrees.each;
      sorted = sorted_without s.lazy (nodes_of (map nodes ps)) sorted;
    }

-- the same subtrees, or copies of them, make such a branch
pub branch_same : {P : Type 0} (nodes : P → List Node) (sizes : P → List ℕ) (IsWhole : P → Type 0)
    (s : Aggregate) (xs ys : List P) → AreSameAs nodes sizes IsWhole xs ys →
    IsBranchOf nodes sizes IsWhole s xs → IsBranchOf nodes sizes IsWhole s ys
branch_same nodes sizes IsWhole s xs ys same whole = record {
  subtrees = record {
    each = same.whole whole.subtrees.each;
    some = subst (λ (n : ℕ). 1 ≤ n) (sym same.long) whole.subtrees.some;
    few = subst (λ (n : ℕ). n ≤ 64) (sym same.long) whole.subtrees.few;
  };
  reported = subst (λ (ls : List (List Node)). IsReported s (nodes_of ls)) (sym same.nodes)
      whole.reported;
  some = subst (λ (ls : List (List Node)). 1 ≤ length (with_lazy s.lazy (nodes_of ls)))
      (sym same.nodes) whole.some;
  sizes = subst (λ (ss : List (List ℕ)). AreSizesOf (sizes_of ss)
      (with_lazy s.lazy (nodes_of (map nodes ys)))) (sym same.sizes)
      (subst (λ (ls : List (List Node)). AreSizesOf (sizes_of (map sizes xs))
      (with_lazy s.lazy (nodes_of ls))) (sym same.nodes) whole.sizes);
}

-- what such a call tells where it is refused
pub refused_reported : {E : Type 0} (r : Result (Option Growth) E) (old new : List Node)
    (was now : List ℕ) (a : InsertionView) (room : ℕ) → IsErr r → new ≡ old → now ≡ was →
    IsAddReported old new was now a room r
refused_reported (Ok d) old new was now a room is nodes sizes = absurd (true≢false (sym is))
refused_reported (Err e) old new was now a room is nodes sizes = (nodes, sizes)

-- what such a call tells where it told something
pub reports_some : (E : Type 0) (d : Option Growth) (more : Growth) (old new : List Node)
    (was now : List ℕ) (a : InsertionView) (room : ℕ) → d ≡ Some more →
    IsAddReported {E = E} old new was now a room (Ok d) → AddsSome old new a room more
reports_some E d more old new was now a room is reported =
    subst (λ (o : Option Growth). IsAddReported {E = E} old new was now a room (Ok o)) is reported

pub reports_none : (E : Type 0) (d : Option Growth) (old new : List Node) (was now : List ℕ)
    (a : InsertionView) (room : ℕ) → d ≡ None → IsAddReported {E = E} old new was now a room (Ok d)
    → (new ≡ old) × (now ≡ was)
reports_none E d old new was now a room is reported =
    subst (λ (o : Option Growth). IsAddReported {E = E} old new was now a room (Ok o)) is reported

-- no leaf is larger than 64
pub few_reported : (sizes : List ℕ) (index : ℕ) (o : Option ℕ) → AreLeafSizes sizes →
    o ≡ slice_get sizes index → IfSome o (λ n. n ≤ 64)
few_reported sizes index None few is = tt
few_reported sizes index (Some n) few is = size_small sizes index n few is

pub few_of_reported : (sizes : List ℕ) (index : ℕ) (r : Result ℕ ℕ) (o : Option ℕ) →
    AreLeafSizes sizes → o ≡ result_ok r → ReportsSize sizes index r → IfSome o (λ n. n ≤ 64)
few_of_reported sizes index (Ok n) o few is reported = few_reported sizes index o few
    (is ∙ sym reported)
few_of_reported sizes index (Err rest) o few is reported =
    subst (λ (q : Option ℕ). IfSome q (λ n. n ≤ 64)) (sym is) tt
