-- What is told of a subtree's nodes, once a value was held back above them, pushed down or added
-- below.
use Rattle.std.proofs.Common.{◌≡◌, ◌∙◌, refl, sym, ap, subst, cond, false, ℕ, ◌≤◌, List, [], ◌∷◌, ◌++◌, length, arith}
use mathlib.Core.Bool.{true≢false}
use Rattle.std.specs.Prelude.{Option, Some, None, is_some, Result, Ok, Err, Vec}
use Rattle.tsc_time.specs.ValueView.{ValueView}
use Rattle.tsc_time.specs.Joint.{joint}
use Rattle.tsc_span.specs.Span.{KeyBytes, is_below}
use Rattle.tsc_span.specs.Prefixes.{IsCutPrefix}
use Rattle.tsc_page_nodes.specs.declared.nodes.Growth.{Growth}
use Rattle.tsc_page_nodes.specs.Nodes.{Node, IsSorted, IsInOrder}
use Rattle.tsc_page_nodes.specs.Insertions.{InsertionView}
use Rattle.tsc_page_tree.specs.Leaves.{start_of, HasNode}
use Rattle.tsc_page_tree.specs.Lazy.{with_lazy, merged, all_joint, IsReportedOf, IsAddReported, joint_after}
use Rattle.tsc_page_tree.specs.Trees.{nodes_in, items_in}
use Rattle.tsc_span.proofs.CutOrder.{Lt}
use Rattle.tsc_page_tree.proofs.Lazy.{raise_merged, lazy-start, lazy-length}
use Rattle.tsc_page_tree.proofs.AllJoint.{all_joint_whole, all_joint_made, all_joint_added}
use Rattle.tsc_page_tree.proofs.LeafMakes.{append_nil}

-- where they begin
pub reported_start : (n : ℕ) (all : ValueView) (p : Option ValueView) (ns : List Node) →
    IsReportedOf n all p ns → IsCutPrefix n (start_of (with_lazy p ns))
reported_start n all p ns reported = subst (IsCutPrefix n) (sym (lazy-start p ns)) reported.start

-- and that there are some
pub reported_some : (n : ℕ) (all : ValueView) (p : Option ValueView) (ns : List Node) →
    IsReportedOf n all p ns → 1 ≤ length (with_lazy p ns)
reported_some n all p ns reported = omega (arith, lazy-length p ns, reported.some)

-- one more value is held back
pub reported_raised : (n : ℕ) (all v : ValueView) (p : Option ValueView) (ns : List Node) →
    IsSorted (with_lazy p ns) → IsReportedOf n all p ns →
    IsReportedOf n (joint all (v ∷ [])) (Some (merged p v)) ns
reported_raised n all v p ns sorted reported = record {
  some = reported.some;
  start = reported.start;
  joint = ap (λ (w : ValueView). joint w (v ∷ [])) reported.joint ∙
      sym (all_joint_whole v (with_lazy p ns) sorted (reported_some n all p ns reported)) ∙
      ap (λ (ms : List Node). all_joint ms) (sym (raise_merged p v ns));
}

-- what was held back is pushed down
pub reported_pushed : (n : ℕ) (all : ValueView) (p : Option ValueView) (ns : List Node) →
    IsReportedOf n all p ns → IsReportedOf n all None (with_lazy p ns)
reported_pushed n all p ns reported = record {
  some = reported_some n all p ns reported;
  start = reported_start n all p ns reported;
  joint = reported.joint;
}

-- an Add below, where it was made
pub reported_added : {E : Type 0} (r : Result (Option Growth) E) (n m : ℕ) (all : ValueView)
    (old new : List Node) (was now : List ℕ) (a : InsertionView) (room : ℕ) → IsSorted old →
    IsInOrder a.first a.second → Lt a.from a.to
    → IsCutPrefix m (start_of new) → IsAddReported old new was now a room r →
    IsReportedOf n all None old →
    IsReportedOf m (joint_after r (is_below (start_of new) a.to) a.value all) None new
reported_added (Ok (Some more)) n m all old new was now a room sorted order up start made reported =
    record {
      some = omega (arith, reported.some, made.grown.count);
      start = start;
      joint = ap (λ (w : ValueView). cond (is_below (start_of new) a.to) (joint w (a.value ∷ [])) w)
          reported.joint ∙ sym (all_joint_added old new a.first a.second a.from a.to a.value sorted order up
          made.adds);
    }
reported_added (Ok None) n m all old new was now a room sorted order up start left reported = record {
  some = subst (λ (ns : List Node). 1 ≤ length ns) (sym left.0) reported.some;
  start = start;
  joint = reported.joint ∙ ap (λ (ns : List Node). all_joint ns) (sym left.0);
}
reported_added (Err e) n m all old new was now a room sorted order up start left reported = record {
  some = subst (λ (ns : List Node). 1 ≤ length ns) (sym left.0) reported.some;
  start = start;
  joint = reported.joint ∙ ap (λ (ns : List Node). all_joint ns) (sym left.0);
}

-- A new node has the value of the gap in which it falls, so the joint value stays where nothing was
-- cut off.
pub reported_made : (n : ℕ) (all : ValueView) (p : Option ValueView) (ns old new rest : List Node)
    (k : KeyBytes) → IsSorted (with_lazy p ns) → IsReportedOf n all p ns → old ≡ with_lazy p ns →
    HasNode old (new ++ rest) k → rest ≡ [] → all ≡ all_joint new
reported_made n all p ns old new rest k sorted reported is made none =
    let kept : HasNode old (new ++ []) k =
    subst (λ (more : List Node). HasNode old (new ++ more) k) none made in
    let has : HasNode (with_lazy p ns) (new ++ []) k =
    subst (λ (x : List Node). HasNode x (new ++ []) k) is kept in
    reported.joint ∙ sym (all_joint_made (with_lazy p ns) (new ++ []) k sorted has) ∙
    ap all_joint (append_nil new)

-- nothing was cut off
pub no_nodes : (o : Option (List Node)) → is_some o ≡ false → nodes_in o ≡ []
no_nodes None h = refl
no_nodes (Some ns) h = absurd (true≢false h)

pub no_items : {X Z : Type 0} (o : Option (Vec X Z)) → is_some o ≡ false → items_in o ≡ []
no_items None h = refl
no_items (Some xs) h = absurd (true≢false h)
