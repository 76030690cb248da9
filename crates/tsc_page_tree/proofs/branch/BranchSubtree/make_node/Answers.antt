-- The lazy value goes down before the node is made, and the joint value stays unless the branch was
-- cut.
use Rattle.std.proofs.Common.{◌≡◌, ◌∙◌, ◌++◌, inl, inr, sym, ap, subst, map, [], List, length, arith, rules}
use Rattle.std.specs.Prelude.{Option, IfSome}
use Rattle.std.specs.Arc.{arc_value}
use Rattle.std.specs.Vec.{with_items}
use Rattle.std.proofs.lemmas.List.{with_items_is}
use Rattle.tsc_time.specs.ValueView.{ValueView}
use Rattle.tsc_page_nodes.specs.Nodes.{Node, IsSorted}
use Rattle.tsc_page_tree.specs.Leaves.{nodes_of, AreSubtrees, HasNode}
use Rattle.tsc_page_tree.specs.Lazy.{with_lazy, all_joint}
use Rattle.tsc_page_tree.specs.Trees.{branch_nodes, IsReported, IsBranchOf, AreFewSubtrees, items_in}
use Rattle.tsc_page_tree.proofs.Joins.{sorted_left, sorted_right}
use Rattle.tsc_page_tree.proofs.LeafMakes.{append_nil}
use Rattle.tsc_page_tree.proofs.SubtreeLists.{AreSameAs, same_list, copies_same, copies_sorted, made_sorted}
use Rattle.tsc_page_tree.proofs.Reported.{reported_made, no_items}
use Rattle.tsc_page_tree.proofs.Wholes.{branch_whole, branch_subtrees}
use Rattle.tsc_page_tree.proofs.branch.BranchSubtree.make_node.Given.{Over}
use Rattle.tsc_page_tree.proofs.branch.BranchSubtree.make_node.Goals.{After-push_down}
use Rattle.tsc_page_tree.proofs.branch.BranchSubtree.make_node.Goals as goal

pub push_down-requires : goal.push_down-requires
push_down-requires g c =
    let f = g.P.Subtree.nodes in
    let s = g.P.Subtree.sizes in
    let Q = g.P.Subtree.IsWhole in
    let xs = (arc_value c.args.self.now.subtrees).items in
    let ys = c.in_ok-subtrees.subtrees.now.items in
    let same : AreSameAs f s Q xs ys =
    elim c.in_ok-subtrees.ensures.value [
      | inl h ↦ same_list f s Q xs ys (ap (λ v. v.items) h)
      | inr h ↦ copies_same f s Q _ xs ys
          g.met.P.Subtree.copied h.0
    ] in
    record {
      subtrees = subst (AreSubtrees f Q) (sym c.deref_mut.ensures.value)
          (copies_sorted f s Q xs ys same
          (branch_subtrees f s Q c.args.self.now.aggregate xs c.requires.subtree.whole
          c.requires.subtree.sorted));
    }

-- they are as many as they were
as_long : (g : Over) (c : After-push_down g) →
    length c.push_down.new.subtrees ≡ length (arc_value c.args.self.now.subtrees).items
as_long g c =
    let f = g.P.Subtree.nodes in
    let s = g.P.Subtree.sizes in
    let Q = g.P.Subtree.IsWhole in
    let xs = (arc_value c.args.self.now.subtrees).items in
    let ys = c.in_ok-subtrees.subtrees.now.items in
    let same : AreSameAs f s Q xs ys =
    elim c.in_ok-subtrees.ensures.value [
      | inl h ↦ same_list f s Q xs ys (ap (λ u. u.items) h)
      | inr h ↦ copies_same f s Q _ xs
          ys g.met.P.Subtree.copied h.0
    ] in
    omega (arith, c.push_down.ensures.len, ap length c.deref_mut.ensures.value, same.long)

kept_items : (g : Over) (c : After-push_down g) →
    (with_items c.in_ok-subtrees.subtrees.now c.push_down.new.subtrees).items ≡
    c.push_down.new.subtrees
kept_items g c =
    let v = c.in_ok-subtrees.subtrees.now in
    with_items_is v c.push_down.new.subtrees (omega
    (arith, c.push_down.ensures.len, ap length c.deref_mut.ensures.value, v.ok.0))

-- the subtrees have the lazy value
all_pushed : (g : Over) (c : After-push_down g)
    → nodes_of (map g.P.Subtree.nodes (with_items c.in_ok-subtrees.subtrees.now
    c.push_down.new.subtrees).items)
    ≡ with_lazy c.args.self.now.aggregate.lazy
    (nodes_of (map g.P.Subtree.nodes (arc_value c.args.self.now.subtrees).items))
all_pushed g c =
    let f = g.P.Subtree.nodes in
    let s = g.P.Subtree.sizes in
    let Q = g.P.Subtree.IsWhole in
    let xs = (arc_value c.args.self.now.subtrees).items in
    let v = c.in_ok-subtrees.subtrees.now in
    let p = c.args.self.now.aggregate.lazy in
    let same : AreSameAs f s Q xs v.items =
    elim c.in_ok-subtrees.ensures.value [
      | inl h ↦ same_list f s Q xs v.items (ap (λ u. u.items) h)
      | inr h ↦ copies_same f s Q _ xs
          v.items g.met.P.Subtree.copied h.0
    ] in
    ap (λ (is : List g.row.P.Denot). nodes_of (map f is)) (kept_items g c) ∙ c.push_down.ensures.nodes
    ∙ ap (λ (is : List g.row.P.Denot). with_lazy p (nodes_of (map f is)))
    c.deref_mut.ensures.value ∙
    ap (λ (ls : List (List Node)). with_lazy p (nodes_of ls)) same.nodes

pub grow-requires : goal.grow-requires
grow-requires g c =
    let Q = g.P.Subtree.IsWhole in
    let k = (goal.at.grow-requires g c).After-push_down in
    let few = c.requires.subtree.whole.subtrees in
    let long = as_long g k in
    record {
      subtrees = record {
        few = subst (AreFewSubtrees Q) (sym (kept_items g k))
            (record {
              each = c.push_down.ensures.whole;
              some = omega (arith, long, few.some);
              few = omega (arith, long, few.few);
            });
        sorted = subst IsSorted (sym (all_pushed g k)) c.requires.subtree.sorted;
      };
    }

pub aggregate_with-self-requires-clause-subtrees : goal.aggregate_with-self-requires-clause-subtrees
aggregate_with-self-requires-clause-subtrees g c =
    let f = g.P.Subtree.nodes in
    let xs = (arc_value c.args.self.now.subtrees).items in
    let p = c.args.self.now.aggregate.lazy in
    let gs = c.grow.new.subtrees.items in
    let made = subst (λ (ns : List Node). HasNode ns
    (nodes_of (map f gs) ++ nodes_of (map f (items_in c.in_ok-upper.upper))) c.args.key.now)
    (all_pushed g (goal.at.aggregate_with-self-requires-clause-subtrees g c).After-push_down)
    c.in_ok-upper.ensures.made in
    record {
      few = subst (AreFewSubtrees g.P.Subtree.IsWhole) (sym c.deref.ensures.value)
          c.in_ok-upper.ensures.few;
      sorted = subst (λ (is : List g.row.P.Denot). IsSorted (nodes_of (map f is))) (sym c.deref.ensures.value)
          (sorted_left (nodes_of (map f gs)) (nodes_of (map f (items_in c.in_ok-upper.upper)))
          (made_sorted (with_lazy p (nodes_of (map f xs))) _ c.args.key.now
          c.requires.subtree.sorted made));
    }

pub aggregate_with-self-requires-clause-kept : goal.aggregate_with-self-requires-clause-kept
aggregate_with-self-requires-clause-kept g c = λ h.
    let f = g.P.Subtree.nodes in
    let xs = (arc_value c.args.self.now.subtrees).items in
    let s = c.args.self.now.aggregate in
    let gs = c.grow.new.subtrees.items in
    let none = ap (λ (is : List g.row.P.Denot). nodes_of (map f is))
    (no_items c.in_ok-upper.upper (sym c.is_some.ensures ∙ h)) in
    let stays = reported_made s.start s.joint s.lazy (nodes_of (map f xs)) _ (nodes_of (map f gs))
    (nodes_of (map f (items_in c.in_ok-upper.upper))) c.args.key.now c.requires.subtree.sorted
    c.requires.subtree.whole.reported (all_pushed g
    (goal.at.aggregate_with-self-requires-clause-kept g c).After-push_down)
    c.in_ok-upper.ensures.made none in
    stays ∙ ap (λ (is : List g.row.P.Denot). all_joint (nodes_of (map f is)))
    (sym c.deref.ensures.value)

pub new-requires : goal.new-requires
new-requires g c =
    let f = g.P.Subtree.nodes in
    let xs = (arc_value c.args.self.now.subtrees).items in
    let p = c.args.self.now.aggregate.lazy in
    let gs = c.grow.new.subtrees.items in
    let made = subst (λ (ns : List Node). HasNode ns
    (nodes_of (map f gs) ++ nodes_of (map f (items_in c.in_ok-upper.upper))) c.args.key.now)
    (all_pushed g (goal.at.new-requires g c).After-push_down)
    c.in_ok-upper.ensures.made in
    record {
      subtrees = record {
        few = subst (λ o. IfSome o (λ u. AreFewSubtrees g.P.Subtree.IsWhole u.items)) c.in-Some.is
            c.in_ok-upper.ensures.upper;
        sorted = sorted_right (nodes_of (map f gs)) (nodes_of (map f c.in-Some.upper.items))
            (subst (λ o. IsSorted (nodes_of (map f gs) ++ nodes_of (map f (items_in o)))) c.in-Some.is
            (made_sorted (with_lazy p (nodes_of (map f xs))) _ c.args.key.now
            c.requires.subtree.sorted made));
      };
    }

pub returns-in_ok-new-in-Some-clause-made : goal.returns-in_ok-new-in-Some-clause-made
returns-in_ok-new-in-Some-clause-made g c =
    let f = g.P.Subtree.nodes in
    let xs = (arc_value c.args.self.now.subtrees).items in
    let p = c.args.self.now.aggregate.lazy in
    let gs = c.grow.new.subtrees.items in
    let made = subst (λ (ns : List Node). HasNode ns
    (nodes_of (map f gs) ++ nodes_of (map f (items_in c.in_ok-upper.upper))) c.args.key.now)
    (all_pushed g (goal.at.returns-in_ok-new-in-Some-clause-made g c).After-push_down)
    c.in_ok-upper.ensures.made in
    let held = ap (λ u. u.items) (c.make_mut.follows.holds c.grow.new.subtrees (search rules)) in
    let first = ap (λ (o : Option ValueView). with_lazy o
    (nodes_of (map f (arc_value (c.make_mut.follows.lender c.grow.new.subtrees)).items)))
    c.aggregate_with-self.ensures.lazy ∙
    ap (λ (is : List g.row.P.Denot). nodes_of (map f is)) held in
    let reported = subst (λ o. HasNode (with_lazy p (nodes_of (map f xs)))
    (nodes_of (map f gs) ++ nodes_of (map f (items_in o))) c.args.key.now) c.in-Some.is made in
    subst (λ (ns : List Node). HasNode (with_lazy p (nodes_of (map f xs))) ns c.args.key.now)
    (sym (ap (λ (ns : List Node). ns ++ (branch_nodes f c.in_ok-new-in-Some.field-0 ++ [])) first ∙
    ap (λ (ns : List Node). nodes_of (map f gs) ++ ns)
    (append_nil (branch_nodes f c.in_ok-new-in-Some.field-0) ∙
    c.in_ok-new-in-Some.ensures.nodes))) reported

pub returns-in_ok-new-in-Some-clause-whole : goal.returns-in_ok-new-in-Some-clause-whole
returns-in_ok-new-in-Some-clause-whole g c =
    let f = g.P.Subtree.nodes in
    let s = g.P.Subtree.sizes in
    let Q = g.P.Subtree.IsWhole in
    let gs = c.grow.new.subtrees.items in
    let held = ap (λ u. u.items) (c.make_mut.follows.holds c.grow.new.subtrees (search rules)) in
    let reported = subst (λ (is : List g.row.P.Denot). IsReported c.aggregate_with-self.result
    (nodes_of (map f is))) c.deref.ensures.value c.aggregate_with-self.ensures.reported in
    subst (λ (is : List g.row.P.Denot). IsBranchOf f s Q c.aggregate_with-self.result is) (sym held)
    (branch_whole f s Q c.aggregate_with-self.result gs g.met.P.Subtree.counted
    c.in_ok-upper.ensures.few reported)

pub returns-in-None-clause-made : goal.returns-in-None-clause-made
returns-in-None-clause-made g c =
    let f = g.P.Subtree.nodes in
    let xs = (arc_value c.args.self.now.subtrees).items in
    let p = c.args.self.now.aggregate.lazy in
    let gs = c.grow.new.subtrees.items in
    let made = subst (λ (ns : List Node). HasNode ns
    (nodes_of (map f gs) ++ nodes_of (map f (items_in c.in_ok-upper.upper))) c.args.key.now)
    (all_pushed g (goal.at.returns-in-None-clause-made g c).After-push_down)
    c.in_ok-upper.ensures.made in
    let held = ap (λ u. u.items) (c.make_mut.follows.holds c.grow.new.subtrees (search rules)) in
    let first = ap (λ (o : Option ValueView). with_lazy o
    (nodes_of (map f (arc_value (c.make_mut.follows.lender c.grow.new.subtrees)).items)))
    c.aggregate_with-self.ensures.lazy ∙
    ap (λ (is : List g.row.P.Denot). nodes_of (map f is)) held in
    let reported = subst (λ o. HasNode (with_lazy p (nodes_of (map f xs)))
    (nodes_of (map f gs) ++ nodes_of (map f (items_in o))) c.args.key.now) c.in-None.is made in
    subst (λ (ns : List Node). HasNode (with_lazy p (nodes_of (map f xs))) ns c.args.key.now)
    (sym (ap (λ (ns : List Node). ns ++ []) first)) reported

pub returns-in-None-clause-whole : goal.returns-in-None-clause-whole
returns-in-None-clause-whole g c =
    let f = g.P.Subtree.nodes in
    let s = g.P.Subtree.sizes in
    let Q = g.P.Subtree.IsWhole in
    let gs = c.grow.new.subtrees.items in
    let held = ap (λ u. u.items) (c.make_mut.follows.holds c.grow.new.subtrees (search rules)) in
    let reported = subst (λ (is : List g.row.P.Denot). IsReported c.aggregate_with-self.result
    (nodes_of (map f is))) c.deref.ensures.value c.aggregate_with-self.ensures.reported in
    subst (λ (is : List g.row.P.Denot). IsBranchOf f s Q c.aggregate_with-self.result is) (sym held)
    (branch_whole f s Q c.aggregate_with-self.result gs g.met.P.Subtree.counted
    c.in_ok-upper.ensures.few reported)
