-- What the root tells of an insertion holds of the tree.
use Rattle.std.proofs.Common.{◌-◌, ◌+◌, ◌∙◌, ℕ, ap, subst, Ok, arith}
use Rattle.tsc_time.specs.declared.memory.NoMemory.{NoMemory}
use Rattle.tsc_page_nodes.specs.Insertions.{InsertionView}
use Rattle.tsc_page_nodes.proofs.Costs.{node_costs}
use Rattle.tsc_page_nodes.proofs.Ends.{ends_in_order}
use Rattle.tsc_page_tree.specs.KeyAdds.{at_key}
use Rattle.tsc_page_tree.proofs.KeyAdds.{reported_within}
use Rattle.tsc_page_tree.proofs.Wholes.{reports_some, reports_none}
use Rattle.tsc_page_tree.specs.Roots.{TreeView, root_nodes, root_sizes, Inserts}
use Rattle.tsc_page_tree.proofs.TreeLists.{seen_of, seen_same, counted_added, counted_kept, inserts_some, refused_try, key_ends}
use Rattle.tsc_page_tree.proofs.tree.Tree.add_key.Goals as goal

pub invariant_of-self : goal.invariant_of-self
invariant_of-self c = counted_kept c.self.inside.root c.add_key.new.self
    c.self.inside.count c.self.inside.bytes c.self.invariant c.add_key.ensures.whole
    c.in_err-grown.ensures.reported.0

pub returns-in_err-grown : goal.returns-in_err-grown
returns-in_err-grown c = record {
  reported = refused_try c.from_residual.result _ _ _ c.args.most c.from_residual.ensures.0
      (seen_same c.self.inside.root c.add_key.new.self c.self.inside.bytes
      c.in_err-grown.ensures.reported.0 c.in_err-grown.ensures.reported.1 ∙ c.self.view_is);
}

pub overflow_add-self : goal.overflow_add-self
overflow_add-self c =
    let r = c.self.inside.root in
    let q = c.add_key.new.self in
    let a : InsertionView = at_key c.args.add.now in
    let room : ℕ = c.args.most - c.self.inside.bytes in
    let reported = reported_within {E = NoMemory} (Ok c.in_ok-grown.field-0) (root_nodes r)
    (root_nodes q)
    (root_sizes r) (root_sizes q) c.args.add.now room c.in_ok-grown.ensures.reported in
    let adds = reports_some NoMemory c.in_ok-grown.field-0 c.in-Some.grown (root_nodes r)
    (root_nodes q) (root_sizes r) (root_sizes q) a room c.in-Some.is reported in
    omega (
      arith,
      c.self.invariant.count,
      c.self.invariant.bytes,
      adds.grown.count,
      adds.grown.cost,
      adds.within,
      node_costs (root_nodes q),
      c.requires.within,
      c.requires.small,
      ap (λ (t : TreeView). t.bytes) c.self.view_is,
    )

pub overflow_add-self-in-Some : goal.overflow_add-self-in-Some
overflow_add-self-in-Some c =
    let r = c.self.inside.root in
    let q = c.add_key.new.self in
    let a : InsertionView = at_key c.args.add.now in
    let room : ℕ = c.args.most - c.self.inside.bytes in
    let reported = reported_within {E = NoMemory} (Ok c.in_ok-grown.field-0) (root_nodes r)
    (root_nodes q)
    (root_sizes r) (root_sizes q) c.args.add.now room c.in_ok-grown.ensures.reported in
    let adds = reports_some NoMemory c.in_ok-grown.field-0 c.in-Some.grown (root_nodes r)
    (root_nodes q) (root_sizes r) (root_sizes q) a room c.in-Some.is reported in
    omega (
      arith,
      adds.within,
      c.requires.within,
      c.requires.small,
      ap (λ (t : TreeView). t.bytes) c.self.view_is,
    )

pub invariant_of-self-in-Some : goal.invariant_of-self-in-Some
invariant_of-self-in-Some c =
    let r = c.self.inside.root in
    let q = c.add_key.new.self in
    let a : InsertionView = at_key c.args.add.now in
    let room : ℕ = c.args.most - c.self.inside.bytes in
    let reported = reported_within {E = NoMemory} (Ok c.in_ok-grown.field-0) (root_nodes r)
    (root_nodes q)
    (root_sizes r) (root_sizes q) c.args.add.now room c.in_ok-grown.ensures.reported in
    let adds = reports_some NoMemory c.in_ok-grown.field-0 c.in-Some.grown (root_nodes r)
    (root_nodes q) (root_sizes r) (root_sizes q) a room c.in-Some.is reported in
    let ends = key_ends c.args.add.now in
    counted_added r q c.self.inside.count c.self.inside.bytes room c.in-Some.grown a
    c.self.invariant c.add_key.ensures.whole
    (ends_in_order a.from a.to a.first a.second ends.order ends.keys) adds

pub returns-in-Some : goal.returns-in-Some
returns-in-Some c =
    let r = c.self.inside.root in
    let q = c.add_key.new.self in
    let a : InsertionView = at_key c.args.add.now in
    let room : ℕ = c.args.most - c.self.inside.bytes in
    let reported = reported_within {E = NoMemory} (Ok c.in_ok-grown.field-0) (root_nodes r)
    (root_nodes q)
    (root_sizes r) (root_sizes q) c.args.add.now room c.in_ok-grown.ensures.reported in
    let adds = reports_some NoMemory c.in_ok-grown.field-0 c.in-Some.grown (root_nodes r)
    (root_nodes q) (root_sizes r) (root_sizes q) a room c.in-Some.is reported in
    record {
      reported = subst (λ (t : TreeView). Inserts t
          (seen_of q (c.self.inside.bytes + c.in-Some.grown.bytes)) a c.args.most) c.self.view_is
          (inserts_some r q c.self.inside.count c.self.inside.bytes c.args.most c.in-Some.grown a
          c.self.invariant (omega
          (arith, c.requires.within, ap (λ (t : TreeView). t.bytes) c.self.view_is))
          c.add_key.ensures.whole (key_ends c.args.add.now) adds);
    }

pub invariant_of-self-in-None : goal.invariant_of-self-in-None
invariant_of-self-in-None c =
    let r = c.self.inside.root in
    let q = c.add_key.new.self in
    let a : InsertionView = at_key c.args.add.now in
    let room : ℕ = c.args.most - c.self.inside.bytes in
    let reported = reported_within {E = NoMemory} (Ok c.in_ok-grown.field-0) (root_nodes r)
    (root_nodes q)
    (root_sizes r) (root_sizes q) c.args.add.now room c.in_ok-grown.ensures.reported in
    let left = reports_none NoMemory c.in_ok-grown.field-0 (root_nodes r) (root_nodes q)
    (root_sizes r) (root_sizes q) a room c.in-None.is reported in
    counted_kept r q c.self.inside.count c.self.inside.bytes c.self.invariant
    c.add_key.ensures.whole left.0

pub returns-in-None : goal.returns-in-None
returns-in-None c =
    let r = c.self.inside.root in
    let q = c.add_key.new.self in
    let a : InsertionView = at_key c.args.add.now in
    let room : ℕ = c.args.most - c.self.inside.bytes in
    let reported = reported_within {E = NoMemory} (Ok c.in_ok-grown.field-0) (root_nodes r)
    (root_nodes q)
    (root_sizes r) (root_sizes q) c.args.add.now room c.in_ok-grown.ensures.reported in
    let left = reports_none NoMemory c.in_ok-grown.field-0 (root_nodes r) (root_nodes q)
    (root_sizes r) (root_sizes q) a room c.in-None.is reported in
    record { reported = seen_same r q c.self.inside.bytes left.0 left.1 ∙ c.self.view_is }
