-- There is room for what the span's keys cost with those of the nodes, without repeats.
use Rattle.std.proofs.Common.{◌∙◌, ap, sym, subst, ◌+◌, ◌≤◌, ◌++◌, arith}
use Rattle.std.specs.Prelude.{Option, option_map}
use Rattle.std.proofs.lemmas.Bool.{leb-true, leb-false}
use Rattle.tsc_span.specs.Span.{KeyBytes, between, end_keys}
use Rattle.tsc_span.specs.Cuts.{cut_of}
use Rattle.tsc_page_model.specs.Page.{cost_distinct}
use Rattle.tsc_page_nodes.specs.Insertions.{InsertionView}
use Rattle.tsc_page_nodes.specs.Nodes.{IsSorted, node_keys}
use Rattle.tsc_page_tree.specs.Roots.{TreeView, Inserts, IsFullFor, root_nodes}
use Rattle.tsc_page_nodes.proofs.Costs.{node_costs}
use Rattle.tsc_page_tree.proofs.Costs.{room_reported}
use Rattle.tsc_page_tree.proofs.TreeLists.{seen_of, counted_twice, inserts_twice, room_in}
use Rattle.tsc_page_tree.proofs.tree.Tree.inserted.Goals as goal

pub returns-then-not-has_room : goal.returns-then-not-has_room
returns-then-not-has_room c =
    let o : Option KeyBytes = option_map (λ k. k.now) c.add.inside.first in
    let q : Option KeyBytes = option_map (λ k. k.now) c.add.inside.second in
    let all = between (cut_of c.add.inside.from) (cut_of c.add.inside.to) in
    let nodes = c.args.self.now.nodes in
    let known = c.has_room.ensures.known in
    let reported = room_reported nodes o q all c.args.self.now.bytes c.args.most c.has_room.result
    known.sorted c.add.invariant.keys known.bytes c.has_room.ensures.value in
    record {
      reported = subst (λ (a : InsertionView). IsFullFor c.args.self.now a c.args.most)
          c.add.view_is (leb-false (cost_distinct (node_keys nodes ++ end_keys all)) c.args.most
          (sym reported ∙ c.if-not-has_room.true));
    }

pub returns : goal.returns
returns c =
    let r = c.self.inside.root in
    let a : InsertionView = record {
      first = option_map (λ k. k.now) c.add.inside.first;
      second = option_map (λ k. k.now) c.add.inside.second;
      from = cut_of c.add.inside.from;
      to =
          cut_of c.add.inside.to;
      value = c.add.inside.value;
    } in
    let all = between a.from a.to in
    let reported = room_in r c.self.inside.count c.self.inside.bytes c.args.self.now a.first
    a.second
    all c.args.most c.has_room.result c.self.view_is c.self.invariant c.add.invariant.keys
    c.has_room.ensures.value in
    let few = leb-true (cost_distinct (node_keys c.args.self.now.nodes ++ end_keys all)) c.args.most
    (sym reported ∙ c.if-not-has_room.false) in
    let made = inserts_twice r c.in_ok-try_copy.field-0 c.in_ok-upper.upper.root
    c.in_ok-lower.lower.root c.raise_between.new.self c.self.inside.count c.self.inside.bytes
    c.in_ok-upper.upper.more c.in_ok-lower.lower.more a c.args.most c.self.invariant
    (subst (λ (t : TreeView). cost_distinct (node_keys t.nodes ++ end_keys all) ≤ c.args.most)
    (sym c.self.view_is) few) c.add.invariant c.in_ok-try_copy.ensures
    c.in_ok-upper.ensures.split c.in_ok-lower.ensures.split c.in_ok-upper.ensures.grown
    c.in_ok-lower.ensures.grown c.in_ok-raise_between.ensures.whole
    c.in_ok-raise_between.ensures.raised in
    record {
      reported = subst (λ (b : InsertionView). Inserts c.args.self.now
          (seen_of c.raise_between.new.self
          (c.self.inside.bytes + c.in_ok-upper.upper.more.bytes + c.in_ok-lower.lower.more.bytes)) b
          c.args.most) c.add.view_is
          (subst (λ (t : TreeView). Inserts t
          (seen_of c.raise_between.new.self
          (c.self.inside.bytes + c.in_ok-upper.upper.more.bytes +
          c.in_ok-lower.lower.more.bytes)) a c.args.most) c.self.view_is made);
    }

pub invariant_of-result : goal.invariant_of-result
invariant_of-result c =
    counted_twice c.self.inside.root c.in_ok-try_copy.field-0 c.in_ok-upper.upper.root
    c.in_ok-lower.lower.root c.raise_between.new.self c.self.inside.count c.self.inside.bytes
    c.in_ok-upper.upper.more c.in_ok-lower.lower.more
    (between (cut_of c.add.inside.from) (cut_of c.add.inside.to)) c.add.inside.value
    c.self.invariant
    c.in_ok-try_copy.ensures c.in_ok-lower.ensures.split.sorted c.in_ok-upper.ensures.grown
    c.in_ok-lower.ensures.grown c.in_ok-raise_between.ensures.whole
    c.in_ok-raise_between.ensures.raised

pub overflow_add-count : goal.overflow_add-count
overflow_add-count c =
    omega (
      arith,
      c.self.invariant.count,
      c.self.invariant.bytes,
      node_costs (root_nodes c.self.inside.root),
      c.requires.within,
      c.requires.small,
      ap (λ (t : TreeView). t.bytes) c.self.view_is,
      c.in_ok-upper.ensures.few.0,
      c.in_ok-lower.ensures.few.0,
    )

pub overflow_add-count-2 : goal.overflow_add-count-2
overflow_add-count-2 c =
    omega (
      arith,
      c.self.invariant.count,
      c.self.invariant.bytes,
      node_costs (root_nodes c.self.inside.root),
      c.requires.within,
      c.requires.small,
      ap (λ (t : TreeView). t.bytes) c.self.view_is,
      c.in_ok-upper.ensures.few.0,
      c.in_ok-lower.ensures.few.0,
    )

pub with_node-requires : goal.with_node-requires
with_node-requires c = record {
  root = record {
    whole = c.in_ok-try_copy.ensures.whole c.self.invariant.whole;
    sorted = subst IsSorted (sym c.in_ok-try_copy.ensures.nodes) c.self.invariant.sorted;
  };
}

pub with_node-requires-2 : goal.with_node-requires-2
with_node-requires-2 c = record {
  root = record {
    whole = c.in_ok-upper.ensures.whole;
    sorted = c.in_ok-upper.ensures.split.sorted;
  };
}

pub raise_between-requires-clause-root : goal.raise_between-requires-clause-root
raise_between-requires-clause-root c =
    record { whole = c.in_ok-lower.ensures.whole; sorted = c.in_ok-lower.ensures.split.sorted }

pub raise_between-requires-clause-order : goal.raise_between-requires-clause-order
raise_between-requires-clause-order c = c.add.invariant.order

pub overflow_add-bytes : goal.overflow_add-bytes
overflow_add-bytes c = omega (
  arith,
  c.requires.within,
  c.requires.small,
  ap (λ (t : TreeView). t.bytes) c.self.view_is,
  c.in_ok-upper.ensures.few.1,
)

pub overflow_add-bytes-2 : goal.overflow_add-bytes-2
overflow_add-bytes-2 c = omega (
  arith,
  c.requires.within,
  c.requires.small,
  ap (λ (t : TreeView). t.bytes) c.self.view_is,
  c.in_ok-upper.ensures.few.1,
  c.in_ok-lower.ensures.few.1,
)
