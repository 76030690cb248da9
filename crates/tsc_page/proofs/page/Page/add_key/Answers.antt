-- A node of the key comes in, and is raised.
use Rattle.std.proofs.Common.{◌∙◌, ◌≤◌, sym, ap, subst}
use Rattle.std.specs.Ordering.{ord_max}
use Rattle.tsc_time.specs.Time.{time_cmp, later}
use Rattle.tsc_time.specs.declared.memory.NoMemory.{NoMemory}
use Rattle.tsc_span.specs.Span.{point}
use Rattle.tsc_page_model.specs.Limits.{least_size, most_size}
use Rattle.tsc_page_model.specs.PageView.{PageView, NoAnswerAboveTop}
use Rattle.tsc_page_model.specs.PageAdds.{AddsMark}
use Rattle.tsc_page_nodes.specs.KeyAdds.{KeyInsertionView}
use Rattle.tsc_page_nodes.specs.Nodes.{page_of}
use Rattle.tsc_page_tree.specs.KeyAdds.{at_key}
use Rattle.tsc_page_tree.specs.Roots.{TreeView, IsKnown}
use Rattle.tsc_page_model.proofs.Standing.{later-max}
use Rattle.tsc_page.proofs.PageAdds.{page_adds, page_covers}
use Rattle.tsc_page_tree.proofs.TreeLists.{was_tried, was_not}
use Rattle.tsc_page.proofs.page.Page.add_key.Goals as goal

pub invariant_of-self : goal.invariant_of-self
invariant_of-self c = subst (λ (t : TreeView). IsKnown t × (t.bytes ≤ c.self.inside.size) ×
    (least_size ≤ c.self.inside.size) × (c.self.inside.size ≤ most_size) ×
    NoAnswerAboveTop (page_of c.self.inside.size c.self.inside.top t.nodes t.sizes))
    (sym c.in_err-add_key.ensures.reported) c.self.invariant

pub invariant_of-self-then-not-branch : goal.invariant_of-self-then-not-branch
invariant_of-self-then-not-branch c =
    let add : KeyInsertionView = record { key = c.args.key.now; value = c.args.value } in
    let same = was_not NoMemory _ c.self.inside.tree c.add_key.new.self (at_key add)
    c.self.inside.size c.if-not-branch.true c.in_ok-add_key.ensures.reported
    in subst (λ (t : TreeView). IsKnown t × (t.bytes ≤ c.self.inside.size) ×
    (least_size ≤ c.self.inside.size) × (c.self.inside.size ≤ most_size) ×
    NoAnswerAboveTop (page_of c.self.inside.size c.self.inside.top t.nodes t.sizes)) (sym same)
    c.self.invariant

pub invariant_of-self-2 : goal.invariant_of-self-2
invariant_of-self-2 c =
    let add : KeyInsertionView = record { key = c.args.key.now; value = c.args.value } in
    let inserts = was_tried NoMemory _ c.self.inside.tree c.add_key.new.self (at_key add)
    c.self.inside.size c.if-not-branch.false c.in_ok-add_key.ensures.reported in
    let is = c.max-self-inside.ensures ∙ ap (ord_max time_cmp c.self.inside.top) c.time.ensures ∙
    later-max c.self.inside.top c.args.value.time in (
      inserts.known,
      inserts.within,
      c.self.invariant.2,
      c.self.invariant.3,
      page_covers c.self.inside.size c.self.inside.top c.max-self-inside.result c.self.inside.tree
          c.add_key.new.self (at_key add) inserts is c.self.invariant.4,
    )

pub returns : goal.returns
returns c =
    let add : KeyInsertionView = record { key = c.args.key.now; value = c.args.value } in
    let inserts = was_tried NoMemory _ c.self.inside.tree c.add_key.new.self (at_key add)
    c.self.inside.size c.if-not-branch.false c.in_ok-add_key.ensures.reported in
    let is = c.max-self-inside.ensures ∙ ap (ord_max time_cmp c.self.inside.top) c.time.ensures ∙
    later-max c.self.inside.top c.args.value.time in
    let adds = page_adds c.self.inside.size c.self.inside.top c.max-self-inside.result
    c.self.inside.tree c.add_key.new.self (at_key add) inserts is in
    let new : PageView = page_of c.self.inside.size c.max-self-inside.result
    c.add_key.new.self.nodes c.add_key.new.self.sizes in
    record {
      tried = subst (λ (v : PageView). AddsMark v new (point c.args.key.now) c.args.value)
          c.self.view_is adds;
    }
