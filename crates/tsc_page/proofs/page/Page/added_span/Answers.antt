-- What the tree tells of an insertion holds of the page.
use Rattle.std.proofs.Common.{◌∙◌, sym, ap, subst}
use Rattle.std.specs.Ordering.{ord_max}
use Rattle.tsc_time.specs.Time.{time_cmp, later}
use Rattle.tsc_time.specs.ValueView.{ValueView}
use Rattle.tsc_time.specs.declared.memory.NoMemory.{NoMemory}
use Rattle.tsc_span.specs.Span.{between}
use Rattle.tsc_page_model.specs.PageView.{PageView}
use Rattle.tsc_page_model.specs.PageAdds.{AddsMark}
use Rattle.tsc_page_nodes.specs.Nodes.{page_of}
use Rattle.tsc_page_model.proofs.Standing.{later-max}
use Rattle.tsc_page_model.proofs.PageAdds.{adds_as}
use Rattle.tsc_page.proofs.PageAdds.{page_adds, page_covers, no_room}
use Rattle.tsc_page_tree.proofs.TreeLists.{was_made, was_full}
use Rattle.tsc_page.proofs.page.Page.added_span.Goals as goal

pub returns-in_default-2 : goal.returns-in_default-2
returns-in_default-2 c =
    let full = was_full NoMemory _ c.self.inside.tree c.in-Some.add c.self.inside.size
    c.in_default-2.is c.in_ok-tree.ensures.reported in
    record {
      reported = no_room c.self.inside.size c.self.inside.top c.self.inside.tree c.in-Some.add
          c.args.self.now c.args.span.now c.in-Some.ensures.0 c.self.view_is full;
    }

pub invariant_of-result : goal.invariant_of-result
invariant_of-result c =
    let inserts = was_made NoMemory _ c.in-Some-2.tree c.self.inside.tree c.in-Some.add
    c.self.inside.size c.in-Some-2.is c.in_ok-tree.ensures.reported in
    let is = c.max.ensures ∙ ap (ord_max time_cmp c.self.inside.top) c.time.ensures ∙
    later-max c.self.inside.top c.args.value.time ∙
    ap (λ (v : ValueView). later c.self.inside.top v.time) (sym c.in-Some.ensures.1) in (
      inserts.known,
      inserts.within,
      c.self.invariant.2,
      c.self.invariant.3,
      page_covers c.self.inside.size c.self.inside.top c.max.result c.self.inside.tree
          c.in-Some-2.tree c.in-Some.add inserts is c.self.invariant.4,
    )

pub returns : goal.returns
returns c =
    let inserts = was_made NoMemory _ c.in-Some-2.tree c.self.inside.tree c.in-Some.add
    c.self.inside.size c.in-Some-2.is c.in_ok-tree.ensures.reported in
    let is = c.max.ensures ∙ ap (ord_max time_cmp c.self.inside.top) c.time.ensures ∙
    later-max c.self.inside.top c.args.value.time ∙
    ap (λ (v : ValueView). later c.self.inside.top v.time) (sym c.in-Some.ensures.1) in
    let adds = page_adds c.self.inside.size c.self.inside.top c.max.result c.self.inside.tree
    c.in-Some-2.tree c.in-Some.add inserts is in
    record {
      reported = subst (λ (v : PageView). AddsMark v
          (page_of c.self.inside.size c.max.result c.in-Some-2.tree.nodes c.in-Some-2.tree.sizes)
          c.args.span.now c.args.value) c.self.view_is
          (adds_as _ _ c.args.span.now (between c.in-Some.add.from c.in-Some.add.to) c.args.value
          c.in-Some.add.value c.in-Some.ensures.0 c.in-Some.ensures.1 adds);
    }
