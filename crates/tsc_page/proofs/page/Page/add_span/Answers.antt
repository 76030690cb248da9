-- What was not added in place is added to a copy of the tree, which then takes the tree's place.
use Rattle.std.proofs.Common.{◌≡◌, ◌∙◌, sym, ap, subst, false}
use Rattle.std.specs.Ordering.{ord_max}
use Rattle.tsc_time.specs.Time.{time_cmp, later}
use Rattle.tsc_time.specs.ValueView.{ValueView}
use Rattle.tsc_time.specs.declared.memory.NoMemory.{NoMemory}
use Rattle.tsc_span.specs.Span.{between}
use Rattle.tsc_page_model.specs.PageView.{PageView, has_room_for}
use Rattle.tsc_page_model.specs.PageAdds.{AddsMark}
use Rattle.tsc_page_nodes.specs.Nodes.{page_of}
use Rattle.tsc_page_model.proofs.PageAdds.{adds_as, refused_mark}
use Rattle.tsc_page_model.proofs.Standing.{later-max}
use Rattle.tsc_page_tree.proofs.TreeLists.{was_made, was_full}
use Rattle.tsc_page.proofs.PageAdds.{was_marked, was_unmarked, page_adds, page_covers, no_room}
use Rattle.tsc_page.proofs.page.Page.add_span.Goals as goal

pub returns-in_err-add_in_place : goal.returns-in_err-add_in_place
returns-in_err-add_in_place c = record {
  reported = refused_mark c.args.self.now c.add_in_place.new.self c.args.span.now c.args.value
      c.from_residual.result c.from_residual.ensures.0 c.in_err-add_in_place.ensures.tried;
}

pub returns-then-branch : goal.returns-then-branch
returns-then-branch c = record {
  reported = was_marked NoMemory c.in_ok-add_in_place.field-0 c.args.self.now
      c.add_in_place.new.self
      c.args.span.now c.args.value c.if-branch.true c.in_ok-add_in_place.ensures.tried;
}

pub returns-in_err-tree : goal.returns-in_err-tree
returns-in_err-tree c = record {
  reported = refused_mark c.args.self.now c.add_in_place.new.self c.args.span.now c.args.value
      c.from_residual-in_err-tree.result c.from_residual-in_err-tree.ensures.0
      (was_unmarked NoMemory c.in_ok-add_in_place.field-0 c.args.self.now c.add_in_place.new.self
      c.args.span.now c.args.value c.if-branch.false c.in_ok-add_in_place.ensures.tried);
}

pub returns-in_default-2 : goal.returns-in_default-2
returns-in_default-2 c =
    let same : c.add_in_place.new.self ≡ c.args.self.now =
    was_unmarked NoMemory c.in_ok-add_in_place.field-0 c.args.self.now c.add_in_place.new.self
    c.args.span.now c.args.value c.if-branch.false c.in_ok-add_in_place.ensures.tried in
    let full = was_full NoMemory _ c.self.inside.tree c.in-Some.add c.self.inside.size
    c.in_default-2.is c.in_ok-tree.ensures.reported in
    record {
      reported = (
        subst (λ (p : PageView). has_room_for p c.args.span.now ≡ false) same
            (no_room c.self.inside.size c.self.inside.top c.self.inside.tree c.in-Some.add
            c.add_in_place.new.self c.args.span.now c.in-Some.ensures.0 c.self.view_is full),
        same,
      );
    }

pub invariant_of-self : goal.invariant_of-self
invariant_of-self c =
    let inserts = was_made NoMemory _ c.in-Some-2.tree c.self.inside.tree c.in-Some.add
    c.self.inside.size c.in-Some-2.is c.in_ok-tree.ensures.reported in
    let is = c.max-self-inside.ensures ∙ ap (ord_max time_cmp c.self.inside.top) c.time.ensures ∙
    later-max c.self.inside.top c.args.value.time ∙
    ap (λ (v : ValueView). later c.self.inside.top v.time) (sym c.in-Some.ensures.1) in (
      inserts.known,
      inserts.within,
      c.self.invariant.2,
      c.self.invariant.3,
      page_covers c.self.inside.size c.self.inside.top c.max-self-inside.result c.self.inside.tree
          c.in-Some-2.tree c.in-Some.add inserts is c.self.invariant.4,
    )

pub returns : goal.returns
returns c =
    let same : c.add_in_place.new.self ≡ c.args.self.now =
    was_unmarked NoMemory c.in_ok-add_in_place.field-0 c.args.self.now c.add_in_place.new.self
    c.args.span.now c.args.value c.if-branch.false c.in_ok-add_in_place.ensures.tried in
    let inserts = was_made NoMemory _ c.in-Some-2.tree c.self.inside.tree c.in-Some.add
    c.self.inside.size c.in-Some-2.is c.in_ok-tree.ensures.reported in
    let is = c.max-self-inside.ensures ∙ ap (ord_max time_cmp c.self.inside.top) c.time.ensures ∙
    later-max c.self.inside.top c.args.value.time ∙
    ap (λ (v : ValueView). later c.self.inside.top v.time) (sym c.in-Some.ensures.1) in
    let adds = page_adds c.self.inside.size c.self.inside.top c.max-self-inside.result c.self.inside.tree
    c.in-Some-2.tree c.in-Some.add inserts is in
    record {
      reported = subst (λ (v : PageView). AddsMark v
          (page_of c.self.inside.size c.max-self-inside.result c.in-Some-2.tree.nodes c.in-Some-2.tree.sizes)
          c.args.span.now c.args.value) (c.self.view_is ∙ same)
          (adds_as _ _ c.args.span.now (between c.in-Some.add.from c.in-Some.add.to) c.args.value
          c.in-Some.add.value c.in-Some.ensures.0 c.in-Some.ensures.1 adds);
    }
