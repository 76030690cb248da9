-- The cuts with their prefixes are those of the span.
use Rattle.std.proofs.Common.{◌∙◌, sym, ap, subst}
use Rattle.std.specs.Prelude.{Option, option_map}
use Rattle.tsc_time.specs.ValueView.{ValueView}
use Rattle.tsc_span.specs.Span.{KeyBytes, Cut}
use Rattle.tsc_span.specs.Cuts.{cut_of}
use Rattle.tsc_page_nodes.proofs.Ends.{ends_in_order}
use Rattle.tsc_page_nodes.specs.Insertions.{InsertionView}
use Rattle.tsc_page_tree.specs.Lazy.{IsAddReported}
use Rattle.tsc_page_tree.specs.Roots.{AreEnds, root_nodes, root_sizes}
use Rattle.tsc_page_tree.proofs.root.Root.insert.Goals as goal

pub invariant_of-bounds : goal.invariant_of-bounds
invariant_of-bounds c =
    let o : Option KeyBytes = option_map (λ k. k.now) c.add.inside.first in
    let q : Option KeyBytes = option_map (λ k. k.now) c.add.inside.second in
    let v : ValueView = c.add.inside.value in
    let f : Cut = c.new.result in
    let t : Cut = c.new-2.result in
    let upper : AreEnds (record {
      first = o;
      second = q;
      from = cut_of c.add.inside.from;
      to = t;
      value = v;
    }) = subst (λ (z : Cut). AreEnds
    (record { first = o; second = q; from = cut_of c.add.inside.from; to = z; value = v }))
    (sym c.new-2.ensures) c.add.invariant in
    let ends : AreEnds (record { first = o; second = q; from = f; to = t; value = v }) =
    subst (λ (z : Cut). AreEnds (record { first = o; second = q; from = z; to = t; value = v }))
    (sym c.new.ensures) upper in
    (ends.order, ends.first, ends.second, ends_in_order f t o q ends.order ends.keys)

pub returns-clause-reported : goal.returns-clause-reported
returns-clause-reported c =
    let o : Option KeyBytes = option_map (λ k. k.now) c.add.inside.first in
    let q : Option KeyBytes = option_map (λ k. k.now) c.add.inside.second in
    let v : ValueView = c.add.inside.value in
    let old = c.args.self.now in
    let new = c.add_within.new.self in
    let low = ap (λ (z : Cut). record {
      first = o;
      second = q;
      from = z;
      to = c.new-2.result;
      value = v;
    }) c.new.ensures in
    let high = ap (λ (z : Cut). record {
      first = o;
      second = q;
      from = cut_of c.add.inside.from;
      to = z;
      value = v;
    }) c.new-2.ensures in
    subst (λ (a : InsertionView). IsAddReported (root_nodes old) (root_nodes new) (root_sizes old)
    (root_sizes new) a c.args.room c.add_within.result) (low ∙ high ∙ c.add.view_is)
    c.add_within.ensures.reported

pub returns-clause-ends : goal.returns-clause-ends
returns-clause-ends c = subst AreEnds c.add.view_is c.add.invariant
