-- The sizes of a page's leaves.
use Rattle.std.proofs.Common.{◌∙◌, sym, ap, subst}
use Rattle.std.specs.Prelude.{sum, slice_get}
use Rattle.tsc_page_model.specs.Page.{count_distinct}
use Rattle.tsc_page_model.specs.PageView.{PageView, AreLeafSizes}
use Rattle.tsc_page_nodes.proofs.Standing.{count_of_nodes}
use Rattle.tsc_page.proofs.page.Page.leaf_nodes.Goals as goal

pub returns-in-Some : goal.returns-in-Some
returns-in-Some c = record {
  value = c.in-Some.ensures.value ∙
      ap (λ (v : PageView). slice_get v.leaves c.args.i) c.self.view_is;
  sizes = subst (λ (v : PageView). AreLeafSizes v.leaves) c.self.view_is
      c.self.invariant.0.sizes.few;
  total = sym (ap (λ (v : PageView). sum v.leaves) c.self.view_is) ∙
      c.self.invariant.0.sizes.total ∙
      sym (count_of_nodes c.self.inside.tree.nodes c.self.invariant.0.sorted) ∙
      ap (λ (v : PageView). count_distinct v.keys) c.self.view_is;
}

pub returns-in-None : goal.returns-in-None
returns-in-None c = record {
  value = c.in-None.ensures.value ∙
      ap (λ (v : PageView). slice_get v.leaves c.args.i) c.self.view_is;
  sizes = subst (λ (v : PageView). AreLeafSizes v.leaves) c.self.view_is
      c.self.invariant.0.sizes.few;
  total = sym (ap (λ (v : PageView). sum v.leaves) c.self.view_is) ∙
      c.self.invariant.0.sizes.total ∙
      sym (count_of_nodes c.self.inside.tree.nodes c.self.invariant.0.sorted) ∙
      ap (λ (v : PageView). count_distinct v.keys) c.self.view_is;
}
