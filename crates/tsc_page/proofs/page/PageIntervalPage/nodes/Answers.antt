-- Sorted nodes have as many different keys as there are nodes.
use Rattle.std.proofs.Common.{◌∙◌, sym, ap, arith}
use Rattle.tsc_page_model.specs.Page.{count_distinct}
use Rattle.tsc_page_model.specs.PageView.{PageView}
use Rattle.tsc_page_nodes.proofs.Standing.{count_of_nodes}
use Rattle.tsc_page_model.proofs.Standing.{same_count}
use Rattle.tsc_page_nodes.proofs.Costs.{node_costs}
use Rattle.tsc_page.proofs.page.PageIntervalPage.nodes.Goals as goal

pub returns-clause-value : goal.returns-clause-value
returns-clause-value c = c.len.ensures ∙
    sym (count_of_nodes c.self.inside.tree.nodes c.self.invariant.0.sorted) ∙
    ap (λ (v : PageView). count_distinct v.keys) c.self.view_is

pub returns-clause-stands : goal.returns-clause-stands
returns-clause-stands c p stands =
    c.len.ensures ∙ sym (count_of_nodes c.self.inside.tree.nodes c.self.invariant.0.sorted) ∙
    ap (λ (v : PageView). count_distinct v.keys) c.self.view_is ∙
    same_count c.args.self.now p stands

pub overflow_cast-result : goal.overflow_cast-result
overflow_cast-result c = omega (
  arith,
  c.len.ensures,
  node_costs c.self.inside.tree.nodes,
  c.self.invariant.0.bytes,
  c.self.invariant.1,
  c.self.invariant.3,
)

pub returns-clause-few : goal.returns-clause-few
returns-clause-few c =
    omega (
      arith,
      c.len.ensures,
      node_costs c.self.inside.tree.nodes,
      c.self.invariant.0.bytes,
      c.self.invariant.1,
      ap (λ (v : PageView). v.size) c.self.view_is,
    )
