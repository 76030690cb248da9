-- Sorted nodes have each key once.
use Rattle.std.proofs.Common.{◌∙◌, sym, ap}
use Rattle.tsc_span.specs.Span.{key_cost}
use Rattle.tsc_page_model.specs.PageView.{bytes_of}
use Rattle.tsc_page_nodes.proofs.Standing.{weigh_of_nodes}
use Rattle.tsc_page_model.proofs.Standing.{same_bytes}
use Rattle.tsc_page.proofs.page.PageIntervalPage.bytes.Goals as goal

value : goal.returns-clause-value
value c = c.bytes.ensures ∙ c.self.invariant.0.bytes ∙
    sym (weigh_of_nodes key_cost c.self.inside.tree.nodes c.self.invariant.0.sorted) ∙
    ap bytes_of c.self.view_is

pub returns-clause-value : goal.returns-clause-value
returns-clause-value = value

pub returns-clause-stands : goal.returns-clause-stands
returns-clause-stands c p stands = value c ∙ same_bytes c.args.self.now p stands
