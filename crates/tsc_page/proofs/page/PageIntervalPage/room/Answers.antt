-- What the nodes cost, and each end key that is new.
use Rattle.std.proofs.Common.{◌∙◌, ◌++◌, ap, nat_le}
use Rattle.std.specs.Prelude.{option_map}
use Rattle.tsc_span.specs.Span.{SpanView, end_keys}
use Rattle.tsc_page_model.specs.Page.{cost_distinct}
use Rattle.tsc_page_model.specs.PageView.{PageView, has_room_for}
use Rattle.tsc_page_nodes.specs.Nodes.{node_keys}
use Rattle.tsc_page_model.proofs.Standing.{same_room}
use Rattle.tsc_page_tree.proofs.Costs.{room_reported}
use Rattle.tsc_page.proofs.page.PageIntervalPage.room.Goals as goal

value : goal.returns-clause-value
value c =
    let nodes = c.self.inside.tree.nodes in
    room_reported nodes (option_map (λ k. k.now) c.end_keys.result.0)
    (option_map (λ k. k.now) c.end_keys.result.1) c.for_add-span.result c.self.inside.tree.bytes
    c.self.inside.size c.has_room.result
    c.self.invariant.0.sorted c.end_keys.ensures.keys c.self.invariant.0.bytes
    c.has_room.ensures.value ∙
    ap (λ (s : SpanView). nat_le (cost_distinct (node_keys nodes ++ end_keys s))
    c.self.inside.size) c.for_add-span.ensures
    ∙ ap (λ (v : PageView). has_room_for v c.args.span.now) c.self.view_is

pub returns-clause-value : goal.returns-clause-value
returns-clause-value = value

pub returns-clause-stands : goal.returns-clause-stands
returns-clause-stands c p stands = value c ∙ same_room c.args.self.now p c.args.span.now stands
