-- The first key of the tree's nodes above the cut is the least one.
use Rattle.std.proofs.Common.{sym, subst, List}
use Rattle.std.specs.Prelude.{Option, option_map}
use Rattle.tsc_span.specs.Span.{KeyBytes, Cut}
use Rattle.tsc_span.specs.Cuts.{cut_of}
use Rattle.tsc_page_model.specs.Page.{marked_keys}
use Rattle.tsc_page_model.specs.PageView.{PageView}
use Rattle.tsc_page_nodes.specs.Nodes.{node_keys}
use Rattle.tsc_page_model.specs.KeysAbove.{IsLeastAbove}
use Rattle.tsc_page.proofs.KeysAbove.{first_is_least, least_among_same}
use Rattle.tsc_page.proofs.page.Page.key_above.Goals as goal

pub returns : goal.returns
returns c =
    let cut : Cut = cut_of c.args.cut in
    let reported : Option KeyBytes = option_map (λ k. k.now) c.key_above.result in
    let keys : List KeyBytes = node_keys c.self.inside.tree.nodes in
    let least = subst (IsLeastAbove cut keys) (sym c.key_above.ensures)
    (first_is_least cut c.self.inside.tree.nodes c.self.invariant.0.sorted) in
    let seen = subst (λ (v : PageView). IsLeastAbove cut v.keys reported) c.self.view_is least in
    record {
      value = seen;
      stands = λ p s. least_among_same cut c.args.self.now.keys
          (marked_keys p.marks) s.keys reported seen;
    }
