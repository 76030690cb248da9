-- Where the two cuts lie tells which keys and gaps are between them.
use Rattle.std.proofs.Common.{◌≡◌, ◌∙◌, ap, sym, subst, ℕ, List, Result}
use Rattle.tsc_span.specs.Span.{Cut, between}
use Rattle.tsc_page_nodes.specs.Nodes.{Node, key_above, first_gap, HoldsKeysOn, HoldsGapsOn, IsSorted}
use Rattle.tsc_page_nodes.proofs.Indices.{indices_found}
use Rattle.tsc_page_nodes.proofs.nodes.lists.Lists.indices_between.Goals as goal

pub returns-clause-keys : goal.returns-clause-keys
returns-clause-keys c =
    let nodes : List Node = c.args.self.now in
    let from : Cut = c.args.from.now in
    let to : Cut = c.args.to.now in
    let low : Result ℕ ℕ = c.find_cut-low.result in
    let high : Result ℕ ℕ = c.find_cut-high.result in
    let found = indices_found nodes (subst IsSorted c.self.view_is c.self.invariant.sorted) from to c.requires.order low high
    c.find_cut-low.ensures c.find_cut-high.ensures in
    let start : c.key_above.result ≡ key_above low from = c.key_above.ensures ∙
    ap (key_above low) c.cut.ensures in
    let end : c.key_above-2.result ≡ key_above high to = c.key_above-2.ensures ∙
    ap (key_above high) c.cut-2.ensures in
    subst (λ (i : ℕ). HoldsKeysOn nodes (between from to) i c.key_above-2.result) (sym start)
    (subst (HoldsKeysOn nodes (between from to) (key_above low from)) (sym end) found.0)

pub returns-clause-gaps : goal.returns-clause-gaps
returns-clause-gaps c =
    let nodes : List Node = c.args.self.now in
    let from : Cut = c.args.from.now in
    let to : Cut = c.args.to.now in
    let low : Result ℕ ℕ = c.find_cut-low.result in
    let high : Result ℕ ℕ = c.find_cut-high.result in
    let found = indices_found nodes (subst IsSorted c.self.view_is c.self.invariant.sorted) from to c.requires.order low high
    c.find_cut-low.ensures c.find_cut-high.ensures in
    subst (λ (i : ℕ). HoldsGapsOn nodes (between from to) i c.index_of.result)
    (sym c.first_gap.ensures)
    (subst (HoldsGapsOn nodes (between from to) (first_gap low)) (sym c.index_of.ensures) found.1)
