-- All lies between the least cut and the last one.
use Rattle.std.proofs.Common.{◌∙◌, ap, List, []}
use Rattle.tsc_span.specs.Span.{Cut, before, between}
use Rattle.tsc_page_nodes.specs.Nodes.{Node, answer_of}
use Rattle.tsc_page_tree.proofs.leaf.aggregate_of.Goals as goal

pub returns-clause-reported : goal.returns-clause-reported
returns-clause-reported c =
    let ns : List Node = c.args.nodes.now in
    record {
      some = c.requires.some;
      start = c.start_prefix.ensures;
      joint = c.join_between.ensures ∙
          ap (λ (x : Cut). answer_of ns (between x c.new-last.result)) c.new-least.ensures ∙
          ap (λ (x : Cut). answer_of ns (between (before []) x)) c.new-last.ensures;
    }
