-- Nothing is later than time zero on a page without nodes, and it costs nothing.
use Rattle.std.proofs.Common.{sym, subst, ◌≤◌, arith, refl}
use Rattle.tsc_page_model.specs.Limits.{least_size, most_size}
use Rattle.tsc_page_model.specs.PageView.{NoAnswerAboveTop}
use Rattle.tsc_page_nodes.specs.Nodes.{page_of}
use Rattle.tsc_page_nodes.proofs.Tops.{none_covers}
use Rattle.tsc_page_tree.specs.Roots.{TreeView, IsKnown}
use Rattle.tsc_page.proofs.page.PageIntervalPage.new.Goals as goal

pub invariant_of-result : goal.invariant_of-result
invariant_of-result c =
    subst (λ (t : TreeView). IsKnown t × (t.bytes ≤ c.args.size) × (least_size ≤ c.args.size) ×
    (c.args.size ≤ most_size) ×
    NoAnswerAboveTop (page_of c.args.size c.args.base t.nodes t.sizes)) (sym c.new.ensures) (
      record { sorted = tt; sizes = record { few = tt; total = refl }; bytes = refl },
      omega arith,
      c.requires.at_least,
      c.requires.at_most,
      none_covers _ _ refl,
    )
