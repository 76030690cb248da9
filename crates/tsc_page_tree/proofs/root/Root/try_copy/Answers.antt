-- Copies of the subtrees stand for the same.
use Rattle.std.proofs.Common.{sym, subst}
use Rattle.tsc_page_tree.specs.Copies.{IsSameAs}
use Rattle.tsc_page_tree.specs.Roots.{root_nodes, root_sizes, IsWholeRoot}
use Rattle.tsc_page_tree.specs.declared.root.Root.{Root}
use Rattle.tsc_page_tree.specs.declared.root.Root.TheVariants.{One, Two, Three, Four}
use Rattle.tsc_page_tree.proofs.TreeLists.{copied_one, copied_two, copied_three, copied_four}
use Rattle.tsc_page_tree.proofs.root.Root.try_copy.Goals as goal

pub returns-in_ok-clone-in-One : goal.returns-in_ok-clone-in-One
returns-in_ok-clone-in-One c = subst (λ (r : Root). IsSameAs root_nodes root_sizes IsWholeRoot r
    (One c.in_ok-clone-in-One.field-0)) (sym c.in-One.is)
    (copied_one c.in-One.subtrees c.in_ok-clone-in-One.field-0 c.in_ok-clone-in-One.ensures.cases.0)

pub returns-in_ok-clone-in-Two : goal.returns-in_ok-clone-in-Two
returns-in_ok-clone-in-Two c = subst (λ (r : Root). IsSameAs root_nodes root_sizes IsWholeRoot r
    (Two c.in_ok-clone-in-Two.field-0)) (sym c.in-Two.is)
    (copied_two c.in-Two.subtrees c.in_ok-clone-in-Two.field-0 c.in_ok-clone-in-Two.ensures.cases.0)

pub returns-in_ok-clone-in-Three : goal.returns-in_ok-clone-in-Three
returns-in_ok-clone-in-Three c = subst (λ (r : Root). IsSameAs root_nodes root_sizes IsWholeRoot r
    (Three c.in_ok-clone-in-Three.field-0)) (sym c.in-Three.is)
    (copied_three c.in-Three.subtrees c.in_ok-clone-in-Three.field-0
    c.in_ok-clone-in-Three.ensures.cases.0)

pub returns-in_ok-clone-in-Four : goal.returns-in_ok-clone-in-Four
returns-in_ok-clone-in-Four c = subst (λ (r : Root). IsSameAs root_nodes root_sizes IsWholeRoot r
    (Four c.in_ok-clone-in-Four.field-0)) (sym c.in-Four.is)
    (copied_four c.in-Four.subtrees c.in_ok-clone-in-Four.field-0
    c.in_ok-clone-in-Four.ensures.cases.0)
