-- The list has as many subtrees as before.
use Rattle.std.proofs.Common.{◌∙◌, ap, subst, length}
use Rattle.tsc_page_tree.specs.Roots.{IsWholeTwo, IsWholeThree, IsWholeRoot}
use Rattle.tsc_page_tree.proofs.TreeLists.{few_on_ok}
use Rattle.tsc_page_tree.proofs.root.Root.raise_between.Goals as goal

pub returns-in-Two-clause-whole : goal.returns-in-Two-clause-whole
returns-in-Two-clause-whole c =
    few_on_ok IsWholeTwo c.in-Two.subtrees c.raise_between-in-Two.new.subtrees
    c.raise_between-in-Two.result
    (c.raise_between-in-Two.ensures.len ∙ ap length c.deref_mut-in-Two.ensures.value)
    c.raise_between-in-Two.ensures.whole (subst IsWholeRoot c.in-Two.is c.requires.root.whole)

pub returns-in-Three-clause-whole : goal.returns-in-Three-clause-whole
returns-in-Three-clause-whole c =
    few_on_ok IsWholeThree c.in-Three.subtrees c.raise_between-in-Three.new.subtrees
    c.raise_between-in-Three.result
    (c.raise_between-in-Three.ensures.len ∙ ap length c.deref_mut-in-Three.ensures.value)
    c.raise_between-in-Three.ensures.whole (subst IsWholeRoot c.in-Three.is c.requires.root.whole)
