-- The value joins the lazy value.
use Rattle.std.proofs.Common.{rules}
use Rattle.tsc_page_tree.proofs.aggregate.Aggregate.raise.Goals as goal

pub returns-in-Some-clause-lazy : goal.returns-in-Some-clause-lazy
returns-in-Some-clause-lazy c = search rules

pub returns-in-None-clause-lazy : goal.returns-in-None-clause-lazy
returns-in-None-clause-lazy c = search rules

pub returns-in-Some-clause-joint : goal.returns-in-Some-clause-joint
returns-in-Some-clause-joint c = search rules

pub returns-in-None-clause-joint : goal.returns-in-None-clause-joint
returns-in-None-clause-joint c = search rules
