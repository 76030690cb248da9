-- The pages tell, and those that they stand for have the same figures.
use Rattle.std.proofs.Common.{◌∙◌, ap}
use Rattle.tsc_cache.specs.Counts.{figures_seen}
use Rattle.tsc_cache.proofs.CountsReported.{same_figures}
use Rattle.tsc_cache.proofs.cache.Cache.figures.Goals as goal

value : goal.returns-clause-value
value c = c.figures.ensures ∙ ap figures_seen c.self.view_is

pub returns-clause-value : goal.returns-clause-value
returns-clause-value = value

pub returns-clause-stands : goal.returns-clause-stands
returns-clause-stands c config s stands = value c ∙ same_figures c.args.self.now config s stands
