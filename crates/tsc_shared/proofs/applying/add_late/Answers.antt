-- Proves the contract of `add_late`. Adds the Add that the cache has not had yet, if there is one.
use Rattle.std.proofs.Common.{sym, subst}
use Rattle.std.specs.Prelude.{Option, None}
use Rattle.tsc_shared.specs.declared.adds.UnappliedAdd.{UnappliedAdd}
use Rattle.tsc_shared.specs.Applying.{StillLags}
use Rattle.tsc_shared.proofs.AddingUp.{none_left}
use Rattle.tsc_shared.proofs.applying.add_late.Goals as goal

pub returns-in_ok-add_fitting-in-Some-clause-up : goal.returns-in_ok-add_fitting-in-Some-clause-up
returns-in_ok-add_fitting-in-Some-clause-up c =
    subst (λ (late : Option UnappliedAdd). StillLags late None c.args.cache.now
    c.add_fitting.new.cache) (sym c.in-Some.is)
    (none_left c.in-Some.add c.args.cache.now c.add_fitting.new.cache
    c.in_ok-add_fitting-in-Some.ensures.stands)
