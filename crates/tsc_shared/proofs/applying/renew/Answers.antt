-- Proves the contract of `renew`. The cache after an Add, beside the active copy.
use Rattle.std.proofs.Common.{sym, subst, None}
use Rattle.tsc_cache.specs.State.{step_all}
use Rattle.tsc_cache.specs.History.{state_of}
use Rattle.tsc_cache.specs.CacheView.{RepresentsState}
use Rattle.tsc_left_right.specs.Copies.{LagsBy}
use Rattle.tsc_shared.proofs.applying.renew.Goals as goal
use Rattle.tsc_shared.specs.Caches.{marks_in, caches}

pub returns-clause-stands : goal.returns-clause-stands
returns-clause-stands c = λ t h lags.
    subst (λ cache. RepresentsState cache t (step_all t (state_of t h)
    (marks_in c.args.add.now.marks) c.args.add.now.moment).state) (sym c.in_ok-new.ensures.ok)
    (c.in_ok-next.ensures.stands t (state_of t h)
    (subst (λ cache. LagsBy caches t h None cache) (sym c.deref.ensures) lags))

pub returns-clause-added : goal.returns-clause-added
returns-clause-added c = λ t h lags.
    c.in_ok-next.ensures.added t (state_of t h)
    (subst (λ cache. LagsBy caches t h None cache) (sym c.deref.ensures) lags)
