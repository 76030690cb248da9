-- Proves the contract of `SharedCache::retire`. Who keeps the states of all seats sees the end.
use Rattle.std.proofs.Common.{◌∙◌, sym, ap, List, arith, rules}
use Rattle.std.specs.List.{sum_by}
use Rattle.tsc_cache.specs.Counts.{up_to_end}
use Rattle.tsc_shared.specs.Seats.{SharedView, SeatView}
use Rattle.tsc_shared.proofs.SeeingEnds.{keeps_all, retires}
use Rattle.tsc_shared.proofs.shared.SharedCache.retire.Goals as goal

pub gather_all-requires-clause-seats : goal.gather_all-requires-clause-seats
gather_all-requires-clause-seats c =
    (c.args.self.now, sym (ap (λ (n : SharedView). n.table) c.self.view_is), c.requires.seats)

pub see_end-requires-clause-all : goal.see_end-requires-clause-all
see_end-requires-clause-all c =
    keeps_all c.in-Some.all c.args.self.now c.args.seats.items c.in-Some.ensures.all.2
    (c.in-Some.ensures.own c.args.self.now c.requires.seats) (search rules)

pub returns-clause-retired : goal.returns-clause-retired
returns-clause-retired c =
    retires c.in-Some.all c.args.self.now c.args.seats.items c.count_adds-adds.result
    c.self.inside.setup.limit c.in-Some.ensures.all.2
    (c.in-Some.ensures.own c.args.self.now c.requires.seats)
    (c.count_adds-adds.ensures
    ∙ ap (λ (xs : List SeatView). up_to_end (sum_by (λ (s : SeatView). s.count) xs))
    c.deref.ensures.value)
    (ap (λ (n : SharedView). n.limit) (sym c.self.view_is)) (omega arith) c.see_end.ensures
