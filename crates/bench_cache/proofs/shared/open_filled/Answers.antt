-- Proves the contract of `open_filled`. A shared cache with a full page, and the seats that are to
-- make calls.
use Rattle.std.proofs.Common.{◌≡◌, ◌∙◌}
use Rattle.bench_cache.proofs.shared.open_filled.Goals as goal
use Rattle.bench_cache.proofs.Seats.{kept_all, all_but_last, the_last, all_and_last}

pub fill-requires : goal.fill-requires
fill-requires g c =
    let all = kept_all c.in-Ok.shared c.in-Ok.seats.items c.truncate.new.self.items _ _
    c.in-Ok.ensures.opened.in_order c.truncate.ensures.items in
    the_last (λ seat. seat.cache ≡ c.in-Ok.shared) c.pop.new.self.items c.truncate.new.self.items
    c.in-Some.filler c.in-Some.ensures.items all

pub returns : goal.returns
returns g c =
    let all = kept_all c.in-Ok.shared c.in-Ok.seats.items c.truncate.new.self.items _ _
    c.in-Ok.ensures.opened.in_order c.truncate.ensures.items in
    let others = all_but_last (λ seat. seat.cache ≡ c.in-Ok.shared) c.pop.new.self.items
    c.truncate.new.self.items c.in-Some.filler c.in-Some.ensures.items all in
    let filler = the_last (λ seat. seat.cache ≡ c.in-Ok.shared) c.pop.new.self.items
    c.truncate.new.self.items c.in-Some.filler c.in-Some.ensures.items all in
    all_and_last (λ seat. seat.cache ≡ c.in-Ok.shared) c.pop.new.self.items c.push.new.self.items
    c.fill.new.seat c.in-Ok-push.ensures.items others (c.fill.ensures ∙ filler)
