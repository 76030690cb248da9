-- One seat more was dealt.
use Rattle.std.proofs.Common.{◌≡◌, ◌∙◌, ◌++◌, ◌∷◌, ◌+◌, ◌-◌, [], ap, subst, ℕ, suc, List, arith, rules}
use Rattle.tsc_striped.specs.Seats.{StripedView, SeatView, DealerView, new_seat}
use Rattle.tsc_ffi_store.specs.declared.seats.kinds.AnyCache.TheVariants as kind
use Rattle.tsc_ffi_store.specs.declared.seats.kinds.AnySeat.TheVariants.{Striped}
use Rattle.tsc_ffi_store.specs.declared.seats.kinds.AnySeat.{AnySeat}
use Rattle.tsc_ffi_store.specs.Kinds.{new_any_seats}
use Rattle.tsc_ffi_store.proofs.SeatsDealt.{one_dealt}
use Rattle.tsc_ffi_store.proofs.seats.opening.deal_all.Goals as goal

pub loop-preserved : goal.loop-preserved
loop-preserved c =
    let dealt = c.in-Some.ensures.dealt in
    let i = c.loop.counter in
    let n = c.args.seats in
    let low = c.loop-test.true in
    let at : c.deal.new.dealer.dealt ≡ i + 1 = omega (
      arith,
      ap (λ (d : DealerView). d.dealt) dealt.dealer,
      c.loop.invariant.1,
    ) in
    let pushed : c.push.new.self.items ≡ c.loop.all.items ++ Striped c.in-Some.seat ∷ [] =
    search rules in
    let all = one_dealt (kind.Striped c.args.cache.now) i (n - i) (n - (i + 1)) c.loop.all.items
    c.push.new.self.items (new_any_seats (kind.Striped c.args.cache.now) 0 n)
    (Striped c.in-Some.seat) (omega (arith, low)) c.loop.invariant.3
    (ap (λ (s : SeatView). Striped s) (dealt.seat_is
    ∙ ap (λ (k : StripedView). new_seat k c.loop.dealer.dealt) c.loop.invariant.0
    ∙ ap (λ (m : ℕ). new_seat c.args.cache.now m) c.loop.invariant.1)) pushed in
    let up : suc i ≡ i + 1 = omega arith in (
      ap (λ (d : DealerView). d.cache) dealt.dealer ∙ c.loop.invariant.0,
      at,
      omega (arith, low),
      subst (λ (m : ℕ). c.push.new.self.items ++ new_any_seats (kind.Striped c.args.cache.now) m
          (n - (i + 1)) ≡ new_any_seats (kind.Striped c.args.cache.now) 0 n) up all,
    )
