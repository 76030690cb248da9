-- What a seat is told of its Add, by what became of it.
use Rattle.std.proofs.Common.{refl, ◌≡◌, ◌∙◌, sym, ap, subst, true, false, true≢false, ℕ, length, arith}
use Rattle.std.specs.Prelude.{Bool, Option, Err, Result, List}
use Rattle.atomic_table.specs.Seated.{TableId}
use Rattle.tsc_time.specs.Time.{Time}
use Rattle.tsc_page_model.specs.Page.{Mark}
use Rattle.tsc_shared.specs.declared.adds.UnappliedAdd.{UnappliedAdd}
use Rattle.tsc_shared.specs.Copying.{IsCopyOf}
use Rattle.tsc_left_right.specs.Steps.{seen_of}
use Rattle.tsc_left_right.specs.Participating.{IsSized, IsOf}
use Rattle.tsc_left_right.specs.Round.{IsApplied, IsNotApplied}
use Rattle.tsc_left_right.specs.declared.preparing.NotApplied.{NotApplied}
use Rattle.tsc_left_right.specs.declared.preparing.NotApplied.TheVariants.{HistoryFull, SeatInside}
use Rattle.tsc_left_right.specs.declared.preparing.NotApplied.TheVariants as why_not
use Rattle.tsc_shared.specs.declared.answers.AddFault.TheVariants.{TooLarge}
use Rattle.tsc_shared.specs.declared.answers.Receipt.{Receipt}
use Rattle.tsc_shared.specs.declared.answers.TryAddFault.{TryAddFault}
use Rattle.tsc_shared.specs.declared.answers.TryAddFault.TheVariants.{Refused}
use Rattle.tsc_shared.specs.Adding.{GivesUp, fault_for}
use Rattle.tsc_shared.specs.Answers.{Accepts, TryRefusedFor}
use Rattle.tsc_shared.specs.Seats.{SharedView, SeatView, FrontView, IsSeat}
use Rattle.tsc_shared.specs.Keeping.{cache_of, seat_view}
use Rattle.tsc_shared.proofs.SeatSteps.{rests_unadded, accepted}
use Rattle.tsc_shared.specs.Caches.{At, Knowledge, Participant, answer_of, caches, marks_in}

-- a seat takes part in the table of its cache
pub of_table : (p : Participant) (table : TableId) → p.table_id ≡ table →
    IsSized p.table_id p.me.0.setup.seats → IsOf p table
of_table p table is sized = record {
  table = is;
  sized = subst (λ (x : TableId). IsSized x p.me.0.setup.seats) is sized;
}

-- Where a copy of the marks was added, they were accepted.
pub accepts_made : (old new : Participant) (ms : List Mark) (now : Time) (add : UnappliedAdd)
    (receipt : Receipt) (s s' : SeatView) → seat_view old ≡ s → s' ≡ seat_view new
    → IsSeat (seat_view old) → new.table_id ≡ old.table_id → IsCopyOf ms now add
    → IsApplied caches answer_of old.me.0 new.me add receipt.place receipt.added
    → receipt.front ≡ record { cache = cache_of new; seen = seen_of new.me.0 }
    → Accepts s s' ms now receipt
accepts_made old new ms now add receipt s s' is is' seat table copy a front =
    subst (λ (x : List Mark). Accepts s s' x now receipt) copy.0
    (subst (λ (x : Time). Accepts s s' (marks_in add.marks) x receipt) copy.1
    (subst (λ (x : SeatView). Accepts x s' (marks_in add.marks) add.moment receipt) is
    (subst (λ (x : SeatView). Accepts (seat_view old) x (marks_in add.marks) add.moment receipt)
    (sym is') (accepted old new add receipt seat table a front))))

-- Why none was made is why it is refused.
refused_for : (old new : Participant) (tries : Option ℕ) (seen : ℕ) (why : NotApplied) →
    new.table_id ≡ old.table_id → IsSeat (seat_view old) →
    (n : IsNotApplied caches tries old.me.0 new.me seen why)
    → TryRefusedFor (seat_view old) (seat_view new)
    (fault_for why (record { cache = cache_of old; seen = seen_of new.me.0 }))
refused_for old new tries seen HistoryFull table seat n =
    let r = rests_unadded old new tries seen HistoryFull seat table n in
    record { front = refl; limit = omega (arith, ap length r.seen, n.limit, n.why_is) }
refused_for old new tries seen why_not.NoMemory table seat n =
    let r = rests_unadded old new tries seen why_not.NoMemory seat table n in omega
    (arith, ap length r.seen, n.why_is)
refused_for old new tries seen SeatInside table seat n =
    let r = rests_unadded old new tries seen SeatInside seat table n in omega
    (arith, ap length r.seen, n.why_is.0)

pub why_refused : (old new : Participant) (tries : Option ℕ) (seen : ℕ) (why : NotApplied)
    (fault : TryAddFault) (s s' : SeatView) → seat_view old ≡ s → s' ≡ seat_view new →
    new.table_id ≡ old.table_id → IsSeat (seat_view old)
    → IsNotApplied caches tries old.me.0 new.me seen why →
    fault ≡ fault_for why (record { cache = cache_of new; seen = seen_of new.me.0 }) →
    TryRefusedFor s s' fault
why_refused old new tries seen why fault s s' is is' table seat n reported =
    let r = rests_unadded old new tries seen why seat table n in
    let same : fault ≡ fault_for why (record { cache = cache_of old; seen = seen_of new.me.0 })
    = reported ∙ ap (λ (x : SharedView). fault_for why
    (record { cache = x; seen = seen_of new.me.0 })) r.cache in
    subst (λ (x : SeatView). TryRefusedFor x s' fault) is
    (subst (λ (x : SeatView). TryRefusedFor (seat_view old) x fault) (sym is')
    (subst (λ (x : TryAddFault). TryRefusedFor (seat_view old) (seat_view new) x) (sym same)
    (refused_for old new tries seen why table seat n)))

-- It is given up only where the tries have an end.
gives_up_for : (tries : Option ℕ) (v : Knowledge) (me : At) (seen : ℕ) (why : NotApplied)
    (front : FrontView) → IsNotApplied caches tries v me seen why
    → GivesUp tries (fault_for why front)
gives_up_for tries v me seen HistoryFull front n = tt
gives_up_for tries v me seen why_not.NoMemory front n = tt
gives_up_for tries v me seen SeatInside front n = n.why_is.1

pub gives_up : (v : Knowledge) (me : At) (tries : Option ℕ) (seen : ℕ) (why : NotApplied)
    (front : FrontView) (fault : TryAddFault) → IsNotApplied caches tries v me seen why →
    fault ≡ fault_for why front → GivesUp tries fault
gives_up v me tries seen why front fault n reported =
    subst (GivesUp tries) (sym reported) (gives_up_for tries v me seen why front n)

-- whether an Add was refused for its size
abbrev pub is_too_large : Result Receipt TryAddFault → Bool
is_too_large (Err (Refused TooLarge)) = true
is_too_large other = false

pub not_too_large : (x : Result Receipt TryAddFault) → is_too_large x ≡ false →
    x ≡ Err (Refused TooLarge) → ⊥
not_too_large x other is = true≢false (sym (ap is_too_large is) ∙ other)

fits_for : (why : NotApplied) (front : FrontView) → is_too_large (Err (fault_for why front)) ≡ false
fits_for HistoryFull front = refl
fits_for why_not.NoMemory front = refl
fits_for SeatInside front = refl

pub fault_fits : (why : NotApplied) (front : FrontView) (fault : TryAddFault) →
    fault ≡ fault_for why front → ◌≡◌ {A = Result Receipt TryAddFault} (Err fault)
    (Err (Refused TooLarge)) → ⊥
fault_fits why front fault reported = not_too_large (Err fault)
    (ap (λ (x : TryAddFault). is_too_large (Err x)) reported ∙ fits_for why front)
