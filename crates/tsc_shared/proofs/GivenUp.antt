-- An Add that waits answers as one that may be given up, which it never was.
use Rattle.std.proofs.Common.{◌≡◌, ◌∙◌, sym, ap, subst, rules, ℕ, List, Bool, false}
use Rattle.std.specs.Prelude.{Ok, Err, Result, IfOk, IfErr, OnErr, IsErrOf, ◌↔◌, Option, Some, None}
use Rattle.tsc_time.specs.Time.{Time}
use Rattle.tsc_page_model.specs.Page.{Mark}
use Rattle.tsc_shared.specs.declared.answers.Receipt.{Receipt}
use Rattle.tsc_shared.specs.declared.answers.AddFault.{AddFault}
use Rattle.tsc_shared.specs.declared.answers.AddFault.TheVariants.{TooLarge}
use Rattle.tsc_shared.specs.declared.answers.TryAddFault.{TryAddFault}
use Rattle.tsc_shared.specs.declared.answers.TryAddFault.TheVariants.{DeskBusy, SeatInside, Refused}
use Rattle.tsc_shared.specs.Seats.{SeatView}
use Rattle.tsc_shared.specs.Answers.{Accepts, Refuses, RefusedFor, TryRefusedFor, AnswersAdd, AnswersTriedAdd, IsNoTry}
use Rattle.tsc_shared.specs.Adding.{IsWaited}

abbrev Tried : Type 0
Tried = Result Receipt TryAddFault

abbrev Waited : Type 0
Waited = Result Receipt AddFault

pub waited_ok : (P : Receipt → Type 0) (tried : Tried) (result : Waited) → IsWaited tried result →
    IfOk tried P → IfOk result P
waited_ok P (Ok receipt) result is p = subst (λ (x : Waited). IfOk x P) (sym is) p
waited_ok P (Err DeskBusy) result is p = absurd is
waited_ok P (Err SeatInside) result is p = absurd is
waited_ok P (Err (Refused fault)) result is p = subst (λ (x : Waited). IfOk x P) (sym is) tt

waited_refused : (P : Type 0) (tried : Tried) (result : Waited) → IsWaited tried result →
    OnErr tried P → OnErr result P
waited_refused P (Ok receipt) result is p = subst (λ (x : Waited). OnErr x P) (sym is) tt
waited_refused P (Err DeskBusy) result is p = absurd is
waited_refused P (Err SeatInside) result is p = absurd is
waited_refused P (Err (Refused fault)) result is p = subst (λ (x : Waited). OnErr x P) (sym is) p

waited_why : (old new : SeatView) (tried : Tried) (result : Waited) → IsWaited tried result →
    IfErr tried (λ fault. TryRefusedFor old new fault) →
    IfErr result (λ fault. RefusedFor old new fault)
waited_why old new (Ok receipt) result is p =
    subst (λ (x : Waited). IfErr x (λ fault. RefusedFor old new fault)) (sym is) tt
waited_why old new (Err DeskBusy) result is p = absurd is
waited_why old new (Err SeatInside) result is p = absurd is
waited_why old new (Err (Refused fault)) result is p =
    subst (λ (x : Waited). IfErr x (λ fault. RefusedFor old new fault)) (sym is) p

-- what comes exactly where something holds still does
waited_exactly : (P : Type 0) (fault : AddFault) (tried : Tried) (result : Waited) →
    IsWaited tried result → (IsErrOf tried (Refused fault) ↔ P) → (IsErrOf result fault ↔ P)
waited_exactly P fault (Ok receipt) result is p = (
  λ e. absurd (no_fault receipt fault (sym is ∙ e)),
  λ x. absurd (no_try_fault receipt (Refused fault) (p.1 x)),
)
  where
    no_fault : (r : Receipt) (f : AddFault) → Ok r ≡ Err f → ⊥
    no_fault r f e = search rules

    no_try_fault : (r : Receipt) (f : TryAddFault) → Ok r ≡ Err f → ⊥
    no_try_fault r f e = search rules
waited_exactly P fault (Err DeskBusy) result is p = absurd is
waited_exactly P fault (Err SeatInside) result is p = absurd is
waited_exactly P fault (Err (Refused other)) result is p = (
  λ e. p.0 (ap (λ (f : AddFault). Err (Refused f)) (ap (fault_of fault) (sym is ∙ e))),
  λ x. is ∙
      ap (λ (f : AddFault). Err f) (ap (tried_fault_of fault) (p.1 x)),
)
  where
    fault_of : AddFault → Waited → AddFault
    fault_of f (Ok r) = f
    fault_of f (Err g) = g

    tried_fault_of : AddFault → Tried → AddFault
    tried_fault_of f (Ok r) = f
    tried_fault_of f (Err DeskBusy) = f
    tried_fault_of f (Err SeatInside) = f
    tried_fault_of f (Err (Refused g)) = g

-- all of that together
pub waited_answers : (old new : SeatView) (ms : List Mark) (now : Time) (fit : Bool)
    (tries : Option ℕ) (tried : Tried) (result : Waited) → IsWaited tried result
    → AnswersTriedAdd old new ms now fit tries tried → AnswersAdd old new ms now fit result
waited_answers old new ms now fit tries tried result is a = record {
  accepted = waited_ok (Accepts old new ms now) tried result is a.accepted;
  seat = a.seat;
  refused = waited_refused (Refuses old new) tried result is a.refused;
  why = waited_why old new tried result is a.why;
  too_large = waited_exactly (fit ≡ false) TooLarge tried result is a.too_large;
}

-- who has no try has none of so many
pub none_of_them : (tries : Option ℕ) → IsNoTry tries → tries ≡ Some 0
none_of_them None none = absurd none
none_of_them (Some tries) none = ap (λ (n : ℕ). Some n) none
