-- What became of each of a list.
use Rattle.std.proofs.Common.{◌≡◌, ◌∙◌, ap, sym, refl, subst, ℕ, suc, ◌<◌, List, [], ◌∷◌, Bor, length, slice_index_or, arith}
use Rattle.std.specs.Prelude.{Result, Ok, Err, IfOk, Option, IsSomeAnd}
use Rattle.std.specs.List.{AllZip}
use Rattle.timestamp_cache.specs.Words.{Time, History, BeginsWith}
use Rattle.timestamp_cache.proofs.Rows.{zip_as}
use Rattle.example_lease_holder.specs.declared.Plan.{Plan}
use Rattle.example_lease_holder.specs.declared.Served.{Served}
use Rattle.example_lease_holder.specs.declared.Turn.{Turn}
use Rattle.example_lease_holder.specs.declared.Worker.{Worker}
use Rattle.example_lease_holder.specs.declared.lease.Range.{Ghosts}
use Rattle.example_lease_holder.specs.declared.lease.RangeSeat.{RangeSeat}
use Rattle.example_lease_holder.specs.declared.Turn.TheVariants.{Read, Write}
use Rattle.example_lease_holder.specs.Plans.{HasReadsOf, MayWriteAt}
use Rattle.example_lease_holder.specs.ReadSeats.{seen_by}
use Rattle.example_lease_holder.specs.Reads.{since}
use Rattle.example_lease_holder.specs.Turns.{IsNew, HasTaken, HasSpoken, HasReported, HasServed, IsLeftOf, WasServed}
use Rattle.example_lease_holder.proofs.Since.{since_there}

-- what follows from two facts on what a call gives
pub if_both : {A E : Type 0} (P Q R : A → Type 0) (r : Result A E) → IfOk r P → IfOk r Q →
    ((a : A) → P a → Q a → R a) → IfOk r R
if_both P Q R (Ok a) p q fits = fits a p q
if_both P Q R (Err e) p q fits = tt

-- what holds at each place holds of the two lists
pub at_each_place : {A B : Type 0} (P : A → B → Type 0) (xs : List A) (ys : List B) →
    length ys ≡ length xs
    → ((i : ℕ) (d : A) (e : B) → i < length xs → P (slice_index_or xs i d) (slice_index_or ys i e))
    → AllZip P xs ys
at_each_place P [] [] long each = tt
at_each_place P [] (y ∷ ys) long each = absurd (omega (arith, long))
at_each_place P (x ∷ xs) [] long each = absurd (omega (arith, long))
at_each_place P (x ∷ xs) (y ∷ ys) long each = (
  each 0 x y (omega arith),
  at_each_place P xs ys (omega (arith, long))
      (λ i d e below. each (suc i) d e (omega (arith, below))),
)

-- what holds of two by one between them
pub record By {A B C : Type 0} (R : A → B → Type 0) (S : B → C → Type 0) (x : A) (z : C) : Type
    0 where
  pub middle : B
  pub first : R x middle
  pub second : S middle z

pub zip_on : {A B C : Type 0} (R : A → B → Type 0) (S : B → C → Type 0) (xs : List A) (ys : List B)
    (zs : List C) → AllZip R xs ys → AllZip S ys zs → AllZip (By R S) xs zs
zip_on R S [] [] [] r s = tt
zip_on R S [] [] (z ∷ zs) r s = absurd s
zip_on R S [] (y ∷ ys) zs r s = absurd r
zip_on R S (x ∷ xs) [] zs r s = absurd r
zip_on R S (x ∷ xs) (y ∷ ys) [] r s = absurd s
zip_on R S (x ∷ xs) (y ∷ ys) (z ∷ zs) r s =
    (record { middle = y; first = r.0; second = s.0 }, zip_on R S xs ys zs r.1 s.1)

-- a worker that has taken a turn still has where what it is to tell is another
pub still_taken : {X : Type 0} {G : Ghosts X} (turn : Turn) (old next new : Worker X G) →
    new.me ≡ next.me → new.plan ≡ next.plan → new.wrote ≡ next.wrote → HasTaken turn old next →
    HasTaken turn old new
still_taken {X} {G} turn old next new me plan wrote taken =
    let seen : (seen_by new.me.seat) ≡ (seen_by next.me.seat) = ap (λ (m : RangeSeat X G). seen_by m.seat) me in
    record {
      plan = plan ∙ taken.plan;
      begins = subst (λ (h : History). BeginsWith h (seen_by old.me.seat)) (sym seen) taken.begins;
      reads = λ is. record {
        reads = subst (λ (h : History). HasReadsOf new.plan.now (since (seen_by old.me.seat) h))
            (sym seen)
            (subst (λ (p : Bor Plan). HasReadsOf p.now (since (seen_by old.me.seat) (seen_by next.me.seat)))
            (sym plan) (taken.reads is).reads);
        wrote = wrote ∙ (taken.reads is).wrote;
      };
      writes = λ is. subst (λ (w : Option Time). IsSomeAnd w
          (λ at. MayWriteAt new.plan.now (seen_by new.me.seat) at)) (sym wrote)
          (subst (λ (h : History). IsSomeAnd next.wrote (λ at. MayWriteAt new.plan.now h at))
          (sym seen)
          (subst (λ (p : Bor Plan). IsSomeAnd next.wrote
          (λ at. MayWriteAt p.now (seen_by next.me.seat) at)) (sym plan) (taken.writes is)));
    }

-- and so of all that have told what they had to tell
pub have_reported : {X E : Type 0} {G : Ghosts X} (turn : Turn) (workers after : List (Worker X G))
    (ended : List (Result (Worker X G) E))
    → AllZip (λ worker end. IfOk end (HasTaken turn worker)) workers ended →
    AllZip HasSpoken ended after → AllZip (HasReported turn) workers after
have_reported {X} {E} {G} turn workers after ended taken spoken =
    let T = λ (worker : Worker X G) (end : Result (Worker X G) E). IfOk end
    (HasTaken turn worker) in
    let S = HasSpoken {X = X} {E = E} {G = G} in
    zip_as (By T S) (HasReported turn) workers after (λ old new w.
    let next = w.second.worker in
    let own : HasTaken turn old next =
    subst (λ (end : Result (Worker X G) E). IfOk end (HasTaken turn old)) w.second.through
    w.first in
    record {
      taken = still_taken turn old next new w.second.me w.second.plan w.second.wrote own;
      reported = w.second.reported;
    })
    (zip_on T S workers ended after taken spoken)

-- what a worker's plan says of what its seat has seen since it was that of another one, each read
-- of it is there
pub reads_there : {X : Type 0} {G : Ghosts X} (old new : Worker X G) → HasTaken Read old new →
    HasReadsOf new.plan.now (seen_by new.me.seat)
reads_there old new taken k d below =
    since_there _ (seen_by new.me.seat) (seen_by old.me.seat) _ taken.begins
    ((taken.reads refl).reads k d below)

-- A worker of a plan that has read, written and read again served it.
pub served : {X : Type 0} {G : Ghosts X} (plan : Plan) (start again : Worker X G) (left : Served) →
    IsNew plan start → HasServed start again → IsLeftOf again left → WasServed plan left
served {X} {G} plan start again left new turns leaves =
    let first = turns.first in
    let then = turns.then in
    let reads = turns.reads.taken in
    let writes = turns.writes.taken in
    let rereads = turns.again.taken in
    let of_first : first.plan.now ≡ plan = ap (λ (p : Bor Plan). p.now) reads.plan ∙ new.own in
    let of_then : then.plan.now ≡ plan = ap (λ (p : Bor Plan). p.now) writes.plan ∙ of_first in
    let of_again : again.plan.now ≡ plan = ap (λ (p : Bor Plan). p.now) rereads.plan ∙ of_then in
    let wrote : left.wrote ≡ then.wrote = leaves.wrote ∙ (rereads.reads refl).wrote in
    let seen : (seen_by left.seat) ≡ (seen_by again.me.seat) = ap seen_by leaves.seat in
    record {
      own = ap (λ (p : Bor Plan). p.now) leaves.plan ∙ of_again;
      first = (seen_by first.me.seat);
      then = (seen_by then.me.seat);
      reads = subst (λ (p : Plan). HasReadsOf p (seen_by first.me.seat)) of_first
          (reads_there start first reads);
      onward = writes.begins;
      writes = subst (λ (w : Option Time). IsSomeAnd w (λ at. MayWriteAt plan (seen_by then.me.seat) at))
          (sym wrote)
          (subst (λ (p : Plan). IsSomeAnd then.wrote (λ at. MayWriteAt p (seen_by then.me.seat) at))
          of_then (writes.writes refl));
      begins = subst (λ (h : History). BeginsWith h (seen_by then.me.seat)) (sym seen) rereads.begins;
      again = subst (λ (h : History). HasReadsOf plan (since (seen_by then.me.seat) h)) (sym seen)
          (subst (λ (p : Plan). HasReadsOf p (since (seen_by then.me.seat) (seen_by again.me.seat))) of_again
          (rereads.reads refl).reads);
    }

-- what three turns make of all workers
pub turns_taken : {X : Type 0} {G : Ghosts X} (start first then again : List (Worker X G)) →
    AllZip (HasReported Read) start first → AllZip (HasReported Write) first then →
    AllZip (HasReported Read) then again
    → AllZip HasServed start again
turns_taken {X} {G} start first then again reads writes rereads =
    let R = HasReported {X = X} {G = G} Read in
    let W = HasReported {X = X} {G = G} Write in
    zip_as (By (By R W) R) HasServed start again
    (λ a b w. record {
      first = w.first.middle;
      then = w.middle;
      reads = w.first.first;
      writes = w.first.second;
      again = w.second;
    })
    (zip_on (By R W) R start then again (zip_on R W start first then reads writes) rereads)

-- and so each plan was served
pub all_served : {X : Type 0} {G : Ghosts X} (plans : List Plan) (start again : List (Worker X G))
    (left : List Served) → AllZip IsNew plans start → AllZip HasServed start again
    → AllZip IsLeftOf again left → AllZip WasServed plans left
all_served {X} {G} plans start again left new turns leaves =
    let N = IsNew {X = X} {G = G} in
    let S = HasServed {X = X} {G = G} in
    let L = IsLeftOf {X = X} {G = G} in
    zip_as (By (By N S) L) WasServed plans left
    (λ plan l w. served plan w.first.middle w.middle l w.first.first w.first.second w.second)
    (zip_on (By N S) L plans again left (zip_on N S plans start again new turns) leaves)
