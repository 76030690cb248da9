-- What turns make of workers.
use Rattle.std.specs.Prelude.{◌≡◌, [], Result, Ok, IsSomeAnd, None}
use Rattle.timestamp_cache.specs.Words.{History, BeginsWith}
use Rattle.example_lease_holder.specs.declared.Plan.{Plan}
use Rattle.example_lease_holder.specs.declared.Served.{Served}
use Rattle.example_lease_holder.specs.declared.Turn.{Turn}
use Rattle.example_lease_holder.specs.declared.Turn.TheVariants.{Read, Write}
use Rattle.example_lease_holder.specs.declared.Worker.{Worker}
use Rattle.example_lease_holder.specs.declared.lease.Range.{Ghosts}
use Rattle.example_lease_holder.specs.Plans.{HasReadsOf, MayWriteAt}
use Rattle.example_lease_holder.specs.ReadSeats.{seen_by}
use Rattle.example_lease_holder.specs.Reads.{since}

-- A worker is new: it is of a plan, has written nothing yet, and has nothing to tell.
pub record IsNew {X : Type 0} {G : Ghosts X} (plan : Plan) (worker : Worker X G) : Type 0 where
  pub own : worker.plan.now ≡ plan
  pub wrote : worker.wrote ≡ None
  pub reported : worker.reported.items ≡ []

-- A worker has read: its seat has seen each read of its plan since, and when it wrote is as it was.
pub record ReadsAgain {X : Type 0} {G : Ghosts X} (old new : Worker X G) : Type 0 where
  pub reads : HasReadsOf new.plan.now (since (seen_by old.me.seat) (seen_by new.me.seat))
  pub wrote : new.wrote ≡ old.wrote

-- A worker has taken a turn: its plan is as before, and its seat has seen all that it had seen. The
-- worker has read, or has written at a time at which it may by what its seat has seen then.
pub record HasTaken {X : Type 0} {G : Ghosts X} (turn : Turn) (old new : Worker X G) : Type 0 where
  pub plan : new.plan ≡ old.plan
  pub begins : BeginsWith (seen_by new.me.seat) (seen_by old.me.seat)
  pub reads : turn ≡ Read → ReadsAgain old new
  pub writes : turn ≡ Write → IsSomeAnd new.wrote
      (λ at. MayWriteAt new.plan.now (seen_by new.me.seat) at)

-- A worker that came through its turn has told what it had to tell, and is else as it was.
pub record HasSpoken {X E : Type 0} {G : Ghosts X} (ended : Result (Worker X G) E)
    (after : Worker X G) : Type 0 where
  pub worker : Worker X G
  pub through : ended ≡ Ok worker
  pub me : after.me ≡ worker.me
  pub plan : after.plan ≡ worker.plan
  pub wrote : after.wrote ≡ worker.wrote
  pub reported : after.reported.items ≡ []

-- A worker has taken a turn, and has told what it had to tell.
pub record HasReported {X : Type 0} {G : Ghosts X} (turn : Turn) (old new : Worker X G) : Type 0
  where
    pub taken : HasTaken turn old new
    pub reported : new.reported.items ≡ []

-- A worker has taken three turns: it has read, has then written, and has then read again.
pub record HasServed {X : Type 0} {G : Ghosts X} (old new : Worker X G) : Type 0 where
  pub first : Worker X G
  pub then : Worker X G
  pub reads : HasReported Read old first
  pub writes : HasReported Write first then
  pub again : HasReported Read then new

-- What is left of a worker: its seat, its plan, and when it wrote.
pub record IsLeftOf {X : Type 0} {G : Ghosts X} (worker : Worker X G) (left : Served) : Type 0 where
  pub seat : left.seat ≡ worker.me.seat
  pub plan : left.plan ≡ worker.plan
  pub wrote : left.wrote ≡ worker.wrote

-- A plan was served, by what is left of its worker: once the seat had seen each read of the plan,
-- it was written at a time at which it may by what the seat had seen, and since then the seat has
-- seen each read of it again.
pub record WasServed (plan : Plan) (left : Served) : Type 0 where
  pub own : left.plan.now ≡ plan
  pub first : History
  pub then : History
  pub reads : HasReadsOf plan first
  pub onward : BeginsWith then first
  pub writes : IsSomeAnd left.wrote (λ at. MayWriteAt plan then at)
  pub begins : BeginsWith (seen_by left.seat) then
  pub again : HasReadsOf plan (since then (seen_by left.seat))
