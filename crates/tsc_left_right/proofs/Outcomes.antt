-- What a writer knows from the time when it has acquired the lock until it has released it.
use Rattle.std.proofs.Common.{◌≡◌, ◌∙◌, refl, sym, ap, subst, ℕ, ◌+◌, ◌<◌, [], ◌∷◌}
use Rattle.std.proofs.Common.{◌++◌, length}
use Rattle.std.specs.Prelude.{Option, None, Result, Ok, Err, IfOk, IfErr, List}
use Rattle.std.specs.Global.{Vec}
use Rattle.std.specs.Arc.{arc_value}
use Rattle.std.specs.declared.sync.Arc.{Arc}
use Rattle.std.specs.declared.alloc.Global.{Global}
use Rattle.tsc_left_right.specs.declared.replicated.Replicated.{Ghosts}
use Rattle.tsc_left_right.specs.declared.table.Setup.{Setup}
use Rattle.tsc_left_right.specs.declared.table.WriterState.{WriterState}
use Rattle.tsc_left_right.specs.declared.table.SeatState.{SeatState}
use Rattle.tsc_left_right.specs.declared.table.Knowledge.{Knowledge}
use Rattle.tsc_left_right.specs.declared.table.Slot.TheVariants.{Empty}
use Rattle.tsc_left_right.specs.declared.preparing.NotApplied.{NotApplied}
use Rattle.tsc_left_right.specs.declared.preparing.Prepared.{Prepared}
use Rattle.tsc_left_right.specs.declared.preparing.Aborted.{Aborted}
use Rattle.tsc_left_right.specs.declared.round.Outcome.{Outcome}
use Rattle.tsc_left_right.specs.declared.round.Outcome.TheVariants.{Busy, Made, Refused}
use Rattle.tsc_left_right.specs.Histories.{own_count, IsLegal}
use Rattle.tsc_left_right.specs.Copies.{CanBe, HandleLags, MayTake}
use Rattle.tsc_left_right.specs.Rule.{at_rest, IsAfter, HasNoted}
use Rattle.tsc_left_right.specs.Steps.{At, state_in, with_state, seated, number_of, seen_of}
use Rattle.tsc_left_right.specs.Steps.{count_of, acquired}
use Rattle.tsc_left_right.specs.Participating.{IsNumber, IsAtRest, IsWriting, CanAdd}
use Rattle.tsc_left_right.specs.Participating.{HasAcquired}
use Rattle.tsc_left_right.specs.Participating.{cleared_in, published_in, released_in}
use Rattle.tsc_left_right.specs.Round.{IsNewWriter, MayPrepare, resting, IsHindered}
use Rattle.tsc_left_right.specs.Round.{IsPrepared, MayLeave, IsAborted, IsApplied, IsNotApplied}
use Rattle.tsc_left_right.specs.Round.{IsOutcome, IsBusy}
use Rattle.tsc_left_right.proofs.Prefixes.{begins_itself, begins_on, legal_push}
use Rattle.tsc_left_right.proofs.ClearCalls.{writing_self}

module _ {P C O S E : Type 0} (R : Ghosts P C O S E) where
  -- A seat that was at rest and has acquired the lock.
  pub new_writer : (me me' : At C O S E) (state : WriterState C O) → IsAtRest me
      → HasAcquired R me.0 me' state → IsNewWriter R me' state
  new_writer me me' state rested a =
      let p : SeatState E = at_rest (number_of me.0) (seen_of me.0) (count_of me.0) in
      let is : me' ≡ (
        with_state (resting me.0) (acquired p a.0.history a.0.head state.noted.items),
        (0, Empty) ∷ [],
      ) =
      (λ i. (a.0.after i, a.1 i))
      ∙ (λ i. let m = rested i in (
        with_state m.0 (acquired (state_in m.0) a.0.history a.0.head state.noted.items),
        (0, Empty) ∷ [],
      )) in
      subst (λ (m : At C O S E). IsNewWriter R m state) (sym is) (record {
        head = a.0.head;
        is = refl;
        legal = a.0.legal;
        own = a.0.own;
        limit = a.0.limit;
        is_after = a.0.is_after;
        noted = a.0.noted;
      })

  -- The new writer writes.
  pub new_writes : (me : At C O S E) (state : WriterState C O) → IsNewWriter R me state
      → IsWriting me.0 me 0
  new_writes me state w = subst (λ (m : At C O S E). IsWriting m.0 m 0) (sym w.is) (record {
    slots = [];
    is = refl;
    filled = refl;
    holds = refl;
    unpinned = refl;
  })

  -- what the new writer knows when it has cleared so many seats
  cleared_new : (me me' : At C O S E) (cleared : ℕ) (state : WriterState C O)
      → (n : IsNewWriter R me state) → IsWriting me.0 me' cleared → me'.0 ≡ cleared_in (
      with_state me.0
      (acquired (at_rest (number_of me.0) (seen_of me.0) (count_of me.0)) (seen_of me.0)
      n.head state.noted.items)
      ) cleared
  cleared_new me me' cleared state n w =
      ap (λ (m : At C O S E). m.0) w.is ∙ (λ i. cleared_in (n.is i).0 cleared)

  -- It knows all epochs that were noted.
  noted_new : (me me' : At C O S E) (cleared : ℕ) (state : WriterState C O)
      → IsNewWriter R me state → IsWriting me.0 me' cleared
      → HasNoted me'.0.setup.seats (state_in me'.0).noted state
  noted_new me me' cleared state n w = subst (λ (u : Knowledge S E). HasNoted u.setup.seats
      (state_in u).noted state) (sym (cleared_new me me' cleared state n w))
      (record { is = refl; long = n.noted })

  -- It may release the lock without an operation.
  pub leaves_at : (me me' : At C O S E) (cleared : ℕ) (state : WriterState C O)
      → IsNewWriter R me state → IsWriting me.0 me' cleared → MayLeave R me.0 me' state
  leaves_at me me' cleared state n w = record {
    release = record {
      lock = (cleared, writing_self me.0 me' cleared w);
      is_after = subst (λ (u : Knowledge S E). IsAfter R u.setup (seen_of u)
          (state_in u).head state) (sym (cleared_new me me' cleared state n w)) n.is_after;
      noted = noted_new me me' cleared state n w;
    };
    same = ap (λ (m : At C O S E). released_in m.0) w.is;
  }

  -- It may prepare an operation for which there is room.
  pub may_prepare : (me me₁ : At C O S E) (setup : Setup S) (state : WriterState C O) (op : O)
      (cleared : ℕ) → IsNewWriter R me state → IsWriting me.0 me₁ cleared
      → setup ≡ me.0.setup → CanBe R setup op → state.length < setup.limit
      → MayPrepare R cleared me₁ state op
  may_prepare me me₁ setup state op cleared n w same can room =
      let is = cleared_new me me₁ cleared state n w in
      let to : setup ≡ me₁.0.setup = same ∙ sym (ap (λ (m : At C O S E). m.0.setup) w.is) in
      record {
        writing = writing_self me.0 me₁ cleared w;
        noted = noted_new me me₁ cleared state n w;
        legal = subst (λ (u : Knowledge S E). IsLegal R u.setup.config u.setup.seats (seen_of u))
            (sym is) n.legal;
        own = subst (λ (u : Knowledge S E). own_count R (number_of u) (seen_of u) ≡ count_of u)
            (sym is) n.own;
        is_after = subst (λ (u : Knowledge S E). IsAfter R u.setup (seen_of u) (state_in u).head
            state) (sym is) n.is_after;
        can = subst (λ (t : Setup S). CanBe R t op) to can;
        room = subst (λ (t : Setup S). state.length < t.limit) to room;
      }

  -- The copies may take it.
  pub may_take : (me : At C O S E) (seats : ℕ) (state : WriterState C O) (op : O) (number : ℕ)
      → MayPrepare R seats me state op → IsNumber me.0 number → MayTake R state.copies op
  may_take me seats state op number m low = record {
    config = me.0.setup.config;
    seats = me.0.setup.seats;
    history = seen_of me.0;
    legal = m.legal;
    stand = m.is_after.stand;
    number = number_of me.0;
    count = count_of me.0;
    next = m.can (seen_of me.0) (number_of me.0) (count_of me.0)
        (subst (λ (r : ℕ). r < me.0.setup.seats) low.0 low.1) m.own;
  }

  -- The writer knows the same once handles are installed.
  installed_same : (me me₂ : At C O S E) (seats : ℕ) (state : WriterState C O) (op : O)
      → MayPrepare R seats me state op → me₂.0 ≡ cleared_in me.0 seats → me₂.0 ≡ me.0
  installed_same me me₂ seats state op m is =
      is ∙ sym (ap (λ (x : At C O S E). x.0) m.writing.is)

  -- If there was no memory for all of them, it may release the lock.
  pub back_leaves : (me me₂ : At C O S E) (seats : ℕ) (state state₂ : WriterState C O) (op : O)
      → MayPrepare R seats me state op → IsWriting me.0 me₂ seats
      → state₂.copies.active ≡ state.copies.active → state₂.copies.standby ≡ None
      → state₂.length ≡ state.length → state₂.head ≡ state.head
      → state₂.noted ≡ state.noted → MayLeave R me.0 me₂ state₂
  back_leaves me me₂ seats state state₂ op m w active none long head noted =
      let after = m.is_after in
      let t : Setup S = me.0.setup in
      let same : me₂.0 ≡ me.0 = installed_same me me₂ seats state op m
      (ap (λ (x : At C O S E). x.0) w.is) in record {
        release = record {
          lock = (seats, writing_self me.0 me₂ seats w);
          is_after = subst (λ (u : Knowledge S E). IsAfter R u.setup (seen_of u) (state_in u).head
              state₂) (sym same) (record {
                stand = record {
                  active = subst (λ (c : Arc C Global). R.stands t.config (seen_of me.0)
                      (arc_value c)) (sym active) after.stand.active;
                  behind = subst (HandleLags R t.config (seen_of me.0) state₂.copies.lagging)
                      (sym none) tt;
                };
                length = long ∙ after.length;
                head_is = head ∙ after.head_is;
              });
          noted = subst (λ (u : Knowledge S E). HasNoted u.setup.seats (state_in u).noted state₂)
              (sym same) (record {
                is = ap (λ (x : Vec ℕ). x.items) noted ∙ m.noted.is;
                long = m.noted.long;
              });
        };
        same = ap released_in same;
      }

  aborted_for : (tries : Option ℕ) (u v : Knowledge S E) (me : At C O S E) (left : Aborted C O)
      → released_in u ≡ released_in v → IsAborted R tries u me left → IsAborted R tries v me left
  aborted_for tries u v me left is a = record {
    leave = record { release = a.leave.release; same = a.leave.same ∙ is };
    why = subst (λ (w : Knowledge S E). IsHindered tries (length (seen_of w)) w.setup.limit
        left.why) is a.why;
  }

  pub left_for : {A : Type 0} (tries : Option ℕ) (u v : Knowledge S E) (me : At C O S E)
      (r : Result A (Aborted C O)) → released_in u ≡ released_in v
      → IfErr r (λ left. (any : Option ℕ) → IsAborted R any u me left)
      → IfErr r (IsAborted R tries v me)
  left_for tries u v me (Ok made) is a = tt
  left_for tries u v me (Err left) is a = aborted_for tries u v me left is (a tries)

  -- Nothing was applied. The seat has released the lock, and is at rest.
  pub is_not_applied : (tries : Option ℕ) (me me₁ me₂ : At C O S E) (state : WriterState C O)
      (left : Aborted C O) (seen : ℕ) → IsNewWriter R me state → IsAborted R tries me.0 me₁ left
      → me₂ ≡ (released_in me₁.0, []) → seen ≡ length (seen_of me₁.0)
      → IsNotApplied R tries me.0 me₂ seen left.why
  is_not_applied tries me me₁ me₂ state left seen n a then_ long = record {
    history = seen_of me.0;
    after = then_ ∙ (λ i. (a.leave.same i, [])) ∙ (λ i. (released_in (n.is i).0, []));
    begins = begins_itself (seen_of me.0);
    legal = n.legal;
    own = n.own;
    limit = n.limit;
    long = long ∙ ap (λ (w : Knowledge S E). length (seen_of w)) a.leave.same;
    why_is = a.why;
  }

  module _ {A : Type 0} (answers : S → List E → O → A) where
    -- What is prepared by a copy is what is asked for.
    pub made_of_copy : (Asked : O → Type 0) (u v : Knowledge S E) (me : At C O S E) (op : O)
        (r : Result (Prepared C O A) (Aborted C O)) → released_in u ≡ released_in v → Asked op
        → IfOk r (λ made. IsPrepared R answers u me op made.state.value made.answer)
        → IfOk r (λ made. (op : O) × Asked op
        × IsPrepared R answers v me op made.state.value made.answer)
    made_of_copy Asked u v me op (Err left) same is p = tt
    made_of_copy Asked u v me op (Ok made) same is p =
        let r : IsPrepared R answers (released_in v) me op made.state.value made.answer =
        subst (λ (w : Knowledge S E). IsPrepared R answers w me op made.state.value made.answer)
        same (record {
          ready = p.ready;
          lagging = p.lagging;
          same = p.same;
          below = p.below;
          answer_is = p.answer_is;
        }) in (
          op,
          is,
          record {
            ready = r.ready;
            lagging = r.lagging;
            same = r.same;
            below = r.below;
            answer_is = r.answer_is;
          },
        )

    -- The seat has published its operation, and has released the lock.
    pub is_applied_then : (me me₁ me₂ : At C O S E) (state made : WriterState C O) (op : O)
        (answer : A) (place number : ℕ) → IsNewWriter R me state → IsNumber me.0 number
        → place ≡ state.length → IsPrepared R answers me.0 me₁ op made answer
        → me₂ ≡ (released_in (published_in R me₁.0 made.copies.lagging), [])
        → IsApplied R answers me.0 me₂ op place answer
    is_applied_then me me₁ me₂ state made op answer place number n low at p then_ =
        let v : Knowledge S E = me.0 in
        let t : Setup S = v.setup in
        let h : List E = seen_of v in
        let e = R.entry_of (number_of v) (count_of v) op in
        let rests : released_in me₁.0 ≡ resting v =
        p.same ∙ ap (λ (m : At C O S E). released_in m.0) n.is in
        let is : me₂ ≡ (seated t (number_of v) (h ++ e ∷ []) (count_of v + 1), []) =
        then_
        ∙ (λ i. (released_in (published_in R me₁.0 (p.lagging i)), []))
        ∙ (λ i. let w = rests i in (
          with_state w (record (state_in w) {
            seen = seen_of w ++ R.entry_of (number_of w) (count_of w) op ∷ [];
            count = count_of w + 1;
          }),
          [],
        )) in
        let can : CanBe R t op = subst (λ (w : Knowledge S E). CanBe R w.setup op) p.same
        (subst (CanAdd R me₁.0.setup) p.lagging p.ready.ready.can) in record {
          before = h;
          after = is;
          begins = begins_itself h;
          legal = legal_push R t.config t.seats h e n.legal (can h (number_of v) (count_of v)
              (subst (λ (r : ℕ). r < t.seats) low.0 low.1) n.own);
          own = n.own;
          below = p.below;
          place_is = at ∙ n.is_after.length;
          answer_is = p.answer_is;
        }

    -- What became of the operation, by what the seat knew before it acquired the lock.
    since_applied : (me me₁ me₂ : At C O S E) (state : WriterState C O) (op : O) (place : ℕ)
        (answer : A) → HasAcquired R me.0 me₁ state → IsApplied R answers me₁.0 me₂ op place answer
        → IsApplied R answers me.0 me₂ op place answer
    since_applied me me₁ me₂ state op place answer a i =
        let w : Knowledge S E = with_state me.0 (acquired (state_in me.0) a.0.history a.0.head
        state.noted.items) in
        let q : IsApplied R answers w me₂ op place answer =
        subst (λ (v : Knowledge S E). IsApplied R answers v me₂ op place answer) a.0.after i in
        record {
          before = q.before;
          after = q.after;
          begins = begins_on q.before (seen_of w) (seen_of me.0) q.begins a.0.begins;
          legal = q.legal;
          own = q.own;
          below = q.below;
          place_is = q.place_is;
          answer_is = q.answer_is;
        }

    since_not_applied : (tries : Option ℕ) (me me₁ me₂ : At C O S E) (state : WriterState C O)
        (seen : ℕ) (why : NotApplied) → HasAcquired R me.0 me₁ state
        → IsNotApplied R tries me₁.0 me₂ seen why → IsNotApplied R tries me.0 me₂ seen why
    since_not_applied tries me me₁ me₂ state seen why a i =
        let w : Knowledge S E = with_state me.0 (acquired (state_in me.0) a.0.history a.0.head
        state.noted.items) in
        let q : IsNotApplied R tries w me₂ seen why =
        subst (λ (v : Knowledge S E). IsNotApplied R tries v me₂ seen why) a.0.after i in record {
          history = q.history;
          after = q.after;
          begins = begins_on q.history (seen_of w) (seen_of me.0) q.begins a.0.begins;
          legal = q.legal;
          own = q.own;
          limit = q.limit;
          long = q.long;
          why_is = q.why_is;
        }

    pub since_outcome : (tries : Option ℕ) (Asked : O → Type 0) (me me₁ me₂ : At C O S E)
        (state : WriterState C O) (o : Outcome A) → HasAcquired R me.0 me₁ state → (IsBusy o → ⊥)
        → IsOutcome R answers tries Asked me₁.0 me₂ o → IsOutcome R answers tries Asked me.0 me₂ o
    since_outcome tries Asked me me₁ me₂ state Busy a not_busy i = absurd (not_busy tt)
    since_outcome tries Asked me me₁ me₂ state (Made place answer) a not_busy i =
        (i.0, i.1, since_applied me me₁ me₂ state i.0 place answer a i.2)
    since_outcome tries Asked me me₁ me₂ state (Refused seen why) a not_busy i =
        since_not_applied tries me me₁ me₂ state seen why a i
