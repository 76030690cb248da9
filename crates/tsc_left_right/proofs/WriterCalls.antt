-- A writer publishes, and releases the lock, in the shape that the calls ask for.
use Rattle.std.proofs.Common.{◌≡◌, ◌∙◌, refl, sym, ap, subst, true, ℕ, List, ◌≤◌}
use Rattle.std.proofs.Common.{[], ◌∷◌, ◌++◌, length}
use Rattle.std.specs.Prelude.{Option}
use Rattle.std.specs.Arc.{arc_value}
use Rattle.std.specs.Vec.{with_items}
use Rattle.std.proofs.lemmas.List.{with_items_is}
use Rattle.atomic_table.specs.Table.{Step, Allows, rest, turned}
use Rattle.tsc_left_right.specs.declared.table.Setup.{Setup}
use Rattle.tsc_left_right.specs.declared.table.Slot.{Slot}
use Rattle.tsc_left_right.specs.declared.table.Slot.TheVariants.{Empty, Writer}
use Rattle.tsc_left_right.specs.declared.table.WriterState.{WriterState}
use Rattle.tsc_left_right.specs.declared.table.SeatState.{SeatState}
use Rattle.tsc_left_right.specs.declared.table.Knowledge.{Knowledge}
use Rattle.tsc_left_right.specs.Rule.{LeftRightRule, StoredState, IsAfter, HasNoted, standby_side}
use Rattle.tsc_left_right.specs.Steps.{At, state_in, with_state, clearing, seen_of}
use Rattle.tsc_left_right.specs.Steps.{Filled, Anything, IsHandleOn, publishes, published, flipped}
use Rattle.tsc_left_right.specs.Steps.{lagging_in, behind_handles, releases, released}
use Rattle.tsc_left_right.specs.Participating.{HasInstalled, HasFlipped, MayRelease, IsReady, CanAdd}
use Rattle.tsc_left_right.specs.Participating.{cleared_in, noted_in, published_in, released_in}
use Rattle.tsc_left_right.proofs.Hands.{Hand}
use Rattle.tsc_left_right.proofs.Publishing.{publish_allowed, lagging_there, left_there}
use Rattle.tsc_left_right.proofs.Releasing.{release_allowed}
use Rattle.tsc_left_right.proofs.Endings.{state_or}
use Rattle.tsc_left_right.specs.declared.replicated.Replicated.{Ghosts}

module _ {C O S E : Type 0} where
  -- what a writer has in hand that has laid its state back
  pub state_back : (v : Knowledge S E) (me me₁ me₂ : At C O S E) (slots : Hand C O)
      (state : StoredState C O)
      → me ≡ (v, (0, Empty) ∷ slots) → me₁ ≡ (me.0, (0, Writer state) ∷ rest me.1)
      → me₂ ≡ (me₁.0, turned me₁.1) → me₂ ≡ (v, slots ++ (0, Writer state) ∷ [])
  state_back v me me₁ me₂ slots state is put turned_is =
      turned_is ∙ (λ i. ((put i).0, turned (put i).1))
      ∙ (λ i. ((is i).0, turned ((0, Writer state) ∷ rest (is i).1)))

  -- what it is once it has released the lock
  pub released_then : (me me' : At C O S E) (v : Knowledge S E) (hand : Hand C O) → me ≡ (v, hand)
      → me' ≡ (with_state me.0 (released (state_in me.0)), []) → me' ≡ (released_in v, [])
  released_then me me' v hand is done = done
      ∙ ap (λ (m : At C O S E). (with_state m.0 (released (state_in m.0)), [])) is

module _ {P C O S E : Type 0} (R : Ghosts P C O S E) where
  -- What is asked of a writer that publishes, and of what it lays into its slot.
  pub record CanPublish (t : Setup S) (p : SeatState E) (sides : Hand C O)
      (w : WriterState C O) : Type 0 where
    pub can : CanAdd R t w.copies.lagging
    pub filled : Filled (IsHandleOn (arc_value w.copies.active) w.length)
        (standby_side p.head) 0 sides
        p.cleared
    pub limit : length (published R p w.copies.lagging) ≤ t.limit
    pub is_after : IsAfter R t (published R p w.copies.lagging) (standby_side p.head) w

  -- It is all there when the state says what HEAD is to be.
  can_publish : (v : Knowledge S E) (old : WriterState C O) (n : ℕ) (w : WriterState C O)
      (sides : Hand C O) → IsReady R v old
      → Filled (IsHandleOn (arc_value old.copies.active) old.length) (standby_side
      (state_in v).head) 0 sides
      v.setup.seats
      → n ≡ standby_side (state_in v).head → w ≡ record old { head = n }
      → CanPublish v.setup (clearing (state_in v) v.setup.seats) sides w
  can_publish v old n w sides ready filled n_is is =
      subst (CanPublish v.setup (clearing (state_in v) v.setup.seats) sides) (sym is) (record {
        can = ready.can;
        filled = filled;
        limit = ready.limit;
        is_after = record {
          stand = ready.is_after.stand;
          length = ready.is_after.length;
          head_is = n_is;
        };
      })

  -- A writer of v, with these handles in hand, can publish by laying this state into its slot,
  -- which
  -- is as the old one, but for what HEAD is to be (n).
  pub record IsPutBack (v : Knowledge S E) (me : At C O S E) (old : WriterState C O) (n : ℕ)
      (state : StoredState C O)
      : Type 0 where
    pub sides : Hand C O
    pub holds : (state_in v).holds ≡ true
    pub head_is : n ≡ standby_side (state_in v).head
    pub can : CanPublish v.setup (clearing (state_in v) v.setup.seats) sides state.value
    pub same : state.value ≡ record old { head = n }
    pub hand : me ≡ (cleared_in v v.setup.seats, sides ++ (0, Writer state) ∷ [])

  pub is_put_back : (me me₁ me₂ : At C O S E) (old : WriterState C O) (n : ℕ)
      (state : StoredState C O)
      → HasInstalled me.0 me (arc_value old.copies.active) old.length me.0.setup.seats
      → IsReady R me.0 old → n ≡ standby_side old.head → state.value ≡ record old { head = n }
      → me₁ ≡ (me.0, (0, Writer state) ∷ rest me.1) → me₂ ≡ (me₁.0, turned me₁.1)
      → IsPutBack me.0 me₂ old n state
  is_put_back me me₁ me₂ old n state h ready n_is same put turned_is =
      let head_is : n ≡ standby_side (state_in me.0).head =
      n_is ∙ ap standby_side ready.is_after.head_is in record {
        sides = h.slots;
        holds = h.holds;
        head_is = head_is;
        can = can_publish me.0 old n state.value h.slots ready h.filled head_is same;
        same = same;
        hand = state_back (cleared_in me.0 me.0.setup.seats) me me₁ me₂ h.slots state h.is put
            turned_is;
      }

  pub publish_at : (key : Setup S) (slots : ℕ) (st : Step (Slot C O)) (id : ℕ) (v : Knowledge S E)
      (me : At C O S E)
      (old : WriterState C O) (n : ℕ) (state : StoredState C O) → IsPutBack v me old n state
      → Allows (LeftRightRule R key) slots id me 16 (λ _. n) (publishes R st me)
  publish_at key slots st id v me old n state q =
      subst (λ (k : ℕ). Allows (LeftRightRule R key) slots id me 16 (λ _. k) (publishes R st me))
      (sym q.head_is) (subst (λ (m : At C O S E). Allows (LeftRightRule R key) slots id m 16
      (λ _. standby_side (state_in v).head) (publishes R st m)) (sym q.hand)
      (publish_allowed R key slots st id v.setup (clearing (state_in v) v.setup.seats) state
      q.sides q.holds q.can.can q.can.filled refl q.can.limit q.can.is_after))

  -- what it knows and has in hand then
  pub published_then : (st : Step (Slot C O)) (found : ℕ) (v : Knowledge S E)
      (me me' : At C O S E) (old : WriterState C O)
      (n : ℕ) (state : StoredState C O) → IsPutBack v me old n state → publishes R st me found me'
      → me' ≡ (published_in R v old.copies.lagging, (0, Writer state) ∷ [])
  published_then st found v me me' old n state q done =
      let p : SeatState E = clearing (state_in v) v.setup.seats in
      let mine = lagging_there (arc_value state.value.copies.active) state.value.length
      (standby_side p.head) 0 p.cleared q.sides state q.can.filled
      ∙ ap (λ (d : WriterState C O). d.copies.lagging) q.same in
      let left = left_there (arc_value state.value.copies.active) state.value.length
      (standby_side p.head) 0
      p.cleared q.sides state q.can.filled in
      done ∙ ap (λ (m : At C O S E). (
        with_state m.0 (flipped R (state_in m.0) (lagging_in m.1)),
        behind_handles m.1,
      )) q.hand ∙ (λ i. (published_in R v (mine i), left i))

  pub release_at : (key : Setup S) (slots : ℕ) (st : Step (Slot C O)) (id : ℕ) (v : Knowledge S E)
      (me : At C O S E)
      (cleared : ℕ) (handles : Hand C O) (state : StoredState C O)
      → me ≡ (cleared_in v cleared, handles ++ (0, Writer state) ∷ [])
      → (state_in v).holds ≡ true
      → Filled Anything (standby_side (state_in v).head) 0 handles cleared
      → IsAfter R v.setup (seen_of v) (state_in v).head state.value
      → HasNoted v.setup.seats (state_in v).noted state.value
      → Allows (LeftRightRule R key) slots id me 0 (λ _. 0) (releases st me)
  release_at key slots st id v me cleared handles state is holds filled after noted =
      subst (λ (m : At C O S E). Allows (LeftRightRule R key) slots id m 0 (λ _. 0)
      (releases st m)) (sym is)
      (release_allowed R key slots id v.setup (clearing (state_in v) cleared) state handles
      holds filled after noted)

  -- Its slot has its state then.
  pub state_there : (v : Knowledge S E) (me : At C O S E) (x : Slot C O) (state : StoredState C O)
      → me ≡ (v, (0, Writer state) ∷ []) → me.1 ≡ (0, x) ∷ rest me.1 → x ≡ Writer state
  state_there v me x state is has = ap first_slot (sym has ∙ ap (λ (m : At C O S E). m.1) is)
    where
      first_slot : Hand C O → Slot C O
      first_slot [] = Empty
      first_slot (y ∷ ys) = y.1

  -- what the writer works with then
  pub flipped_then : (v : Knowledge S E) (me₁ me₂ me₃ : At C O S E) (old : WriterState C O) (n : ℕ)
      (state taken : StoredState C O) (x : Slot C O) → IsPutBack v me₁ old n state
      → (state_in v).stage ≡ 0
      → me₂ ≡ (published_in R v old.copies.lagging, (0, Writer state) ∷ [])
      → me₂.1 ≡ (0, x) ∷ rest me₂.1 → me₃ ≡ (me₂.0, (0, Empty) ∷ rest me₂.1) → x ≡ Writer taken
      → HasFlipped R v old me₃ taken.value
  flipped_then v me₁ me₂ me₃ old n state taken x q unpinned is has emptied took =
      let w : Knowledge S E = published_in R v old.copies.lagging in
      let same : state ≡ taken =
      ap (state_or state) (sym (state_there w me₂ x state is has) ∙ took) in
      subst (λ (d : StoredState C O). HasFlipped R v old me₃ d.value) same (record {
        is = emptied ∙ (λ i. ((is i).0, (0, Empty) ∷ rest (is i).1));
        holds = q.holds;
        unpinned = unpinned;
        is_after = subst (λ (o : Option O). IsAfter R v.setup (published R (state_in v) o)
            (standby_side (state_in v).head) state.value)
            (ap (λ (d : WriterState C O). d.copies.lagging) q.same) q.can.is_after;
        long = ap (λ (d : WriterState C O). length d.noted.items) q.same;
      })

  -- It may release the lock with all epochs noted.
  pub noted_releases : (v : Knowledge S E) (old : WriterState C O) (me₁ me₂ : At C O S E)
      (state state₂ : WriterState C O) (noted : List ℕ) → HasFlipped R v old me₁ state
      → me₂ ≡ (noted_in me₁.0 noted, me₁.1)
      → state₂ ≡ record state { noted = with_items state.noted noted }
      → length noted ≡ length state.noted.items → length old.noted.items ≡ v.setup.seats
      → MayRelease R me₂ state₂
  noted_releases v old me₁ me₂ state state₂ noted f noted_is same as_long all =
      let w : Knowledge S E = noted_in (published_in R v old.copies.lagging) noted in
      let is : me₂ ≡ (w, (0, Empty) ∷ []) =
      noted_is ∙ (λ i. (noted_in (f.is i).0 noted, (f.is i).1)) in
      subst (λ (m : At C O S E). MayRelease R m state₂) (sym is)
      (subst (MayRelease R (w, (0, Empty) ∷ [])) (sym same) (record {
        lock = (
          0,
          record {
            slots = [];
            is = refl;
            filled = refl;
            holds = f.holds;
            unpinned = f.unpinned;
          },
        );
        is_after = record {
          stand = f.is_after.stand;
          length = f.is_after.length;
          head_is = f.is_after.head_is;
        };
        noted = record {
          is = with_items_is state.noted noted (as_long ∙ sym state.noted.ok.0);
          long = as_long ∙ f.long ∙ all;
        };
      }))
