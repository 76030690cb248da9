-- The writer's Add comes into the history by one step, which swaps the copies.
use Rattle.std.proofs.Common.{◌≡◌, ◌≢◌, ◌∙◌, refl, sym, ap, subst, true, ℕ, suc, ◌+◌, ◌%◌, ◌<◌}
use Rattle.std.proofs.Common.{◌≤◌, List, [], ◌∷◌, ◌++◌, length, set, arith}
use Rattle.std.specs.Prelude.{Option, Some, None, ◌==◌}
use Rattle.std.specs.Arc.{arc_value}
use lib.ListN.{get_elem?}
use Rattle.atomic_table.specs.Table.{Step, Allows}
use Rattle.tsc_left_right.specs.declared.table.Setup.{Setup}
use Rattle.tsc_left_right.specs.declared.table.Slot.{Slot}
use Rattle.tsc_left_right.specs.declared.table.Slot.TheVariants.{Empty, Writer, Handle}
use Rattle.tsc_left_right.specs.declared.table.SeatState.{SeatState}
use Rattle.tsc_left_right.specs.declared.table.Knowledge.{Knowledge}
use Rattle.tsc_left_right.specs.Rule.{keeping, StoredState, SharedState, LeftRightRule, one_if}
use Rattle.tsc_left_right.specs.Rule.{IsAfter, Shows}
use Rattle.tsc_left_right.specs.Rule.{head_word, side_slot, active_side, standby_side}
use Rattle.tsc_left_right.specs.Steps.{publishes, lagging_in, behind_handles, published, counted}
use Rattle.tsc_left_right.specs.Steps.{with_state, flipped, Filled, IsHandleOn}
use Rattle.tsc_left_right.specs.Participating.{CanAdd}
use Rattle.tsc_left_right.proofs.Prefixes.{begins_more, legal_push, own_append, own_of_one}
use Rattle.tsc_left_right.proofs.Prefixes.{own_of_other}
use Rattle.tsc_left_right.proofs.Hands.{Homes, Hand, put_all, give_all, given_homes, given_none}
use Rattle.tsc_left_right.proofs.Hands.{given_valid, put_length, put_apart, put_among}
use Rattle.tsc_left_right.proofs.Frames.{turned_head, other_slots}
use Rattle.tsc_left_right.proofs.Moves.{Moved, moved_kept, of_one, low_number, not_its, not_holding}
use Rattle.tsc_left_right.proofs.Plain.{busy_word, none_is_no, same_number}
use Rattle.tsc_left_right.proofs.Moves.{knows_all, no_other}
use Rattle.tsc_left_right.proofs.Plain.{epoch_same}
use Rattle.tsc_left_right.specs.declared.replicated.Replicated.{Ghosts}
use Rattle.tsc_left_right.specs.Histories.{own_count, BeginsWith, IsLegal}
use Rattle.tsc_left_right.proofs.Prefixes.{begins_itself, begins_on}

module _ {C O : Type 0} where
  -- what the hand says of the writer's Add, and what stays in the hand
  pub lagging_there : (cache : C) (adds side from to : ℕ) (xs : Hand C O) (state : StoredState C O)
      → Filled (IsHandleOn cache adds) side from xs to
      → lagging_in (xs ++ (0, Writer state) ∷ []) ≡ state.value.copies.lagging
  lagging_there cache adds side from to [] state f = refl
  lagging_there cache adds side from to ((k, Empty) ∷ xs) state f = absurd f.1
  lagging_there cache adds side from to ((k, Writer d) ∷ xs) state f = absurd f.1
  lagging_there cache adds side from to ((k, Handle c) ∷ xs) state f =
      lagging_there cache adds side (suc from) to xs state f.2

  pub left_there : (cache : C) (adds side from to : ℕ) (xs : Hand C O) (state : StoredState C O)
      → Filled (IsHandleOn cache adds) side from xs to
      → behind_handles (xs ++ (0, Writer state) ∷ []) ≡ (0, Writer state) ∷ []
  left_there cache adds side from to [] state f = refl
  left_there cache adds side from to ((k, Empty) ∷ xs) state f = absurd f.1
  left_there cache adds side from to ((k, Writer d) ∷ xs) state f = absurd f.1
  left_there cache adds side from to ((k, Handle c) ∷ xs) state f =
      left_there cache adds side (suc from) to xs state f.2

module _ {P C O S E : Type 0} (R : Ghosts P C O S E) where
  -- the history with the writer's Add
  record Grows (setup : Setup S) (p : SeatState E) (add : Option O) : Type 0 where
    pub begins : BeginsWith (published R p add) p.seen
    pub legal : IsLegal R setup.config setup.seats (published R p add)
    pub others : (r : ℕ) → r ≢ p.number → own_count R r (published R p add) ≡ own_count R r p.seen
    pub own : own_count R p.number (published R p add) ≡ counted R p add

  grows : (setup : Setup S) (p : SeatState E) (add : Option O)
      → own_count R p.number p.seen ≡ p.count → IsLegal R setup.config setup.seats p.seen
      → p.number < setup.seats → CanAdd R setup add → Grows setup p add
  grows setup p None own is_legal low can = record {
    begins = begins_itself p.seen;
    legal = is_legal;
    others = λ r _. refl;
    own = own;
  }
  grows setup p (Some add) own is_legal low can =
      let e = R.entry_of p.number p.count add in record {
        begins = begins_more p.seen (e ∷ []);
        legal = legal_push R setup.config setup.seats p.seen e is_legal
            (can p.seen p.number p.count low own);
        others = λ r apart. omega (
          arith,
          own_append R r p.seen (e ∷ []),
          own_of_other R r e (λ z. apart (sym z ∙ R.seat_kept p.number p.count add)),
        );
        own = omega (
          arith,
          own_append R p.number p.seen (e ∷ []),
          own,
          own_of_one R p.number e
              (R.seat_kept p.number p.count add),
        );
      }

  module _ (setup : Setup S) (slots : ℕ) (st : Step (Slot C O)) (id : ℕ) (t : Setup S)
      (p : SeatState E) (state : StoredState C O) (sides : Hand C O) where
    abbrev v : Knowledge S E
    v = keeping t (p ∷ [])

    abbrev hand : Hand C O
    hand = sides ++ (0, Writer state) ∷ []

    -- the Add, and the history once it is published
    abbrev add : Option O
    add = state.value.copies.lagging

    abbrev h' : List E
    h' = published R p add

    handle_shows : (x : Slot C O) → R.stands setup.config h'
        (arc_value state.value.copies.active) → state.value.length
        ≡ length h' → IsHandleOn (arc_value state.value.copies.active) state.value.length x
        → Shows R setup h' x
    handle_shows Empty stands long on = absurd on
    handle_shows (Writer d) stands long on = absurd on
    handle_shows (Handle handle) stands long on = (
      subst (R.stands setup.config h') (sym on.0) stands,
      on.1 ∙ long,
    )

    pub publish_allowed : p.holds ≡ true → CanAdd R t add
        → Filled (IsHandleOn (arc_value state.value.copies.active) state.value.length)
        (standby_side p.head)
        0 sides p.cleared → p.cleared ≡ t.seats → length h' ≤ t.limit
        → IsAfter R t h' (standby_side p.head) state.value
        → Allows (LeftRightRule R setup) slots id (v, hand) head_word (λ _. standby_side p.head)
        (publishes R st (v, hand))
    publish_allowed holds can filled full room after s k deep at small =
        let all = knows_all R setup s k id t p holds at in
        let g : SharedState E = k.g in
        let n : ℕ = standby_side p.head in
        let g' : SharedState E = record {
          history = h';
          head = n;
          word = g.word;
          stage_of = g.stage_of;
          cleared = 0;
          noted = [];
        } in
        let P : Slot C O → Type 0 = IsHandleOn (arc_value state.value.copies.active)
        state.value.length in
        let words : List ℕ = set s.words head_word n in
        let homes : Homes C O = put_all s.homes sides in
        let w : Knowledge S E = with_state v (flipped R p add) in
        let tall = k.shape.deep in
        let taken = all.taken in
        let head_is = all.head in
        let one = all.one in
        let all_cleared : g.cleared ≡ setup.seats = omega (
          arith,
          all.cleared,
          full,
          ap (λ (x : Setup S). x.seats) all.same,
        ) in
        let is_legal : IsLegal R setup.config setup.seats p.seen =
        subst (IsLegal R setup.config setup.seats) (sym all.all) k.legal in
        let more : Grows setup p add = grows setup p add all.mine.own_seen is_legal all.low
        (subst (λ (x : Setup S). CanAdd R x add) all.same can) in
        let begins : BeginsWith h' g.history = subst (BeginsWith h') all.all more.begins in
        let stands : R.stands setup.config h' (arc_value state.value.copies.active) =
        subst (λ (x : Setup S). R.stands x.config h'
        (arc_value state.value.copies.active)) all.same
        after.stand.active in
        let its : (p.number == p.number) ≡ true = same_number p.number p.number refl in
        let nowhere : (r : ℕ) → r < setup.seats → g.stage_of r ≢ n + 2 = λ r low z.
        (k.seats r low).left (omega (arith, low, all_cleared)) (omega (arith, z, head_is)) in
        let moved : Moved R setup s k id v w g' words homes = record {
          at = at;
          legal = more.legal;
          limit = omega (arith, room, ap (λ (x : Setup S). x.limit) all.same);
          shape = other_slots (turned_head k.shape n) homes (put_length s.homes sides);
          seats = λ r low. let ok = k.seats r low in
              let epoch = epoch_same s.words head_word n r (omega arith) in record {
                unpinned = λ z. ap (λ (b : ℕ). b % 2) epoch ∙ ok.unpinned z;
                pinned = λ z. ap (λ (b : ℕ). b % 2) epoch ∙ ok.pinned z;
                active = λ _. let x = put_among P n s.homes 0 sides p.cleared r filled
                    (omega arith) (omega (arith, low, all_cleared, all.cleared))
                    (omega (arith, tall, low)) in (
                      x.0,
                      ap (λ (c : ℕ). get_elem? homes (side_slot r c)) active_is ∙ x.1,
                      handle_shows x.0 stands after.length x.2,
                    );
                standby = λ _ not. let x = ok.active (λ z. not (omega (arith, z, head_is))) in (
                  x.0,
                  ap (λ (c : ℕ). get_elem? homes (side_slot r c))
                      (let e : standby_side n ≡ active_side g.head = omega (arith, head_is) in e)
                      ∙ put_apart P n s.homes 0 sides p.cleared (side_slot r (active_side g.head))
                      filled (λ q _ _ z. omega (arith, z, head_is)) ∙ x.1,
                );
                left = λ z. absurd (omega (arith, z));
                late = λ b z. absurd (none_is_no b z);
              };
          fits = of_one R t (flipped R p add) all.same (record {
            begins = begins_itself h';
            own = more.own;
            own_seen = more.own;
            at_stage = all.mine.at_stage;
            sees = λ _. refl;
            holding = λ _. (refl, all.taken, refl, refl, refl);
          });
          others = λ other u apart z. let was = k.views other u z in record {
            settled = was.settled;
            states = λ i q e. let f = was.states i q e in let isnt = not_its p.number u i q
                (no_other R setup s k id other p.number v u apart at z
                (omega (arith, ap one_if its))) e in record {
                  begins = begins_on h' g.history q.seen begins f.begins;
                  own = omega (
                    arith,
                    more.others q.number isnt,
                    ap (own_count R q.number) all.all,
                    f.own,
                  );
                  own_seen = f.own_seen;
                  at_stage = f.at_stage;
                  sees = λ y. absurd (nowhere q.number (low_number R setup s k u other z i q e)
                      (f.at_stage ∙ y ∙ ap (λ (c : ℕ). c + 2) active_is));
                  holding = λ y. absurd (not_holding u i q (all.nobody other u apart z) e y);
                };
            front = begins_on h' g.history u.front begins was.front;
          };
          each = λ _. refl;
          one = omega (arith, one, busy_word g.word (λ z. omega (arith, z, taken)));
          idle = λ z. absurd (omega (arith, z, taken));
          free = λ z. absurd (omega (arith, z, taken));
        } in (
          w,
          give_all sides,
          given_valid s.homes sides ((0, Writer state) ∷ []),
          subst (λ (hs : Homes C O). LeftRightRule R setup (record {
            words = words;
            homes = hs;
            views = set s.views id w;
          })) (sym (given_homes s.homes sides ((0, Writer state) ∷ [])))
              (moved_kept R setup s k id v w g' words homes moved),
          (λ i. (
            with_state v (flipped R p (sym lagging_is i)),
            (given_none sides ((0, Writer state) ∷ []) ∙ sym left_is) i,
          )),
        )
      where
        active_is : active_side (standby_side p.head) ≡ standby_side p.head
        active_is = omega arith

        lagging_is : lagging_in hand ≡ add
        lagging_is = lagging_there (arc_value state.value.copies.active) state.value.length
            (standby_side p.head) 0 p.cleared sides state filled

        left_is : behind_handles hand ≡ (0, Writer state) ∷ []
        left_is = left_there (arc_value state.value.copies.active) state.value.length
            (standby_side p.head) 0 p.cleared sides state filled
