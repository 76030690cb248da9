-- A seat is pinned, takes its slot of the active side, and is unpinned.
use Rattle.std.proofs.Common.{◌≡◌, ◌≢◌, ◌∙◌, refl, sym, ap, subst, ℕ, ◌+◌, ◌%◌, ◌^◌, ◌<◌, List, []}
use Rattle.std.proofs.Common.{◌∷◌, set, arith, slice_index, get_or-set_other}
use Rattle.std.proofs.Common.{get_or-set_same}
use Rattle.std.specs.Prelude.{◌==◌}
use mathlib.Core.Logic.{dite}
use native.Mathlib.Decide.{ℕ_discrete}
use mathlib.Core.Option as maybe
use lib.ListN.{get_elem?}
use lib.Seq.{set-get_or}
use Rattle.atomic_table.proofs.Lists.{set_here, set_else}
use Rattle.atomic_table.specs.Table.{Step, takes as act_takes, keeps as act_keeps}
use Rattle.atomic_table.specs.Table.{gives as act_gives, Allows}
use Rattle.tsc_left_right.specs.declared.table.Setup.{Setup}
use Rattle.tsc_left_right.specs.declared.table.Slot.{Slot}
use Rattle.tsc_left_right.specs.declared.table.SeatState.{SeatState}
use Rattle.tsc_left_right.specs.declared.table.Knowledge.{Knowledge}
use Rattle.tsc_left_right.specs.Rule.{keeping, one_if, SharedState, LeftRightRule, SeatFits, Shows}
use Rattle.tsc_left_right.specs.Rule.{IsHome, StateFits, states_of, head_word}
use Rattle.tsc_left_right.specs.Rule.{epoch_word, side_slot}
use Rattle.tsc_left_right.specs.Rule.{active_side, standby_side, HasShape}
use Rattle.tsc_left_right.specs.Steps.{staged, pins, reads_head, unpins}
use Rattle.tsc_left_right.proofs.Updates.{put, put_here, put_else}
use Rattle.tsc_left_right.proofs.Hands.{Homes, Hand}
use Rattle.tsc_left_right.proofs.Frames.{other_word, other_slot, same_word}
use Rattle.tsc_left_right.proofs.Moves.{Board, moved_kept, of_one, only_fits, low_number, not_its}
use Rattle.tsc_left_right.proofs.Plain.{same_number}
use Rattle.tsc_left_right.proofs.Moves.{no_other, seat_same}
use Rattle.tsc_left_right.specs.declared.replicated.Replicated.{Ghosts}
use Rattle.tsc_left_right.proofs.Prefixes.{begins_itself}

module _ {E : Type 0} where
  abbrev pub stage_now : SharedState E → ℕ → ℕ → SharedState E
  stage_now g n stage = record {
    history = g.history;
    head = g.head;
    word = g.word;
    stage_of =
        put g.stage_of n stage;
    cleared = g.cleared;
    noted = g.noted;
  }

module _ {P C O S E : Type 0} (R : Ghosts P C O S E) where
  -- A seat goes to another stage. Its own epoch and side slots alone change.
  pub record Stepped (setup : Setup S) (s : Board C O S E) (k : LeftRightRule R setup s)
      (p q : SeatState E) (stage : ℕ) (words : List ℕ) (homes : Homes C O) : Type 0 where
    pub shape : HasShape setup.seats k.g.word k.g.head words homes
    pub lock_slot_same : get_elem? homes 0 ≡ get_elem? s.homes 0
    pub others : (r : ℕ) → r ≢ p.number → (slice_index words (epoch_word r) ≡ slice_index s.words
        (epoch_word r)) × ((side : ℕ) → side < 2 → get_elem? homes (side_slot r side)
        ≡ get_elem? s.homes (side_slot r side))
    pub here : SeatFits R setup (stage_now k.g p.number stage) words homes p.number
    pub number_same : q.number ≡ p.number
    pub holds_same : q.holds ≡ p.holds
    pub fits : StateFits R (stage_now k.g p.number stage) q

  pub stage_kept : (setup : Setup S) (s : Board C O S E) (k : LeftRightRule R setup s) (id : ℕ)
      (t : Setup S) (p q : SeatState E) (stage : ℕ) (words : List ℕ) (homes : Homes C O)
      → get_elem? s.views id ≡ maybe.some (keeping t (p ∷ [])) → Stepped setup s k p q stage words
      homes
      → LeftRightRule R setup (record {
        words = words;
        homes = homes;
        views =
            set s.views id (keeping t (q ∷ []));
      })
  stage_kept setup s k id t p q stage words homes at m =
      let v : Knowledge S E = keeping t (p ∷ []) in
      let w : Knowledge S E = keeping t (q ∷ []) in
      let g : SharedState E = k.g in
      let n : ℕ = p.number in
      let g' : SharedState E = stage_now g n stage in
      let its : states_of n v ≡ 1 = omega (arith, ap one_if (same_number n n refl)) in
      moved_kept R setup s k id v w g' words homes (record {
        at = at;
        legal = k.legal;
        limit = k.limit;
        shape = m.shape;
        seats = λ r low. dite (ℕ_discrete r n)
            (λ is. subst (SeatFits R setup g' words homes) (sym is) m.here)
            (λ isnt. let o = m.others r isnt in seat_same R setup g g' s.words words s.homes homes r
            refl refl (put_else g.stage_of n stage r isnt) refl refl o.0 o.1 (k.seats r low));
        fits = of_one R t q ((k.views id v at).settled refl) m.fits;
        others = λ other u apart e. let was = k.views other u e in record {
          settled = was.settled;
          states = λ i x d. let f = was.states i x d in let isnt =
              not_its n u i x (no_other R setup s k id other n v u apart at e its) d in record {
                begins = f.begins;
                own = f.own;
                own_seen = f.own_seen;
                at_stage = put_else g.stage_of n stage x.number isnt ∙ f.at_stage;
                sees = f.sees;
                holding = f.holding;
              };
          front = was.front;
        };
        each = λ r. omega (arith, ap (λ (c : ℕ). one_if (c == r)) m.number_same);
        one = omega (arith, k.one, ap one_if m.holds_same);
        idle = k.idle;
        free = λ z. let f = k.free z in (f.0, m.lock_slot_same ∙ f.1, f.2, f.3);
      })

  module _ (setup : Setup S) (slots : ℕ) (st : Step (Slot C O)) (id : ℕ) (t : Setup S)
      (p : SeatState E) (hand : Hand C O) where
    abbrev v : Knowledge S E
    v = keeping t (p ∷ [])

    pub pin_allowed : p.stage ≡ 0 → Allows (LeftRightRule R setup) slots id (v, hand)
        (epoch_word p.number) (λ n. (n + 1) % 2 ^ 64) (pins st (v, hand))
    pin_allowed out s k deep at small =
        let g : SharedState E = k.g in
        let n : ℕ = p.number in
        let mine = only_fits R setup g t p (k.views id v at) in
        let low : n < setup.seats = low_number R setup s k v id at 0 p refl in
        let is : g.stage_of n ≡ 0 = mine.at_stage ∙ out in
        let ok = k.seats n low in
        let i : ℕ = epoch_word n in
        let e : ℕ = slice_index s.words i in
        let y : ℕ = (e + 1) % 18446744073709551616 in
        let even : e % 2 ≡ 0 = ok.unpinned is in
        let wide = k.shape.wide in
        let now : slice_index (set s.words i y) i ≡ y = get_or-set_same s.words i y 0
        (omega (arith, wide, low)) in
        let stage = put_here g.stage_of n 1 in (
          keeping t (staged p 1 ∷ []),
          act_keeps,
          tt,
          stage_kept setup s k id t p (staged p 1) 1 (set s.words i y) s.homes at (record {
            shape = other_word k.shape i y (λ z. omega (arith, z)) (λ z. omega (arith, z));
            lock_slot_same = refl;
            others = λ r isnt. (
              get_or-set_other s.words i (epoch_word r) y 0
                  (λ z. isnt (omega (arith, z))),
              λ _ _. refl,
            );
            here = record {
              unpinned = λ z. absurd (omega (arith, z, stage));
              pinned = λ _. ap (λ (x : ℕ). x % 2) now ∙ (let b : y % 2 ≡ 1 = omega (arith, even) in
                  b);
              active = λ _. ok.active (λ z. omega (arith, z, is));
              standby = λ c _. ok.standby c (λ z. omega (arith, z, is));
              left = λ _ z. omega (arith, z, stage);
              late = λ _ _ z. absurd (omega (arith, z, stage));
            };
            number_same = refl;
            holds_same = refl;
            fits = record {
              begins = mine.begins;
              own = mine.own;
              own_seen = mine.own_seen;
              at_stage = stage;
              sees = λ z. absurd (omega (arith, z));
              holding = mine.holding;
            };
          }),
          refl,
        )

    -- It has its slot of the active side.
    pub read_head_allowed : p.stage ≡ 1
        → Allows (LeftRightRule R setup) slots id (v, hand) head_word (λ n. n) (reads_head R st
        (v, hand))
    read_head_allowed pinned s k deep at small =
        let g : SharedState E = k.g in
        let h : List E = g.history in
        let n : ℕ = p.number in
        let mine = only_fits R setup g t p (k.views id v at) in
        let setup_same : t ≡ setup = (k.views id v at).settled refl in
        let low : n < setup.seats = low_number R setup s k v id at 0 p refl in
        let is : g.stage_of n ≡ 1 = mine.at_stage ∙ pinned in
        let ok = k.seats n low in
        let found : ℕ = slice_index s.words head_word in
        let side : ℕ = active_side found in
        let head = k.shape.head_is in
        let j : ℕ = side_slot n side in
        let words : List ℕ = set s.words head_word found in
        let homes : Homes C O = set s.homes j maybe.none in
        let same : (q : ℕ) → slice_index words q ≡ slice_index s.words q =
        λ q. ap (λ (ws : List ℕ). slice_index ws q) (set-get_or s.words head_word 0) in
        let x = subst (λ (f : ℕ). IsHome s.homes (side_slot n (active_side f)) (Shows R setup h))
        (sym head) (ok.active (λ z. omega (arith, z, is))) in
        let stage = put_here g.stage_of n (side + 2) in
        let q : SeatState E = record p { seen = h; stage = side + 2 } in (
          keeping t (q ∷ []),
          act_takes j x.0,
          x.1,
          stage_kept setup s k id t p q (side + 2) words homes at (record {
            shape = other_slot (same_word k.shape head_word) j maybe.none;
            lock_slot_same = set_else s.homes j 0 maybe.none (λ z. omega (arith, z));
            others = λ r isnt. (
              same (epoch_word r),
              λ c less. set_else s.homes j (side_slot r c)
                  maybe.none (λ z. isnt (omega (arith, z, less))),
            );
            here = record {
              unpinned = λ z. absurd (omega (arith, z, stage));
              pinned = λ _. ap (λ (b : ℕ). b % 2) (same (epoch_word n))
                  ∙ ok.pinned (omega (arith, is));
              active = λ z. absurd (z (omega (arith, stage, head)));
              standby = λ c _. let y = ok.standby c (λ z. omega (arith, z, is)) in (
                y.0,
                set_else s.homes j (side_slot n (standby_side g.head)) maybe.none
                    (λ z. omega (arith, z, head)) ∙ y.1,
              );
              left = λ _ z. omega (arith, z, stage, head);
              late = λ _ _ z. absurd (omega (arith, z, stage, head));
            };
            number_same = refl;
            holds_same = refl;
            fits = record {
              begins = begins_itself h;
              own = mine.own;
              own_seen = mine.own;
              at_stage = stage;
              sees = λ _. refl;
              holding = λ z. let knows = mine.holding z in
                  (refl, knows.1, knows.2, knows.3, knows.4);
            };
          }),
          (
            x.0,
            refl,
            record {
              history = h;
              after = refl;
              begins = mine.begins;
              legal =
                  rw setup_same k.legal;
              own = mine.own;
              limit = rw setup_same k.limit;
              shows =
                  subst (λ (y : Setup S). Shows R y h x.0) (sym setup_same) x.2;
            },
          ),
        )

    module _ (side : ℕ) (x : Slot C O) where
      -- It is unpinned.
      pub unpin_allowed : p.stage ≡ side + 2 → side < 2 → Shows R t p.seen x
          → Allows (LeftRightRule R setup) slots id (v, (side_slot p.number side, x) ∷ hand)
          (epoch_word p.number) (λ n. (n + 1) % 2 ^ 64)
          (unpins st (v, (side_slot p.number side, x) ∷ hand))
      unpin_allowed has small_side there s k deep at small =
          let g : SharedState E = k.g in
          let h : List E = g.history in
          let n : ℕ = p.number in
          let mine = only_fits R setup g t p (k.views id v at) in
          let same : t ≡ setup = (k.views id v at).settled refl in
          let low : n < setup.seats = low_number R setup s k v id at 0 p refl in
          let is : g.stage_of n ≡ side + 2 = mine.at_stage ∙ has in
          let ok = k.seats n low in
          let i : ℕ = epoch_word n in
          let j : ℕ = side_slot n side in
          let e : ℕ = slice_index s.words i in
          let y : ℕ = (e + 1) % 18446744073709551616 in
          let odd : e % 2 ≡ 1 = ok.pinned (omega (arith, is)) in
          let wide = k.shape.wide in
          let tall = k.shape.deep in
          let homes : Homes C O = set s.homes j (maybe.some x) in
          let stage = put_here g.stage_of n 0 in
          let now : slice_index (set s.words i y) i ≡ y = get_or-set_same s.words i y 0
          (omega (arith, wide, low)) in
          let back : (c : ℕ) → c ≡ side → get_elem? homes (side_slot n c)
          ≡ maybe.some (maybe.some x)
          = λ c z. ap (λ (b : ℕ). get_elem? homes (side_slot n b)) z
          ∙ set_here s.homes j (maybe.some x) (omega (arith, tall, low, small_side)) in
          let beside : (c : ℕ) → c ≢ side → get_elem? homes (side_slot n c) ≡ get_elem? s.homes
          (side_slot n c) = λ c z. set_else s.homes j (side_slot n c) (maybe.some x)
          (λ d. z (omega (arith, d))) in (
            keeping t (staged p 0 ∷ []),
            act_gives,
            tt,
            stage_kept setup s k id t p (staged p 0) 0 (set s.words i y) homes at (record {
              shape = other_slot
                  (other_word k.shape i y (λ z. omega (arith, z)) (λ z. omega (arith, z))) j
                  (maybe.some x);
              lock_slot_same = set_else s.homes j 0 (maybe.some x) (λ z. omega (arith, z));
              others = λ r isnt. (
                get_or-set_other s.words i (epoch_word r) y 0
                    (λ z. isnt (omega (arith, z))),
                λ c less. set_else s.homes j (side_slot r c)
                    (maybe.some x) (λ z. isnt (omega (arith, z, less, small_side))),
              );
              here = record {
                unpinned = λ _. ap (λ (b : ℕ). b % 2) now
                    ∙ (let b : y % 2 ≡ 0 = omega (arith, odd) in
                    b);
                pinned = λ z. absurd (omega (arith, z, stage));
                active = λ _. dite (ℕ_discrete (active_side g.head) side)
                    (λ z. (
                      x,
                      back (active_side g.head) z,
                      subst (λ (u : Setup S). Shows R u h x) same
                          (subst (λ (c : List E). Shows R t c x)
                          (mine.sees (has ∙ ap (λ (b : ℕ). b + 2) (sym z))) there),
                    ))
                    (λ z. let u = ok.active (λ d. z (omega (arith, d, is))) in
                    (u.0, beside (active_side g.head) z ∙ u.1, u.2));
                standby = λ c _. dite (ℕ_discrete (standby_side g.head) side)
                    (λ z. (x, back (standby_side g.head) z))
                    (λ z. let u = ok.standby c (λ d. z (omega (arith, d, is))) in
                    (u.0, beside (standby_side g.head) z ∙ u.1));
                left = λ _ z. omega (arith, z, stage);
                late = λ _ _ z. absurd (omega (arith, z, stage));
              };
              number_same = refl;
              holds_same = refl;
              fits = record {
                begins = mine.begins;
                own = mine.own;
                own_seen = mine.own_seen;
                at_stage = stage;
                sees = λ z. absurd (omega (arith, z));
                holding = mine.holding;
              };
            }),
            refl,
          )
