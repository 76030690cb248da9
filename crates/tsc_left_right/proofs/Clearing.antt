-- The writer clears a seat, or notes its epoch.
use Rattle.std.proofs.Common.{◌≡◌, ◌≢◌, ◌⊎◌, ◌∙◌, inl, inr, refl, sym, ap, subst, Bool, true, false}
use Rattle.std.proofs.Common.{ℕ, zero, suc, ◌+◌, ◌%◌, ◌<◌, List, [], ◌∷◌, ◌++◌, length, set, arith}
use Rattle.std.proofs.Common.{slice_index, length-set}
use Rattle.std.specs.List.{slice_get}
use Rattle.std.specs.Prelude.{Option, Some, None, ◌==◌}
use Rattle.std.proofs.lemmas.Bool.Decides.{nat_tests}
use mathlib.Core.Logic.{dite}
use native.Mathlib.Decide.{ℕ_discrete}
use mathlib.Core.Option as maybe
use lib.ListN.{get_elem?}
use lib.Seq.{set-get_or}
use Rattle.atomic_table.proofs.Lists.{set_else}
use Rattle.atomic_table.specs.Table.{Step, Act, takes as act_takes, keeps as act_keeps, Allows}
use Rattle.atomic_table.specs.Table.{Valid, stepped, carried_after}
use Rattle.tsc_left_right.specs.declared.table.Setup.{Setup}
use Rattle.tsc_left_right.specs.declared.table.Slot.{Slot}
use Rattle.tsc_left_right.specs.declared.table.SeatState.{SeatState}
use Rattle.tsc_left_right.specs.declared.table.Knowledge.{Knowledge}
use Rattle.tsc_left_right.specs.Rule.{keeping, SharedState, LeftRightRule, SeatFits}
use Rattle.tsc_left_right.specs.Rule.{epoch_word, head_word, side_slot, active_side, standby_side}
use Rattle.tsc_left_right.specs.Steps.{clearing, noting, has_left, clears, passes, notes}
use Rattle.tsc_left_right.proofs.Hands.{Homes, Hand}
use Rattle.tsc_left_right.proofs.Plain.{some_same}
use Rattle.tsc_left_right.proofs.Frames.{same_word, other_slots}
use Rattle.tsc_left_right.proofs.Moves.{Board, knows_all, moved_kept, of_one, unmoved}
use Rattle.tsc_left_right.proofs.Plain.{same_number, none_is_no, false_is_no}
use Rattle.tsc_left_right.proofs.Moves.{others_fit, writer_fits, writer_now}
use Rattle.tsc_left_right.specs.declared.replicated.Replicated.{Ghosts}

module _ {P C O S E : Type 0} (R : Ghosts P C O S E) where
  -- A seat whose epoch is odd, and is still the one that was noted, has not left.
  not_left : (noted : Option ℕ) (e : ℕ) → e % 2 ≡ 1 → ((w : ℕ) → noted ≡ Some w → e ≡ w)
      → has_left noted e ≡ true → ⊥
  not_left None e odd still left = omega (
    arith,
    odd,
    (let g : e % 2 ≡ 0 = grind (arith, nat_tests) in
        g),
  )
  not_left (Some w) e odd still left =
      let even : (e % 2 == 0) ≡ false = grind (arith, nat_tests) in
      let same : (w == e) ≡ true = same_number w e (sym (still w refl)) in
      let none : has_left (Some w) e ≡ false = rw (even, same) refl in
      false_is_no (sym none ∙ left)

  -- What is noted of a seat is noted before the last, or is the last.
  noted_before : (noted : List ℕ) (e r w : ℕ) → slice_get (noted ++ e ∷ []) r ≡ Some w
      → (slice_get noted r ≡ Some w) ⊎ ((r ≡ length noted) × (e ≡ w))
  noted_before [] e zero w is = inr (refl, some_same e w is)
  noted_before [] e (suc r) w is = absurd (none_is_no w is)
  noted_before (x ∷ xs) e zero w is = inl is
  noted_before (x ∷ xs) e (suc r) w is = elim (noted_before xs e r w is) [
    | inl was ↦ inl was
    | inr last ↦ inr (ap suc last.0, last.1)
  ]

  module _ (setup : Setup S) (slots : ℕ) (st : Step (Slot C O)) (id : ℕ) (t : Setup S)
      (p : SeatState E) (hand : Hand C O) where
    abbrev holder : Knowledge S E
    holder = keeping t (p ∷ [])

    abbrev Clears : Board C O S E → ℕ → Type 0
    Clears s n = (w : Knowledge S E) × (a : Act (Slot C O)) × Valid s.homes hand a
        × LeftRightRule R setup
        (stepped s (epoch_word p.cleared) n id hand w a) × clears st (holder, hand) n (
          w,
          carried_after hand a,
        )

    -- The writer goes on: it has cleared so many seats then, and has noted these epochs.
    goes_on : (s : Board C O S E) (k : LeftRightRule R setup s) (i c : ℕ) (noted : List ℕ)
        (homes : Homes C O) → p.holds ≡ true → get_elem? s.views id ≡ maybe.some holder
        → length homes ≡ length s.homes
        → ((r : ℕ) → r < setup.seats → SeatFits R setup (writer_now k.g k.g.word c noted)
        (set s.words i (slice_index s.words i)) homes r)
        → LeftRightRule R setup (record {
          words = set s.words i (slice_index s.words i);
          homes = homes;
          views = set s.views id (keeping t (noting (clearing p c) noted ∷ []));
        })
    goes_on s k i c noted homes holds at as_deep seats =
        let all = knows_all R setup s k id t p holds at in
        let g : SharedState E = k.g in
        let taken = all.taken in
        let q : SeatState E = noting (clearing p c) noted in
        moved_kept R setup s k id holder (keeping t (q ∷ [])) (writer_now g g.word c noted)
        (set s.words i (slice_index s.words i)) homes (record {
          at = at;
          legal = k.legal;
          limit = k.limit;
          shape = other_slots (same_word k.shape i) homes as_deep;
          seats = seats;
          fits = of_one R t q all.same
              (writer_fits R g p p.holds g.word p.head c noted c noted all.mine
              (λ _. (all.all, all.taken, refl, refl, all.head)));
          others = λ other u apart z. others_fit R setup g g.word c noted u
              (all.nobody other u apart z) (k.views other u z);
          each = λ _. refl;
          one = omega (arith, k.one);
          idle = λ z. absurd (omega (arith, z, taken));
          free = λ z. absurd (omega (arith, z, taken));
        })

    -- The next seat has left: its slot of the standby side goes into the writer's hand.
    abbrev Takes : Board C O S E → ℕ → Type 0
    Takes s i = (x : Slot C O)
        × (get_elem? s.homes (side_slot p.cleared (standby_side p.head))
        ≡ maybe.some (maybe.some x))
        × LeftRightRule R setup (record {
          words = set s.words i (slice_index s.words i);
          homes = set s.homes (side_slot p.cleared (standby_side p.head)) maybe.none;
          views = set s.views id (keeping t (clearing p (suc p.cleared) ∷ []));
        })

    takes_next : (s : Board C O S E) (k : LeftRightRule R setup s) (i : ℕ) → p.holds ≡ true
        → get_elem? s.views id ≡ maybe.some holder → p.cleared < t.seats
        → k.g.stage_of p.cleared ≢ standby_side k.g.head + 2 → Takes s i
    takes_next s k i holds at pinned gone_from =
        let all = knows_all R setup s k id t p holds at in
        let g : SharedState E = k.g in
        let hidden : ℕ = standby_side g.head in
        let e : ℕ = slice_index s.words i in
        let j : ℕ = side_slot p.cleared (standby_side p.head) in
        let same : (q : ℕ) → slice_index (set s.words i e) q ≡ slice_index s.words q =
        λ q. ap (λ (ws : List ℕ). slice_index ws q) (set-get_or s.words i 0) in
        let within : p.cleared < setup.seats = omega (
          arith,
          pinned,
          ap (λ (x : Setup S). x.seats) all.same,
        ) in
        let cleared_is = all.cleared in
        let head_is = all.head in
        let here = k.seats p.cleared within in
        let x = here.standby (omega (arith, cleared_is)) gone_from in
        let homes : Homes C O = set s.homes j maybe.none in (
          x.0,
          ap (λ (c : ℕ). get_elem? s.homes (side_slot p.cleared c)) (omega (arith, head_is)) ∙ x.1,
          goes_on s k i (suc p.cleared) p.noted homes holds at (length-set s.homes j maybe.none)
              (λ r low. let ok = k.seats r low in record {
                unpinned = λ z. ap (λ (b : ℕ). b % 2) (same (epoch_word r)) ∙ ok.unpinned z;
                pinned = λ z. ap (λ (b : ℕ). b % 2) (same (epoch_word r)) ∙ ok.pinned z;
                active = λ n. let y = ok.active n in (
                  y.0,
                  set_else s.homes j (side_slot r (active_side g.head)) maybe.none
                      (λ z. omega (arith, z, head_is)) ∙ y.1,
                  y.2,
                );
                standby = λ c n. let y = ok.standby (omega (arith, c, cleared_is)) n in (
                  y.0,
                  set_else s.homes j (side_slot r hidden) maybe.none (λ z. omega (
                    arith,
                    z,
                    head_is,
                    c,
                  )) ∙ y.1,
                );
                left = λ c. dite (ℕ_discrete r p.cleared)
                    (λ z. subst (λ (q : ℕ). g.stage_of q ≢ hidden + 2) (sym z) gone_from)
                    (λ z. ok.left (omega (arith, c, z, cleared_is)));
                late = λ w is z. same (epoch_word r)
                    ∙ ok.late w (ap (λ (l : List ℕ). slice_get l r) (sym all.noted) ∙ is) z;
              }),
        )

    -- Who is on the standby side has an odd epoch, as it was noted.
    as_noted : (s : Board C O S E) (k : LeftRightRule R setup s) → p.holds ≡ true
        → get_elem? s.views id ≡ maybe.some holder → p.cleared < t.seats
        → k.g.stage_of p.cleared ≡ standby_side k.g.head + 2
        → (slice_index s.words (epoch_word p.cleared) % 2 ≡ 1)
        × ((w : ℕ) → slice_get p.noted p.cleared ≡ Some w
        → slice_index s.words (epoch_word p.cleared) ≡ w)
    as_noted s k holds at pinned z =
        let all = knows_all R setup s k id t p holds at in
        let here = k.seats p.cleared (omega (
          arith,
          pinned,
          ap (λ (x : Setup S). x.seats) all.same,
        )) in (
          here.pinned (omega (arith, z)),
          λ w is. here.late w (ap (λ (l : List ℕ). slice_get l p.cleared) (sym all.noted) ∙ is) z,
        )

    pub clear_allowed : p.holds ≡ true → p.cleared < t.seats → p.stage ≡ 0
        → Allows (LeftRightRule R setup) slots id (holder, hand) (epoch_word p.cleared) (λ n. n)
        (clears st (holder, hand))
    clear_allowed holds pinned out s k deep at small =
        let i : ℕ = epoch_word p.cleared in
        let e : ℕ = slice_index s.words i in
        let j : ℕ = side_slot p.cleared (standby_side p.head) in
        let watched : Option ℕ = slice_get p.noted p.cleared in
        let left : has_left watched e ≡ true → Clears s e = λ gone.
        let took = takes_next s k i holds at pinned (λ z. let b = as_noted s k holds at pinned z in
        not_left watched e b.0 b.1 gone) in (
          keeping t (clearing p (suc p.cleared) ∷ []),
          act_takes j took.0,
          took.1,
          took.2,
          ((λ _. (took.0, refl)), (λ f. absurd (false_is_no (sym f ∙ gone)))),
        ) in
        let stays : has_left watched e ≡ false → Clears s e = λ still. (
          holder,
          act_keeps,
          tt,
          unmoved R setup s k id holder i at,
          ((λ f. absurd (false_is_no (sym still ∙ f))), (λ _. refl)),
        ) in by_test (has_left watched e) refl left stays
      where
        by_test : {P : Type 0} (b : Bool) {c : Bool} → c ≡ b → (c ≡ true → P) → (c ≡ false → P) → P
        by_test {P} true {c} is yes_ no_ = yes_ is
        by_test {P} false {c} is yes_ no_ = no_ is

    -- A seat that was outside when its epoch was noted has left.
    pub pass_allowed : (w : ℕ) → p.holds ≡ true → p.cleared < t.seats
        → slice_get p.noted p.cleared ≡ Some w → w % 2 ≡ 0
        → Allows (LeftRightRule R setup) slots id (holder, hand) head_word (λ n. n)
        (passes st (holder, hand))
    pass_allowed w holds pinned is even s k deep at small =
        let took = takes_next s k head_word holds at pinned (λ z.
        let b = as_noted s k holds at pinned z in omega (arith, b.0, b.1 w is, even)) in (
          keeping t (clearing p (suc p.cleared) ∷ []),
          act_takes (side_slot p.cleared (standby_side p.head)) took.0,
          took.1,
          took.2,
          (took.0, refl),
        )

    -- The epoch of the next seat is noted.
    pub note_allowed : p.holds ≡ true
        → Allows (LeftRightRule R setup) slots id (holder, hand) (epoch_word (length p.noted))
        (λ n. n) (notes st (holder, hand))
    note_allowed holds s k deep at small =
        let all = knows_all R setup s k id t p holds at in
        let i : ℕ = epoch_word (length p.noted) in
        let e : ℕ = slice_index s.words i in
        let cleared_is = all.cleared in
        let same : (q : ℕ) → slice_index (set s.words i e) q ≡ slice_index s.words q =
        λ q. ap (λ (ws : List ℕ). slice_index ws q) (set-get_or s.words i 0) in (
          keeping t (noting p (p.noted ++ e ∷ []) ∷ []),
          act_keeps,
          tt,
          goes_on s k i p.cleared (p.noted ++ e ∷ []) s.homes holds at refl
              (λ r low. let ok = k.seats r low in record {
                unpinned = λ z. ap (λ (b : ℕ). b % 2) (same (epoch_word r)) ∙ ok.unpinned z;
                pinned = λ z. ap (λ (b : ℕ). b % 2) (same (epoch_word r)) ∙ ok.pinned z;
                active = ok.active;
                standby = λ c n. ok.standby (omega (arith, c, cleared_is)) n;
                left = λ c. ok.left (omega (arith, c, cleared_is));
                late = λ w is z. same (epoch_word r) ∙ elim (noted_before p.noted e r w is) [
                  | inl was ↦ ok.late w
                      (ap (λ (l : List ℕ). slice_get l r) (sym all.noted) ∙ was) z
                  | inr last ↦ ap (λ (c : ℕ). slice_index s.words (epoch_word c)) last.0 ∙ last.1
                ];
              }),
          refl,
        )
