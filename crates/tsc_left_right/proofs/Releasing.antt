-- A writer releases the lock.
use Rattle.std.proofs.Common.{◌≡◌, ◌∙◌, refl, sym, ap, subst, true, ℕ, ◌%◌}
use Rattle.std.proofs.Common.{List, [], ◌∷◌, ◌++◌, length, set, arith}
use Rattle.std.specs.Prelude.{false}
use mathlib.Core.Logic.{dite}
use native.Mathlib.Decide.{dec_le}
use mathlib.Core.Option as maybe
use lib.ListN.{get_elem?}
use Rattle.atomic_table.proofs.Lists.{set_here, set_else}
use Rattle.atomic_table.specs.Table.{gives as act_gives, chain as act_chain, Allows}
use Rattle.atomic_table.specs.Table.{homes_after, put_back, rest}
use Rattle.tsc_left_right.specs.declared.table.Setup.{Setup}
use Rattle.tsc_left_right.specs.declared.table.Slot.TheVariants.{Writer}
use Rattle.tsc_left_right.specs.declared.table.SeatState.{SeatState}
use Rattle.tsc_left_right.specs.declared.table.Knowledge.{Knowledge}
use Rattle.tsc_left_right.specs.Rule.{keeping, one_if, StoredState, SharedState, LeftRightRule}
use Rattle.tsc_left_right.specs.Rule.{IsAfter, HasNoted}
use Rattle.tsc_left_right.specs.Rule.{side_slot, active_side, standby_side}
use Rattle.tsc_left_right.specs.Steps.{Filled, Anything, released}
use Rattle.tsc_left_right.proofs.Hands.{Homes, Hand, put_all, give_all, given_homes, given_none}
use Rattle.tsc_left_right.proofs.Hands.{given_valid, put_length, put_apart, put_among}
use Rattle.tsc_left_right.proofs.Frames.{lock_word, other_slot, other_slots}
use Rattle.tsc_left_right.proofs.Moves.{Moved, moved_kept, of_one, knows_all}
use Rattle.tsc_left_right.proofs.Plain.{false_is_no, epoch_same}
use Rattle.tsc_left_right.proofs.Moves.{others_fit, writer_fits, writer_now}
use Rattle.tsc_left_right.specs.declared.replicated.Replicated.{Ghosts}

module _ {P C O S E : Type 0} (R : Ghosts P C O S E) where
  module _ (setup : Setup S) (slots : ℕ) (id : ℕ) (t : Setup S) (p : SeatState E)
      (state : StoredState C O) (sides : Hand C O) where
    abbrev releaser : Knowledge S E
    releaser = keeping t (p ∷ [])

    abbrev hand : Hand C O
    hand = sides ++ (0, Writer state) ∷ []

    pub release_allowed : p.holds ≡ true
        → Filled Anything (standby_side p.head) 0 sides p.cleared
        → IsAfter R t p.seen p.head state.value → HasNoted t.seats p.noted state.value
        → Allows (LeftRightRule R setup) slots id (releaser, hand) 0 (λ _. 0)
        (λ _ me'. me' ≡ (keeping t (released p ∷ []), []))
    release_allowed holds filled after noted s k deep at small =
        let all = knows_all R setup s k id t p holds at in
        let g : SharedState E = k.g in
        let w : Knowledge S E = keeping t (released p ∷ []) in
        let words : List ℕ = set s.words 0 0 in
        let put : Homes C O = put_all s.homes sides in
        let homes : Homes C O = set put 0 (maybe.some (Writer state)) in
        let tall = k.shape.deep in
        let one = all.one in
        let cleared_is = all.cleared in
        let head_is = all.head in
        let g' : SharedState E = writer_now g 0 0 g.noted in
        let moved : Moved R setup s k id releaser w g' words homes = record {
          at = at;
          legal = k.legal;
          limit = k.limit;
          shape = other_slot
              (other_slots (lock_word k.shape 0) put (put_length s.homes sides)) 0
              (maybe.some (Writer state));
          seats = λ r low. let ok = k.seats r low in
              let epoch = epoch_same s.words 0 0 r (omega arith) in record {
                unpinned = λ z. ap (λ (e : ℕ). e % 2) epoch ∙ ok.unpinned z;
                pinned = λ z. ap (λ (e : ℕ). e % 2) epoch ∙ ok.pinned z;
                active = λ n. let x = ok.active n in (
                  x.0,
                  set_else put 0 (side_slot r (active_side g.head)) (maybe.some (Writer state))
                      (λ z. omega (arith, z))
                      ∙ put_apart Anything (standby_side p.head) s.homes 0 sides p.cleared
                      (side_slot r (active_side g.head)) filled (λ q _ _ z. omega
                      (arith, z, head_is))
                      ∙ x.1,
                  x.2,
                );
                standby = λ _ n. dite (dec_le p.cleared r)
                    (λ above. let x = ok.standby (omega (arith, above, cleared_is)) n in (
                      x.0,
                      set_else put 0 (side_slot r (standby_side g.head)) (maybe.some (Writer state))
                          (λ z. omega (arith, z))
                          ∙ put_apart Anything (standby_side p.head) s.homes 0 sides p.cleared
                          (side_slot r (standby_side g.head)) filled (λ q _ less z. omega (
                            arith,
                            z,
                            less,
                            above,
                            head_is,
                          )) ∙ x.1,
                    ))
                    (λ below. let x = put_among Anything (standby_side p.head) s.homes 0 sides
                    p.cleared
                    r filled (omega arith) (omega (arith, below)) (omega (arith, tall, low)) in (
                      x.0,
                      ap (λ (c : ℕ). get_elem? homes (side_slot r (standby_side c))) (sym head_is)
                          ∙ set_else put 0 (side_slot r (standby_side p.head))
                          (maybe.some (Writer state)) (λ z. omega (arith, z)) ∙ x.1,
                    ));
                left = λ z. absurd (omega (arith, z));
                late = λ e b z. epoch ∙ ok.late e b z;
              };
          fits = of_one R t (released p) all.same (writer_fits R g p false 0 0 0 [] 0 g.noted
              all.mine
              (λ f. absurd (false_is_no f)));
          others = λ other u apart e. others_fit R setup g 0 0 g.noted u (all.nobody other u apart e)
              (k.views other u e);
          each = λ _. refl;
          one = omega (arith, one, ap one_if holds);
          idle = λ _. refl;
          free = λ _. (
            state,
            set_here put 0 (maybe.some (Writer state))
                (omega (arith, put_length s.homes sides, tall)),
            subst (λ (x : Setup S). IsAfter R x g.history g.head state.value) all.same
                (subst (λ (c : ℕ). IsAfter R t g.history c state.value) all.head
                (subst (λ (y : List E). IsAfter R t y p.head state.value) all.all after)),
            record {
              is = noted.is ∙ all.noted;
              long = ap length (sym all.noted) ∙ noted.long
                  ∙ ap (λ (x : Setup S). x.seats) all.same;
            },
          );
        } in (
          w,
          act_chain (give_all sides) act_gives,
          (given_valid s.homes sides ((0, Writer state) ∷ []), tt),
          subst (λ (c : Hand C O). LeftRightRule R setup (record {
            words = words;
            homes =
                put_back (homes_after s.homes hand (give_all sides)) c;
            views = set s.views id w;
          }))
              (sym (given_none sides ((0, Writer state) ∷ [])))
              (subst (λ (hs : Homes C O). LeftRightRule R setup (record {
                words = words;
                homes =
                    set hs 0 (maybe.some (Writer state));
                views = set s.views id w;
              }))
              (sym (given_homes s.homes sides ((0, Writer state) ∷ [])))
              (moved_kept R setup s k id releaser w g' words homes moved)),
          (λ i. (w, rest (given_none sides ((0, Writer state) ∷ []) i))),
        )
