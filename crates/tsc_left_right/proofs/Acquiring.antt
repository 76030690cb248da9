-- A seat acquires the writer lock.
use Rattle.std.proofs.Common.{◌≡◌, ◌∙◌, refl, sym, ap, subst, Bool, false, ℕ, ◌+◌}
use Rattle.std.proofs.Common.{List, [], ◌∷◌, length, set, arith, slice_index}
use Rattle.std.proofs.Common.{ne_eqb}
use Rattle.std.specs.Prelude.{◌==◌, nat_lt}
use Rattle.std.specs.List.{sum_by}
use mathlib.Core.Logic.{dite}
use native.Mathlib.Decide.{ℕ_discrete}
use mathlib.Core.Option as maybe
use lib.ListN.{get_elem?}
use prog.Atomic.{either}
use Rattle.std.proofs.lemmas.Bool.{lt-ltb}
use Rattle.atomic_table.proofs.Lists.{set_else}
use Rattle.atomic_table.specs.Table.{Step, Act, takes as act_takes, keeps as act_keeps}
use Rattle.atomic_table.specs.Table.{Allows, Valid, stepped}
use Rattle.atomic_table.specs.Table.{carried_after}
use Rattle.tsc_left_right.specs.declared.table.Setup.{Setup}
use Rattle.tsc_left_right.specs.declared.table.Slot.{Slot}
use Rattle.tsc_left_right.specs.declared.table.Slot.TheVariants.{Writer}
use Rattle.tsc_left_right.specs.declared.table.SeatState.{SeatState}
use Rattle.tsc_left_right.specs.declared.table.Knowledge.{Knowledge}
use Rattle.tsc_left_right.specs.Rule.{keeping, one_if, SharedState, LeftRightRule}
use Rattle.tsc_left_right.specs.Rule.{holders}
use Rattle.tsc_left_right.specs.Rule.{side_slot}
use Rattle.tsc_left_right.specs.Steps.{acquired, acquires}
use Rattle.tsc_left_right.proofs.Totals.{part}
use Rattle.tsc_left_right.proofs.Hands.{Homes}
use Rattle.tsc_left_right.proofs.Frames.{lock_word, other_slot}
use Rattle.tsc_left_right.proofs.Moves.{Board, Moved, moved_kept, of_one, only_fits, unmoved}
use Rattle.tsc_left_right.proofs.Plain.{epoch_same}
use Rattle.tsc_left_right.proofs.Moves.{seat_same, others_fit, writer_now}
use Rattle.tsc_left_right.specs.declared.replicated.Replicated.{Ghosts}
use Rattle.tsc_left_right.proofs.Prefixes.{begins_itself}

module _ {P C O S E : Type 0} (R : Ghosts P C O S E) where
  module _ (setup : Setup S) (slots : ℕ) (st : Step (Slot C O)) (id : ℕ) (t : Setup S)
      (p : SeatState E) where
    abbrev acquirer : Knowledge S E
    acquirer = keeping t (p ∷ [])

    abbrev Goes : Board C O S E → ℕ → Type 0
    Goes s n = (w : Knowledge S E) × (a : Act (Slot C O)) × Valid s.homes [] a
        × LeftRightRule R setup (stepped s 0 (either (n == 0) (p.number + 1) n) id [] w a)
        × acquires R st (acquirer, []) n (
          w,
          carried_after [] a,
        )

    acquire_free : p.holds ≡ false → (s : Board C O S E) (k : LeftRightRule R setup s)
        → get_elem? s.views id
        ≡ maybe.some acquirer → slice_index s.words 0 ≡ 0 → Goes s (slice_index s.words 0)
    acquire_free idle_now s k at none =
        let free : k.g.word ≡ 0 = sym k.shape.word_is ∙ none in
        let here = k.free free in
        let g : SharedState E = k.g in
        let h : List E = g.history in
        let mine = only_fits R setup g t p (k.views id acquirer at) in
        let same : t ≡ setup = (k.views id acquirer at).settled refl in
        let nobody : sum_by holders s.views ≡ 0 = k.one ∙ ap (λ n. one_if (nat_lt 0 n)) free in
        let q : SeatState E = acquired p h g.head here.0.value.noted.items in
        let w : Knowledge S E = keeping t (q ∷ []) in
        let n1 : ℕ = p.number + 1 in
        let words : List ℕ = set s.words 0 n1 in
        let homes : Homes C O = set s.homes 0 maybe.none in
        let idle = k.idle free in
        let g' : SharedState E = writer_now g n1 g.cleared g.noted in
        let moved : Moved R setup s k id acquirer w g' words homes = record {
          at = at;
          legal = k.legal;
          limit = k.limit;
          shape = other_slot (lock_word k.shape n1) 0 maybe.none;
          seats = λ r low. seat_same R setup g g' s.words words s.homes homes r refl refl refl
              refl refl
              (epoch_same s.words 0 n1 r (omega arith))
              (λ side less. set_else s.homes 0 (side_slot r side) maybe.none
              (λ z. omega (arith, z))) (k.seats r low);
          fits = of_one R t q same (record {
            begins = begins_itself h;
            own = mine.own;
            own_seen = mine.own;
            at_stage = mine.at_stage;
            sees = λ _. refl;
            holding = λ _. (refl, omega arith, sym idle, here.3.is, refl);
          });
          others = λ other u apart e. others_fit R setup g n1 g.cleared g.noted u
              (omega (arith, nobody, part holders s.views other u e)) (k.views other u e);
          each = λ _. refl;
          one = omega (arith, nobody, ap one_if idle_now, ap one_if (lt-ltb 0 n1 (omega arith)));
          idle = λ z. absurd (omega (arith, z));
          free = λ z. absurd (omega (arith, z));
        } in (
          w,
          act_takes 0 (Writer here.0),
          here.1,
          subst (λ (n : ℕ). LeftRightRule R setup (stepped s 0 (either (n == 0) n1 n) id [] w
              (act_takes 0 (Writer here.0)))) (sym none)
              (moved_kept R setup s k id acquirer w g' words
              homes moved),
          (
            (λ _. (
              here.0,
              record {
                history = h;
                head = g.head;
                after = refl;
                begins = mine.begins;
                legal = rw same k.legal;
                own = mine.own;
                limit = rw same k.limit;
                is_after = rw same here.2;
                noted = ap length here.3.is ∙ here.3.long ∙ ap (λ (x : Setup S). x.seats) (sym same);
              },
              refl,
            )),
            (λ busy. absurd (busy none)),
          ),
        )

    pub acquire_allowed : p.holds ≡ false → Allows (LeftRightRule R setup) slots id (acquirer, []) 0
        (λ n. either (n == 0) (p.number + 1) n) (acquires R st (acquirer, []))
    acquire_allowed idle_now s k deep at small = dite (ℕ_discrete (slice_index s.words 0) 0)
        (λ none. acquire_free idle_now s k at none) (λ some. (
          acquirer,
          act_keeps,
          tt,
          subst (λ (b : Bool). LeftRightRule R setup
              (stepped s 0 (either b (p.number + 1) (slice_index s.words 0)) id [] acquirer
              act_keeps)) (sym (ne_eqb (slice_index s.words 0) 0 some))
              (unmoved R setup s k id acquirer 0 at),
          ((λ none. absurd (some none)), (λ _. refl)),
        ))
