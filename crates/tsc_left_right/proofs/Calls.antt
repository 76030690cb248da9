-- The steps in the shape that the calls ask for.
use Rattle.std.proofs.Common.{◌≡◌, ◌∙◌, refl, sym, ap, subst, ℕ, ◌+◌, ◌%◌, ◌^◌, [], ◌∷◌}
use Rattle.std.specs.Prelude.{◌==◌}
use prog.Atomic.{either}
use Rattle.atomic_table.specs.Table.{Step, Allows, rest}
use Rattle.atomic_table.specs.Seated.{TableId}
use Rattle.tsc_left_right.specs.declared.table.Setup.{Setup}
use Rattle.tsc_left_right.specs.declared.table.Slot.{Slot}
use Rattle.tsc_left_right.specs.declared.table.Knowledge.{Knowledge}
use Rattle.tsc_left_right.specs.Rule.{LeftRightRule, at_rest, active_side, epoch_word, side_slot}
use Rattle.tsc_left_right.specs.Steps.{At, state_in, with_state, number_of, seen_of, count_of}
use Rattle.tsc_left_right.specs.Steps.{staged, acquires, pins, reads_head, unpins, SeesAll}
use Rattle.tsc_left_right.specs.Participating.{Participant, IsOf, IsSized, IsAtRest, KeepsOne}
use Rattle.tsc_left_right.specs.Participating.{IsFree, IsPinned}
use Rattle.tsc_left_right.proofs.Hands.{Hand}
use Rattle.tsc_left_right.proofs.Acquiring.{acquire_allowed}
use Rattle.tsc_left_right.proofs.Pinning.{pin_allowed, read_head_allowed, unpin_allowed}
use Rattle.tsc_left_right.specs.declared.replicated.Replicated.{Ghosts}

module _ {C O : Type 0} where
  -- the slot that is first in hand
  pub first_in : (slots others : Hand C O) (i j : ℕ) (x : Slot C O) → slots ≡ (j, x) ∷ others
      → i ≡ j → (y : Slot C O) × (slots ≡ (i, y) ∷ rest slots)
  first_in slots others i j x is same = (x, is ∙ (λ k. (sym same k, x) ∷ rest (sym is k)))

module _ {C O S E : Type 0} where
  -- what a participant knows and has in hand, written out
  pub whole : (me : At C O S E) (hand : Hand C O) → KeepsOne me.0 → me.1 ≡ hand
      → me ≡ (with_state me.0 (state_in me.0), hand)
  whole me hand one is = λ i. (one i, is i)

  -- a seat at rest that was pinned
  pub pinned_then : (me me' : At C O S E) → IsAtRest me → me' ≡ (
    with_state me.0 (staged (state_in me.0) 1),
    me.1,
  ) → me' ≡ (with_state me.0 (staged (state_in me.0) 1), [])
  pinned_then me me' rested is = is ∙ (λ i. (
    with_state me.0 (staged (state_in me.0) 1),
    (rested i).1,
  ))

  -- one that takes part still does
  pub still_of : (p q : Participant C O S E) (id : TableId) → IsOf p id → q.table_id ≡ p.table_id
      → q.me.0.setup ≡ p.me.0.setup → IsOf q id
  still_of p q id of table setup = record {
    table = table ∙ of.table;
    sized =
        subst (λ (x : Setup S). IsSized id x.seats) (sym setup) of.sized;
  }

module _ {P C O S E : Type 0} (R : Ghosts P C O S E) where
  pub acquire_at : (key : Setup S) (slots : ℕ) (st : Step (Slot C O)) (id number : ℕ)
      (me : At C O S E) → IsFree me → number ≡ number_of me.0
      → Allows (LeftRightRule R key) slots id me 0 (λ n. either (n == 0) (number + 1) n)
      (acquires R st me)
  acquire_at key slots st id number me free is =
      subst (λ (n : ℕ). Allows (LeftRightRule R key) slots id me 0 (λ m. either (m == 0) (n + 1) m)
      (acquires R st me)) (sym is)
      (subst (λ (m : At C O S E). Allows (LeftRightRule R key) slots id m 0 (λ n. either (n == 0)
      (number_of me.0 + 1) n) (acquires R st m)) (sym (whole me [] free.one free.hand))
      (acquire_allowed R key slots st id me.0.setup (state_in me.0) free.holds))

  pub pin_at : (key : Setup S) (slots : ℕ) (st : Step (Slot C O)) (id number word : ℕ)
      (me : At C O S E) → IsAtRest me → number ≡ number_of me.0 → word ≡ epoch_word number
      → Allows (LeftRightRule R key) slots id me word (λ n. (n + 1) % 2 ^ 64) (pins st me)
  pin_at key slots st id number word me rested is at =
      subst (λ (n : ℕ). Allows (LeftRightRule R key) slots id me n (λ n. (n + 1) % 2 ^ 64)
      (pins st me)) (sym (at ∙ ap epoch_word is))
      (subst (λ (m : At C O S E). Allows (LeftRightRule R key) slots id m (epoch_word
      (number_of me.0)) (λ n. (n + 1) % 2 ^ 64) (pins st m)) (sym rested)
      (pin_allowed R key slots st id me.0.setup (at_rest (number_of me.0) (seen_of me.0)
      (count_of me.0)) [] refl))

  pub read_head_at : (key : Setup S) (slots : ℕ) (st : Step (Slot C O)) (id : ℕ)
      (v : Knowledge S E) (me : At C O S E) → me ≡ (with_state v (staged (state_in v) 1), [])
      → Allows (LeftRightRule R key) slots id me 16 (λ n. n) (reads_head R st me)
  read_head_at key slots st id v me is = subst (λ (m : At C O S E). Allows
      (LeftRightRule R key) slots id m
      16 (λ n. n) (reads_head R st m)) (sym is) (read_head_allowed R key slots st id v.setup
      (staged (state_in v) 1) [] refl)

  -- what it has seen then, by what it knew before it was pinned
  pub seen_at : (st : Step (Slot C O)) (found number : ℕ) (v : Knowledge S E) (me me' : At C O S E)
      → me ≡ (with_state v (staged (state_in v) 1), []) → number ≡ number_of v
      → reads_head R st me found me' → (x : Slot C O) × (head : ℕ) × (found % 2 ≡ active_side head)
      × (me'.1 ≡ (side_slot number (found % 2), x) ∷ []) × SeesAll R v me'.0 head x
  seen_at st found number v me me' is same looked =
      let l : reads_head R st (with_state v (staged (state_in v) 1), []) found me' =
      subst (λ (m : At C O S E). reads_head R st m found me') is looked in
      let s = l.2 in (
        l.0,
        found,
        refl,
        l.1 ∙ ap (λ (n : ℕ). (side_slot n (found % 2), l.0) ∷ []) (sym same),
        record {
          history = s.history;
          after = s.after;
          begins = s.begins;
          legal = s.legal;
          own =
              s.own;
          limit = s.limit;
          shows = s.shows;
        },
      )

  pub unpin_at : (key : Setup S) (slots : ℕ) (st : Step (Slot C O)) (id number word : ℕ)
      (me : At C O S E) (side : ℕ)
      (x : Slot C O) → IsPinned R me side x → number ≡ number_of me.0 → word ≡ epoch_word number
      → Allows (LeftRightRule R key) slots id me word (λ n. (n + 1) % 2 ^ 64) (unpins st me)
  unpin_at key slots st id number word me side x pinned is at =
      subst (λ (n : ℕ). Allows (LeftRightRule R key) slots id me n (λ n. (n + 1) % 2 ^ 64)
      (unpins st me)) (sym (at ∙ ap epoch_word is))
      (subst (λ (m : At C O S E). Allows (LeftRightRule R key) slots id m (epoch_word
      (number_of me.0)) (λ n. (n + 1) % 2 ^ 64) (unpins st m))
      (sym (whole me ((side_slot (number_of me.0) side, x) ∷ []) pinned.one pinned.hand))
      (unpin_allowed R key slots st id me.0.setup (state_in me.0) [] side x pinned.stage
      pinned.small
      pinned.shows))
