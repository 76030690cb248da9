-- A call of a client, under the lock.
use Rattle.std.proofs.Common.{◌≡◌, ◌∙◌, refl, sym, ap, subst, ℕ, List, [], ◌∷◌, ◌++◌}
use Rattle.std.specs.Box.{with_value}
use Rattle.atomic_table.specs.Seated.{TableId}
use Rattle.atomic_table.specs.Table.{rest}
use Rattle.mvcc_range.specs.Serial.{Transaction}
use Rattle.mvcc_range.specs.Steps.{RangeView}
use Rattle.mvcc_shared.specs.declared.served.Served.{Served}
use Rattle.mvcc_shared.specs.History.{
  Event,
  Call,
  Makes,
  History,
  BeginsWith,
  IsLegal,
  range_after,
  log_of,
  entries_of,
}
use Rattle.mvcc_shared.specs.Pending.{call_of}
use Rattle.mvcc_shared.specs.Rule.{StoredRange}
use Rattle.mvcc_shared.specs.Steps.{At, resting, holding, number_of, seen_of, seen_after}
use Rattle.mvcc_shared.specs.Steps.{Acquires}
use Rattle.mvcc_shared.specs.Participating.{
  Participant,
  IsAtRest,
  IsOf,
  IsSized,
  CanRelease,
  HasCalled,
}
use Rattle.mvcc_shared.specs.Serving.{HasMade}
use Rattle.mvcc_shared.specs.Clients.{ClientView, IsClient}
use Rattle.mvcc_shared.specs.Keeping.{range_of, client_view, KeepsClient}
use Rattle.mvcc_shared.specs.Answers.{GoesOn, Calls}
use Rattle.mvcc_shared.proofs.Histories.{begins_push, legal_push}

-- what is in hand is what was taken
hand_of : List (ℕ × StoredRange) → StoredRange → StoredRange
hand_of [] d = d
hand_of ((k, x) ∷ others) d = x

same_in_hand : (hand : List (ℕ × StoredRange)) (x y : StoredRange) (zs ws : List (ℕ × StoredRange))
    → hand ≡ (0, x) ∷ zs → hand ≡ (0, y) ∷ ws → x ≡ y
unfolding hand_of
same_in_hand hand x y zs ws e f = ap (λ h. hand_of h x) (sym e ∙ f)

pub has_in_hand : (me me' : At) (y : StoredRange) → Acquires me me' y → me'.1 ≡ (0, y) ∷ rest me'.1
has_in_hand me me' y a = subst (λ (hand : List (ℕ × StoredRange)). hand ≡ (0, y) ∷ rest hand)
    (sym (ap (λ (m : At). m.1) a.after)) refl

-- A client has acquired the lock, found y there, and put x in its place.
module _ (me me' : At) (y x : StoredRange) (old : Served) (rested : IsAtRest me)
    (a : Acquires me me' y) (found : old ≡ y.value) (made : HasMade old x.value) where
  abbrev pub hand : At
  hand = (me'.0, (0, x) ∷ rest me'.1)

  abbrev pub held : At
  held = (holding me.0.setup (number_of me.0) a.history, (0, x) ∷ [])

  abbrev pub from : RangeView
  from = range_after me.0.setup.opened a.history

  hand_is : hand ≡ held
  hand_is = (λ i. ((a.after i).0, (0, x) ∷ rest (a.after i).1))
      ∙ (λ i. (holding me.0.setup (number_of me.0) a.history, (0, x) ∷ (rested i).1))

  from_is : old.range ≡ from
  from_is = ap (λ (s : Served). s.range) found ∙ a.stands.range

  made_there : Makes from (call_of x.value.pending) x.value.range
  made_there = subst (λ (r : RangeView). Makes r (call_of x.value.pending) x.value.range) from_is
      made.made

  log_there : x.value.log.items ≡ log_of a.history ++ entries_of (call_of x.value.pending)
  log_there = made.log
      ∙ ap (λ (l : List Transaction). l ++ entries_of (call_of x.value.pending))
      (ap (λ (s : Served). s.log.items) found ∙ a.stands.log)

  -- It may release the lock,
  pub can_release : CanRelease hand x
  can_release = subst (λ (m : At). CanRelease m x) (sym hand_is)
      (record { holds = refl; made = made_there; log = log_there })

  -- and has then made a call.
  pub has_called : (me'' : At) (holds : RangeView → Call → RangeView → Type 0)
      → me'' ≡ (resting hand.0.setup (number_of hand.0) (seen_after hand.0 hand.1), [])
      → holds old.range (call_of x.value.pending) x.value.range → HasCalled me me'' holds
  has_called me'' holds left answers = record {
    before = a.history;
    call = call_of x.value.pending;
    range = x.value.range;
    after = left
        ∙ ap (λ (m : At). (resting m.0.setup (number_of m.0) (seen_after m.0 m.1), [])) hand_is;
    begins = a.begins;
    own = a.own;
    legal = a.legal;
    made = made_there;
    found = subst (λ (r : RangeView). holds r (call_of x.value.pending) x.value.range) from_is
        answers;
  }

-- the same, as the calls have it: what was found in the slot became something else there
module _ (me me' : At) (taken : (y : StoredRange) × Acquires me me' y) (slot : StoredRange)
    (old new : Served)
    (rested : IsAtRest me) (value : me'.1 ≡ (0, slot) ∷ rest me'.1) (found : old ≡ slot.value)
    (made : HasMade old new) where
  found_there : old ≡ taken.0.value
  found_there = found
      ∙ ap (λ (x : StoredRange). x.value) (same_in_hand me'.1 slot taken.0 (rest me'.1) me.1 value
      (ap (λ (m : At). m.1) taken.1.after))

  pub may_release : (x : StoredRange) × CanRelease (me'.0, (0, with_value slot new) ∷ rest me'.1) x
  may_release = (
    with_value slot new,
    can_release me me' taken.0 (with_value slot new) old rested taken.1 found_there made,
  )

  pub has_made : (me'' : At) (holds : RangeView → Call → RangeView → Type 0) → me'' ≡ (
    resting me'.0.setup (number_of me'.0)
        (seen_after me'.0 ((0, with_value slot new) ∷ rest me'.1)),
    [],
  ) → holds old.range (call_of new.pending) new.range → HasCalled me me'' holds
  has_made me'' holds left answers = has_called me me' taken.0 (with_value slot new) old rested
      taken.1 found_there made me'' holds left answers

-- ---- as the client has it

-- the client of a participant that has seen a history then
abbrev pub client_after : Participant → History → ClientView
client_after old seen = record {
  range = range_of old;
  number = number_of old.me.0;
  seen = seen;
}

module _ (old new : Participant) (seen : History) (table : new.table_id ≡ old.table_id)
    (is : new.me ≡ (resting old.me.0.setup (number_of old.me.0) seen, [])) where
  pub view_after : client_view new ≡ client_after old seen
  view_after = λ i. record {
    range = record { table = table i; terms = (is i).0.setup };
    number = number_of (is i).0;
    seen = seen_of (is i).0;
  }

  module _ (was : KeepsClient old) (legal : IsLegal old.me.0.setup seen) where
    is_client_after : IsClient (client_after old seen)
    is_client_after = record { number = was.client.number; legal = legal }

    -- it goes on,
    pub goes_on_after : BeginsWith seen (seen_of old.me.0)
        → GoesOn (client_view old) (client_view new)
    goes_on_after begins = subst (GoesOn (client_view old)) (sym view_after) (record {
      range = refl;
      number = refl;
      begins = begins;
      is_client = is_client_after;
    })

    -- and is kept
    pub kept_after : KeepsClient new
    kept_after = record {
      rest = subst IsAtRest (sym is) refl;
      client = subst IsClient (sym view_after) is_client_after;
      sized = subst IsSized (sym table) was.sized;
    }

-- a client that has made a call
module _ (old new : Participant) (holds : RangeView → Call → RangeView → Type 0)
    (table : new.table_id ≡ old.table_id) (was : KeepsClient old)
    (c : HasCalled old.me new.me holds) where
  abbrev event : Event
  event = record { client = number_of old.me.0; call = c.call; range = c.range }

  abbrev whole : History
  whole = c.before ++ event ∷ []

  legal : IsLegal old.me.0.setup whole
  legal = legal_push old.me.0.setup c.before event c.legal was.client.number c.made

  pub kept_called : KeepsClient new
  kept_called = kept_after old new whole table c.after was legal

  pub calls : Calls (client_view old) (client_view new) holds
  calls = record {
    goes_on = goes_on_after old new whole table c.after was legal
        (begins_push c.before (seen_of old.me.0) event c.begins);
    before = c.before;
    call = c.call;
    range = c.range;
    begins = c.begins;
    own = c.own;
    seen = ap (λ (v : ClientView). v.seen) (view_after old new whole table c.after);
    made = c.made;
    answers = c.found;
  }

-- a participant takes part in the table that is its own
pub of_table : (p : Participant) (table : TableId) → p.table_id ≡ table → KeepsClient p
    → IsOf p table
of_table p table same k = record { table = same; sized = subst IsSized same k.sized }
