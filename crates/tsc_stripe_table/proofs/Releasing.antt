-- A seat releases the lock that it acquired last, and lays its stripe back.
use Rattle.std.proofs.Common.{◌≡◌, ◌≢◌, ◌∙◌, inl, inr, refl, sym, ap, subst, ℕ, suc, ◌+◌, ◌<◌, List}
use Rattle.std.proofs.Common.{[], ◌∷◌, ◌++◌, length, set, arith, slice_index, length-set}
use Rattle.std.specs.Prelude.{◌==◌, nat_lt}
use Rattle.std.specs.List.{sum_by}
use mathlib.Core.Option as maybe
use lib.ListN.{get_elem?}
use Rattle.atomic_table.proofs.Lists.{set_else, set_here}
use Rattle.atomic_table.specs.Table.{Step, Act, gives as act_gives, Allows, Valid, stepped}
use Rattle.atomic_table.specs.Table.{carried_after, rest}
use Rattle.tsc_span.specs.Span.{KeyBytes}
use Rattle.tsc_cache.specs.State.{CacheState}
use Rattle.tsc_cache.specs.CacheView.{RepresentsState}
use Rattle.tsc_cache.specs.declared.history.Entry.{Entry}
use Rattle.tsc_cache.specs.History.{History, own_count, state_of, IsLegal, IsMadeEntry}
use Rattle.tsc_cache.proofs.Beginnings.{begins_itself, begins_on}
use Rattle.tsc_stripe_table.specs.declared.table.SeatState.{SeatState}
use Rattle.tsc_stripe_table.specs.declared.table.Knowledge.{Knowledge}
use Rattle.tsc_stripe_table.specs.Stripes.{Terms, stripe_count, part_of, entry_in, IsStateOn}
use Rattle.tsc_stripe_table.specs.Rule.{StoredStripe, keeping, one_if, lock_word, times_held, holders}
use Rattle.tsc_stripe_table.specs.Rule.{states_of, StateFits, KnowledgeFits, StripesRule, IsHome}
use Rattle.tsc_stripe_table.specs.Steps.{At, state_in, with_state, holds_of, reached_of, earlier}
use Rattle.tsc_stripe_table.specs.Steps.{reached_with, released, released_seen, committed}
use Rattle.tsc_stripe_table.specs.Steps.{releases, releases_seen, commits, Commits, AgreeOn}
use Rattle.tsc_stripe_table.specs.Steps.{IsCovered, entry_of, entry_of_batch, commits_batch}
use Rattle.tsc_stripe_table.specs.Participating.{HasStripe, CanRelease, CanCommit}
use Rattle.tsc_stripe_table.specs.Participating.{CanCommitBatch}
use Rattle.tsc_stripe_table.proofs.Prefixes.{begins_more, legal_push, own_append, own_of_one}
use Rattle.tsc_stripe_table.proofs.Prefixes.{own_of_other}
use Rattle.tsc_stripe_table.proofs.Totals.{part}
use Rattle.tsc_stripe_table.proofs.Moves.{Board, Homes, Moved, moved_kept, of_one, only_fits}
use Rattle.tsc_stripe_table.proofs.Moves.{busy_in, same_number, other_number, held_once}
use Rattle.tsc_stripe_table.proofs.Moves.{at_most_one, low_number, no_other, no_other_holder}
use Rattle.tsc_stripe_table.proofs.Moves.{held_is_busy, not_its}
use Rattle.tsc_stripe_table.proofs.Parts.{same_or_not, held_cons, busy_set, busy_else, word_else}
use Rattle.tsc_stripe_table.proofs.Parts.{part_push, part_untouched}

-- a seat that holds this stripe, which it acquired last, and some others
abbrev pub holding : SeatState → ℕ → List ℕ → SeatState
holding p stripe others = record p { holds = stripe ∷ others }

-- Once the lock is released, the seat's state fits still.
pub released_fits : (bounds : List KeyBytes) (h : History) (p : SeatState) (stripe : ℕ)
    (others : List ℕ) → StateFits bounds h (holding p stripe others)
    → StateFits bounds h (released (holding p stripe others))
released_fits bounds h p stripe [] f = record {
  begins = f.begins;
  own = f.own;
  own_seen = f.own_seen;
  order = tt;
  reached = λ some. absurd (omega (arith, some));
  held = λ j some. absurd (omega (arith, some));
}
released_fits bounds h p stripe (i ∷ others) f =
    let r = f.reached (omega arith) in record {
      begins = f.begins;
      own = f.own;
      own_seen = f.own_seen;
      order = f.order.1;
      reached = λ _. record { begins = r.begins; onward = r.onward; own = r.own };
      held = λ j some. f.held j (omega (arith, some, held_cons j stripe (i ∷ others)));
    }

-- It does so too where the seat has then seen what it had reached.
pub released_seen_fits : (bounds : List KeyBytes) (h : History) (p : SeatState) (stripe : ℕ)
    (others : List ℕ) → StateFits bounds h (holding p stripe others)
    → StateFits bounds h (released_seen (holding p stripe others))
released_seen_fits bounds h p stripe [] f =
    let r = f.reached (omega arith) in record {
      begins = r.begins;
      own = f.own;
      own_seen = r.own;
      order = tt;
      reached = λ some. absurd (omega (arith, some));
      held = λ j some. absurd (omega (arith, some));
    }
released_seen_fits bounds h p stripe (i ∷ others) f =
    let r = f.reached (omega arith) in record {
      begins = r.begins;
      own = f.own;
      own_seen = r.own;
      order = f.order.1;
      reached = λ _. record { begins = r.begins; onward = begins_itself p.reached; own = r.own };
      held = λ j some. f.held j (omega (arith, some, held_cons j stripe (i ∷ others)));
    }

-- And so it does after one more Add of the seat, which has then seen all.
pub committed_fits : (bounds : List KeyBytes) (h g : History) (p : SeatState) (stripe : ℕ)
    (others : List ℕ) → StateFits bounds h (holding p stripe others)
    → own_count p.number g ≡ suc p.count
    → StateFits bounds g (committed (holding p stripe others) g)
committed_fits bounds h g p stripe [] f own = record {
  begins = begins_itself g;
  own = own;
  own_seen = own;
  order = tt;
  reached = λ some. absurd (omega (arith, some));
  held = λ j some. absurd (omega (arith, some));
}
committed_fits bounds h g p stripe (i ∷ others) f own = record {
  begins = begins_itself g;
  own = own;
  own_seen = own;
  order = f.order.1;
  reached = λ _. record { begins = begins_itself g; onward = begins_itself g; own = own };
  held = λ j some. refl;
}

-- Who neither keeps the state of an entry's seat nor holds a stripe on which the entry lies fits
-- the history with that entry.
pub more_of_another : (setup : Terms) (h : History) (e : Entry) (u : Knowledge)
    → states_of e.seat u ≡ 0
    → ((j : ℕ) → 0 < holders j u → entry_in setup.bounds j e ≡ [])
    → KnowledgeFits setup h u → KnowledgeFits setup (h ++ e ∷ []) u
more_of_another setup h e u none apart fits = record {
  settled = fits.settled;
  states = λ i q d. let f = fits.states i q d in record {
    begins = begins_on (h ++ e ∷ []) h q.seen (begins_more h (e ∷ [])) f.begins;
    own = omega (
      arith,
      own_append q.number h (e ∷ []),
      own_of_other q.number e (λ is. not_its e.seat u i q none d (sym is)),
      f.own,
    );
    own_seen = f.own_seen;
    order = f.order;
    reached = λ some. let r = f.reached some in record {
      begins = begins_on (h ++ e ∷ []) h q.reached (begins_more h (e ∷ [])) r.begins;
      onward = r.onward;
      own = r.own;
    };
    held = λ j some. part_untouched setup.bounds j h e
        (apart j (omega (
          arith,
          some,
          part (λ (x : SeatState). times_held j x.holds) u.states i q d,
        ))) ∙ f.held j some;
  };
  front = begins_on (h ++ e ∷ []) h u.front (begins_more h (e ∷ [])) fits.front;
}

-- a stripe that is the first of those that are held
held_first : (stripe : ℕ) (others : List ℕ) → 0 < times_held stripe (stripe ∷ others)
held_first stripe others = omega (
  arith,
  held_cons stripe stripe others,
  ap one_if (same_number stripe stripe refl),
)

module _ (setup : Terms) (id : ℕ) (t : Terms) (p : SeatState) (stripe : ℕ) (others : List ℕ)
    (x : StoredStripe) where
  abbrev v : Knowledge
  v = keeping t (holding p stripe others ∷ [])

  -- A stripe is laid back, after a history that differs on no stripe that is free.
  pub record PutsBack (s : Board) (k : StripesRule setup s) (h : History) (q : SeatState) : Type 0
    where
      pub at : get_elem? s.views id ≡ maybe.some v
      pub low : stripe < stripe_count setup.bounds
      pub number : q.number ≡ p.number
      pub holds : q.holds ≡ others
      pub legal : IsLegal setup.config setup.seats h
      pub fits : KnowledgeFits setup h (keeping t (q ∷ []))
      pub others_fit : (other : ℕ) (u : Knowledge) → other ≢ id
          → get_elem? s.views other ≡ maybe.some u → KnowledgeFits setup h u
      pub parts : (j : ℕ) → slice_index s.words (lock_word j) ≡ 0
          → part_of setup.bounds j h ≡ part_of setup.bounds j k.history
      pub stands : IsStateOn setup stripe h x.value.cache

  locks_then : (s : Board) (k : StripesRule setup s) (h : History) (q : SeatState)
      → PutsBack s k h q → (j : ℕ) → sum_by (holders j) s.views + holders j (keeping t (q ∷ []))
      ≡ busy_in (set s.words (lock_word stripe) 0) j + holders j v
  locks_then s k h q l j =
      let left : times_held j q.holds ≡ times_held j others = ap (times_held j) l.holds in
      elim (same_or_not stripe j) [
        | inl same ↦ (let first = subst (λ (m : ℕ). times_held m (stripe ∷ others)
            ≡ 1 + times_held m others) same (omega (
              arith,
              held_cons stripe stripe others,
              ap one_if (same_number stripe stripe refl),
            )) in
            let blank = subst (λ (m : ℕ). busy_in (set s.words (lock_word stripe) 0) m ≡ 0) same
            (busy_set s.words stripe 0 (stripe_count setup.bounds) k.wide l.low) in
            omega (
              arith,
              left,
              first,
              blank,
              k.locks j,
              at_most_one (nat_lt 0 (slice_index s.words (lock_word j))),
              part (holders j) s.views id v l.at,
              held_once j q t,
              held_once j (holding p stripe others) t,
            ))
        | inr apart ↦ omega (
          arith,
          left,
          k.locks j,
          busy_else s.words stripe 0 j apart,
          held_once j q t,
          held_once j (holding p stripe others) t,
          held_cons j stripe others,
          ap one_if (other_number stripe j apart),
        )
      ]

  homes_then : (s : Board) (k : StripesRule setup s) (h : History) (q : SeatState)
      → PutsBack s k h q → (j : ℕ) → j < stripe_count setup.bounds
      → slice_index (set s.words (lock_word stripe) 0) (lock_word j) ≡ 0
      → IsHome setup h (set s.homes stripe (maybe.some x)) j
  homes_then s k h q l j lower free =
      elim (same_or_not stripe j) [
        | inl same ↦ subst (IsHome setup h (set s.homes stripe (maybe.some x))) same (
          x,
          set_here s.homes stripe (maybe.some x) (omega (arith, l.low, k.deep)),
          l.stands,
        )
        | inr apart ↦ (let was = sym (word_else s.words stripe 0 j apart) ∙ free in
            let here = k.homes j lower was in (
              here.0,
              set_else s.homes stripe j (maybe.some x) (λ is. apart (sym is)) ∙ here.1,
              subst (λ (g : History). RepresentsState here.0.value.cache setup.config
                  (state_of setup.config g)) (sym (l.parts j was)) here.2,
            ))
      ]

  pub put_back : (s : Board) (k : StripesRule setup s) (h : History) (q : SeatState)
      → PutsBack s k h q → StripesRule setup (record {
        words = set s.words (lock_word stripe) 0;
        homes = set s.homes stripe (maybe.some x);
        views = set s.views id (keeping t (q ∷ []));
      })
  put_back s k h q l =
      let words : List ℕ = set s.words (lock_word stripe) 0 in
      let homes : Homes = set s.homes stripe (maybe.some x) in
      let w : Knowledge = keeping t (q ∷ []) in
      let moved : Moved setup s id v w h words homes = record {
        at = l.at;
        legal = l.legal;
        wide = length-set s.words (lock_word stripe) 0 ∙ k.wide;
        deep = length-set s.homes stripe (maybe.some x) ∙ k.deep;
        fits = l.fits;
        others = l.others_fit;
        each = λ number. omega (arith, ap (λ (n : ℕ). one_if (n == number)) l.number);
        locks = locks_then s k h q l;
        at_home = homes_then s k h q l;
      } in
      moved_kept setup s k id v w h words homes moved

  module _ (slots : ℕ) (st : Step StoredStripe) (hand : List (ℕ × StoredStripe)) where
    abbrev me : At
    me = (v, (stripe, x) ∷ hand)

    -- the seat releases the lock, and nothing else changes for it
    pub release_allowed : stripe < stripe_count t.bounds
        → IsStateOn t stripe p.reached x.value.cache
        → Allows (StripesRule setup) slots id me (lock_word stripe) (λ _. 0)
        (λ _. releases st me 0)
    release_allowed low stands s k deep at small =
        let fits = k.views id v at in
        let mine = only_fits setup k.history t (holding p stripe others) fits in
        let same : t ≡ setup = fits.settled refl in
        let held = mine.held stripe (held_first stripe others) in
        let q : SeatState = released (holding p stripe others) in (
          keeping t (q ∷ []),
          act_gives,
          tt,
          put_back s k k.history q (record {
            at = at;
            low = subst (λ (y : Terms). stripe < stripe_count y.bounds) same low;
            number = refl;
            holds = refl;
            legal = k.legal;
            fits = of_one t q same
                (released_fits setup.bounds k.history p stripe others mine);
            others_fit = λ other u apart e. k.views other u e;
            parts = λ j free. refl;
            stands = subst (λ (g : History). RepresentsState x.value.cache setup.config
                (state_of setup.config g)) (sym held)
                (subst (λ (y : Terms). IsStateOn y stripe p.reached x.value.cache) same stands);
          }),
          refl,
        )

    -- it releases the lock, and has seen what it had reached
    pub release_seen_allowed : stripe < stripe_count t.bounds
        → IsStateOn t stripe p.reached x.value.cache
        → Allows (StripesRule setup) slots id me (lock_word stripe) (λ _. 0)
        (λ _. releases_seen st me 0)
    release_seen_allowed low stands s k deep at small =
        let fits = k.views id v at in
        let mine = only_fits setup k.history t (holding p stripe others) fits in
        let same : t ≡ setup = fits.settled refl in
        let held = mine.held stripe (held_first stripe others) in
        let q : SeatState = released_seen (holding p stripe others) in (
          keeping t (q ∷ []),
          act_gives,
          tt,
          put_back s k k.history q (record {
            at = at;
            low = subst (λ (y : Terms). stripe < stripe_count y.bounds) same low;
            number = refl;
            holds = refl;
            legal = k.legal;
            fits = of_one t q same
                (released_seen_fits setup.bounds k.history p stripe others mine);
            others_fit = λ other u apart e. k.views other u e;
            parts = λ j free. refl;
            stands = subst (λ (g : History). RepresentsState x.value.cache setup.config
                (state_of setup.config g)) (sym held)
                (subst (λ (y : Terms). IsStateOn y stripe p.reached x.value.cache) same stands);
          }),
          refl,
        )

    -- an entry of the seat comes into the history
    pub commit_allowed : (e : Entry) → e.seat ≡ p.number → e.number ≡ p.count
        → stripe < stripe_count t.bounds → IsMadeEntry t.config e
        → IsCovered t.bounds (stripe ∷ others) e
        → IsStateOn t stripe (p.reached ++ e ∷ []) x.value.cache
        → Allows (StripesRule setup) slots id me (lock_word stripe) (λ _. 0)
        (λ _ me'. Commits me.0 me'.0 (e ∷ []) × (me'.1 ≡ rest me.1))
    commit_allowed e seat_is number_is low made covered_there stands s k deep at small =
        let fits = k.views id v at in
        let mine = only_fits setup k.history t (holding p stripe others) fits in
        let same : t ≡ setup = fits.settled refl in
        let held = mine.held stripe (held_first stripe others) in
        let covered : IsCovered setup.bounds (stripe ∷ others) e =
        subst (λ (y : Terms). IsCovered y.bounds (stripe ∷ others) e) same covered_there in
        let h : History = k.history in
        let g : History = h ++ e ∷ [] in
        let q : SeatState = committed (holding p stripe others) g in
        let own : own_count p.number g ≡ suc p.count = omega (
          arith,
          own_append p.number h (e ∷ []),
          own_of_one p.number e seat_is,
          mine.own,
        ) in
        let legal : IsLegal setup.config setup.seats g =
        legal_push setup.config setup.seats h e k.legal (record {
          seat = subst (λ (n : ℕ). n < setup.seats) (sym seat_is)
              (low_number setup s k v id at 0 (holding p stripe others) refl);
          number = number_is ∙ sym mine.own
              ∙ ap (λ (n : ℕ). own_count n h) (sym seat_is);
          made = subst (λ (y : Terms). IsMadeEntry y.config e) same made;
        }) in
        let its_own : states_of p.number v ≡ 1 =
        omega (arith, ap one_if (same_number p.number p.number refl)) in
        let holds_it : (j : ℕ) → 0 < times_held j (stripe ∷ others) → 0 < holders j v =
        λ j some. omega (arith, some, held_once j (holding p stripe others) t) in (
          keeping t (q ∷ []),
          act_gives,
          tt,
          put_back s k g q (record {
            at = at;
            low = subst (λ (y : Terms). stripe < stripe_count y.bounds) same low;
            number = refl;
            holds = refl;
            legal = legal;
            fits = of_one t q same
                (committed_fits setup.bounds h g p stripe others mine own);
            others_fit = λ other u apart is. more_of_another setup h e u
                (subst (λ (n : ℕ). states_of n u ≡ 0) (sym seat_is)
                (no_other setup s k id other p.number v u apart at is its_own))
                (λ j some. elim (covered j) [
                  | inl none ↦ none
                  | inr mine_ ↦ absurd (omega (
                    arith,
                    some,
                    no_other_holder setup s k id other j v u apart at is (holds_it j mine_),
                  ))
                ]) (k.views other u is);
            parts = λ j free. elim (covered j) [
              | inl none ↦ part_untouched setup.bounds j h e none
              | inr mine_ ↦ absurd (held_is_busy setup s k id j v at (holds_it j mine_) free)
            ];
            stands = subst (λ (f : History). RepresentsState x.value.cache setup.config
                (state_of setup.config f))
                (part_push setup.bounds stripe p.reached e
                ∙ ap (λ (f : History). f ++ entry_in setup.bounds stripe e) (sym held)
                ∙ sym (part_push setup.bounds stripe h e))
                (subst (λ (y : Terms). IsStateOn y stripe (p.reached ++ e ∷ []) x.value.cache)
                same stands);
          }),
          (
            record {
              before = h;
              after = refl;
              begins = mine.begins;
              legal = subst (λ (y : Terms). IsLegal y.config y.seats g) (sym same) legal;
              own = own;
              unchanged = subst (λ (y : Terms). AgreeOn y.bounds (stripe ∷ others) h p.reached)
                  (sym same) mine.held;
            },
            refl,
          ),
        )

-- what a participant is that has a stripe in hand
whole : (me : At) (stripe : ℕ) (x : StoredStripe) → HasStripe me stripe x → me ≡ (
  keeping me.0.setup (holding (state_in me.0) stripe (earlier (holds_of me.0)) ∷ []),
  (stripe, x) ∷ rest me.1,
)
whole me stripe x has = λ i. (
  (has.one ∙ ap (λ (hs : List ℕ). keeping me.0.setup (record (state_in me.0) {
    holds = hs;
  } ∷ [])) has.holds) i,
  has.hand i,
)

-- the same, as the calls have it
pub release_at : (key : Terms) (slots : ℕ) (st : Step StoredStripe) (id : ℕ) (me : At)
    (stripe word : ℕ) → word ≡ lock_word stripe → (x : StoredStripe) → CanRelease me stripe x
    → Allows (StripesRule key) slots id me word (λ _. 0) (λ _. releases st me 0)
release_at key slots st id me stripe word is x can =
    subst (λ (i : ℕ). Allows (StripesRule key) slots id me i (λ _. 0) (λ _. releases st me 0))
    (sym is)
    (subst (λ (m : At). Allows (StripesRule key) slots id m (lock_word stripe) (λ _. 0)
    (λ _. releases st m 0)) (sym (whole me stripe x can.has))
    (release_allowed key id me.0.setup (state_in me.0) stripe (earlier (holds_of me.0)) x slots st
    (rest me.1) can.has.is_stripe can.stands))

pub release_seen_at : (key : Terms) (slots : ℕ) (st : Step StoredStripe) (id : ℕ) (me : At)
    (stripe word : ℕ) → word ≡ lock_word stripe → (x : StoredStripe) → CanRelease me stripe x
    → Allows (StripesRule key) slots id me word (λ _. 0) (λ _. releases_seen st me 0)
release_seen_at key slots st id me stripe word is x can =
    subst (λ (i : ℕ). Allows (StripesRule key) slots id me i (λ _. 0)
    (λ _. releases_seen st me 0)) (sym is)
    (subst (λ (m : At). Allows (StripesRule key) slots id m (lock_word stripe) (λ _. 0)
    (λ _. releases_seen st m 0)) (sym (whole me stripe x can.has))
    (release_seen_allowed key id me.0.setup (state_in me.0) stripe (earlier (holds_of me.0)) x
    slots st (rest me.1) can.has.is_stripe can.stands))

pub commit_at : (key : Terms) (slots : ℕ) (st : Step StoredStripe) (id : ℕ) (me : At)
    (stripe word : ℕ) → word ≡ lock_word stripe → (x : StoredStripe) → CanCommit me stripe x
    → Allows (StripesRule key) slots id me word (λ _. 0) (λ _. commits st me 0)
commit_at key slots st id me stripe word is x can =
    let e : Entry = entry_of (state_in me.0) x.value.pending in
    subst (λ (i : ℕ). Allows (StripesRule key) slots id me i (λ _. 0) (λ _. commits st me 0))
    (sym is)
    (subst (λ (m : At). Allows (StripesRule key) slots id m (lock_word stripe) (λ _. 0)
    (λ _. commits st m 0)) (sym (whole me stripe x can.has))
    (commit_allowed key id me.0.setup (state_in me.0) stripe (earlier (holds_of me.0)) x slots st
    (rest me.1) e refl refl can.has.is_stripe (can.made e.seat e.number)
    (subst (λ (hs : List ℕ). IsCovered me.0.setup.bounds hs e) can.has.holds can.covered)
    can.stands))

pub commit_batch_at : (key : Terms) (slots : ℕ) (st : Step StoredStripe) (id : ℕ) (me : At)
    (stripe word : ℕ) → word ≡ lock_word stripe → (x : StoredStripe) → CanCommitBatch me stripe x
    → Allows (StripesRule key) slots id me word (λ _. 0) (λ _. commits_batch st me 0)
commit_batch_at key slots st id me stripe word is x can =
    let e : Entry = entry_of_batch (state_in me.0) x.value.batch in
    subst (λ (i : ℕ). Allows (StripesRule key) slots id me i (λ _. 0)
    (λ _. commits_batch st me 0)) (sym is)
    (subst (λ (m : At). Allows (StripesRule key) slots id m (lock_word stripe) (λ _. 0)
    (λ _. commits_batch st m 0)) (sym (whole me stripe x can.has))
    (commit_allowed key id me.0.setup (state_in me.0) stripe (earlier (holds_of me.0)) x slots st
    (rest me.1) e refl refl can.has.is_stripe (can.made e.seat e.number)
    (subst (λ (hs : List ℕ). IsCovered me.0.setup.bounds hs e) can.has.holds can.covered)
    can.stands))
