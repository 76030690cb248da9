-- A step of one participant keeps the rule.
use Rattle.std.proofs.Common.{◌≡◌, ◌≢◌, ◌∙◌, inl, inr, refl, sym, ap, subst, true, ℕ, zero}
use Rattle.std.proofs.Common.{suc, ◌+◌, ◌<◌, ◌≤◌, List, [], ◌∷◌, length, set, arith}
use Rattle.std.proofs.Common.{slice_index, ◌%◌}
use Rattle.std.specs.Prelude.{Bool, ◌==◌, nat_lt}
use Rattle.std.specs.List.{sum_by, slice_get}
use mathlib.Core.Option as maybe
use mathlib.Core.Option.{some-injective, some-ne-none}
use lib.ListN.{get_elem?}
use Rattle.std.proofs.lemmas.Bool.Decides.{nat_tests}
use Rattle.atomic_table.specs.Table.{State, Me, Step, Allows, keeps as act_keeps}
use Rattle.tsc_left_right.specs.Steps.{stays}
use Rattle.atomic_table.proofs.Lists.{at_set, set_again}
use lib.Seq.{set-get_or}
use Rattle.tsc_left_right.specs.declared.table.Setup.{Setup}
use Rattle.tsc_left_right.specs.declared.table.Slot.{Slot}
use Rattle.tsc_left_right.specs.declared.table.Slot.TheVariants.{Writer}
use Rattle.tsc_left_right.specs.declared.table.SeatState.{SeatState}
use Rattle.tsc_left_right.specs.declared.table.Knowledge.{Knowledge}
use Rattle.tsc_left_right.specs.Rule.{StoredState, keeping, one_if, SharedState, LeftRightRule, HasNoted}
use Rattle.tsc_left_right.specs.Rule.{active_side, standby_side, epoch_word, side_slot}
use Rattle.tsc_left_right.specs.Rule.{SeatFits, KnowledgeFits, WriterFits}
use Rattle.tsc_left_right.specs.Rule.{StateFits, IsAfter, states_of, holders}
use Rattle.tsc_left_right.specs.Rule.{HasShape}
use Rattle.tsc_left_right.proofs.Prefixes.{begins_empty}
use Rattle.tsc_left_right.proofs.Totals.{part, two_parts, total_set}
use Rattle.tsc_left_right.proofs.Hands.{Homes}
use Rattle.tsc_left_right.proofs.Frames.{other_word}
use Rattle.tsc_left_right.proofs.Plain.{same_number, at_most_one, busy_word, epoch_same}
use Rattle.tsc_left_right.specs.declared.replicated.Replicated.{Ghosts}
use Rattle.tsc_left_right.specs.Histories.{IsLegal}

abbrev pub Board : Type 0 → Type 0 → Type 0 → Type 0 → Type 0
Board C O S E = State (Slot C O) (Knowledge S E)

module _ {E : Type 0} where
  -- the lock and what is the writer's change
  abbrev pub writer_now : SharedState E → ℕ → ℕ → List ℕ → SharedState E
  writer_now g word cleared noted = record {
    history = g.history;
    head = g.head;
    word = word;
    stage_of = g.stage_of;
    cleared = cleared;
    noted = noted;
  }

  -- A state that holds the lock counts.
  pub holds_none : (p : SeatState E) → p.holds ≡ true → one_if p.holds ≤ 0 → ⊥
  holds_none p is small = omega (arith, ap one_if is, small)

module _ {S E : Type 0} where
  -- the state of another seat
  pub not_its : (number : ℕ) (v : Knowledge S E) (i : ℕ) (p : SeatState E) → states_of number v ≡ 0
      → get_elem? v.states i ≡ maybe.some p → p.number ≢ number
  not_its number v i p none e is = omega (
    arith,
    ap one_if (same_number p.number number is),
    none,
    part (λ (q : SeatState E). one_if (q.number == number)) v.states i p e,
  )

  -- the state of a seat that does not hold the lock
  pub not_holding : (v : Knowledge S E) (i : ℕ) (p : SeatState E) → holders v ≡ 0
      → get_elem? v.states i
      ≡ maybe.some p → p.holds ≡ true → ⊥
  not_holding v i p none e holds =
      holds_none p holds (omega (
        arith,
        none,
        part (λ (q : SeatState E). one_if q.holds) v.states i p
            e,
      ))

module _ {P C O S E : Type 0} (R : Ghosts P C O S E) where
  -- the table when one participant knows something else, with all that may change
  pub record Moved (setup : Setup S) (s : Board C O S E) (k : LeftRightRule R setup s) (id : ℕ)
      (v w : Knowledge S E) (g : SharedState E) (words : List ℕ) (homes : Homes C O) : Type 0 where
    pub at : get_elem? s.views id ≡ maybe.some v
    pub legal : IsLegal R setup.config setup.seats g.history
    pub limit : length g.history ≤ setup.limit
    pub shape : HasShape setup.seats g.word g.head words homes
    pub seats : (seat : ℕ) → seat < setup.seats → SeatFits R setup g words homes seat
    pub fits : KnowledgeFits R setup g w
    pub others : (other : ℕ) (u : Knowledge S E) → other ≢ id
        → get_elem? s.views other ≡ maybe.some u → KnowledgeFits R setup g u
    pub each : (number : ℕ) → states_of number w ≡ states_of number v
    pub one : sum_by holders s.views + holders w ≡ one_if (nat_lt 0 g.word) + holders v
    pub idle : g.word ≡ 0 → g.cleared ≡ 0
    pub free : g.word ≡ 0 → (state : StoredState C O)
        × (get_elem? homes 0 ≡ maybe.some (maybe.some (Writer state)))
        × IsAfter R setup g.history g.head state.value
        × HasNoted setup.seats g.noted state.value

  pub moved_kept : (setup : Setup S) (s : Board C O S E) (k : LeftRightRule R setup s) (id : ℕ)
      (v w : Knowledge S E) (g : SharedState E) (words : List ℕ) (homes : Homes C O)
      → Moved setup s k id v w g words homes → LeftRightRule R setup (record {
        words = words;
        homes =
            homes;
        views = set s.views id w;
      })
  moved_kept setup s k id v w g words homes m = record {
    g = g;
    legal = m.legal;
    limit = m.limit;
    shape = m.shape;
    seats = m.seats;
    views = λ other u e. elim (at_set s.views id other w u e) [
      | inl same ↦ subst (KnowledgeFits R setup g) same.1 m.fits
      | inr apart ↦ m.others other u apart.0 apart.1
    ];
    each = λ number. omega (
      arith,
      total_set (states_of number) s.views id v w m.at,
      m.each number,
      k.each number,
    );
    one = omega (arith, total_set holders s.views id v w m.at, m.one);
    idle = m.idle;
    free = m.free;
  }

  -- a participant that keeps one state
  pub of_one : {setup : Setup S} {g : SharedState E} (t : Setup S) (p : SeatState E) → t ≡ setup
      → StateFits R g p → KnowledgeFits R setup g (keeping t (p ∷ []))
  of_one {setup} {g} t p is fits = record {
    settled = λ _. is;
    states = at;
    front =
        begins_empty g.history;
  }
    where
      at : (i : ℕ) (q : SeatState E) → get_elem? (p ∷ []) i ≡ maybe.some q → StateFits R g q
      at zero q e = subst (StateFits R g) (some-injective p q e) fits
      at (suc i) q e = absurd (some-ne-none q (sym e))

  pub only_fits : (setup : Setup S) (g : SharedState E) (t : Setup S) (p : SeatState E)
      → KnowledgeFits R setup g (keeping t (p ∷ [])) → StateFits R g p
  only_fits setup g t p fits = fits.states 0 p refl

  -- The number of a state is one of the seats'.
  pub low_number : (setup : Setup S) (s : Board C O S E) (k : LeftRightRule R setup s)
      (u : Knowledge S E) (j : ℕ)
      → get_elem? s.views j ≡ maybe.some u → (i : ℕ) (p : SeatState E) → get_elem? u.states i
      ≡ maybe.some p → p.number < setup.seats
  low_number setup s k u j e i p e' = grind (
    arith,
    nat_tests,
    k.each p.number,
    part (states_of p.number) s.views j u e,
    part (λ (q : SeatState E). one_if (q.number == p.number))
        u.states i p e',
    ap one_if (same_number p.number p.number refl),
  )

  -- Of two participants only one keeps the state of a seat.
  pub no_other : (setup : Setup S) (s : Board C O S E) (k : LeftRightRule R setup s)
      (id other number : ℕ) (v u : Knowledge S E) → other ≢ id → get_elem? s.views id ≡ maybe.some v
      → get_elem? s.views other
      ≡ maybe.some u
      → states_of number v ≡ 1 → states_of number u ≡ 0
  no_other setup s k id other number v u apart at e its =
      omega (
        arith,
        k.each number,
        at_most_one (nat_lt number setup.seats),
        its,
        two_parts (states_of number) s.views id other v u (λ is. apart (sym is)) at e,
      )

  -- what the writer knows
  pub record KnowsAll (setup : Setup S) (s : Board C O S E) (k : LeftRightRule R setup s) (id : ℕ)
      (t : Setup S) (p : SeatState E) : Type 0 where
    pub same : t ≡ setup
    pub mine : StateFits R k.g p
    pub all : p.seen ≡ k.g.history
    pub taken : k.g.word ≡ suc p.number
    pub cleared : p.cleared ≡ k.g.cleared
    pub noted : p.noted ≡ k.g.noted
    pub head : p.head ≡ k.g.head
    pub low : p.number < setup.seats
    pub one : sum_by holders s.views ≡ 1
    pub nobody : (other : ℕ) (u : Knowledge S E) → other ≢ id
        → get_elem? s.views other ≡ maybe.some u → holders u ≡ 0

  pub knows_all : (setup : Setup S) (s : Board C O S E) (k : LeftRightRule R setup s) (id : ℕ)
      (t : Setup S) (p : SeatState E) → p.holds ≡ true
      → get_elem? s.views id ≡ maybe.some (keeping t (p ∷ [])) → KnowsAll setup s k id t p
  knows_all setup s k id t p holding at =
      let v : Knowledge S E = keeping t (p ∷ []) in
      let fits : StateFits R k.g p = only_fits setup k.g t p (k.views id v at) in
      let knows = fits.holding holding in
      let is_taken : k.g.word ≡ suc p.number = knows.1 in
      let holds_one : holders v ≡ 1 = omega (arith, ap one_if holding) in
      let total : sum_by holders s.views ≡ 1 = k.one
      ∙ busy_word k.g.word (λ z. omega (arith, is_taken, z)) in record {
        same = (k.views id v at).settled refl;
        mine = fits;
        all = knows.0;
        taken = is_taken;
        cleared = knows.2;
        noted = knows.3;
        head = knows.4;
        low = low_number setup s k v id at 0 p refl;
        one = total;
        nobody = λ other u apart e. omega (
          arith,
          total,
          holds_one,
          two_parts holders s.views id other
              v u (λ is. apart (sym is)) at e,
        );
      }

  -- Nothing changes by a step that leaves its word as it is.
  pub unmoved : (setup : Setup S) (s : Board C O S E) (k : LeftRightRule R setup s) (id : ℕ)
      (v : Knowledge S E) (i : ℕ) → get_elem? s.views id ≡ maybe.some v
      → LeftRightRule R setup (record {
        words = set s.words i (slice_index s.words i);
        homes = s.homes;
        views = set s.views id v;
      })
  unmoved setup s k id v i at = subst (λ (vs : List (Knowledge S E)). LeftRightRule R setup
      (record { words = set s.words i (slice_index s.words i); homes = s.homes; views = vs }))
      (sym (set_again s.views id v at)) (subst (λ (ws : List ℕ). LeftRightRule R setup (record {
        words = ws;
        homes = s.homes;
        views = s.views;
      })) (sym (set-get_or s.words i 0)) k)

  -- and a seat fits as before where its epoch and its side slots stay.
  pub seat_same : (setup : Setup S) (g g' : SharedState E) (words words' : List ℕ)
      (homes homes' : Homes C O) (r : ℕ)
      → g'.history ≡ g.history → g'.head ≡ g.head → g'.stage_of r ≡ g.stage_of r
      → g'.cleared ≡ g.cleared → g'.noted ≡ g.noted
      → slice_index words' (epoch_word r) ≡ slice_index words (epoch_word r)
      → ((side : ℕ) → side < 2 → get_elem? homes' (side_slot r side) ≡ get_elem? homes
      (side_slot r side)) → SeatFits R setup g words homes r → SeatFits R setup g' words' homes' r
  seat_same setup g g' words words' homes homes' r history head stage cleared noted epoch sides
      ok = record {
        unpinned = λ z. ap (λ (e : ℕ). e % 2) epoch ∙ ok.unpinned (sym stage ∙ z);
        pinned = λ z. ap (λ (e : ℕ). e % 2) epoch ∙ ok.pinned (omega (arith, z, stage));
        active = λ n. let x = ok.active (λ z. n (omega (arith, z, stage, head))) in (
          x.0,
          ap (λ (c : ℕ). get_elem? homes' (side_slot r (active_side c))) head
              ∙ sides (active_side g.head) (omega arith) ∙ x.1,
          rw history x.2,
        );
        standby = λ c n. let x = ok.standby (omega (arith, c, cleared))
            (λ z. n (omega (arith, z, stage, head))) in (
              x.0,
              ap (λ (c : ℕ). get_elem? homes' (side_slot r (standby_side c))) head
                  ∙ sides (standby_side g.head) (omega arith) ∙ x.1,
            );
        left = λ c z. ok.left (omega (arith, c, cleared)) (omega (arith, z, stage, head));
        late = λ e b c. epoch ∙ ok.late e (ap (λ (l : List ℕ). slice_get l r) (sym noted) ∙ b)
            (omega (arith, c, stage, head));
      }

  -- What a participant knows that does not hold the lock fits as before,
  pub others_fit : (setup : Setup S) (g : SharedState E) (word cleared : ℕ) (noted : List ℕ)
      (u : Knowledge S E) → holders u ≡ 0 → KnowledgeFits R setup g u
      → KnowledgeFits R setup (writer_now g word cleared noted) u
  others_fit setup g word cleared noted u none was = record {
    settled = was.settled;
    states = λ i x d. let f = was.states i x d in record {
      begins = f.begins;
      own = f.own;
      own_seen = f.own_seen;
      at_stage = f.at_stage;
      sees = f.sees;
      holding = λ y. absurd (not_holding u i x none d y);
    };
    front = was.front;
  }

  -- and so does a state by which its seat has seen as much.
  pub writer_fits : (g : SharedState E) (p : SeatState E) (holds : Bool) (word head cleared : ℕ)
      (noted : List ℕ) (cleared' : ℕ) (noted' : List ℕ) → StateFits R g p
      → (holds ≡ true → WriterFits (writer_now g word cleared' noted')
      (record p { holds = holds; head = head; cleared = cleared; noted = noted }))
      → StateFits R (writer_now g word cleared' noted')
      (record p { holds = holds; head = head; cleared = cleared; noted = noted })
  writer_fits g p holds word head cleared noted cleared' noted' mine knows = record {
    begins = mine.begins;
    own = mine.own;
    own_seen = mine.own_seen;
    at_stage = mine.at_stage;
    sees = mine.sees;
    holding = knows;
  }

  -- A step at the word of the seat that goes first changes nothing that the rule says.
  pub line_kept : (setup : Setup S) (s : Board C O S E) → LeftRightRule R setup s → (y : ℕ)
      → LeftRightRule R setup (record { words = set s.words 1 y; homes = s.homes; views = s.views })
  line_kept setup s k y = record {
    g = k.g;
    legal = k.legal;
    limit = k.limit;
    shape = other_word k.shape 1 y (λ z. omega (arith, z)) (λ z. omega (arith, z));
    seats = λ r low. seat_same setup k.g k.g s.words (set s.words 1 y) s.homes s.homes r refl refl
        refl refl refl (epoch_same s.words 1 y r (omega arith)) (λ _ _. refl) (k.seats r low);
    views = k.views;
    each = k.each;
    one = k.one;
    idle = k.idle;
    free = k.free;
  }

  pub line_allowed : (setup : Setup S) (slots : ℕ) (st : Step (Slot C O)) (id : ℕ) (me : Me
      (Slot C O) (Knowledge S E))
      (f : ℕ → ℕ) → Allows (LeftRightRule R setup) slots id me 1 f (stays st me)
  line_allowed setup slots st id me f s k deep at small = (
    me.0,
    act_keeps,
    tt,
    subst (λ (vs : List (Knowledge S E)). LeftRightRule R setup (record {
      words = set s.words 1 (f (slice_index s.words 1));
      homes = s.homes;
      views = vs;
    })) (sym (set_again s.views id me.0 at))
        (line_kept setup s k (f (slice_index s.words 1))),
    refl,
  )
