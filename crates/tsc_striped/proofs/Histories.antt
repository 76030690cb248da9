-- The laws of a cache in stripes, from those of a cache.
use Rattle.std.proofs.Common.{◌≡◌, ◌≢◌, ◌⊎◌, ◌∙◌, inl, inr, refl, sym, ap, subst, true, ℕ, zero}
use Rattle.std.proofs.Common.{suc, ◌+◌, ◌-◌, ◌≤◌, List, [], ◌∷◌, ◌++◌, length, arith}
use Rattle.std.specs.List.{Contains}
use mathlib.Core.Bool.{true≢false}
use Rattle.std.proofs.lemmas.Bool.{cases_Bool}
use Rattle.std.proofs.lemmas.Grind.{flat_map-append}
use Rattle.std.proofs.lemmas.List.Elements.{Contains-append_left, Contains-append_right}
use Rattle.std.specs.List.{flat_map}
use Rattle.tsc_time.specs.Time.{Time, time_minus, is_before}
use Rattle.tsc_time.specs.ValueView.{ValueView, unowned, is_same_owner}
use Rattle.tsc_time.specs.Joint.{IsAtMost, ratcheted}
use Rattle.tsc_time.proofs.TimeOrder.{same_from_neither_before}
use Rattle.tsc_time.proofs.SharedOwner.{is_same_owner-Decides}
use Rattle.tsc_time.proofs.RatchetOrder.{IsAtMost-itself, IsAtMost-transitive}
use Rattle.tsc_time.proofs.Members.{IsIn, IsIn-from_Contains, Contains-from_IsIn}
use Rattle.tsc_span.specs.Span.{KeyBytes, SpanView, between}
use Rattle.tsc_page_model.specs.Page.{Mark}
use Rattle.tsc_cache.specs.declared.history.Entry.{Entry}
use Rattle.tsc_cache.specs.History.{History, BeginsWith}
use Rattle.tsc_cache.proofs.Histories.{kept_up, rising, floor_behind, clear_below}
use Rattle.tsc_stripe_table.specs.Stripes.{Terms, piece_of, mark_on, marks_in, entry_with, entry_in}
use Rattle.tsc_stripe_table.specs.Stripes.{part_of}
use Rattle.tsc_striped.specs.Touching.{first_touched, last_touched}
use Rattle.tsc_striped.specs.Looks.{look_on, look_from, look_over}
use Rattle.tsc_striped.specs.Laws.{KeptUp, Rising, FloorBehind, NoWriteBelowARead}
use Rattle.tsc_striped.proofs.Overlaps.{MeetsIn, meets_in}

-- Which of two values their joint one is.
pub record OneLater (v w : ValueView) : Type 0 where
  pub early : is_before v.time w.time ≡ true
  pub is : ratcheted v w ≡ w

pub record OtherLater (v w : ValueView) : Type 0 where
  pub early : is_before w.time v.time ≡ true
  pub is : ratcheted v w ≡ v

pub record BothSame (v w : ValueView) : Type 0 where
  pub time : v.time ≡ w.time
  pub owner : v.owner ≡ w.owner
  pub is : ratcheted v w ≡ v

pub record OwnersDiffer (v w : ValueView) : Type 0 where
  pub time : v.time ≡ w.time
  pub differ : v.owner ≡ w.owner → ⊥
  pub is : ratcheted v w ≡ unowned v.time

pub data Joined (v w : ValueView) : Type 0 where
  one_later : OneLater v w → Joined v w
  other_later : OtherLater v w → Joined v w
  both_same : BothSame v w → Joined v w
  owners_differ : OwnersDiffer v w → Joined v w

joined : (v w : ValueView) → Joined v w
joined v w = elim (cases_Bool (is_before v.time w.time)) [
  | inl lt ↦ one_later (record { early = lt; is = rw lt refl })
  | inr ge ↦ elim (cases_Bool (is_before w.time v.time)) [
    | inl lt ↦ other_later (record { early = lt; is = rw (ge, lt) refl })
    | inr neither ↦ elim (cases_Bool (is_same_owner v.owner w.owner)) [
      | inl same ↦ both_same (record {
        time = same_from_neither_before v.time w.time ge neither;
        owner = (is_same_owner-Decides v.owner w.owner).0 same;
        is = rw (ge, neither, same) refl;
      })
      | inr other ↦ owners_differ (record {
        time = same_from_neither_before v.time w.time ge neither;
        differ = λ e. true≢false (sym ((is_same_owner-Decides v.owner w.owner).1 e) ∙ other);
        is = rw (ge, neither, other) refl;
      })
    ]
  ]
]

-- it is above both, and below what is above both
pub first_below : (v w : ValueView) → IsAtMost v (ratcheted v w)
first_below v w = elim (joined v w) [
  | one_later c ↦ subst (IsAtMost v) (sym c.is) (inl c.early)
  | other_later c ↦ subst (IsAtMost v) (sym c.is) (IsAtMost-itself v)
  | both_same c ↦ subst (IsAtMost v) (sym c.is) (IsAtMost-itself v)
  | owners_differ c ↦ subst (IsAtMost v) (sym c.is) (inr (refl, inl refl))
]

pub second_below : (v w : ValueView) → IsAtMost w (ratcheted v w)
second_below v w = elim (joined v w) [
  | one_later c ↦ subst (IsAtMost w) (sym c.is) (IsAtMost-itself w)
  | other_later c ↦ subst (IsAtMost w) (sym c.is) (inl c.early)
  | both_same c ↦ subst (IsAtMost w) (sym c.is) (inr (sym c.time, inr c.owner))
  | owners_differ c ↦ subst (IsAtMost w) (sym c.is) (inr (sym c.time, inl refl))
]

pub both_below : (v w u : ValueView) → IsAtMost v u → IsAtMost w u → IsAtMost (ratcheted v w) u
both_below v w u p q = elim (joined v w) [
  | one_later c ↦ subst (λ (x : ValueView). IsAtMost x u) (sym c.is) q
  | other_later c ↦ subst (λ (x : ValueView). IsAtMost x u) (sym c.is) p
  | both_same c ↦ subst (λ (x : ValueView). IsAtMost x u) (sym c.is) p
  | owners_differ c ↦ subst (λ (x : ValueView). IsAtMost x u) (sym c.is) (elim p [
    | inl early ↦ inl early
    | inr there ↦ elim there.1 [
      | inl none ↦ inr (there.0, inl none)
      | inr own ↦ elim q [
        | inl early ↦ inl (subst (λ (t : Time). is_before t u.time ≡ true) (sym c.time) early)
        | inr other ↦ elim other.1 [
          | inl none ↦ inr (there.0, inl none)
          | inr owns ↦ absurd (c.differ (sym own ∙ owns))
        ]
      ]
    ]
  ])
]

-- what a stripe answers is at most what some answer among which it is
pub among_answers : (terms : Terms) (h : History) (s : SpanView) (more from stripe : ℕ)
    → from ≤ stripe → stripe ≤ from + more
    → IsAtMost (look_on terms h s stripe) (look_from terms h s from more)
among_answers terms h s zero from stripe low high =
    let same : from ≡ stripe = omega (arith, low, high) in
    subst (λ (i : ℕ). IsAtMost (look_on terms h s stripe) (look_on terms h s i)) (sym same)
    (IsAtMost-itself (look_on terms h s stripe))
among_answers terms h s (suc more) from stripe low high =
    by_place (λ above. among_answers terms h s more (suc from) stripe above (omega (arith, high)))
    (here_or_above from stripe low)
  where
    here_or_above : (a b : ℕ) → a ≤ b → (b ≡ a) ⊎ (suc a ≤ b)
    here_or_above zero zero le = inl refl
    here_or_above zero (suc b) le = inr (omega arith)
    here_or_above (suc a) zero le = absurd (omega (arith, le))
    here_or_above (suc a) (suc b) le = elim (here_or_above a b (omega (arith, le))) [
      | inl e ↦ inl (ap suc e)
      | inr p ↦ inr (omega (arith, p))
    ]

    -- the recursive call comes in from outside
    by_place : ((suc from ≤ stripe) → IsAtMost (look_on terms h s stripe)
        (look_from terms h s (suc from) more)) → (stripe ≡ from) ⊎ (suc from ≤ stripe)
        → IsAtMost (look_on terms h s stripe)
        (ratcheted (look_on terms h s from) (look_from terms h s (suc from) more))
    by_place others (inl same) = subst (λ (i : ℕ). IsAtMost (look_on terms h s i)
        (ratcheted (look_on terms h s from) (look_from terms h s (suc from) more))) (sym same)
        (first_below (look_on terms h s from) (look_from terms h s (suc from) more))
    by_place others (inr above) = IsAtMost-transitive (look_on terms h s stripe)
        (look_from terms h s (suc from) more)
        (ratcheted (look_on terms h s from) (look_from terms h s (suc from) more)) (others above)
        (second_below (look_on terms h s from) (look_from terms h s (suc from) more))

-- what lies in a stripe of one of some things, lies there of all
of_one : {X Y : Type 0} (f : X → List Y) (xs : List X) (x : X) (y : Y) → IsIn xs x
    → Contains (f x) y → Contains (flat_map f xs) y
of_one f [] x y there c = absurd there
of_one {X = X} f (z ∷ xs) x y there c = elim there [
  | inl is ↦ Contains-append_left (f z) (flat_map f xs) y
      (subst (λ (w : X). Contains (f w) y) (sym is) c)
  | inr rest ↦ Contains-append_right (f z) (flat_map f xs) y (of_one f xs x y rest c)
]

-- an entry of which something lies in a stripe is one of the part there, as far as it lies there
has_cut : (bounds : List KeyBytes) (i : ℕ) (h : History) (e : Entry) (m : Mark) → Contains h e
    → Contains (marks_in bounds i e.marks) m
    → Contains (part_of bounds i h) (record e { marks = marks_in bounds i e.marks })
unfolding entry_in
has_cut bounds i h e m there some =
    of_one (entry_in bounds i) h e (record e { marks = marks_in bounds i e.marks })
    (IsIn-from_Contains h e there)
    (lies (marks_in bounds i e.marks) some)
  where
    lies : (ms : List Mark) → Contains ms m → Contains (entry_with e ms) (record e { marks = ms })
    lies [] c = absurd (omega (arith, c.1))
    lies (n ∷ ms) c = Contains-from_IsIn (record e { marks = n ∷ ms } ∷ [])
        (record e { marks = n ∷ ms }) (inl refl)

-- no answer in the stripe where an Add and a span meet is below that Add
pub kept_in : (terms : Terms) (h : History) (e : Entry) (m : Mark) (s : SpanView)
    → Contains h e → Contains e.marks m → (meet : MeetsIn terms.bounds m.span s)
    → IsAtMost m.value (look_on terms h s meet.stripe)
kept_in terms h e m s there own meet =
    let i : ℕ = meet.stripe in
    let piece : Mark = record { span = between meet.from meet.to; value = m.value } in
    let cut : Contains (marks_in terms.bounds i e.marks) piece =
    of_one (λ (n : Mark). mark_on (piece_of terms.bounds i n.span) n) e.marks m piece
    (IsIn-from_Contains e.marks m own)
    (subst (λ (t : SpanView). Contains (mark_on t m) piece) (sym meet.piece)
    (Contains-from_IsIn (piece ∷ []) piece (inl refl))) in
    kept_up terms.config (part_of terms.bounds i h)
    (record e { marks = marks_in terms.bounds i e.marks }) piece s
    (has_cut terms.bounds i h e piece there cut) cut meet.over

-- no answer is below an Add that its span overlaps
pub kept_up_over : KeptUp
kept_up_over terms h e m s up there own over =
    let meet = meets_in terms.bounds m.span s up over in
    let i : ℕ = meet.stripe in
    let here : IsAtMost m.value (look_on terms h s i) = kept_in terms h e m s there own meet in
    IsAtMost-transitive m.value (look_on terms h s i) (look_over terms h s) here
    (among_answers terms h s
    (last_touched terms.bounds s - first_touched terms.bounds s) (first_touched terms.bounds s) i
    meet.first (omega (arith, meet.first, meet.last_)))

-- the part of a beginning begins the part of the whole
part_begins : (bounds : List KeyBytes) (i : ℕ) (h start : History) → BeginsWith h start
    → BeginsWith (part_of bounds i h) (part_of bounds i start)
part_begins bounds i h start b = (
  part_of bounds i b.0,
  ap (part_of bounds i) b.1 ∙ flat_map-append (entry_in bounds i) start b.0,
)

rising_from : (terms : Terms) (start h : History) (s : SpanView) (more from : ℕ)
    → BeginsWith h start → IsAtMost (look_from terms start s from more) (look_from terms h s from
    more)
rising_from terms start h s zero from b =
    rising.answers terms.config (part_of terms.bounds from start) (part_of terms.bounds from h) s
    (part_begins terms.bounds from h start b)
rising_from terms start h s (suc more) from b =
    let mine = rising.answers terms.config (part_of terms.bounds from start)
    (part_of terms.bounds from h) s (part_begins terms.bounds from h start b) in
    let others = rising_from terms start h s more (suc from) b in
    let one : ValueView = look_on terms h s from in
    let rest : ValueView = look_from terms h s (suc from) more in
    both_below (look_on terms start s from) (look_from terms start s (suc from) more)
    (ratcheted one rest)
    (IsAtMost-transitive (look_on terms start s from) one (ratcheted one rest) mine
    (first_below one rest))
    (IsAtMost-transitive (look_from terms start s (suc from) more) rest (ratcheted one rest) others
    (second_below one rest))

-- no answer sinks, and no floor does
pub rising_over : Rising
rising_over = record {
  answers = λ terms start h s b. rising_from terms start h s
      (last_touched terms.bounds s - first_touched terms.bounds s) (first_touched terms.bounds s) b;
  floors = λ terms start h stripe b. rising.floors terms.config (part_of terms.bounds stripe start)
      (part_of terms.bounds stripe h) (part_begins terms.bounds stripe h start b);
}

-- an entry of a part is one of the history, of which something lies there
whole_entry : (bounds : List KeyBytes) (i : ℕ) (h : History) (e : Entry)
    → IsIn (part_of bounds i h) e
    → (f : Entry) × IsIn h f × (marks_in bounds i f.marks ≢ []) × (e.now ≡ f.now)
unfolding entry_in
whole_entry bounds i [] e there = absurd there
whole_entry bounds i (f ∷ h) e there =
    by_marks (λ rest. whole_entry bounds i h e rest) (marks_in bounds i f.marks) refl there
  where
    some : (m : Mark) (ms : List Mark) → m ∷ ms ≡ [] → ⊥
    some m ms e = omega (arith, ap length e)

    by_marks : (IsIn (part_of bounds i h) e
        → (g : Entry) × IsIn h g × (marks_in bounds i g.marks ≢ []) × (e.now ≡ g.now)) → (ms : List Mark) → marks_in bounds i f.marks ≡ ms
        → IsIn (entry_with f ms ++ part_of bounds i h) e
        → (g : Entry) × IsIn (f ∷ h) g × (marks_in bounds i g.marks ≢ []) × (e.now ≡ g.now)
    by_marks rest_ [] is rest = let w = rest_ rest in (w.0, inr w.1, w.2, w.3)
    by_marks rest_ (m ∷ ms) is (inl same) =
        (f, inl refl, (λ none. some m ms (sym is ∙ none)), ap (λ (x : Entry). x.now) (sym same))
    by_marks rest_ (m ∷ ms) is (inr rest) = let w = rest_ rest in (w.0, inr w.1, w.2, w.3)

-- no floor runs ahead of its window
pub floor_behind_over : FloorBehind
floor_behind_over terms h stripe =
    elim (floor_behind terms.config (part_of terms.bounds stripe h)) [
      | inl same ↦ inl same
      | inr past ↦ (let w = whole_entry terms.bounds stripe h past.0
          (IsIn-from_Contains (part_of terms.bounds stripe h) past.0 past.2) in
          inr (
            w.0,
            past.1,
            Contains-from_IsIn h w.0 w.1,
            w.2,
            ap (λ (t : Time). time_minus t terms.config.retention) (sym w.3) ∙ past.3,
            past.4,
          ))
    ]

-- no write is below a read
pub no_write_below_a_read_over : NoWriteBelowARead
no_write_below_a_read_over terms h s writer time up clear e m there own over =
    clear_below m.value (look_over terms h s) writer time
    (kept_up_over terms h e m s up there own over) clear
