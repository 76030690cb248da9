-- What an Add leaves in a stripe, and where it lies.
use Rattle.std.proofs.Common.{◌≡◌, ◌∙◌, inl, inr, refl, sym, ap, subst, ℕ, ◌<◌, List, []}
use Rattle.std.proofs.Common.{◌∷◌, ◌++◌, arith, append-nil}
use Rattle.std.specs.Prelude.{◌==◌, true}
use Rattle.std.proofs.lemmas.Bool.Decides.{nat_tests}
use Rattle.std.proofs.lemmas.List.Concat.{flat_map-cons}
use Rattle.tsc_time.specs.Time.{Time}
use Rattle.tsc_time.specs.ValueView.{ValueView}
use Rattle.tsc_span.specs.Span.{KeyBytes, SpanView, nothing, between}
use Rattle.tsc_page_model.specs.Page.{Mark}
use Rattle.tsc_cache.specs.ConfigView.{ConfigView}
use Rattle.tsc_cache.specs.State.{CacheState, step, step_all}
use Rattle.tsc_cache.specs.declared.history.Entry.{Entry}
use Rattle.tsc_cache.specs.History.{History, state_of, entry_of_mark}
use Rattle.tsc_cache.proofs.Histories.{state_of-push}
use Rattle.tsc_cache.proofs.Steps.{one_mark_is_a_step}
use Rattle.tsc_stripe_table.specs.Stripes.{Terms, piece_of, mark_on, marks_in, entry_with, entry_in}
use Rattle.tsc_stripe_table.specs.Stripes.{part_of, state_on}
use Rattle.tsc_stripe_table.specs.Rule.{one_if, times_held}
use Rattle.tsc_stripe_table.specs.Steps.{IsCovered}
use Rattle.tsc_stripe_table.proofs.Parts.{part_push, held_cons, same_or_not}
use Rattle.tsc_striped.specs.Moves.{LiesIn}

-- what entries make of a state in a stripe is what their marks there do
pub state_on_push : (terms : Terms) (i : ℕ) (h : History) (e : Entry)
    → state_on terms i (h ++ e ∷ []) ≡ (step_all terms.config (state_on terms i h)
    (marks_in terms.bounds i e.marks) e.now).state
unfolding entry_in
state_on_push terms i h e =
    ap (state_of terms.config) (part_push terms.bounds i h e)
    ∙ with_marks (marks_in terms.bounds i e.marks)
  where
    with_marks : (ms : List Mark) → state_of terms.config (part_of terms.bounds i h ++ entry_with e ms)
        ≡ (step_all terms.config (state_on terms i h) ms e.now).state
    with_marks [] = ap (state_of terms.config) (append-nil (part_of terms.bounds i h))
    with_marks (m ∷ ms) = state_of-push terms.config (part_of terms.bounds i h)
        (record e { marks = m ∷ ms })

-- a mark that lies in a stripe as a whole is the one that lies there
pub whole_mark_steps : (config : ConfigView) (bounds : List KeyBytes) (i : ℕ) (s : CacheState)
    (m : Mark) (now : Time) → piece_of bounds i m.span ≡ m.span
    → step_all config s (marks_in bounds i (m ∷ [])) now ≡ step config s m now
whole_mark_steps config bounds i s m now whole =
    ap (λ (ms : List Mark). step_all config s ms now)
    (flat_map-cons (λ (n : Mark). mark_on (piece_of bounds i n.span) n) m []
    ∙ append-nil (mark_on (piece_of bounds i m.span) m)
    ∙ ap (λ (span : SpanView). mark_on span m) whole)
    ∙ alone m.span m.value
  where
    alone : (span : SpanView) (v : ValueView)
        → step_all config s (mark_on span (record { span = span; value = v })) now
        ≡ step config s (record { span = span; value = v }) now
    alone nothing v = refl
    alone (between from to) v =
        one_mark_is_a_step config s (record { span = between from to; value = v }) now

-- and none is there of a mark of which nothing lies there
pub no_entry_there : (bounds : List KeyBytes) (i seat number : ℕ) (m : Mark) (now : Time)
    → piece_of bounds i m.span ≡ nothing → entry_in bounds i (entry_of_mark seat number m now) ≡ []
unfolding entry_in
no_entry_there bounds i seat number m now none =
    ap (entry_with (entry_of_mark seat number m now))
    (flat_map-cons (λ (n : Mark). mark_on (piece_of bounds i n.span) n) m []
    ∙ append-nil (mark_on (piece_of bounds i m.span) m)
    ∙ ap (λ (span : SpanView). mark_on span m) none)

same_number : (a b : ℕ) → a ≡ b → (a == b) ≡ true
same_number a b e = grind (arith, nat_tests)

-- a stripe is among those that begin with it
pub held_itself : (i : ℕ) (others : List ℕ) → 0 < times_held i (i ∷ others)
held_itself i others =
    omega (arith, held_cons i i others, ap one_if (same_number i i refl))

-- so whoever holds that stripe holds all on which the entry lies
pub covered_in : (bounds : List KeyBytes) (stripe seat number : ℕ) (m : Mark) (now : Time)
    → LiesIn bounds stripe m.span → IsCovered bounds (stripe ∷ [])
    (entry_of_mark seat number m now)
covered_in bounds stripe seat number m now lies other = elim (same_or_not other stripe) [
  | inl same ↦ inr (subst (λ (i : ℕ). 0 < times_held i (stripe ∷ [])) (sym same)
      (held_itself stripe []))
  | inr apart ↦ inl (no_entry_there bounds other seat number m now (lies.none other apart))
]
