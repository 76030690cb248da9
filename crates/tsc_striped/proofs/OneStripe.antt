-- Without bounds the one stripe is a cache by itself.
use Rattle.std.proofs.Common.{◌≡◌, ◌∙◌, inl, inr, refl, sym, ap, subst, ℕ, suc, List, [], ◌∷◌}
use Rattle.std.proofs.Common.{◌++◌, arith, append_assoc}
use Rattle.std.specs.List.{All}
use Rattle.tsc_time.specs.Time.{Time}
use Rattle.tsc_time.specs.ValueView.{ValueView}
use Rattle.tsc_time.proofs.Members.{IsIn}
use Rattle.tsc_span.specs.Span.{SpanView, nothing, between, before, last}
use Rattle.tsc_span.specs.MadeSpan.{IsMadeSpan}
use Rattle.tsc_page_model.specs.Page.{Mark}
use Rattle.tsc_span.proofs.CutOrder.{none_above_last}
use Rattle.tsc_page_nodes.proofs.Cuts.{lowest}
use Rattle.tsc_cache.specs.ConfigView.{ConfigView}
use Rattle.tsc_cache.specs.State.{CacheState, opening, step, step_all}
use Rattle.tsc_cache.specs.declared.history.Entry.{Entry}
use Rattle.tsc_cache.specs.History.{History, state_from, IsLegal, IsMadeEntry, IsMadeMark}
use Rattle.tsc_stripe_table.specs.Stripes.{piece_of, mark_on, marks_in, entry_with, entry_in, part_of}
use Rattle.tsc_striped.specs.Laws.{OneStripe}
use Rattle.tsc_striped.proofs.Touches.{piece_whole}

-- what can be made lies there as it is
whole : (span : SpanView) → IsMadeSpan span → piece_of [] 0 span ≡ span
whole nothing made = refl
whole (between from to) made =
    piece_whole (before []) last from to (lowest from) (none_above_last to) made.2

module _ (config : ConfigView) (now : Time) where
  -- a mark on the empty span is no step
  mark_alone : (span : SpanView) (v : ValueView) (ms ns : List Mark) (s : CacheState)
      → ((t : CacheState) → (step_all config t ms now).state ≡ (step_all config t ns now).state)
      → (step_all config s (mark_on span (record { span = span; value = v }) ++ ms) now).state
      ≡ (step_all config s (record { span = span; value = v } ∷ ns) now).state
  mark_alone nothing v ms ns s rest = rest s
  mark_alone (between from to) v ms ns s rest =
      rest (step config s (record { span = between from to; value = v }) now).state

  marks_alone : (ms : List Mark) → ((d : Mark) → IsIn ms d → IsMadeSpan d.span)
      → (s : CacheState)
      → (step_all config s (marks_in [] 0 ms) now).state ≡ (step_all config s ms now).state
  marks_alone [] made s = refl
  marks_alone (m ∷ ms) made s =
      ap (λ (span : SpanView). (step_all config s (mark_on span m ++ marks_in [] 0 ms) now).state)
      (whole m.span (made m (inl refl)))
      ∙ mark_alone m.span m.value (marks_in [] 0 ms) ms s
      (marks_alone ms (λ d there. made d (inr there)))

-- so is an entry
entry_alone : (config : ConfigView) (e : Entry) → ((d : Mark) → IsIn e.marks d → IsMadeSpan d.span)
    → (s : CacheState) (h g : History)
    → ((t : CacheState) → state_from config t h ≡ state_from config t g)
    → state_from config s (entry_in [] 0 e ++ h) ≡ state_from config s (e ∷ g)
unfolding entry_in
entry_alone config e made s h g rest =
    by_marks (marks_in [] 0 e.marks) refl
  where
    by_marks : (ms : List Mark) → marks_in [] 0 e.marks ≡ ms
        → state_from config s (entry_with e ms ++ h) ≡ state_from config s (e ∷ g)
    by_marks [] is = ap (λ (t : CacheState). state_from config t h)
        (ap (λ (ns : List Mark). (step_all config s ns e.now).state) (sym is)
        ∙ marks_alone config e.now e.marks made s)
        ∙ rest (step_all config s e.marks e.now).state
    by_marks (m ∷ ms) is = ap (λ (t : CacheState). state_from config t h)
        (ap (λ (ns : List Mark). (step_all config s ns e.now).state) (sym is)
        ∙ marks_alone config e.now e.marks made s)
        ∙ rest (step_all config s e.marks e.now).state

-- and a history
history_alone : (config : ConfigView) (h : History) → ((e : Entry) → IsIn h e → IsMadeEntry config e)
    → (s : CacheState) → state_from config s (part_of [] 0 h) ≡ state_from config s h
history_alone config [] made s = refl
history_alone config (e ∷ h) made s =
    entry_alone config e (λ d there. made_mark e.marks (made e (inl refl)).marks d there) s
    (part_of [] 0 h) h (history_alone config h (λ f there. made f (inr there)))
  where
    made_mark : (ms : List Mark) → All (λ m. IsMadeMark config m) ms → (d : Mark) → IsIn ms d
        → IsMadeSpan d.span
    made_mark [] all d there = absurd there
    made_mark (m ∷ ms) all d (inl same) =
        subst (λ (n : Mark). IsMadeSpan n.span) same (all 0 m (omega arith)).span
    made_mark (m ∷ ms) all d (inr there) =
        made_mark ms (λ k f low. all (suc k) f (omega (arith, low))) d there

-- each entry of a legal history can be made
legal_made : (config : ConfigView) (seats : ℕ) (start h : History)
    → IsLegal config seats (start ++ h) → (e : Entry) → IsIn h e → IsMadeEntry config e
legal_made config seats start [] legal e there = absurd there
legal_made config seats start (f ∷ h) legal e (inl same) =
    subst (IsMadeEntry config) same
    (legal start f (h, sym (append_assoc start (f ∷ []) h))).made
legal_made config seats start (f ∷ h) legal e (inr there) =
    legal_made config seats (start ++ f ∷ []) h
    (subst (IsLegal config seats) (sym (append_assoc start (f ∷ []) h)) legal) e there

pub one_stripe_over : OneStripe
one_stripe_over config seats h legal =
    history_alone config h (legal_made config seats [] h legal) (opening config)
