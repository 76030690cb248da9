-- What need not be looked into: where the joint value of all changes nothing.
use Rattle.std.proofs.Common.{◌≡◌, ◌≢◌, ◌⊎◌, inl, inr, ◌∙◌, refl, sym, ap, subst, false, rules, [], ◌∷◌}
use mathlib.Core.Bool.{true≢false}
use Rattle.std.specs.Prelude.{Option, Some, None, IsTrue, ◌↔◌, Bool}
use Rattle.std.proofs.lemmas.Bool.{cases_Bool}
use Rattle.tsc_time.specs.Time.{is_before}
use Rattle.tsc_time.specs.ValueView.{Owner, ValueView, unowned, is_same_owner}
use Rattle.tsc_time.specs.Joint.{joint, ratcheted, IsAtMost}
use Rattle.tsc_time.proofs.TimeOrder.{is_before-itself}
use Rattle.tsc_time.proofs.RatchetOrder.{same_owned, IsAtMost-itself, IsAtMost-antisymmetric, IsAtMost-transitive}
use Rattle.tsc_page_nodes.proofs.Raises.{first_below, second_below, both_below}

-- a new value changes an old one, or doesn't
changes_or_not : (v w : ValueView) → (ratcheted v w ≡ v) ⊎ (ratcheted v w ≢ v)
changes_or_not v w = elim (cases_Bool (is_before v.time w.time)) [
  | inl a ↦ inr (rw a (λ e. true≢false
      (sym a ∙ subst (λ (x : ValueView). is_before v.time x.time ≡ false) (sym e)
      (is_before-itself v.time))))
  | inr a ↦ elim (cases_Bool (is_before w.time v.time)) [
    | inl b ↦ inl (rw (a, b) refl)
    | inr b ↦ elim (cases_Bool (is_same_owner v.owner w.owner)) [
      | inl o ↦ inl (rw (a, b, o) refl)
      | inr o ↦ elim (owned_or_not v.owner) [
        | inl n ↦ inl (rw (a, b, o) (same_owned (unowned v.time) v refl (sym n)))
        | inr s ↦ inr (rw (a, b, o) (λ e. s (sym (ap (λ (x : ValueView). x.owner) e))))
      ]
    ]
  ]
]
  where
    owned_or_not : (o : Option Owner) → (o ≡ None) ⊎ (o ≢ None)
    owned_or_not None = inl refl
    owned_or_not (Some a) = inr (λ e. search (rules))

-- one that tells that it changes nothing leaves the old one
pub left_as_it_is : (v w made : ValueView) (more : Bool) → made ≡ ratcheted v w →
    made ≡ joint v (w ∷ []) → (IsTrue more ↔ (made ≢ v)) → more ≡ false → joint v (w ∷ []) ≡ v
left_as_it_is v w made more is joins reports none = elim (changes_or_not v w) [
  | inl e ↦ sym joins ∙ is ∙ e
  | inr n ↦ absurd (true≢false (sym (reports.1 (λ e. n (sym is ∙ e))) ∙ none))
]

-- and then nothing does that is at most this one
pub nothing_more : (best all some : ValueView) → joint best (all ∷ []) ≡ best → IsAtMost some all →
    joint best (some ∷ []) ≡ best
nothing_more best all some same below =
    let up : IsAtMost all best = subst (λ (x : ValueView). IsAtMost all x) same
    (second_below best all) in
    IsAtMost-antisymmetric (joint best (some ∷ [])) best
    (both_below best some best (IsAtMost-itself best)
    (IsAtMost-transitive some all best below up)) (first_below best some)
