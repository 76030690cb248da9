-- Beginnings of histories, and legal ones.
use Rattle.std.proofs.Common.{◌≡◌, ◌⊎◌, ◌∙◌, inl, inr, refl, sym, ap, subst, ℕ, ◌+◌, ◌≤◌, [], ◌∷◌}
use Rattle.std.proofs.Common.{◌++◌, length, arith, append_assoc, append-nil, List, Bool, true, false}
use Rattle.std.specs.Prelude.{◌==◌, nat_le}
use Rattle.std.proofs.lemmas.List.{length-append, length_push, same_from_push}
use Rattle.std.proofs.lemmas.List.Sums.{sum_by-append, count_by-le-length}
use Rattle.std.proofs.lemmas.Bool.Decides.{nat_tests}
use Rattle.tsc_left_right.specs.declared.replicated.Replicated.{Ghosts}
use Rattle.tsc_left_right.specs.Histories.{own_count, BeginsWith, IsLegal}

module _ {E : Type 0} where
  -- a history begins with itself
  pub begins_itself : (h : List E) → BeginsWith h h
  begins_itself h = ([], sym (append-nil h))

  -- and with all that it begins with
  pub begins_on : (h g f : List E) → BeginsWith h g → BeginsWith g f → BeginsWith h f
  begins_on h g f a b = (
    b.0 ++ a.0,
    a.1 ∙ ap (λ (x : List E). x ++ a.0) b.1 ∙ append_assoc f b.0 a.0,
  )

  -- a history begins with nothing
  pub begins_empty : (h : List E) → BeginsWith h []
  begins_empty h = (h, refl)

  -- one that is longer begins with it
  pub begins_more : (h es : List E) → BeginsWith (h ++ es) h
  begins_more h es = (es, refl)

  -- a beginning is no longer
  pub begins_length : (h g : List E) → BeginsWith h g → length g ≤ length h
  begins_length h g b = omega (arith, ap length b.1, length-append g b.0)

  same_heads : (a b : E) (x y : List E) → a ∷ x ≡ b ∷ y → (a ≡ b) × (x ≡ y)
  same_heads a b x y e = (cc, cc)

  no_entry : (a : E) (x : List E) → [] ≡ a ∷ x → ⊥
  no_entry a x e = omega (arith, ap length e)

  -- of two beginnings of one history, the shorter begins the longer
  pub begins_shorter : (h a b : List E) → BeginsWith h a → BeginsWith h b → length a ≤ length b
      → BeginsWith b a
  begins_shorter h [] b x y le = (b, refl)
  begins_shorter h (e ∷ a) [] x y le = absurd (omega arith)
  begins_shorter [] (e ∷ a) (f ∷ b) x y le = absurd (no_entry e (a ++ x.0) x.1)
  begins_shorter (g ∷ h) (e ∷ a) (f ∷ b) x y le =
      let s = same_heads g e h (a ++ x.0) x.1 in
      let t = same_heads g f h (b ++ y.0) y.1 in
      let rest = begins_shorter h a b (x.0, s.1) (y.0, t.1) (omega arith) in
      (rest.0, (λ i. (sym t.0 ∙ s.0) i ∷ rest.1 i))

  -- of an entry either all was seen, or nothing
  pub seen_whole : (before after seen : List E) (e : E) → BeginsWith (before ++ e ∷ after) seen
      → BeginsWith before seen ⊎ BeginsWith seen (before ++ e ∷ [])
  seen_whole before after seen e b = by_length (nat_le (length seen) (length before)) refl
    where
      longer : BeginsWith (before ++ e ∷ after) (before ++ e ∷ [])
      longer = (after, sym (append_assoc before (e ∷ []) after))

      by_length : (t : Bool) → nat_le (length seen) (length before) ≡ t
          → BeginsWith before seen ⊎ BeginsWith seen (before ++ e ∷ [])
      by_length true is = inl (begins_shorter (before ++ e ∷ after) seen before b (e ∷ after, refl)
          (grind (arith, nat_tests)))
      by_length false is = inr (begins_shorter (before ++ e ∷ after) (before ++ e ∷ []) seen longer
          b (grind (arith, nat_tests, length_push before e)))

  -- what ends in one entry more begins with the same as before, or is the whole
  pub begins_push : (h g : List E) (e : E) → BeginsWith (h ++ e ∷ []) g
      → BeginsWith h g ⊎ (g ≡ h ++ e ∷ [])
  begins_push h [] e b = inl (h, refl)
  begins_push [] (f ∷ g) e b =
      let s = same_heads e f [] (g ++ b.0) b.1 in
      let none : g ≡ [] = nothing g b.0 s.1 in
      inr (λ i. sym s.0 i ∷ none i)
    where
      nothing : (x y : List E) → [] ≡ x ++ y → x ≡ []
      nothing [] y p = refl
      nothing (a ∷ x) y p = absurd (omega (arith, ap length p))
  begins_push (a ∷ h) (f ∷ g) e b =
      let s = same_heads a f (h ++ e ∷ []) (g ++ b.0) b.1 in
      elim (begins_push h g e (b.0, s.1)) [
        | inl c ↦ inl (c.0, (λ i. s.0 i ∷ c.1 i))
        | inr c ↦ inr (λ i. sym s.0 i ∷ c i)
      ]

module _ {P C O S E : Type 0} (R : Ghosts P C O S E) where
  -- a beginning of a legal history is legal
  pub legal_beginning : (config : S) (seats : ℕ) (h g : List E) → IsLegal R config seats h
      → BeginsWith h g → IsLegal R config seats g
  legal_beginning config seats h g legal b before e c =
      legal before e (begins_on h g (before ++ e ∷ []) b c)

  -- a history without entries is legal
  pub legal_empty : (config : S) (seats : ℕ) → IsLegal R config seats []
  legal_empty config seats before e c =
      absurd (omega (
        arith,
        ap length c.1,
        length-append (before ++ e ∷ []) c.0,
        length-append before (e ∷ []),
      ))

  -- and a legal history with the next entry is
  pub legal_push : (config : S) (seats : ℕ) (h : List E) (e : E)
      → IsLegal R config seats h → R.is_next config seats h e
      → IsLegal R config seats (h ++ e ∷ [])
  legal_push config seats h e legal next before f c =
      elim (begins_push h (before ++ f ∷ []) e c) [
        | inl b ↦ legal before f b
        | inr same ↦ let s = same_from_push before h f e same in
            subst (λ (g : List E). R.is_next config seats g f) (sym s.0)
            (subst (R.is_next config seats h) (sym s.1) next)
      ]

  -- counts add up
  pub own_append : (seat : ℕ) (h g : List E) → own_count R seat (h ++ g)
      ≡ own_count R seat h + own_count R
      seat g
  own_append seat h g = sum_by-append _ h g

  pub own_of_one : (seat : ℕ) (e : E) → R.seat_of e ≡ seat → own_count R seat (e ∷ []) ≡ 1
  own_of_one seat e is = grind (arith, nat_tests)

  pub own_of_other : (seat : ℕ) (e : E) → (R.seat_of e ≡ seat → ⊥) → own_count R seat (e ∷ []) ≡ 0
  own_of_other seat e is = grind (arith, nat_tests)

  pub own_length : (seat : ℕ) (h : List E) → own_count R seat h ≤ length h
  own_length seat h = count_by-le-length (λ (e : E). R.seat_of e == seat) h

  -- between two with the same count of a seat, each has that count
  pub own_between : (seat n : ℕ) (h g f : List E) → BeginsWith h g → BeginsWith g f
      → own_count R seat h ≡ n → own_count R seat f ≡ n → own_count R seat g ≡ n
  own_between seat n h g f a b whole part =
      omega (
        arith,
        ap (own_count R seat) a.1 ∙ own_append seat g a.0,
        ap (own_count R seat) b.1
            ∙ own_append seat f b.0,
      )
