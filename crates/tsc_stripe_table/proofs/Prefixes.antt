-- Beginnings of histories, and legal ones.
use Rattle.std.proofs.Common.{◌≡◌, ◌⊎◌, ◌∙◌, inl, inr, refl, sym, ap, subst, ℕ, ◌+◌, ◌≤◌, [], ◌∷◌}
use Rattle.std.proofs.Common.{◌++◌, length, arith}
use Rattle.std.specs.Prelude.{◌==◌}
use Rattle.std.proofs.lemmas.List.{length-append, same_from_push}
use Rattle.std.proofs.lemmas.List.Sums.{sum_by-append}
use Rattle.std.proofs.lemmas.Bool.Decides.{nat_tests}
use Rattle.tsc_cache.specs.ConfigView.{ConfigView}
use Rattle.tsc_cache.specs.declared.history.Entry.{Entry}
use Rattle.tsc_cache.specs.History.{History, own_count, BeginsWith, IsNext, IsLegal}

-- a history begins with nothing
pub begins_empty : (h : History) → BeginsWith h []
begins_empty h = (h, refl)

-- one that is longer begins with it
pub begins_more : (h es : History) → BeginsWith (h ++ es) h
begins_more h es = (es, refl)

-- a beginning is no longer
pub begins_length : (h g : History) → BeginsWith h g → length g ≤ length h
begins_length h g b = omega (arith, ap length b.1, length-append g b.0)

same_heads : (a b : Entry) (x y : History) → a ∷ x ≡ b ∷ y → (a ≡ b) × (x ≡ y)
same_heads a b x y e = (cc, cc)

no_entry : (a : Entry) (x : History) → [] ≡ a ∷ x → ⊥
no_entry a x e = omega (arith, ap length e)

-- of two beginnings of one history, the shorter begins the longer
pub begins_shorter : (h a b : History) → BeginsWith h a → BeginsWith h b → length a ≤ length b
    → BeginsWith b a
begins_shorter h [] b x y le = (b, refl)
begins_shorter h (e ∷ a) [] x y le = absurd (omega arith)
begins_shorter [] (e ∷ a) (f ∷ b) x y le = absurd (no_entry e (a ++ x.0) x.1)
begins_shorter (g ∷ h) (e ∷ a) (f ∷ b) x y le =
    let s = same_heads g e h (a ++ x.0) x.1 in
    let t = same_heads g f h (b ++ y.0) y.1 in
    let rest = begins_shorter h a b (x.0, s.1) (y.0, t.1) (omega arith) in
    (rest.0, (λ i. (sym t.0 ∙ s.0) i ∷ rest.1 i))

-- what ends in one entry more begins with the same as before, or is the whole
pub begins_push : (h g : History) (e : Entry) → BeginsWith (h ++ e ∷ []) g
    → BeginsWith h g ⊎ (g ≡ h ++ e ∷ [])
begins_push h [] e b = inl (h, refl)
begins_push [] (f ∷ g) e b =
    let s = same_heads e f [] (g ++ b.0) b.1 in
    let none : g ≡ [] = nothing g b.0 s.1 in
    inr (λ i. sym s.0 i ∷ none i)
  where
    nothing : (x y : History) → [] ≡ x ++ y → x ≡ []
    nothing [] y p = refl
    nothing (a ∷ x) y p = absurd (omega (arith, ap length p))
begins_push (a ∷ h) (f ∷ g) e b =
    let s = same_heads a f (h ++ e ∷ []) (g ++ b.0) b.1 in
    elim (begins_push h g e (b.0, s.1)) [
      | inl c ↦ inl (c.0, (λ i. s.0 i ∷ c.1 i))
      | inr c ↦ inr (λ i. sym s.0 i ∷ c i)
    ]

-- a history without entries is legal
pub legal_empty : (config : ConfigView) (seats : ℕ) → IsLegal config seats []
legal_empty config seats before e c =
    absurd (omega (
      arith,
      ap length c.1,
      length-append (before ++ e ∷ []) c.0,
      length-append before (e ∷ []),
    ))

-- and a legal history with the next entry is
pub legal_push : (config : ConfigView) (seats : ℕ) (h : History) (e : Entry)
    → IsLegal config seats h → IsNext config seats h e → IsLegal config seats (h ++ e ∷ [])
legal_push config seats h e legal next before f c =
    elim (begins_push h (before ++ f ∷ []) e c) [
      | inl b ↦ legal before f b
      | inr same ↦ let s = same_from_push before h f e same in
          subst (λ (g : History). IsNext config seats g f) (sym s.0)
          (subst (IsNext config seats h) (sym s.1) next)
    ]

-- counts add up
pub own_append : (seat : ℕ) (h g : History) → own_count seat (h ++ g) ≡ own_count seat h + own_count
    seat g
own_append seat h g = sum_by-append _ h g

pub own_of_one : (seat : ℕ) (e : Entry) → e.seat ≡ seat → own_count seat (e ∷ []) ≡ 1
own_of_one seat e is = grind (arith, nat_tests)

pub own_of_other : (seat : ℕ) (e : Entry) → (e.seat ≡ seat → ⊥) → own_count seat (e ∷ []) ≡ 0
own_of_other seat e is = grind (arith, nat_tests)

-- between two with the same count of a seat, each has that count
pub own_between : (seat n : ℕ) (h g f : History) → BeginsWith h g → BeginsWith g f
    → own_count seat h ≡ n → own_count seat f ≡ n → own_count seat g ≡ n
own_between seat n h g f a b whole part =
    omega (
      arith,
      ap (own_count seat) a.1 ∙ own_append seat g a.0,
      ap (own_count seat) b.1
          ∙ own_append seat f b.0,
    )
