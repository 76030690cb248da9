-- Beginnings of histories, and legal ones.
use Rattle.std.proofs.Common.{◌≡◌, ◌≢◌, ◌∙◌, refl, sym, ap, subst, Bool, true, false, ℕ, ◌<◌}
use Rattle.std.proofs.Common.{◌≤◌, [], ◌∷◌, ◌++◌, length, arith, append_assoc, append-nil}
use Rattle.std.specs.Prelude.{◌==◌, nat_le}
use Rattle.std.proofs.lemmas.List.{length-append}
use Rattle.std.proofs.lemmas.List.Elements.{filter-append}
use Rattle.std.proofs.lemmas.Bool.Decides.{nat_tests}
use Rattle.mvcc_range.specs.Steps.{RangeView}
use Rattle.mvcc_shared.specs.History.{Event, History, Terms, Makes, BeginsWith, Follows, IsLegal}
use Rattle.mvcc_shared.specs.History.{calls_of, range_after, log_of, entries_of}
use Rattle.mvcc_shared.specs.Steps.{longer}

-- a history begins with nothing, with itself,
pub begins_empty : (h : History) → BeginsWith h []
begins_empty h = (h, refl)

pub begins_itself : (h : History) → BeginsWith h h
begins_itself h = ([], sym (append-nil h))

-- with all that it begins with,
pub begins_on : (h g f : History) → BeginsWith h g → BeginsWith g f → BeginsWith h f
begins_on h g f a b = (
  b.0 ++ a.0,
  a.1 ∙ ap (λ (x : History). x ++ a.0) b.1 ∙ append_assoc f b.0 a.0,
)

-- and with all but its last call
pub begins_more : (h es : History) → BeginsWith (h ++ es) h
begins_more h es = (es, refl)

pub begins_push : (h g : History) (e : Event) → BeginsWith h g → BeginsWith (h ++ e ∷ []) g
begins_push h g e b = begins_on (h ++ e ∷ []) h g (begins_more h (e ∷ [])) b

same_heads : (a b : Event) (x y : History) → a ∷ x ≡ b ∷ y → (a ≡ b) × (x ≡ y)
same_heads a b x y e = (cc, cc)

no_event : (a : Event) (x : History) → [] ≡ a ∷ x → ⊥
no_event a x e = omega (arith, ap length e)

-- of two beginnings of one history, the shorter begins the longer
begins_shorter : (h a b : History) → BeginsWith h a → BeginsWith h b → length a ≤ length b
    → BeginsWith b a
begins_shorter h [] b x y le = (b, refl)
begins_shorter h (e ∷ a) [] x y le = absurd (omega arith)
begins_shorter [] (e ∷ a) (f ∷ b) x y le = absurd (no_event e (a ++ x.0) x.1)
begins_shorter (g ∷ h) (e ∷ a) (f ∷ b) x y le =
    let s = same_heads g e h (a ++ x.0) x.1 in
    let t = same_heads g f h (b ++ y.0) y.1 in
    let rest = begins_shorter h a b (x.0, s.1) (y.0, t.1) (omega arith) in
    (rest.0, (λ i. (sym t.0 ∙ s.0) i ∷ rest.1 i))

pub longer_begins : (h a b : History) → BeginsWith h a → BeginsWith h b → BeginsWith (longer a b) a
    × BeginsWith (longer a b) b × BeginsWith h (longer a b)
longer_begins h a b x y = by_length (nat_le (length a) (length b)) refl
  where
    by_length : (t : Bool) → nat_le (length a) (length b) ≡ t → BeginsWith (longer a b) a
        × BeginsWith (longer a b) b × BeginsWith h (longer a b)
    by_length true is = rw is (
      begins_shorter h a b x y (grind (arith, nat_tests)),
      begins_itself b,
      y,
    )
    by_length false is = rw is (
      begins_itself a,
      begins_shorter h b a y x (grind (arith, nat_tests)),
      x,
    )

-- ---- the calls of one client

pub calls_append : (number : ℕ) (h g : History)
    → calls_of number (h ++ g) ≡ calls_of number h ++ calls_of number g
calls_append number h g = filter-append (λ (e : Event). e.client == number) h g

-- a call of another client is none of its
pub calls_else : (number : ℕ) (h : History) (e : Event) → e.client ≢ number
    → calls_of number (h ++ e ∷ []) ≡ calls_of number h
calls_else number h e apart =
    calls_append number h (e ∷ [])
    ∙ ap (λ (x : History). calls_of number h ++ x) none ∙ append-nil (calls_of number h)
  where
    none : calls_of number (e ∷ []) ≡ []
    none = let is : (e.client == number) ≡ false = grind (arith, nat_tests) in rw is refl

-- Between two with the same calls of a client, each has those calls.
pub calls_between : (number : ℕ) (h g f : History) → BeginsWith h g → BeginsWith g f
    → calls_of number h ≡ calls_of number f → calls_of number g ≡ calls_of number f
calls_between number h g f a b same =
    let c : History → History = calls_of number in
    let on : c g ≡ c f ++ c b.0 = ap c b.1 ∙ calls_append number f b.0 in
    let all : c h ≡ c g ++ c a.0 = ap c a.1 ∙ calls_append number g a.0 in
    on ∙ ap (λ (x : History). c f ++ x) (nothing (c b.0) (omega (
      arith,
      ap length on,
      ap length all,
      ap length same,
      length-append (c f) (c b.0),
      length-append (c g) (c a.0),
    ))) ∙ append-nil (c f)
  where
    nothing : (x : History) → length x ≡ 0 → x ≡ []
    nothing [] e = refl
    nothing (a ∷ x) e = absurd (omega (arith, e))

-- ---- what calls leave

pub range_push : (r : RangeView) (h : History) (e : Event) → range_after r (h ++ e ∷ []) ≡ e.range
range_push r [] e = refl
range_push r (f ∷ h) e = range_push f.range h e

pub log_append : (h g : History) → log_of (h ++ g) ≡ log_of h ++ log_of g
log_append [] g = refl
log_append (e ∷ h) g = ap (λ l. entries_of e.call ++ l) (log_append h g)
    ∙ sym (append_assoc (entries_of e.call) (log_of h) (log_of g))

pub log_push : (h : History) (e : Event) → log_of (h ++ e ∷ []) ≡ log_of h ++ entries_of e.call
log_push h e = log_append h (e ∷ [])
    ∙ ap (λ l. log_of h ++ l) (append-nil (entries_of e.call))

-- ---- legal histories

follows_push : (n : ℕ) (r : RangeView) (h : History) (e : Event) → Follows n r h → e.client < n
    → Makes (range_after r h) e.call e.range → Follows n r (h ++ e ∷ [])
follows_push n r [] e f low makes = (low, makes, tt)
follows_push n r (g ∷ h) e f low makes = (f.0, f.1, follows_push n g.range h e f.2 low makes)

pub legal_push : (terms : Terms) (h : History) (e : Event) → IsLegal terms h
    → e.client < terms.clients → Makes (range_after terms.opened h) e.call e.range
    → IsLegal terms (h ++ e ∷ [])
legal_push terms h e legal low makes = record {
  opened = legal.opened;
  follows = follows_push terms.clients terms.opened h e legal.follows low makes;
}

follows_first : (n : ℕ) (r : RangeView) (h g : History) → Follows n r (h ++ g) → Follows n r h
follows_first n r [] g f = tt
follows_first n r (e ∷ h) g f = (f.0, f.1, follows_first n e.range h g f.2)

-- a beginning of a legal history is legal
pub legal_beginning : (terms : Terms) (h g : History) → IsLegal terms h → BeginsWith h g
    → IsLegal terms g
legal_beginning terms h g legal b = record {
  opened = legal.opened;
  follows = follows_first terms.clients terms.opened g b.0
      (subst (Follows terms.clients terms.opened) b.1 legal.follows);
}
