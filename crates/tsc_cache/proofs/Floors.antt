-- Where the floor stands after pages were dropped.
use Rattle.std.proofs.Common.{◌≡◌, ◌⊎◌, inl, inr, refl, ap, List, [], ◌∷◌, map, true, false, nat_le, arith}
use Rattle.std.specs.Prelude.{Some, ◌-◌, ℕ}
use Rattle.std.specs.List.{Contains}
use Rattle.std.proofs.lemmas.Bool.{cases_Bool}
use Rattle.std.proofs.lemmas.List.Elements.{Contains-append_cases}
use Rattle.tsc_time.specs.Time.{Time, is_before, later, time_minus}
use Rattle.tsc_time.proofs.TimeOrder.{later-reports, is_before-itself, is_before-opposite, no_earlier-transitive}
use Rattle.tsc_time.proofs.Members.{IsIn, IsIn-from_Contains, Contains-from_IsIn}
use Rattle.tsc_time.proofs.JointLemmas.{latest-each}
use Rattle.tsc_page_model.specs.Page.{Mark, PageMarks, top}
use Rattle.tsc_cache.specs.Rotation.{highest, is_past_retention}
use Rattle.tsc_cache.proofs.MarkLists.{all_marks}

-- the later of two is before neither
pub later-first : (a b : Time) → is_before (later a b) a ≡ false
later-first a b = grind (arith, later-reports, is_before-itself, is_before-opposite)

pub later-second : (a b : Time) → is_before (later a b) b ≡ false
later-second a b = grind (arith, later-reports, is_before-itself)

-- the highest of a floor and some tops is not below the floor
pub highest-floor : (floor : Time) (tops : List Time) → is_before (highest floor tops) floor ≡ false
highest-floor floor [] = is_before-itself floor
highest-floor floor (t ∷ ts) = no_earlier-transitive floor (highest floor ts)
    (later t (highest floor ts)) (highest-floor floor ts) (later-second t (highest floor ts))

-- it is the floor, or one of the tops
pub highest-reached : (floor : Time) (tops : List Time) →
    (highest floor tops ≡ floor) ⊎ Contains tops (highest floor tops)
highest-reached floor tops = elim (reached tops)
    [ inl e ↦ inl e | inr i ↦ inr (Contains-from_IsIn tops (highest floor tops) i) ]
  where
    reached : (ts : List Time) → (highest floor ts ≡ floor) ⊎ IsIn ts (highest floor ts)
    reached [] = inl refl
    reached (t ∷ ts) = elim (later-reports t (highest floor ts)) [
      | inl h ↦ rw h.1 (elim (reached ts) [ inl e ↦ inl e | inr i ↦ inr (inr i) ])
      | inr h ↦ rw h.1 (inr (inl refl))
    ]

-- no mark of a page is above its top
pub top-each : (p : PageMarks) (m : Mark) → Contains p.marks m →
    is_before (top p) m.value.time ≡ false
top-each p m c = latest-each p.base (map (λ (n : Mark). n.value) p.marks) m.value
    (has p.marks (IsIn-from_Contains p.marks m c))
  where
    has : (ms : List Mark) → IsIn ms m → IsIn (map (λ (n : Mark). n.value) ms) m.value
    has [] i = absurd i
    has (n ∷ ns) i = elim i [ inl e ↦ inl (ap (λ (o : Mark). o.value) e) | inr j ↦ inr (has ns j) ]

-- so no mark of a dropped page is above the floor after it
pub highest-each : (floor : Time) (dropped : List PageMarks) (m : Mark) →
    Contains (all_marks dropped) m →
    is_before (highest floor (map top dropped)) m.value.time ≡ false
highest-each floor [] m c = absurd (IsIn-from_Contains [] m c)
highest-each floor (p ∷ ps) m c = elim (Contains-append_cases p.marks (all_marks ps) m c) [
  | inl h ↦ no_earlier-transitive m.value.time (top p) (later (top p) (highest floor (map top ps)))
      (top-each p m h) (later-first (top p) (highest floor (map top ps)))
  | inr h ↦ no_earlier-transitive m.value.time (highest floor (map top ps))
      (later (top p) (highest floor (map top ps))) (highest-each floor ps m h)
      (later-second (top p) (highest floor (map top ps)))
]

-- what is past its retention lies before the limit that its moment has
pub past_limit : (retention : ℕ) (now t : Time) → is_past_retention retention now t ≡ true →
    (limit : Time) × (time_minus now retention ≡ Some limit) × (is_before t limit ≡ true)
past_limit retention now t past = elim (cases_Bool (nat_le retention now.wall)) [
  | inl h ↦ (record { wall = now.wall - retention; logical = now.logical }, rw h refl, rw h at past)
  | inr h ↦ let none : false ≡ true = rw h at past in cc
]
