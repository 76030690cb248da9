-- No two lines have one text.
use Rattle.std.proofs.Common.{◌≡◌, ℕ, ◌<◌, ◌^◌, List, ◌∷◌, ◌++◌, get_or, drop, Bool, true, false, Option, Some, None, decimal, refl, sym, ap, ◌∙◌, arith}
use Rattle.std.proofs.lemmas.Fmt.{decimal_injective}
use Rattle.uuid.specs.Text.{hyphenated_text, lower}
use Rattle.tsc_cache.specs.declared.added.Added.{Added}
use Rattle.tsc_time.proofs.TimeOrder.{parts_below}
use Rattle.tsc_time.specs.Time.{Time, is_in_range}
use Rattle.tsc_time.specs.ValueView.{ValueView, Owner, IsMadeOwner, IsMadeValue}
use Rattle.tsc_trace.specs.declared.log.Line.{Line}
use Rattle.tsc_trace.specs.declared.log.CallAnswer.{CallAnswer}
use Rattle.tsc_trace.specs.declared.log.CallAnswer.TheVariants as said
use Rattle.tsc_trace.specs.LogText.{space, dot, line_feed, bit_text, time_text, owner_text, answer_text, line_text}
use Rattle.tsc_trace.specs.LogReading.{IsWritable, IsWritableAnswer}
use Rattle.tsc_trace.proofs.Cuts.{cut_same}
use Rattle.tsc_trace.proofs.LineTexts.{decimal_without, time_without_space, bit_without_space, line_without_feed}
use Rattle.tsc_trace.proofs.FieldReading.{none_is_no_uuid, parsed_owner}

-- a number, and what follows the space behind it
number_then : (m n : ℕ) (after other : List ℕ) → m < 2 ^ 64 → n < 2 ^ 64 →
    decimal m ++ space ∷ after ≡ decimal n ++ space ∷ other → (m ≡ n) × (after ≡ other)
number_then m n after other small small' e =
    let same = cut_same space (decimal m) after (decimal n) other
    (decimal_without space m small (omega arith))
    (decimal_without space n small' (omega arith)) e in
    (decimal_injective m n small small' same.0, same.1)

same_bit : (a b : Bool) → bit_text a ≡ bit_text b → a ≡ b
same_bit true true e = refl
same_bit true false e = let heads : 49 ≡ 48 =
    ap (λ (bytes : List ℕ). get_or bytes 0 0) e in absurd (omega (arith, heads))
same_bit false true e = let heads : 48 ≡ 49 =
    ap (λ (bytes : List ℕ). get_or bytes 0 0) e in absurd (omega (arith, heads))
same_bit false false e = refl

bit_then : (a b : Bool) (after other : List ℕ) → bit_text a ++ space ∷ after ≡ bit_text b ++ space ∷
    other → (a ≡ b) × (after ≡ other)
bit_then a b after other e =
    let same = cut_same space (bit_text a) after (bit_text b) other (bit_without_space a)
    (bit_without_space b) e in
    (same_bit a b same.0, same.1)

time_by_parts : (wall logical : ℕ) (t : Time) → wall ≡ t.wall → logical ≡ t.logical →
    record { wall = wall; logical = logical } ≡ t
time_by_parts wall logical t walls logicals = rw (walls, logicals) refl

same_time : (t u : Time) → is_in_range t ≡ true → is_in_range u ≡ true →
    time_text t ≡ time_text u → t ≡ u
same_time t u in_range in_range' e =
    let below = parts_below t in_range in
    let below' = parts_below u in_range' in
    let logical : t.logical < 2 ^ 64 = omega arith in
    let logical' : u.logical < 2 ^ 64 = omega arith in
    let same = cut_same dot (decimal t.wall) (decimal t.logical) (decimal u.wall)
    (decimal u.logical)
    (decimal_without dot t.wall below.0 (omega arith))
    (decimal_without dot u.wall below'.0 (omega arith)) e in
    time_by_parts t.wall t.logical u (decimal_injective t.wall u.wall below.0 below'.0 same.0)
    (decimal_injective t.logical u.logical logical logical' same.1)

same_owner : (a b : Option Owner) → IsMadeOwner a → IsMadeOwner b →
    owner_text a ≡ owner_text b → a ≡ b
same_owner None None made made' e = refl
same_owner None (Some uuid) made made' e = absurd (none_is_no_uuid uuid e)
same_owner (Some uuid) None made made' e = absurd (none_is_no_uuid uuid (sym e))
same_owner (Some uuid) (Some other) made made' e =
    sym (parsed_owner (hyphenated_text lower uuid) uuid made refl) ∙
    parsed_owner (hyphenated_text lower uuid) other made' e

value_by_parts : (time : Time) (owner : Option Owner) (v : ValueView) → time ≡ v.time →
    owner ≡ v.owner → record { time = time; owner = owner } ≡ v
value_by_parts time owner v times owners = rw (times, owners) refl

same_value : (v w : ValueView) → IsMadeValue v → IsMadeValue w
    → time_text v.time ++ space ∷ owner_text v.owner ≡ time_text w.time ++ space ∷
    owner_text w.owner → v ≡ w
same_value v w made made' e =
    let same = cut_same space (time_text v.time) (owner_text v.owner) (time_text w.time)
    (owner_text w.owner)
    (time_without_space v.time made.time) (time_without_space w.time made'.time) e in
    value_by_parts v.time v.owner w (same_time v.time w.time made.time made'.time same.0)
    (same_owner v.owner w.owner made.owner made'.owner same.1)

added_by_parts : (kept rotated : Bool) (evicted : ℕ) (a : Added) → kept ≡ a.kept →
    rotated ≡ a.rotated → evicted ≡ a.evicted
    → record { kept = kept; rotated = rotated; evicted = evicted } ≡ a
added_by_parts kept rotated evicted a kepts rotateds evicteds = rw (kepts, rotateds, evicteds) refl

same_added : (a b : Added) → a.evicted < 2 ^ 64 → b.evicted < 2 ^ 64
    → bit_text a.kept ++ space ∷ (bit_text a.rotated ++ space ∷ decimal a.evicted) ≡
    bit_text b.kept ++ space ∷ (bit_text b.rotated ++ space ∷ decimal b.evicted) → a ≡ b
same_added a b small small' e =
    let first = bit_then a.kept b.kept _ _ e in
    let second = bit_then a.rotated b.rotated _ _ first.1 in
    added_by_parts a.kept a.rotated a.evicted b first.0 second.0
    (decimal_injective a.evicted b.evicted small small' second.1)

same_said : (s t : CallAnswer) → IsWritableAnswer s → IsWritableAnswer t →
    answer_text s ≡ answer_text t → s ≡ t
same_said (said.Add place added) (said.Add place' added') h k e =
    let same = number_then place place'
    (bit_text added.kept ++ space ∷ (bit_text added.rotated ++ space ∷ decimal added.evicted))
    (bit_text added'.kept ++ space ∷ (bit_text added'.rotated ++ space ∷ decimal added'.evicted))
    h.0 k.0 (ap (drop 4) e) in
    let places : place ≡ place' = same.0 in
    let addeds : added ≡ added' = same_added added added' h.1 k.1 same.1 in
    cc
same_said (said.Add place added) (said.Batch place' added') h k e = let heads : 97 ≡ 98 =
    ap (λ (bytes : List ℕ). get_or bytes 0 0) e in absurd (omega (arith, heads))
same_said (said.Add place added) (said.Get front value) h k e = let heads : 97 ≡ 103 =
    ap (λ (bytes : List ℕ). get_or bytes 0 0) e in absurd (omega (arith, heads))
same_said (said.Add place added) (said.Low front time) h k e = let heads : 97 ≡ 108 =
    ap (λ (bytes : List ℕ). get_or bytes 0 0) e in absurd (omega (arith, heads))
same_said (said.Batch place added) (said.Add place' added') h k e = let heads : 98 ≡ 97 =
    ap (λ (bytes : List ℕ). get_or bytes 0 0) e in absurd (omega (arith, heads))
same_said (said.Batch place added) (said.Batch place' added') h k e =
    let same = number_then place place'
    (bit_text added.kept ++ space ∷ (bit_text added.rotated ++ space ∷ decimal added.evicted))
    (bit_text added'.kept ++ space ∷ (bit_text added'.rotated ++ space ∷ decimal added'.evicted))
    h.0 k.0 (ap (drop 6) e) in
    let places : place ≡ place' = same.0 in
    let addeds : added ≡ added' = same_added added added' h.1 k.1 same.1 in
    cc
same_said (said.Batch place added) (said.Get front value) h k e = let heads : 98 ≡ 103 =
    ap (λ (bytes : List ℕ). get_or bytes 0 0) e in absurd (omega (arith, heads))
same_said (said.Batch place added) (said.Low front time) h k e = let heads : 98 ≡ 108 =
    ap (λ (bytes : List ℕ). get_or bytes 0 0) e in absurd (omega (arith, heads))
same_said (said.Get front value) (said.Add place added) h k e = let heads : 103 ≡ 97 =
    ap (λ (bytes : List ℕ). get_or bytes 0 0) e in absurd (omega (arith, heads))
same_said (said.Get front value) (said.Batch place added) h k e = let heads : 103 ≡ 98 =
    ap (λ (bytes : List ℕ). get_or bytes 0 0) e in absurd (omega (arith, heads))
same_said (said.Get front value) (said.Get front' value') h k e =
    let same = number_then front front' (time_text value.time ++ space ∷ owner_text value.owner)
    (time_text value'.time ++ space ∷ owner_text value'.owner) h.0 k.0 (ap (drop 4) e) in
    let fronts : front ≡ front' = same.0 in
    let values : value ≡ value' = same_value value value' h.1 k.1 same.1 in
    cc
same_said (said.Get front value) (said.Low front' time) h k e = let heads : 103 ≡ 108 =
    ap (λ (bytes : List ℕ). get_or bytes 0 0) e in absurd (omega (arith, heads))
same_said (said.Low front time) (said.Add place added) h k e = let heads : 108 ≡ 97 =
    ap (λ (bytes : List ℕ). get_or bytes 0 0) e in absurd (omega (arith, heads))
same_said (said.Low front time) (said.Batch place added) h k e = let heads : 108 ≡ 98 =
    ap (λ (bytes : List ℕ). get_or bytes 0 0) e in absurd (omega (arith, heads))
same_said (said.Low front time) (said.Get front' value) h k e = let heads : 108 ≡ 103 =
    ap (λ (bytes : List ℕ). get_or bytes 0 0) e in absurd (omega (arith, heads))
same_said (said.Low front time) (said.Low front' time') h k e =
    let same = number_then front front' (time_text time) (time_text time') h.0 k.0
    (ap (drop 4) e) in
    let fronts : front ≡ front' = same.0 in
    let times : time ≡ time' = same_time time time' h.1 k.1 same.1 in
    cc

line_by_parts : (thread index : ℕ) (answer : CallAnswer) (line : Line) → thread ≡ line.thread →
    index ≡ line.index → answer ≡ line.said
    → record { thread = thread; index = index; said = answer } ≡ line
line_by_parts thread index answer line threads indexes answers = rw (threads, indexes, answers) refl

same_line : (a b : Line) → IsWritable a → IsWritable b → line_text a ≡ line_text b → a ≡ b
same_line a b h k e =
    let thread : a.thread < 2 ^ 64 = let t = h.thread in omega arith in
    let thread' : b.thread < 2 ^ 64 = let t = k.thread in omega arith in
    let index : a.index < 2 ^ 64 = let i = h.index in omega arith in
    let index' : b.index < 2 ^ 64 = let i = k.index in omega arith in
    let first = number_then a.thread b.thread (decimal a.index ++ space ∷ answer_text a.said)
    (decimal b.index ++ space ∷ answer_text b.said) thread thread' e in
    let second = number_then a.index b.index (answer_text a.said) (answer_text b.said) index index'
    first.1 in
    line_by_parts a.thread a.index a.said b first.0 second.0
    (same_said a.said b.said h.said k.said second.1)

-- a line, and what follows its line feed
pub same_line_then : (a b : Line) (after other : List ℕ) → IsWritable a → IsWritable b
    → line_text a ++ line_feed ∷ after ≡ line_text b ++ line_feed ∷ other →
    (a ≡ b) × (after ≡ other)
same_line_then a b after other h k e =
    let same = cut_same line_feed (line_text a) after (line_text b) other (line_without_feed a h)
    (line_without_feed b k) e in
    (same_line a b h k same.0, same.1)
