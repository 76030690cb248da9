-- Marks of a batch, read one after another.
use Rattle.std.proofs.Common.{◌≡◌, ◌⊎◌, inl, inr, ◌∙◌, refl, sym, ap, subst, ℕ, ◌+◌, ◌<◌, ◌≤◌, Bool, true, false, List, [], ◌∷◌, ◌++◌, length, map, get_or, drop, append_assoc, append-nil, nat_le, Result, Ok, Err, Vec, Global, arith}
use Rattle.std.proofs.lemmas.Bool.Decides.{nat_tests}
use Rattle.serde_json.specs.Data.{Data}
use Rattle.serde_json.specs.View.{view}
use Rattle.serde_json.specs.declared.value.Value.{Value}
use Rattle.tsc_page_model.specs.Page.{Mark}
use Rattle.tsc_trace_format.specs.declared.read.part.PartFault.{PartFault}
use Rattle.tsc_trace_format.specs.declared.read.part.Refusal.{Refusal}
use Rattle.tsc_trace_format.specs.declared.read.part.Refusal.TheVariants as refusal
use Rattle.tsc_trace_format.specs.Reading.{Gives, AddsMark, joined}
use Rattle.tsc_trace_format.specs.TraceParts.{Part, both, fault_number, lesser_fault, ◌>>=◌}
use Rattle.tsc_trace_format.specs.TraceText.{mark_of, with_others, marks_in}
use Rattle.tsc_trace_format.proofs.Calls.{here, past}

-- ---- the least of three faults

tested : (b : Bool) → (b ≡ true) ⊎ (b ≡ false)
tested true = inl refl
tested false = inr refl

through : (a b c : ℕ) → nat_le a b ≡ true → nat_le b c ≡ true → nat_le a c ≡ true
through a b c p q = grind (arith, nat_tests)

beyond : (a b c : ℕ) → nat_le a b ≡ false → nat_le b c ≡ false → nat_le a c ≡ false
beyond a b c p q = grind (arith, nat_tests)

-- it makes no difference which two are compared first
least_of_three : (f g h : PartFault) →
    lesser_fault f (lesser_fault g h) ≡ lesser_fault (lesser_fault f g) h
least_of_three f g h = elim (tested (nat_le (fault_number f) (fault_number g))) [
  | inl p ↦ elim (tested (nat_le (fault_number g) (fault_number h))) [
    | inl q ↦ rw (q, p, through (fault_number f) (fault_number g) (fault_number h) p q) refl
    | inr q ↦ rw (q, p) refl
  ]
  | inr p ↦ elim (tested (nat_le (fault_number g) (fault_number h))) [
    | inl q ↦ rw (q, p, q) refl
    | inr q ↦ rw (q, p, q, beyond (fault_number f) (fault_number g) (fault_number h) p q) refl
  ]
]

-- ---- marks and those after them

-- two lists of marks, one behind the other, or the lesser fault of both
abbrev pub appended : Part (List Mark) → Part (List Mark) → Part (List Mark)
appended front rest = both front rest >>= λ parts. Ok (parts.0 ++ parts.1)

-- What was read so far is what goes before the rest in the whole. Want of memory says nothing of
-- it.
abbrev pub ReadsOn : Result (Vec Mark Global) Refusal → Part (List Mark) → Part (List Mark) → Type 0
ReadsOn (Ok front) rest whole = appended (Ok front.items) rest ≡ whole
ReadsOn (Err refusal.Memory) rest whole = Unit {0}
ReadsOn (Err (refusal.Fault fault)) rest whole = appended (Err fault) rest ≡ whole

pub none_so_far : (front : Vec Mark Global) (whole : Part (List Mark)) → front.items ≡ [] →
    ReadsOn (Ok front) whole whole
none_so_far front (Ok ms) is = rw is refl
none_so_far front (Err fault) is = refl

append_one : (front : List Mark) (m : Mark) (rest : Part (List Mark)) →
    appended (Ok front) (with_others (Ok m) rest) ≡ appended (Ok (front ++ m ∷ [])) rest
append_one front m (Ok ms) = ap (λ (xs : List Mark). Ok xs) (sym (append_assoc front (m ∷ []) ms))
append_one front m (Err fault) = refl

append_wrong : (front : List Mark) (fault : PartFault) (rest : Part (List Mark)) →
    appended (Ok front) (with_others (Err fault) rest) ≡ appended (Err fault) rest
append_wrong front fault (Ok ms) = refl
append_wrong front fault (Err other) = refl

append_behind : (fault : PartFault) (m : Mark) (rest : Part (List Mark)) →
    appended (Err fault) (with_others (Ok m) rest) ≡ appended (Err fault) rest
append_behind fault m (Ok ms) = refl
append_behind fault m (Err other) = refl

append_both : (fault other : PartFault) (rest : Part (List Mark)) →
    appended (Err fault) (with_others (Err other) rest) ≡
    appended (Err (lesser_fault fault other)) rest
append_both fault other (Ok ms) = refl
append_both fault other (Err third) =
    ap (λ (f : PartFault). Err f) (least_of_three fault other third)

-- ---- one mark more

not_memory : (fault : PartFault) → refusal.Fault fault ≡ refusal.Memory → ⊥
not_memory fault e = cc

same_pair : (v w : Vec Mark Global) (m n : Mark) → joined (Ok v) (Ok m) ≡ Ok (w, n) →
    (v ≡ w) × (m ≡ n)
same_pair v w m n e = let pair : ◌≡◌ {A = Vec Mark Global × Mark} (v, m) (w, n) =
    cc in (ap (λ p. p.0) pair, ap (λ p. p.1) pair)

right : (new : Vec Mark Global) (old : Result (Vec Mark Global) Refusal)
    (mark : Result Mark Refusal) (d : Data) (rest whole : Part (List Mark)) →
    AddsMark old mark (Ok new) → Gives (λ m. m) mark (mark_of d)
    → ReadsOn old (with_others (mark_of d) rest) whole → ReadsOn (Ok new) rest whole
right new (Ok front) (Ok m) d rest whole adds given so_far =
    let same = same_pair front adds.0 m adds.1 adds.2 in
    let items : new.items ≡ front.items ++ m ∷ [] =
    adds.3 ∙ ap (λ (v : Vec Mark Global). v.items ++ adds.1 ∷ []) (sym same.0) ∙
    ap (λ (x : Mark). front.items ++ x ∷ []) (sym same.1) in
    ap (λ (xs : List Mark). appended (Ok xs) rest) items
    ∙ sym (append_one front.items m rest)
    ∙ sym (ap (λ p. appended (Ok front.items) (with_others p rest)) given)
    ∙ so_far
right new (Ok front) (Err e) d rest whole adds given so_far = absurd (let pair = adds.2 in cc)
right new (Err r) (Ok m) d rest whole adds given so_far = absurd (let pair = adds.2 in cc)
right new (Err r) (Err e) d rest whole adds given so_far = absurd (let pair = adds.2 in cc)

wrong : (fault : PartFault) (old : Result (Vec Mark Global) Refusal) (mark : Result Mark Refusal)
    (d : Data) (rest whole : Part (List Mark)) → joined old mark ≡ Err (refusal.Fault fault) →
    Gives (λ m. m) mark (mark_of d)
    → ReadsOn old (with_others (mark_of d) rest) whole → appended (Err fault) rest ≡ whole
wrong fault (Ok front) (Ok m) d rest whole e given so_far = absurd cc
wrong fault (Ok front) (Err refusal.Memory) d rest whole e given so_far = absurd cc
wrong fault (Ok front) (Err (refusal.Fault g)) d rest whole e given so_far =
    let same : g ≡ fault = cc in
    ap (λ (f : PartFault). appended (Err f) rest) (sym same)
    ∙ sym (append_wrong front.items g rest)
    ∙ sym (ap (λ p. appended (Ok front.items) (with_others p rest)) given)
    ∙ so_far
wrong fault (Err refusal.Memory) (Ok m) d rest whole e given so_far = absurd cc
wrong fault (Err refusal.Memory) (Err r) d rest whole e given so_far = absurd cc
wrong fault (Err (refusal.Fault f)) (Ok m) d rest whole e given so_far =
    let same : f ≡ fault = cc in
    ap (λ (f : PartFault). appended (Err f) rest) (sym same)
    ∙ sym (append_behind f m rest)
    ∙ sym (ap (λ p. appended (Err f) (with_others p rest)) given)
    ∙ so_far
wrong fault (Err (refusal.Fault f)) (Err refusal.Memory) d rest whole e given so_far = absurd cc
wrong fault (Err (refusal.Fault f)) (Err (refusal.Fault g)) d rest whole e given so_far =
    let same : lesser_fault f g ≡ fault = cc in
    ap (λ (f : PartFault). appended (Err f) rest) (sym same)
    ∙ sym (append_both f g rest)
    ∙ sym (ap (λ p. appended (Err f) (with_others p rest)) given)
    ∙ so_far

one_more : (new old : Result (Vec Mark Global) Refusal) (mark : Result Mark Refusal) (d : Data)
    (rest whole : Part (List Mark)) → AddsMark old mark new → Gives (λ m. m) mark (mark_of d)
    → ReadsOn old (with_others (mark_of d) rest) whole → ReadsOn new rest whole
one_more (Ok new) old mark d rest whole adds given so_far =
    right new old mark d rest whole adds given so_far
one_more (Err refusal.Memory) old mark d rest whole adds given so_far = tt
one_more (Err (refusal.Fault fault)) old mark d rest whole adds given so_far = elim adds [
  | inl e ↦ absurd (not_memory fault e)
  | inr e ↦ wrong fault old mark d rest whole e given so_far
]

-- what the marks from a place on are read as, by the one that stands there
marks_step : (vs : List Value) (i : ℕ) (v : Value) → i < length vs → v ≡ get_or vs i v →
    marks_in (map view (drop i vs)) ≡ with_others (mark_of (view v))
    (marks_in (map view (drop (i + 1) vs)))
unfolding marks_in
marks_step vs i v lt at = ap marks_in (here view vs i v lt at)

pub one_more_mark : (old new : Result (Vec Mark Global) Refusal) (mark : Result Mark Refusal)
    (vs : List Value) (i : ℕ) (v : Value) (whole : Part (List Mark)) → i < length vs →
    v ≡ get_or vs i v → AddsMark old mark new → Gives (λ m. m) mark (mark_of (view v))
    → ReadsOn old (marks_in (map view (drop i vs))) whole →
    ReadsOn new (marks_in (map view (drop (i + 1) vs))) whole
one_more_mark old new mark vs i v whole lt at adds given so_far =
    one_more new old mark (view v) (marks_in (map view (drop (i + 1) vs))) whole adds given
    (subst (λ p. ReadsOn old p whole) (marks_step vs i v lt at) so_far)

-- where no mark is left
all_read : (marks : Result (Vec Mark Global) Refusal) (whole : Part (List Mark)) →
    ReadsOn marks (Ok []) whole → Gives (λ m. m.items) marks whole
all_read (Ok front) whole so_far =
    sym so_far ∙ ap (λ (xs : List Mark). Ok xs) (append-nil front.items)
all_read (Err refusal.Memory) whole so_far = tt
all_read (Err (refusal.Fault fault)) whole so_far = sym so_far

pub marks_are_done : (marks : Result (Vec Mark Global) Refusal) (vs : List Value) (i : ℕ)
    (whole : Part (List Mark)) → length vs ≤ i →
    ReadsOn marks (marks_in (map view (drop i vs))) whole → Gives (λ m. m.items) marks whole
unfolding marks_in
marks_are_done marks vs i whole le so_far =
    all_read marks whole (subst (λ p. ReadsOn marks p whole) (ap marks_in (past view vs i le))
    so_far)
