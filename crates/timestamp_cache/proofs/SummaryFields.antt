-- The parts of a summary, each as it is written and read.
use Rattle.std.proofs.Common.{arith, ◌≡◌, ℕ, zero, suc, ◌^◌, ◌<◌, ◌≤◌, Bool, true, false, cond, ltb}
use Rattle.std.proofs.Common.{List, [], ◌∷◌, ◌++◌, length, Option, Some, None, Ok, Err}
use Rattle.std.proofs.Common.{refl, sym, ap, subst, ◌∙◌, append_assoc, inl, inr}
use Rattle.std.specs.Prelude.{replicate}
use Rattle.std.specs.List.{All}
use Rattle.std.specs.Int.{w32, w64, to_be_bytes}
use Rattle.std.proofs.lemmas.Bool.{le-ltb, ltb-false, leb-true, le-leb, cases_lt}
use Rattle.std.proofs.lemmas.List.{get_or_past}
use Rattle.std.proofs.lemmas.List.Elements.{All-from_get_or, All-get_or}
use Rattle.std.proofs.lemmas.Slice.Eq.{bytes_eq-Decides}
use Rattle.uuid.specs.Parts.{is_nil_bytes, zero_bytes}
use Rattle.tsc_time.proofs.TimeOrder.{parts_below}
use Rattle.tsc_time.specs.Time.{Time, is_in_range}
use Rattle.tsc_time.specs.ValueView.{Owner, ValueView, owner_of, IsMadeOwner, IsMadeValue}
use Rattle.tsc_span.specs.Span.{longest_key, KeyBytes, Cut, before, after, last, is_below}
use Rattle.tsc_span.specs.Span.{SpanView, nothing, between}
use Rattle.tsc_span.specs.MadeSpan.{IsKey, IsMadeCut, IsMadeSpan}
use Rattle.tsc_page_model.specs.Page.{Mark}
use Rattle.timestamp_cache.specs.declared.summary_fault.SummaryFault.TheVariants.{Form}
use Rattle.timestamp_cache.specs.SummaryBytes.{key_bytes, cut_bytes, span_bytes, time_bytes}
use Rattle.timestamp_cache.specs.SummaryBytes.{owner_bytes, value_bytes, mark_bytes, IsMadeMark}
use Rattle.timestamp_cache.specs.SummaryReading.{Part, ◌>>=◌, bytes_at, number_at}
use Rattle.timestamp_cache.specs.SummaryReading.{key_at, cut_by, cut_at, between_of, between_at}
use Rattle.timestamp_cache.specs.SummaryReading.{span_by, span_at, time_of, time_at, value_at}
use Rattle.timestamp_cache.specs.SummaryReading.{mark_at}
use Rattle.timestamp_cache.proofs.SummaryParts.{AreBytes, AreBytes-rest, bind_ok, test_ok, guard_ok}
use Rattle.timestamp_cache.proofs.SummaryParts.{ok, same_ok, Takes, takes_both, IsPart, joined}
use Rattle.timestamp_cache.proofs.SummaryParts.{bytes_again, bytes_taken, wide_part, narrow_part}

-- bytes, as the definitions of keys and owners say it
pub all_bytes : (bytes : List ℕ) → AreBytes bytes → All (λ b. b < 256) bytes
all_bytes bytes small = All-from_get_or (λ b. b < 256) bytes 0 (λ i _. small i)

-- ---- keys

pub key_again : (k : KeyBytes) (rest : List ℕ) → IsKey k → key_at (key_bytes k ++ rest) ≡ Ok
    (k, rest)
unfolding key_at
key_again k rest made =
    let fits : length k ≤ longest_key = leb-true _ _ made.fits in
    let short : ltb longest_key (length k) ≡ false = le-ltb _ _ fits in
    ap (λ (bytes : List ℕ). number_at w32 bytes >>= λ n. cond (ltb longest_key n.0) (Err Form)
    (bytes_at n.0 n.1)) (append_assoc (to_be_bytes w32 (length k)) k rest)
    ∙ ap (λ (r : Part ℕ). r >>= λ n. cond (ltb longest_key n.0) (Err Form) (bytes_at n.0 n.1))
    (narrow_part.again (length k) (k ++ rest) (omega arith))
    ∙ ap (λ (b : Bool). cond b (Err Form) (bytes_at (length k) (k ++ rest))) short
    ∙ bytes_again (length k) k rest refl

pub key_taken : (bytes : List ℕ) (p : KeyBytes × List ℕ) → AreBytes bytes → key_at bytes ≡ Ok p →
    Takes bytes (key_bytes p.0) p.1 × IsKey p.0
unfolding key_at
key_taken bytes p small e =
    let n = bind_ok (number_at w32 bytes) (λ n. cond (ltb longest_key n.0) (Err Form)
    (bytes_at n.0 n.1)) p e in
    let g = guard_ok (ltb longest_key n.0.0) (bytes_at n.0.0 n.0.1) Form p n.2 in
    let t = narrow_part.taken bytes n.0 small n.1 in
    let k = bytes_taken n.0.0 n.0.1 p t.0.small g.1 in
    let both : Takes bytes (to_be_bytes w32 n.0.0 ++ p.0) p.1 = takes_both bytes
    (to_be_bytes w32 n.0.0) n.0.1 p.0 p.1 t.0 k.0 in
    let fits : n.0.0 ≤ longest_key = ltb-false _ _ g.0 in (
      subst (λ (l : ℕ). Takes bytes (to_be_bytes w32 l ++ p.0) p.1) (sym k.1) both,
      record
          { fits = le-leb _ _ (omega (arith, k.1, fits)); bytes = all_bytes p.0 k.2 },
    )

pub key_part : IsPart key_bytes key_at IsKey
key_part = record { again = key_again; taken = key_taken }

-- ---- cuts and spans

cut_again : (c : Cut) (rest : List ℕ) → IsMadeCut c → cut_at (cut_bytes c ++ rest) ≡ Ok (c, rest)
unfolding cut_at
cut_again (before k) rest made = ap (λ (r : Part KeyBytes). r >>= λ key. Ok (before key.0, key.1))
    (key_again k rest made)
cut_again (after k) rest made = ap (λ (r : Part KeyBytes). r >>= λ key. Ok (after key.0, key.1))
    (key_again k rest made)
cut_again last rest made = refl

-- a byte stands before what was taken
pub takes_byte : (b : ℕ) (bytes text rest : List ℕ) → Takes bytes text rest → Takes (b ∷ bytes)
    (b ∷ text) rest
takes_byte b bytes text rest t = record {
  parts = ap (λ (x : List ℕ). b ∷ x) t.parts;
  small =
      t.small;
}

cut_by_taken : (side : ℕ) (bytes : List ℕ) (p : Cut × List ℕ) → AreBytes bytes → cut_by side bytes ≡
    Ok p → Takes (side ∷ bytes) (cut_bytes p.0) p.1 × IsMadeCut p.0
cut_by_taken zero bytes p small e =
    let k = bind_ok (key_at bytes) (λ key. Ok (before key.0, key.1)) p e in
    let t = key_taken bytes k.0 small k.1 in
    let read : Cut × List ℕ = (before k.0.0, k.0.1) in
    subst (λ (q : Cut × List ℕ). Takes (0 ∷ bytes) (cut_bytes q.0) q.1 × IsMadeCut q.0)
    (same_ok read p k.2) (takes_byte 0 bytes (key_bytes k.0.0) k.0.1 t.0, t.1)
cut_by_taken (suc zero) bytes p small e =
    let k = bind_ok (key_at bytes) (λ key. Ok (after key.0, key.1)) p e in
    let t = key_taken bytes k.0 small k.1 in
    let read : Cut × List ℕ = (after k.0.0, k.0.1) in
    subst (λ (q : Cut × List ℕ). Takes (1 ∷ bytes) (cut_bytes q.0) q.1 × IsMadeCut q.0)
    (same_ok read p k.2) (takes_byte 1 bytes (key_bytes k.0.0) k.0.1 t.0, t.1)
cut_by_taken (suc (suc zero)) bytes p small e =
    let read : Cut × List ℕ = (last, bytes) in
    subst (λ (q : Cut × List ℕ). Takes (2 ∷ bytes) (cut_bytes q.0) q.1 × IsMadeCut q.0)
    (same_ok read p e) (record { parts = refl; small = small }, tt)
cut_by_taken (suc (suc (suc side))) bytes p small e = absurd cc

cut_taken : (bytes : List ℕ) (p : Cut × List ℕ) → AreBytes bytes → cut_at bytes ≡ Ok p → Takes bytes
    (cut_bytes p.0) p.1 × IsMadeCut p.0
unfolding cut_at
cut_taken [] p small e = absurd cc
cut_taken (side ∷ bytes) p small e = cut_by_taken side bytes p (AreBytes-rest side bytes small) e

pub cut_part : IsPart cut_bytes cut_at IsMadeCut
cut_part = record { again = cut_again; taken = cut_taken }

between_again : (from to : Cut) (rest : List ℕ) → IsMadeCut from → IsMadeCut to → is_below from to ≡
    true → between_at ((cut_bytes from ++ cut_bytes to) ++ rest) ≡ Ok (between from to, rest)
unfolding between_at
between_again from to rest made_from made_to order =
    ap (λ (bytes : List ℕ). cut_at bytes >>= λ a. cut_at a.1 >>= λ b. between_of a.0 b.0 >>= λ s. Ok
    (s, b.1)) (append_assoc (cut_bytes from) (cut_bytes to) rest)
    ∙ ap (λ (r : Part Cut). r >>= λ a. cut_at a.1 >>= λ b. between_of a.0 b.0 >>= λ s. Ok (s, b.1))
    (cut_again from (cut_bytes to ++ rest) made_from)
    ∙ ap (λ (r : Part Cut). r >>= λ b. between_of from b.0 >>= λ s. Ok (s, b.1))
    (cut_again to rest made_to)
    ∙ ap (λ (b : Bool). cond b (Ok (between from to)) (Err Form) >>= λ s. Ok (s, rest)) order

between_taken : (bytes : List ℕ) (p : SpanView × List ℕ) → AreBytes bytes → between_at bytes ≡ Ok p
    → Takes (1 ∷ bytes) (span_bytes p.0) p.1 × IsMadeSpan p.0
unfolding between_at
between_taken bytes p small e =
    let a = bind_ok (cut_at bytes) (λ a. cut_at a.1 >>= λ b. between_of a.0 b.0 >>= λ s. Ok
    (s, b.1)) p e in
    let b = bind_ok (cut_at a.0.1) (λ b. between_of a.0.0 b.0 >>= λ s. Ok (s, b.1)) p a.2 in
    let s = bind_ok (between_of a.0.0 b.0.0) (λ s. Ok (s, b.0.1)) p b.2 in
    let g = test_ok (is_below a.0.0 b.0.0) (Ok (between a.0.0 b.0.0)) Form s.0 s.1 in
    let ta = cut_taken bytes a.0 small a.1 in
    let tb = cut_taken a.0.1 b.0 ta.0.small b.1 in
    let both : Takes bytes (cut_bytes a.0.0 ++ cut_bytes b.0.0) b.0.1 = takes_both bytes
    (cut_bytes a.0.0) a.0.1 (cut_bytes b.0.0) b.0.1 ta.0 tb.0 in
    let read : SpanView × List ℕ = (s.0, b.0.1) in
    let here : Takes (1 ∷ bytes) (span_bytes (between a.0.0 b.0.0)) b.0.1 × IsMadeSpan
    (between a.0.0 b.0.0) =
    (takes_byte 1 bytes (cut_bytes a.0.0 ++ cut_bytes b.0.0) b.0.1 both, (ta.1, tb.1, g.0)) in
    subst (λ (q : SpanView × List ℕ). Takes (1 ∷ bytes) (span_bytes q.0) q.1 × IsMadeSpan q.0)
    (same_ok read p s.2)
    (subst (λ (t : SpanView). Takes (1 ∷ bytes) (span_bytes t) b.0.1 × IsMadeSpan t)
    (same_ok (between a.0.0 b.0.0) s.0 g.1) here)

span_again : (s : SpanView) (rest : List ℕ) → IsMadeSpan s → span_at (span_bytes s ++ rest) ≡ Ok
    (s, rest)
unfolding span_at
span_again nothing rest made = refl
span_again (between from to) rest made = between_again from to rest made.0 made.1 made.2

span_by_taken : (kind : ℕ) (bytes : List ℕ) (p : SpanView × List ℕ) → AreBytes bytes → span_by kind
    bytes ≡ Ok p → Takes (kind ∷ bytes) (span_bytes p.0) p.1 × IsMadeSpan p.0
span_by_taken zero bytes p small e =
    let read : SpanView × List ℕ = (nothing, bytes) in
    subst (λ (q : SpanView × List ℕ). Takes (0 ∷ bytes) (span_bytes q.0) q.1 × IsMadeSpan q.0)
    (same_ok read p e) (record { parts = refl; small = small }, tt)
span_by_taken (suc zero) bytes p small e = between_taken bytes p small e
span_by_taken (suc (suc kind)) bytes p small e = absurd cc

span_taken : (bytes : List ℕ) (p : SpanView × List ℕ) → AreBytes bytes → span_at bytes ≡ Ok p →
    Takes bytes (span_bytes p.0) p.1 × IsMadeSpan p.0
unfolding span_at
span_taken [] p small e = absurd cc
span_taken (kind ∷ bytes) p small e = span_by_taken kind bytes p (AreBytes-rest kind bytes small) e

pub span_part : IsPart span_bytes span_at IsMadeSpan
span_part = record { again = span_again; taken = span_taken }

-- ---- times and values

time_made : (wall logical : ℕ) (t : Time) → time_of wall logical ≡ Ok t → (t.wall ≡ wall) ×
    (t.logical ≡ logical) × (is_in_range t ≡ true)
time_made wall logical t e =
    let read : Time = record { wall = wall; logical = logical } in
    let g = test_ok (is_in_range read) (Ok read) Form t e in
    subst (λ (q : Time). (q.wall ≡ wall) × (q.logical ≡ logical) × (is_in_range q ≡ true))
    (same_ok read t g.1) (refl, refl, g.0)

pub time_part : IsPart time_bytes time_at (λ t. is_in_range t ≡ true)
unfolding time_at
time_part =
    joined (to_be_bytes w64) (number_at w64) (λ n. n < 2 ^ 64) (to_be_bytes w32) (number_at w32)
    (λ n. n < 2 ^ 32) time_of (λ t. t.wall) (λ t. t.logical) (λ t. is_in_range t ≡ true)
    wide_part narrow_part
    (λ t h. let parts = parts_below t h in (
      parts.0,
      parts.1,
      ap
          (λ (b : Bool). cond b (Ok t) (Err Form)) h,
    ))
    (λ wall logical t _ _ e. time_made wall logical t e)

-- sixteen bytes
abbrev AreSixteen : List ℕ → Type 0
AreSixteen o = (length o ≡ 16) × AreBytes o

sixteen_part : IsPart (λ o. o) (bytes_at 16) AreSixteen
sixteen_part = record {
  again = λ o rest made. bytes_again 16 o rest made.0;
  taken = λ bytes p small e. let t = bytes_taken 16 bytes p small e in (t.0, (t.1, t.2));
}

are_bytes : (bytes : List ℕ) → All (λ b. b < 256) bytes → AreBytes bytes
are_bytes bytes all i =
    elim (cases_lt i (length bytes)) [
      | inl lt ↦ All-get_or (λ b. b < 256) bytes i 0 lt all
      | inr le ↦ rw (get_or_past bytes i 0 le) (omega arith)
    ]

zeros_small : (n : ℕ) → AreBytes (replicate n 0)
zeros_small zero i = omega arith
zeros_small (suc n) zero = omega arith
zeros_small (suc n) (suc i) = zeros_small n i

-- the owner that sixteen bytes name is written as these
owner_read : (o : List ℕ) (b : Bool) → is_nil_bytes o ≡ b → AreSixteen o →
    (owner_bytes (cond b None (Some o)) ≡ o) × IsMadeOwner (cond b None (Some o))
owner_read o true nil made = (sym ((bytes_eq-Decides o zero_bytes).0 nil), tt)
owner_read o false nil made = (refl, (made.0, all_bytes o made.1, nil))

owner_again : (w : Option Owner) → IsMadeOwner w → AreSixteen (owner_bytes w) ×
    (owner_of (owner_bytes w) ≡ w)
owner_again None made = (
  (refl, zeros_small 16),
  ap (λ (b : Bool). cond b None (Some zero_bytes))
      ((bytes_eq-Decides zero_bytes zero_bytes).1 refl),
)
owner_again (Some o) made = (
  (made.0, are_bytes o made.1),
  ap (λ (b : Bool). cond b None (Some o))
      made.2,
)

value_made : (t : Time) (o : List ℕ) (v : ValueView) → is_in_range t ≡ true → AreSixteen o → ok
    (record { time = t; owner = owner_of o }) ≡ Ok v → (v.time ≡ t) × (owner_bytes v.owner ≡ o) ×
    IsMadeValue v
value_made t o v range made e =
    let read : ValueView = record { time = t; owner = owner_of o } in
    let owner = owner_read o (is_nil_bytes o) refl made in
    subst (λ (q : ValueView). (q.time ≡ t) × (owner_bytes q.owner ≡ o) × IsMadeValue q)
    (same_ok read v e) (refl, owner.0, record { time = range; owner = owner.1 })

pub value_part : IsPart value_bytes value_at IsMadeValue
unfolding value_at
value_part =
    joined time_bytes time_at (λ t. is_in_range t ≡ true) (λ o. o) (bytes_at 16) AreSixteen
    (λ t o. Ok (record { time = t; owner = owner_of o })) (λ v. v.time)
    (λ v. owner_bytes v.owner) IsMadeValue
    time_part sixteen_part
    (λ v made. let owner = owner_again v.owner made.owner in (
      made.time,
      owner.0,
      ap (λ (w : Option Owner). Ok (record { time = v.time; owner = w }))
          owner.1,
    ))
    value_made

-- ---- marks

mark_made : (s : SpanView) (v : ValueView) (m : Mark) → IsMadeSpan s → IsMadeValue v → ok
    (record { span = s; value = v }) ≡ Ok m → (m.span ≡ s) × (m.value ≡ v) × IsMadeMark m
mark_made s v m made_span made_value e =
    let read : Mark = record { span = s; value = v } in
    subst (λ (q : Mark). (q.span ≡ s) × (q.value ≡ v) × IsMadeMark q) (same_ok read m e)
    (refl, refl, (made_span, made_value))

pub mark_part : IsPart mark_bytes mark_at IsMadeMark
unfolding mark_at
mark_part =
    joined span_bytes span_at IsMadeSpan value_bytes value_at IsMadeValue
    (λ s v. Ok (record { span = s; value = v })) (λ m. m.span) (λ m. m.value) IsMadeMark
    span_part value_part (λ m made. (made.0, made.1, refl)) mark_made
