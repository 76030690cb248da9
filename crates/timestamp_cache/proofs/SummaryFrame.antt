-- The frame around what is told: the version, its length, and the digest.
use Rattle.std.proofs.Common.{arith, ◌≡◌, ℕ, zero, suc, ◌+◌, ◌-◌, ◌^◌, ◌<◌, ◌≤◌, Bool, true, false}
use Rattle.std.proofs.Common.{cond, ltb, eqb, List, [], ◌∷◌, ◌++◌, length, take, drop, Result, Ok}
use Rattle.std.proofs.Common.{Err, refl, sym, ap, subst, ◌∙◌, append_assoc, inl, inr}
use Rattle.std.specs.Str.{bytes_eq}
use Rattle.std.specs.Prelude.{IfOk}
use Rattle.std.specs.Int.{w64, from_be_bytes, to_be_bytes}
use Rattle.std.proofs.lemmas.Bool.{cases_lt, ltb-false, le-ltb, lt-ltb, eqb-true, ne_eqb}
use Rattle.std.proofs.lemmas.Bool.Decides.{Decides-eqb}
use Rattle.std.proofs.lemmas.List.{take_at, drop_at, take-append-drop, length-append, length-take}
use Rattle.std.proofs.lemmas.List.{length-drop, drop-take}
use Rattle.std.proofs.lemmas.Slice.Eq.{bytes_eq-Decides}
use Rattle.std.proofs.Math.Seq.{take-append-add}
use Rattle.sha2.specs.Sha256.{sha256}
use Rattle.sha2.proofs.Facts256.{length-sha256}
use Rattle.timestamp_cache.specs.declared.summary_fault.SummaryFault.{SummaryFault}
use Rattle.timestamp_cache.specs.declared.summary_fault.SummaryFault.TheVariants.{Length, Checksum}
use Rattle.timestamp_cache.specs.HandOver.{Summary}
use Rattle.timestamp_cache.specs.SummaryBytes.{content_bytes, framed, sealed, summary_bytes}
use Rattle.timestamp_cache.specs.SummaryBytes.{IsMadeSummary}
use Rattle.timestamp_cache.specs.SummaryReading.{Read, ◌>>=◌, Gives, reported_by, content_at, unsealed}
use Rattle.timestamp_cache.specs.SummaryReading.{summary_of}
use Rattle.timestamp_cache.proofs.SummaryParts.{AreBytes, AreBytes-take, AreBytes-drop}
use Rattle.timestamp_cache.proofs.SummaryParts.{AreBytes-rest, bind_ok, test_ok, guard_ok, same_ok}
use Rattle.timestamp_cache.proofs.SummaryParts.{wide64}
use Rattle.timestamp_cache.proofs.SummaryMarks.{content_again, content_taken}

-- the first bytes, and those behind them
take_parts : (m n : ℕ) (xs : List ℕ) → length (take m xs) ≡ m → take (m + n) xs ≡ take m xs ++ take
    n (drop m xs)
take_parts m n xs len =
    ap (λ (k : ℕ). take (k + n) xs) (sym len)
    ∙ ap (λ (ys : List ℕ). take (length (take m xs) + n) ys) (sym (take-append-drop m xs))
    ∙ take-append-add (take m xs) (drop m xs) n

-- the first bytes, where they go on behind some
cut_parts : (xs ys : List ℕ) (m n : ℕ) → length xs ≡ n → n ≤ m → take m (xs ++ ys) ≡ xs ++ take
    (m - n) ys
cut_parts xs ys m n len le =
    let sum : m ≡ length xs + (m - n) = omega arith in
    ap (λ (k : ℕ). take k (xs ++ ys)) sum ∙ take-append-add xs ys (m - n)

-- how the content of some bytes is read, with the length that stands there
abbrev content_behind : List ℕ → ℕ → Read (List ℕ)
content_behind bytes n =
    cond (eqb n (length bytes - 41))
    (cond (bytes_eq (sha256 (take (9 + n) bytes)) (drop (9 + n) bytes))
    (Ok (drop 9 (take (9 + n) bytes))) (Err Checksum))
    (Err Length)

framed-length : (content : List ℕ) → length (framed content) ≡ 9 + length content
framed-length content = omega arith

content_read : (content digest : List ℕ) → length digest ≡ 32 → sha256 (framed content) ≡ digest →
    content_behind (framed content ++ digest) (length content) ≡ Ok content
content_read content digest len seal =
    let whole : length (framed content ++ digest) ≡ length content + 41 = omega
    (arith, length-append (framed content) digest, framed-length content, len) in
    let size : eqb (length content) (length (framed content ++ digest) - 41) ≡ true =
    (Decides-eqb _ _).1 (omega (arith, whole)) in
    let front : take (9 + length content) (framed content ++ digest) ≡ framed content = take_at
    (framed content) digest (9 + length content) (framed-length content) in
    let back : drop (9 + length content) (framed content ++ digest) ≡ digest = drop_at
    (framed content) digest (9 + length content) (framed-length content) in
    let same : bytes_eq (sha256 (framed content)) digest ≡ true = (bytes_eq-Decides _ _).1 seal in
    ap (λ (b : Bool). cond b (cond (bytes_eq (sha256
    (take (9 + length content) (framed content ++ digest)))
    (drop (9 + length content) (framed content ++ digest)))
    (Ok (drop 9 (take (9 + length content) (framed content ++ digest)))) (Err Checksum))
    (Err Length)) size
    ∙ ap (λ (f : List ℕ). cond (bytes_eq (sha256 f)
    (drop (9 + length content) (framed content ++ digest))) (Ok (drop 9 f)) (Err Checksum))
    front
    ∙ ap (λ (d : List ℕ). cond (bytes_eq (sha256 (framed content)) d) (Ok content) (Err Checksum))
    back
    ∙ ap (λ (b : Bool). cond b (Ok content) (Err Checksum)) same

content_again_at : (content : List ℕ) → length content < 2 ^ 64 → content_at
    (sealed (framed content)) ≡ Ok content
unfolding content_at
content_again_at content size =
    let digest : List ℕ = sha256 (framed content) in
    let len : length (sha256 (framed content)) ≡ 32 = length-sha256 (framed content) in
    let long : ltb (length (framed content ++ sha256 (framed content))) 41 ≡ false = le-ltb _ _
    (omega (
      arith,
      length-append (framed content) (sha256 (framed content)),
      framed-length
          content,
      len,
    )) in
    let number : from_be_bytes w64 (to_be_bytes w64 (length content)) ≡ length content =
    wide64.again (length content) size in
    ap (λ (b : Bool). cond b (Err Length) (content_behind
    (framed content ++ sha256 (framed content))
    (from_be_bytes w64 (to_be_bytes w64 (length content))))) long
    ∙ ap (λ (n : ℕ). content_behind (framed content ++ sha256 (framed content)) n) number
    ∙ content_read content (sha256 (framed content)) len refl

-- the version and the length before the content
framed_is : (rest : List ℕ) (n : ℕ) → 8 + n ≤ length rest → AreBytes rest → n ≡ from_be_bytes w64
    (take 8 rest) → 1 ∷ take (8 + n) rest ≡ framed (drop 8 (take (8 + n) rest))
framed_is rest n long small is =
    let moved : drop 8 (take (8 + n) rest) ≡ take n (drop 8 rest) = drop-take 8 n rest in
    let len : length (take n (drop 8 rest)) ≡ n = omega
    (arith, length-take n (drop 8 rest), length-drop 8 rest, long) in
    let eight : length (take 8 rest) ≡ 8 = omega (arith, length-take 8 rest, long) in
    let number : to_be_bytes w64 n ≡ take 8 rest = ap (to_be_bytes w64) is ∙ wide64.back
    (take 8 rest) eight (AreBytes-take 8 rest small) in
    let parts : take (8 + n) rest ≡ take 8 rest ++ take n (drop 8 rest) = take_parts 8 n rest eight
    in
    let content : List ℕ = take n (drop 8 rest) in
    ap (λ (t : List ℕ). 1 ∷ t) parts
    ∙ ap (λ (t : List ℕ). 1 ∷ (t ++ take n (drop 8 rest))) (sym number)
    ∙ ap (λ (k : ℕ). 1 ∷ (to_be_bytes w64 k ++ take n (drop 8 rest))) (sym len)
    ∙ ap framed (sym moved)

-- what is read behind the version, in its frame
record IsFramed (bytes content : List ℕ) : Type 0 where
  pub is : bytes ≡ sealed (framed content)
  pub small : AreBytes content
  pub size : length content < 2 ^ 64

content_taken_behind : (rest content : List ℕ) (n : ℕ) → AreBytes rest → n ≡ from_be_bytes w64
    (take 8 rest) → 41 ≤ length (1 ∷ rest) → content_behind (1 ∷ rest) n ≡ Ok content → IsFramed
    (1 ∷ rest) content
content_taken_behind rest content n small is long e =
    let front : List ℕ = take (9 + n) (1 ∷ rest) in
    let g2 = test_ok (eqb n (length (1 ∷ rest) - 41))
    (cond (bytes_eq (sha256 (take (9 + n) (1 ∷ rest))) (drop (9 + n) (1 ∷ rest)))
    (Ok (drop 9 (take (9 + n) (1 ∷ rest)))) (Err Checksum)) Length content e in
    let g3 = test_ok (bytes_eq (sha256 (take (9 + n) (1 ∷ rest))) (drop (9 + n) (1 ∷ rest)))
    (Ok (drop 9 (take (9 + n) (1 ∷ rest)))) Checksum content g2.1 in
    let size : n ≡ length (1 ∷ rest) - 41 = eqb-true _ _ g2.0 in
    let fits : 8 + n ≤ length rest = omega (arith, size, long) in
    let nine : 9 + n ≡ suc (8 + n) = omega arith in
    let step : take (9 + n) (1 ∷ rest) ≡ 1 ∷ take (8 + n) rest = ap (λ (k : ℕ). take k (1 ∷ rest))
    nine in
    let read : drop 8 (take (8 + n) rest) ≡ content = ap (drop 9) (sym step) ∙ same_ok
    (drop 9 (take (9 + n) (1 ∷ rest))) content g3.1 in
    let head : take (9 + n) (1 ∷ rest) ≡ framed content = step ∙ framed_is rest n fits small is ∙ ap
    framed read in
    let seal : sha256 (take (9 + n) (1 ∷ rest)) ≡ drop (9 + n) (1 ∷ rest) = (bytes_eq-Decides _ _).0
    g3.0 in
    let whole : 1 ∷ rest ≡ take (9 + n) (1 ∷ rest) ++ sha256 (take (9 + n) (1 ∷ rest)) = sym
    (take-append-drop (9 + n) (1 ∷ rest)) ∙ ap (λ (d : List ℕ). take (9 + n) (1 ∷ rest) ++ d)
    (sym seal) in
    let below : n < 2 ^ 64 = subst (λ (k : ℕ). k < 2 ^ 64) (sym is)
    (wide64.below (take 8 rest) (AreBytes-take 8 rest small)) in
    let inner : AreBytes (drop 8 (take (8 + n) rest)) = AreBytes-drop 8 (take (8 + n) rest)
    (AreBytes-take (8 + n) rest small) in
    let short : length (drop 8 (take (8 + n) rest)) < 2 ^ 64 = omega
    (arith, length-drop 8 (take (8 + n) rest), length-take (8 + n) rest, below) in
    record {
      is = whole ∙ ap sealed head;
      small = subst AreBytes read inner;
      size = subst (λ (x : List ℕ). length x < 2 ^ 64) read short;
    }

content_taken_at : (rest content : List ℕ) → AreBytes rest → content_at (1 ∷ rest) ≡ Ok content →
    IsFramed (1 ∷ rest) content
unfolding content_at
content_taken_at rest content small e =
    let n : ℕ = from_be_bytes w64 (take 8 rest) in
    let g1 = guard_ok (ltb (length (1 ∷ rest)) 41)
    (content_behind (1 ∷ rest) (from_be_bytes w64 (take 8 rest))) Length content e in
    let long : 41 ≤ length (1 ∷ rest) = ltb-false _ _ g1.0 in
    content_taken_behind rest content (from_be_bytes w64 (take 8 rest)) small refl long g1.1

unsealed_taken : (bytes content : List ℕ) → AreBytes bytes → unsealed bytes ≡ Ok content → IsFramed
    bytes content
unfolding unsealed
unsealed_taken [] content small e = absurd cc
unsealed_taken (zero ∷ rest) content small e = absurd cc
unsealed_taken (suc zero ∷ rest) content small e = content_taken_at rest content
    (AreBytes-rest 1 rest small) e
unsealed_taken (suc (suc version) ∷ rest) content small e = absurd cc

unsealed_again : (content : List ℕ) → length content < 2 ^ 64 → unsealed (sealed (framed content)) ≡
    Ok content
unfolding unsealed
unsealed_again content size = content_again_at content size

-- what is written is read back
pub read_back : (reported : Summary) → IsMadeSummary reported →
    summary_of (summary_bytes reported) ≡ Ok reported
read_back reported made = ap (λ (r : Read (List ℕ)). r >>= reported_by)
    (unsealed_again (content_bytes reported) made.size) ∙ content_again reported made

-- so what was written, if it was, is read back
pub written_back : {V E : Type 0} (items : V → List ℕ) (r : Result V E) (reported : Summary)
    (content : List ℕ) → content ≡ content_bytes reported → IsMadeSummary reported
    → IfOk r (λ v. items v ≡ sealed (framed content)) →
    IfOk r (λ v. summary_of (items v) ≡ Ok reported)
written_back items (Ok v) reported content is made written = ap summary_of
    (written ∙ ap (λ (x : List ℕ). sealed (framed x)) is) ∙ read_back reported made
written_back items (Err e) reported content is made written = tt

-- what is read was written
pub read_is : (bytes : List ℕ) (reported : Summary) → AreBytes bytes →
    summary_of bytes ≡ Ok reported → (bytes ≡ summary_bytes reported) × IsMadeSummary reported
read_is bytes reported small e =
    let c = bind_ok (unsealed bytes) reported_by reported e in
    let frame = unsealed_taken bytes c.0 small c.1 in
    let content = content_taken c.0 reported frame.small frame.size c.2 in
    (frame.is ∙ ap (λ (x : List ℕ). sealed (framed x)) content.0, content.1)

pub is_written : (bytes : List ℕ) (r : Result Summary SummaryFault) → AreBytes bytes → Gives
    (λ (reported : Summary). reported) r (summary_of bytes) → IfOk r
    (λ reported. (bytes ≡ summary_bytes reported) × IsMadeSummary reported)
is_written bytes (Ok reported) small given = read_is bytes reported small given
is_written bytes (Err fault) small given = tt

-- ---- bytes of a summary that were cut off

too_short : (rest : List ℕ) → length rest < 40 → content_at (1 ∷ rest) ≡ Err Length
unfolding content_at
too_short rest lt =
    let short : ltb (length (1 ∷ rest)) 41 ≡ true = lt-ltb _ _ (omega arith) in
    ap (λ (b : Bool). cond b (Err Length) (content_behind (1 ∷ rest)
    (from_be_bytes w64 (take 8 rest)))) short

-- the number of bytes is another one than the length tells
wrong_length : (rest : List ℕ) (n : ℕ) → 40 ≤ length rest → n ≡ from_be_bytes w64 (take 8 rest) →
    (n + 40 ≡ length rest → ⊥) → content_at (1 ∷ rest) ≡ Err Length
unfolding content_at
wrong_length rest n long is other =
    let enough : ltb (length (1 ∷ rest)) 41 ≡ false = le-ltb _ _ (omega arith) in
    let differs : eqb n (length (1 ∷ rest) - 41) ≡ false = ne_eqb _ _ (λ e. other (omega arith)) in
    ap (λ (b : Bool). cond b (Err Length) (content_behind (1 ∷ rest)
    (from_be_bytes w64 (take 8 rest)))) enough
    ∙ ap (content_behind (1 ∷ rest)) (sym is)
    ∙ ap (λ (b : Bool). cond b (cond (bytes_eq (sha256 (take (9 + n) (1 ∷ rest)))
    (drop (9 + n) (1 ∷ rest))) (Ok (drop 9 (take (9 + n) (1 ∷ rest)))) (Err Checksum))
    (Err Length)) differs

-- what stands behind the version
abbrev behind_version : List ℕ → List ℕ
behind_version content = to_be_bytes w64 (length content) ++ (content ++ sha256 (framed content))

behind-length : (content : List ℕ) → length (behind_version content) ≡ length content + 40
behind-length content = omega (
  arith,
  length-append content (sha256 (framed content)),
  length-sha256
      (framed content),
)

cut_behind : (content : List ℕ) (m : ℕ) → length content < 2 ^ 64 → m < length content + 40 →
    content_at (1 ∷ take m (behind_version content)) ≡ Err Length
cut_behind content m size lt =
    elim (cases_lt m 40) [
      | inl less ↦ too_short (take m (behind_version content))
          (omega (arith, length-take m (behind_version content)))
      | inr long ↦
          let eight : length (to_be_bytes w64 (length content)) ≡ 8 = wide64.len (length content) in
          let cut : take m (behind_version content)
          ≡ to_be_bytes w64 (length content) ++ take (m - 8) (content ++ sha256 (framed content)) =
          cut_parts (to_be_bytes w64 (length content))
          (content ++ sha256 (framed content)) m 8 eight (omega arith) in
          let len : length (take m (behind_version content)) ≡ m = omega
          (arith, length-take m (behind_version content), behind-length content) in
          let number : length content
          ≡ from_be_bytes w64 (take 8 (take m (behind_version content))) =
          sym (wide64.again (length content) size) ∙ ap (from_be_bytes w64)
          (sym (take_at (to_be_bytes w64 (length content))
          (take (m - 8) (content ++ sha256 (framed content))) 8 eight)) ∙ ap
          (λ (x : List ℕ). from_be_bytes w64 (take 8 x)) (sym cut) in
          wrong_length (take m (behind_version content)) (length content) (omega (arith, len, long))
          number (λ e. omega (arith, len, lt))
    ]

pub cut_refused : (reported : Summary) (n : ℕ) → IsMadeSummary reported →
    n < length (summary_bytes reported) → summary_of (take n (summary_bytes reported)) ≡ Err Length
unfolding unsealed
cut_refused reported zero made lt = refl
cut_refused reported (suc m) made lt =
    let content : List ℕ = content_bytes reported in
    let behind : (to_be_bytes w64 (length (content_bytes reported)) ++ content_bytes reported) ++
    sha256
    (framed (content_bytes reported)) ≡ behind_version (content_bytes reported) = append_assoc
    (to_be_bytes w64 (length (content_bytes reported))) (content_bytes reported)
    (sha256 (framed (content_bytes reported))) in
    let len : length (summary_bytes reported) ≡ length (content_bytes reported) + 41 = omega (
      arith,
      length-append (framed (content_bytes reported)) (sha256 (framed (content_bytes reported))),
      framed-length (content_bytes reported),
      length-sha256 (framed (content_bytes reported)),
    ) in
    let below : m < length (content_bytes reported) + 40 = omega (arith, len, lt) in
    ap (λ (x : List ℕ). content_at (1 ∷ take m x) >>= reported_by) behind
    ∙ ap (λ (r : Read (List ℕ)). r >>= reported_by)
    (cut_behind (content_bytes reported) m made.size below)
