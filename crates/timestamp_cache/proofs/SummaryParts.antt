-- Parts of bytes: what is written is read again, whatever stands behind it, and what is read was
-- written so.
use Rattle.std.proofs.Common.{arith, ◌≡◌, ℕ, suc, ◌+◌, ◌^◌, ◌<◌, ◌≤◌, Bool, true, false, cond, ltb}
use Rattle.std.proofs.Common.{List, ◌∷◌, ◌++◌, length, get_or, take, drop, Ok, Err}
use Rattle.std.proofs.Common.{refl, sym, ap, subst, ◌∙◌, append_assoc, inl, inr}
use Rattle.std.specs.Int.{Width, w32, w64, byte_len, from_be_bytes, to_be_bytes}
use Rattle.std.proofs.lemmas.Bool.{cases_lt, ltb-false, le-ltb}
use Rattle.std.proofs.lemmas.List.{take_at, drop_at, take-append-drop, length-append, length-take}
use Rattle.std.proofs.lemmas.List.{get_or-drop, get_or-take, get_or_past}
use Rattle.std.proofs.lemmas.Nat.{be_bytes_4, be_bytes_8, from_be_bytes-to_be_bytes_4}
use Rattle.std.proofs.lemmas.Nat.{from_be_bytes-to_be_bytes_8}
use Rattle.timestamp_cache.specs.declared.summary_fault.SummaryFault.{SummaryFault}
use Rattle.timestamp_cache.specs.declared.summary_fault.SummaryFault.TheVariants.{Form}
use Rattle.timestamp_cache.specs.SummaryReading.{Read, Part, ◌>>=◌, bytes_at, number_at}

-- each number is a byte
abbrev pub AreBytes : List ℕ → Type 0
AreBytes bytes = (i : ℕ) → get_or bytes i 0 < 256

pub AreBytes-drop : (n : ℕ) (bytes : List ℕ) → AreBytes bytes → AreBytes (drop n bytes)
AreBytes-drop n bytes small i = rw get_or-drop (small (n + i))

pub AreBytes-take : (n : ℕ) (bytes : List ℕ) → AreBytes bytes → AreBytes (take n bytes)
AreBytes-take n bytes small i =
    elim (cases_lt i n) [
      | inl lt ↦ rw (get_or-take n bytes i 0 lt) (small i)
      | inr le ↦ rw (get_or_past (take n bytes) i 0 (omega (arith, length-take n bytes)))
          (omega arith)
    ]

pub AreBytes-rest : (b : ℕ) (bytes : List ℕ) → AreBytes (b ∷ bytes) → AreBytes bytes
AreBytes-rest b bytes small i = small (suc i)

-- what a step gave that went well
pub bind_ok : {A B : Type 0} (r : Read A) (f : A → Read B) (y : B) → (r >>= f) ≡ Ok y → (x : A) ×
    (r ≡ Ok x) × (f x ≡ Ok y)
bind_ok (Ok x) f y e = (x, refl, e)
bind_ok (Err fault) f y e = absurd cc

-- a test behind which a step went well
pub test_ok : {A : Type 0} (b : Bool) (r : Read A) (fault : SummaryFault) (y : A) → cond b r
    (Err fault) ≡ Ok y → (b ≡ true) × (r ≡ Ok y)
test_ok true r fault y e = (refl, e)
test_ok false r fault y e = absurd cc

pub guard_ok : {A : Type 0} (b : Bool) (r : Read A) (fault : SummaryFault) (y : A) → cond b
    (Err fault) r ≡ Ok y → (b ≡ false) × (r ≡ Ok y)
guard_ok true r fault y e = absurd cc
guard_ok false r fault y e = (refl, e)

-- a value that was read
abbrev pub ok : {A : Type 0} → A → Read A
ok x = Ok x

pub same_ok : {A : Type 0} (x y : A) → ok x ≡ ok y → x ≡ y
same_ok x y e = cc

-- bytes are some text with others behind it
pub record Takes (bytes text rest : List ℕ) : Type 0 where
  pub parts : bytes ≡ text ++ rest
  pub small : AreBytes rest

pub takes_both : (a x b y c : List ℕ) → Takes a x b → Takes b y c → Takes a (x ++ y) c
takes_both a x b y c p q = record {
  parts = p.parts ∙ ap (λ (t : List ℕ). x ++ t) q.parts ∙ sym
      (append_assoc x y c);
  small = q.small;
}

-- a part, by how it is written and how it is read
pub record IsPart {A : Type 0} (write : A → List ℕ) (read : List ℕ → Part A) (Made : A → Type 0) :
    Type 0 where
  pub again : (x : A) (rest : List ℕ) → Made x → read (write x ++ rest) ≡ Ok (x, rest)
  pub taken : (bytes : List ℕ) (p : A × List ℕ) → AreBytes bytes → read bytes ≡ Ok p → Takes bytes
      (write p.0) p.1 × Made p.0

-- two parts, one behind the other, and what is made of them
pub joined : {A B C : Type 0} (wa : A → List ℕ) (ra : List ℕ → Part A) (Ma : A → Type 0)
    (wb : B → List ℕ) (rb : List ℕ → Part B) (Mb : B → Type 0)
    (make : A → B → Read C) (first : C → A) (second : C → B) (Mc : C → Type 0) → IsPart wa ra Ma →
    IsPart wb rb Mb
    → ((c : C) → Mc c → Ma (first c) × Mb (second c) × (make (first c) (second c) ≡ Ok c))
    → ((a : A) (b : B) (c : C) → Ma a → Mb b → make a b ≡ Ok c → (first c ≡ a) × (second c ≡ b) × Mc
    c)
    → IsPart (λ c. wa (first c) ++ wb (second c))
    (λ bytes. ra bytes >>= λ a. rb a.1 >>= λ b. make a.0 b.0 >>= λ c. Ok (c, b.1)) Mc
joined {A} {B} {C} wa ra Ma wb rb Mb make first second Mc pa pb made_of made = record {
  again = λ c rest m.
      let parts = made_of c m in
      let behind : (wa (first c) ++ wb (second c)) ++ rest
      ≡ wa (first c) ++ (wb (second c) ++ rest) =
      append_assoc (wa (first c)) (wb (second c)) rest in
      ap (λ (bytes : List ℕ). ra bytes >>= λ a. rb a.1 >>= λ b. make a.0 b.0 >>= λ c. Ok (c, b.1))
      behind
      ∙ ap (λ (r : Part A). r >>= λ a. rb a.1 >>= λ b. make a.0 b.0 >>= λ c. Ok (c, b.1))
      (pa.again (first c) (wb (second c) ++ rest) parts.0)
      ∙ ap (λ (r : Part B). r >>= λ b. make (first c) b.0 >>= λ c. Ok (c, b.1))
      (pb.again (second c) rest parts.1)
      ∙ ap (λ (r : Read C). r >>= λ c. Ok (c, rest)) parts.2;
  taken = λ bytes p small e.
      let a = bind_ok (ra bytes) (λ a. rb a.1 >>= λ b. make a.0 b.0 >>= λ c. Ok (c, b.1)) p e in
      let b = bind_ok (rb a.0.1) (λ b. make a.0.0 b.0 >>= λ c. Ok (c, b.1)) p a.2 in
      let c = bind_ok (make a.0.0 b.0.0) (λ c. Ok (c, b.0.1)) p b.2 in
      let ta = pa.taken bytes a.0 small a.1 in
      let tb = pb.taken a.0.1 b.0 ta.0.small b.1 in
      let is = made a.0.0 b.0.0 c.0 ta.1 tb.1 c.1 in
      let both : Takes bytes (wa a.0.0 ++ wb b.0.0) b.0.1 = takes_both bytes (wa a.0.0) a.0.1
      (wb b.0.0) b.0.1 ta.0 tb.0 in
      let whole : Takes bytes (wa (first c.0) ++ wb (second c.0)) b.0.1 = rw (is.0, is.1) both in
      let last : C × List ℕ = (c.0, b.0.1) in
      subst (λ (q : C × List ℕ). Takes bytes (wa (first q.0) ++ wb (second q.0)) q.1 × Mc q.0)
      (same_ok last p c.2) (whole, is.2);
}

-- ---- bytes, as many as are asked for

pub bytes_again : (n : ℕ) (text rest : List ℕ) → length text ≡ n → bytes_at n (text ++ rest) ≡ Ok
    (text, rest)
bytes_again n text rest len =
    let long : ltb (length (text ++ rest)) n ≡ false = le-ltb _ _
    (omega (arith, length-append text rest, len)) in
    rw (long, take_at text rest n len, drop_at text rest n len) refl

pub bytes_taken : (n : ℕ) (bytes : List ℕ) (p : List ℕ × List ℕ) → AreBytes bytes → bytes_at n bytes
    ≡ Ok p → Takes bytes p.0 p.1 × (length p.0 ≡ n) × AreBytes p.0
bytes_taken n bytes p small e =
    let g = guard_ok (ltb (length bytes) n) (Ok (take n bytes, drop n bytes)) Form p e in
    let long : n ≤ length bytes = ltb-false _ _ g.0 in
    let cut : List ℕ × List ℕ = (take n bytes, drop n bytes) in
    let parts : Takes bytes (take n bytes) (drop n bytes) = record
    { parts = sym (take-append-drop n bytes); small = AreBytes-drop n bytes small } in
    let len : length (take n bytes) ≡ n = omega (arith, length-take n bytes) in
    subst (λ (q : List ℕ × List ℕ). Takes bytes q.0 q.1 × (length q.0 ≡ n) × AreBytes q.0)
    (same_ok cut p g.1) (parts, len, AreBytes-take n bytes small)

-- ---- numbers

-- numbers of a width, in as many bytes
pub record IsWide (w : Width) (limit : ℕ) : Type 0 where
  pub len : (n : ℕ) → length (to_be_bytes w n) ≡ byte_len w
  pub back : (bytes : List ℕ) → length bytes ≡ byte_len w → AreBytes bytes → to_be_bytes w
      (from_be_bytes w bytes) ≡ bytes
  pub again : (n : ℕ) → n < limit → from_be_bytes w (to_be_bytes w n) ≡ n
  pub below : (bytes : List ℕ) → AreBytes bytes → from_be_bytes w bytes < limit

pub wide32 : IsWide w32 (2 ^ 32)
wide32 = record {
  len = λ n. refl;
  back = λ bytes len small. be_bytes_4 bytes _ len small refl;
  again = λ n lt. from_be_bytes-to_be_bytes_4 n lt;
  below = λ bytes small. omega (arith, small 0, small 1, small 2, small 3);
}

pub wide64 : IsWide w64 (2 ^ 64)
wide64 = record {
  len = λ n. refl;
  back = λ bytes len small. be_bytes_8 bytes _ len small refl;
  again = λ n lt. from_be_bytes-to_be_bytes_8 n lt;
  below = λ bytes small. omega (
    arith,
    small 0,
    small 1,
    small 2,
    small 3,
    small 4,
    small 5,
    small
        6,
    small 7,
  );
}

pub number_part : (w : Width) (limit : ℕ) → IsWide w limit → IsPart (to_be_bytes w) (number_at w)
    (λ n. n < limit)
number_part w limit wide = record {
  again = λ n rest lt.
      ap (λ (r : Part (List ℕ)). r >>= λ x. Ok (from_be_bytes w x.0, x.1))
      (bytes_again (byte_len w) (to_be_bytes w n) rest (wide.len n))
      ∙ ap (λ (k : ℕ). Ok (k, rest)) (wide.again n lt);
  taken = λ bytes p small e.
      let b = bind_ok (bytes_at (byte_len w) bytes) (λ x. Ok (from_be_bytes w x.0, x.1)) p e in
      let t = bytes_taken (byte_len w) bytes b.0 small b.1 in
      let read : ℕ × List ℕ = (from_be_bytes w b.0.0, b.0.1) in
      let same : to_be_bytes w (from_be_bytes w b.0.0) ≡ b.0.0 = wide.back b.0.0 t.1 t.2 in
      let whole : Takes bytes (to_be_bytes w read.0) read.1 = subst
      (λ (text : List ℕ). Takes bytes text b.0.1) (sym same) t.0 in
      subst (λ (q : ℕ × List ℕ). Takes bytes (to_be_bytes w q.0) q.1 × (q.0 < limit))
      (same_ok read p b.2) (whole, wide.below b.0.0 t.2);
}

pub wide_part : IsPart (to_be_bytes w64) (number_at w64) (λ n. n < 2 ^ 64)
wide_part = number_part w64 (2 ^ 64) wide64

pub narrow_part : IsPart (to_be_bytes w32) (number_at w32) (λ n. n < 2 ^ 32)
narrow_part = number_part w32 (2 ^ 32) wide32
