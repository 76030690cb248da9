-- Reading an input in place: how far it has come.
use Rattle.std.proofs.Common.{◌≡◌, ◌≢◌, ◌⊎◌, inl, inr, refl, true, false, ℕ, zero, suc, Ok, Err, ◌+◌, ◌<◌, ◌≤◌, List, ◌++◌, length, take, sym, ap, ◌∙◌, subst, arith, length-append, length-take, length-take-le, append_assoc}
use Rattle.std.proofs.Math.Seq.{take-append-add}
use Rattle.std.proofs.lemmas.List.{take-take, take-append-le}
use Rattle.std.proofs.KnownBytes.{Consumes-trans, Consumes-kept}
use Rattle.std.specs.Io.KnownBytes.{Consumes, Keeps}
use Rattle.tsc_stream.specs.Limits.{longest_input}
use Rattle.tsc_stream.specs.Stream.{KnownReader, AfterRead, IsSpentReader, WhyNotRead, CouldNotRead, phase_after, HasReadTooMuch, HasReadWithin}
use Rattle.tsc_stream.specs.declared.stream.Phase.TheVariants as phase
use Rattle.tsc_stream.specs.declared.stream.StreamFault.{StreamFault}
use Rattle.tsc_stream.specs.declared.stream.StreamFault.TheVariants.{Interrupted, Failed}

-- The first bytes of a buffer are what was read, and reading goes on, or has not begun.
pub record HasFilled (old new : KnownReader) (buffer : List ℕ) (filled : ℕ) : Type 0 where
  pub within : filled ≤ length buffer
  pub small : filled ≤ longest_input
  pub consumed : Consumes old.bytes new.bytes (take filled buffer)
  pub goes_on : (new ≡ old) ⊎ (new.phase ≡ phase.Open)
  pub troubles : new.troubles ≡ old.troubles
  pub each_gave : old.troubles Interrupted ≡ false → old.turns ≤ new.turns + filled

-- a part that was read behind a front
pub take-read_behind : (xs part after tail : List ℕ) (filled count len : ℕ) → filled ≤ length xs →
    count ≤ length part → filled + count ≤ len
    → take (filled + count) (take len ((take filled xs ++ (part ++ after)) ++ tail)) ≡
    take filled xs ++ take count part
take-read_behind xs part after tail filled count len within fits small =
    let front = take filled xs in
    let all = (part ++ after) ++ tail in
    let here : filled ≡ length front = sym (length-take-le filled xs within) in
    let shown : count ≤ length (part ++ after) = omega (arith, length-append part after) in
    take-take (filled + count) len _ small
    ∙ ap (take (filled + count)) (append_assoc front (part ++ after) tail)
    ∙ ap (λ k. take (k + count) (front ++ all)) here
    ∙ take-append-add front all count
    ∙ ap (λ l. front ++ l) (take-append-le count (part ++ after) tail shown ∙
    take-append-le count part after fits)

-- The front grows by what one more read gave.
pub HasFilled-more : (old mid new : KnownReader) (buffer xs part after tail : List ℕ)
    (filled count len : ℕ)
    → HasFilled old mid buffer filled → take filled xs ≡ take filled buffer → filled ≤ length xs →
    count ≤ length part
    → Consumes mid.bytes new.bytes (take count part) → filled + count ≤ len →
    filled + count ≤ longest_input
    → new.phase ≡ phase.Open → AfterRead mid new (Ok count) → count ≢ 0
    → HasFilled old new (take len ((take filled xs ++ (part ++ after)) ++ tail)) (filled + count)
HasFilled-more old mid new buffer xs part after tail filled count len so_far front within fits read
    room small open_still reported some =
    let front_read = subst (Consumes old.bytes mid.bytes) (sym front) so_far.consumed in
    record {
      within = omega (
        arith,
        length-take len ((take filled xs ++ (part ++ after)) ++ tail),
        length-append (take filled xs ++ (part ++ after)) tail,
        length-append (take filled xs) (part ++ after),
        length-append part after,
        length-take-le filled xs within,
      );
      small = small;
      consumed = subst (Consumes old.bytes new.bytes)
          (sym (take-read_behind xs part after tail filled count len within fits room))
          (Consumes-trans _ _ _ _ _ front_read read);
      goes_on = inr open_still;
      troubles = reported.troubles ∙ so_far.troubles;
      each_gave = λ calm. let before = so_far.each_gave calm in let turn =
          reported.turn in omega (arith, some);
    }

-- What one more read gave is too much.
pub HasReadTooMuch-filled : (old mid new : KnownReader) (buffer part : List ℕ) (filled count : ℕ)
    → HasFilled old mid buffer filled → count ≤ length part
    → Consumes mid.bytes new.bytes (take count part) → longest_input < filled + count
    → new.phase ≡ phase.Open
    → HasReadTooMuch old new
HasReadTooMuch-filled old mid new buffer part filled count so_far fits read beyond open_still =
    record {
      read = take filled buffer ++ take count part;
      consumed = Consumes-trans _ _ _ _ _ so_far.consumed read;
      beyond = omega (
        arith,
        length-append (take filled buffer) (take count part),
        length-take-le filled buffer so_far.within,
        length-take-le count part fits,
      );
      goes_on = open_still;
    }

-- What was read so far, where reading stops.
pub HasReadWithin-filled : (old new : KnownReader) (buffer : List ℕ) (filled : ℕ) →
    HasFilled old new buffer filled → HasReadWithin old new
HasReadWithin-filled old new buffer filled so_far = record {
  read = take filled buffer;
  consumed = so_far.consumed;
  within = omega (arith, so_far.small, length-take-le filled buffer so_far.within);
}

-- Why a last read failed.
why_not_read : (old mid new : KnownReader) (buffer : List ℕ) (filled : ℕ) →
    HasFilled old mid buffer filled → AfterRead mid new (Err Failed)
    → IsSpentReader mid ⊎ (mid.troubles Failed ≡ true) → WhyNotRead old new (take filled buffer)
why_not_read old mid new buffer filled so_far reported (inr may) =
    inr (inl (sym (ap (λ troubles. troubles Failed) so_far.troubles) ∙ may))
why_not_read old mid new buffer filled so_far reported (inl (inl failed)) = elim so_far.goes_on [
  | inl same ↦ inl (sym (ap (λ (reader : KnownReader). reader.phase) same) ∙ failed)
  | inr goes_on ↦ let no = sym goes_on ∙ failed in absurd cc
]
why_not_read old mid new buffer filled so_far reported (inl (inr none)) =
    let left = reported.turn in
    let last = none.0 in
    inr (inr (record {
      none_left = omega arith;
      each_gave = λ calm. let before =
          so_far.each_gave calm in omega (arith, length-take-le filled buffer so_far.within);
    }))

-- What was read so far, where a last read failed.
pub CouldNotRead-filled : (old mid new : KnownReader) (buffer : List ℕ) (filled : ℕ)
    (trouble : StreamFault) → trouble ≡ Failed
    → HasFilled old mid buffer filled → Keeps mid.bytes new.bytes
    → AfterRead mid new (Err trouble) → IsSpentReader mid ⊎ (mid.troubles trouble ≡ true) →
    CouldNotRead old new
CouldNotRead-filled old mid new buffer filled Interrupted is so_far kept reported why = absurd cc
CouldNotRead-filled old mid new buffer filled Failed is so_far kept reported why = record {
  begun = record {
    read = take filled buffer;
    consumed = Consumes-kept _ _ _ _ so_far.consumed kept;
    within = omega (arith, so_far.small, length-take-le filled buffer so_far.within);
  };
  failed = reported.phase;
  why = why_not_read old mid new buffer filled so_far reported why;
}

-- A read that gave bytes leaves the reader open.
pub open_after : (count : ℕ) → count ≢ 0 → phase_after (Ok count) ≡ phase.Open
open_after zero some = absurd (some refl)
open_after (suc n) some = refl
