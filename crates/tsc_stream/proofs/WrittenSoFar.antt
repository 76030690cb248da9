-- Writing a text: how far it has come.
use Rattle.std.proofs.Common.{◌≡◌, ◌≢◌, ◌⊎◌, inl, inr, refl, ℕ, ◌+◌, ◌-◌, ◌<◌, ◌≤◌, List, [], ◌∷◌, ◌++◌, Bool, true, false, length, take, drop, sym, ap, ◌∙◌, subst, arith, length-append, length-take-le, append_assoc, take-append-drop}
use Rattle.std.proofs.Math.Seq.{take-append_seam, take-append-add}
use Rattle.std.proofs.lemmas.List.{take_rest, take-append-le}
use Rattle.std.proofs.KnownBytes.{Appends-trans, Appends-kept}
use Rattle.std.specs.Io.KnownBytes.{Appends, Keeps}
use Rattle.std.specs.Prelude.{Ok, Err}
use Rattle.tsc_stream.specs.declared.stream.StreamFault.{StreamFault}
use Rattle.tsc_stream.specs.declared.stream.StreamFault.TheVariants.{Interrupted, Failed}
use Rattle.tsc_stream.specs.Stream.{KnownWriter, AfterWrite, IsSpentWriter, WhyNotWritten, HasWritten, CouldNotWrite}

is_false : (b : Bool) → b ≢ true → b ≡ false
is_false true able = absurd (able refl)
is_false false able = refl

-- A writer that took some bytes had not failed.
pub is_able : (writer : KnownWriter) (count : ℕ) → (IsSpentWriter writer → Ok count ≡ Err Failed) →
    writer.has_failed ≢ true
is_able writer count spent is = let no = spent (inl is) in absurd cc

-- The text is what was written and then the rest, and no write has failed.
pub record IsWriting (old new : KnownWriter) (text rest : List ℕ) : Type 0 where
  pub written : List ℕ
  pub split : text ≡ written ++ rest
  pub appended : Appends old.bytes new.bytes written
  pub unfailed : new.has_failed ≡ old.has_failed
  pub taken : written ≢ [] → new.has_failed ≡ false
  pub troubles : new.troubles ≡ old.troubles
  pub each_took : old.troubles Interrupted ≡ false → old.turns ≤ new.turns + length written

-- One more write took the first bytes of the rest, and what goes on is what stands behind them.
pub IsWriting-more : (old mid new : KnownWriter) (text rest : List ℕ) (count place : ℕ)
    → IsWriting old mid text rest → Appends mid.bytes new.bytes (take count rest) → place ≡ count →
    new.has_failed ≡ mid.has_failed → mid.has_failed ≢ true
    → AfterWrite mid new (Ok count) → 0 < count → count ≤ length rest
    → IsWriting old new text (take (length rest - place) (drop place rest))
IsWriting-more old mid new text rest count place so_far more same unfailed able reported some fits =
    let done = so_far.written in record {
      written = done ++ take place rest;
      split = so_far.split ∙ ap (λ l. done ++ l) (sym (take-append-drop place rest)) ∙
          sym (append_assoc done (take place rest) (drop place rest))
          ∙ ap (λ l. (done ++ take place rest) ++ l) (sym (take_rest rest place));
      appended = Appends-trans _ _ _ _ _ so_far.appended
          (subst (λ n. Appends mid.bytes new.bytes (take n rest)) (sym same) more);
      unfailed = unfailed ∙ so_far.unfailed;
      taken = λ _. unfailed ∙ is_false _ able;
      troubles = reported.troubles ∙ so_far.troubles;
      each_took = λ calm.
          let before = so_far.each_took calm in
          let turn = reported.turn in
          omega (
            arith,
            length-append done (take place rest),
            length-take-le place rest (omega arith),
          );
    }

-- Why a last write failed.
why_not_written : (old mid new : KnownWriter) (text rest : List ℕ)
    (so_far : IsWriting old mid text rest) → AfterWrite mid new (Err Failed)
    → IsSpentWriter mid ⊎ (mid.troubles Failed ≡ true) →
    WhyNotWritten old new (length so_far.written)
why_not_written old mid new text rest so_far reported (inr may) =
    inr (inl (sym (ap (λ troubles. troubles Failed) so_far.troubles) ∙ may))
why_not_written old mid new text rest so_far reported (inl (inl failed)) =
    inl (sym so_far.unfailed ∙ failed)
why_not_written old mid new text rest so_far reported (inl (inr none)) =
    let left = reported.turn in
    inr (inr (record {
      none_left = omega arith;
      each_took = λ calm. let before = so_far.each_took calm in omega arith;
    }))

-- A write that failed took nothing more.
pub CouldNotWrite-kept : (old mid new : KnownWriter) (text rest : List ℕ) (trouble : StreamFault) →
    trouble ≡ Failed
    → IsWriting old mid text rest → 0 < length rest → Keeps mid.bytes new.bytes →
    new.has_failed ≡ true
    → AfterWrite mid new (Err trouble) → IsSpentWriter mid ⊎ (mid.troubles trouble ≡ true) →
    CouldNotWrite old new text
CouldNotWrite-kept old mid new text rest Interrupted is so_far left kept failed reported why =
    absurd cc
CouldNotWrite-kept old mid new text rest Failed is so_far left kept failed reported why =
    let done = so_far.written in record {
      written = length done;
      part =
          let whole : length text ≡ length done + length rest = ap length so_far.split ∙
          length-append done rest in
          omega arith;
      appended = subst (Appends old.bytes new.bytes)
          (sym (ap (take (length done)) so_far.split ∙ take-append_seam done rest))
          (Appends-kept _ _ _ _ so_far.appended kept);
      failed = failed;
      why = why_not_written old mid new text rest so_far reported why;
    }

-- What two texts leave, of which one has no bytes.
joined_taken : (text more : List ℕ) (mid new : Bool) → text ++ more ≢ [] →
    (text ≢ [] → mid ≡ false) → (more ≢ [] → new ≡ false) → new ≡ mid → new ≡ false
joined_taken [] more mid new some first second same = second some
joined_taken (x ∷ text) more mid new some first second same = same ∙ first (λ none. cc)

-- One text was written, and then another.
pub HasWritten-then : (old mid new : KnownWriter) (text more : List ℕ) → HasWritten old mid text →
    HasWritten mid new more → HasWritten old new (text ++ more)
HasWritten-then old mid new text more first second = record {
  appended = Appends-trans _ _ _ _ _ first.appended second.appended;
  unfailed = second.unfailed ∙ first.unfailed;
  taken = λ some. joined_taken text more mid.has_failed new.has_failed some first.taken second.taken
      second.unfailed;
  troubles = second.troubles ∙ first.troubles;
  each_took = λ calm.
      let one = first.each_took calm in
      let two = second.each_took (ap (λ troubles. troubles Interrupted) first.troubles ∙ calm) in
      omega (arith, length-append text more);
}

-- A part of a front is one of the whole.
pub CouldNotWrite-front : (old new : KnownWriter) (front rest : List ℕ) →
    CouldNotWrite old new front → CouldNotWrite old new (front ++ rest)
CouldNotWrite-front old new front rest begun =
    let part = begun.part in record {
      written = begun.written;
      part = omega (arith, length-append front rest);
      appended = subst (Appends old.bytes new.bytes)
          (sym (take-append-le begun.written front rest (omega arith))) begun.appended;
      failed = begun.failed;
      why = begun.why;
    }

-- Why a write behind a front failed.
why_not_behind : (old mid new : KnownWriter) (front : List ℕ) (written : ℕ) →
    HasWritten old mid front → WhyNotWritten mid new written
    → WhyNotWritten old new (length front + written)
why_not_behind old mid new front written whole (inl failed) = inl (sym whole.unfailed ∙ failed)
why_not_behind old mid new front written whole (inr (inl may)) =
    inr (inl (sym (ap (λ troubles. troubles Failed) whole.troubles) ∙ may))
why_not_behind old mid new front written whole (inr (inr used)) = inr (inr (record {
  none_left = used.none_left;
  each_took = λ calm.
      let one = whole.each_took calm in
      let two = used.each_took (ap (λ troubles. troubles Interrupted) whole.troubles ∙ calm) in
      omega arith;
}))

-- A front was written, and a part of the rest behind it.
pub CouldNotWrite-behind : (old mid new : KnownWriter) (front rest : List ℕ) →
    HasWritten old mid front → CouldNotWrite mid new rest → CouldNotWrite old new (front ++ rest)
CouldNotWrite-behind old mid new front rest whole begun =
    let part = begun.part in record {
      written = length front + begun.written;
      part = omega (arith, length-append front rest);
      appended = subst (Appends old.bytes new.bytes)
          (sym (take-append-add front rest begun.written))
          (Appends-trans _ _ _ _ _ whole.appended begun.appended);
      failed = begun.failed;
      why = why_not_behind old mid new front begun.written whole begun.why;
    }
