-- What the text of an owner reads as.
use Rattle.std.specs.Prelude.{is_some}
use Rattle.std.proofs.Common.{◌≡◌, true, false, ℕ, List, Option, Some, None, Result, Ok, Err, refl, sym, ap, ◌∙◌}
use Rattle.uuid.specs.Text.{parsed}
use Rattle.uuid.specs.Parts.{zero_bytes}
use Rattle.serde_json.specs.Data.{Data, null, boolean, number, string, array, object}
use Rattle.serde_json.specs.Find.{as_null}
use Rattle.tsc_time.specs.ValueView.{owner_of}
use Rattle.tsc_trace_format.specs.declared.read.part.Refusal.{Refusal}
use Rattle.tsc_trace_format.specs.declared.read.part.Refusal.TheVariants as refusal
use Rattle.tsc_trace_format.specs.declared.read.part.PartFault.TheVariants.{Uuid}
use Rattle.tsc_trace_format.specs.Reading.{Refuses, Gives}
use Rattle.tsc_trace_format.specs.TraceText.{text_of, owner_in, owner_member}

-- null is read as the nil UUID is
pub null_owner : (d : Data) → is_some (as_null d) ≡ true →
    owner_member (Some d) ≡ Ok (owner_of zero_bytes)
unfolding owner_member
null_owner null h = refl
null_owner (boolean b) h = absurd cc
null_owner (number n) h = absurd cc
null_owner (string s) h = absurd cc
null_owner (array ds) h = absurd cc
null_owner (object ms) h = absurd cc

-- what is neither null nor a text is refused
pub no_text : (e : Refusal) (d : Data) → is_some (as_null d) ≡ false → Refuses e (text_of d) →
    Refuses e (owner_member (Some d))
unfolding owner_member text_of
no_text refusal.Memory d h none = tt
no_text (refusal.Fault f) null h none = absurd cc
no_text (refusal.Fault f) (boolean b) h none = cc
no_text (refusal.Fault f) (number n) h none = cc
no_text (refusal.Fault f) (string s) h none = absurd cc
no_text (refusal.Fault f) (array ds) h none = cc
no_text (refusal.Fault f) (object ms) h none = cc

text_read : (d : Data) (s : List ℕ) → text_of d ≡ Ok s → owner_member (Some d) ≡ owner_in s
unfolding owner_member text_of
text_read null s h = absurd cc
text_read (boolean b) s h = absurd cc
text_read (number n) s h = absurd cc
text_read (string t) s h = let e : t ≡ s = cc in ap owner_in e
text_read (array ds) s h = absurd cc
text_read (object ms) s h = absurd cc

-- a text is read as the owner that it names
pub text_owner : (d : Data) (s : List ℕ) (r : Result (List ℕ) Refusal) → text_of d ≡ Ok s →
    Gives (λ uuid. owner_of uuid) r (owner_in s) →
    Gives (λ uuid. owner_of uuid) r (owner_member (Some d))
text_owner d s (Ok uuid) h is = text_read d s h ∙ is
text_owner d s (Err refusal.Memory) h is = tt
text_owner d s (Err (refusal.Fault f)) h is = text_read d s h ∙ is

-- a text that is a UUID names its owner
pub an_owner : (s uuid : List ℕ) → Some uuid ≡ parsed s → owner_in s ≡ Ok (owner_of uuid)
unfolding owner_in
an_owner s uuid is = rw (sym is) refl

-- a text that is no UUID names no owner
pub no_owner : (s : List ℕ) → ((x : List ℕ) → parsed s ≡ Some x → ⊥) → owner_in s ≡ Err Uuid
unfolding owner_in
no_owner s none = by (parsed s) refl
  where
    by : (o : Option (List ℕ)) → parsed s ≡ o → owner_in s ≡ Err Uuid
    by (Some x) is = absurd (none x is)
    by None is = rw is refl
