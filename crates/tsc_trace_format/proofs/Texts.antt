-- From bytes to a trace, by way of a JSON value.
use Rattle.std.proofs.Common.{◌≡◌, ◌⊎◌, inl, inr, ℕ, Bool, true, false, cond, List, Some, None, Err, IsUtf8, refl, sym, ap, ◌∙◌}
use Rattle.std.specs.Prelude.{ok_or}
use Rattle.std.specs.Str.{is_utf8}
use Rattle.std.proofs.lemmas.Str.{IsUtf8-from_is_utf8, is_utf8-from_IsUtf8}
use Rattle.serde_json.specs.Data.{Data}
use Rattle.serde_json.specs.Read.{read}
use Rattle.tsc_trace_format.specs.declared.read.TraceFault.{TraceFault}
use Rattle.tsc_trace_format.specs.declared.read.TraceFault.TheVariants.{NotJson, NoMemory}
use Rattle.tsc_trace_format.specs.TraceParts.{◌>>=◌}
use Rattle.tsc_trace_format.specs.TraceText.{json_of, trace_of, trace_of_bytes}

pub is_json : (bytes : List ℕ) (d : Data) → IsUtf8 bytes → read bytes ≡ Some d →
    json_of bytes ≡ Some d
is_json bytes d text is = ap (λ b. cond b (read bytes) None) (is_utf8-from_IsUtf8 bytes text) ∙ is

pub is_no_json : (bytes : List ℕ) → (IsUtf8 bytes → read bytes ≡ None) → json_of bytes ≡ None
is_no_json bytes none = by (is_utf8 bytes) (λ h. none (IsUtf8-from_is_utf8 bytes h))
  where
    by : (b : Bool) → (b ≡ true → read bytes ≡ None) → cond b (read bytes) None ≡ None
    by true h = h refl
    by false h = refl

-- the trace of bytes is that of the JSON value that they are
pub trace_of_value : (bytes : List ℕ) (d : Data) → json_of bytes ≡ Some d →
    trace_of_bytes bytes ≡ trace_of d
trace_of_value bytes d is = ap (λ o. ok_or o NotJson >>= trace_of) is

-- what is no JSON is no trace, for the same reason
pub passed_on : (bytes : List ℕ) (fault : TraceFault) →
    (fault ≡ NoMemory) ⊎ ((fault ≡ NotJson) × (json_of bytes ≡ None)) →
    (fault ≡ NoMemory) ⊎ (trace_of_bytes bytes ≡ Err fault)
passed_on bytes fault (inl h) = inl h
passed_on bytes fault (inr h) = inr
    (ap (λ o. ok_or o NotJson >>= trace_of) h.1 ∙ ap (λ (f : TraceFault). Err f) (sym h.0))
