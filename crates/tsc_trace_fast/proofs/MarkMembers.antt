-- The members of a mark that were read, and the mark that they are.
use Rattle.std.proofs.Common.{◌≡◌, ℕ, List, ◌∷◌, Option, Some, None, Ok, IfSome, refl}
use Rattle.std.specs.Prelude.{codes, unwrap_or}
use Rattle.serde_json.specs.Data.{Data, object, Members, no_members, put}
use Rattle.json.specs.Token.{Token}
use Rattle.json.specs.Json.{read_key}
use Rattle.uuid.specs.Parts.{zero_bytes}
use Rattle.tsc_time.specs.Time.{Time}
use Rattle.tsc_time.specs.ValueView.{owner_of}
use Rattle.tsc_span.specs.Span.{SpanView}
use Rattle.tsc_page_model.specs.Page.{Mark}
use Rattle.tsc_trace_format.specs.TraceText.{object_of, needed, time_of, added_span, mark_names, mark_of}
use Rattle.tsc_trace_fast.specs.TokenReads.{Got, HasMembers}
use Rattle.tsc_trace_fast.specs.Kept.{KeepsMark, owner_there}
use Rattle.tsc_trace_fast.specs.declared.quick.mark.MarkParts.{MarkParts}
use Rattle.tsc_trace_fast.proofs.Owners.{owner_kept}
use Rattle.tsc_trace_fast.proofs.TokenLemmas.{members_over}
use Rattle.tsc_trace_fast.proofs.MembersKept.{named_put, keeps_new, keeps_other, kept_some}

module _ (found : Members) (parts : MarkParts) (d : Data) (h : KeepsMark found parts) where
  pub mark_span : (span : SpanView) → added_span d ≡ Ok span →
      KeepsMark (put (codes "span") d found)
      (record { span = Some span; time = parts.time; owner = parts.owner })
  mark_span span is =
      record {
        named = named_put mark_names _ d found refl h.named;
        span = keeps_new added_span _ d span found is;
        time = keeps_other time_of (codes "time") _ d found _ refl h.time;
        owner = keeps_other owner_there (codes "owner") _ d found _ refl h.owner;
      }

  pub mark_time : (at : Time) → time_of d ≡ Ok at →
      KeepsMark (put (codes "time") d found)
      (record { span = parts.span; time = Some at; owner = parts.owner })
  mark_time at is =
      record {
        named = named_put mark_names _ d found refl h.named;
        span = keeps_other added_span (codes "span") _ d found _ refl h.span;
        time = keeps_new time_of _ d at found is;
        owner = keeps_other owner_there (codes "owner") _ d found _ refl h.owner;
      }

  pub mark_owner : (name : List ℕ) → owner_there d ≡ Ok (owner_of name) →
      KeepsMark (put (codes "owner") d found)
      (record { span = parts.span; time = parts.time; owner = Some name })
  mark_owner name is =
      record {
        named = named_put mark_names _ d found refl h.named;
        span = keeps_other added_span (codes "span") _ d found _ refl h.span;
        time = keeps_other time_of (codes "time") _ d found _ refl h.time;
        owner = keeps_new owner_there _ d (owner_of name) found is;
      }

-- nothing was read yet
pub no_mark_yet : KeepsMark no_members (record { span = None; time = None; owner = None })
no_mark_yet = record { named = refl; span = refl; time = refl; owner = refl }

-- the mark of an object of which these members are kept
pub mark_is : (found : Members) (parts : MarkParts) (span : SpanView) (at : Time) →
    KeepsMark found parts → parts.span ≡ Some span → parts.time ≡ Some at
    → mark_of (object found) ≡ Ok (record {
      span = span;
      value = record { time = at; owner = owner_of (unwrap_or parts.owner zero_bytes) };
    })
unfolding mark_of object_of needed
mark_is found parts span at h s m =
    let of_span = kept_some added_span (codes "span") found parts.span span h.span s in
    let of_time = kept_some time_of (codes "time") found parts.time at h.time m in
    rw (
      h.named,
      of_span.1,
      of_time.1,
      of_span.2,
      of_time.2,
      owner_kept found parts.owner h.owner,
    ) refl

pub mark_got : (old all now new : List Token) (found : Members) (parts : MarkParts)
    (o : Option Mark) → old ≡ Token.begin_object ∷ all → HasMembers 1 all found now →
    KeepsMark found parts → read_key now ≡ Some (None, new)
    → IfSome o (λ mark. (ms : Members) → KeepsMark ms parts → mark_of (object ms) ≡ Ok mark) →
    IfSome o (λ mark. Got 2 mark_of old mark new)
mark_got old all now new found parts None is h kept over marks = tt
mark_got old all now new found parts (Some mark) is h kept over marks =
    (object found, members_over 1 old all now new found is h over, marks found kept)
