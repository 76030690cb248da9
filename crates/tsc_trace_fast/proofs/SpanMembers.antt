-- The members of a span that were read, and the form that they are.
use Rattle.std.proofs.Common.{◌≡◌, Bool, List, ◌∷◌, Option, Some, None, Ok, IfSome, refl, sym}
use Rattle.std.specs.Prelude.{codes}
use Rattle.serde_json.specs.Data.{Data, object, Members, no_members, put}
use Rattle.json.specs.Token.{Token}
use Rattle.json.specs.Json.{read_key}
use Rattle.tsc_span.specs.Span.{KeyBytes, SpanView}
use Rattle.tsc_span.specs.declared.span.Ends.{Ends}
use Rattle.tsc_trace_format.specs.declared.read.span.SpanForm.{SpanForm}
use Rattle.tsc_trace_format.specs.declared.read.span.SpanForm.TheVariants.{Start, StartToEnd, Range, Onward}
use Rattle.tsc_trace_format.specs.TraceText.{object_of, needed, key_of, ends_of, excluded_of, start_form, start_to_end_form, range_form, onward_form, form_of, span_names, form_in, span_form, span_of_form, added_span}
use Rattle.tsc_trace_fast.specs.TokenReads.{Got, HasMembers}
use Rattle.tsc_trace_fast.specs.Kept.{KeepsSpan}
use Rattle.tsc_trace_fast.specs.declared.quick.span.SpanParts.{SpanParts}
use Rattle.tsc_trace_fast.proofs.TokenLemmas.{members_over}
use Rattle.tsc_trace_fast.proofs.MembersKept.{named_put, keeps_new, keeps_other, kept_some, kept_none}

module _ (found : Members) (parts : SpanParts) (d : Data) (h : KeepsSpan found parts) where
  pub span_start : (k : KeyBytes) → key_of d ≡ Ok k →
      KeepsSpan (put (codes "start") d found)
      (record parts { start = Some k })
  span_start k is =
      record {
        named = named_put span_names _ d found refl h.named;
        start = keeps_new key_of _ d k found is;
        end = keeps_other key_of (codes "end") _ d found _ refl h.end;
        ends = keeps_other ends_of (codes "ends") _ d found _ refl h.ends;
        onward = keeps_other excluded_of (codes "onward") _ d found _ refl h.onward;
      }

  pub span_end : (k : KeyBytes) → key_of d ≡ Ok k →
      KeepsSpan (put (codes "end") d found)
      (record parts { end = Some k })
  span_end k is =
      record {
        named = named_put span_names _ d found refl h.named;
        start = keeps_other key_of (codes "start") _ d found _ refl h.start;
        end = keeps_new key_of _ d k found is;
        ends = keeps_other ends_of (codes "ends") _ d found _ refl h.ends;
        onward = keeps_other excluded_of (codes "onward") _ d found _ refl h.onward;
      }

  pub span_ends : (e : Ends) → ends_of d ≡ Ok e →
      KeepsSpan (put (codes "ends") d found)
      (record parts { ends = Some e })
  span_ends e is =
      record {
        named = named_put span_names _ d found refl h.named;
        start = keeps_other key_of (codes "start") _ d found _ refl h.start;
        end = keeps_other key_of (codes "end") _ d found _ refl h.end;
        ends = keeps_new ends_of _ d e found is;
        onward = keeps_other excluded_of (codes "onward") _ d found _ refl h.onward;
      }

  pub span_onward : (b : Bool) → excluded_of d ≡ Ok b →
      KeepsSpan (put (codes "onward") d found)
      (record { start = parts.start; end = parts.end; ends = parts.ends; onward = Some b })
  span_onward b is =
      record {
        named = named_put span_names _ d found refl h.named;
        start = keeps_other key_of (codes "start") _ d found _ refl h.start;
        end = keeps_other key_of (codes "end") _ d found _ refl h.end;
        ends = keeps_other ends_of (codes "ends") _ d found _ refl h.ends;
        onward = keeps_new excluded_of _ d b found is;
      }

-- nothing was read yet
pub no_span_yet : KeepsSpan no_members
    (record { start = None; end = None; ends = None; onward = None })
no_span_yet = record { named = refl; start = refl; end = refl; ends = refl; onward = refl }

-- ---- the form of a span

module _ (found : Members) (parts : SpanParts) (k : KeyBytes) (some : parts.start ≡ Some k)
    (h : KeepsSpan found parts) where
  start_there : (d : Data) × (needed (codes "start") found ≡ Ok d) × (key_of d ≡ Ok k)
  unfolding needed
  start_there = let s = kept_some key_of (codes "start") found parts.start k h.start some
      in (s.0, rw s.1 refl, s.2)

  pub form_start : parts.end ≡ None → parts.ends ≡ None → parts.onward ≡ None →
      form_in found ≡ Ok (Start k)
  unfolding form_of start_form
  form_start e n o =
      let s = start_there in
      rw (
        s.1,
        kept_none key_of (codes "end") found parts.end h.end e,
        kept_none ends_of (codes "ends") found parts.ends h.ends n,
        kept_none excluded_of (codes "onward") found parts.onward h.onward o,
        s.2,
      ) refl

  pub form_start_to_end : (m : KeyBytes) → parts.end ≡ Some m → parts.ends ≡ None →
      parts.onward ≡ None → form_in found ≡ Ok (StartToEnd k m)
  unfolding form_of start_to_end_form
  form_start_to_end m e n o =
      let s = start_there in
      let t = kept_some key_of (codes "end") found parts.end m h.end e in
      rw (
        s.1,
        t.1,
        kept_none ends_of (codes "ends") found parts.ends h.ends n,
        kept_none excluded_of (codes "onward") found parts.onward h.onward o,
        s.2,
        t.2,
      ) refl

  pub form_range : (m : KeyBytes) (b : Ends) → parts.end ≡ Some m → parts.ends ≡ Some b →
      parts.onward ≡ None → form_in found ≡ Ok (Range k m b)
  unfolding form_of range_form
  form_range m b e n o =
      let s = start_there in
      let t = kept_some key_of (codes "end") found parts.end m h.end e in
      let u = kept_some ends_of (codes "ends") found parts.ends b h.ends n in
      rw (
        s.1,
        t.1,
        u.1,
        kept_none excluded_of (codes "onward") found parts.onward h.onward o,
        s.2,
        t.2,
        u.2,
      ) refl

  pub form_onward : (b : Bool) → parts.end ≡ None → parts.ends ≡ None → parts.onward ≡ Some b →
      form_in found ≡ Ok (Onward k b)
  unfolding form_of onward_form
  form_onward b e n o =
      let s = start_there in
      let t = kept_some excluded_of (codes "onward") found parts.onward b h.onward o in
      rw (
        s.1,
        kept_none key_of (codes "end") found parts.end h.end e,
        kept_none ends_of (codes "ends") found parts.ends h.ends n,
        t.1,
        s.2,
        t.2,
      ) refl

-- the form of an object of which these members are kept
span_is : (found : Members) (parts : SpanParts) (form : SpanForm) → KeepsSpan found parts →
    form_in found ≡ Ok form → span_form (object found) ≡ Ok form
unfolding span_form object_of
span_is found parts form h is = rw h.named is

pub span_got : (old all now new : List Token) (found : Members) (parts : SpanParts)
    (o : Option SpanForm) → old ≡ Token.begin_object ∷ all → HasMembers 0 all found now →
    KeepsSpan found parts → read_key now ≡ Some (None, new)
    → IfSome o (λ form. (ms : Members) → KeepsSpan ms parts → form_in ms ≡ Ok form) →
    IfSome o (λ form. Got 1 span_form old form new)
span_got old all now new found parts None is h kept over forms = tt
span_got old all now new found parts (Some form) is h kept over forms = (
  object found,
  members_over 0 old all now new found is h over,
  span_is found parts form kept (forms found kept),
)

is_added : (d : Data) (form : SpanForm) (span : SpanView) → span_form d ≡ Ok form →
    span_of_form form ≡ Some span → added_span d ≡ Ok span
unfolding added_span
is_added d form span is made = rw (is, made) refl

-- the span of a form that is not inverted
pub added_got : (old new : List Token) (form : SpanForm) (o : Option SpanView) →
    Got 1 span_form old form new → o ≡ span_of_form form →
    IfSome o (λ span. Got 1 added_span old span new)
added_got old new form None g is = tt
added_got old new form (Some span) g is = (g.0, g.1, is_added g.0 form span g.2 (sym is))
