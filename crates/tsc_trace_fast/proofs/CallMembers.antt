-- The members of a call that were read, and the call that they are.
use Rattle.std.proofs.Common.{◌≡◌, ℕ, Bool, true, false, List, [], ◌∷◌, Option, Some, None, Ok, Bor, IfSome, refl, sym, ap, ◌∙◌}
use Rattle.std.specs.Prelude.{codes, unwrap_or, option_map, is_some}
use Rattle.serde_json.specs.Data.{Data, object, Members, no_members, put}
use Rattle.json.specs.Token.{Token}
use Rattle.json.specs.Json.{read_key}
use Rattle.uuid.specs.Parts.{zero_bytes}
use Rattle.tsc_time.specs.Time.{Time}
use Rattle.tsc_time.specs.ValueView.{owner_of}
use Rattle.tsc_span.specs.Span.{SpanView, nothing}
use Rattle.tsc_page_model.specs.Page.{Mark}
use Rattle.tsc_trace_format.specs.declared.trace.Call.{Call}
use Rattle.tsc_trace_format.specs.declared.trace.Call.TheVariants.{Add, Batch, Get, Low}
use Rattle.tsc_trace_format.specs.declared.read.span.SpanForm.{SpanForm}
use Rattle.tsc_trace_format.specs.TraceParts.{Part}
use Rattle.tsc_trace_format.specs.TraceText.{object_of, text_of, needed, names_only, time_of, span_form, span_of_form, added_span, looked_up_span, marks_of, add_names, add_of, batch_names, batch_of, get_names, get_of, low_of, call_by_name, call_of}
use Rattle.tsc_trace_fast.specs.TokenReads.{Got, HasMembers}
use Rattle.tsc_trace_fast.specs.Kept.{KeepsCall, call_names, owner_there}
use Rattle.tsc_trace_fast.specs.declared.quick.call.CallParts.{CallParts}
use Rattle.tsc_trace_fast.proofs.Owners.{owner_kept}
use Rattle.tsc_trace_fast.proofs.TokenLemmas.{members_over}
use Rattle.tsc_trace_fast.proofs.MembersKept.{named_put, keeps_new, keeps_other, kept_some, kept_none, without, named_without}

module _ (found : Members) (parts : CallParts) (d : Data) (h : KeepsCall found parts) where
  pub call_op : (t : Bor (List ℕ)) → text_of d ≡ Ok t.now →
      KeepsCall (put (codes "op") d found)
      (record parts { op = Some t })
  call_op t is =
      record {
        named = named_put call_names _ d found refl h.named;
        op = keeps_new text_of _ d t.now found is;
        span = keeps_other span_form (codes "span") _ d found _ refl h.span;
        time = keeps_other time_of (codes "time") _ d found _ refl h.time;
        owner = keeps_other owner_there (codes "owner") _ d found _ refl h.owner;
        marks = keeps_other marks_of (codes "marks") _ d found _ refl h.marks;
        now = keeps_other time_of (codes "now") _ d found _ refl h.now;
      }

  pub call_span : (form : SpanForm) → span_form d ≡ Ok form →
      KeepsCall (put (codes "span") d found)
      (record parts { span = Some form })
  call_span form is =
      record {
        named = named_put call_names _ d found refl h.named;
        op = keeps_other text_of (codes "op") _ d found _ refl h.op;
        span = keeps_new span_form _ d form found is;
        time = keeps_other time_of (codes "time") _ d found _ refl h.time;
        owner = keeps_other owner_there (codes "owner") _ d found _ refl h.owner;
        marks = keeps_other marks_of (codes "marks") _ d found _ refl h.marks;
        now = keeps_other time_of (codes "now") _ d found _ refl h.now;
      }

  pub call_time : (at : Time) → time_of d ≡ Ok at →
      KeepsCall (put (codes "time") d found)
      (record parts { time = Some at })
  call_time at is =
      record {
        named = named_put call_names _ d found refl h.named;
        op = keeps_other text_of (codes "op") _ d found _ refl h.op;
        span = keeps_other span_form (codes "span") _ d found _ refl h.span;
        time = keeps_new time_of _ d at found is;
        owner = keeps_other owner_there (codes "owner") _ d found _ refl h.owner;
        marks = keeps_other marks_of (codes "marks") _ d found _ refl h.marks;
        now = keeps_other time_of (codes "now") _ d found _ refl h.now;
      }

  pub call_owner : (name : List ℕ) → owner_there d ≡ Ok (owner_of name) →
      KeepsCall (put (codes "owner") d found)
      (record parts { owner = Some name })
  call_owner name is =
      record {
        named = named_put call_names _ d found refl h.named;
        op = keeps_other text_of (codes "op") _ d found _ refl h.op;
        span = keeps_other span_form (codes "span") _ d found _ refl h.span;
        time = keeps_other time_of (codes "time") _ d found _ refl h.time;
        owner = keeps_new owner_there _ d (owner_of name) found is;
        marks = keeps_other marks_of (codes "marks") _ d found _ refl h.marks;
        now = keeps_other time_of (codes "now") _ d found _ refl h.now;
      }

  pub call_marks : (ms : List Mark) → marks_of d ≡ Ok ms →
      KeepsCall (put (codes "marks") d found)
      (record parts { marks = Some ms })
  call_marks ms is =
      record {
        named = named_put call_names _ d found refl h.named;
        op = keeps_other text_of (codes "op") _ d found _ refl h.op;
        span = keeps_other span_form (codes "span") _ d found _ refl h.span;
        time = keeps_other time_of (codes "time") _ d found _ refl h.time;
        owner = keeps_other owner_there (codes "owner") _ d found _ refl h.owner;
        marks = keeps_new marks_of _ d ms found is;
        now = keeps_other time_of (codes "now") _ d found _ refl h.now;
      }

  pub call_now : (at : Time) → time_of d ≡ Ok at →
      KeepsCall (put (codes "now") d found)
      (record parts { now = Some at })
  call_now at is =
      record {
        named = named_put call_names _ d found refl h.named;
        op = keeps_other text_of (codes "op") _ d found _ refl h.op;
        span = keeps_other span_form (codes "span") _ d found _ refl h.span;
        time = keeps_other time_of (codes "time") _ d found _ refl h.time;
        owner = keeps_other owner_there (codes "owner") _ d found _ refl h.owner;
        marks = keeps_other marks_of (codes "marks") _ d found _ refl h.marks;
        now = keeps_new time_of _ d at found is;
      }

-- nothing was read yet
pub no_call_yet : KeepsCall no_members
    (record { op = None; span = None; time = None; owner = None; marks = None; now = None })
no_call_yet = record {
  named = refl;
  op = refl;
  span = refl;
  time = refl;
  owner = refl;
  marks = refl;
  now = refl;
}

-- what a test for a member tells
pub not_there : {A : Type 0} (o : Option A) (b : Bool) → b ≡ is_some o → b ≡ false → o ≡ None
not_there None b is tested = refl
not_there (Some x) b is tested = let both : true ≡ false = sym is ∙ tested in cc

-- ---- the call of each kind

module _ (found : Members) (parts : CallParts) (h : KeepsCall found parts) where
  leave_span : (names : List (List ℕ)) → names_only names found ≡ true → parts.span ≡ None →
      names_only (without (codes "span") names) found ≡ true
  leave_span names named none = named_without (codes "span") names found named
      (kept_none span_form (codes "span") found parts.span h.span none)

  leave_time : (names : List (List ℕ)) → names_only names found ≡ true → parts.time ≡ None →
      names_only (without (codes "time") names) found ≡ true
  leave_time names named none = named_without (codes "time") names found named
      (kept_none time_of (codes "time") found parts.time h.time none)

  leave_owner : (names : List (List ℕ)) → names_only names found ≡ true → parts.owner ≡ None →
      names_only (without (codes "owner") names) found ≡ true
  leave_owner names named none = named_without (codes "owner") names found named
      (kept_none owner_there (codes "owner") found (option_map owner_of parts.owner) h.owner
      (ap (option_map owner_of) none))

  leave_marks : (names : List (List ℕ)) → names_only names found ≡ true → parts.marks ≡ None →
      names_only (without (codes "marks") names) found ≡ true
  leave_marks names named none = named_without (codes "marks") names found named
      (kept_none marks_of (codes "marks") found parts.marks h.marks none)

  leave_now : (names : List (List ℕ)) → names_only names found ≡ true → parts.now ≡ None →
      names_only (without (codes "now") names) found ≡ true
  leave_now names named none = named_without (codes "now") names found named
      (kept_none time_of (codes "now") found parts.now h.now none)

  pub add_is : (form : SpanForm) (at now : Time) (span : SpanView) → parts.marks ≡ None →
      parts.span ≡ Some form → parts.time ≡ Some at → parts.now ≡ Some now →
      span_of_form form ≡ Some span
      → add_of found ≡ Ok (Add span
      (record { time = at; owner = owner_of (unwrap_or parts.owner zero_bytes) }) now)
  unfolding add_of needed added_span
  add_is form at now span none s m n made =
      let names : names_only add_names found ≡ true = leave_marks call_names h.named none in
      let of_span = kept_some span_form (codes "span") found parts.span form h.span s in
      let of_time = kept_some time_of (codes "time") found parts.time at h.time m in
      let of_now = kept_some time_of (codes "now") found parts.now now h.now n in
      rw (
        names,
        of_span.1,
        of_time.1,
        of_now.1,
        of_span.2,
        of_time.2,
        of_now.2,
        owner_kept found parts.owner h.owner,
        made,
      ) refl

  pub batch_is : (marks : List Mark) (now : Time) → parts.span ≡ None → parts.time ≡ None →
      parts.owner ≡ None → parts.marks ≡ Some marks → parts.now ≡ Some now →
      batch_of found ≡ Ok (Batch marks now)
  unfolding batch_of needed
  batch_is marks now s m o ms n =
      let a = without (codes "span") call_names in
      let b = without (codes "time") a in
      let no_time : names_only b found ≡ true = leave_time a (leave_span call_names h.named s) m in
      let names : names_only batch_names found ≡ true = leave_owner b no_time o in
      let of_marks = kept_some marks_of (codes "marks") found parts.marks marks h.marks ms in
      let of_now = kept_some time_of (codes "now") found parts.now now h.now n in
      rw (names, of_marks.1, of_now.1, of_marks.2, of_now.2) refl

  pub get_is : (form : SpanForm) → parts.span ≡ Some form → parts.time ≡ None → parts.owner ≡ None →
      parts.marks ≡ None → parts.now ≡ None →
      get_of found ≡ Ok (Get (unwrap_or (span_of_form form) nothing))
  unfolding get_of needed looked_up_span
  get_is form s m o ms n =
      let a = without (codes "time") call_names in
      let b = without (codes "owner") a in
      let d = without (codes "marks") b in
      let no_owner : names_only b found ≡ true =
      leave_owner a (leave_time call_names h.named m) o in
      let no_marks : names_only d found ≡ true = leave_marks b no_owner ms in
      let names : names_only get_names found ≡ true = leave_now d no_marks n in
      let of_span = kept_some span_form (codes "span") found parts.span form h.span s in
      rw (names, of_span.1, of_span.2) refl

  pub low_is : parts.span ≡ None → parts.time ≡ None → parts.owner ≡ None → parts.marks ≡ None →
      parts.now ≡ None → low_of found ≡ Ok Low
  unfolding low_of
  low_is s m o ms n =
      let a = without (codes "span") call_names in
      let b = without (codes "time") a in
      let d = without (codes "owner") b in
      let e = without (codes "marks") d in
      let no_time : names_only b found ≡ true = leave_time a (leave_span call_names h.named s) m in
      let no_owner : names_only d found ≡ true = leave_owner b no_time o in
      let no_marks : names_only e found ≡ true = leave_marks d no_owner ms in
      let names : names_only (codes "op" ∷ []) found ≡ true = leave_now e no_marks n in
      rw names refl

  call_named : (t : Bor (List ℕ)) → parts.op ≡ Some t →
      call_of (object found) ≡ call_by_name t.now found
  unfolding call_of object_of needed
  call_named t named = let s = kept_some text_of (codes "op") found
      (option_map (λ op. op.now) parts.op) t.now h.op (ap (option_map (λ op. op.now)) named)
      in rw (s.1, s.2) refl

module _ (parts : CallParts) (t : Bor (List ℕ)) (named : parts.op ≡ Some t) where
  by_reader : (f : Members → Part Call) (o : Option Call) →
      ((found : Members) → call_by_name t.now found ≡ f found) →
      IfSome o (λ call. (found : Members) → KeepsCall found parts → f found ≡ Ok call)
      → IfSome o (λ call. (found : Members) → KeepsCall found parts →
      call_of (object found) ≡ Ok call)
  by_reader f None same h = tt
  by_reader f (Some call) same h = λ found kept. call_named found parts kept t named ∙ same found ∙
      h found kept

  pub is_add : (o : Option Call) → t.now ≡ codes "add" →
      IfSome o (λ call. (found : Members) → KeepsCall found parts → add_of found ≡ Ok call) →
      IfSome o (λ call. (found : Members) → KeepsCall found parts →
      call_of (object found) ≡ Ok call)
  unfolding call_by_name
  is_add o is h = by_reader add_of o (λ found. ap (λ name. call_by_name name found) is) h

  pub is_batch : (o : Option Call) → t.now ≡ codes "batch" →
      IfSome o (λ call. (found : Members) → KeepsCall found parts → batch_of found ≡ Ok call) →
      IfSome o (λ call. (found : Members) → KeepsCall found parts →
      call_of (object found) ≡ Ok call)
  unfolding call_by_name
  is_batch o is h = by_reader batch_of o (λ found. ap (λ name. call_by_name name found) is) h

  pub is_get : (o : Option Call) → t.now ≡ codes "get" →
      IfSome o (λ call. (found : Members) → KeepsCall found parts → get_of found ≡ Ok call) →
      IfSome o (λ call. (found : Members) → KeepsCall found parts →
      call_of (object found) ≡ Ok call)
  unfolding call_by_name
  is_get o is h = by_reader get_of o (λ found. ap (λ name. call_by_name name found) is) h

  pub is_low : (o : Option Call) → t.now ≡ codes "low" →
      IfSome o (λ call. (found : Members) → KeepsCall found parts → low_of found ≡ Ok call) →
      IfSome o (λ call. (found : Members) → KeepsCall found parts →
      call_of (object found) ≡ Ok call)
  unfolding call_by_name
  is_low o is h = by_reader low_of o (λ found. ap (λ name. call_by_name name found) is) h

pub call_got : (old all now new : List Token) (found : Members) (parts : CallParts)
    (o : Option Call) → old ≡ Token.begin_object ∷ all → HasMembers 3 all found now →
    KeepsCall found parts → read_key now ≡ Some (None, new)
    → IfSome o (λ call. (ms : Members) → KeepsCall ms parts → call_of (object ms) ≡ Ok call) →
    IfSome o (λ call. Got 4 call_of old call new)
call_got old all now new found parts None is h kept over calls = tt
call_got old all now new found parts (Some call) is h kept over calls =
    (object found, members_over 3 old all now new found is h over, calls found kept)
