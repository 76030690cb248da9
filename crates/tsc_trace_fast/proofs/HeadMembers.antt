-- The members of a head that were read, and the trace that they are.
use Rattle.std.proofs.Common.{◌≡◌, ℕ, ◌+◌, ◌^◌, Bool, true, false, List, [], ◌∷◌, length, Option, Some, None, Result, Ok, Err, IfSome, refl, sym, ap, ◌∙◌}
use Rattle.std.specs.Prelude.{suc, codes, ok_or}
use Rattle.std.specs.List.{list_all}
use Rattle.std.specs.Result.{result_ok}
use Rattle.std.proofs.lemmas.List.Elements.{All-nil, All-cons}
use Rattle.serde_json.specs.Data.{Data, object, Members, no_members, put}
use Rattle.json.specs.Token.{Token}
use Rattle.json.specs.Json.{read_key}
use Rattle.tsc_time.specs.Time.{Time}
use Rattle.tsc_cache.specs.ConfigView.{ConfigView, made_config}
use Rattle.tsc_trace_format.specs.declared.trace.Call.{Call}
use Rattle.tsc_trace_format.specs.declared.read.TraceFault.TheVariants.{Config}
use Rattle.tsc_trace_format.specs.Calls.{call_fits}
use Rattle.tsc_trace_format.specs.Lists.{fits_trace}
use Rattle.tsc_trace_format.specs.Traces.{Trace, EachFits, AllFit}
use Rattle.tsc_trace_format.specs.TraceParts.{Part, ◌>>=◌, where_holds, at_call}
use Rattle.tsc_trace_format.specs.TraceText.{array_of, object_of, needed, number_below, time_of, call_of, fitting_call, numbers_in, lists_in, lists_of, head_names, head_of, config_in, calls_of, threads_of, trace_of}
use Rattle.tsc_trace_format.proofs.Calls.{fits_threads}
use Rattle.tsc_trace_fast.specs.TokenReads.{Got, HasMembers}
use Rattle.tsc_trace_fast.specs.Kept.{KeepsHead, each, list_of, call_list, threads_in, each_fits}
use Rattle.tsc_trace_fast.specs.declared.quick.head.HeadParts.{HeadParts}
use Rattle.tsc_trace_fast.proofs.Each.{rest_ok, each_nothing, each_first, array_ok}
use Rattle.tsc_trace_fast.proofs.TokenLemmas.{members_over}
use Rattle.tsc_trace_fast.proofs.MembersKept.{named_put, keeps_new, keeps_other, kept_some, two_true}

module _ (found : Members) (parts : HeadParts) (d : Data) (h : KeepsHead found parts) where
  pub head_page_first : (n : ℕ) → number_below (2 ^ 32) d ≡ Ok n →
      KeepsHead (put (codes "page_first") d found)
      (record parts { page_first = Some n })
  head_page_first n is =
      record {
        named = named_put head_names _ d found refl h.named;
        page_first = keeps_new (number_below (2 ^ 32)) _ d n found is;
        page_max = keeps_other (number_below (2 ^ 32)) (codes "page_max") _ d found _ refl h.page_max;
        min_pages = keeps_other (number_below (2 ^ 32)) (codes "min_pages") _ d found _ refl h.min_pages;
        retention = keeps_other (number_below (2 ^ 64)) (codes "retention") _ d found _ refl h.retention;
        low_water = keeps_other time_of (codes "low_water") _ d found _ refl h.low_water;
        threads = keeps_other threads_in (codes "threads") _ d found _ refl h.threads;
      }

  pub head_page_max : (n : ℕ) → number_below (2 ^ 32) d ≡ Ok n →
      KeepsHead (put (codes "page_max") d found)
      (record parts { page_max = Some n })
  head_page_max n is =
      record {
        named = named_put head_names _ d found refl h.named;
        page_first = keeps_other (number_below (2 ^ 32)) (codes "page_first") _ d found _ refl h.page_first;
        page_max = keeps_new (number_below (2 ^ 32)) _ d n found is;
        min_pages = keeps_other (number_below (2 ^ 32)) (codes "min_pages") _ d found _ refl h.min_pages;
        retention = keeps_other (number_below (2 ^ 64)) (codes "retention") _ d found _ refl h.retention;
        low_water = keeps_other time_of (codes "low_water") _ d found _ refl h.low_water;
        threads = keeps_other threads_in (codes "threads") _ d found _ refl h.threads;
      }

  pub head_min_pages : (n : ℕ) → number_below (2 ^ 32) d ≡ Ok n →
      KeepsHead (put (codes "min_pages") d found)
      (record parts { min_pages = Some n })
  head_min_pages n is =
      record {
        named = named_put head_names _ d found refl h.named;
        page_first = keeps_other (number_below (2 ^ 32)) (codes "page_first") _ d found _ refl h.page_first;
        page_max = keeps_other (number_below (2 ^ 32)) (codes "page_max") _ d found _ refl h.page_max;
        min_pages = keeps_new (number_below (2 ^ 32)) _ d n found is;
        retention = keeps_other (number_below (2 ^ 64)) (codes "retention") _ d found _ refl h.retention;
        low_water = keeps_other time_of (codes "low_water") _ d found _ refl h.low_water;
        threads = keeps_other threads_in (codes "threads") _ d found _ refl h.threads;
      }

  pub head_retention : (n : ℕ) → number_below (2 ^ 64) d ≡ Ok n →
      KeepsHead (put (codes "retention") d found)
      (record parts { retention = Some n })
  head_retention n is =
      record {
        named = named_put head_names _ d found refl h.named;
        page_first = keeps_other (number_below (2 ^ 32)) (codes "page_first") _ d found _ refl h.page_first;
        page_max = keeps_other (number_below (2 ^ 32)) (codes "page_max") _ d found _ refl h.page_max;
        min_pages = keeps_other (number_below (2 ^ 32)) (codes "min_pages") _ d found _ refl h.min_pages;
        retention = keeps_new (number_below (2 ^ 64)) _ d n found is;
        low_water = keeps_other time_of (codes "low_water") _ d found _ refl h.low_water;
        threads = keeps_other threads_in (codes "threads") _ d found _ refl h.threads;
      }

  pub head_low_water : (at : Time) → time_of d ≡ Ok at →
      KeepsHead (put (codes "low_water") d found)
      (record parts { low_water = Some at })
  head_low_water at is =
      record {
        named = named_put head_names _ d found refl h.named;
        page_first = keeps_other (number_below (2 ^ 32)) (codes "page_first") _ d found _ refl h.page_first;
        page_max = keeps_other (number_below (2 ^ 32)) (codes "page_max") _ d found _ refl h.page_max;
        min_pages = keeps_other (number_below (2 ^ 32)) (codes "min_pages") _ d found _ refl h.min_pages;
        retention = keeps_other (number_below (2 ^ 64)) (codes "retention") _ d found _ refl h.retention;
        low_water = keeps_new time_of _ d at found is;
        threads = keeps_other threads_in (codes "threads") _ d found _ refl h.threads;
      }

  pub head_threads : (ts : List (List Call)) → threads_in d ≡ Ok ts →
      KeepsHead (put (codes "threads") d found)
      (record parts { threads = Some ts })
  head_threads ts is =
      record {
        named = named_put head_names _ d found refl h.named;
        page_first = keeps_other (number_below (2 ^ 32)) (codes "page_first") _ d found _ refl h.page_first;
        page_max = keeps_other (number_below (2 ^ 32)) (codes "page_max") _ d found _ refl h.page_max;
        min_pages = keeps_other (number_below (2 ^ 32)) (codes "min_pages") _ d found _ refl h.min_pages;
        retention = keeps_other (number_below (2 ^ 64)) (codes "retention") _ d found _ refl h.retention;
        low_water = keeps_other time_of (codes "low_water") _ d found _ refl h.low_water;
        threads = keeps_new threads_in _ d ts found is;
      }

-- nothing was read yet
pub no_head_yet : KeepsHead no_members
    (record {
      page_first = None;
      page_max = None;
      min_pages = None;
      retention = None;
      low_water = None;
      threads = None;
    })
no_head_yet = record {
  named = refl;
  page_first = refl;
  page_max = refl;
  min_pages = refl;
  retention = refl;
  low_water = refl;
  threads = refl;
}

-- ---- calls that fit

-- A call that fits is read with its number too.
one_fits : (config : ConfigView) (d : Data) (call : Call) → call_of d ≡ Ok call →
    call_fits config call ≡ true → (first : ℕ) → at_call first (fitting_call config d) ≡ Ok call
unfolding fitting_call
one_fits config d call h fit first = rw (h, fit) refl

-- so are the calls of a list
calls_are : (config : ConfigView) (ds : List Data) (calls : List Call) →
    each call_of ds ≡ Ok calls → list_all (call_fits config) calls ≡ true → (first : ℕ) →
    calls_of config first ds ≡ Ok calls
unfolding calls_of
calls_are config [] calls h fit first = ap Ok (each_nothing call_of calls h)
calls_are config (d ∷ ds) calls h fit first =
    let s = each_first call_of d ds calls h in
    let fits = two_true (call_fits config s.0) (list_all (call_fits config) s.1)
    (ap (list_all (call_fits config)) (sym s.4) ∙ fit) in
    rest_ok (at_call first (fitting_call config d)) (calls_of config (suc first) ds) s.0 s.1
    calls (one_fits config d s.0 s.2 fits.0 first)
    (calls_are config ds s.1 s.3 fits.1 (suc first)) s.4

-- and those of lists
rows_are : (config : ConfigView) (ds : List Data) (threads : List (List Call)) →
    each call_list ds ≡ Ok threads → each_fits config threads ≡ true
    → (rows : List (List Data)) × (lists_in ds ≡ Ok rows) ×
    ((first : ℕ) → threads_of config first rows ≡ Ok threads)
unfolding lists_in threads_of
rows_are config [] threads h fit = ([], refl, λ first. ap Ok (each_nothing call_list threads h))
rows_are config (d ∷ ds) threads h fit =
    let s = each_first call_list d ds threads h in
    let fits = two_true (list_all (call_fits config) s.0) (each_fits config s.1)
    (ap (each_fits config) (sym s.4) ∙ fit) in
    let row = array_ok call_of d s.0 s.2 in
    let others = rows_are config ds s.1 s.3 fits.1 in (
      row.0 ∷ others.0,
      rest_ok (array_of d) (lists_in ds) row.0 others.0 (row.0 ∷ others.0) row.1 others.1 refl,
      λ first. rest_ok (calls_of config first row.0)
          (threads_of config (first + length row.0) others.0) s.0 s.1 threads
          (calls_are config row.0 s.0 row.2 fits.0 first) (others.2 (first + length row.0)) s.4,
    )

-- the lists of what should be calls that were kept
lists_kept : (config : ConfigView) (d : Data) (threads : List (List Call)) →
    threads_in d ≡ Ok threads → each_fits config threads ≡ true
    → (rows : List (List Data)) × (lists_of d ≡ Ok rows) × (fits_trace rows ≡ true) ×
    (threads_of config 1 rows ≡ Ok threads)
unfolding lists_of
lists_kept config d threads h fit =
    let kept = by (list_of call_list d) h in
    let items = array_ok call_list d threads kept.0 in
    let rows = rows_are config items.0 threads items.2 fit in (
      rows.0,
      ap (λ r. r >>= lists_in) items.1 ∙ rows.1,
      fits_threads config 1 rows.0 threads (rows.2 1) kept.1,
      rows.2 1,
    )
  where
    fit_ok : (ts : List (List Call)) (b : Bool) → where_holds Config b ts ≡ Ok threads →
        (ts ≡ threads) × (b ≡ true)
    fit_ok ts true e = (cc, refl)
    fit_ok ts false e = absurd cc

    by : (r : Part (List (List Call))) →
        (at_call 0 r >>= λ ts. where_holds Config (fits_trace ts) ts) ≡ Ok threads →
        (r ≡ Ok threads) × (fits_trace threads ≡ true)
    by (Ok ts) e = let f = fit_ok ts (fits_trace ts) e in (ap Ok f.0, ap fits_trace (sym f.0) ∙ f.1)
    by (Err f) e = absurd cc

config_is : (page_first page_max min_pages retention : ℕ) (low_water : Time)
    (config : ConfigView) → made_config page_first page_max min_pages retention low_water ≡
    Ok config
    → config_in (record {
      page_first = page_first;
      page_max = page_max;
      min_pages = min_pages;
      retention = retention;
      low_water = low_water;
    }) ≡ Ok config
unfolding config_in
config_is page_first page_max min_pages retention low_water config is =
    ap (λ r. ok_or (result_ok r) Config) is

-- what was asked of a result, and was there
pub asked_ok : {X E : Type 0} (r : Result X E) (o : Option X) (x : X) → o ≡ result_ok r →
    o ≡ Some x → r ≡ Ok x
asked_ok (Ok y) o x is there = let both : Some y ≡ Some x = sym is ∙ there in cc
asked_ok (Err e) o x is there = let both : None ≡ Some x = sym is ∙ there in absurd cc

-- the trace of an object of which these members are kept
pub trace_is : (found : Members) (parts : HeadParts) (p q m r : ℕ) (low : Time)
    (config : ConfigView) (ts : List (List Call)) → KeepsHead found parts →
    parts.page_first ≡ Some p → parts.page_max ≡ Some q → parts.min_pages ≡ Some m →
    parts.retention ≡ Some r
    → parts.low_water ≡ Some low → parts.threads ≡ Some ts → made_config p q m r low ≡ Ok config →
    each_fits config ts ≡ true →
    trace_of (object found) ≡ Ok (record { config = config; threads = ts })
unfolding trace_of head_of object_of needed numbers_in
trace_is found parts p q m r low config ts h is_p is_q is_m is_r is_low is_ts made fit =
    let a = kept_some (number_below (2 ^ 32)) (codes "page_first") found parts.page_first p
    h.page_first is_p in
    let b = kept_some (number_below (2 ^ 32)) (codes "page_max") found parts.page_max q h.page_max
    is_q in
    let c = kept_some (number_below (2 ^ 32)) (codes "min_pages") found parts.min_pages m
    h.min_pages is_m in
    let e = kept_some (number_below (2 ^ 64)) (codes "retention") found parts.retention r
    h.retention is_r in
    let f = kept_some time_of (codes "low_water") found parts.low_water low h.low_water is_low in
    let g = kept_some threads_in (codes "threads") found parts.threads ts h.threads is_ts in
    let rows = lists_kept config g.0 ts g.2 fit in
    rw (
      h.named,
      a.1,
      b.1,
      c.1,
      e.1,
      f.1,
      g.1,
      a.2,
      b.2,
      c.2,
      e.2,
      f.2,
      rows.1,
      config_is p q m r low config made,
      rows.2,
      rows.3,
    ) refl

pub trace_got : (old all now new : List Token) (found : Members) (parts : HeadParts)
    (o : Option Trace) → old ≡ Token.begin_object ∷ all → HasMembers 6 all found now →
    KeepsHead found parts → read_key now ≡ Some (None, new)
    → IfSome o (λ trace. (ms : Members) → KeepsHead ms parts → trace_of (object ms) ≡ Ok trace) →
    IfSome o (λ trace. Got 7 trace_of old trace new)
trace_got old all now new found parts None is h kept over traces = tt
trace_got old all now new found parts (Some trace) is h kept over traces =
    (object found, members_over 6 old all now new found is h over, traces found kept)

-- ---- what a trace says of its calls

list_holds : (config : ConfigView) (calls : List Call) →
    list_all (call_fits config) calls ≡ true → EachFits config calls
list_holds config [] h = All-nil (λ call. call_fits config call ≡ true)
list_holds config (call ∷ calls) h = let two =
    two_true _ _ h in All-cons (λ call. call_fits config call ≡ true) call calls two.0
    (list_holds config calls two.1)

-- that each was tested
pub all_hold : (config : ConfigView) (threads : List (List Call)) →
    each_fits config threads ≡ true → AllFit config threads
all_hold config [] h = All-nil (λ calls. EachFits config calls)
all_hold config (calls ∷ threads) h = let two =
    two_true _ _ h in All-cons (λ calls. EachFits config calls) calls threads
    (list_holds config calls two.0) (all_hold config threads two.1)
