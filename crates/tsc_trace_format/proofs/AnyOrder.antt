-- The order of members makes no difference, at any depth.
use Rattle.std.proofs.Common.{◌≡◌, ◌∙◌, refl, sym, ap, subst, ℕ, ◌+◌, Bool, true, false, ◌&&◌, List, length, Option, Some, None, Result, Ok, Err}
use Rattle.std.specs.Prelude.{codes, suc, ◌∷◌, [], nat_le, ok_or}
use Rattle.std.specs.List.{list_any, sum_by}
use Rattle.std.specs.Str.{bytes_eq}
use Rattle.std.specs.declared.cmp.Ordering.{Ordering}
use Rattle.std.specs.declared.cmp.Ordering.TheVariants.{Less, Equal, Greater}
use Rattle.std.specs.Ordering.{nat_cmp, match_ordering}
use Rattle.std.specs.Cmp.Lexicographic.{slice_cmp}
use Rattle.std.proofs.lemmas.Cmp.{nat_list_cmp_total, tied_itself}
use Rattle.std.proofs.lemmas.List.Sums.{sum_by-cons}
use Rattle.tsc_span.proofs.CutsTotal.{key_cmp-same}
use Rattle.tsc_time.specs.Time.{Time}
use Rattle.tsc_time.specs.ValueView.{Owner}
use Rattle.tsc_span.specs.Span.{SpanView}
use Rattle.tsc_cache.specs.ConfigView.{ConfigView}
use Rattle.serde_json.specs.Data.{Data, object, Items, Members, no_members, member}
use Rattle.serde_json.specs.Find.{get_member}
use Rattle.tsc_page_model.specs.Page.{Mark}
use Rattle.tsc_trace_format.specs.Limits.{most_marks}
use Rattle.tsc_trace_format.specs.Lists.{fits_trace}
use Rattle.tsc_trace_format.specs.MemberOrder.{IsReordered, itself, arrays, objects, AreReordered, no_more, one_more, FindsReordered, neither, both_find}
use Rattle.tsc_trace_format.specs.TraceText.{listed, array_of, object_of, text_of, unsigned_of, number_below, names_only, only_named, needed, needed_as, two_of, time_in_range, time_of, key_of, owner_member, ends_of, excluded_of, start_form, start_to_end_form, range_form, onward_form, form_of, span_names, form_in, span_form, added_span, looked_up_span, add_names, add_in, add_of, mark_names, mark_in, mark_of, marks_in, few_of, marks_of, batch_names, batch_in, batch_of, get_names, get_in, get_of, low_of, call_by_name, call_of, fitting_call, numbers_in, lists_in, lists_of, head_names, head_in, head_of, config_in, calls_of, threads_of, trace_of, json_of, trace_of_bytes}
use Rattle.tsc_trace_format.specs.declared.read.head.Numbers.{Numbers}
use Rattle.tsc_trace_format.specs.declared.read.TraceFault.{TraceFault}
use Rattle.tsc_trace_format.specs.declared.read.TraceFault.TheVariants.{NotJson, Config}
use Rattle.tsc_trace_format.specs.declared.read.part.PartFault.{PartFault}
use Rattle.tsc_trace_format.specs.declared.read.part.PartFault.TheVariants.{Shape}
use Rattle.tsc_trace_format.specs.declared.trace.Call.{Call}
use Rattle.tsc_trace_format.specs.declared.trace.Call.TheVariants.{Add, Batch, Get, Low}
use Rattle.tsc_trace_format.specs.Traces.{Trace}
use Rattle.tsc_trace_format.specs.TraceParts.{Part, both, lesser_fault, ◌>>=◌, where_holds, at_call}
use Rattle.tsc_trace_format.specs.TraceLaws.{ReadsInAnyOrder}

-- all members that a name finds are named in the list
abbrev pub FindsOnly : List (List ℕ) → Members → Type 0
FindsOnly names ms = (k : List ℕ) (d : Data) → get_member k ms ≡ Some d →
    list_any (bytes_eq k) names ≡ true

parts : (a b : Bool) → a && b ≡ true → (a ≡ true) × (b ≡ true)
parts true b h = (refl, h)
parts false b h = absurd cc

-- what a name finds in a whole object, where it finds only what is named in the rest
found_in : (o : Ordering) (names : List (List ℕ)) (k l : List ℕ) (e d : Data) (rest : Option Data) →
    slice_cmp nat_cmp k l ≡ o → list_any (bytes_eq l) names ≡ true
    → (rest ≡ Some d → list_any (bytes_eq k) names ≡ true) →
    match_ordering o rest (Some e) rest ≡ Some d → list_any (bytes_eq k) names ≡ true
found_in Less names k l e d rest is first later found = later found
found_in Equal names k l e d rest is first later found = rw (key_cmp-same k l is) first
found_in Greater names k l e d rest is first later found = later found

finds_only : (names : List (List ℕ)) (ms : Members) → names_only names ms ≡ true →
    FindsOnly names ms
finds_only names no_members h k d found = absurd cc
finds_only names (member l e ms) h k d found =
    let both = parts _ _ h in
    found_in (slice_cmp nat_cmp k l) names k l e d (get_member k ms) refl both.0
    (finds_only names ms both.1 k d) found

-- a name that finds something in the rest finds something in the whole
still_found : (k l : List ℕ) (e d : Data) (ms : Members) → get_member k ms ≡ Some d →
    (x : Data) × (get_member k (member l e ms) ≡ Some x)
still_found k l e d ms found = by (slice_cmp nat_cmp k l)
  where
    by : (o : Ordering) → (x : Data) ×
        (match_ordering o (get_member k ms) (Some e) (get_member k ms) ≡ Some x)
    by Less = (d, found)
    by Equal = (e, refl)
    by Greater = (d, found)

pub named_itself : (l : List ℕ) (e : Data) (ms : Members) → get_member l (member l e ms) ≡ Some e
named_itself l e ms = rw (tied_itself nat_list_cmp_total l) refl

names_only-from : (names : List (List ℕ)) (ms : Members) → FindsOnly names ms →
    names_only names ms ≡ true
names_only-from names no_members only = refl
names_only-from names (member l e ms) only =
    rw (
      only l e (named_itself l e ms),
      names_only-from names ms (λ k d found. let there = still_found k l e d ms found in only k
          there.0 there.1),
    ) refl

same_tests : (a b : Bool) → (a ≡ true → b ≡ true) → (b ≡ true → a ≡ true) → a ≡ b
same_tests true b f g = sym (f refl)
same_tests false true f g = g refl
same_tests false false f g = refl

-- ---- what names find

-- each name finds the same in two objects, but for the order of members
abbrev pub FindSame : Members → Members → Type 0
FindSame ms ns = (name : List ℕ) → FindsReordered (get_member name ms) (get_member name ns)

there : {a b : Option Data} → FindsReordered a b → (d : Data) → a ≡ Some d →
    (e : Data) × (b ≡ Some e)
there neither d is = absurd cc
there (both_find x y same) d is = (y, refl)

back : {a b : Option Data} → FindsReordered a b → (e : Data) → b ≡ Some e →
    (d : Data) × (a ≡ Some d)
back neither e is = absurd cc
back (both_find x y same) e is = (x, refl)

only_these : (names : List (List ℕ)) (ms ns : Members) → FindSame ms ns →
    names_only names ms ≡ names_only names ns
only_these names ms ns finds =
    same_tests _ _
    (λ h. names_only-from names ns
    (λ k e is. let d = back (finds k) e is in finds_only names ms h k d.0 d.1))
    (λ h. names_only-from names ms
    (λ k d is. let e = there (finds k) d is in finds_only names ns h k e.0 e.1))

-- what comes of a member that has to be there
same_found : {A : Type 0} (f g : Data → Part A) → ((d e : Data) → IsReordered d e → f d ≡ g e) →
    {a b : Option Data} → FindsReordered a b → (ok_or a Shape >>= f) ≡ (ok_or b Shape >>= g)
same_found f g reads neither = refl
same_found f g reads (both_find d e same) = reads d e same

same_needed : {A : Type 0} (name : List ℕ) (f g : Data → Part A) (ms ns : Members) →
    ((d e : Data) → IsReordered d e → f d ≡ g e) → FindSame ms ns →
    (needed name ms >>= f) ≡ (needed name ns >>= g)
unfolding needed
same_needed name f g ms ns reads finds = same_found f g reads (finds name)

same_if_named : {A : Type 0} (fault : PartFault) (b c : Bool) (ms ns : Members)
    (f : Members → Part A) → b ≡ c → f ms ≡ f ns →
    (where_holds fault b ms >>= f) ≡ (where_holds fault c ns >>= f)
same_if_named fault true true ms ns f e same = same
same_if_named fault true false ms ns f e same = absurd cc
same_if_named fault false true ms ns f e same = absurd cc
same_if_named fault false false ms ns f e same = refl

-- what comes of objects that may have no other members than these
after_names : {A : Type 0} (names : List (List ℕ)) (ms ns : Members) (f : Members → Part A) →
    FindSame ms ns → f ms ≡ f ns → (only_named names ms >>= f) ≡ (only_named names ns >>= f)
after_names names ms ns f finds then =
    same_if_named Shape _ _ ms ns f (only_these names ms ns finds) then

-- ---- texts, numbers and times

same_text : (d e : Data) → IsReordered d e → text_of d ≡ text_of e
unfolding text_of
same_text d e itself = refl
same_text d e (arrays same) = refl
same_text d e (objects finds) = refl

same_unsigned : (d e : Data) → IsReordered d e → unsigned_of d ≡ unsigned_of e
unfolding unsigned_of
same_unsigned d e itself = refl
same_unsigned d e (arrays same) = refl
same_unsigned d e (objects finds) = refl

same_below : (limit : ℕ) (d e : Data) → IsReordered d e →
    number_below limit d ≡ number_below limit e
unfolding number_below
same_below limit d e same = rw (same_unsigned d e same) refl

-- the lists of items
pub data RowReordered : List Data → List Data → Type 0 where
  row_end : RowReordered [] []
  row_more : (d e : Data) (ds es : List Data) → IsReordered d e → RowReordered ds es →
      RowReordered (d ∷ ds) (e ∷ es)

row_itself : (ds : List Data) → RowReordered ds ds
row_itself [] = row_end
row_itself (d ∷ ds) = row_more d d ds ds itself (row_itself ds)

row_of : (ds es : Items) → AreReordered ds es → RowReordered (listed ds) (listed es)
row_of ds es no_more = row_end
row_of ds es (one_more d e ds' es' same rest) =
    row_more d e (listed ds') (listed es') same (row_of ds' es' rest)

-- two parts with values that stand so to one another, or with one fault
pub data PartsAs {A : Type 0} (R : A → A → Type 0) : Part A → Part A → Type 0 where
  ok_both : (x y : A) → R x y → PartsAs R (Ok x) (Ok y)
  err_both : (fault : PartFault) → PartsAs R (Err fault) (Err fault)

part_itself : (p : Part (List Data)) → PartsAs RowReordered p p
part_itself (Ok ds) = ok_both ds ds (row_itself ds)
part_itself (Err fault) = err_both fault

same_array : (d e : Data) → IsReordered d e → PartsAs RowReordered (array_of d) (array_of e)
unfolding array_of
same_array d e itself = part_itself (array_of d)
same_array d e (arrays {ds} {es} same) = ok_both (listed ds) (listed es) (row_of ds es same)
same_array d e (objects finds) = err_both Shape

-- what comes of such parts
then_same : {A B : Type 0} (R : A → A → Type 0) (f : A → Part B) → ((x y : A) → R x y → f x ≡ f y) →
    {p q : Part A} → PartsAs R p q → (p >>= f) ≡ (q >>= f)
then_same R f reads (ok_both x y r) = reads x y r
then_same R f reads (err_both fault) = refl

then_parts : {A B : Type 0} (R : A → A → Type 0) (S : B → B → Type 0) (f : A → Part B) →
    ((x y : A) → R x y → PartsAs S (f x) (f y)) → {p q : Part A} → PartsAs R p q →
    PartsAs S (p >>= f) (q >>= f)
then_parts R S f reads (ok_both x y r) = reads x y r
then_parts R S f reads (err_both fault) = err_both fault

-- the time of a list of two numbers
abbrev time_in : List Data → Part Time
time_in ds = two_of ds >>= λ two. both (unsigned_of two.0) (unsigned_of two.1) >>= λ numbers.
    time_in_range numbers.0 numbers.1

same_time_in : (ds es : List Data) → RowReordered ds es → time_in ds ≡ time_in es
unfolding two_of
same_time_in ds es row_end = refl
same_time_in ds es (row_more d e ds' es' same row_end) = refl
same_time_in ds es (row_more d e ds' es' same (row_more d2 e2 ds2 es2 same2 row_end)) =
    rw (same_unsigned d e same, same_unsigned d2 e2 same2) refl
same_time_in ds es (row_more d e ds' es' same
    (row_more d2 e2 ds2 es2 same2 (row_more d3 e3 ds3 es3 same3 rest))) = refl

same_time : (d e : Data) → IsReordered d e → time_of d ≡ time_of e
unfolding time_of
same_time d e same = then_same RowReordered time_in same_time_in (same_array d e same)

-- ---- keys, owners and spans

same_key : (d e : Data) → IsReordered d e → key_of d ≡ key_of e
unfolding key_of
same_key d e same = rw (same_text d e same) refl

same_ends : (d e : Data) → IsReordered d e → ends_of d ≡ ends_of e
unfolding ends_of
same_ends d e same = rw (same_text d e same) refl

same_excluded : (d e : Data) → IsReordered d e → excluded_of d ≡ excluded_of e
unfolding excluded_of
same_excluded d e same = rw (same_text d e same) refl

same_owner_of : (d e : Data) → IsReordered d e → owner_member (Some d) ≡ owner_member (Some e)
unfolding owner_member
same_owner_of d e itself = refl
same_owner_of d e (arrays same) = refl
same_owner_of d e (objects finds) = refl

same_owner : {a b : Option Data} → FindsReordered a b → owner_member a ≡ owner_member b
same_owner neither = refl
same_owner (both_find d e same) = same_owner_of d e same

same_form : (start start' : Data) → IsReordered start start' → {a a' b b' c c' : Option Data} →
    FindsReordered a a' → FindsReordered b b' → FindsReordered c c' →
    form_of start a b c ≡ form_of start' a' b' c'
unfolding form_of start_form start_to_end_form range_form onward_form
same_form start start' same neither neither neither = rw (same_key start start' same) refl
same_form start start' same (both_find d e end) neither neither =
    rw (same_key start start' same, same_key d e end) refl
same_form start start' same (both_find d e end) (both_find f g ends) neither =
    rw (same_key start start' same, same_key d e end, same_ends f g ends) refl
same_form start start' same neither neither (both_find d e side) =
    rw (same_key start start' same, same_excluded d e side) refl
same_form start start' same neither (both_find f g ends) neither = refl
same_form start start' same neither (both_find f g ends) (both_find d e side) = refl
same_form start start' same (both_find d e end) neither (both_find f g side) = refl
same_form start start' same (both_find d e end) (both_find f g ends) (both_find h i side) = refl

same_form_in : (ms ns : Members) → FindSame ms ns → form_in ms ≡ form_in ns
same_form_in ms ns finds = same_needed (codes "start") _ _ ms ns
    (λ d e same. same_form d e same (finds (codes "end")) (finds (codes "ends"))
    (finds (codes "onward"))) finds

same_span : (d e : Data) → IsReordered d e → span_form d ≡ span_form e
unfolding span_form object_of
same_span d e itself = refl
same_span d e (arrays same) = refl
same_span d e (objects {ms} {ns} finds) =
    after_names span_names ms ns form_in finds (same_form_in ms ns finds)

same_added : (d e : Data) → IsReordered d e → added_span d ≡ added_span e
unfolding added_span
same_added d e same = rw (same_span d e same) refl

same_looked_up : (d e : Data) → IsReordered d e → looked_up_span d ≡ looked_up_span e
unfolding looked_up_span
same_looked_up d e same = rw (same_span d e same) refl

-- ---- calls

-- an Add of its parts
abbrev add_with : Part SpanView → Part Time → Part (Option Owner) → Part Time → Part Call
add_with span time owner now = both (both span time) (both owner now) >>= λ parts. Ok
    (Add parts.0.0 (record { time = parts.0.1; owner = parts.1.0 }) parts.1.1)

same_add_with : (a b : Part SpanView) (c d : Part Time) (e f : Part (Option Owner))
    (g h : Part Time) → a ≡ b → c ≡ d → e ≡ f → g ≡ h → add_with a c e g ≡ add_with b d f h
same_add_with a b c d e f g h p q r s = rw (p, q, r, s) refl

same_add : (ms ns : Members) → FindSame ms ns → add_of ms ≡ add_of ns
unfolding add_of
same_add ms ns finds =
    after_names add_names ms ns add_in finds
    (same_add_with _ _ _ _ _ _ _ _
    (same_needed (codes "span") added_span added_span ms ns same_added finds)
    (same_needed (codes "time") time_of time_of ms ns same_time finds)
    (same_owner (finds (codes "owner")))
    (same_needed (codes "now") time_of time_of ms ns same_time finds))

-- a mark of its parts
abbrev mark_with : Part SpanView → Part Time → Part (Option Owner) → Part Mark
mark_with span time owner = both (both span time) owner >>= λ parts. Ok
    (record { span = parts.0.0; value = record { time = parts.0.1; owner = parts.1 } })

same_mark_with : (a b : Part SpanView) (c d : Part Time) (e f : Part (Option Owner)) → a ≡ b →
    c ≡ d → e ≡ f → mark_with a c e ≡ mark_with b d f
same_mark_with a b c d e f p q r = rw (p, q, r) refl

same_mark : (d e : Data) → IsReordered d e → mark_of d ≡ mark_of e
unfolding mark_of object_of
same_mark d e itself = refl
same_mark d e (arrays same) = refl
same_mark d e (objects {ms} {ns} finds) =
    after_names mark_names ms ns mark_in finds
    (same_mark_with _ _ _ _ _ _ (same_needed (codes "span") added_span added_span ms ns same_added
    finds) (same_needed (codes "time") time_of time_of ms ns same_time finds)
    (same_owner (finds (codes "owner"))))

same_marks_in : (ds es : List Data) → RowReordered ds es → marks_in ds ≡ marks_in es
unfolding marks_in
same_marks_in ds es row_end = refl
same_marks_in ds es (row_more d e ds' es' same rest) =
    rw (same_mark d e same, same_marks_in ds' es' rest) refl

same_length : (ds es : List Data) → RowReordered ds es → length ds ≡ length es
same_length ds es row_end = refl
same_length ds es (row_more d e ds' es' same rest) = ap suc (same_length ds' es' rest)

same_if_few : (b c : Bool) (ds es : List Data) → b ≡ c → marks_in ds ≡ marks_in es →
    (where_holds Shape b ds >>= marks_in) ≡ (where_holds Shape c es >>= marks_in)
same_if_few true true ds es e same = same
same_if_few true false ds es e same = absurd cc
same_if_few false true ds es e same = absurd cc
same_if_few false false ds es e same = refl

-- the marks of a list, where they are not too many
abbrev few_marks : List Data → Part (List Mark)
few_marks ds = few_of ds >>= marks_in

same_few_marks : (ds es : List Data) → RowReordered ds es → few_marks ds ≡ few_marks es
unfolding few_of
same_few_marks ds es same = same_if_few _ _ ds es
    (ap (λ n. nat_le n most_marks) (same_length ds es same)) (same_marks_in ds es same)

same_marks : (d e : Data) → IsReordered d e → marks_of d ≡ marks_of e
unfolding marks_of
same_marks d e same = then_same RowReordered few_marks same_few_marks (same_array d e same)

-- a batch of its parts
abbrev batch_with : Part (List Mark) → Part Time → Part Call
batch_with marks now = both marks now >>= λ parts. Ok (Batch parts.0 parts.1)

same_batch_with : (a b : Part (List Mark)) (c d : Part Time) → a ≡ b → c ≡ d →
    batch_with a c ≡ batch_with b d
same_batch_with a b c d p q = rw (p, q) refl

same_batch : (ms ns : Members) → FindSame ms ns → batch_of ms ≡ batch_of ns
unfolding batch_of
same_batch ms ns finds =
    after_names batch_names ms ns batch_in finds
    (same_batch_with _ _ _ _ (same_needed (codes "marks") marks_of marks_of ms ns same_marks finds)
    (same_needed (codes "now") time_of time_of ms ns same_time finds))

same_get_in : (ms ns : Members) → FindSame ms ns → get_in ms ≡ get_in ns
same_get_in ms ns finds = ap (λ (span : Part SpanView). span >>= λ span. Ok (Get span))
    (same_needed (codes "span") looked_up_span looked_up_span ms ns same_looked_up finds)

same_get : (ms ns : Members) → FindSame ms ns → get_of ms ≡ get_of ns
unfolding get_of
same_get ms ns finds = after_names get_names ms ns get_in finds (same_get_in ms ns finds)

same_low : (ms ns : Members) → FindSame ms ns → low_of ms ≡ low_of ns
unfolding low_of
same_low ms ns finds = after_names (codes "op" ∷ []) ms ns (λ (ms : Members). Ok Low) finds refl

same_named : (op : List ℕ) (ms ns : Members) → FindSame ms ns →
    call_by_name op ms ≡ call_by_name op ns
unfolding call_by_name
same_named op ms ns finds = rw (
  same_add ms ns finds,
  same_batch ms ns finds,
  same_get ms ns finds,
  same_low ms ns finds,
) refl

then_each : {A B : Type 0} (p q : Part A) (f g : A → Part B) → p ≡ q → ((x : A) → f x ≡ g x) →
    (p >>= f) ≡ (q >>= g)
then_each (Ok x) (Ok y) f g is each = let here : x ≡ y = cc in ap f here ∙ each y
then_each (Ok x) (Err fault) f g is each = absurd cc
then_each (Err fault) (Ok y) f g is each = absurd cc
then_each (Err fault) (Err other) f g is each = cc

same_call : (d e : Data) → IsReordered d e → call_of d ≡ call_of e
unfolding call_of object_of
same_call d e itself = refl
same_call d e (arrays same) = refl
same_call d e (objects {ms} {ns} finds) =
    then_each _ _ _ _ (same_needed (codes "op") text_of text_of ms ns same_text finds)
    (λ op. same_named op ms ns finds)

same_fitting : (config : ConfigView) (d e : Data) → IsReordered d e →
    fitting_call config d ≡ fitting_call config e
unfolding fitting_call
same_fitting config d e same = rw (same_call d e same) refl

same_calls : (config : ConfigView) (first : ℕ) (ds es : List Data) → RowReordered ds es →
    calls_of config first ds ≡ calls_of config first es
unfolding calls_of
same_calls config first ds es row_end = refl
same_calls config first ds es (row_more d e ds' es' same rest) =
    rw (same_fitting config d e same, same_calls config (suc first) ds' es' rest) refl

-- ---- the head, and all lists

pub data RowsReordered : List (List Data) → List (List Data) → Type 0 where
  rows_end : RowsReordered [] []
  rows_more : (ds es : List Data) (ls ks : List (List Data)) → RowReordered ds es →
      RowsReordered ls ks → RowsReordered (ds ∷ ls) (es ∷ ks)

same_count : (ls ks : List (List Data)) → RowsReordered ls ks → length ls ≡ length ks
same_count ls ks rows_end = refl
same_count ls ks (rows_more ds es ls' ks' same rest) = ap suc (same_count ls' ks' rest)

same_sum : (ls ks : List (List Data)) → RowsReordered ls ks → sum_by length ls ≡ sum_by length ks
same_sum ls ks rows_end = refl
same_sum ls ks (rows_more ds es ls' ks' same rest) =
    rw (
      sum_by-cons length ds ls',
      sum_by-cons length es ks',
      same_length ds es same,
      same_sum ls' ks' rest,
    ) refl

same_fits : (ls ks : List (List Data)) → RowsReordered ls ks → fits_trace ls ≡ fits_trace ks
same_fits ls ks same = rw (same_count ls ks same, same_sum ls ks same) refl

same_threads : (config : ConfigView) (first : ℕ) (ls ks : List (List Data)) → RowsReordered ls ks →
    threads_of config first ls ≡ threads_of config first ks
unfolding threads_of
same_threads config first ls ks rows_end = refl
same_threads config first ls ks (rows_more ds es ls' ks' same rest) =
    rw (
      same_calls config first ds es same,
      same_length ds es same,
      same_threads config (first + length es) ls' ks' rest,
    ) refl

same_lists_in : (ds es : List Data) → RowReordered ds es →
    PartsAs RowsReordered (lists_in ds) (lists_in es)
unfolding lists_in
same_lists_in ds es row_end = ok_both [] [] rows_end
same_lists_in ds es (row_more d e ds' es' same rest) =
    with_one (same_array d e same) (same_lists_in ds' es' rest)
  where
    with_one : {p q : Part (List Data)} {ps qs : Part (List (List Data))} →
        PartsAs RowReordered p q → PartsAs RowsReordered ps qs →
        PartsAs RowsReordered (p >>= λ x. ps >>= λ xs. Ok (x ∷ xs))
        (q >>= λ x. qs >>= λ xs. Ok (x ∷ xs))
    with_one (ok_both x y r) (ok_both xs ys rs) =
        ok_both (x ∷ xs) (y ∷ ys) (rows_more x y xs ys r rs)
    with_one (ok_both x y r) (err_both fault) = err_both fault
    with_one (err_both fault) rest = err_both fault

same_lists : (d e : Data) → IsReordered d e → PartsAs RowsReordered (lists_of d) (lists_of e)
unfolding lists_of
same_lists d e same = then_parts RowReordered RowsReordered lists_in same_lists_in
    (same_array d e same)

same_found_lists : {a b : Option Data} → FindsReordered a b →
    PartsAs RowsReordered (ok_or a Shape >>= lists_of) (ok_or b Shape >>= lists_of)
same_found_lists neither = err_both Shape
same_found_lists (both_find d e same) = same_lists d e same

same_needed_lists : (ms ns : Members) → FindSame ms ns →
    PartsAs RowsReordered (needed_as (codes "threads") lists_of ms)
    (needed_as (codes "threads") lists_of ns)
unfolding needed
same_needed_lists ms ns finds = same_found_lists (finds (codes "threads"))

-- numbers of a head
abbrev numbers_with : Part ℕ → Part ℕ → Part ℕ → Part ℕ → Part Time → Part Numbers
numbers_with page_first page_max min_pages retention low_water =
    both (both (both page_first page_max) min_pages) (both retention low_water)
    >>= λ parts. Ok (record {
      page_first = parts.0.0.0;
      page_max = parts.0.0.1;
      min_pages = parts.0.1;
      retention = parts.1.0;
      low_water = parts.1.1;
    })

same_numbers_with : (a b c d e f g h : Part ℕ) (k l : Part Time) → a ≡ b → c ≡ d → e ≡ f → g ≡ h →
    k ≡ l → numbers_with a c e g k ≡ numbers_with b d f h l
same_numbers_with a b c d e f g h k l p q r s t = rw (p, q, r, s, t) refl

same_numbers : (ms ns : Members) → FindSame ms ns → numbers_in ms ≡ numbers_in ns
unfolding numbers_in
same_numbers ms ns finds =
    same_numbers_with _ _ _ _ _ _ _ _ _ _
    (same_needed (codes "page_first") _ _ ms ns (same_below _) finds)
    (same_needed (codes "page_max") _ _ ms ns (same_below _) finds)
    (same_needed (codes "min_pages") _ _ ms ns (same_below _) finds)
    (same_needed (codes "retention") _ _ ms ns (same_below _) finds)
    (same_needed (codes "low_water") time_of time_of ms ns same_time finds)

-- heads with the same numbers, and lists that are the same but for that order
abbrev pub SameHead : Numbers × List (List Data) → Numbers × List (List Data) → Type 0
SameHead a b = (a.0 ≡ b.0) × RowsReordered a.1 b.1

beside : (a b : Part Numbers) → a ≡ b → {p q : Part (List (List Data))} →
    PartsAs RowsReordered p q → PartsAs SameHead (both a p) (both b q)
beside (Ok m) (Ok n) is (ok_both ls ks r) =
    ok_both (m, ls) (n, ks) (let here : m ≡ n = cc in here, r)
beside (Ok m) (Ok n) is (err_both fault) = err_both fault
beside (Ok m) (Err g) is parts = absurd cc
beside (Err f) (Ok n) is parts = absurd cc
beside (Err f) (Err g) is parts = let here : f ≡ g = cc in rw here (past g parts)
  where
    past : (g : PartFault) {p q : Part (List (List Data))} → PartsAs RowsReordered p q →
        PartsAs SameHead (both (Err g) p) (both (Err g) q)
    past g (ok_both ls ks r) = err_both g
    past g (err_both fault) = err_both (lesser_fault g fault)

if_named : (b c : Bool) (ms ns : Members) → b ≡ c → PartsAs SameHead (head_in ms) (head_in ns) →
    PartsAs SameHead (where_holds Shape b ms >>= head_in) (where_holds Shape c ns >>= head_in)
if_named true true ms ns e same = same
if_named true false ms ns e same = absurd cc
if_named false true ms ns e same = absurd cc
if_named false false ms ns e same = err_both Shape

head_itself : (p : Part (Numbers × List (List Data))) → PartsAs SameHead p p
head_itself (Ok head) = ok_both head head (refl, rows_itself head.1)
  where
    rows_itself : (ls : List (List Data)) → RowsReordered ls ls
    rows_itself [] = rows_end
    rows_itself (ds ∷ ls) = rows_more ds ds ls ls (row_itself ds) (rows_itself ls)
head_itself (Err fault) = err_both fault

same_head : (d e : Data) → IsReordered d e → PartsAs SameHead (head_of d) (head_of e)
unfolding head_of object_of
same_head d e itself = head_itself (head_of d)
same_head d e (arrays same) = err_both Shape
same_head d e (objects {ms} {ns} finds) =
    if_named _ _ ms ns (only_these head_names ms ns finds)
    (beside _ _ (same_numbers ms ns finds) (same_needed_lists ms ns finds))

-- ---- traces

-- the trace of lists, under some settings
abbrev with_lists : ConfigView → List (List Data) → Result Trace TraceFault
with_lists config lists = threads_of config 1 lists >>= λ threads. Ok
    (record { config = config; threads = threads })

-- the trace of lists, if they fit
abbrev with_fitting : ConfigView → List (List Data) → Result Trace TraceFault
with_fitting config lists = where_holds Config (fits_trace lists) lists >>= with_lists config

-- the trace of a head
abbrev trace_with : Numbers × List (List Data) → Result Trace TraceFault
trace_with head = config_in head.0 >>= λ config. with_fitting config head.1

same_if_fitting : (config : ConfigView) (b c : Bool) (ls ks : List (List Data)) → b ≡ c →
    threads_of config 1 ls ≡ threads_of config 1 ks →
    (where_holds Config b ls >>= with_lists config) ≡
    (where_holds Config c ks >>= with_lists config)
same_if_fitting config true true ls ks e same = rw same refl
same_if_fitting config true false ls ks e same = absurd cc
same_if_fitting config false true ls ks e same = absurd cc
same_if_fitting config false false ls ks e same = refl

same_config : (config : Result ConfigView TraceFault) (ls ks : List (List Data)) →
    RowsReordered ls ks → (config >>= λ config. with_fitting config ls) ≡
    (config >>= λ config. with_fitting config ks)
same_config (Ok config) ls ks same =
    same_if_fitting config _ _ ls ks (same_fits ls ks same) (same_threads config 1 ls ks same)
same_config (Err fault) ls ks same = refl

same_trace_with : (m n : Numbers) (ls ks : List (List Data)) → m ≡ n → RowsReordered ls ks →
    trace_with (m, ls) ≡ trace_with (n, ks)
same_trace_with m n ls ks is same = rw is (same_config (config_in n) ls ks same)

same_after_head : {p q : Part (Numbers × List (List Data))} → PartsAs SameHead p q →
    (at_call 0 p >>= trace_with) ≡ (at_call 0 q >>= trace_with)
same_after_head (ok_both a b same) = same_trace_with a.0 b.0 a.1 b.1 same.0 same.1
same_after_head (err_both fault) = refl

same_trace : (d e : Data) → IsReordered d e → trace_of d ≡ trace_of e
unfolding trace_of
same_trace d e same = same_after_head (same_head d e same)

same_given : (a b : Option Data) (d e : Data) → a ≡ Some d → b ≡ Some e → IsReordered d e →
    (ok_or a NotJson >>= trace_of) ≡ (ok_or b NotJson >>= trace_of)
same_given a b d e is other same = rw (is, other) (same_trace d e same)

same_texts : (a b : List ℕ) (d e : Data) → json_of a ≡ Some d → json_of b ≡ Some e →
    IsReordered d e → trace_of_bytes a ≡ trace_of_bytes b
same_texts a b d e is other same = same_given (json_of a) (json_of b) d e is other same

finds_itself : (a : Option Data) → FindsReordered a a
finds_itself None = neither
finds_itself (Some d) = both_find d d itself

of_one_object : (ms ns : Members) → ((name : List ℕ) → get_member name ms ≡ get_member name ns) →
    IsReordered (object ms) (object ns)
of_one_object ms ns same = objects
    (λ name. subst (FindsReordered (get_member name ms)) (same name)
    (finds_itself (get_member name ms)))

pub in_any_order : ReadsInAnyOrder
in_any_order = record {
  spans = same_span;
  calls = same_call;
  traces = same_trace;
  texts = same_texts;
  one_object = of_one_object;
}
