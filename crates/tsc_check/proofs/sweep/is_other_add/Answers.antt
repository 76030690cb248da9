-- Proves the contract of `is_other_add`. Makes an Add or a batch, and tells whether its answer is
-- another.
use Rattle.std.proofs.Common.{◌≡◌, ◌∙◌, sym, ap, subst, length, not, true, Some}
use Rattle.tsc_cache.specs.History.{state_of}
use Rattle.tsc_cache.specs.CacheView.{RepresentsState}
use Rattle.tsc_cache.specs.declared.added.Added.{Added}
use Rattle.tsc_cache.proofs.Histories.{state_of-push}
use Rattle.tsc_trace_format.specs.Calls.{one_mark, several_marks}
use Rattle.tsc_trace_format.specs.declared.trace.Call.{Call}
use Rattle.tsc_trace_format.specs.declared.trace.Call.TheVariants.{Add, Batch}
use Rattle.tsc_trace.specs.Log.{made, said_after, entry_after, after_call}
use Rattle.tsc_trace.specs.CallAnswers.{outcome_of}
use Rattle.tsc_check.specs.Verdict.{is_of_kind, is_same_answer}
use Rattle.tsc_check.proofs.sweep.is_other_add.Goals as goal

pub returns-in_ok-made-in-Add-clause-other : goal.returns-in_ok-made-in-Add-clause-other
returns-in_ok-made-in-Add-clause-other c = λ config h s add kind.
    let said = c.args.said in
    let did = c.in_ok-made-in-Add.made in
    let call : Call = Add c.in-Add.span c.in-Add.value c.in-Add.now in
    let reported : outcome_of (said_after config h call) ≡
    Some (record { place = length h; added = did }) =
    ap (λ (a : Added). Some (record { place = length h; added = a }))
    (sym (c.in_ok-made-in-Add.ensures.added config (state_of config h) s)) in
    subst (λ (d : Call). is_of_kind d said ≡ true →
    c.is_other_added.result ≡ not (is_same_answer said (said_after config h d)))
    (sym c.in-Add.is)
    (λ same. c.is_other_added.ensures (said_after config h call) (length h) same reported) kind

pub returns-in_ok-made-in-Add-clause-stands : goal.returns-in_ok-made-in-Add-clause-stands
returns-in_ok-made-in-Add-clause-stands c = λ config thread h s.
    let e = entry_after thread h (one_mark c.in-Add.span c.in-Add.value c.in-Add.now) in
    let next = c.in_ok-made-in-Add.ensures.stands config (state_of config h) s in
    subst (λ call. RepresentsState c.add_fitting.new.cache config
    (state_of config (after_call thread h call))) (sym c.in-Add.is)
    (subst (RepresentsState c.add_fitting.new.cache config)
    (sym (state_of-push config h e)) next)

pub returns-in_ok-made_all-in-Batch-clause-other : goal.returns-in_ok-made_all-in-Batch-clause-other
returns-in_ok-made_all-in-Batch-clause-other c = λ config h s add kind.
    let said = c.args.said in
    let did = c.in_ok-made_all-in-Batch.made_all in
    let call : Call = Batch c.in-Batch.marks c.in-Batch.now in
    let is = c.in_ok-made_all-in-Batch.ensures.added config (state_of config h) s ∙
    ap (λ ms. (made config (state_of config h) (several_marks ms c.in-Batch.now)).added)
    c.slice.ensures in
    let reported : outcome_of (said_after config h call) ≡
    Some (record { place = length h; added = did }) =
    ap (λ (a : Added). Some (record { place = length h; added = a })) (sym is) in
    subst (λ (d : Call). is_of_kind d said ≡ true →
    c.is_other_added-in-Batch.result ≡ not (is_same_answer said (said_after config h d)))
    (sym c.in-Batch.is)
    (λ same. c.is_other_added-in-Batch.ensures (said_after config h call) (length h) same
    reported) kind

pub returns-in_ok-made_all-in-Batch-clause-stands :
    goal.returns-in_ok-made_all-in-Batch-clause-stands
returns-in_ok-made_all-in-Batch-clause-stands c = λ config thread h s.
    let a = several_marks c.in-Batch.marks c.in-Batch.now in
    let next = subst (λ ms. RepresentsState c.add_all_fitting.new.cache config
    (made config (state_of config h) (several_marks ms c.in-Batch.now)).state)
    c.slice.ensures
    (c.in_ok-made_all-in-Batch.ensures.stands config (state_of config h) s) in
    subst (λ call. RepresentsState c.add_all_fitting.new.cache config
    (state_of config (after_call thread h call))) (sym c.in-Batch.is)
    (subst (RepresentsState c.add_all_fitting.new.cache config)
    (sym (state_of-push config h (entry_after thread h a))) next)
