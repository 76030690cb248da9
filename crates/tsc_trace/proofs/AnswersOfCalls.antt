-- What a call answers is of its kind, and says of its addition what that did.
use Rattle.std.proofs.Common.{◌≡◌, ◌∙◌, refl, sym, ap, ℕ, Bool, true, false, true≢false, is_some, option_map}
use Rattle.tsc_cache.specs.ConfigView.{ConfigView}
use Rattle.tsc_cache.specs.State.{CacheState}
use Rattle.tsc_trace_format.specs.Calls.{kind_of, is_same_kind, addition_of, adds}
use Rattle.tsc_trace_format.specs.declared.trace.Call.{Call}
use Rattle.tsc_trace_format.specs.declared.trace.Call.TheVariants.{Add, Batch, Get, Low}
use Rattle.tsc_trace_format.specs.declared.trace.Kind.{Kind}
use Rattle.tsc_trace_format.specs.declared.trace.Kind.TheVariants as kind
use Rattle.tsc_trace.specs.Log.{made, said_in}
use Rattle.tsc_trace.specs.CallAnswers.{kind_of_answer, outcome_of, front_of}
use Rattle.tsc_trace.specs.declared.log.CallAnswer.{CallAnswer}
use Rattle.tsc_trace.specs.declared.log.CallAnswer.TheVariants as said

-- ---- kinds

pub kind_itself : (k : Kind) → is_same_kind k k ≡ true
kind_itself kind.Add = refl
kind_itself kind.Batch = refl
kind_itself kind.Get = refl
kind_itself kind.Low = refl

pub one_kind : (k l : Kind) → is_same_kind k l ≡ true → k ≡ l
one_kind kind.Add kind.Add e = refl
one_kind kind.Batch kind.Batch e = refl
one_kind kind.Get kind.Get e = refl
one_kind kind.Low kind.Low e = refl
one_kind k l e = absurd (true≢false (sym e))

-- whether calls of a kind add
abbrev adds_by_kind : Kind → Bool
adds_by_kind kind.Add = true
adds_by_kind kind.Batch = true
adds_by_kind kind.Get = false
adds_by_kind kind.Low = false

call_adds : (call : Call) → adds call ≡ adds_by_kind (kind_of call)
call_adds (Add span value now) = refl
call_adds (Batch marks now) = refl
call_adds (Get span) = refl
call_adds Low = refl

said_adds : (s : CallAnswer) → is_some (outcome_of s) ≡ adds_by_kind (kind_of_answer s)
said_adds (said.Add place added) = refl
said_adds (said.Batch place added) = refl
said_adds (said.Get front value) = refl
said_adds (said.Low front time) = refl

-- an answer of a call's kind tells of an addition just where the call adds
pub reports_where_adds : (call : Call) (s : CallAnswer) →
    is_same_kind (kind_of call) (kind_of_answer s) ≡ true → is_some (outcome_of s) ≡ adds call
reports_where_adds call s same = said_adds s ∙
    ap adds_by_kind (sym (one_kind (kind_of call) (kind_of_answer s) same)) ∙ sym (call_adds call)

-- ---- what a call answers

pub kind_in : (config : ConfigView) (s : CacheState) (front : ℕ) (call : Call) →
    kind_of_answer (said_in config s front call) ≡ kind_of call
kind_in config s front (Add span value now) = refl
kind_in config s front (Batch marks now) = refl
kind_in config s front (Get span) = refl
kind_in config s front Low = refl

pub front_in : (config : ConfigView) (s : CacheState) (front : ℕ) (call : Call) →
    front_of (said_in config s front call) ≡ front
front_in config s front (Add span value now) = refl
front_in config s front (Batch marks now) = refl
front_in config s front (Get span) = refl
front_in config s front Low = refl

pub reports_in : (config : ConfigView) (s : CacheState) (front : ℕ) (call : Call) →
    is_some (outcome_of (said_in config s front call)) ≡ adds call
reports_in config s front (Add span value now) = refl
reports_in config s front (Batch marks now) = refl
reports_in config s front (Get span) = refl
reports_in config s front Low = refl

pub reported_in : (config : ConfigView) (s : CacheState) (front : ℕ) (call : Call) →
    outcome_of (said_in config s front call) ≡
    option_map (λ a. record { place = front; added = (made config s a).added }) (addition_of call)
reported_in config s front (Add span value now) = refl
reported_in config s front (Batch marks now) = refl
reported_in config s front (Get span) = refl
reported_in config s front Low = refl
