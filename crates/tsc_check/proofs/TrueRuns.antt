-- Lines that tell the truth of a history, call by call.
use Rattle.std.proofs.Common.{cond, ◌≡◌, ◌∙◌, sym, ap, refl, ℕ, suc, ◌≤◌, List, [], ◌∷◌, ◌++◌, length, arith}
use Rattle.std.proofs.lemmas.List.Sums.{sum_by-cons, sum_by-append}
use Rattle.tsc_cache.specs.ConfigView.{ConfigView}
use Rattle.tsc_cache.specs.History.{History, BeginsWith, state_of}
use Rattle.tsc_trace_format.specs.Calls.{adds}
use Rattle.tsc_trace_format.specs.declared.trace.Call.{Call}
use Rattle.tsc_trace.specs.Log.{said_after, after_call}
use Rattle.tsc_trace.specs.declared.log.Line.{Line}
use Rattle.tsc_trace.proofs.AnswersOfCalls.{front_in, reports_in}
use Rattle.tsc_trace.specs.CallAnswers.{front_of}
use Rattle.tsc_check.specs.Verdict.{PlacedCall, calls_of_list, calls_of_lists, reach, is_add, adds_in}
use Rattle.tsc_check.specs.TrueLog.{adds_of_list, adds_of_lists, IsTrueLine, AreTrueLines, AreTrueLists}
use Rattle.tsc_check.proofs.Each.{Each, Ordered, each_append, each_weaker, ordered_append}
use Rattle.tsc_check.proofs.Slots.{front_within_reach}

-- the line of a call tells the truth of a history
pub record IsTrueOf (config : ConfigView) (h : History) (c : PlacedCall) (line : Line) : Type
    0 where
  pub before : History
  pub reported : line ≡ record {
    thread = c.thread;
    index = c.index;
    said = said_after config before c.call;
  }
  pub part : BeginsWith h (after_call c.thread before c.call)

-- the lines of calls do, each that of its call
abbrev pub AllTrue : ConfigView → History → List PlacedCall → List Line → Type 0
AllTrue config h [] [] = Unit {0}
AllTrue config h [] (line ∷ lines) = ⊥
AllTrue config h (c ∷ calls) [] = ⊥
AllTrue config h (c ∷ calls) (line ∷ lines) = IsTrueOf config h c line ×
    AllTrue config h calls lines

pub all_true_append : (config : ConfigView) (h : History) (cs ds : List PlacedCall)
    (ls ms : List Line) → AllTrue config h cs ls → AllTrue config h ds ms →
    AllTrue config h (cs ++ ds) (ls ++ ms)
all_true_append config h [] ds [] ms a b = b
all_true_append config h [] ds (l ∷ ls) ms a b = absurd a
all_true_append config h (c ∷ cs) ds [] ms a b = absurd a
all_true_append config h (c ∷ cs) ds (l ∷ ls) ms a b =
    (a.0, all_true_append config h cs ds ls ms a.1 b)

-- an earlier line of the same list reaches at most the front of a later one
abbrev pub GoesBefore : Line → Line → Type 0
GoesBefore a b = a.thread ≡ b.thread → reach a.said ≤ front_of b.said

-- a line of this list, with what was reached before it
abbrev pub IsOfList : ℕ → ℕ → Line → Type 0
IsOfList thread reached line = (line.thread ≡ thread) × (reached ≤ front_of line.said)

pub front_said : (config : ConfigView) (before : History) (call : Call) →
    front_of (said_after config before call) ≡ length before
front_said config before call = front_in config (state_of config before) (length before) call

pub adds_said : (config : ConfigView) (before : History) (call : Call) →
    is_add (said_after config before call) ≡ adds call
adds_said config before call = reports_in config (state_of config before) (length before) call

true_of_list : (config : ConfigView) (h : History) (thread index reached : ℕ) (call : Call)
    (line : Line) → IsTrueLine config h thread index reached call line →
    IsOfList thread reached line
true_of_list config h thread index reached call line t =
    let front : front_of line.said ≡ length t.before = ap (λ l. front_of l.said) t.reported ∙
    front_said config t.before call in
    (ap (λ l. l.thread) t.reported, omega (arith, front, t.later))

-- ---- one list

pub each_of_list : (config : ConfigView) (h : History) (thread index reached : ℕ)
    (calls : List Call) (lines : List Line) →
    AreTrueLines config h thread index reached calls lines → Each (IsOfList thread reached) lines
each_of_list config h thread index reached [] [] a = tt
each_of_list config h thread index reached [] (line ∷ lines) a = absurd a
each_of_list config h thread index reached (call ∷ calls) [] a = absurd a
each_of_list config h thread index reached (call ∷ calls) (line ∷ lines) a =
    let here = true_of_list config h thread index reached call line a.0 in (
      here,
      each_weaker (IsOfList thread (reach line.said)) (IsOfList thread reached)
          (λ l p. (p.0, omega (arith, p.1, here.1, front_within_reach line.said))) lines
          (each_of_list config h thread (suc index) (reach line.said) calls lines a.1),
    )

pub ordered_of_list : (config : ConfigView) (h : History) (thread index reached : ℕ)
    (calls : List Call) (lines : List Line) →
    AreTrueLines config h thread index reached calls lines → Ordered GoesBefore lines
ordered_of_list config h thread index reached [] [] a = tt
ordered_of_list config h thread index reached [] (line ∷ lines) a = absurd a
ordered_of_list config h thread index reached (call ∷ calls) [] a = absurd a
ordered_of_list config h thread index reached (call ∷ calls) (line ∷ lines) a = (
  each_weaker (IsOfList thread (reach line.said)) (GoesBefore line) (λ l p _. p.1) lines
      (each_of_list config h thread (suc index) (reach line.said) calls lines a.1),
  ordered_of_list config h thread (suc index) (reach line.said) calls lines a.1,
)

pub true_list : (config : ConfigView) (h : History) (thread index reached : ℕ) (calls : List Call)
    (lines : List Line) → AreTrueLines config h thread index reached calls lines →
    AllTrue config h (calls_of_list thread index calls) lines
true_list config h thread index reached [] [] a = tt
true_list config h thread index reached [] (line ∷ lines) a = absurd a
true_list config h thread index reached (call ∷ calls) [] a = absurd a
true_list config h thread index reached (call ∷ calls) (line ∷ lines) a = (
  record { before = a.0.before; reported = a.0.reported; part = a.0.part },
  true_list config h thread (suc index) (reach line.said) calls lines a.1,
)

-- ---- all lists

abbrev pub IsFrom : ℕ → Line → Type 0
IsFrom thread line = thread ≤ line.thread

pub each_from : (config : ConfigView) (h : History) (thread : ℕ) (lists : List (List Call))
    (lines : List Line) → AreTrueLists config h thread lists lines → Each (IsFrom thread) lines
each_from config h thread [] lines a = rw a tt
each_from config h thread (calls ∷ lists) lines a =
    let own = each_weaker (IsOfList thread 0) (IsFrom thread) (λ l p. omega (arith, p.0)) a.0
    (each_of_list config h thread 0 0 calls a.0 a.3) in
    let rest = each_weaker (IsFrom (suc thread)) (IsFrom thread) (λ l p. omega (arith, p)) a.1
    (each_from config h (suc thread) lists a.1 a.4) in
    rw a.2 (each_append (IsFrom thread) a.0 a.1 own rest)

pub ordered_lists : (config : ConfigView) (h : History) (thread : ℕ) (lists : List (List Call))
    (lines : List Line) → AreTrueLists config h thread lists lines → Ordered GoesBefore lines
ordered_lists config h thread [] lines a = rw a tt
ordered_lists config h thread (calls ∷ lists) lines a =
    let own = each_of_list config h thread 0 0 calls a.0 a.3 in
    let later = each_from config h (suc thread) lists a.1 a.4 in
    let apart = each_weaker (IsOfList thread 0) (λ l. Each (GoesBefore l) a.1)
    (λ l p. each_weaker (IsFrom (suc thread)) (GoesBefore l)
    (λ m q same. absurd (omega (arith, p.0, q, same))) a.1 later) a.0 own in
    rw a.2 (ordered_append GoesBefore a.0 a.1 (ordered_of_list config h thread 0 0 calls a.0 a.3)
    (ordered_lists config h (suc thread) lists a.1 a.4) apart)

pub true_lists : (config : ConfigView) (h : History) (thread : ℕ) (lists : List (List Call))
    (lines : List Line) → AreTrueLists config h thread lists lines →
    AllTrue config h (calls_of_lists thread lists) lines
true_lists config h thread [] lines a = rw a tt
true_lists config h thread (calls ∷ lists) lines a =
    rw a.2 (all_true_append config h (calls_of_list thread 0 calls)
    (calls_of_lists (suc thread) lists) a.0 a.1
    (true_list config h thread 0 0 calls a.0 a.3)
    (true_lists config h (suc thread) lists a.1 a.4))

-- ---- how many Adds

pub adds_of_true_list : (config : ConfigView) (h : History) (thread index reached : ℕ)
    (calls : List Call) (lines : List Line) →
    AreTrueLines config h thread index reached calls lines → adds_in lines ≡ adds_of_list calls
adds_of_true_list config h thread index reached [] [] a = refl
adds_of_true_list config h thread index reached [] (line ∷ lines) a = absurd a
adds_of_true_list config h thread index reached (call ∷ calls) [] a = absurd a
adds_of_true_list config h thread index reached (call ∷ calls) (line ∷ lines) a =
    let same : is_add line.said ≡ adds call = ap (λ l. is_add l.said) a.0.reported ∙
    adds_said config a.0.before call in
    let others = adds_of_true_list config h thread (suc index) (reach line.said) calls
    lines a.1 in
    sum_by-cons (λ (l : Line). cond (is_add l.said) 1 0) line lines
    ∙ rw (same, others) (sym (sum_by-cons (λ c. cond (adds c) 1 0) call calls))

pub adds_of_true_lists : (config : ConfigView) (h : History) (thread : ℕ) (lists : List (List Call))
    (lines : List Line) → AreTrueLists config h thread lists lines →
    adds_in lines ≡ adds_of_lists lists
adds_of_true_lists config h thread [] lines a = rw a refl
adds_of_true_lists config h thread (calls ∷ lists) lines a =
    ap adds_in a.2 ∙ sum_by-append (λ (l : Line). cond (is_add l.said) 1 0) a.0 a.1
    ∙ rw (
      adds_of_true_list config h thread 0 0 calls a.0 a.3,
      adds_of_true_lists config h (suc thread) lists a.1 a.4,
    ) refl
