-- What the readers of a trace give.
use Rattle.std.specs.Prelude.{◌≡◌, ◌⊎◌, ℕ, [], ◌∷◌, ◌++◌, Result, Ok, Err}
use Rattle.std.specs.declared.alloc.Global.{Global}
use Rattle.std.specs.declared.vec.Vec.{Vec}
use Rattle.tsc_page_model.specs.Page.{Mark}
use Rattle.tsc_trace_format.specs.declared.read.TraceFault.{TraceFault}
use Rattle.tsc_trace_format.specs.declared.read.TraceFault.TheVariants.{NoMemory}
use Rattle.tsc_trace_format.specs.declared.read.part.Refusal.{Refusal}
use Rattle.tsc_trace_format.specs.declared.read.part.Refusal.TheVariants as refusal
use Rattle.tsc_trace_format.specs.TraceParts.{Part, lesser_fault, fault_at}

-- A reader refuses a part by the fault that the definition gives it, unless memory ran out.
abbrev pub Refuses : {Y : Type 0} → Refusal → Part Y → Type 0
Refuses refusal.Memory read = Unit {0}
Refuses (refusal.Fault fault) read = read ≡ Err fault

-- What a reader returned, seen by a view, is what the definition reads the part as.
abbrev pub Gives : {X Y : Type 0} → (X → Y) → Result X Refusal → Part Y → Type 0
Gives view (Ok x) read = read ≡ Ok (view x)
Gives view (Err e) read = Refuses e read

-- What a reader returned whose faults have the numbers of calls, seen by a view, is what the
-- definition reads, unless memory ran out.
abbrev pub Reports : {X Y : Type 0} → (X → Y) → Result X TraceFault → Result Y TraceFault → Type 0
Reports view (Ok x) read = read ≡ Ok (view x)
Reports view (Err fault) read = (fault ≡ NoMemory) ⊎ (read ≡ Err fault)

-- of two refusals want of memory, and else the lesser fault
abbrev pub lesser_refusal : Refusal → Refusal → Refusal
lesser_refusal refusal.Memory r = refusal.Memory
lesser_refusal (refusal.Fault f) refusal.Memory = refusal.Memory
lesser_refusal (refusal.Fault f) (refusal.Fault g) = refusal.Fault (lesser_fault f g)

-- two values, or the lesser refusal of both
abbrev pub joined : {A B : Type 0} → Result A Refusal → Result B Refusal → Result (A × B) Refusal
joined (Ok x) (Ok y) = Ok (x, y)
joined (Ok x) (Err e) = Err e
joined (Err d) (Ok y) = Err d
joined (Err d) (Err e) = Err (lesser_refusal d e)

-- what was read of the call with this number
abbrev pub reported_at : {A : Type 0} → ℕ → Result A Refusal → Result A TraceFault
reported_at call (Ok x) = Ok x
reported_at call (Err refusal.Memory) = Err NoMemory
reported_at call (Err (refusal.Fault fault)) = Err (fault_at call fault)

-- marks and one more, which both were read, or the lesser refusal of both, unless memory ran out
abbrev pub AddsMark : Result (Vec Mark Global) Refusal → Result Mark Refusal →
    Result (Vec Mark Global) Refusal → Type 0
AddsMark marks mark (Ok more) = (front : Vec Mark Global) × (one : Mark) ×
    (joined marks mark ≡ Ok (front, one)) × (more.items ≡ front.items ++ one ∷ [])
AddsMark marks mark (Err e) = (e ≡ refusal.Memory) ⊎ (joined marks mark ≡ Err e)
