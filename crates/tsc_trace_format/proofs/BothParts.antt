-- What two parts give that were read side by side.
use Rattle.std.proofs.Common.{Result, Ok, Err, refl}
use Rattle.tsc_trace_format.specs.declared.read.part.Refusal.{Refusal}
use Rattle.tsc_trace_format.specs.declared.read.part.Refusal.TheVariants as refusal
use Rattle.tsc_trace_format.specs.TraceParts.{Part, both}
use Rattle.tsc_trace_format.specs.Reading.{Gives, joined}

pub both_gives : {X Y A B : Type 0} (v : X → A) (w : Y → B) (first : Result X Refusal)
    (second : Result Y Refusal) (p : Part A) (q : Part B)
    → Gives v first p → Gives w second q →
    Gives (λ (pair : X × Y). (v pair.0, w pair.1)) (joined first second) (both p q)
both_gives v w (Ok x) (Ok y) p q e f = rw (e, f) refl
both_gives v w (Ok x) (Err refusal.Memory) p q e f = tt
both_gives v w (Ok x) (Err (refusal.Fault g)) p q e f = rw (e, f) refl
both_gives v w (Err refusal.Memory) (Ok y) p q e f = tt
both_gives v w (Err refusal.Memory) (Err r) p q e f = tt
both_gives v w (Err (refusal.Fault g)) (Ok y) p q e f = rw (e, f) refl
both_gives v w (Err (refusal.Fault g)) (Err refusal.Memory) p q e f = tt
both_gives v w (Err (refusal.Fault g)) (Err (refusal.Fault h)) p q e f = rw (e, f) refl
