-- What holds of a refusal.
use Rattle.std.specs.Prelude.{Result, Ok, Err, OnErr}

-- what holds anyway holds of it
pub on_refusal : {T E : Type 0} (r : Result T E) (P : Type 0) → P → OnErr r P
on_refusal (Ok x) P p = tt
on_refusal (Err e) P p = p
