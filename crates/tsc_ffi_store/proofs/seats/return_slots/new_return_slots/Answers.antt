-- At the opening nobody is returned.
use Rattle.std.proofs.Common.{◌≡◌, ◌∙◌, ap, subst, sym, ℕ, rules}
use Rattle.std.specs.Prelude.{replicate, None}
use Rattle.atomic_table.specs.Table.{opening}
use Rattle.tsc_ffi_store.specs.ReturnSlots.{IsKept, first_known}
use Rattle.tsc_ffi_store.proofs.Returning.{opens}
use Rattle.tsc_ffi_store.proofs.seats.return_slots.new_return_slots.Goals as goal

pub vacant-requires : goal.vacant-requires
vacant-requires c =
    let blank : c.in_ok-words.words.items ≡ replicate c.args.seats 0 = search rules in
    subst (λ (n : ℕ). IsKept c.args.cache.now
    (opening c.as_slice.result.now (replicate n None) (first_known c.args.cache.now)))
    (sym c.requires.seats)
    (opens c.args.cache.now c.as_slice.result.now
    (c.as_slice.ensures.value ∙ blank ∙ ap (λ (n : ℕ). replicate n 0) c.requires.seats))
