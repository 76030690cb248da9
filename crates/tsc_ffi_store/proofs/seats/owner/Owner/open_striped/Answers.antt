-- What was opened once was refused for memory alone.
use Rattle.std.proofs.Common.{◌≡◌, ◌∙◌, subst, rules}
use Rattle.tsc_striped.specs.declared.answers.OpenFault.TheVariants.{NoMemory}
use Rattle.tsc_striped.specs.Answers.{open_fault}
use Rattle.tsc_striped.specs.Seats.{IsSettled}
use Rattle.tsc_stripe_table.specs.Stripes.{Terms}
use Rattle.tsc_ffi_store.proofs.BoundsCut.{no_memory}
use Rattle.tsc_ffi_store.proofs.seats.owner.Owner.open_striped.Goals as goal

pub returns-in_err-shared-clause-refused : goal.returns-in_err-shared-clause-refused
returns-in_err-shared-clause-refused c =
    let opened = c.in_ok-cache.ensures.opened in
    let lacks : NoMemory ≡ open_fault c.args.config c.args.bounds.items =
    no_memory c.args.config c.args.seats c.args.bounds.items
    (subst (λ (t : Terms). IsSettled t) opened.terms opened.settled) in
    search rules

pub returns-in_err-handles-clause-refused : goal.returns-in_err-handles-clause-refused
returns-in_err-handles-clause-refused c =
    let opened = c.in_ok-cache.ensures.opened in
    let lacks : NoMemory ≡ open_fault c.args.config c.args.bounds.items =
    no_memory c.args.config c.args.seats c.args.bounds.items
    (subst (λ (t : Terms). IsSettled t) opened.terms opened.settled) in
    search rules
