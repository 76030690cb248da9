-- Proves the contract of `get`. What a lookup answered, by the fields behind its word.
use Rattle.tsc_time.specs.ValueView.{owner_of}
use Rattle.tsc_trace.specs.LogText.{space, time_text, owner_text}
use Rattle.tsc_trace.proofs.Cuts.{no_cut}
use Rattle.tsc_trace.proofs.FieldReading.{get_refused, get_read, value_parts}
use Rattle.tsc_trace.proofs.log_reader.line.get.Goals as goal

pub returns-in_err-at : goal.returns-in_err-at
returns-in_err-at c =
    rw c.from_residual-in_err-at.ensures
    (get_refused c.args.fields.now c.in_ok-front.rest.now c.in_ok-front.front c.in_ok-front.ensures
    (λ value made. no_cut space (time_text value.time) (owner_text value.owner)
    c.in_ok-front.rest.now c.in_err-at.ensures))

pub returns-in_err-time : goal.returns-in_err-time
returns-in_err-time c =
    rw c.from_residual-in_err-time.ensures
    (get_refused c.args.fields.now c.in_ok-front.rest.now c.in_ok-front.front c.in_ok-front.ensures
    (λ value made e. c.in_err-time.ensures value.time made.time
    (value_parts c.in_ok-front.rest.now c.in_ok-at.at.now c.in_ok-at.name.now value
    c.in_ok-at.ensures made e).0))

pub returns-in_err-owner : goal.returns-in_err-owner
returns-in_err-owner c =
    rw c.from_residual-in_err-owner.ensures
    (get_refused c.args.fields.now c.in_ok-front.rest.now c.in_ok-front.front c.in_ok-front.ensures
    (λ value made e. c.in_err-owner.ensures value.owner made.owner
    (value_parts c.in_ok-front.rest.now c.in_ok-at.at.now c.in_ok-at.name.now value
    c.in_ok-at.ensures made e).1))

pub returns : goal.returns
returns c =
    rw c.of-value.ensures
    (get_read c.args.fields.now c.in_ok-front.rest.now c.in_ok-at.at.now c.in_ok-at.name.now
    c.in_ok-front.front c.in_ok-time.field-0 (owner_of c.in_ok-owner.field-0)
    c.in_ok-front.ensures c.in_ok-at.ensures c.in_ok-time.ensures c.in_ok-owner.ensures)
