-- What the answer in a line says: of what kind of call it is, how many Adds came before, and what
-- was added.
use Rattle.std.specs.Prelude.{ℕ, Option, Some, None}
use Rattle.tsc_trace_format.specs.declared.trace.Kind.{Kind}
use Rattle.tsc_trace_format.specs.declared.trace.Kind.TheVariants as kind
use Rattle.tsc_trace.specs.declared.log.CallAnswer.{CallAnswer}
use Rattle.tsc_trace.specs.declared.log.CallAnswer.TheVariants as said
use Rattle.tsc_trace.specs.declared.log.AddOutcome.{AddOutcome}

-- the kind of call that an answer is of
abbrev pub kind_of_answer : CallAnswer → Kind
kind_of_answer (said.Add place added) = kind.Add
kind_of_answer (said.Batch place added) = kind.Batch
kind_of_answer (said.Get front value) = kind.Get
kind_of_answer (said.Low front time) = kind.Low

-- what an answer says was added: at which place, and what that did
abbrev pub outcome_of : CallAnswer → Option AddOutcome
outcome_of (said.Add place added) = Some (record { place = place; added = added })
outcome_of (said.Batch place added) = Some (record { place = place; added = added })
outcome_of (said.Get front value) = None
outcome_of (said.Low front time) = None

-- how many Adds came before an answer
abbrev pub front_of : CallAnswer → ℕ
front_of (said.Add place added) = place
front_of (said.Batch place added) = place
front_of (said.Get front value) = front
front_of (said.Low front time) = front
