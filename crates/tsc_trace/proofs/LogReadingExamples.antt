-- Texts that are read as logs.
use Rattle.std.proofs.Common.{[], ◌∷◌, Ok, codes, refl, arith}
use Rattle.std.proofs.lemmas.List.Elements.{All-nil, All-cons}
use Rattle.std.specs.Fmt.{digits}
use Rattle.tsc_cache.proofs.ExampleConfig.{at}
use Rattle.tsc_trace.specs.declared.log.Line.{Line}
use Rattle.tsc_trace.specs.declared.log.CallAnswer.TheVariants as said
use Rattle.tsc_trace.specs.LogReading.{IsWritable, ReadsAs}
use Rattle.tsc_trace_format.proofs.ExampleTraces.{ended}

-- the empty text is the log without lines
pub the_empty_log_is_read : ReadsAs [] (Ok (record { lines = [] }))
the_empty_log_is_read = record {
  text = refl;
  is_log = record { writable = All-nil IsWritable; within = omega arith };
}

abbrev pub floor_line : Line
floor_line = record { thread = 0; index = 0; said = said.Low 0 (at 5 0) }

floor_line_is_writable : IsWritable floor_line
floor_line_is_writable = record {
  thread = omega arith;
  index = omega arith;
  said = (omega arith, refl);
}

-- a log of one line
pub one_line_is_read : ReadsAs (ended (codes "0 0 low 0 5.0"))
    (Ok (record { lines = floor_line ∷ [] }))
unfolding digits
one_line_is_read =
    record {
      text = refl;
      is_log = record {
        writable = All-cons IsWritable floor_line [] floor_line_is_writable
            (All-nil IsWritable);
        within = omega arith;
      };
    }
