-- A reader of which no read meets any trouble.
use Rattle.std.proofs.Common.{◌∙◌, ℕ, List, Option, inl, inr, refl, sym, arith}
use Rattle.tsc_stream.specs.Stream.{fresh_reader, no_trouble}
use Rattle.tsc_stream.specs.StreamLaws.{IsReliable, ReliableReadsDoNotFail}
use Rattle.tsc_stream.specs.declared.stream.StreamFault.TheVariants.{Interrupted, Failed}

pub reliable_reads_do_not_fail : ReliableReadsDoNotFail
reliable_reads_do_not_fail old new sure reported = elim reported.why [
  | inl failed ↦ sure.unfailed failed
  | inr (inl may) ↦ let no = sym (sure.calm Failed) ∙ may in absurd cc
  | inr (inr used) ↦ let gave = used.each_gave (sure.calm Interrupted) in omega
      (arith, sure.calls, reported.begun.within)
]

-- Such is a reader that was not called yet.
pub fresh_is_reliable : (known : Option (List ℕ)) → IsReliable (fresh_reader known no_trouble)
fresh_is_reliable known = record {
  unfailed = λ is. cc;
  calm = λ trouble. refl;
  calls = omega arith;
}
