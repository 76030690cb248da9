-- Proves the contract of `are_still_so`. Whether some reads are still what is there as of a time.
use Rattle.std.proofs.Common.{◌≡◌, ◌+◌, refl, sym, subst, take, true, false}
use Rattle.std.specs.List.{All}
use Rattle.std.proofs.lemmas.Bool.{both_ways}
use Rattle.std.proofs.lemmas.List.{take_all}
use Rattle.std.proofs.lemmas.List.Elements.{All-same, All-push}
use Rattle.mvcc_versions.specs.Versions.{Read, as_of, Matches}
use Rattle.mvcc_versions.proofs.Lists.{more}
use Rattle.mvcc_range.proofs.range.are_still_so.Goals as goal

pub loop-read-preserved : goal.loop-read-preserved
loop-read-preserved c =
    let i = c.loop-read.read-index in
    let r = c.read-item.result in
    let P : Read → Type 0 = λ (q : Read). Matches q (as_of c.args.at c.args.versions.now) in
    All-same P (take (i + 1) c.args.reads.now) _ (more c.args.reads.now i r c.loop-read-test.true
    (sym c.read-item.is)) (All-push P (take i c.args.reads.now) r c.loop-read.invariant
    (c.in_ok-so.ensures.0 c.if-not-so.false))

pub returns-then-not-so : goal.returns-then-not-so
returns-then-not-so c =
    let P : Read → Type 0 = λ (q : Read). Matches q (as_of c.args.at c.args.versions.now) in
    let r = c.read-item.result in (
      λ yes. absurd (let never : false ≡ true = yes in cc),
      λ all. absurd (both_ways c.in_ok-so.so c.if-not-so.true
          (c.in_ok-so.ensures.1 (subst P (sym c.read-item.is)
          (all c.loop-read.read-index r c.loop-read-test.true)))),
    )

pub returns : goal.returns
returns c =
    let P : Read → Type 0 = λ (q : Read). Matches q (as_of c.args.at c.args.versions.now) in (
      λ yes. subst (All P) (take_all c.loop-read.read-index c.args.reads.now c.loop-read-test.false)
          c.loop-read.invariant,
      λ all. refl,
    )
