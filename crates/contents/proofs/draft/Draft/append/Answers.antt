-- What is written follows what was written, which is apart from it.
use Rattle.std.proofs.Common.{inr, arith}
use Rattle.std.proofs.lemmas.List.{length-append}
use Rattle.contents.proofs.Writing.{has_joined}
use Rattle.contents.proofs.draft.Draft.append.Goals as goal

pub returns-clause-bytes : goal.returns-clause-bytes
returns-clause-bytes g c = λ before was. record {
  size = let n = length-append before c.args.bytes.now in let m = was.size in omega arith;
  there =
      let kept = c.write.ensures.others.seen c.args.self.now.region.start before (inr (let m = was.size in omega arith)) was.there in
      has_joined _ _ before c.args.bytes.now kept (rw was.size (c.in_ok-write.ensures.written));
}
