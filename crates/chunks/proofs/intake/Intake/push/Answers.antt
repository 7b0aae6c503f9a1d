use Rattle.std.proofs.Common.{◌+◌, length, arith, sym, ap, subst, ◌∙◌, length-append}
use Rattle.sha2.specs.Hashers.{Holds256}
use Rattle.chunks.proofs.Cutting.{from_room, from_nothing}
use Rattle.chunks.proofs.intake.Intake.push.Goals as goal

pub returns-then-self-clause-kept : goal.returns-then-self-clause-kept
returns-then-self-clause-kept g c = from_nothing g.S.State c.args.store.now c.args.self.now

pub returns-in_err-taken-clause-kept : goal.returns-in_err-taken-clause-kept
returns-in_err-taken-clause-kept g c = from_nothing g.S.State c.args.store.now c.args.self.now

pub returns-in_err-fill_all-clause-kept : goal.returns-in_err-fill_all-clause-kept
returns-in_err-fill_all-clause-kept g c =
    let keeps = c.fill_all.ensures.keeps in
    let value = c.in_ok-taken.ensures in
    from_room g.S.State c.args.store.now c.fill_all.new.store c.args.self.now (length c.args.piece.now) keeps.honest keeps.kept
    (λ repo name size bytes taken. let limit = taken.limit in let count = taken.counted.count in omega (arith, limit, count, value.0, value.1))

pub returns-clause-kept : goal.returns-clause-kept
returns-clause-kept g c =
    let keeps = c.fill_all.ensures.keeps in
    let value = c.in_ok-taken.ensures in
    from_room g.S.State c.args.store.now c.fill_all.new.store c.args.self.now (length c.args.piece.now) keeps.honest keeps.kept
    (λ repo name size bytes taken. let limit = taken.limit in let count = taken.counted.count in omega (arith, limit, count, value.0, value.1))

pub returns-clause-taken : goal.returns-clause-taken
returns-clause-taken g c ready repo name size bytes taken =
    let same = c.in_ok-fill_all.ensures.same in
    record {
      limit = same.size ∙ taken.limit;
      within =
          let limit = taken.limit in
          let count = taken.counted.count in
          let longer = length-append bytes c.args.piece.now in
          let value = c.in_ok-taken.ensures in
          omega (arith, limit, count, longer, value.0, value.1);
      counted = record {
        hashed = c.update.ensures bytes (subst (λ h. Holds256 h bytes) (sym same.hasher) taken.counted.hashed);
        count = c.in_ok-taken.ensures.0 ∙ ap (λ n. n + length c.args.piece.now) taken.counted.count ∙ sym (length-append bytes c.args.piece.now);
      };
      cuts = c.in_ok-fill_all.ensures.advances ready repo name size bytes taken.cuts;
    }
