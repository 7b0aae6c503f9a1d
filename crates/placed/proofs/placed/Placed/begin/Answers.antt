-- The database finds the staged upload and where its content is, and then begins another, once there is room for a large
-- content.
use Rattle.placed.proofs.Prelude.{◌≡◌, ◌≤◌, ◌<◌, ℕ, false, arith, rules, refl, sym, ◌∙◌, ap, subst, Contains, err_from_is_err_and, regions_of, IsReserved, others_of_found, option_map, upload_number}
use Rattle.std.proofs.lemmas.Option.{MatchOption-at_none, MatchOption-at_some}
use Rattle.placed.proofs.Begun.{begun_none, begun_failed, begun_small, begun_large, used_again}
use Rattle.placed.proofs.placed.Placed.begin.Goals as goal

pub returns-in_err-freed-clause-begins : goal.returns-in_err-freed-clause-begins
returns-in_err-freed-clause-begins g c =
    let p = err_from_is_err_and c.from_residual-in_err-freed.result c.from_residual-in_err-freed.ensures.1 in
    let s = c.args.self.now in
    let first = c.staged_upload.ensures in
    let second = c.region_held.ensures in
    rw p.1 (begun_none g.T.State g.D.Disk s c.staged_upload.new.self c.region_held.new.rows
    c.region_held.new.rows c.args.upload.now first.same first.adds second.same second.adds s.regions s.staged (λ r used. used) refl p.0)

pub returns-in_err-id-clause-begins : goal.returns-in_err-id-clause-begins
returns-in_err-id-clause-begins g c =
    let p = err_from_is_err_and c.from_residual-in_err-id.result c.from_residual-in_err-id.ensures.1 in
    let s = c.args.self.now in
    let first = c.staged_upload.ensures in
    let second = c.region_held.ensures in
    rw p.1 (
    begun_failed g.T.State g.D.Disk s c.staged_upload.new.self c.region_held.new.rows
    c.begin_upload.new.self c.args.upload.now first.same first.adds second.same second.adds s.regions s.staged
    (λ r used. used) refl c.in_err-id.field-0.0 p.0 c.in_err-id.ensures)

pub returns-then-get-lt-PIECE : goal.returns-then-get-lt-PIECE
returns-then-get-lt-PIECE g c =
    let it = begun_small g.T.State g.D.Disk c.args.self.now c.staged_upload.new.self c.region_held.new.rows
    c.begin_upload.new.self c.args.upload.now c.in_ok-staged_upload.field-0 c.in_ok-staged_upload.ensures
    c.id_of-replaced.result c.id_of-replaced.ensures c.in_ok-freed.freed (rw c.deref.ensures.value at c.in_ok-freed.ensures)
    c.in_ok-id.id c.in_ok-id.ensures (search rules) c.give_back.new.regions c.forget_found.new.staged c.give_back.new.disk
    c.forget_found.ensures.items c.give_back.ensures.freed c.give_back.ensures.kept in
    record { begins = it.0; frees = it.1 }

pub returns-in_err-reserve-clause-begins : goal.returns-in_err-reserve-clause-begins
returns-in_err-reserve-clause-begins g c =
    let p = err_from_is_err_and c.from_residual-in_err-reserve.result c.from_residual-in_err-reserve.ensures.1 in
    let s = c.args.self.now in
    let first = c.staged_upload.ensures in
    let second = c.region_held.ensures in
    rw p.1 (
    begun_none g.T.State g.D.Disk s c.staged_upload.new.self c.region_held.new.rows
    c.region_held.new.rows c.args.upload.now first.same first.adds second.same second.adds s.regions c.reserve.new.self (λ r used. used)
    c.in_err-reserve.ensures.items p.0)

pub returns-in_err-region-clause-begins : goal.returns-in_err-region-clause-begins
returns-in_err-region-clause-begins g c =
    let p = err_from_is_err_and c.from_residual-in_err-region.result c.from_residual-in_err-region.ensures.1 in
    let s = c.args.self.now in
    let first = c.staged_upload.ensures in
    let second = c.region_held.ensures in
    rw p.1 (
    begun_none g.T.State g.D.Disk s c.staged_upload.new.self c.region_held.new.rows
    c.region_held.new.rows c.args.upload.now first.same first.adds second.same second.adds c.reserve-2.new.self c.reserve.new.self
    (λ r used. subst (λ regions. Contains regions r) (sym c.in_err-region.ensures.err) used)
    c.in_ok-reserve.ensures.items p.0)

pub returns-in_err-region-clause-frees : goal.returns-in_err-region-clause-frees
returns-in_err-region-clause-frees g c =
    let p = err_from_is_err_and c.from_residual-in_err-region.result c.from_residual-in_err-region.ensures.1 in
    rw p.1 (record {
      freed = λ k h. tt;
      kept = λ r used. subst (λ regions. Contains regions r) (sym c.in_err-region.ensures.err) used;
    })

pub returns-in_default : goal.returns-in_default
returns-in_default g c =
    let none = (MatchOption-at_none _ _ c.in_default.is c.in_ok-region.ensures.ok).1 in
    let s = c.args.self.now in
    let first = c.staged_upload.ensures in
    let second = c.region_held.ensures in
    record {
      begins = begun_none g.T.State g.D.Disk s c.staged_upload.new.self c.region_held.new.rows
          c.region_held.new.rows c.args.upload.now first.same first.adds second.same second.adds c.reserve-2.new.self c.reserve.new.self
          (λ r used. subst (λ regions. Contains regions r) (sym none) used) c.in_ok-reserve.ensures.items _;
      frees = record { freed = λ k h. tt; kept = λ r used. subst (λ regions. Contains regions r) (sym none) used };
    }

pub returns-in-Ok : goal.returns-in-Ok
returns-in-Ok g c =
    let reserved = MatchOption-at_some _ _ c.in-Some.region c.in-Some.is c.in_ok-region.ensures.ok in
    let s = c.args.self.now in
    let it = begun_large g.T.State g.D.Disk s c.staged_upload.new.self c.region_held.new.rows c.begin_upload-2.new.self
    c.args.upload.now c.in_ok-staged_upload.field-0 c.in_ok-staged_upload.ensures
    c.id_of-replaced.result c.id_of-replaced.ensures c.in_ok-freed.freed (rw c.deref.ensures.value at c.in_ok-freed.ensures)
    c.in-Ok.id c.in-Ok.ensures (search rules) c.reserve-2.new.self c.give_back-in-Ok.new.regions c.add.new.staged
    c.give_back-in-Ok.new.disk c.forget_found-in-Ok.new.staged.items
    (record { id = c.in-Ok.id; draft = c.new-draft.result; is_sealed = false })
    refl c.new-draft.ensures.written
    (subst (IsReserved (regions_of s.regions) (regions_of c.reserve-2.new.self) c.args.upload.now.size)
    (sym c.new-draft.ensures.region) (rw c.get-2.ensures.value at reserved))
    (c.forget_found-in-Ok.ensures.items
    ∙ ap (others_of_found (option_map upload_number c.id_of-replaced.result)) c.in_ok-reserve.ensures.items)
    c.add.ensures c.give_back-in-Ok.ensures.freed c.give_back-in-Ok.ensures.kept in
    record { begins = it.0; frees = it.1 }

-- a size that is not below that of a piece is not 0
some_size : (asked read again : ℕ) → read ≡ asked → again ≡ asked → 65536 ≤ read → 0 < again
some_size asked read again one two large = omega arith

pub returns-in-Err : goal.returns-in-Err
returns-in-Err g c =
    let reserved = MatchOption-at_some _ _ c.in-Some.region c.in-Some.is c.in_ok-region.ensures.ok in
    let some = some_size c.args.upload.now.size c.get.result c.get-2.result c.get.ensures.value c.get-2.ensures.value
    c.if-get-lt-PIECE.false in
    let s = c.args.self.now in
    let first = c.staged_upload.ensures in
    let second = c.region_held.ensures in
    let again = used_again (regions_of s.regions) (regions_of c.reserve-2.new.self) c.get-2.result c.in-Some.region reserved some
    c.release.result (regions_of c.release.new.self) c.release.ensures in
    record {
      begins = begun_failed g.T.State g.D.Disk s c.staged_upload.new.self c.region_held.new.rows
          c.begin_upload-2.new.self c.args.upload.now first.same first.adds second.same second.adds c.release.new.self
          c.reserve.new.self again c.in_ok-reserve.ensures.items c.in-Err.fault c.in-Err.fault c.in-Err.ensures;
      frees = record { freed = λ k h. tt; kept = again };
    }
