use Rattle.desk.proofs.Prelude.{◌∙◌, [], sym, refl, err_from_is_err_and, repo_text, Refused, leads_none, keeps_still}
use Rattle.desk.specs.declared.receiving.ReceiveFault.TheVariants as fault
use Rattle.desk.proofs.Arriving.{read_none, received_none, received}
use Rattle.desk.proofs.receiving.receive.Goals as goal

pub returns-in_default-clause-bytes : goal.returns-in_default-clause-bytes
returns-in_default-clause-bytes g c =
    let old = c.args.store.now in
    let content = c.args.content.now in (
      [],
      read_none g.B.Body content content (g.met.B.Body.moves_none content) refl,
      record {
        honest = λ k. k;
        each = λ k world h. received_none g.S.State old old world (repo_text c.args.repo.now) c.args.name.now [] (g.B.Body.size content) (fault.Store Refused) (keeps_still g.S.State old old world (leads_none g.S.State old world h));
      },
    )

pub returns-in_err-upload-clause-bytes : goal.returns-in_err-upload-clause-bytes
returns-in_err-upload-clause-bytes g c =
    let content = c.args.content.now in
    let begun = c.in_err-upload.ensures in
    let p = err_from_is_err_and c.from_residual.result c.from_residual.ensures.1 in
    rw p.1 (
      [],
      read_none g.B.Body content content (g.met.B.Body.moves_none content) refl,
      record {
        honest = begun.honest;
        each = λ k world h. received_none g.S.State c.args.store.now c.begin.new.store world (repo_text c.args.repo.now) c.args.name.now [] (g.B.Body.size content) p.0 (begun.each k world h);
      },
    )

pub returns-clause-bytes : goal.returns-clause-bytes
returns-clause-bytes g c =
    let came = c.receive_staged-received.ensures.bytes in (
      came.0,
      came.1,
      received g.S.State c.args.store.now c.begin.new.store c.receive_staged-received.new.store c.clear.new.store c.in_ok-upload.upload (repo_text c.args.repo.now) c.args.name.now c.in-Some.size came.0 (g.B.Body.size c.receive_staged-received.new.content)
          c.receive_staged-received.result c.args.repo.now.in_range (came.1.size ∙ sym c.left.ensures ∙ sym c.in-Some.ensures.value) c.in_ok-upload.ensures came.2 c.clear.ensures,
    )
