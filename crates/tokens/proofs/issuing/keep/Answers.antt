use Rattle.tokens.proofs.Prelude.{◌∙◌, ℕ, List, ap, pos, sha256, user_text, repo_text, code_of}
use Rattle.tables.specs.Rows as row
use Rattle.refinement.proofs.Leading.{was_by}
use Rattle.tokens.proofs.Kept.{keeps_by}
use Rattle.tokens.proofs.issuing.keep.Goals as goal

pub returns : goal.returns
returns g c =
    let old = c.args.store.now in
    let new = c.add_token.new.self in
    let r = c.add_token.result in
    let e = c.add_token.ensures in
    let asked = c.args.asked.now in
    let digest = c.digest-digest.ensures ∙ ap sha256 c.as_bytes.ensures.value in
    let row_of : List ℕ → row.Token = λ d. record { rowid = pos 0; digest = d; user = user_text asked.user.now; repo = repo_text asked.repo.now; op = code_of asked.operation; expires = pos c.args.expires } in
    record {
      honest = was_by g.S.State _ old new r e.made e.failed;
      each = λ honest world h.
          keeps_by g.S.State old new world h honest asked c.args.text.now c.args.expires (row_of c.digest-digest.result) r (ap row_of digest) (e.answers honest h.ready) e.made e.failed;
    }
