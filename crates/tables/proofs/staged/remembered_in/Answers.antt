use Rattle.tables.proofs.Prelude.{sym, ap, option_map, Some, ◌∙◌, repo_text, Remembered, upload_number, is_entry_of}
use Rattle.tables.proofs.Entries.{first_is}
use Rattle.tables.proofs.staged.remembered_in.Goals as goal

pub returns : goal.returns
returns c =
    let at = c.index-known-at in
    ap (λ (r : Remembered). Some (upload_number r.id)) (sym at.is)
    ∙ sym (ap (option_map (λ (r : Remembered). upload_number r.id)) (first_is (is_entry_of (repo_text c.args.repo.now)) c.args.known.now c.in_ok-at.at at.result c.in_ok-at.ensures at.is))
