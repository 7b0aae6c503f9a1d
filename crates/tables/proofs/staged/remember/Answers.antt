use Rattle.tables.proofs.Prelude.{◌≡◌, ◌++◌, ◌∷◌, [], refl, rules, repo_text, Remembered}
use Rattle.tables.proofs.Entries.{noted_at, noted_new}
use Rattle.tables.proofs.staged.remember.Goals as goal

pub returns-in-Some : goal.returns-in-Some
returns-in-Some c =
    noted_at c.args.known.items (repo_text c.args.repo.now) c.args.id c.in-Some.at c.index_mut.result.now _ (rw c.as_slice.ensures.value at c.in-Some.ensures) c.index_mut.ensures.value refl

pub returns : goal.returns
returns c =
    let entry : Remembered = record { repo = c.in-Ok.repo; id = c.args.id } in
    let pushed : c.push.new.self.items ≡ c.args.known.items ++ entry ∷ [] = search rules in
    noted_new c.args.known.items (repo_text c.args.repo.now) c.args.id entry c.push.new.self.items (rw c.as_slice.ensures.value at c.in_default.ensures) c.in-Ok.ensures refl pushed
