use Rattle.cursor.proofs.Prelude.{◌≡◌, ◌∙◌, true, false, refl, sym, meets, lock_seen, form_of_filter}
use Rattle.std.proofs.lemmas.Fn.{says_at}
use Rattle.cursor.proofs.windows.is_wanted.Goals as goal

pub returns-then-not-meets : goal.returns-then-not-meets
returns-then-not-meets g c repo sees answers =
    let e : meets (form_of_filter c.args.wanted.now) (lock_seen repo c.args.row.now) ≡ false = sym (c.meets.ensures repo) ∙ c.if-not-meets.true in
    rw e refl

pub returns : goal.returns
returns g c repo sees answers =
    let e : meets (form_of_filter c.args.wanted.now) (lock_seen repo c.args.row.now) ≡ true = sym (c.meets.ensures repo) ∙ c.if-not-meets.false in
    rw e (answers c.args.row.now c.visible.result (says_at g.V.Fn c.visible.ensures refl))
