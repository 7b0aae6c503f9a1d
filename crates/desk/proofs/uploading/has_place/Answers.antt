use mir.Syntax.{w128}
use mir.Val.{SFits}
use Rattle.std.proofs.lemmas.Int.{to_z-of_z}
use Rattle.desk.proofs.Prelude.{rules, ◌≡◌, ◌∙◌, sym, ap, is_some, size_of, RepoState}
use Rattle.std.specs.Prelude.{int_le, pos}
use Rattle.desk.proofs.Reading.{none_ok, place_fits, place_found, repo_then}
use Rattle.desk.proofs.uploading.has_place.Goals as goal

pub returns-then-fits : goal.returns-then-fits
returns-then-fits g c = record {
  reads = c.in_ok-room.ensures.reads;
  each = λ honest state shown.
      let fits : SFits w128 c.in_ok-room.room = search rules in
      let room = ap (int_le (pos c.args.size)) (sym (to_z-of_z w128 c.in_ok-room.room fits ∙ c.in_ok-room.ensures.room honest state shown)) ∙ sym c.fits.ensures in
      sym (place_fits state c.args.size c.args.name.now (room ∙ c.if-fits.true));
}

pub returns : goal.returns
returns g c =
    let it = g.met.R.RepoReader in
    let fits : SFits w128 c.in_ok-room.room = search rules in
    repo_then it.reads_on it.was_honest it.shows_still {P = λ state. c.in_ok-room.room ≡ state.room} {Q = λ state. c.in_ok-found.found ≡ size_of c.args.name.now state}
    (λ state is found.
    let room = ap (int_le (pos c.args.size)) (sym (to_z-of_z w128 c.in_ok-room.room fits ∙ is)) ∙ sym c.fits.ensures in
    c.is_some.ensures ∙ ap is_some found ∙ sym (place_found state c.args.size c.args.name.now (room ∙ c.if-fits.false)))
    (record { reads = c.in_ok-room.ensures.reads; each = c.in_ok-room.ensures.room }) (record { reads = c.in_ok-found.ensures.reads; each = c.in_ok-found.ensures.size })
