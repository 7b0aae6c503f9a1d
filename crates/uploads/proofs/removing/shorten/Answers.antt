use Rattle.uploads.proofs.Prelude.{rules}
use Rattle.uploads.proofs.Swept.{shortens_read, shortens_more, shortens_failed}
use Rattle.uploads.proofs.removing.shorten.Goals as goal

pub parts-init : goal.parts-init
parts-init g c = record { most = c.in_ok-left.ensures.few; so_far = shortens_read g.S.State c.args.store.now c.later_parts.new.store c.in_ok-left.ensures.reads }

pub parts-preserved : goal.parts-preserved
parts-preserved g c = record {
  most = search rules;
  so_far = shortens_more g.S.State c.args.store.now c.parts.store c.shorten_upload.new.self c.args.id.number _ c.parts.invariant.so_far c.in_ok-shorten_upload.ensures.made;
}

pub returns-in_err-shorten_upload : goal.returns-in_err-shorten_upload
returns-in_err-shorten_upload g c =
    shortens_failed g.S.State c.args.store.now c.parts.store c.shorten_upload.new.self c.args.id.number _ c.parts.invariant.so_far c.in_err-shorten_upload.ensures.failed

pub returns : goal.returns
returns g c = c.parts.invariant.so_far
