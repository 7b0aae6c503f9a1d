use Rattle.cursor.proofs.Joined.{cut_seen}
use Rattle.cursor.proofs.pages.cut.Goals as goal

pub returns : goal.returns
returns c repo = rw (c.truncate.ensures.items, c.id_at-next.ensures, c.as_slice.ensures.value) (cut_seen repo c.args.limit c.args.found.items)
