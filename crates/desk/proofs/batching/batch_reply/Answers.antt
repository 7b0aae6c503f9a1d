use Rattle.desk.proofs.Prelude.{Ok, map, refl, IfOk-weaker, offers, offer_at}
use Rattle.desk.proofs.batching.batch_reply.Goals as goal

pub returns : goal.returns
returns c = IfOk-weaker c.telling.result _ _ (λ reply is_reply. is_reply (Ok (offers (map (offer_at c.args.links.now) c.args.objects.now))) refl) c.telling.ensures
