use Rattle.service.proofs.turn.deliver.Goals as goal

pub returns-in-Err-Sink-clause-sent : goal.returns-in-Err-Sink-clause-sent
returns-in-Err-Sink-clause-sent g c = rw c.in-Err-Sink.field-0-is at c.in-Err-Sink.ensures.sends

pub returns-in-Err-Store-clause-sent : goal.returns-in-Err-Store-clause-sent
returns-in-Err-Store-clause-sent g c = rw c.in-Err-Store.field-0-is at c.in-Err-Store.ensures.sends
