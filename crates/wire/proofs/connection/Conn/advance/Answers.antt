use Rattle.wire.proofs.Prelude.{arith, refl, End, H1}
use Rattle.wire.specs.declared.connection.Stop.TheVariants.{Rule as ByRule}
use Rattle.wire.proofs.Advances.{stays_unread, stays_over, reads_from, takes, refuses, remembers, has_ended, is_bad, fails}
use Rattle.wire.proofs.connection.Conn.advance.Goals as goal

pub returns-then-self-gt0-clause-stopped : goal.returns-then-self-gt0-clause-stopped
returns-then-self-gt0-clause-stopped g c = stays_unread c.args.self.now c.if-self-gt0.true

pub returns-in-Some-clause-stopped : goal.returns-in-Some-clause-stopped
returns-in-Some-clause-stopped g c = stays_over c.args.self.now c.in-Some.stop (omega arith) c.in-Some.is

pub returns-in-Ok-clause-head : goal.returns-in-Ok-clause-head
returns-in-Ok-clause-head g c =
    let reads = reads_from c.args.self.now c.begin.new.self c.read_head.new.buffer c.read_head.new.source (omega arith) c.in_default.is
    c.begin.ensures.front c.read_head.ensures.bytes c.read_head.ensures.begun c.read_head.ensures.same_reference c.read_head.ensures.weight in
    takes c.accept.result c.args.self.now c.accept.new.self c.read_head.new.buffer c.read_head.new.source
    reads c.accept.ensures.source (c.in-Ok.ensures.good (λ bad. cc)) c.accept.ensures.over c.accept.ensures.ok

pub returns-in-Ok-clause-stopped : goal.returns-in-Ok-clause-stopped
returns-in-Ok-clause-stopped g c =
    let reads = reads_from c.args.self.now c.begin.new.self c.read_head.new.buffer c.read_head.new.source (omega arith) c.in_default.is
    c.begin.ensures.front c.read_head.ensures.bytes c.read_head.ensures.begun c.read_head.ensures.same_reference c.read_head.ensures.weight in
    refuses c.accept.result c.args.self.now c.accept.new.self c.read_head.new.buffer c.read_head.new.source
    reads c.accept.ensures.source (c.in-Ok.ensures.good (λ bad. cc)) c.accept.ensures.err

pub returns-in-Err-End-clause-stopped : goal.returns-in-Err-End-clause-stopped
returns-in-Err-End-clause-stopped g c =
    let reads = reads_from c.args.self.now c.begin.new.self c.read_head.new.buffer c.read_head.new.source (omega arith) c.in_default.is
    c.begin.ensures.front c.read_head.ensures.bytes c.read_head.ensures.begun c.read_head.ensures.same_reference c.read_head.ensures.weight in
    let same = c.stop.ensures.same in
    let halt = rw c.in-Err-End.field-0-is at c.in-Err-End.ensures.halt in
    remembers c.stop.result c.args.self.now c.stop.new.self c.read_head.new.buffer c.read_head.new.source End reads same
    (c.in-Err-End.ensures.good (λ bad. cc)) c.stop.ensures.over c.stop.ensures.result
    (has_ended c.args.self.now c.stop.new.self c.read_head.new.buffer c.read_head.new.source reads same.2 same.0 halt)

pub returns-in-Err-Bad-clause-stopped : goal.returns-in-Err-Bad-clause-stopped
returns-in-Err-Bad-clause-stopped g c =
    let reads = reads_from c.args.self.now c.begin.new.self c.read_head.new.buffer c.read_head.new.source (omega arith) c.in_default.is
    c.begin.ensures.front c.read_head.ensures.bytes c.read_head.ensures.begun c.read_head.ensures.same_reference c.read_head.ensures.weight in
    let same = c.stop-in-Err-Bad.ensures.same in
    let halt = rw c.in-Err-Bad.field-0-is at c.in-Err-Bad.ensures.halt in
    remembers c.stop-in-Err-Bad.result c.args.self.now c.stop-in-Err-Bad.new.self c.read_head.new.buffer c.read_head.new.source (ByRule H1) reads same
    (c.in-Err-Bad.ensures.good (λ bad. cc)) c.stop-in-Err-Bad.ensures.over c.stop-in-Err-Bad.ensures.result
    (is_bad c.args.self.now c.stop-in-Err-Bad.new.self c.read_head.new.buffer c.read_head.new.source reads same.2 halt)

pub returns-in-Err-Device-clause-stopped : goal.returns-in-Err-Device-clause-stopped
returns-in-Err-Device-clause-stopped g c =
    let reads = reads_from c.args.self.now c.begin.new.self c.read_head.new.buffer c.read_head.new.source (omega arith) c.in_default.is
    c.begin.ensures.front c.read_head.ensures.bytes c.read_head.ensures.begun c.read_head.ensures.same_reference c.read_head.ensures.weight in
    let halt = rw c.in-Err-Device.field-0-is at c.in-Err-Device.ensures.halt in
    fails c.args.self.now _ reads refl c.in_default.is halt
