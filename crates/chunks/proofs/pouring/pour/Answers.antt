use Rattle.std.proofs.Common.{◌≡◌, ◌+◌, inl, inr, subst, List, ℕ, Some, slice_get, option_map, arith, refl, sym, ap, ◌∙◌}
use Rattle.std.proofs.KnownBytes.{Appends-nil}
use Rattle.store.specs.Content.{content_bytes}
use Rattle.tables.specs.declared.fault.StoreFault.TheVariants.{Refused}
use Rattle.store.proofs.Moved.{moves_none, nothing_none, moves_then, nothing_then}
use Rattle.chunks.specs.Pouring.{TookFront, TookAll}
use Rattle.chunks.proofs.Poured.{poured_more, poured_all, poured_part, piece_read, was_open, front_of}
use Rattle.chunks.proofs.pouring.pour.Goals as goal

pub chunks-init : goal.chunks-init
chunks-init g c = record {
  same = moves_none g.S.State c.args.store.now;
  adds = nothing_none g.S.State c.args.store.now;
  good = refl;
  begun = λ clean ready. inl (record { first = refl; none = refl; taken = Appends-nil (g.K.Sink.taken c.args.sink.now) });
  poured = λ clean ready pieces has. record { within = omega arith; count = refl; taken = Appends-nil (g.K.Sink.taken c.args.sink.now) };
}

pub chunks-preserved : goal.chunks-preserved
chunks-preserved g c =
    let a = c.args.store.now in
    let b = c.chunks.store in
    let d = c.read_chunk.new.store in
    let inv = c.chunks.invariant in
    let read = c.in-Ok-Some.ensures in
    let wrote = c.in-Ok.ensures in
    record {
      same = moves_then g.S.State a b d inv.same read.same;
      adds = nothing_then g.S.State a b d inv.adds read.adds;
      good = wrote.good ∙ inv.good;
      begun = λ clean ready. inr (was_open g.S.State a b d c.args.upload.number c.chunks.n c.in-Ok-Some.field-0 inv.same read.same.was_honest read.answers clean ready);
      poured = λ clean ready pieces has.
          let at = piece_read g.S.State a b d c.args.upload.number c.chunks.n c.in-Ok-Some.field-0 inv.same read.same.was_honest read.answers clean ready pieces has in
          let here : slice_get pieces c.chunks.n ≡ Some c.bytes.result.now = sym at ∙ ap (option_map content_bytes) c.in-Ok-Some.field-0-is ∙ ap Some (sym c.bytes.ensures) in
          poured_more (g.K.Sink.taken c.args.sink.now) (g.K.Sink.taken c.chunks.sink) (g.K.Sink.taken c.write_bytes.new.sink) c.chunks.written c.in-Ok.total c.chunks.n pieces c.bytes.result.now (inv.poured (read.same.was_honest clean) ready pieces has) here wrote.all.0 wrote.all.1;
    }

pub returns-in-Err-write_bytes-clause-part : goal.returns-in-Err-write_bytes-clause-part
returns-in-Err-write_bytes-clause-part g c clean ready bytes stores =
    let inv = c.chunks.invariant in
    let read = c.in-Ok-Some.ensures in
    let was = was_open g.S.State c.args.store.now c.chunks.store c.read_chunk.new.store c.args.upload.number c.chunks.n c.in-Ok-Some.field-0 inv.same read.same.was_honest read.answers clean ready in
    let st = stores (inv.same.was_honest (read.same.was_honest clean)) was in
    let pieces = st.0 in
    let has = st.1 in
    let part = c.in-Err-write_bytes.ensures.part in
    let at = piece_read g.S.State c.args.store.now c.chunks.store c.read_chunk.new.store c.args.upload.number c.chunks.n c.in-Ok-Some.field-0 inv.same read.same.was_honest read.answers clean ready pieces has in
    let here : slice_get pieces c.chunks.n ≡ Some c.bytes.result.now = sym at ∙ ap (option_map content_bytes) c.in-Ok-Some.field-0-is ∙ ap Some (sym c.bytes.ensures) in
    rw part.1 (subst (λ (bs : List ℕ). TookFront c.in-Err-write_bytes.fault.cause (g.K.Sink.taken c.args.sink.now) (g.K.Sink.taken c.write_bytes.new.sink) bs (c.chunks.written + part.0)) st.2 (poured_part c.in-Err-write_bytes.fault.cause (g.K.Sink.taken c.args.sink.now) (g.K.Sink.taken c.chunks.sink) (g.K.Sink.taken c.write_bytes.new.sink) c.chunks.written c.chunks.n part.0 pieces c.bytes.result.now (inv.poured (read.same.was_honest clean) ready pieces has) here part.2))

pub returns-in-Err-write_bytes-clause-fault : goal.returns-in-Err-write_bytes-clause-fault
returns-in-Err-write_bytes-clause-fault g c = rw c.chunks.invariant.good at c.in-Err-write_bytes.ensures.fault

pub returns-in-Err-write_bytes-clause-same : goal.returns-in-Err-write_bytes-clause-same
returns-in-Err-write_bytes-clause-same g c = moves_then g.S.State c.args.store.now c.chunks.store c.read_chunk.new.store c.chunks.invariant.same c.read_chunk.ensures.same

pub returns-in-Err-write_bytes-clause-adds : goal.returns-in-Err-write_bytes-clause-adds
returns-in-Err-write_bytes-clause-adds g c = nothing_then g.S.State c.args.store.now c.chunks.store c.read_chunk.new.store c.chunks.invariant.adds c.read_chunk.ensures.adds

pub returns-in-Ok-None-clause-all : goal.returns-in-Ok-None-clause-all
returns-in-Ok-None-clause-all g c clean ready bytes stores =
    let inv = c.chunks.invariant in
    let read = c.in-Ok-None.ensures in
    let was = was_open g.S.State c.args.store.now c.chunks.store c.read_chunk.new.store c.args.upload.number c.chunks.n c.in-Ok-None.field-0 inv.same read.same.was_honest read.answers clean ready in
    let st = stores (inv.same.was_honest (read.same.was_honest clean)) was in
    let pieces = st.0 in
    let has = st.1 in
    let at = piece_read g.S.State c.args.store.now c.chunks.store c.read_chunk.new.store c.args.upload.number c.chunks.n c.in-Ok-None.field-0 inv.same read.same.was_honest read.answers clean ready pieces has in
    subst (λ (bs : List ℕ). TookAll (g.K.Sink.taken c.args.sink.now) (g.K.Sink.taken c.chunks.sink) c.chunks.written bs) st.2 (poured_all (g.K.Sink.taken c.args.sink.now) (g.K.Sink.taken c.chunks.sink) c.chunks.written c.chunks.n pieces (inv.poured (read.same.was_honest clean) ready pieces has) (sym at ∙ ap (option_map content_bytes) c.in-Ok-None.field-0-is))

pub returns-in-Ok-None-clause-same : goal.returns-in-Ok-None-clause-same
returns-in-Ok-None-clause-same g c = moves_then g.S.State c.args.store.now c.chunks.store c.read_chunk.new.store c.chunks.invariant.same c.read_chunk.ensures.same

pub returns-in-Ok-None-clause-adds : goal.returns-in-Ok-None-clause-adds
returns-in-Ok-None-clause-adds g c = nothing_then g.S.State c.args.store.now c.chunks.store c.read_chunk.new.store c.chunks.invariant.adds c.read_chunk.ensures.adds

pub returns-in-Err-clause-part : goal.returns-in-Err-clause-part
returns-in-Err-clause-part g c clean ready bytes stores =
    let inv = c.chunks.invariant in
    let fault = c.in-Err.ensures.fault in
    let honest = c.read_chunk.ensures.same.was_honest clean in
    rw fault.0 (rw fault.2 (front_of g.S.State fault.1 c.args.store.now c.args.upload.number (g.K.Sink.taken c.args.sink.now) (g.K.Sink.taken c.chunks.sink) c.chunks.written c.chunks.n (inv.begun honest ready) (inv.poured honest ready) (inv.same.was_honest honest) bytes stores))

pub returns-in-Err-clause-fault : goal.returns-in-Err-clause-fault
returns-in-Err-clause-fault g c = rw c.in-Err.ensures.fault.2 c.chunks.invariant.good

pub returns-in-Err-clause-same : goal.returns-in-Err-clause-same
returns-in-Err-clause-same g c = moves_then g.S.State c.args.store.now c.chunks.store c.read_chunk.new.store c.chunks.invariant.same c.read_chunk.ensures.same

pub returns-in-Err-clause-adds : goal.returns-in-Err-clause-adds
returns-in-Err-clause-adds g c = nothing_then g.S.State c.args.store.now c.chunks.store c.read_chunk.new.store c.chunks.invariant.adds c.read_chunk.ensures.adds

pub returns-clause-part : goal.returns-clause-part
returns-clause-part g c clean ready bytes stores =
    let inv = c.chunks.invariant in
    front_of g.S.State Refused c.args.store.now c.args.upload.number (g.K.Sink.taken c.args.sink.now) (g.K.Sink.taken c.chunks.sink) c.chunks.written c.chunks.n (inv.begun clean ready) (inv.poured clean ready) (inv.same.was_honest clean) bytes stores
