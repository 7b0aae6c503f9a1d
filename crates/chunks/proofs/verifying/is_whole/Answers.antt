use Rattle.std.proofs.Common.{◌≡◌, ◌++◌, None, rules, option_map, slice_get, subst, sym, ap, ◌∙◌}
use Rattle.sha2.specs.Hashers.{Holds256}
use Rattle.store.specs.Content.{content_bytes}
use Rattle.store.proofs.Moved.{moves_then, nothing_then}
use Rattle.chunks.specs.Intakes.{HasCounted}
use Rattle.chunks.proofs.Poured.{hashed_all, hashed_next, piece_read, was_open}
use Rattle.chunks.proofs.verifying.is_whole.Goals as goal

pub returns-in_err-chunk-clause-adds : goal.returns-in_err-chunk-clause-adds
returns-in_err-chunk-clause-adds g c = nothing_then g.S.State c.args.store.now c.chunks.store c.chunk.new.self c.chunks.invariant.adds c.chunk.ensures.adds

pub returns-in_default-clause-exact : goal.returns-in_default-clause-exact
returns-in_default-clause-exact g c clean ready bytes stores =
    let inv = c.chunks.invariant in
    let read = c.in_ok-chunk.ensures in
    let was = was_open g.S.State c.args.store.now c.chunks.store c.chunk.new.self c.args.upload.number c.chunks.n c.in_ok-chunk.field-0 inv.same read.same.was_honest read.answers clean ready in
    let st = stores (inv.same.was_honest (read.same.was_honest clean)) was in
    let at = piece_read g.S.State c.args.store.now c.chunks.store c.chunk.new.self c.args.upload.number c.chunks.n c.in_ok-chunk.field-0 inv.same read.same.was_honest read.answers clean ready st.0 st.1 in
    let none : slice_get st.0 c.chunks.n ≡ None = sym at ∙ ap (option_map content_bytes) c.in_default.is in
    c.are_named.ensures bytes (subst (HasCounted c.chunks.hasher c.chunks.count) st.2 (hashed_all c.chunks.hasher c.chunks.count c.chunks.n st.0 (inv.hashed (read.same.was_honest clean) ready st.0 st.1) none))

pub returns-in_default-checked_add-clause-adds : goal.returns-in_default-checked_add-clause-adds
returns-in_default-checked_add-clause-adds g c = nothing_then g.S.State c.args.store.now c.chunks.store c.chunk.new.self c.chunks.invariant.adds c.chunk.ensures.adds

pub chunks-preserved : goal.chunks-preserved
chunks-preserved g c = record {
  same = moves_then g.S.State c.args.store.now c.chunks.store c.chunk.new.self c.chunks.invariant.same c.in_ok-chunk.ensures.same;
  adds = nothing_then g.S.State c.args.store.now c.chunks.store c.chunk.new.self c.chunks.invariant.adds c.in_ok-chunk.ensures.adds;
  hashed = hashed_next g.S.State c.args.store.now c.chunks.store c.chunk.new.self c.args.upload.number c.chunks.n c.in_ok-chunk.field-0 c.in-Some.chunk c.chunks.hasher c.update.new.self c.chunks.count c.in-Some-checked_add.total
      c.in-Some.is c.chunks.invariant.same c.in_ok-chunk.ensures.same.was_honest c.in_ok-chunk.ensures.answers c.chunks.invariant.hashed (search rules)
      (λ front holds. subst (λ bytes. Holds256 c.update.new.self (front ++ bytes)) c.bytes-bytes.ensures (c.update.ensures front holds));
}

pub chunks-preserved-in-Some-checked_add : goal.chunks-preserved-in-Some-checked_add
chunks-preserved-in-Some-checked_add g c = record {
  same = moves_then g.S.State c.args.store.now c.chunks.store c.chunk.new.self c.chunks.invariant.same c.in_ok-chunk.ensures.same;
  adds = nothing_then g.S.State c.args.store.now c.chunks.store c.chunk.new.self c.chunks.invariant.adds c.in_ok-chunk.ensures.adds;
  hashed = hashed_next g.S.State c.args.store.now c.chunks.store c.chunk.new.self c.args.upload.number c.chunks.n c.in_ok-chunk.field-0 c.in-Some.chunk c.chunks.hasher c.update.new.self c.chunks.count c.in-Some-checked_add.total
      c.in-Some.is c.chunks.invariant.same c.in_ok-chunk.ensures.same.was_honest c.in_ok-chunk.ensures.answers c.chunks.invariant.hashed (search rules)
      (λ front holds. subst (λ bytes. Holds256 c.update.new.self (front ++ bytes)) c.bytes-bytes.ensures (c.update.ensures front holds));
}
