use Rattle.tables.proofs.Prelude.{arith, ◌≡◌, ◌∷◌, [], List, ℕ, pos, Meta, inl, inr, Bool, true, false, IsTrue, refl, sym, ap, subst, ◌∙◌, Database, Held, state, HasCleanDisk, Part, repos, tokens, uploads, chunks, locks, Tables, HasNone}
use Rattle.tables.specs.Layout.{version_of}
use Rattle.tables.specs.Rows.{meta, retired}
use Rattle.tables.specs.Runs.{HasOurs, with_fresh}
use Rattle.tables.proofs.Once.{same_tables}
use Rattle.tables.proofs.Opened.{is_of_layout, laid_from, committed_once, not_none, ready_meta, ours_version, ours_safe, ours_only, ours_empty}
use Rattle.tables.proofs.Stages.{none_by, given, leads}
use Rattle.tables.proofs.schema.create_or_check.Goals as goal
use Rattle.tables.proofs.schema.create_or_check.Goals.{else-branch-via-then-branch+in_ok-has_number+else-branch-2, else-branch-via-else-branch}

-- the row of `meta` with one of two equal numbers
numbered : {n m : ℕ} → n ≡ m → ◌≡◌ {A = List Meta} (record { one = pos 1; version = pos n } ∷ []) (record { one = pos 1; version = pos m } ∷ [])
numbered same = λ i. record { one = pos 1; version = pos (same i) } ∷ []

pub returns-in_err-create-clause-survives : goal.returns-in_err-create-clause-survives
returns-in_err-create-clause-survives g c =
    let none = none_by c.schema.result.now c.args.conn.now.schema c.schema.ensures.value (c.has_none.ensures.meta c.if-has_none.true) (c.has_none.ensures.repos c.if-has_none.true) (c.has_none.ensures.tokens c.if-has_none.true) (c.has_none.ensures.uploads c.if-has_none.true) (c.has_none.ensures.chunks c.if-has_none.true) (c.has_none.ensures.locks c.if-has_none.true) (c.has_none.ensures.retired c.if-has_none.true) (c.has_none.ensures.unreferred c.if-has_none.true) in
    let laid = laid_from g.S.Store c.args.conn.now (g.met.S.Storage.in_order c.args.conn.now.store) c.schema.ensures.live (c.if-not-is_autocommit.ensures.settled refl) in
    leads g.S.Store c.args.conn.now c.create.new.conn none laid (version_of c.args.layout) c.create.ensures

pub returns-then-has_none-clause-survives : goal.returns-then-has_none-clause-survives
returns-then-has_none-clause-survives g c =
    let none = none_by c.schema.result.now c.args.conn.now.schema c.schema.ensures.value (c.has_none.ensures.meta c.if-has_none.true) (c.has_none.ensures.repos c.if-has_none.true) (c.has_none.ensures.tokens c.if-has_none.true) (c.has_none.ensures.uploads c.if-has_none.true) (c.has_none.ensures.chunks c.if-has_none.true) (c.has_none.ensures.locks c.if-has_none.true) (c.has_none.ensures.retired c.if-has_none.true) (c.has_none.ensures.unreferred c.if-has_none.true) in
    let laid = laid_from g.S.Store c.args.conn.now (g.met.S.Storage.in_order c.args.conn.now.store) c.schema.ensures.live (c.if-not-is_autocommit.ensures.settled refl) in
    leads g.S.Store c.args.conn.now c.create.new.conn none laid (version_of c.args.layout) c.create.ensures

pub returns-then-has_none-clause-ready : goal.returns-then-has_none-clause-ready
returns-then-has_none-clause-ready g c clean is_open =
    let none = none_by c.schema.result.now c.args.conn.now.schema c.schema.ensures.value (c.has_none.ensures.meta c.if-has_none.true) (c.has_none.ensures.repos c.if-has_none.true) (c.has_none.ensures.tokens c.if-has_none.true) (c.has_none.ensures.uploads c.if-has_none.true) (c.has_none.ensures.chunks c.if-has_none.true) (c.has_none.ensures.locks c.if-has_none.true) (c.has_none.ensures.retired c.if-has_none.true) (c.has_none.ensures.unreferred c.if-has_none.true) in
    let laid = laid_from g.S.Store c.args.conn.now (g.met.S.Storage.in_order c.args.conn.now.store) c.schema.ensures.live (c.if-not-is_autocommit.ensures.settled refl) in
    (c.in_ok-create.ensures.ok clean (given g.S.Store c.args.conn.now c.create.new.conn none laid)).1.kept

pub returns-then-has_none-clause-version : goal.returns-then-has_none-clause-version
unfolding with_fresh
returns-then-has_none-clause-version g c clean is_open =
    let none = none_by c.schema.result.now c.args.conn.now.schema c.schema.ensures.value (c.has_none.ensures.meta c.if-has_none.true) (c.has_none.ensures.repos c.if-has_none.true) (c.has_none.ensures.tokens c.if-has_none.true) (c.has_none.ensures.uploads c.if-has_none.true) (c.has_none.ensures.chunks c.if-has_none.true) (c.has_none.ensures.locks c.if-has_none.true) (c.has_none.ensures.retired c.if-has_none.true) (c.has_none.ensures.unreferred c.if-has_none.true) in
    let laid = laid_from g.S.Store c.args.conn.now (g.met.S.Storage.in_order c.args.conn.now.store) c.schema.ensures.live (c.if-not-is_autocommit.ensures.settled refl) in
    ap (λ (t : Tables). t.meta) (c.in_ok-create.ensures.ok clean (given g.S.Store c.args.conn.now c.create.new.conn none laid)).1.tables

pub returns-then-has_none-clause-ok : goal.returns-then-has_none-clause-ok
returns-then-has_none-clause-ok g c clean =
    let none = none_by c.schema.result.now c.args.conn.now.schema c.schema.ensures.value (c.has_none.ensures.meta c.if-has_none.true) (c.has_none.ensures.repos c.if-has_none.true) (c.has_none.ensures.tokens c.if-has_none.true) (c.has_none.ensures.uploads c.if-has_none.true) (c.has_none.ensures.chunks c.if-has_none.true) (c.has_none.ensures.locks c.if-has_none.true) (c.has_none.ensures.retired c.if-has_none.true) (c.has_none.ensures.unreferred c.if-has_none.true) in
    let laid = laid_from g.S.Store c.args.conn.now (g.met.S.Storage.in_order c.args.conn.now.store) c.schema.ensures.live (c.if-not-is_autocommit.ensures.settled refl) in
    let it = c.in_ok-create.ensures.ok clean (given g.S.Store c.args.conn.now c.create.new.conn none laid) in
    inl (none, it.0, it.1)

pub returns-then-has_none-clause-safe : goal.returns-then-has_none-clause-safe
returns-then-has_none-clause-safe g c clean trees left =
    let none = none_by c.schema.result.now c.args.conn.now.schema c.schema.ensures.value (c.has_none.ensures.meta c.if-has_none.true) (c.has_none.ensures.repos c.if-has_none.true) (c.has_none.ensures.tokens c.if-has_none.true) (c.has_none.ensures.uploads c.if-has_none.true) (c.has_none.ensures.chunks c.if-has_none.true) (c.has_none.ensures.locks c.if-has_none.true) (c.has_none.ensures.retired c.if-has_none.true) (c.has_none.ensures.unreferred c.if-has_none.true) in
    let laid = laid_from g.S.Store c.args.conn.now (g.met.S.Storage.in_order c.args.conn.now.store) c.schema.ensures.live (c.if-not-is_autocommit.ensures.settled refl) in
    ((state g.S.Store c.create.new.conn).now, (c.in_ok-create.ensures.ok clean (given g.S.Store c.args.conn.now c.create.new.conn none laid)).1.kept, c.in_ok-create.ensures.saved clean trees left)

pub returns-then-has_none-clause-only : goal.returns-then-has_none-clause-only
unfolding with_fresh
returns-then-has_none-clause-only g c clean db kept left =
    let none = none_by c.schema.result.now c.args.conn.now.schema c.schema.ensures.value (c.has_none.ensures.meta c.if-has_none.true) (c.has_none.ensures.repos c.if-has_none.true) (c.has_none.ensures.tokens c.if-has_none.true) (c.has_none.ensures.uploads c.if-has_none.true) (c.has_none.ensures.chunks c.if-has_none.true) (c.has_none.ensures.locks c.if-has_none.true) (c.has_none.ensures.retired c.if-has_none.true) (c.has_none.ensures.unreferred c.if-has_none.true) in
    let laid = laid_from g.S.Store c.args.conn.now (g.met.S.Storage.in_order c.args.conn.now.store) c.schema.ensures.live (c.if-not-is_autocommit.ensures.settled refl) in
    let it = c.in_ok-create.ensures.ok clean (given g.S.Store c.args.conn.now c.create.new.conn none laid) in
    inl (none, same_tables db (state g.S.Store c.create.new.conn).now kept it.1.kept (c.in_ok-create.ensures.saved clean db.trees left) ∙ it.1.tables)

pub returns-then-has_none-clause-ours : goal.returns-then-has_none-clause-ours
returns-then-has_none-clause-ours g c clean schema whole sound =
    let none = none_by c.schema.result.now c.args.conn.now.schema c.schema.ensures.value (c.has_none.ensures.meta c.if-has_none.true) (c.has_none.ensures.repos c.if-has_none.true) (c.has_none.ensures.tokens c.if-has_none.true) (c.has_none.ensures.uploads c.if-has_none.true) (c.has_none.ensures.chunks c.if-has_none.true) (c.has_none.ensures.locks c.if-has_none.true) (c.has_none.ensures.retired c.if-has_none.true) (c.has_none.ensures.unreferred c.if-has_none.true) in
    let laid = laid_from g.S.Store c.args.conn.now (g.met.S.Storage.in_order c.args.conn.now.store) c.schema.ensures.live (c.if-not-is_autocommit.ensures.settled refl) in
    let it = c.in_ok-create.ensures.ok clean (given g.S.Store c.args.conn.now c.create.new.conn none laid) in
    let settled = c.if-not-is_autocommit.ensures.settled refl it.0 in
    absurd (not_none (version_of c.args.layout) (state g.S.Store c.args.conn.now).committed.schema schema (subst (λ (d : Database). HasNone d.schema) settled none) (whole.parts.made meta (is_of_layout c.args.layout meta)) (committed_once g.S.Store c.args.conn.now schema it.0 c.schema.ensures.live sound))

pub returns-then-branch-2-clause-version : goal.returns-then-branch-2-clause-version
returns-then-branch-2-clause-version g c clean =
    let looks = c.in_ok-has_number.ensures in
    let ready = c.in_ok-has_our_tables.ensures.ready c.if-branch.true in
    let before : HasCleanDisk (state g.S.Store c.args.conn.now) = omega (arith, clean, looks.survives.clean) in
    let it = looks.answers (version_of c.args.layout) clean (ready_meta c.args.layout (state g.S.Store c.args.conn.now) (c.in_ok-has_our_tables.ensures.same.0 c.if-branch.true) (ready before)) in
    let ours : HasOurs (version_of c.args.layout) (state g.S.Store c.args.conn.now) = record { is_open = it.0; settled = c.if-not-is_autocommit.ensures.settled refl it.0; kept = ready before it.0; version = it.1.0 c.if-branch-2.true ∙ numbered c.number.ensures } in
    ours_version g.S.Store (version_of c.args.layout) c.args.conn.now c.has_number.new.conn ours (looks.same clean) looks.survives clean (g.met.S.Store.settled c.args.conn.now.store)

pub returns-then-branch-2-clause-safe : goal.returns-then-branch-2-clause-safe
returns-then-branch-2-clause-safe g c clean =
    let looks = c.in_ok-has_number.ensures in
    let ready = c.in_ok-has_our_tables.ensures.ready c.if-branch.true in
    let before : HasCleanDisk (state g.S.Store c.args.conn.now) = omega (arith, clean, looks.survives.clean) in
    let it = looks.answers (version_of c.args.layout) clean (ready_meta c.args.layout (state g.S.Store c.args.conn.now) (c.in_ok-has_our_tables.ensures.same.0 c.if-branch.true) (ready before)) in
    let ours : HasOurs (version_of c.args.layout) (state g.S.Store c.args.conn.now) = record { is_open = it.0; settled = c.if-not-is_autocommit.ensures.settled refl it.0; kept = ready before it.0; version = it.1.0 c.if-branch-2.true ∙ numbered c.number.ensures } in
    ours_safe g.S.Store (version_of c.args.layout) c.args.conn.now c.has_number.new.conn ours (looks.same clean) looks.survives clean (g.met.S.Store.settled c.args.conn.now.store)

pub returns-then-branch-2-clause-only : goal.returns-then-branch-2-clause-only
returns-then-branch-2-clause-only g c clean =
    let looks = c.in_ok-has_number.ensures in
    let ready = c.in_ok-has_our_tables.ensures.ready c.if-branch.true in
    let before : HasCleanDisk (state g.S.Store c.args.conn.now) = omega (arith, clean, looks.survives.clean) in
    let it = looks.answers (version_of c.args.layout) clean (ready_meta c.args.layout (state g.S.Store c.args.conn.now) (c.in_ok-has_our_tables.ensures.same.0 c.if-branch.true) (ready before)) in
    let ours : HasOurs (version_of c.args.layout) (state g.S.Store c.args.conn.now) = record { is_open = it.0; settled = c.if-not-is_autocommit.ensures.settled refl it.0; kept = ready before it.0; version = it.1.0 c.if-branch-2.true ∙ numbered c.number.ensures } in
    ours_only g.S.Store (version_of c.args.layout) c.args.conn.now c.has_number.new.conn ours (looks.same clean) looks.survives clean (g.met.S.Store.settled c.args.conn.now.store)

pub returns-then-branch-2-clause-empty : goal.returns-then-branch-2-clause-empty
returns-then-branch-2-clause-empty g c clean =
    let looks = c.in_ok-has_number.ensures in
    let ready = c.in_ok-has_our_tables.ensures.ready c.if-branch.true in
    let before : HasCleanDisk (state g.S.Store c.args.conn.now) = omega (arith, clean, looks.survives.clean) in
    let it = looks.answers (version_of c.args.layout) clean (ready_meta c.args.layout (state g.S.Store c.args.conn.now) (c.in_ok-has_our_tables.ensures.same.0 c.if-branch.true) (ready before)) in
    let ours : HasOurs (version_of c.args.layout) (state g.S.Store c.args.conn.now) = record { is_open = it.0; settled = c.if-not-is_autocommit.ensures.settled refl it.0; kept = ready before it.0; version = it.1.0 c.if-branch-2.true ∙ numbered c.number.ensures } in
    ours_empty g.S.Store (version_of c.args.layout) c.args.conn.now c.has_number.new.conn ours (looks.same clean) looks.survives clean (g.met.S.Store.settled c.args.conn.now.store)

pub returns-then-branch-2-clause-ours : goal.returns-then-branch-2-clause-ours
returns-then-branch-2-clause-ours g c clean schema all sound =
    let looks = c.in_ok-has_number.ensures in
    let ready = c.in_ok-has_our_tables.ensures.ready c.if-branch.true in
    let before : HasCleanDisk (state g.S.Store c.args.conn.now) = omega (arith, clean, looks.survives.clean) in
    let it = looks.answers (version_of c.args.layout) clean (ready_meta c.args.layout (state g.S.Store c.args.conn.now) (c.in_ok-has_our_tables.ensures.same.0 c.if-branch.true) (ready before)) in
    let ours : HasOurs (version_of c.args.layout) (state g.S.Store c.args.conn.now) = record { is_open = it.0; settled = c.if-not-is_autocommit.ensures.settled refl it.0; kept = ready before it.0; version = it.1.0 c.if-branch-2.true ∙ numbered c.number.ensures } in
    ours

never : (b : Bool) → b ≡ false → IsTrue b → ⊥
never true e h = absurd (cc)
never false e h = absurd (let a : false ≡ true = h in cc)

pub returns-else-branch-clause-unknown : goal.returns-else-branch-clause-unknown
returns-else-branch-clause-unknown g c clean _ = record {
  some = λ none.
      let here = subst HasNone (sym c.schema.ensures.value) none in
      let lack = λ (p : Part). (here.parts p).free in
      let bare = λ (p : Part). (here.parts p).unreferred in
      never c.has_none.result c.if-has_none.false (c.has_none.ensures.complete (lack meta, bare meta) (lack repos, bare repos) (lack tokens, bare tokens) (lack uploads, bare uploads) (lack chunks, bare chunks) (lack locks, bare locks) (lack retired, bare retired) here.unreferred);
  other = λ all version. elim c.else-branch.branch [
    | else-branch-via-then-branch+in_ok-has_number+else-branch-2 w ↦
        let there = subst (λ (h : Held _). HasCleanDisk (state g.S.Store h)) w.conn-is clean in
        let looks = w.in_ok-has_number.ensures in
        let before : HasCleanDisk (state g.S.Store c.args.conn.now) = omega (arith, there, looks.survives.clean) in
        let it = looks.answers (version_of c.args.layout) there (ready_meta c.args.layout (state g.S.Store c.args.conn.now) all (c.in_ok-has_our_tables.ensures.ready w.if-branch.true before)) in
        never w.in_ok-has_number.field-0 w.if-branch-2.false (it.1.1 (version ∙ sym (numbered w.number.ensures)))
    | else-branch-via-else-branch w ↦ never c.in_ok-has_our_tables.field-0 w.if-branch.false (c.in_ok-has_our_tables.ensures.same.1 all)
  ];
}
