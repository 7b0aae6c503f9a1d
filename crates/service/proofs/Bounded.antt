-- After a connection a repository has at most its quota and one largest object in the database.
use Rattle.service.proofs.Prelude.{◌≡◌, ◌≤◌, inl, inr, ℕ, List, [], ◌∷◌, map, All, ap, refl, arith, Run, Leads, IsTurn, Ghosts, World, Setting, Exchange, exchanged, AreUnder, bound_of_run, From, Holds, StaysWithin, Call, Serves, Served}
use Rattle.std.proofs.lemmas.List.Elements.{All-from_recursion, All-map, All-weaker, recursion_from_All}
use Rattle.model.specs.Laws.{HasQuotaWithin, quota_of}
use Rattle.model.proofs.Quota.{bound_in_quota, stays_in_quota}
use Rattle.uploads.proofs.Bounds.{leaves_within, stores_within}

-- each exchange is under the policy, whose quota is within the bound
quotas : (setting : Setting) (repo : List ℕ) (most : ℕ) (exchanges : List Exchange) → AreUnder setting exchanges → quota_of repo setting.policy ≤ most
    → All (HasQuotaWithin repo most) (map exchanged exchanges)
quotas setting repo most exchanges under within =
    All-map (HasQuotaWithin repo most) exchanged exchanges
    (All-weaker (λ e. e.setting ≡ setting) (λ e. quota_of repo e.setting.policy ≤ most) (λ e same. omega (arith, within, ap (λ (s : Setting). quota_of repo s.policy) same)) exchanges under)

-- a connection that was served, or refused as a whole
-- the exchanges of a run were answered
run_within : {S : Type 0} (g : Ghosts S) (setting : Setting) (world kept : World) (old new : S) (exchanges : List Exchange) → Holds g old world → AreUnder setting exchanges
    → Run world (map exchanged exchanges) kept → Leads g old new kept (bound_of_run world (map exchanged exchanges)) → StaysWithin g old new setting.policy world
run_within g setting world kept old new exchanges holds under run leads repo most within quota =
    let events = map exchanged exchanges in
    let all_within = quotas setting repo most exchanges under quota in (
      stores_within g new kept repo most leads.holds (stays_in_quota repo most world events kept holds.laws run all_within within),
      λ bound was all. leaves_within g new (bound_of_run world events bound) repo most (leads.left bound was)
          (bound_in_quota repo most world events kept holds.laws run (recursion_from_All (HasQuotaWithin repo most) events all_within) within bound all),
    )

-- a message was answered
pub turn_within : {S : Type 0} (g : Ghosts S) (setting : Setting) (world kept : World) (old new : S) (e : Exchange) → Holds g old world → IsTurn g setting world old new e kept → StaysWithin g old new setting.policy world
turn_within g setting world kept old new e holds turn =
    run_within g setting world kept old new (e ∷ []) holds (All-from_recursion (λ (x : Exchange). x.setting ≡ setting) (e ∷ []) (turn.under, tt)) (kept, turn.takes.step, refl) turn.takes.leads

pub serves_within : {S : Type 0} (g : Ghosts S) (call : Call) (world : World) (old new : S) (served : Served) → Holds g old world → Serves g call world old new served → StaysWithin g old new call.setting.policy world
serves_within g call world old new served holds (inl (bytes, consumes, is)) =
    run_within g call.setting world is.kept old new is.exchanges holds is.session.under is.session.run is.leads
serves_within g call world old new served holds (inr (failed, unread, is)) =
    λ repo most within quota. (
      stores_within g new world repo most is.leads.holds within,
      λ bound was all. leaves_within g new bound repo most (is.leads.left bound was) all,
    )

pub bounded : {S : Type 0} (g : Ghosts S) (call : Call) (old new : S) (served : Served) → From g old new (λ world. Serves g call world old new served)
    → From g old new (StaysWithin g old new call.setting.policy)
bounded g call old new served done = record {
  honest = done.honest;
  each = λ honest world holds. serves_within g call world old new served holds (done.each honest world holds);
}
