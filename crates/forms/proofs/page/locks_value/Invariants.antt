use Rattle.forms.proofs.Prelude.{◌≡◌, map, take, lock_data, lock_shown}
use Rattle.serde_json.specs.View.{view}
use Rattle.forms.proofs.page.locks_value.Given as goal

abbrev pub invariant-loop-lock : goal.invariant-loop-lock
invariant-loop-lock l = map view l.values.items ≡ map lock_data (map lock_shown (take l.lock-index l.locks))
