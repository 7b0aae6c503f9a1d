-- A view, in the terms of the definitions.
use Rattle.std.specs.Prelude.{ℕ, List, map}
use Rattle.std.specs.Ordering.{nat_cmp}
use Rattle.std.specs.declared.cmp.Ordering.{Ordering}
use Rattle.std.specs.Cmp.Lexicographic.{slice_cmp}
use Rattle.names.specs.Names.{repo_text, user_text}
use Rattle.model.specs.RepoState as state
use Rattle.model.specs.Views as model
use Rattle.policy.specs.Values.{policy_view}
use Rattle.tables.specs.declared.rows.TokenRow.{TokenRow}
use Rattle.tables.specs.declared.rows.UploadRow.{UploadRow}
use Rattle.locks.specs.Finding.{lock_seen}
use Rattle.desk.specs.declared.views.OwnToken.{OwnToken}
use Rattle.desk.specs.declared.views.ObjectSize.{ObjectSize}
use Rattle.desk.specs.declared.views.View.{View}

-- a token
abbrev pub own_seen : OwnToken → model.OwnToken
own_seen t = record { digest = t.digest; operation = t.operation; expires = t.expires }

-- a token that the store returned
abbrev pub own_of : TokenRow → model.OwnToken
own_of row = record { digest = row.digest; operation = row.operation; expires = row.expires }

-- the order of tokens by digest
abbrev pub digest_cmp : OwnToken → OwnToken → Ordering
digest_cmp a b = slice_cmp nat_cmp a.digest b.digest

-- an object
abbrev pub size_seen : ObjectSize → state.ObjectSize
size_seen o = record { name = o.name; size = o.size }

-- an object that the store returned
abbrev pub size_of_row : UploadRow → state.ObjectSize
size_of_row row = record { name = row.oid; size = row.size }

-- what the user sees of the repository
abbrev pub state_seen : View → state.RepoState
state_seen v = record {
  objects = map size_seen v.objects.items;
  retired = v.retired.items;
  locks = map (lock_seen (repo_text v.repo.now)) v.locks.items;
  made = v.made;
  room = v.room;
}

-- the view
abbrev pub view_seen : View → model.View
view_seen v = record {
  user = user_text v.user.now;
  repo = repo_text v.repo.now;
  policy = policy_view v.policy.now;
  tokens = map own_seen v.tokens.items;
  state = state_seen v;
}
