-- The question that the command `policy` asks.
use Rattle.std.specs.Prelude.{option_map}
use Rattle.names.specs.Names.{user_text, repo_text, ref_text, path_text}
use Rattle.model.specs.Policy.{Question}
use Rattle.command_line.specs.declared.policy_args.AskedQuestion.{AskedQuestion}

-- the question of the arguments, as the definitions have it
abbrev pub asked_view : AskedQuestion → Question
asked_view q = record {
  user = user_text q.user;
  repo = repo_text q.repo;
  right = q.right;
  ref = option_map ref_text q.ref_name;
  path = option_map path_text q.path;
}
