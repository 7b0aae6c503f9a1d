-- The line that is printed for a policy without a fault.
use Rattle.std.specs.Prelude.{ℕ, List, codes, decimal, length, ◌++◌}
use Rattle.model.specs.Policy.{Policy}

-- the line with the numbers of repositories and rows
abbrev pub counts_line : ℕ → ℕ → List ℕ
counts_line repos rows =
    codes "policy ok: " ++ decimal repos ++ codes " repositories, " ++ decimal rows ++ codes " rows"

-- the line of a policy without a fault
abbrev pub policy_line : Policy → List ℕ
policy_line policy = counts_line (length policy.repos) (length policy.rows)
