-- The crate's values as values of the definitions.
use Rattle.std.specs.Prelude.{◌≡◌, List, ◌++◌, map, string_bytes}
use Rattle.policy_review.specs.declared.warning_list.Warning.{Warning}
use Rattle.policy_review.specs.declared.warning_list.Warning.TheVariants.{ShortToken, Entry, Right}
use Rattle.policy_review.specs.Warnings as spec

-- a warning, as the definitions have it
abbrev pub warning_view : Warning → spec.Warning
warning_view (ShortToken seconds) = spec.short_token seconds
warning_view (Entry row doubt text) = spec.of_entry row doubt (string_bytes text)
warning_view (Right row doubt) = spec.of_right row doubt

-- these warnings were added
abbrev pub Adds : List Warning → List Warning → List spec.Warning → Type 0
Adds before after more = map warning_view after ≡ map warning_view before ++ more
