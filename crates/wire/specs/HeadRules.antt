-- The rules that refuse a head.
use Rattle.names.specs.declared.rules.Rule.{Rule}
use Rattle.names.specs.declared.rules.Rule.TheVariants as rule
use Rattle.wire.specs.declared.rules.HeadRule.{HeadRule}
use Rattle.wire.specs.declared.rules.HeadRule.TheVariants.{H1, H2, H3, H4, H5, H6, H7, H8}

-- the same rule among all rules
abbrev pub rule_seen : HeadRule → Rule
rule_seen H1 = rule.H1
rule_seen H2 = rule.H2
rule_seen H3 = rule.H3
rule_seen H4 = rule.H4
rule_seen H5 = rule.H5
rule_seen H6 = rule.H6
rule_seen H7 = rule.H7
rule_seen H8 = rule.H8
