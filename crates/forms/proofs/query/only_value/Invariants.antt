use Rattle.forms.proofs.Prelude.{◌≡◌, ◌++◌, option_map, cow_str_bytes, raw_pairs, values_among}
use Rattle.form_urlencoded.specs.Parse.{raw_pairs_left}
use Rattle.forms.proofs.Queries.{found_so_far}
use Rattle.forms.proofs.query.only_value.Given as goal

-- the value so far, and the pairs still to come
abbrev pub invariant-loop-name : goal.invariant-loop-name
invariant-loop-name l =
    values_among l.key (raw_pairs l.query)
    ≡ found_so_far (option_map cow_str_bytes l.found) ++ values_among l.key (raw_pairs_left l.name-iterator)
