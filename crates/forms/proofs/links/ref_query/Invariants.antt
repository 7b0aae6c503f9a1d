use Rattle.forms.proofs.Prelude.{◌≡◌, ◌++◌, string_bytes}
use Rattle.form_urlencoded.specs.Serialize.{serialized_text}
use Rattle.names.specs.Names.{ref_text}
use Rattle.model.specs.Batch.{ref_query}
use Rattle.forms.proofs.links.ref_query.Given as goal

-- the query so far, and the text that is still to come
abbrev pub invariant-loop-piece : goal.invariant-loop-piece
invariant-loop-piece l =
    string_bytes l.query ++ serialized_text l.piece-iterator ≡ ref_query (ref_text l.ref_name)
