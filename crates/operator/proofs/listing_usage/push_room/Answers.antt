use Rattle.operator.proofs.Prelude.{◌∙◌, ◌++◌, ◌∷◌, [], List, ℕ, ap, append_assoc, refl, on_ok_weaker, text_of}
use Rattle.operator.proofs.listing_usage.push_room.Goals as goal

pub returns : goal.returns
returns c =
    rw c.in-Some.is
    (on_ok_weaker c.push.result
    (λ is. is ∙ ap (λ (it : List ℕ). text_of c.args.lines.now ++ it ++ 10 ∷ []) (c.as_bytes.ensures.value ∙ c.in_ok-text.ensures) ∙ simp (append_assoc) refl) c.push.ensures)
