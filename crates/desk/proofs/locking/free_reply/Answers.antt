use Rattle.desk.proofs.Prelude.{◌∙◌, Ok, Err, refl, sym, subst, IfOk-weaker, L5, makes_lock, by_rule, IsReplyOf}
use Rattle.desk.proofs.Making.{free_is, free_is_not}
use Rattle.desk.proofs.locking.free_reply.Goals as goal

pub returns-in_default : goal.returns-in_default
returns-in_default c =
    IfOk-weaker c.telling.result _ _ (λ reply is_reply l id at owner path. subst (IsReplyOf reply) (sym (free_is_not c.args.made l c.in_default.ensures)) (is_reply (Err (by_rule L5)) refl)) c.telling.ensures

pub returns : goal.returns
returns c =
    IfOk-weaker c.telling-2.result _ _ (λ reply is_reply l id at owner path. subst (IsReplyOf reply) (sym (free_is c.args.made l c.in-Some.ensures.1))
    (is_reply (Ok (makes_lock l)) (l, record { id = id ∙ sym c.in-Some.ensures.0; at = at; owner = owner; path = path }, refl))) c.telling-2.ensures
