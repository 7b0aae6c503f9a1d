-- A reply that shows a verdict, or is the store refusal; for proofs in other crates.
use Rattle.desk.proofs.Prelude.{◌≡◌, ◌∙◌, Bool, true, false, cond, Some, Err, Ok, refl, sym, ap, subst, Ghosts, Rule, World, Answer, Denial, by_rule, by_lock, offers, serves, stores, confirms, makes_lock, lists, splits, releases, store_refusal, is_store_refusal, failed, answer_ending, Ends, Leads, ends_still, denial_changes_none, AnswersBy, IsReplyOf, ShowsIf, Reply, given_in, is_refused, is_s1_if}
use Rattle.names.specs.declared.rules.Rule.TheVariants as rule
use Rattle.model.specs.Answers.{is_s1, by_row}
use Rattle.model.specs.Replies.{reply_of}
use Rattle.model.specs.Steps.{after}
use Rattle.refinement.specs.Left.{Gives}

-- ---- the answer that a reply gives

rule_is : (given : Answer) → is_s1_if (reply_of given).rule ≡ is_store_refusal given
rule_is (Ok (offers some)) = refl
rule_is (Ok (serves o)) = refl
rule_is (Ok (stores o)) = refl
rule_is (Ok confirms) = refl
rule_is (Ok (makes_lock l)) = refl
rule_is (Ok (lists page)) = refl
rule_is (Ok (splits user page)) = refl
rule_is (Ok (releases l)) = refl
rule_is (Err (by_rule r)) = refl
rule_is (Err (by_row n right status)) = refl
rule_is (Err (by_lock l)) = refl

-- a reply is the store refusal exactly if it shows it
pub refused_is : (given : Answer) (reply : Reply) → IsReplyOf reply given → is_refused reply ≡ is_store_refusal given
refused_is given reply shows = ap is_s1_if shows.rule ∙ rule_is given

s1_same : (r : Rule) → cond (is_s1 r) store_refusal (Err (by_rule r)) ≡ Err (by_rule r)
s1_same rule.S1 = refl
s1_same _ = refl

refusal_same : (given : Answer) → cond (is_store_refusal given) store_refusal given ≡ given
refusal_same (Ok grant) = refl
refusal_same (Err (by_rule r)) = s1_same r
refusal_same (Err (by_row n right status)) = refl
refusal_same (Err (by_lock l)) = refl

-- a reply that shows the verdict gives it
pub given_same : (verdict : Answer) (reply : Reply) → IsReplyOf reply verdict → given_in verdict reply ≡ verdict
given_same verdict reply shows = ap (λ (v : Bool). cond v store_refusal verdict) (refused_is verdict reply shows) ∙ refusal_same verdict

-- and so it does with the store refusal
pub given_refusal : (verdict : Answer) (reply : Reply) → IsReplyOf reply store_refusal → given_in verdict reply ≡ store_refusal
given_refusal verdict reply shows = ap (λ (v : Bool). cond v store_refusal verdict) (refused_is store_refusal reply shows)

-- a reply that shows the verdict is one that shows it or is the store refusal
pub shows_verdict : (verdict : Answer) (reply : Reply) → IsReplyOf reply verdict → ShowsIf verdict reply
shows_verdict verdict reply shows = subst (IsReplyOf reply) (sym (given_same verdict reply shows)) shows

pub shows_refusal : (verdict : Answer) (reply : Reply) → IsReplyOf reply store_refusal → ShowsIf verdict reply
shows_refusal verdict reply shows = subst (IsReplyOf reply) (sym (given_refusal verdict reply shows)) shows

-- a reply shows the same, whatever it says of the body
pub still_shows : (given : Answer) (a b : Reply) (read : Bool) → b ≡ record a { body_read = read } → IsReplyOf a given → IsReplyOf b given
still_shows given a b read is shows = subst (λ (r : Reply). IsReplyOf r given) (sym is) (record { status = shows.status; rule = shows.rule; body = shows.body })

-- ---- what was done

module _ {S : Type 0} (g : Ghosts S) (old new : S) (world : World) (verdict : Answer) where
  -- the verdict was carried out, and the reply shows it
  pub told : (reply : Reply) → IsReplyOf reply verdict → Gives g old new world verdict verdict → AnswersBy g old new world verdict reply
  told reply shows gives = record {
    shows = shows_verdict verdict reply shows;
    gives = subst (Gives g old new world verdict) (sym (given_same verdict reply shows)) gives;
  }

  -- the store refused
  pub told_refusal : (reply : Reply) → IsReplyOf reply store_refusal → Gives g old new world verdict store_refusal → AnswersBy g old new world verdict reply
  told_refusal reply shows gives = record {
    shows = shows_refusal verdict reply shows;
    gives = subst (Gives g old new world verdict) (sym (given_refusal verdict reply shows)) gives;
  }

  -- the verdict is a denial, which leaves the world unchanged
  pub told_denial : (denial : Denial) (reply : Reply) → verdict ≡ Err denial → ShowsIf (Err denial) reply → Leads g old new world (λ bound. bound) → AnswersBy g old new world verdict reply
  told_denial denial reply is shows lead = subst (λ (v : Answer). AnswersBy g old new world v reply) (sym is) (record { shows = shows; gives = at (is_refused reply) })
    where
      at : (v : Bool) → Gives g old new world (Err denial) (cond v store_refusal (Err denial))
      at true = ends_still g old new failed world world refl lead
      at false = ends_still g old new (answer_ending world (Some (Err denial))) world world (denial_changes_none g world denial) lead
