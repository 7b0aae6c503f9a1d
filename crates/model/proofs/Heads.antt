-- The decisions that a head makes before its body is read.
use Rattle.std.proofs.Common.{◌≡◌, ℕ, true, false, List, [], refl, sym, ap, subst, ◌∙◌, Result, Ok, Err, None}
use Rattle.std.specs.Bool.{⊤}
use Rattle.std.proofs.lemmas.Option.{none-some}
use Rattle.httparse.specs.Grammar.{RequestHead}
use Rattle.names.specs.declared.rules.Rule.{Rule}
use Rattle.model.specs.declared.Form.{Form}
use Rattle.model.specs.declared.Form.TheVariants as form
use Rattle.model.specs.Reading.{◌>>=◌}
use Rattle.model.specs.World.{World}
use Rattle.model.specs.Forms.{request_of}
use Rattle.model.specs.Heads.{Target, head_verdict, query_of}
use Rattle.model.specs.Cases.{Setting, DeskRequest}
use Rattle.model.specs.Answers.{Denial, by_rules, Grant}
use Rattle.model.specs.Objects.{finish}
use Rattle.model.specs.Verdict.{desk_plan, desk_request, early_check, verdict, early_verdict, desk_verdict}
use Rattle.model.specs.Steps.{verdict_on, denial_alone, Message, message, bad_head, Exchange, Carries, by_verdict, by_refusal}
use Rattle.model.specs.Laws.{HeadDecides, TargetDecides, OnlyCutIsSilent, IsCutShort}

-- a refusal by an earlier check does not depend on the later checks
abbrev refused : {B E : Type 0} → E → Result ⊤ E → Result B E
refused d (Ok x) = Err d
refused d (Err e) = Err e

abbrev passes : {A E : Type 0} → Result A E → Result ⊤ E
passes r = r >>= λ _. Ok tt

err_stays : {A B E : Type 0} (r : Result A E) (C : A → Result B E) (d : E) → passes r ≡ Err d → (r >>= C) ≡ Err d
err_stays (Ok x) C d e = absurd (cc)
err_stays {B = B} {E = E} (Err x) C d e = ap (refused {B = B} d) e

-- an upload request is read without its body
same_put : (head : RequestHead) (target : Target) (body : List ℕ) → target.form ≡ form.Put → desk_request head target [] ≡ desk_request head target body
same_put head target body is =
    let p = target.parameter in let q = query_of head.target in
    ap (λ r. record (desk_request head target []) { request = r }) (ap (λ f. request_of f p q []) is ∙ sym (ap (λ f. request_of f p q body) is))

check_decides : (world : World) (setting : Setting) (head : RequestHead) (target : Target) (body : List ℕ) (f : Form) (denial : Denial) → target.form ≡ f
    → early_check f (desk_plan world setting (desk_request head target [])) ≡ Err denial → desk_verdict world setting (desk_request head target body) body ≡ Err denial
check_decides world setting head target body form.Put denial is e =
    err_stays (desk_plan world setting (desk_request head target body)) (λ plan. finish world target.repo body plan) denial
    (subst (λ (asked : DeskRequest). (desk_plan world setting asked >>= λ _. Ok tt) ≡ Err denial) (same_put head target body is) e)
check_decides world setting head target body form.Batch denial is e = absurd (cc)
check_decides world setting head target body form.Get denial is e = absurd (cc)
check_decides world setting head target body form.Verify denial is e = absurd (cc)
check_decides world setting head target body form.Lock denial is e = absurd (cc)
check_decides world setting head target body form.List denial is e = absurd (cc)
check_decides world setting head target body form.VerifyLocks denial is e = absurd (cc)
check_decides world setting head target body form.Unlock denial is e = absurd (cc)

pub target_decides : TargetDecides
target_decides world setting head target body denial e = check_decides world setting head target body target.form denial refl e

pub head_decides : HeadDecides
unfolding verdict early_verdict
head_decides world setting head body denial e = at (head_verdict head) e
  where
    at : (r : Result Target Rule) → (by_rules r >>= λ target. early_check target.form (desk_plan world setting (desk_request head target []))) ≡ Err denial
        → (by_rules r >>= λ target. desk_verdict world setting (desk_request head target body) body) ≡ Err denial
    at (Err x) h = ap (refused {B = Grant} denial) h
    at (Ok target) h = target_decides world setting head target body denial h

passes_if : (r : Result ⊤ Denial) → denial_alone r ≡ None → r ≡ Ok tt
passes_if (Ok x) e = refl
passes_if (Err d) e = absurd (none-some (Err d) (sym e))

message_cut : (old : World) (e : Exchange) (asked : Message) → e.asked ≡ asked → verdict_on old e.setting asked ≡ None → IsCutShort old e
message_cut old e (message head body true) is none = absurd (none-some (verdict old e.setting head body) (sym none))
message_cut old e (message head body false) is none = record { head = head; body = body; cut = is; passes = passes_if (early_verdict old e.setting head) none }
message_cut old e bad_head is none = absurd (cc)

silent : (old : World) (e : Exchange) (new : World) → Carries old e new → e.given ≡ None → IsCutShort old e
silent old e new (by_verdict given is) none = message_cut old e e.asked refl (sym given ∙ none)
silent old e new (by_refusal given sure is) none = absurd (cc)

pub only_cut_is_silent : OnlyCutIsSilent
only_cut_is_silent old e new step none = silent old e new step.carries none
