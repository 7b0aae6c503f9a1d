use Rattle.std.proofs.Common.{◌≡◌, ◌∙◌, ℕ, Bool, true, false, List, Ok, Err, Result, ap, refl, subst, sym}
use Rattle.std.proofs.lemmas.Result.{err_from_is_err_and}
use Rattle.names.specs.Texts.{is_hex_64}
use Rattle.names.specs.declared.rules.Rule.{Rule}
use Rattle.names.specs.declared.rules.Rule.TheVariants.{J2}
use Rattle.model.specs.Reading.{◌>>=◌, check}
use Rattle.model.specs.Forms.{Request, asks_get, request_of}
use Rattle.forms.specs.Given.{Reads, within}
use Rattle.forms.specs.Requests.{request_asked}
use Rattle.forms.proofs.request.request_in.Goals as goal

-- a name that is refused is a request that is
refused : (name : List ℕ) (e : Rule) → within is_hex_64 name ≡ Err e → check (is_hex_64 name) J2 >>= (λ _. Ok (asks_get name)) ≡ Err e
refused name e = go (is_hex_64 name)
  where
    go : (b : Bool) → check b J2 >>= (λ _. Ok name) ≡ Err e → check b J2 >>= (λ _. Ok (asks_get name)) ≡ Err e
    go true h = absurd (cc)
    go false h = cc

pub returns-in_err-read_get-in-Get : goal.returns-in_err-read_get-in-Get
returns-in_err-read_get-in-Get c =
    let p = err_from_is_err_and c.from_residual-in_err-read_get-in-Get.result c.from_residual-in_err-read_get-in-Get.ensures.1 in
    let name = c.args.parameter.now in
    subst (λ r. Reads request_asked r (request_of c.args.form name c.args.query.now c.args.body.now)) (sym (p.1 ∙ ap Err p.2))
    (ap (λ f. request_of f name c.args.query.now c.args.body.now) c.in-Get.is ∙ refused name _ c.in_err-read_get-in-Get.ensures)
