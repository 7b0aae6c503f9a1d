use Rattle.desk.proofs.Prelude.{◌≡◌, ◌∙◌, None, Some, sym, ap, ap₂, find, bytes_eq, nat_lt, option_map}
use Rattle.tokens.specs.Bearers.{single_value}
use Rattle.desk.proofs.Foreseen.{expired_in, less, not_less, unknown_in, valid_in}
use Rattle.desk.proofs.foreseeing.caller_in.Goals as goal

pub returns-in_default-with_digest : goal.returns-in_default-with_digest
returns-in_default-with_digest c =
    let found = ap₂ (λ d tokens. find (λ o. bytes_eq o.digest d) tokens) (sym c.digest_of.ensures) (sym c.as_slice.ensures.value) ∙ sym c.in_default-with_digest.ensures in
    unknown_in c.args.view.now c.args.now (single_value (option_map (λ v. v.now) c.args.authorization)) c.in-Some.text.now (sym c.in-Some.ensures) found

pub returns-then-get : goal.returns-then-get
returns-then-get c =
    let found = ap₂ (λ d tokens. find (λ o. bytes_eq o.digest d) tokens) (sym c.digest_of.ensures) (sym c.as_slice.ensures.value) ∙ sym c.in-Some-with_digest.ensures in
    valid_in c.args.view.now c.args.now (single_value (option_map (λ v. v.now) c.args.authorization)) c.in-Some.text.now (sym c.in-Some.ensures) c.in-Some-with_digest.token.now found
    (ap₂ nat_lt (sym c.get.ensures.value) (sym c.get-2.ensures.value) ∙ less c.get.result c.get-2.result c.if-get.true)

pub returns-else-get : goal.returns-else-get
returns-else-get c =
    let found = ap₂ (λ d tokens. find (λ o. bytes_eq o.digest d) tokens) (sym c.digest_of.ensures) (sym c.as_slice.ensures.value) ∙ sym c.in-Some-with_digest.ensures in
    expired_in c.args.view.now c.args.now (single_value (option_map (λ v. v.now) c.args.authorization)) c.in-Some.text.now (sym c.in-Some.ensures) c.in-Some-with_digest.token.now found
    (ap₂ nat_lt (sym c.get.ensures.value) (sym c.get-2.ensures.value) ∙ not_less c.get.result c.get-2.result c.if-get.false)
