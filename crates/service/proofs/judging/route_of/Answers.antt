use Rattle.service.proofs.Prelude.{refl, sym, rule_seen}
use Rattle.wire.specs.declared.rules.HeadRule.TheVariants.{H6, H8}
use Rattle.routes.specs.Routes.{route_seen}
use Rattle.service.proofs.Judged.{not_framed, not_routed, not_served, not_accepted, asked, framing_rule, refused, unserved, puts}
use Rattle.service.proofs.judging.route_of.Goals as goal

pub returns-in-Err : goal.returns-in-Err
returns-in-Err c h shows =
    let no_frame = c.in-Err.ensures h shows in
    refused h c.refused_by.result c.in-Err.rule c.refused_by.ensures.rule c.refused_by.ensures.allow (not_framed h (rule_seen c.in-Err.rule) no_frame) (framing_rule h (rule_seen c.in-Err.rule) no_frame)

pub returns-in_default : goal.returns-in_default
returns-in_default c h shows =
    let refusal = c.refused_by-in_default in
    refused h refusal.result H6 refusal.ensures.rule refusal.ensures.allow (not_routed h (c.in-Ok.ensures h shows).0 (c.in_default.ensures h shows)) refl

pub returns-in_default-form_of : goal.returns-in_default-form_of
returns-in_default-form_of c h shows =
    let there = (c.in-Some.ensures h shows).0 in
    let other = rw (c.method.ensures h shows) at (sym c.in_default-form_of.ensures) in
    unserved h c.not_served.result (route_seen c.in-Some.route) c.not_served.ensures.rule there c.not_served.ensures.allow c.not_served.ensures.short
    (not_served h (route_seen c.in-Some.route) (c.in-Ok.ensures h shows).0 there other)

pub returns-then-not-accepts : goal.returns-then-not-accepts
returns-then-not-accepts c h shows =
    let refusal = c.refused_by-then-not-accepts in
    let served = rw (c.method.ensures h shows) at (sym c.in-Some-form_of.ensures) in
    refused h refusal.result H8 refusal.ensures.rule refusal.ensures.allow
    (not_accepted h (route_seen c.in-Some.route) c.in-Some-form_of.form (c.in-Ok.ensures h shows).0 (c.in-Some.ensures h shows).0 served (sym (c.if-not-accepts.ensures h shows))) refl

pub returns : goal.returns
returns c h shows =
    let served = rw (c.method.ensures h shows) at (sym c.in-Some-form_of.ensures) in
    record {
      target = asked h (route_seen c.in-Some.route) c.in-Some-form_of.form (c.in-Ok.ensures h shows).0 (c.in-Some.ensures h shows).0 served (sym (c.if-not-accepts.ensures h shows));
      query = (c.in-Some.ensures h shows).1;
      size = (c.in-Ok.ensures h shows).1;
      put = puts h c.in-Some.route.resource c.in-Some-form_of.form served;
    }
