-- The contents that worlds with equal views serve have one digest.
use Rattle.std.proofs.Common.{◌≡◌, ℕ, ◌<◌, List, [], ◌∷◌, refl, sym, ap, subst, ◌∙◌, arith, Result, Ok, Err, Option, Some, None, zero, suc, slice_index, IfOk, bytes_eq, ◌&&◌}
use Rattle.std.specs.Bool.{⊤}
use Rattle.std.specs.List.{AllByRecursion}
use Rattle.std.specs.Int.{w32, to_be_bytes}
use Rattle.std.proofs.lemmas.List.Elements.{recursion_from_All}
use Rattle.hex.specs.Hex.{IsBytes, decode_of}
use Rattle.hex.proofs.HexLemmas.{decode_of-encode_lower, decode_of-same}
use Rattle.sha2.specs.Sha256.{sha256, digest_bytes}
use Rattle.names.specs.declared.rules.Rule.TheVariants as rule
use Rattle.model.specs.declared.Form.{Form}
use Rattle.model.specs.declared.Form.TheVariants as form
use Rattle.model.specs.Reading.{◌>>=◌, check, ok_or}
use Rattle.model.specs.World.{World, Object, IsObject, object_named, name_of}
use Rattle.model.specs.Forms.{Request, asks_batch, asks_get, asks_put, asks_verify, asks_lock, asks_list, asks_verify_locks, asks_unlock}
use Rattle.model.specs.Callers.{Caller}
use Rattle.model.specs.Cases.{Setting}
use Rattle.model.specs.Answers.{Answer, Grant, stores, makes_lock, offers, serves, confirms, lists, splits, releases, by_rules, Plan, grants, sends, receives}
use Rattle.model.specs.Objects.{finish}
use Rattle.model.specs.Verdict.{desk_plan}
use Rattle.model.specs.Replies.{Reply, Body, content, reply_of}
use Rattle.model.specs.Views.{View, NoCaller, CallerRequest, to_desk, foresee}
use Rattle.model.specs.Laws.{AreAlike, answer_in, ViewsServeOneDigest}
use Rattle.model.proofs.Checks.{passed, then_any, ok_is}
use Rattle.model.proofs.Lists.{In, each_in, each_append, in_found}
use Rattle.model.proofs.Serving.{IsPlain, IsFrom, IsAsked, desk_from}
use Rattle.model.proofs.Views.{views_foretell}

-- ---- the name of some bytes has one digest

each_byte : (n : ℕ) → AllByRecursion (λ b. b < 256) (to_be_bytes w32 n)
each_byte n = (omega arith, (omega arith, (omega arith, (omega arith, tt))))

each_digest : (h : List ℕ) (n : ℕ) → AllByRecursion (λ b. b < 256) (digest_bytes h n)
unfolding digest_bytes
each_digest h zero = tt
each_digest h (suc n) = each_append (λ b. b < 256) (digest_bytes h n) (to_be_bytes w32 (slice_index h n)) (each_digest h n) (each_byte (slice_index h n))

are_bytes : (xs : List ℕ) → AllByRecursion (λ b. b < 256) xs → IsBytes xs
are_bytes [] all i = omega arith
are_bytes (x ∷ xs) all zero = all.0
are_bytes (x ∷ xs) all (suc i) = are_bytes xs all.1 i

digest_is_bytes : (m : List ℕ) → IsBytes (sha256 m)
unfolding sha256
digest_is_bytes m = are_bytes (sha256 m) (each_digest _ 8)

one_digest : (a b : List ℕ) → name_of a ≡ name_of b → sha256 a ≡ sha256 b
one_digest a b e =
    decode_of-same (name_of b) (sha256 a) (sha256 b)
    (subst (λ (t : List ℕ). decode_of t ≡ Ok (sha256 a)) e (decode_of-encode_lower (sha256 a) (digest_is_bytes a)))
    (decode_of-encode_lower (sha256 b) (digest_is_bytes b))

-- ---- what is served is stored

-- the form and the parameter of a request for a content
abbrev form_for : Request → Form
form_for (asks_get name) = form.Get
form_for _ = form.Put

abbrev name_for : Request → List ℕ
name_for (asks_put asked) = asked.name
name_for (asks_get name) = name
name_for _ = []

is_asked : (request : Request) → IsAsked (form_for request) (name_for request) request
is_asked (asks_put asked) = (refl, refl)
is_asked (asks_get name) = (refl, refl)
is_asked (asks_batch asked) = tt
is_asked (asks_verify asked) = tt
is_asked (asks_lock asked) = tt
is_asked (asks_list asked) = tt
is_asked (asks_verify_locks asked) = tt
is_asked (asks_unlock asked) = tt

abbrev ServesStored : World → Grant → Type 0
ServesStored world (serves o) = In world.objects o
ServesStored world _ = ⊤

plain_stored : (world : World) (g : Grant) → IsPlain g → ServesStored world g
plain_stored world (serves o) is = absurd is
plain_stored world (stores o) is = tt
plain_stored world (makes_lock l) is = tt
plain_stored world (offers some) is = tt
plain_stored world confirms is = tt
plain_stored world (lists page) is = tt
plain_stored world (splits user page) is = tt
plain_stored world (releases l) is = tt

found_stored : (world : World) (repo name : List ℕ) (o : Option Object) → object_named repo name world ≡ o
    → IfOk (by_rules (ok_or o rule.X1) >>= λ p. Ok (serves p)) (ServesStored world)
found_stored world repo name (Some o) e = in_found (λ p. bytes_eq p.repo repo && bytes_eq p.name name) world.objects o e
found_stored world repo name None e = tt

finish_stored : (world : World) (repo body : List ℕ) (f : Form) (parameter : List ℕ) (plan : Plan) → IsFrom f parameter plan → IfOk (finish world repo body plan) (ServesStored world)
finish_stored world repo body f parameter (grants g) is = plain_stored world g is
finish_stored world repo body f parameter (sends name size) is = found_stored world repo name (object_named repo name world) refl
finish_stored world repo body f parameter (receives name) is = then_any (ServesStored world) (by_rules (check (bytes_eq name (name_of body)) rule.X2)) _ (λ same. tt)

answer_stored : (world : World) (setting : Setting) (caller : Caller) (asked : CallerRequest) → IfOk (answer_in world setting caller asked) (ServesStored world)
answer_stored world setting caller asked =
    passed (IsFrom (form_for asked.request) (name_for asked.request)) (ServesStored world) (desk_plan world setting (to_desk caller.repo asked)) _
    (desk_from world setting (to_desk caller.repo asked) (form_for asked.request) (name_for asked.request) (is_asked asked.request))
    (λ plan is. finish_stored world caller.repo asked.body (form_for asked.request) (name_for asked.request) plan is)

served_is_object : (world : World) (setting : Setting) (caller : Caller) (asked : CallerRequest) (o : Object) → AllByRecursion IsObject world.objects
    → answer_in world setting caller asked ≡ Ok (serves o) → IsObject o
served_is_object world setting caller asked o all e =
    each_in IsObject world.objects o all (ok_is (ServesStored world) (answer_in world setting caller asked) (serves o) e (answer_stored world setting caller asked))

-- ---- equal views

abbrev content_name : List ℕ → Body → List ℕ
content_name other (content name size) = name
content_name other _ = other

abbrev reply_or : Reply → Result Reply NoCaller → Reply
reply_or other (Ok r) = r
reply_or other (Err e) = other

foreseen : (a b : World) (alike : AreAlike a b)
    → reply_of (answer_in a alike.setting alike.caller alike.asked) ≡ reply_of (answer_in b alike.setting alike.caller alike.asked)
foreseen a b alike =
    let setting = alike.setting in
    let caller = alike.caller in
    let asked = alike.asked in
    ap (reply_or (reply_of (answer_in a setting caller asked)))
    (sym (views_foretell a setting caller asked alike.left alike.here)
    ∙ ap (λ (v : View). foresee v setting.now asked) alike.same
    ∙ views_foretell b setting caller asked alike.right alike.there)

same_name : (given other : Answer) (o p : Object) → given ≡ Ok (serves o) → other ≡ Ok (serves p) → reply_of given ≡ reply_of other → o.name ≡ p.name
same_name given other o p g h e =
    ap (λ (a : Answer). content_name [] (reply_of a).body) (sym g)
    ∙ ap (λ (r : Reply). content_name [] r.body) e
    ∙ ap (λ (a : Answer). content_name [] (reply_of a).body) h

pub views_serve_one_digest : ViewsServeOneDigest
views_serve_one_digest a b o p alike here there =
    let setting = alike.setting in
    let caller = alike.caller in
    let asked = alike.asked in
    let left = served_is_object a setting caller asked o (recursion_from_All IsObject a.objects alike.left.objects) here in
    let right = served_is_object b setting caller asked p (recursion_from_All IsObject b.objects alike.right.objects) there in
    one_digest o.bytes p.bytes (sym left.name ∙ same_name (answer_in a setting caller asked) (answer_in b setting caller asked) o p here there (foreseen a b alike) ∙ right.name)
