-- A reply is foreseen only for a caller.
use Rattle.std.proofs.Common.{◌≡◌, ℕ, inl, inr, ◌⊎◌, Bool, true, false, ◌&&◌, nat_lt, List, [], ◌∷◌, filter, map, refl, sym, ap, ◌∙◌, Result, Ok, Err, Option, Some, None, find, bytes_eq, cond, option_map}
use Rattle.std.proofs.lemmas.Bool.{true≢false}
use Rattle.std.proofs.lemmas.Option.{none-some, same_Some}
use Rattle.std.proofs.lemmas.Slice.Eq.{bytes_eq-Decides}
use Rattle.sha2.specs.Sha256.{sha256}
use Rattle.names.specs.declared.rules.Rule.{Rule}
use Rattle.names.specs.declared.rules.Rule.TheVariants as rule
use Rattle.model.specs.Reading.{◌>>=◌, check, ok_or}
use Rattle.model.specs.Orders.{text_before}
use Rattle.model.specs.Policy.{Policy}
use Rattle.model.specs.World.{World, Token, IsWorld, DiffersInDigest, find_token}
use Rattle.model.specs.Callers.{Caller, bearer}
use Rattle.model.specs.Views.{View, OwnToken, own_token, is_issued_to, tokens_of, view_of, NoCaller, no_caller, caller_in, plan_reply, plan_in}
use Rattle.model.specs.Laws.{IsCallerOf, OnlyCallersAreForeseen}
use Rattle.model.proofs.Lists.{In, IsOnly, only_filter, only_map, find_rising, find_map, find_filter, found_passes, in_found, each_in}
use Rattle.model.proofs.Tests.{both_true}
use Rattle.model.proofs.Once.{only_of}
use Rattle.model.proofs.Views.{caller_as}

-- the only element that passes is found
only_found : {A : Type 0} (p : A → Bool) (xs : List A) (x : A) → IsOnly p xs → In xs x → p x ≡ true → find p xs ≡ Some x
only_found p [] x only is e = absurd is
only_found {A = A} p (y ∷ ys) x only is e = at (p y) refl is (λ i. only_found p ys x only.1 i e)
  where
    at : (v : Bool) → p y ≡ v → (y ≡ x) ⊎ In ys x → (In ys x → find p ys ≡ Some x) → cond v (Some y) (find p ys) ≡ Some x
    at true on (inl same) rest = ap (λ (z : A). Some z) same
    at true on (inr i) rest = absurd (true≢false (sym e ∙ each_in (λ z. p z ≡ false) ys x (only.0 on) i))
    at false off (inl same) rest = absurd (true≢false (sym e ∙ ap p (sym same) ∙ off))
    at false off (inr i) rest = rest i

-- a token of the view is one of the world, of this user and this repository
pub record IsHeld (world : World) (user repo text : List ℕ) (k : OwnToken) : Type 0 where
  pub token : Token
  pub found : find_token text world ≡ Some token
  pub shown : own_token token ≡ k
  pub user_is : token.user ≡ user
  pub repo_is : token.repo ≡ repo

module _ (world : World) (user repo text : List ℕ) (w : IsWorld world) where
  abbrev has_digest : OwnToken → Bool
  has_digest t = bytes_eq t.digest (sha256 text)

  abbrev same : Token → Bool
  same t = bytes_eq (sha256 t.text) (sha256 text)

  abbrev own : Token → Bool
  own = is_issued_to user repo

  only_same : IsOnly same world.tokens
  only_same =
      only_of DiffersInDigest same world.tokens
      (λ x y differ a b. differ ((bytes_eq-Decides (sha256 x.text) (sha256 text)).0 a ∙ sym ((bytes_eq-Decides (sha256 y.text) (sha256 text)).0 b))) w.digests

  found_there : find has_digest (tokens_of user repo world) ≡ option_map own_token (find (λ t. own t && same t) world.tokens)
  found_there =
      find_rising (λ (a b : OwnToken). text_before a.digest b.digest) has_digest (map own_token (filter own world.tokens))
      (only_map has_digest own_token (filter own world.tokens) (only_filter same own world.tokens only_same))
      ∙ find_map has_digest own_token (filter own world.tokens)
      ∙ ap (option_map own_token) (find_filter same own world.tokens)

  held_token : (k : OwnToken) → find has_digest (tokens_of user repo world) ≡ Some k → IsHeld world user repo text k
  held_token k e = at (find (λ t. own t && same t) world.tokens) refl (sym found_there ∙ e)
    where
      at : (o : Option Token) → find (λ (t : Token). own t && same t) world.tokens ≡ o → option_map own_token o ≡ Some k → IsHeld world user repo text k
      at None is h = absurd (none-some k h)
      at (Some t) is h =
          let both = both_true (own t) (same t) (found_passes (λ (u : Token). own u && same u) world.tokens t is) in
          let ours = both_true (bytes_eq t.user user) (bytes_eq t.repo repo) both.0 in
          record {
            token = t;
            found = only_found same world.tokens t only_same (in_found (λ (u : Token). own u && same u) world.tokens t is) both.1;
            shown = same_Some (own_token t) k h;
            user_is = (bytes_eq-Decides t.user user).0 ours.0;
            repo_is = (bytes_eq-Decides t.repo repo).0 ours.1;
          }

-- the token that a caller of the view presents
pub record IsPresented (view : View) (now : ℕ) (bearers : List (List ℕ)) : Type 0 where
  pub text : List ℕ
  pub token : OwnToken
  pub bears : bearer bearers ≡ Some text
  pub found : find (λ (t : OwnToken). bytes_eq t.digest (sha256 text)) view.tokens ≡ Some token
  pub good : nat_lt now token.expires ≡ true

presented_good : (view : View) (now : ℕ) (bearers : List (List ℕ)) (text : List ℕ) (t : OwnToken) (v : Bool) (c : Caller) (r : Caller)
    → bearer bearers ≡ Some text → find (λ (k : OwnToken). bytes_eq k.digest (sha256 text)) view.tokens ≡ Some t → nat_lt now t.expires ≡ v
    → (check {E = NoCaller} v no_caller >>= λ good. Ok r) ≡ Ok c → IsPresented view now bearers
presented_good view now bearers text t true c r b f g e = record { text = text; token = t; bears = b; found = f; good = g }
presented_good view now bearers text t false c r b f g e = absurd (cc)

presented_token : (view : View) (now : ℕ) (bearers : List (List ℕ)) (text : List ℕ) (o : Option OwnToken) (c : Caller)
    → bearer bearers ≡ Some text → find (λ (k : OwnToken). bytes_eq k.digest (sha256 text)) view.tokens ≡ o
    → (ok_or {E = NoCaller} o no_caller >>= λ t. check (nat_lt now t.expires) no_caller >>= λ good. Ok (record { token = text; user = view.user; repo = view.repo; operation = t.operation; expires = t.expires })) ≡ Ok c
    → IsPresented view now bearers
presented_token view now bearers text None c b f e = absurd (cc)
presented_token view now bearers text (Some t) c b f e =
    presented_good view now bearers text t (nat_lt now t.expires) c (record { token = text; user = view.user; repo = view.repo; operation = t.operation; expires = t.expires }) b f refl e

presented : (view : View) (now : ℕ) (bearers : List (List ℕ)) (c : Caller) → caller_in view now bearers ≡ Ok c → IsPresented view now bearers
presented view now bearers c e = at (bearer bearers) refl e
  where
    at : (o : Option (List ℕ)) → bearer bearers ≡ o
        → (ok_or {E = NoCaller} o no_caller >>= λ text. ok_or (find (λ (k : OwnToken). bytes_eq k.digest (sha256 text)) view.tokens) no_caller >>= λ t.
        check (nat_lt now t.expires) no_caller >>= λ good. Ok (record { token = text; user = view.user; repo = view.repo; operation = t.operation; expires = t.expires })) ≡ Ok c
        → IsPresented view now bearers
    at None b h = absurd (cc)
    at (Some text) b h = presented_token view now bearers text (find (λ (k : OwnToken). bytes_eq k.digest (sha256 text)) view.tokens) c b refl h

is_caller : (world : World) (policy : Policy) (user repo : List ℕ) (now : ℕ) (bearers : List (List ℕ)) → IsWorld world
    → IsPresented (view_of world policy user repo) now bearers → IsCallerOf world now bearers (view_of world policy user repo)
is_caller world policy user repo now bearers w x =
    let h = held_token world user repo x.text w x.token x.found in
    record {
      caller = caller_as x.text h.token;
      is =
          ap (λ (o : Option (List ℕ)). ok_or {E = Rule} o rule.A1 >>= λ text. ok_or (find_token text world) rule.A2 >>= λ i. check (nat_lt now i.expires) rule.A3 >>= λ good. Ok (caller_as text i)) x.bears
          ∙ ap (λ (o : Option Token). ok_or {E = Rule} o rule.A2 >>= λ i. check (nat_lt now i.expires) rule.A3 >>= λ good. Ok (caller_as x.text i)) h.found
          ∙ ap (λ (v : Bool). check {E = Rule} v rule.A3 >>= λ good. Ok (caller_as x.text h.token)) (ap (λ (k : OwnToken). nat_lt now k.expires) h.shown ∙ x.good);
      user = h.user_is;
      repo = h.repo_is;
    }

pub only_callers_are_foreseen : OnlyCallersAreForeseen
only_callers_are_foreseen world policy user repo now asked r w e = at (caller_in (view_of world policy user repo) now asked.bearers) refl e
  where
    at : (v : Result Caller NoCaller) → caller_in (view_of world policy user repo) now asked.bearers ≡ v
        → (v >>= λ caller. Ok (plan_reply repo asked.body (plan_in (view_of world policy user repo) now caller asked))) ≡ Ok r
        → IsCallerOf world now asked.bearers (view_of world policy user repo)
    at (Err x) is h = absurd (cc)
    at (Ok c) is h = is_caller world policy user repo now asked.bearers w (presented (view_of world policy user repo) now asked.bearers c is)
