-- Which rules refuse a head, and which refuse a request whose head is accepted.
use Rattle.std.proofs.Common.{◌≡◌, ℕ, Bool, true, false, not, ◌||◌, ◌&&◌, List, [], ◌∷◌, find, nat_lt, nat_le, length, refl, ap, Result, Ok, Err, Option, Some, None, codes, bytes_eq, is_some, ◌==◌}
use Rattle.std.specs.Result.{IfErr}
use Rattle.std.specs.Str.{is_utf8}
use Rattle.std.proofs.lemmas.Bool.{cond_both}
use Rattle.std.proofs.lemmas.Result.{IfErr-weaker}
use Rattle.httparse.specs.Grammar.{RequestHead}
use Rattle.serde_json.specs.Data.{Data, Num, null, boolean, number, string, array, object, Members}
use Rattle.serde_json.specs.Find.{get_member, as_str, as_number, as_bool, as_u64, as_i64}
use Rattle.names.specs.Texts.{is_lock_path, is_ref, is_hex_64, lock_id_in, last_lock_id, parts}
use Rattle.names.specs.declared.rules.Rule.{Rule}
use Rattle.names.specs.declared.rules.Rule.TheVariants as rule
use Rattle.model.specs.declared.Form.{Form}
use Rattle.model.specs.declared.Form.TheVariants as form
use Rattle.model.specs.declared.Right.{Right}
use Rattle.model.specs.declared.Right.TheVariants as right
use Rattle.names.specs.declared.operations.Operation.{Operation}
use Rattle.names.specs.declared.operations.Operation.TheVariants as operation
use Rattle.model.specs.Reading.{◌>>=◌, check, ok_or, none_or}
use Rattle.model.specs.Policy.{Policy, Decision, allowed, denied, decide, repo_named}
use Rattle.model.specs.World.{World, Lock, find_token, object_named, name_of}
use Rattle.model.specs.RepoState.{size_of, is_gone, has_room, lock_at}
use Rattle.model.specs.Forms.{Request, asks_batch, asks_get, asks_put, asks_verify, asks_lock, asks_list, asks_verify_locks, asks_unlock, BatchForm, request_of, batch_keys, batch_form, put_form, verify_form, lock_form, list_form, verify_locks_form, unlock_form, members_of, if_given, optional, required_member, as_name, as_array_of, as_batch_object, operation_in, is_if_given, has_basic, object_limit, query_value, query_values, query_single, query_ref, read_if_given, limit_in, whole_if_given, is_size}
use Rattle.model.specs.Heads.{Target, RouteRow, head_verdict, check_framing, is_measured, is_clear, is_small, at_most, form_of, accepts, values, route_at, routes, route_of_parts, path_of, repo_text, row_fits}
use Rattle.model.specs.Callers.{Caller, caller_by, bearer, pull_question, push_question, lock_question}
use Rattle.model.specs.Cases.{Setting, Case, case_in, DeskRequest}
use Rattle.model.specs.Answers.{Answer, Denial, by_rule, by_lock, by_rules, permit_by, permit, hiding_status, may_pull, may_push, is_rule, is_store_refusal, Plan, grants, sends, receives}
use Rattle.model.specs.Locks.{ref_or_default, new_lock, lock_verdict, list_verdict, verify_locks_verdict, unlock_verdict, visible_lock, release_verdict}
use Rattle.model.specs.Batch.{may_batch, batch_verdict}
use Rattle.model.specs.Pages.{cursor_in}
use Rattle.model.specs.Objects.{finish, verify_verdict}
use Rattle.model.specs.Verdict.{plan_to, plan_for, is_covered, caller_plan, desk_plan, desk_verdict, verdict, early_verdict, early_check, desk_request}
use Rattle.model.specs.Steps.{is_early, is_of_head, is_h7, is_x2}

-- ---- what a chain of checks may refuse with

pub fails : {A B E : Type 0} (P : E → Type 0) (r : Result A E) (f : A → Result B E) → IfErr r P → ((x : A) → IfErr (f x) P) → IfErr (r >>= f) P
fails P (Ok x) f is then = then x
fails P (Err e) f is then = is

pub check_fails : {E : Type 0} (P : E → Type 0) (test : Bool) (e : E) → P e → IfErr (check test e) P
check_fails P true e is = tt
check_fails P false e is = is

pub found_fails : {A E : Type 0} (P : E → Type 0) (o : Option A) (e : E) → P e → IfErr (ok_or o e) P
found_fails P (Some x) e is = tt
found_fails P None e is = is

pub none_fails : {A E : Type 0} (P : E → Type 0) (o : Option A) (e : A → E) → ((x : A) → P (e x)) → IfErr (none_or o e) P
none_fails P (Some x) e is = is x
none_fails P None e is = tt

pub rules_fail : {A : Type 0} (P : Denial → Type 0) (r : Result A Rule) → IfErr r (λ e. P (by_rule e)) → IfErr (by_rules r) P
rules_fail P (Ok x) is = tt
rules_fail P (Err e) is = is

-- ---- requests

-- a refusal that is neither the head's nor the store's
pub record IsLate (d : Denial) : Type 0 where
  pub early : is_rule is_early (Err d) ≡ false
  pub of_head : is_rule is_of_head (Err d) ≡ false
  pub method : is_rule is_h7 (Err d) ≡ false
  pub store : is_store_refusal (Err d) ≡ false

-- the same, and no content decides it
pub record IsOfPlan (d : Denial) : Type 0 where
  pub late : IsLate d
  pub content : is_rule is_x2 (Err d) ≡ false

abbrev pub IsLateRule : Rule → Type 0
IsLateRule r = IsOfPlan (by_rule r)

late : {d : Denial} → is_rule is_early (Err d) ≡ false → is_rule is_of_head (Err d) ≡ false → is_rule is_h7 (Err d) ≡ false → is_store_refusal (Err d) ≡ false → is_rule is_x2 (Err d) ≡ false
    → IsOfPlan d
late a b c d e = record { late = record { early = a; of_head = b; method = c; store = d }; content = e }

-- a check, a required value, and a rule before others
check_late : (test : Bool) (e : Rule) → IsLateRule e → IfErr (check test e) IsLateRule
check_late test e is = check_fails IsLateRule test e is

found_late : {A : Type 0} (o : Option A) (e : Rule) → IsLateRule e → IfErr (ok_or o e) IsLateRule
found_late o e is = found_fails IsLateRule o e is

rule_late : {A : Type 0} (r : Result A Rule) → IfErr r IsLateRule → IfErr (by_rules r) IsOfPlan
rule_late r is = rules_fail IsOfPlan r is

then_late : {A B : Type 0} (r : Result A Rule) (f : A → Result B Rule) → IfErr r IsLateRule → ((x : A) → IfErr (f x) IsLateRule) → IfErr (r >>= f) IsLateRule
then_late r f is then = fails IsLateRule r f is then

and_late : {A B : Type 0} (r : Result A Denial) (f : A → Result B Denial) → IfErr r IsOfPlan → ((x : A) → IfErr (f x) IsOfPlan) → IfErr (r >>= f) IsOfPlan
and_late r f is then = fails IsOfPlan r f is then

pub caller_fails : (world : World) (now : ℕ) (bearers : List (List ℕ)) → IfErr (caller_by world now bearers) IsLateRule
caller_fails world now bearers =
    then_late (ok_or (bearer bearers) rule.A1) _ (found_late (bearer bearers) rule.A1 (late refl refl refl refl refl)) (λ text.
    then_late (ok_or (find_token text world) rule.A2) _ (found_late (find_token text world) rule.A2 (late refl refl refl refl refl)) (λ t.
    then_late (check (nat_lt now t.expires) rule.A3) _ (check_late (nat_lt now t.expires) rule.A3 (late refl refl refl refl refl)) (λ good. tt)))

-- ---- what a form may refuse with

j1_late : IsLateRule rule.J1
j1_late = late refl refl refl refl refl

j2_late : IsLateRule rule.J2
j2_late = late refl refl refl refl refl

kind_late : {A : Type 0} (o : Option A) → IfErr (ok_or o rule.J1 >>= λ x. Ok (Some x)) IsLateRule
kind_late o = then_late (ok_or o rule.J1) (λ x. Ok (Some x)) (found_late o rule.J1 j1_late) (λ x. tt)

given_late : {A : Type 0} (kind : Data → Option A) (o : Option Data) → IfErr (if_given kind o) IsLateRule
given_late kind None = tt
given_late kind (Some null) = tt
given_late kind (Some (boolean b)) = kind_late (kind (boolean b))
given_late kind (Some (number n)) = kind_late (kind (number n))
given_late kind (Some (string text)) = kind_late (kind (string text))
given_late kind (Some (array xs)) = kind_late (kind (array xs))
given_late kind (Some (object ms)) = kind_late (kind (object ms))

optional_late : {A : Type 0} (kind : Data → Option A) (key : List ℕ) (members : Members) → IfErr (optional kind key members) IsLateRule
optional_late kind key members = given_late kind (get_member key members)

required_late : {A : Type 0} (kind : Data → Option A) (key : List ℕ) (members : Members) → IfErr (required_member kind key members) IsLateRule
required_late kind key members = then_late (optional kind key members) (λ value. ok_or value rule.J1) (optional_late kind key members) (λ value. found_late value rule.J1 j1_late)

members_late : (body : List ℕ) → IfErr (ok_or (members_of body) rule.J1) IsLateRule
members_late body = found_late (members_of body) rule.J1 j1_late

range_late : (test : Bool) → IfErr (check test rule.J2) IsLateRule
range_late test = check_late test rule.J2 j2_late

single_late : (values : List (List ℕ)) → IfErr (query_single values) IsLateRule
single_late [] = tt
single_late (value ∷ []) = tt
single_late (value ∷ more ∷ values) = j2_late

query_late : (key query : List ℕ) → IfErr (query_value key query) IsLateRule
unfolding query_value
query_late key query = single_late (query_values key query)

read_late : {A : Type 0} (reading : List ℕ → Option A) (o : Option (List ℕ)) → IfErr (read_if_given reading o) IsLateRule
read_late reading None = tt
read_late reading (Some text) = then_late (ok_or (reading text) rule.J2) (λ x. Ok (Some x)) (found_late (reading text) rule.J2 j2_late) (λ x. tt)

ref_late : (query : List ℕ) → IfErr (query_ref query) IsLateRule
ref_late query = then_late (query_value (codes "ref") query) _ (query_late (codes "ref") query) (λ ref. then_late (check (is_if_given is_ref ref) rule.J2) _ (range_late (is_if_given is_ref ref)) (λ in_range. tt))

whole_late : (o : Option Num) → IfErr (whole_if_given o) IsLateRule
whole_late None = tt
whole_late (Some n) = then_late (ok_or (as_i64 n) rule.J2) (λ z. Ok (Some z)) (found_late (as_i64 n) rule.J2 j2_late) (λ z. tt)

keys_late : (body : List ℕ) → IfErr (batch_keys body) IsLateRule
unfolding batch_keys
keys_late body =
    then_late (ok_or (members_of body) rule.J1) _ (members_late body) (λ members.
    then_late (required_member as_str (codes "operation") members) _ (required_late as_str (codes "operation") members) (λ name.
    then_late (optional (as_array_of as_str) (codes "transfers") members) _ (optional_late (as_array_of as_str) (codes "transfers") members) (λ transfers.
    then_late (optional as_name (codes "ref") members) _ (optional_late as_name (codes "ref") members) (λ ref.
    then_late (optional as_str (codes "hash_algo") members) _ (optional_late as_str (codes "hash_algo") members) (λ hash.
    then_late (required_member (as_array_of as_batch_object) (codes "objects") members) _ (required_late (as_array_of as_batch_object) (codes "objects") members) (λ objects. tt))))))

batch_late : (body : List ℕ) → IfErr (batch_form body) IsLateRule
unfolding batch_form
batch_late body =
    then_late (batch_keys body) _ (keys_late body) (λ keys.
    then_late (ok_or (operation_in keys.operation) rule.J2) _ (found_late (operation_in keys.operation) rule.J2 j2_late) (λ known.
    then_late (check (is_if_given is_ref keys.ref) rule.J2) _ (range_late (is_if_given is_ref keys.ref)) (λ in_range.
    then_late (check (nat_le (length keys.objects) object_limit) rule.J3) _ (check_late (nat_le (length keys.objects) object_limit) rule.J3 (late refl refl refl refl refl)) (λ few.
    then_late (check (is_if_given has_basic keys.transfers) rule.J4) _ (check_late (is_if_given has_basic keys.transfers) rule.J4 (late refl refl refl refl refl)) (λ basic. tt)))))

put_late : (parameter query : List ℕ) → IfErr (put_form parameter query) IsLateRule
unfolding put_form
put_late parameter query = then_late (check (is_hex_64 parameter) rule.J2) _ (range_late (is_hex_64 parameter)) (λ name. then_late (query_ref query) _ (ref_late query) (λ ref. tt))

verify_late : (query body : List ℕ) → IfErr (verify_form query body) IsLateRule
unfolding verify_form
verify_late query body =
    then_late (ok_or (members_of body) rule.J1) _ (members_late body) (λ members.
    then_late (required_member as_str (codes "oid") members) _ (required_late as_str (codes "oid") members) (λ oid.
    then_late (required_member as_number (codes "size") members) _ (required_late as_number (codes "size") members) (λ n.
    then_late (ok_or (as_u64 n) rule.J2) _ (found_late (as_u64 n) rule.J2 j2_late) (λ size.
    then_late (check (is_hex_64 oid && is_size size) rule.J2) _ (range_late (is_hex_64 oid && is_size size)) (λ in_range.
    then_late (query_ref query) _ (ref_late query) (λ ref. tt))))))

lock_late : (body : List ℕ) → IfErr (lock_form body) IsLateRule
unfolding lock_form
lock_late body =
    then_late (ok_or (members_of body) rule.J1) _ (members_late body) (λ members.
    then_late (required_member as_str (codes "path") members) _ (required_late as_str (codes "path") members) (λ path.
    then_late (optional as_name (codes "ref") members) _ (optional_late as_name (codes "ref") members) (λ ref.
    then_late (check (is_lock_path path && is_if_given is_ref ref) rule.J2) _ (range_late (is_lock_path path && is_if_given is_ref ref)) (λ in_range. tt))))

list_late : (query : List ℕ) → IfErr (list_form query) IsLateRule
unfolding list_form
list_late query =
    then_late (query_value (codes "path") query) _ (query_late (codes "path") query) (λ path.
    then_late (query_value (codes "id") query) _ (query_late (codes "id") query) (λ id_text.
    then_late (query_value (codes "refspec") query) _ (query_late (codes "refspec") query) (λ ref.
    then_late (query_value (codes "cursor") query) _ (query_late (codes "cursor") query) (λ cursor.
    then_late (query_value (codes "limit") query) _ (query_late (codes "limit") query) (λ limit_text.
    then_late (check (is_if_given is_lock_path path && is_if_given is_ref ref) rule.J2) _ (range_late (is_if_given is_lock_path path && is_if_given is_ref ref)) (λ in_range.
    then_late (read_if_given lock_id_in id_text) _ (read_late lock_id_in id_text) (λ id.
    then_late (read_if_given limit_in limit_text) _ (read_late limit_in limit_text) (λ limit. tt))))))))

verify_locks_late : (body : List ℕ) → IfErr (verify_locks_form body) IsLateRule
unfolding verify_locks_form
verify_locks_late body =
    then_late (ok_or (members_of body) rule.J1) _ (members_late body) (λ members.
    then_late (optional as_name (codes "ref") members) _ (optional_late as_name (codes "ref") members) (λ ref.
    then_late (optional as_str (codes "cursor") members) _ (optional_late as_str (codes "cursor") members) (λ cursor.
    then_late (optional as_number (codes "limit") members) _ (optional_late as_number (codes "limit") members) (λ n.
    then_late (check (is_if_given is_ref ref) rule.J2) _ (range_late (is_if_given is_ref ref)) (λ in_range.
    then_late (whole_if_given n) _ (whole_late n) (λ limit. tt))))))

unlock_late : (parameter body : List ℕ) → IfErr (unlock_form parameter body) IsLateRule
unfolding unlock_form
unlock_late parameter body =
    then_late (ok_or (members_of body) rule.J1) _ (members_late body) (λ members.
    then_late (optional as_bool (codes "force") members) _ (optional_late as_bool (codes "force") members) (λ force.
    then_late (optional as_name (codes "ref") members) _ (optional_late as_name (codes "ref") members) (λ ref.
    then_late (check (is_if_given is_ref ref) rule.J2) _ (range_late (is_if_given is_ref ref)) (λ in_range.
    then_late (ok_or (lock_id_in parameter) rule.J2) _ (found_late (lock_id_in parameter) rule.J2 j2_late) (λ id. tt)))))

pub request_fails : (form : Form) (parameter query body : List ℕ) → IfErr (request_of form parameter query body) IsLateRule
request_fails form.Batch parameter query body = then_late (batch_form body) _ (batch_late body) (λ asked. tt)
request_fails form.Get parameter query body = then_late (check (is_hex_64 parameter) rule.J2) _ (range_late (is_hex_64 parameter)) (λ name. tt)
request_fails form.Put parameter query body = then_late (put_form parameter query) _ (put_late parameter query) (λ asked. tt)
request_fails form.Verify parameter query body = then_late (verify_form query body) _ (verify_late query body) (λ asked. tt)
request_fails form.Lock parameter query body = then_late (lock_form body) _ (lock_late body) (λ asked. tt)
request_fails form.List parameter query body = then_late (list_form query) _ (list_late query) (λ asked. tt)
request_fails form.VerifyLocks parameter query body = then_late (verify_locks_form body) _ (verify_locks_late body) (λ asked. tt)
request_fails form.Unlock parameter query body = then_late (unlock_form parameter body) _ (unlock_late parameter body) (λ asked. tt)

-- ---- what the desk may refuse with

permit_late : (d : Decision) (r : Right) (status : ℕ) → IfErr (permit_by d r status) IsOfPlan
permit_late (allowed n) r status = tt
permit_late (denied n) r status = late refl refl refl refl refl

pull_late : (policy : Policy) (user repo : List ℕ) (status : ℕ) → IfErr (may_pull policy user repo status) IsOfPlan
pull_late policy user repo status = permit_late (decide policy (pull_question user repo)) right.Pull status

push_late : (policy : Policy) (user repo ref : List ℕ) → IfErr (may_push policy user repo ref) IsOfPlan
push_late policy user repo ref =
    permit_late (decide policy (push_question user repo ref)) right.Push (hiding_status (decide policy (pull_question user repo)))

cursor_late : (cursor : Option (List ℕ)) → IfErr (cursor_in cursor) IsLateRule
cursor_late None = tt
cursor_late (Some text) = found_late (lock_id_in text) rule.L4 (late refl refl refl refl refl)

plan_late : (answer : Answer) → IfErr answer IsOfPlan → IfErr (plan_to answer) IsOfPlan
plan_late answer is = and_late answer _ is (λ grant. tt)

module _ (c : Case) where
  policy : Policy
  policy = c.setting.policy

  lock_question_late : (r : Right) (l : Lock) → IfErr (permit c.setting.policy (lock_question r c.caller.user l) 403) IsOfPlan
  lock_question_late r l = permit_late (decide c.setting.policy (lock_question r c.caller.user l)) r 403

  release_late : (force : Bool) (l : Lock) → IfErr (release_verdict c force l) IsOfPlan
  release_late force l =
      cond_both (bytes_eq l.owner c.caller.user) _ _ (λ a. IfErr a IsOfPlan)
      (λ _. and_late (permit c.setting.policy (lock_question right.Lock c.caller.user l) 403) _ (lock_question_late right.Lock l) (λ may. tt))
      (λ _. and_late (by_rules (check force rule.L3)) _ (rule_late (check force rule.L3) (check_late force rule.L3 (late refl refl refl refl refl))) (λ forced.
      and_late (permit c.setting.policy (lock_question right.Force c.caller.user l) 403) _ (lock_question_late right.Force l) (λ may. tt)))

  batch_may_late : (asked : BatchForm) (op : Operation) → IfErr (may_batch c asked op) IsOfPlan
  batch_may_late asked operation.Download = pull_late c.setting.policy c.caller.user c.repo.name 404
  batch_may_late asked operation.Upload = push_late c.setting.policy c.caller.user c.repo.name (ref_or_default asked.ref c.repo)

  pub plan_fails : (left : ℕ) (asked : Request) → IfErr (plan_for c left asked) IsOfPlan
  plan_fails left (asks_batch asked) = plan_late (batch_verdict c asked) (and_late (may_batch c asked asked.operation) _ (batch_may_late asked asked.operation) (λ may. tt))
  plan_fails left (asks_get name) =
      and_late (may_pull c.setting.policy c.caller.user c.repo.name 404) _ (pull_late c.setting.policy c.caller.user c.repo.name 404) (λ may.
      and_late (by_rules (check (not (is_gone name c.state)) rule.X4)) _ (rule_late (check (not (is_gone name c.state)) rule.X4) (check_late (not (is_gone name c.state)) rule.X4 (late refl refl refl refl refl))) (λ there.
      and_late (by_rules (ok_or (size_of name c.state) rule.X1)) _ (rule_late (ok_or (size_of name c.state) rule.X1) (found_late (size_of name c.state) rule.X1 (late refl refl refl refl refl))) (λ size. tt)))
  plan_fails left (asks_put asked) =
      let room = has_room left c.state || is_some (size_of asked.name c.state) in
      and_late (may_push c.setting.policy c.caller.user c.repo.name (ref_or_default asked.ref c.repo)) _ (push_late c.setting.policy c.caller.user c.repo.name (ref_or_default asked.ref c.repo)) (λ may.
      and_late (by_rules (check (not (is_gone asked.name c.state)) rule.X4)) _ (rule_late (check (not (is_gone asked.name c.state)) rule.X4) (check_late (not (is_gone asked.name c.state)) rule.X4 (late refl refl refl refl refl))) (λ there.
      and_late (by_rules (check room rule.X3)) _ (rule_late (check room rule.X3) (check_late room rule.X3 (late refl refl refl refl refl))) (λ fits. tt)))
  plan_fails left (asks_verify asked) =
      plan_late (verify_verdict c asked)
      (and_late (may_push c.setting.policy c.caller.user c.repo.name (ref_or_default asked.ref c.repo)) _ (push_late c.setting.policy c.caller.user c.repo.name (ref_or_default asked.ref c.repo)) (λ may.
      and_late (by_rules (ok_or (size_of asked.name c.state) rule.V1)) _ (rule_late (ok_or (size_of asked.name c.state) rule.V1) (found_late (size_of asked.name c.state) rule.V1 (late refl refl refl refl refl))) (λ size.
      and_late (by_rules (check (size == asked.size) rule.V2)) _ (rule_late (check (size == asked.size) rule.V2) (check_late (size == asked.size) rule.V2 (late refl refl refl refl refl))) (λ same. tt))))
  plan_fails left (asks_lock asked) =
      let there = lock_at (ref_or_default asked.ref c.repo) asked.path c.state in
      let room = nat_lt c.state.made last_lock_id in
      plan_late (lock_verdict c asked)
      (and_late (permit c.setting.policy (lock_question right.Lock c.caller.user (new_lock c asked)) 403) _ (lock_question_late right.Lock (new_lock c asked)) (λ may.
      and_late (none_or there by_lock) _ (none_fails IsOfPlan there by_lock (λ l. late refl refl refl refl refl)) (λ free.
      and_late (by_rules (check room rule.L5)) _ (rule_late (check room rule.L5) (check_late room rule.L5 (late refl refl refl refl refl))) (λ some. tt))))
  plan_fails left (asks_list asked) =
      plan_late (list_verdict c asked)
      (and_late (may_pull c.setting.policy c.caller.user c.repo.name 403) _ (pull_late c.setting.policy c.caller.user c.repo.name 403) (λ may.
      and_late (by_rules (cursor_in asked.cursor)) _ (rule_late (cursor_in asked.cursor) (cursor_late asked.cursor)) (λ cursor. tt)))
  plan_fails left (asks_verify_locks asked) =
      let q = push_question c.caller.user c.repo.name (ref_or_default asked.ref c.repo) in
      plan_late (verify_locks_verdict c asked)
      (and_late (permit c.setting.policy q 403) _ (permit_late (decide c.setting.policy q) right.Push 403) (λ may.
      and_late (by_rules (cursor_in asked.cursor)) _ (rule_late (cursor_in asked.cursor) (cursor_late asked.cursor)) (λ cursor. tt)))
  plan_fails left (asks_unlock asked) =
      plan_late (unlock_verdict c asked)
      (and_late (by_rules (ok_or (visible_lock c asked.id) rule.L2)) _ (rule_late (ok_or (visible_lock c asked.id) rule.L2) (found_late (visible_lock c asked.id) rule.L2 (late refl refl refl refl refl))) (λ l. release_late asked.force l))

pub caller_plan_fails : (world : World) (setting : Setting) (caller : Caller) (asked : DeskRequest) → IfErr asked.request IsLateRule
    → IfErr (caller_plan world setting caller asked) IsOfPlan
caller_plan_fails world setting caller asked is =
    let own = bytes_eq caller.repo asked.repo in
    and_late (by_rules (check own rule.A4)) _ (rule_late (check own rule.A4) (check_late own rule.A4 (late refl refl refl refl refl))) (λ ok.
    and_late (by_rules (ok_or (repo_named asked.repo setting.policy) rule.R1)) _ (rule_late (ok_or (repo_named asked.repo setting.policy) rule.R1) (found_late (repo_named asked.repo setting.policy) rule.R1 (late refl refl refl refl refl))) (λ repo.
    and_late (by_rules asked.request) _ (rule_late asked.request is) (λ request.
    and_late (by_rules (check (is_covered caller request) rule.A5)) _ (rule_late (check (is_covered caller request) rule.A5) (check_late (is_covered caller request) rule.A5 (late refl refl refl refl refl))) (λ covered.
    plan_fails (case_in world setting caller repo) asked.left request))))

pub desk_plan_fails : (world : World) (setting : Setting) (asked : DeskRequest) → IfErr asked.request IsLateRule → IfErr (desk_plan world setting asked) IsOfPlan
desk_plan_fails world setting asked is =
    and_late (by_rules (caller_by world setting.now asked.bearers)) _ (rule_late (caller_by world setting.now asked.bearers) (caller_fails world setting.now asked.bearers)) (λ caller.
    caller_plan_fails world setting caller asked is)

finish_fails : (world : World) (repo body : List ℕ) (plan : Plan) → IfErr (finish world repo body plan) IsLate
finish_fails world repo body (grants g) = tt
finish_fails world repo body (sends name size) =
    let o = object_named repo name world in
    fails IsLate (by_rules (ok_or o rule.X1)) _ (rules_fail IsLate (ok_or o rule.X1) (found_fails (λ r. IsLate (by_rule r)) o rule.X1 (record { early = refl; of_head = refl; method = refl; store = refl }))) (λ o. tt)
finish_fails world repo body (receives name) =
    let same = bytes_eq name (name_of body) in
    fails IsLate (by_rules (check same rule.X2)) _ (rules_fail IsLate (check same rule.X2) (check_fails (λ r. IsLate (by_rule r)) same rule.X2 (record { early = refl; of_head = refl; method = refl; store = refl }))) (λ is. tt)

-- the desk never refuses with a rule of the head, nor with a store refusal
pub desk_fails : (world : World) (setting : Setting) (asked : DeskRequest) (body : List ℕ) → IfErr asked.request IsLateRule
    → IfErr (desk_verdict world setting asked body) IsLate
desk_fails world setting asked body is =
    fails IsLate (desk_plan world setting asked) _ (IfErr-weaker (desk_plan world setting asked) IsOfPlan IsLate (λ d of_plan. of_plan.late) (desk_plan_fails world setting asked is))
    (λ plan. finish_fails world asked.repo body plan)

-- ---- heads

abbrev pub IsHeadRule : Rule → Type 0
IsHeadRule r = is_of_head r ≡ true

framing_fails : (head : RequestHead) → IfErr (check_framing head) IsHeadRule
framing_fails head =
    fails IsHeadRule (check (at_most 0 (values (codes "transfer-encoding") head)) rule.H2) _ (check_fails IsHeadRule (at_most 0 (values (codes "transfer-encoding") head)) rule.H2 refl) (λ a.
    fails IsHeadRule (check (is_measured head) rule.H3) _ (check_fails IsHeadRule (is_measured head) rule.H3 refl) (λ b.
    fails IsHeadRule (check (is_clear head) rule.H4) _ (check_fails IsHeadRule (is_clear head) rule.H4 refl) (λ c.
    check_fails IsHeadRule (is_small head) rule.H5 refl)))

parts_fail : (parts : List (List ℕ)) → IfErr (route_of_parts parts) IsHeadRule
parts_fail ([] ∷ owner ∷ part ∷ rest) =
    fails IsHeadRule (check _ rule.H6) _ (check_fails IsHeadRule _ rule.H6 refl) (λ a.
    fails IsHeadRule (ok_or (repo_text owner part) rule.H6) _ (found_fails IsHeadRule (repo_text owner part) rule.H6 refl) (λ b.
    fails IsHeadRule (ok_or (find (row_fits rest) routes) rule.H6) _ (found_fails IsHeadRule (find (row_fits rest) routes) rule.H6 refl) (λ c. tt)))
parts_fail [] = refl
parts_fail ([] ∷ []) = refl
parts_fail ([] ∷ owner ∷ []) = refl
parts_fail ((b ∷ bs) ∷ rest) = refl

route_fails : (target : List ℕ) → IfErr (route_at target) IsHeadRule
route_fails target =
    fails IsHeadRule (check (is_utf8 target) rule.H6) _ (check_fails IsHeadRule (is_utf8 target) rule.H6 refl) (λ text. parts_fail (parts (path_of target)))

-- a head is refused with a rule of heads
pub head_fails : (head : RequestHead) → IfErr (head_verdict head) IsHeadRule
unfolding head_verdict
head_fails head =
    fails IsHeadRule (check_framing head) _ (framing_fails head) (λ whole.
    fails IsHeadRule (route_at head.target) _ (route_fails head.target) (λ route.
    fails IsHeadRule (ok_or (form_of head.method route.row.requests) rule.H7) _ (found_fails IsHeadRule (form_of head.method route.row.requests) rule.H7 refl) (λ form.
    let acceptable = not route.row.is_json || accepts (values (codes "accept") head) in
    fails IsHeadRule (check acceptable rule.H8) (λ ok. Ok (record { repo = route.repo; parameter = route.parameter; form = form })) (check_fails IsHeadRule acceptable rule.H8 refl) (λ ok. tt))))

-- ---- the verdict by what the head's is

pub verdict_refused : (world : World) (setting : Setting) (head : RequestHead) (body : List ℕ) (r : Rule) → head_verdict head ≡ Err r → verdict world setting head body ≡ Err (by_rule r)
unfolding verdict
verdict_refused world setting head body r e = ap (λ (v : Result Target Rule). by_rules v >>= λ target. desk_verdict world setting (desk_request head target body) body) e

pub early_refused : (world : World) (setting : Setting) (head : RequestHead) (r : Rule) → head_verdict head ≡ Err r → early_verdict world setting head ≡ Err (by_rule r)
unfolding early_verdict
early_refused world setting head r e = ap (λ (v : Result Target Rule). by_rules v >>= λ target. early_check target.form (desk_plan world setting (desk_request head target []))) e

pub verdict_at : (world : World) (setting : Setting) (head : RequestHead) (body : List ℕ) (target : Target) → head_verdict head ≡ Ok target
    → verdict world setting head body ≡ desk_verdict world setting (desk_request head target body) body
unfolding verdict
verdict_at world setting head body target e = ap (λ (v : Result Target Rule). by_rules v >>= λ t. desk_verdict world setting (desk_request head t body) body) e

pub early_at : (world : World) (setting : Setting) (head : RequestHead) (target : Target) → head_verdict head ≡ Ok target
    → early_verdict world setting head ≡ early_check target.form (desk_plan world setting (desk_request head target []))
unfolding early_verdict
early_at world setting head target e = ap (λ (v : Result Target Rule). by_rules v >>= λ t. early_check t.form (desk_plan world setting (desk_request head t []))) e
