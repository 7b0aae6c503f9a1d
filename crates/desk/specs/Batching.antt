-- A batch of objects.
use Rattle.std.specs.Prelude.{◌≡◌, ℕ, ◌-◌, ◌==◌, List, Option, Some, None, Result, Ok, Err, ⊤}
use Rattle.names.specs.Names.{repo_text, ref_text}
use Rattle.names.specs.declared.rules.Rule.{Rule}
use Rattle.names.specs.declared.rules.Rule.TheVariants.{B1, B4, B5}
use Rattle.names.specs.declared.operations.Operation.{Operation}
use Rattle.names.specs.declared.operations.Operation.TheVariants as operation
use Rattle.model.specs.Reading.{◌>>=◌, check, ok_or, or_default}
use Rattle.model.specs.RepoState.{RepoState, size_of, has_room}
use Rattle.model.specs.Forms.{BatchObject, BatchForm}
use Rattle.model.specs.Answers.{Denial, may_pull, may_push}
use Rattle.model.specs.Batch.{valid_size, check_hash, check_gone}
use Rattle.forms.specs.declared.offers.Actions.{Actions}
use Rattle.forms.specs.declared.offers.Actions.TheVariants.{Download, Upload, Stored}
use Rattle.forms.specs.declared.offers.Links.{Links}
use Rattle.forms.specs.declared.offers.Offer.{Offer}
use Rattle.desk.specs.Rights.{case_policy, case_repo, case_user}
use Rattle.desk.specs.declared.cases.Case.{Case}
use Rattle.desk.specs.declared.batching.NamedObject.{NamedObject}

-- the size of an object whose name and size are valid, in a batch by a hash that is served; or B2 or B3
abbrev pub sound_size : Option (List ℕ) → BatchObject → Result ℕ Rule
sound_size hash_algo o = valid_size o >>= λ size. check_hash hash_algo >>= λ hash. Ok size

-- the object has the name and the size that were given, and both are valid; or the rule that refuses it
abbrev pub IsSound : Option (List ℕ) → BatchObject → Result NamedObject Rule → Type 0
IsSound hash_algo o (Ok named) = (sound_size hash_algo o ≡ Ok named.size) × (named.name ≡ o.oid)
IsSound hash_algo o (Err rule) = sound_size hash_algo o ≡ Err rule

-- what can be done with an object of this size, by the size with which one of its name is stored
abbrev pub actions_for : RepoState → Operation → Option ℕ → ℕ → Result Actions Rule
actions_for state operation.Download stored size =
    ok_or stored B1 >>= λ there. check (there == size) B4 >>= λ same. Ok Download
actions_for state operation.Upload None size = check (has_room size state) B5 >>= λ fits. Ok Upload
actions_for state operation.Upload (Some there) size = check (there == size) B4 >>= λ same. Ok Stored

-- what can be done with an object of a batch, whose name may be retired
abbrev pub actions_on : RepoState → BatchForm → BatchObject → Result Actions Rule
actions_on state asked o =
    sound_size asked.hash_algo o >>= λ size. check_gone state o.oid >>= λ kept.
    actions_for state asked.operation (size_of o.oid state) size

-- an object as it was given, and what can be done with it
pub record Judged : Type 0 where
  pub oid : List ℕ
  pub size : ℕ
  pub actions : Result Actions Rule

-- an object as it was given, with these actions or this refusal; a size that is no whole number of 64 bits is 0
abbrev pub judged_as : BatchObject → Result Actions Rule → Judged
judged_as o actions = record { oid = o.oid; size = or_default o.size 0; actions = actions }

-- an object of a batch, judged by what the repository has
abbrev pub judged_on : RepoState → BatchForm → BatchObject → Judged
judged_on state asked o = judged_as o (actions_on state asked o)

-- an offer, as an object that was judged
abbrev pub judged_by : Offer → Judged
judged_by o = record { oid = o.oid.now; size = o.size; actions = o.actions }

-- the user may do this with objects of the ref
abbrev pub may_transfer : Case → Operation → List ℕ → Result ⊤ Denial
may_transfer case operation.Download ref = may_pull (case_policy case) (case_user case) (case_repo case).name 404
may_transfer case operation.Upload ref = may_push (case_policy case) (case_user case) (case_repo case).name ref

-- the links lead to the repository of the case, for uploads under this name of a ref, with the caller's token
pub record AreLinksOf (case : Case) (name : List ℕ) (links : Links) : Type 0 where
  pub base : links.base.now ≡ (case_policy case).base
  pub repo : repo_text links.repo.now ≡ (case_repo case).name
  pub ref : ref_text links.ref_name.now ≡ name
  pub token : links.token.now ≡ case.token.now
  pub expires_in : links.expires_in ≡ case.expires - case.now
