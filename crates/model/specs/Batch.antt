-- The verdict on a batch (Git LFS API, Batch).
use Rattle.std.specs.Prelude.{ℕ, ◌-◌, ◌==◌, ◌&&◌, List, ◌++◌, map, Option, Some, None, Result, Ok, codes, bytes_eq, not, ⊤}
use Rattle.form_urlencoded.specs.Form.{byte_serialize}
use Rattle.names.specs.Texts.{is_hex_64}
use Rattle.names.specs.declared.rules.Rule.{Rule}
use Rattle.names.specs.declared.rules.Rule.TheVariants.{B1, B2, B3, B4, B5, B6}
use Rattle.names.specs.declared.operations.Operation.{Operation}
use Rattle.names.specs.declared.operations.Operation.TheVariants as operation
use Rattle.model.specs.Reading.{◌>>=◌, check, ok_or, or_default}
use Rattle.model.specs.RepoState.{RepoState, size_of, is_gone, has_room}
use Rattle.model.specs.Forms.{BatchObject, BatchForm, is_size, is_if_given}
use Rattle.model.specs.Cases.{Case}
use Rattle.model.specs.Answers.{Denial, may_pull, may_push, Answer, offers, Offer, Action, Actions, downloads, uploads, is_stored}
use Rattle.model.specs.Locks.{ref_or_default}

-- ---- hrefs

-- the address of a repository's routes
abbrev pub lfs_href : List ℕ → List ℕ → List ℕ
lfs_href base repo = base ++ codes "/" ++ repo ++ codes ".git/info/lfs"

-- a ref as the query of an address
abbrev pub ref_query : List ℕ → List ℕ
ref_query ref = codes "?ref=" ++ byte_serialize ref

-- the address of an object's content
abbrev pub content_href : List ℕ → List ℕ → List ℕ → List ℕ
content_href base repo name = lfs_href base repo ++ codes "/content/" ++ name

-- the address at which an upload is verified
abbrev pub verify_href : List ℕ → List ℕ → List ℕ
verify_href base repo = lfs_href base repo ++ codes "/verify"

-- an action at the address, with the token that the caller presented, until it expires
abbrev pub action_at : Case → List ℕ → Action
action_at c href =
    record { href = href; token = c.caller.token; expires_in = c.caller.expires - c.setting.now }

-- ---- one object of a batch

-- the size of the object, if name and size are valid
abbrev pub valid_size : BatchObject → Result ℕ Rule
valid_size o = do
  size ← ok_or o.size B2
  valid ← check (is_hex_64 o.oid && is_size size) B2
  Ok size

-- the hash that names objects is SHA-256
abbrev pub check_hash : Option (List ℕ) → Result ⊤ Rule
check_hash hash_algo = check (is_if_given (λ h. bytes_eq h (codes "sha256")) hash_algo) B3

-- the name of the object is not retired
abbrev pub check_gone : RepoState → List ℕ → Result ⊤ Rule
check_gone state name = check (not (is_gone name state)) B6

-- in a download, an object that is stored with this size has a download action
abbrev pub download_of : Case → Option (List ℕ) → BatchObject → Result Actions Rule
download_of c hash_algo o = do
  size ← valid_size o
  hash ← check_hash hash_algo
  kept ← check_gone c.state o.oid
  there ← ok_or (size_of o.oid c.state) B1
  same ← check (there == size) B4
  Ok (downloads (action_at c (content_href c.setting.policy.base c.repo.name o.oid)))

-- the actions of an object that is not stored and fits, and none for one that is stored with this size
abbrev pub unless_stored : RepoState → Actions → Option ℕ → ℕ → Result Actions Rule
unless_stored state actions (Some there) size = check (there == size) B4 >>= λ same. Ok is_stored
unless_stored state actions None size = check (has_room size state) B5 >>= λ fits. Ok actions

-- the actions by which an object is uploaded for a ref
abbrev pub upload_actions : Case → List ℕ → List ℕ → Actions
upload_actions c ref name =
    let base = c.setting.policy.base in
    uploads (action_at c (content_href base c.repo.name name ++ ref_query ref))
    (action_at c (verify_href base c.repo.name ++ ref_query ref))

-- in an upload, an object that is not stored has upload actions if the quota holds it
abbrev pub upload_of : Case → List ℕ → Option (List ℕ) → BatchObject → Result Actions Rule
upload_of c ref hash_algo o = do
  size ← valid_size o
  hash ← check_hash hash_algo
  kept ← check_gone c.state o.oid
  unless_stored c.state (upload_actions c ref o.oid) (size_of o.oid c.state) size

-- the object as it was given, with its actions; a size that is not a whole number of 64 bits is shown as 0
abbrev pub offer : (BatchObject → Result Actions Rule) → BatchObject → Offer
offer actions o = record { oid = o.oid; size = or_default o.size 0; actions = actions o }

-- ---- the batch

-- each object is judged by itself
abbrev pub offers_for : Case → BatchForm → Operation → List Offer
offers_for c asked operation.Download = map (offer (download_of c asked.hash_algo)) asked.objects
offers_for c asked operation.Upload =
    map (offer (upload_of c (ref_or_default asked.ref c.repo) asked.hash_algo)) asked.objects

-- the policy allows the operation
abbrev pub may_batch : Case → BatchForm → Operation → Result ⊤ Denial
may_batch c asked operation.Download = may_pull c.setting.policy c.caller.user c.repo.name 404
may_batch c asked operation.Upload =
    may_push c.setting.policy c.caller.user c.repo.name (ref_or_default asked.ref c.repo)

-- the verdict on a batch
abbrev pub batch_verdict : Case → BatchForm → Answer
batch_verdict c asked = do
  may ← may_batch c asked asked.operation
  Ok (offers (offers_for c asked asked.operation))
