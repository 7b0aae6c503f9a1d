-- A request, in the terms of the definitions.
use Rattle.std.specs.Prelude.{ℕ, List, map, option_map, string_bytes}
use Rattle.serde_json.specs.View.{number_view}
use Rattle.names.specs.Names.{path_text}
use Rattle.model.specs.Forms as form
use Rattle.model.specs.Forms.{BatchForm, PutForm, VerifyForm, LockForm, ListForm, VerifyLocksForm, UnlockForm, Request, asks_batch, asks_get, asks_put, asks_verify, asks_lock, asks_list, asks_verify_locks, asks_unlock}
use Rattle.forms.specs.declared.batch.BatchObject.{BatchObject}
use Rattle.forms.specs.declared.batch.BatchRequest.{BatchRequest}
use Rattle.forms.specs.declared.batch.BatchValues.{BatchValues}
use Rattle.forms.specs.declared.objects.GetRequest.{GetRequest}
use Rattle.forms.specs.declared.objects.PutRequest.{PutRequest}
use Rattle.forms.specs.declared.objects.VerifyRequest.{VerifyRequest}
use Rattle.forms.specs.declared.objects.ObjectValues.{ObjectValues}
use Rattle.forms.specs.declared.lock.LockRequest.{LockRequest}
use Rattle.forms.specs.declared.list.ListRequest.{ListRequest}
use Rattle.forms.specs.declared.list.ListTexts.{ListTexts}
use Rattle.forms.specs.declared.verify_locks.VerifyLocksRequest.{VerifyLocksRequest}
use Rattle.forms.specs.declared.verify_locks.VerifyLocksValues.{VerifyLocksValues}
use Rattle.forms.specs.declared.unlock.UnlockRequest.{UnlockRequest}
use Rattle.forms.specs.declared.request.Request as code
use Rattle.forms.specs.declared.request.Request.TheVariants as request
use Rattle.forms.specs.Given.{BatchKeys, ListKeys, ObjectKeys, VerifyLocksKeys, number_given, ref_given, string_given, text_given}

-- the name and the size, as they were given
abbrev pub object_asked : BatchObject → form.BatchObject
object_asked o = record { oid = string_bytes o.oid; size = o.size }

-- the values of a body, except its objects
abbrev pub batch_given : BatchValues → BatchKeys
batch_given v = record {
  operation = v.operation.now;
  basic = v.basic;
  ref = text_given v.ref_name;
  hash_algo = text_given v.hash_algo;
}

-- the objects, the direction and the ref
abbrev pub batch_asked : BatchRequest → BatchForm
batch_asked r = record {
  operation = r.operation;
  ref = ref_given r.ref_name;
  hash_algo = string_given r.hash_algo;
  objects = map object_asked r.objects.items;
}

-- the object's name
abbrev pub get_asked : GetRequest → List ℕ
get_asked r = r.name

-- the name to store a content under, and the ref
abbrev pub put_asked : PutRequest → PutForm
put_asked r = record { name = r.name; ref = ref_given r.ref_name }

-- the name and the size, as they were given
abbrev pub object_given : ObjectValues → ObjectKeys
object_given v = record { oid = v.oid.now; size = number_view v.size.now }

-- the object and the ref
abbrev pub verify_asked : VerifyRequest → VerifyForm
verify_asked r = record { name = r.name; size = r.size; ref = ref_given r.ref_name }

-- the path and the ref
abbrev pub lock_asked : LockRequest → LockForm
lock_asked r = record { path = path_text r.path; ref = ref_given r.ref_name }

-- the texts of a query
abbrev pub list_given : ListTexts → ListKeys
list_given t = record {
  path = string_given t.path;
  id = string_given t.id;
  ref = string_given t.refspec;
  cursor = string_given t.cursor;
  limit = string_given t.limit;
}

-- the filters and the page
abbrev pub list_asked : ListRequest → ListForm
list_asked r = record {
  path = option_map path_text r.path;
  id = r.id;
  ref = ref_given r.ref_name;
  cursor = string_given r.cursor;
  limit = r.limit;
}

-- the values of a body
abbrev pub verify_locks_given : VerifyLocksValues → VerifyLocksKeys
verify_locks_given v = record {
  ref = text_given v.ref_name;
  cursor = text_given v.cursor;
  limit = number_given v.limit;
}

-- the ref and the page
abbrev pub verify_locks_asked : VerifyLocksRequest → VerifyLocksForm
verify_locks_asked r =
    record { ref = ref_given r.ref_name; cursor = string_given r.cursor; limit = r.limit }

-- the lock's id, and whether it may be another user's
abbrev pub unlock_asked : UnlockRequest → UnlockForm
unlock_asked r = record { id = r.id; force = r.force }

-- the request
abbrev pub request_asked : code.Request → Request
request_asked (request.Batch r) = asks_batch (batch_asked r)
request_asked (request.Get r) = asks_get (get_asked r)
request_asked (request.Put r) = asks_put (put_asked r)
request_asked (request.Verify r) = asks_verify (verify_asked r)
request_asked (request.Lock r) = asks_lock (lock_asked r)
request_asked (request.List r) = asks_list (list_asked r)
request_asked (request.VerifyLocks r) = asks_verify_locks (verify_locks_asked r)
request_asked (request.Unlock r) = asks_unlock (unlock_asked r)
