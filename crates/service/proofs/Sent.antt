-- The text of a reply, written in two parts: its front, and the content of an object.
use Rattle.service.proofs.Prelude.{◌≡◌, ◌⊎◌, inl, inr, ◌∙◌, ◌+◌, ◌<◌, ◌≤◌, ℕ, Bool, List, [], ◌++◌, length, take, Option, None, Result, Ok, Err, OnOk, refl, sym, ap, subst, append-nil, arith, Appends, take_all, IsBeginning, Object, Answer, offers, serves, stores, confirms, makes_lock, lists, splits, releases, reply_of, reply_text, head_lines, type_line, body_size, body_text, appends_both, Ghosts, StoreFault, front_text, Writes, EndsContent, BreaksOff, Sends, ap₂, Some, Bor, RepoName, repo_text, World, object_named, IsThere, body_seen}
use Rattle.std.proofs.Common.{IfErr}
use Rattle.std.proofs.Math.Numerals.{lt_of_le_of_ne}
use Rattle.model.specs.Replies as model
use Rattle.model.specs.Replies.{content, content_of, head_text}
use Rattle.wire.proofs.Wholes.{begins_front, begins_back}
use Rattle.tables.specs.Staging.{upload_number}
use Rattle.tables.specs.declared.rows.ObjectRow.{ObjectRow}
use Rattle.refinement.specs.Staging.{Stores}
use Rattle.uploads.specs.Finding.{Finds}
use Rattle.desk.specs.declared.replies.ReplyBody.{ReplyBody}
use Rattle.desk.specs.declared.replies.ReplyBody.TheVariants.{Content}
use Rattle.chunks.specs.Pouring.{TookFront}
use Rattle.chunks.specs.declared.pouring.PourCause.{PourCause}
use Rattle.chunks.specs.declared.pouring.PourCause.TheVariants.{Store as ByStore, Device as ByDevice}
use Rattle.service.specs.declared.sending.SendFault.{SendFault}
use Rattle.service.specs.declared.sending.SendFault.TheVariants.{Sink, Store as OfStore}

-- ---- results

pub on_ok : {T E : Type 0} (P Q : Type 0) (r : Result T E) → (P → Q) → OnOk r P → OnOk r Q
on_ok P Q (Ok x) then p = then p
on_ok P Q (Err e) then p = tt

pub if_err : {T E : Type 0} (P Q : E → Type 0) (r : Result T E) → ((e : E) → P e → Q e) → IfErr r P → IfErr r Q
if_err P Q (Ok x) then p = tt
if_err P Q (Err e) then p = then e p

-- ---- the head

pub head_is : (r : model.Reply) (status : ℕ) (type : List ℕ) (size : ℕ) (allow : List ℕ) (close : Bool) → status ≡ r.status → type ≡ type_line r.body
    → size ≡ body_size r.body → head_lines (record { status = status; type = type; size = size; allow = allow; close = close }) ≡ head_text r allow close
unfolding head_text
head_is r status type size allow close a b c = rw (a, b, c) refl

-- ---- the two parts

-- an answer serves an object, or there is no content
content_or_none : (given : Answer) → ((o : Object) × (given ≡ Ok (serves o))) ⊎ (content_of given ≡ [])
content_or_none (Ok (serves o)) = inl (o, refl)
content_or_none (Ok (offers some)) = inr refl
content_or_none (Ok (stores o)) = inr refl
content_or_none (Ok confirms) = inr refl
content_or_none (Ok (makes_lock l)) = inr refl
content_or_none (Ok (lists page)) = inr refl
content_or_none (Ok (splits user page)) = inr refl
content_or_none (Ok (releases l)) = inr refl
content_or_none (Err denial) = inr refl

-- a reply whose body is a content serves an object
pub serves_content : (given : Answer) {name : List ℕ} {size : ℕ} → content name size ≡ (reply_of given).body → (o : Object) × (given ≡ Ok (serves o))
serves_content (Ok (serves o)) same = (o, refl)
serves_content (Ok (offers some)) same = absurd (cc)
serves_content (Ok (stores o)) same = absurd (cc)
serves_content (Ok confirms) same = absurd (cc)
serves_content (Ok (makes_lock l)) same = absurd (cc)
serves_content (Ok (lists page)) same = absurd (cc)
serves_content (Ok (splits user page)) same = absurd (cc)
serves_content (Ok (releases l)) same = absurd (cc)
serves_content (Err denial) same = absurd (cc)

-- the front of a reply with content is its head
pub front_is_head : (given : Answer) (allow : List ℕ) (close : Bool) (o : Object) → given ≡ Ok (serves o) → front_text (reply_of given) allow close ≡ head_text (reply_of given) allow close
front_is_head given allow close o is =
    let head = head_text (reply_of given) allow close in
    ap (λ (t : List ℕ). head ++ t) (ap (λ a. body_text (reply_of a).body []) is) ∙ append-nil head

parts_by : (given : Answer) (allow : List ℕ) (close : Bool) → ((o : Object) × (given ≡ Ok (serves o))) ⊎ (content_of given ≡ []) → reply_text given allow close ≡ front_text (reply_of given) allow close ++ content_of given
parts_by given allow close (inl it) =
    let head = head_text (reply_of given) allow close in
    let content : body_text (reply_of given).body (content_of given) ≡ content_of given = ap (λ a. body_text (reply_of a).body (content_of a)) it.1 ∙ sym (ap content_of it.1) in
    ap (λ (t : List ℕ). head ++ t) content ∙ ap (λ (t : List ℕ). t ++ content_of given) (sym (front_is_head given allow close it.0 it.1))
parts_by given allow close (inr none) =
    let front = front_text (reply_of given) allow close in
    ap (λ (t : List ℕ). head_text (reply_of given) allow close ++ body_text (reply_of given).body t) none ∙ sym (append-nil front) ∙ ap (λ (t : List ℕ). front ++ t) (sym none)

-- a reply is its front, and then its content
pub reply_parts : (given : Answer) (allow : List ℕ) (close : Bool) → reply_text given allow close ≡ front_text (reply_of given) allow close ++ content_of given
reply_parts given allow close = parts_by given allow close (content_or_none given)

-- ---- the content

-- the object that a reply sends has the size that the reply names, and is the repository's of that name
pub object_sent : (world : World) (repo : Bor RepoName) (body : ReplyBody) (name : List ℕ) (size : ℕ) (given : Answer) → body ≡ Content name size → body_seen body ≡ (reply_of given).body
    → IsThere world (Some repo) given → (o : Object) × (content_of given ≡ o.bytes) × (size ≡ length o.bytes) × (object_named (repo_text repo.now) name world ≡ Some o)
object_sent world repo body name size given is shows there =
    let same : content name size ≡ (reply_of given).body = ap body_seen (sym is) ∙ shows in
    let it = serves_content given same in
    let o = it.0 in
    let found = there o it.1 in
    let body_is : content name size ≡ content o.name (length o.bytes) = same ∙ ap (λ a. (reply_of a).body) it.1 in
    let name_is : name ≡ o.name = cc in
    let size_is : size ≡ length o.bytes = cc in
    let repo_is : repo_text repo.now ≡ found.0 = let e = found.1 in cc in
    (o, ap content_of it.1, size_is, ap₂ (λ (r n : List ℕ). object_named r n world) repo_is name_is ∙ found.2)

-- a write failed within a content
pub content_cut : (cause : PourCause) (bytes : List ℕ) (written : ℕ) (was is : Option (List ℕ)) → cause ≡ ByDevice → TookFront cause was is bytes written → IsBeginning was is bytes written
content_cut cause bytes written was is device took = let cut : TookFront ByDevice was is bytes written = subst (λ c. TookFront c was is bytes written) device took in record { less = cut.within; taken = cut.taken }

-- the store failed after some of a content, or all of it
pub content_within : (cause : PourCause) (fault : StoreFault) (bytes : List ℕ) (written : ℕ) (was is : Option (List ℕ)) → cause ≡ ByStore fault → TookFront cause was is bytes written → written ≤ length bytes
content_within cause fault bytes written was is store took = let part : TookFront (ByStore fault) was is bytes written = subst (λ c. TookFront c was is bytes written) store took in part.within

-- a content of which this number of bytes was written
pub content_ended : {T : Type 0} (bytes : List ℕ) (written size : ℕ) (was is : Option (List ℕ)) (r : Result T SendFault) → size ≡ length bytes → written ≤ length bytes → Appends was is (take written bytes)
    → EndsContent written size r → Writes bytes was is r
content_ended bytes written size was is (Ok x) same within took ends = subst (Appends was is) (take_all written bytes (omega (arith, same, ends))) took
content_ended bytes written size was is (Err OfStore) same within took ends = (written, record { less = lt_of_le_of_ne within (λ equal. ends (equal ∙ sym same)); taken = took })
content_ended bytes written size was is (Err Sink) same within took ends = absurd ends

-- the bytes of the object that was found are the content of the reply
pub found_sent : {S T : Type 0} (g : Ghosts S) (store : S) (world : World) (repo : Bor RepoName) (body : ReplyBody) (name : List ℕ) (size : ℕ) (row : ObjectRow) (given : Answer) (was is : Option (List ℕ)) (r : Result T SendFault)
    → body ≡ Content name size → body_seen body ≡ (reply_of given).body → IsThere world (Some repo) given → Finds g world store (repo_text repo.now) name (Some row)
    → ((bytes : List ℕ) → Stores g store (upload_number row.id) bytes → row.size ≡ length bytes → Writes bytes was is r) → Writes (content_of given) was is r
found_sent g store world repo body name size row given was is r content_is shows there found wrote =
    let it = object_sent world repo body name size given content_is shows there in
    let both = sym found.1 ∙ it.3 in
    let same : found.0 ≡ it.0 = cc in
    subst (λ (t : List ℕ). Writes t was is r) (ap (λ (o : Object). o.bytes) same ∙ sym it.1) (wrote found.0.bytes found.3 found.2)

appends_none : (a : Option (List ℕ)) → Appends a a []
appends_none None = tt
appends_none (Some xs) = sym (append-nil xs)

-- nothing of a content was written
pub none_sent : {T : Type 0} (world : World) (repo : Bor RepoName) (body : ReplyBody) (name : List ℕ) (size : ℕ) (given : Answer) (was : Option (List ℕ)) (r : Result T SendFault)
    → body ≡ Content name size → body_seen body ≡ (reply_of given).body → IsThere world (Some repo) given → EndsContent 0 size r → Writes (content_of given) was was r
none_sent world repo body name size given was r content_is shows there ends =
    let it = object_sent world repo body name size given content_is shows there in
    subst (λ (t : List ℕ). Writes t was was r) (sym it.1) (content_ended it.0.bytes 0 size was was r it.2 (omega arith) (appends_none was) ends)

-- ---- the whole reply

module _ (given : Answer) (allow : List ℕ) (close : Bool) (was mid is : Option (List ℕ)) where
  -- the front was written, and not all of the content
  broken : (n : ℕ) → Appends was mid (front_text (reply_of given) allow close) → IsBeginning mid is (content_of given) n → ((o : Object) × (given ≡ Ok (serves o))) ⊎ (content_of given ≡ []) → BreaksOff given allow close was is
  broken n front part (inl it) =
      let same = ap content_of it.1 in record {
        object = it.0;
        serving = it.1;
        written = n;
        less = subst (λ (c : List ℕ). n < length c) same part.less;
        taken = appends_both was mid is (head_text (reply_of given) allow close) (take n it.0.bytes) (subst (λ (t : List ℕ). Appends was mid t) (front_is_head given allow close it.0 it.1) front)
            (subst (λ (c : List ℕ). Appends mid is (take n c)) same part.taken);
      }
  broken n front part (inr none) = absurd (let less = subst (λ (c : List ℕ). n < length c) none part.less in omega (arith, less))

  -- the front was written, and then the content or a part of it
  pub sends_content : {T : Type 0} (r : Result T SendFault) → Appends was mid (front_text (reply_of given) allow close) → Writes (content_of given) mid is r → Sends given allow close was is r
  sends_content (Ok x) front tail = subst (λ (t : List ℕ). Appends was is t) (sym (reply_parts given allow close)) (appends_both was mid is (front_text (reply_of given) allow close) (content_of given) front tail)
  sends_content (Err Sink) front tail =
      let n = length (front_text (reply_of given) allow close) + tail.0 in (
        n,
        subst (λ (t : List ℕ). IsBeginning was is t n) (sym (reply_parts given allow close))
            (begins_back was mid is (front_text (reply_of given) allow close) (content_of given) tail.0 (length (front_text (reply_of given) allow close)) refl front tail.1),
      )
  sends_content (Err OfStore) front tail = broken tail.0 front tail.1 (content_or_none given)

-- a write failed in the front
pub front_fails : (given : Answer) (allow : List ℕ) (close : Bool) (was is : Option (List ℕ)) (n : ℕ) → IsBeginning was is (front_text (reply_of given) allow close) n → IsBeginning was is (reply_text given allow close) n
front_fails given allow close was is n part =
    subst (λ (t : List ℕ). IsBeginning was is t n) (sym (reply_parts given allow close)) (begins_front was is (front_text (reply_of given) allow close) (content_of given) n part)
