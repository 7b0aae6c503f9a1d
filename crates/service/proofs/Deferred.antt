-- The content of an object is left to be sent after its turn.
use Rattle.service.proofs.Prelude.{◌≡◌, inl, inr, ◌∙◌, ◌<◌, ℕ, Bool, List, ◌++◌, length, take, Option, Some, None, Ok, refl, sym, ap, ap₂, subst, append-nil, Appends, Ghosts, World, Object, Setting, Answer, allow, closes, serves, reply_of, head_text, object_named, Bor, RepoName, repo_text, IsThere, front_text, BreaksOff, IsResponse, IsSent, EndsReply, End, Response, is_refused, body_seen, Call, From, Served, Serves, from_weaker}
use Rattle.std.proofs.lemmas.Option.{same_Some}
use Rattle.store.specs.Shown.{Moves, AddsNothing}
use Rattle.refinement.specs.Left.{Reads}
use Rattle.refinement.proofs.ReadOnly.{reads_then}
use Rattle.model.specs.Replies.{content}
use Rattle.desk.specs.declared.replies.ReplyBody.{ReplyBody}
use Rattle.downloads.specs.Downloads.{name_of, download_repo, size_of}
use Rattle.downloads.specs.declared.download.Download.{Download}
use Rattle.service.specs.Later.{IsDeferred, IsThisObject, IsSentBut, EndsTurnBut, ServesBut}
use Rattle.service.specs.declared.ends.End.TheVariants.{StoreFailed}
use Rattle.service.proofs.Sent.{front_is_head, serves_content}
use Rattle.service.proofs.Answered.{begun_at, sent, turn_then}

-- the object that a body has is the one that the answer serves
this_object : (world : World) (d : Download) (repo : Option (Bor RepoName)) (body : ReplyBody) (close : Bool) (given : Answer)
    → IsDeferred d repo body close → body_seen body ≡ (reply_of given).body → IsThere world repo given
    → (o : Object) × (given ≡ Ok (serves o)) × IsThisObject d world o
this_object world d None body close given is shows there = absurd (let e = is.of_repo in cc)
this_object world d (Some repo) body close given is shows there =
    let same : content (name_of d) (size_of d) ≡ (reply_of given).body = ap body_seen (sym is.of_body) ∙ shows in
    let it = serves_content given same in
    let o = it.0 in
    let found = there o it.1 in
    let body_is : content (name_of d) (size_of d) ≡ content o.name (length o.bytes) = same ∙ ap (λ a. (reply_of a).body) it.1 in
    let name_is : name_of d ≡ o.name = cc in
    let size_is : size_of d ≡ length o.bytes = cc in
    let own : repo_text repo.now ≡ repo_text (download_repo d) = same_Some (repo_text repo.now) (repo_text (download_repo d)) is.of_repo in
    let repo_is : repo_text repo.now ≡ found.0 = same_Some (repo_text repo.now) found.0 found.1 in (
      o,
      it.1,
      record {
        there = ap₂ (λ (r n : List ℕ). object_named r n world) (sym own ∙ repo_is) name_is ∙ found.2;
        size = size_is;
        none = is.none;
      },
    )

-- the head of its reply was written
pub sent_later : (world : World) (d : Download) (repo : Option (Bor RepoName)) (body : ReplyBody) (given : Answer)
    (methods : List ℕ) (close : Bool) (was is : Option (List ℕ)) → IsDeferred d repo body close → body_seen body ≡ (reply_of given).body
    → IsThere world repo given → Appends was is (front_text (reply_of given) methods close)
    → IsSentBut was is world given methods close (Some d) (Some StoreFailed)
sent_later world d repo body given methods close was is of_body shows there front =
    let it = this_object world d repo body close given of_body shows there in
    let head = head_text (reply_of given) methods close in (
      refl,
      record {
        object = it.0;
        serving = it.1;
        written = 0;
        less = subst (λ n. 0 < n) it.2.size of_body.some;
        taken = subst (Appends was is) (front_is_head given methods close it.0 it.1 ∙ sym (append-nil head)) front;
      },
      it.2,
      refl,
      of_body.closes,
    )

-- a turn ended with it
module _ {S : Type 0} (g : Ghosts S) (setting : Setting) (bytes next : List ℕ) (world : World) (old mid new : S) (was is : Option (List ℕ)) where
  pub sent_but : (r : Response) (later : Option Download) (end : Option End) → (a : IsResponse g setting bytes next world old mid r)
      → Moves g (λ t. t) mid new → AddsNothing g mid new → EndsReply r.close (is_refused r.reply) end
      → IsSentBut was is a.kept a.given r.allow.now r.close later end
      → EndsTurnBut g setting bytes next world old new was is later end
  sent_but r None end a same adds shut s = sent g setting bytes next world old mid new was is r end a same adds shut s
  sent_but r (Some d) end a same adds shut s =
      let broke = s.1 in
      let text = λ (m : List ℕ) (c : Bool). head_text (reply_of a.given) m c ++ take broke.written broke.object.bytes in (
        s.0,
        (
          a.e,
          a.kept,
          turn_then g setting bytes next world old mid new was is a.e a.kept a.turn same adds,
          begun_at g setting bytes next world old mid new was is a.e r.close a.begins,
          (
            a.given,
            a.is,
            record {
              object = broke.object;
              serving = broke.serving;
              written = broke.written;
              less = broke.less;
              taken = subst (Appends was is) (ap₂ text a.methods (sym a.closes)) broke.taken;
            },
          ),
        ),
        s.2,
        s.3,
        s.4 ∙ sym a.closes,
      )

-- a connection that was served but for a content was served
pub served_as : {S : Type 0} (g : Ghosts S) (call : Call) (old new : S) (later : Option Download) (served : Served)
    → From g old new (λ world. ServesBut g call world old new later served)
    → From g old new (λ world. Serves g call world old new served)
served_as g call old new later served done =
    from_weaker g old new _ (λ world. Serves g call world old new served)
    (λ world it. elim it [
      | inl read ↦ inl (read.0, read.1, read.2.served_so)
      | inr none ↦ inr (none.0, none.1, none.2)
    ]) done

-- what holds in any world holds after a call that only reads
pub after_read : {S : Type 0} (g : Ghosts S) (old mid : S) (Q P : World → Type 0) → Reads g old mid Q → ((world : World) → P world)
    → Reads g old mid P
after_read g old mid Q P r p = record { same = r.same; adds = r.adds; each = λ honest world h. p world }

pub then_read : {S : Type 0} (g : Ghosts S) (old mid new : S) (Q P : World → Type 0) → Reads g old mid Q → Reads g mid new P → Reads g old new P
then_read g old mid new Q P q p = reads_then g old mid new Q P P (λ world laws known it. it) q p
