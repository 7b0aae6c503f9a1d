-- Of a content that is being received the first bytes are left.
use Rattle.placed.proofs.Prelude.{AreBeside, IsBeside, region_in, ◌≡◌, ◌≢◌, inl, inr, ℕ, suc, ◌*◌, ◌<◌, ◌≤◌, min, ℤ, pos, Bool, true, false, not, List, [], ◌∷◌, length, take, drop, filter, find, Option, Some, None, is_some, arith, refl, sym, ap, subst, ◌∙◌, All, HoldsAt, Contains, true≢false, AllByRecursion, int_eq, ints, length-take-le, get_or-take, IsAscending, all_weaker, same_int, Region, Regions, Draft, HasAt, regions_of, Upload, Chunk, Tables, is_chunk, is_staged_with, is_of_from, without_chunks_from, upload_number, staged_with, without_found_from, without_staged_from, UploadId, Staged, piece_size, pieces, place_number, written_in, received_pieces, view, AreSeparate, OfOthers, AreStagedApart, IsStagedIn, IsPlace, IsReceived, AreReceived, IsTruncated}
use Rattle.std.proofs.Common.{get_or, set}
use Rattle.std.proofs.lemmas.List.{take_min}
use Rattle.sqlite_disk.specs.declared.Disk as disk
use Rattle.placed.proofs.Bytes.{written_is, written_part}
use Rattle.placed.proofs.Cutting.{pieces_none, pieces_shortened}
use Rattle.placed.proofs.Seeking.{no-places-of}
use Rattle.placed.proofs.Tracked.{places-of-chunks, chunks-of-shortened}
use Rattle.placed.proofs.Views.{view-shortened, view-staged-empty, found_id}
use Rattle.placed.proofs.Leading.{Leads}
use Rattle.placed.proofs.Located.{others_all}
use Rattle.placed.proofs.Lists.{all_middle, ascending_middle, all_replaced, ascending_replaced, list_at, set_at}

-- ---- the content at an index

apart_by : (k id : ℤ) → int_eq k id ≡ false → k ≢ id
apart_by k id apart same = grind (arith, ints)

-- the content at this index is the upload's, and has this draft now
pub shortened_at : (old : List Staged) (index len : ℕ) (id : UploadId) (content : Staged) (draft : Draft)
    → index < length old → HoldsAt (λ (s : Staged). s.id ≡ id) old index → content ≡ get_or old index content
    → draft.region ≡ content.draft.region → draft.written ≡ min len content.draft.written
    → IsTruncated (upload_number id) len old (set old index (record content { draft = draft }))
shortened_at old index len id content draft less own at region written = inr (record {
  before = take index old;
  content = content;
  after = drop (suc index) old;
  was = list_at old index content less (sym at);
  shorter = shorter;
  is = set_at old index shorter less;
  of_upload = ap (λ (s : Staged). upload_number s.id) at ∙ ap upload_number (own content);
  same_upload = refl;
  same_region = region;
  written = written;
  sealed = refl;
})
  where
    shorter : Staged
    shorter = record content { draft = draft }

-- none is of the upload
pub none_shortened : (old : List Staged) (len : ℕ) (id : UploadId) → All (λ (s : Staged). s.id ≢ id) old
    → IsTruncated (upload_number id) len old old
none_shortened old len id others = inl (others_all id old others, refl)

-- the contents in which that of the upload has only its first bytes
pub truncated : (id : ℤ) (len : ℕ) (old : List Staged) → (new : List Staged) × IsTruncated id len old new
truncated id len [] = ([], inl (tt, refl))
truncated id len (s ∷ old) = at (int_eq (upload_number s.id) id) refl (truncated id len old)
  where
    shorter : Staged
    shorter = record s { draft = record { region = s.draft.region; written = min len s.draft.written } }

    at : (b : Bool) → int_eq (upload_number s.id) id ≡ b → (new : List Staged) × IsTruncated id len old new
        → (new : List Staged) × IsTruncated id len (s ∷ old) new
    at true own rest = (
      shorter ∷ old,
      inr (record {
        before = [];
        content = s;
        after = old;
        was = refl;
        shorter = shorter;
        is = refl;
        of_upload = same_int (upload_number s.id) id own;
        same_upload = refl;
        same_region = refl;
        written = refl;
        sealed = refl;
      }),
    )
    at false other (new, inl none) =
        (s ∷ new, inl ((apart_by (upload_number s.id) id other, none.0), ap (λ (l : List Staged). s ∷ l) none.1))
    at false other (new, inr one) = (
      s ∷ new,
      inr (record {
        before = s ∷ one.before;
        content = one.content;
        after = one.after;
        was = ap (λ (l : List Staged). s ∷ l) one.was;
        shorter = one.shorter;
        is = ap (λ (l : List Staged). s ∷ l) one.is;
        of_upload = one.of_upload;
        same_upload = one.same_upload;
        same_region = one.same_region;
        written = one.written;
        sealed = one.sealed;
      }),
    )

-- ---- what is shown

-- the file has all bytes that are written of the content
abbrev HasAll : List ℕ → Staged → Type 0
HasAll file s = length (written_in file s.draft) ≡ s.draft.written

-- the pieces of the first bytes are the first pieces
pieces_cut : (file : List ℕ) (content shorter : Staged) (n : ℕ) → shorter.id ≡ content.id
    → shorter.draft.region ≡ content.draft.region → shorter.draft.written ≡ min (n * piece_size) content.draft.written
    → HasAll file content → received_pieces file shorter
    ≡ filter (λ c. not (is_of_from (upload_number content.id) (pos n) c)) (received_pieces file content)
pieces_cut file content shorter n own region written whole =
    let bytes = written_in file content.draft in
    let fewer : shorter.draft.written ≤ content.draft.written = omega (arith, written) in
    let first : written_in file shorter.draft ≡ take (n * piece_size) bytes =
    written_part file content.draft shorter.draft region fewer
    ∙ ap (λ (k : ℕ). take k bytes) (written ∙ ap (min (n * piece_size)) (sym whole))
    ∙ take_min (n * piece_size) bytes in
    ap (λ (i : UploadId). pieces (upload_number i) (written_in file shorter.draft)) own
    ∙ ap (pieces (upload_number content.id)) first
    ∙ sym (pieces_shortened (upload_number content.id) n bytes)

module _ (file : List ℕ) (staged left : List Staged) (t : Tables) (id : ℤ) (n : ℕ)
    (is : IsTruncated id (n * piece_size) staged left)
    (no_place : find (is_chunk id (pos place_number)) t.chunks ≡ None) (once : IsAscending OfOthers staged)
    (whole : AllByRecursion (HasAll file) staged) where
  -- a content of the upload of which nothing is written
  abbrev none_of : Staged
  none_of = record {
    id = record { number = id };
    draft = record { region = record { start = 0; size = 0 }; written = 0 };
    is_sealed = false;
  }

  no_pieces : received_pieces file none_of ≡ []
  no_pieces = pieces_none id

  view_cut : view file left (without_chunks_from id (pos n) t) ≡ without_chunks_from id (pos n) (view file staged t)
  view_cut = elim is [
    | inl none ↦
        ap (λ (l : List Staged). view file l (without_chunks_from id (pos n) t)) none.1
        ∙ sym (view-staged-empty file staged (without_chunks_from id (pos n) t) none_of no_pieces)
        ∙ view-shortened file staged [] t none_of none_of id (pos n)
        (no_pieces ∙ sym (ap (filter (λ (c : Chunk). not (is_of_from id (pos n) c))) no_pieces)) none.0 tt
        (no-places-of id t.chunks no_place)
        ∙ ap (without_chunks_from id (pos n)) (view-staged-empty file staged t none_of no_pieces)
    | inr one ↦
        let around = ascending_middle OfOthers one.before one.after one.content (subst (IsAscending OfOthers) one.was once) in
        let all : HasAll file one.content =
        (all_middle (HasAll file) one.before one.after one.content
        (subst (AllByRecursion (HasAll file)) one.was whole)).1.0 in
        let own = one.of_upload in
        ap (λ (l : List Staged). view file l (without_chunks_from id (pos n) t)) one.is
        ∙ view-shortened file one.before one.after t one.content one.shorter id (pos n)
        (pieces_cut file one.content one.shorter n one.same_upload one.same_region one.written all
        ∙ ap (λ (k : ℤ). filter (λ (c : Chunk). not (is_of_from k (pos n) c)) (received_pieces file one.content)) own)
        (all_weaker _ _ (λ s apart same. apart (same ∙ sym own)) one.before
        around.0)
        (all_weaker _ _ (λ s apart same. apart (own ∙ sym same)) one.after
        around.1)
        (no-places-of id t.chunks no_place)
        ∙ ap (λ (l : List Staged). without_chunks_from id (pos n) (view file l t)) (sym one.was)
  ]

-- ---- the step on the tables

uploads_kept : (id n : ℤ) (t : Tables) → (without_staged_from id n t).uploads ≡ t.uploads
unfolding without_staged_from without_chunks_from
uploads_kept id n t = at (staged_with id t)
  where
    at : (o : Option Upload) → (without_found_from o n t).uploads ≡ t.uploads
    at None = refl
    at (Some u) = refl

staged_kept : (id n : ℤ) (t : Tables) (staged : List Staged) → AllByRecursion (IsStagedIn t) staged
    → AllByRecursion (IsStagedIn (without_staged_from id n t)) staged
staged_kept id n t = all_weaker (IsStagedIn t) (IsStagedIn (without_staged_from id n t))
    (λ s there.
    ap (λ (us : List Upload). is_some (find (is_staged_with (upload_number s.id)) us)) (uploads_kept id n t) ∙ there)

-- the step takes the chunks away if the upload is staged
view_step : (file : List ℕ) (staged left : List Staged) (t : Tables) (id n : ℤ) → is_some (staged_with id t) ≡ true
    → view file left (without_chunks_from id n t) ≡ without_chunks_from id n (view file staged t)
    → view file left (without_staged_from id n t) ≡ without_staged_from id n (view file staged t)
unfolding view without_staged_from without_chunks_from
view_step file staged left t id n some cut = at (staged_with id t) refl some
  where
    at : (o : Option Upload) → staged_with id t ≡ o → is_some o ≡ true
        → view file left (without_found_from o n t) ≡ without_found_from o n (view file staged t)
    at None e is = absurd (true≢false (sym is))
    at (Some u) e is =
        subst (λ (k : ℤ). view file left (without_chunks_from k n t) ≡ without_chunks_from k n (view file staged t))
        (sym (found_id id t u e)) cut

-- it changes nothing if the upload is not staged
view_unchanged : (file : List ℕ) (staged : List Staged) (t : Tables) (id n : ℤ) → is_some (staged_with id t) ≡ false
    → view file staged (without_staged_from id n t) ≡ without_staged_from id n (view file staged t)
unfolding view without_staged_from
view_unchanged file staged t id n none = at (staged_with id t) none
  where
    at : (o : Option Upload) → is_some o ≡ false
        → view file staged (without_found_from o n t) ≡ without_found_from o n (view file staged t)
    at None is = refl
    at (Some u) is = absurd (true≢false is)

pub answer_shown : (file : List ℕ) (staged : List Staged) (id : ℤ) (t : Tables) (answer : Bool)
    → answer ≡ is_some (staged_with id t) → answer ≡ is_some (staged_with id (view file staged t))
unfolding view
answer_shown file staged id t answer is = is

-- the contents after the step
module _ (file : List ℕ) (staged : List Staged) (t : Tables) (id : ℤ) (n : ℕ) where
  abbrev LeadsTo : List Staged → Type 0
  LeadsTo left =
      Leads file staged left t (without_staged_from id (pos n) t) (without_staged_from id (pos n) (view file staged t))

  pub leads_unchanged : is_some (staged_with id t) ≡ false → LeadsTo staged
  leads_unchanged none = record {
    shown = view_unchanged file staged t id (pos n) none;
    some = places-of-chunks t (without_staged_from id (pos n) t) (chunks-of-shortened id (pos n) t);
    uploads = staged_kept id (pos n) t staged;
  }

  module _ (no_place : find (is_chunk id (pos place_number)) t.chunks ≡ None) (once : IsAscending OfOthers staged)
      (whole : AllByRecursion (HasAll file) staged) where
    pub leads_cut : (left : List Staged) → IsTruncated id (n * piece_size) staged left
        → is_some (staged_with id t) ≡ true → LeadsTo left
    leads_cut left is some = record {
      shown = view_step file staged left t id (pos n) some (view_cut file staged left t id n is no_place once whole);
      some = places-of-chunks t (without_staged_from id (pos n) t) (chunks-of-shortened id (pos n) t);
      uploads = λ all. still (staged_kept id (pos n) t staged all);
    }
      where
        v : Tables
        v = without_staged_from id (pos n) t

        still : AllByRecursion (IsStagedIn v) staged → AllByRecursion (IsStagedIn v) left
        still all = elim is [
          | inl none ↦ subst (AllByRecursion (IsStagedIn v)) (sym none.1) all
          | inr one ↦
              subst (AllByRecursion (IsStagedIn v)) (sym one.is)
              (all_replaced (IsStagedIn v) one.before one.after one.content one.shorter
              (subst (λ (i : UploadId). is_some (find (is_staged_with (upload_number i)) v.uploads) ≡ true) (sym one.same_upload))
              (subst (AllByRecursion (IsStagedIn v)) one.was all))
        ]

    pub leads_any : (left : List Staged) × LeadsTo left
    leads_any = at (is_some (staged_with id t)) refl
      where
        at : (b : Bool) → is_some (staged_with id t) ≡ b → (left : List Staged) × LeadsTo left
        at true is = let cut = truncated id (n * piece_size) staged in (cut.0, leads_cut cut.0 cut.1 is)
        at false is = (staged, leads_unchanged is)

-- ---- what holds of the contents

-- the first bytes of those that the file has
has_first : (file : List ℕ) (at n : ℕ) (bytes : List ℕ) → n ≤ length bytes → HasAt file at bytes
    → HasAt file at (take n bytes)
has_first file at n bytes fewer has = λ some.
    let size = length-take-le n bytes fewer in
    let there = has (omega arith) in
    record {
      within = let most = there.within in omega arith;
      each = λ i less. there.each i (omega arith) ∙ sym (get_or-take n bytes i 0 (omega arith));
    }

module _ {D : Type 0} (d : disk.Ghosts D) (disk : D) (regions : Regions) (id : ℤ) (len : ℕ) (staged left : List Staged)
    (is : IsTruncated id len staged left) where
  -- less of a content is received in its region
  received_less : (content shorter : Staged) → shorter.draft.region ≡ content.draft.region
      → shorter.draft.written ≡ min len content.draft.written → IsReceived d disk regions content
      → IsReceived d disk regions shorter
  received_less content shorter region written r =
      let size = r.written.size in
      let fewer : shorter.draft.written ≤ length r.bytes = omega (arith, written, size) in
      record {
        used = subst (Contains (regions_of regions)) (sym region) r.used;
        bytes = take shorter.draft.written r.bytes;
        written = record {
          size = length-take-le shorter.draft.written r.bytes fewer;
          there = subst (λ (it : Region). HasAt (d.seen disk) it.start (take shorter.draft.written r.bytes)) (sym region)
              (has_first (d.seen disk) content.draft.region.start shorter.draft.written r.bytes fewer r.written.there);
        };
        within =
            let most = r.within in
            let same = ap (λ (it : Region). it.size) region in
            omega (arith, written, same, most);
        some = subst (λ (it : Region). 1 ≤ it.size) (sym region) r.some;
      }

  pub received_cut : AreReceived d disk regions staged → AreReceived d disk regions left
  received_cut a = elim is [
    | inl none ↦ subst (AreReceived d disk regions) (sym none.1) a
    | inr one ↦
        let was = subst (AreReceived d disk regions) one.was a in
        subst (AreReceived d disk regions) (sym one.is) (record {
          each = all_replaced (IsReceived d disk regions) one.before one.after one.content one.shorter
              (received_less one.content one.shorter one.same_region one.written) was.each;
          once = ascending_replaced OfOthers one.before one.after one.content one.shorter
              (λ s. subst (λ (i : UploadId). upload_number s.id ≢ upload_number i) (sym one.same_upload))
              (λ s. subst (λ (i : UploadId). upload_number i ≢ upload_number s.id) (sym one.same_upload)) was.once;
          apart = ascending_replaced AreStagedApart one.before one.after one.content one.shorter
              (λ s. subst (AreSeparate s.draft.region) (sym one.same_region))
              (λ s. subst (λ (r : Region). AreSeparate r s.draft.region) (sym one.same_region)) was.apart;
        })
  ]

  pub place_cut : (c : Chunk) → IsPlace d disk regions staged c → IsPlace d disk regions left c
  place_cut c p = elim is [
    | inl none ↦ subst (λ (l : List Staged). IsPlace d disk regions l c) (sym none.1) p
    | inr one ↦ record {
      region = p.region;
      means = p.means;
      kept = p.kept;
      used = p.used;
      some = p.some;
      apart =
          let P = λ (s : Staged). s.is_sealed ≡ false → AreSeparate s.draft.region p.region in
          subst (AllByRecursion P) (sym one.is)
          (all_replaced P one.before one.after one.content one.shorter
          (λ apart not_sealed.
          subst (λ (r : Region). AreSeparate r p.region) (sym one.same_region) (apart (sym one.sealed ∙ not_sealed)))
          (subst (AllByRecursion P) one.was p.apart));
    }
  ]

pub beside_cut : (id : ℤ) (len : ℕ) (staged left : List Staged) → IsTruncated id len staged left → (cs : List Chunk)
    → AreBeside staged cs → AreBeside left cs
beside_cut id len staged left is cs all = elim is [
  | inl none ↦ subst (λ (l : List Staged). AreBeside l cs) (sym none.1) all
  | inr one ↦
      let P = λ (s : Staged). AllByRecursion (IsBeside s) cs in
      subst (AllByRecursion P) (sym one.is)
      (all_replaced P one.before one.after one.content one.shorter
      (subst (λ (it : Region). AllByRecursion (λ (c : Chunk). (r : Region) → region_in c.bytes ≡ Some r → AreSeparate it r) cs)
      (sym one.same_region)) (subst (AllByRecursion P) one.was all))
]

-- the file has all bytes of each content that is received
pub have_all : {D : Type 0} (d : disk.Ghosts D) (disk : D) (regions : Regions) (staged : List Staged)
    → AllByRecursion (IsReceived d disk regions) staged → AllByRecursion (HasAll (d.seen disk)) staged
have_all d disk regions = all_weaker (IsReceived d disk regions) (HasAll (d.seen disk))
    (λ s r. ap length (written_is (d.seen disk) s.draft r.bytes r.written) ∙ r.written.size)
