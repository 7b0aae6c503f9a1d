-- Tables represent one world, up to the order of its lists and the texts of its tokens.
use Rattle.refinement.proofs.Prelude.{◌≡◌, ◌∙◌, inl, inr, ℕ, ℤ, pos, List, [], ◌∷◌, map, filter, cond, refl, sym, ap, ap₂, subst, IsPermutation, int_eq, IsPermutation-trans, IsPermutation-sym, IsPermutation-map, sha256, World, Object, Lock, Token, TokenDigest, token_digest, SameWorld, Bound, IsWithin, Tables, is_complete, code_of, object_in, RepresentObjects, Represents, lock_kept, lock_row, token_kept, token_row, IsAmong}
use Rattle.names.specs.declared.operations.Operation.{Operation}
use Rattle.names.specs.declared.operations.Operation.TheVariants.{Download, Upload}
use Rattle.model.specs.World.{Retired}
use Rattle.refinement.specs.Representation.{retired_kept, retired_row}
use Rattle.tables.specs.Rows as row
use Rattle.refinement.proofs.Found.{map_itself}

pub nat_of : ℤ → ℕ
nat_of (pos n) = n
nat_of _ = 0

-- the lock of a row, and the part of a token that a row stores
lock_of : row.Lock → Lock
lock_of r = record { repo = r.repo; id = nat_of r.id; ref = r.ref_name; path = r.path; owner = r.owner; at = nat_of r.moment }

pub operation_in : ℤ → Operation
operation_in code = cond (int_eq code (pos 1)) Download Upload

token_of : row.Token → TokenDigest
token_of r = record { digest = r.digest; user = r.user; repo = r.repo; operation = operation_in r.op; expires = nat_of r.expires }

retired_of : row.Retired → Retired
retired_of r = record { repo = r.repo; name = r.oid }

retired_back : (r : Retired) → retired_of (retired_row r) ≡ r
unfolding retired_of
retired_back r = refl

lock_back : (l : Lock) → lock_of (lock_row l) ≡ l
unfolding lock_of nat_of
lock_back l = refl

pub operation_back : (o : Operation) → operation_in (code_of o) ≡ o
unfolding operation_in
operation_back Download = refl
operation_back Upload = refl

pub same_operation : (a b : Operation) → code_of a ≡ code_of b → a ≡ b
same_operation a b e = sym (operation_back a) ∙ ap operation_in e ∙ operation_back b

token_back : (t : Token) → token_of (token_row t) ≡ token_digest t
unfolding token_of nat_of
token_back t = ap (λ (o : Operation). record { digest = sha256 t.text; user = t.user; repo = t.repo; operation = o; expires = t.expires }) (operation_back t.operation)

pub map_back : {A B C : Type 0} (f : B → C) (g : A → B) (h : A → C) (xs : List A) → ((x : A) → f (g x) ≡ h x) → map f (map g xs) ≡ map h xs
map_back f g h [] back = refl
map_back f g h (x ∷ xs) back = ap₂ (λ y ys. y ∷ ys) (back x) (map_back f g h xs back)

-- if rows represent two lists, the lists are the same, as far as a row shows
same_lists : {A B C : Type 0} (f : B → C) (g : A → B) (h : A → C) (rows : List B) (xs ys : List A) → ((x : A) → f (g x) ≡ h x)
    → IsPermutation rows (map g xs) → IsPermutation rows (map g ys) → IsPermutation (map h xs) (map h ys)
same_lists {C = C} f g h rows xs ys back p q =
    let both = IsPermutation-map f (map g xs) (map g ys) (IsPermutation-trans (map g xs) rows (map g ys) (IsPermutation-sym rows (map g xs) p) q) in
    subst (λ (zs : List C). IsPermutation zs (map h ys)) (map_back f g h xs back)
    (subst (λ (zs : List C). IsPermutation (map f (map g xs)) zs) (map_back f g h ys back) both)

pub same_pos : (a b : ℕ) → pos a ≡ pos b → a ≡ b
unfolding nat_of
same_pos a b e = ap nat_of e

same_objects : (uploads : List row.Upload) (chunks : List row.Chunk) (xs ys : List Object) → RepresentObjects uploads chunks xs → RepresentObjects uploads chunks ys → IsPermutation xs ys
same_objects uploads chunks xs ys p q =
    let rows = map (object_in chunks) (filter is_complete uploads) in
    IsPermutation-trans xs rows ys (IsPermutation-sym rows xs p.complete) q.complete

pub same_world : (t : Tables) (a b : World) → Represents t a → Represents t b → SameWorld a b
same_world t a b p q = record {
  objects = same_objects t.uploads t.chunks a.objects b.objects p.objects q.objects;
  retired = subst (λ (rs : List Retired). IsPermutation rs b.retired) (map_itself a.retired) (subst (λ (rs : List Retired). IsPermutation (map (λ r. r) a.retired) rs) (map_itself b.retired)
      (same_lists retired_of retired_row (λ r. r) (map retired_kept t.retired) a.retired b.retired retired_back p.retired q.retired));
  locks = subst (λ (ls : List Lock). IsPermutation ls b.locks) (map_itself a.locks) (subst (λ (ls : List Lock). IsPermutation (map (λ l. l) a.locks) ls) (map_itself b.locks)
      (same_lists lock_of lock_row (λ l. l) (map lock_kept t.locks) a.locks b.locks lock_back p.locks q.locks));
  made = λ repo. same_pos (a.made repo) (b.made repo) (sym (p.made repo) ∙ q.made repo);
  tokens = same_lists token_of token_row token_digest (map token_kept t.tokens) a.tokens b.tokens token_back p.tokens q.tokens;
}

-- each world that the tables represent is within the bound
pub is_within : (t : Tables) (bound : Bound) (world : World) → Represents t world → IsAmong t bound → IsWithin bound world
is_within t (one ∷ bound) world s (inl here) = inl (same_world t one world here.1 s)
is_within t (one ∷ bound) world s (inr rest) = inr (is_within t bound world s rest)
is_within t [] world s none = absurd none
