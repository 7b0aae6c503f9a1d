-- The effect of a change of the tokens on the world.
use Rattle.refinement.proofs.Prelude.{◌≡◌, ◌∙◌, ℕ, pos, Bool, true, false, not, nat_lt, List, [], ◌∷◌, map, find, filter, cond, Option, Some, None, option_map, is_some, length, refl, sym, ap, subst, IsPermutation, arith, int_le, nat_tests, length-map, length_permutation, IsPermutation-filter, filter-map, Ghosts, sha256, World, IsWorld, Token, IsToken, find_token, with_token, without_expired, Tables, has_digest, has_expired, has_token, shown, Moves, moves_still, token_kept, token_row, Represents, Holds}
use Rattle.model.proofs.Keeping.{keeps_with_token, keeps_without_expired}
use Rattle.tables.specs.Rows as row
use Rattle.tables.specs.Statements as tables
use Rattle.tables.specs.Steps.{after_add}
use Rattle.refinement.proofs.Changes.{one_item_more}
use Rattle.refinement.proofs.Lookups.{token_found}

-- ---- one more token

new_token_represented : (t : Tables) (world : World) (k : row.Token) (i : Token) → Represents t world → token_kept k ≡ token_row i → Represents (tables.with_token k t) (with_token i world)
unfolding tables.with_token
new_token_represented t world k i s kept = record {
  meta = s.meta;
  locks = s.locks;
  made = s.made;
  used = s.used;
  tokens = one_item_more token_kept token_row t.tokens world.tokens _ i s.tokens kept;
  objects = s.objects;
  retired = s.retired;
  unretired = s.unretired;
}

after_adding : (k : row.Token) (t : Tables) → has_token k.digest t ≡ false → after_add k t ≡ tables.with_token k t
unfolding after_add
after_adding k t e = rw e refl

pub some_alike : {A B C : Type 0} (f : A → C) (g : B → C) (o : Option A) (p : Option B) → option_map f o ≡ option_map g p → is_some o ≡ is_some p
some_alike f g None None e = refl
some_alike f g (Some x) (Some y) e = refl
some_alike f g None (Some y) e = absurd (cc)
some_alike f g (Some x) None e = absurd (cc)

-- a token with the digest is in the tables if and only if one was issued under it
pub token_known : (t : Tables) (world : World) (text : List ℕ) → Represents t world → IsWorld world → has_token (sha256 text) t ≡ is_some (find_token text world)
token_known t world text s w = some_alike token_kept token_row (find (has_digest (sha256 text)) t.tokens) (find_token text world) (token_found t world text s w)

pub none_is : {A : Type 0} (o : Option A) → is_some o ≡ false → o ≡ None
none_is None e = refl
none_is (Some x) e = absurd (cc)

pub some_is : {A : Type 0} (o : Option A) → is_some o ≡ true → (x : A) × (o ≡ Some x)
some_is (Some x) e = (x, refl)
some_is None e = absurd (cc)

-- the world with a token to be issued is a world, and the tables with the row of that token represent it
pub would_add : (t : Tables) (world : World) (k : row.Token) (i : Token) → Represents t world → IsWorld world → token_kept k ≡ token_row i → IsToken i → find_token i.text world ≡ None
    → IsWorld (with_token i world) × Represents (after_add k t) (with_token i world)
would_add t world k i s w kept is none =
    let free : has_token k.digest t ≡ false = ap (λ (r : row.Token). has_token r.digest t) kept ∙ token_known t world i.text s w ∙ ap is_some none in
    (keeps_with_token world i is none w, subst (λ (u : Tables). Represents u (with_token i world)) (sym (after_adding k t free)) (new_token_represented t world k i s kept))

-- ---- expired tokens removed

-- equivalent tests keep the same items
pub filter_alike : {A : Type 0} (p q : A → Bool) (xs : List A) → ((x : A) → p x ≡ q x) → filter p xs ≡ filter q xs
filter_alike p q [] same = refl
filter_alike p q (x ∷ xs) same = rw (same x) (ap (λ rest. cond (q x) (x ∷ rest) rest) (filter_alike p q xs same))

stays : (now : ℕ) → row.Token → Bool
stays now k = not (has_expired (pos now) k)

is_good : (now expires : ℕ) → not (int_le (pos expires) (pos now)) ≡ nat_lt now expires
is_good now expires = grind (arith, nat_tests)

is_gone : (now expires : ℕ) → int_le (pos expires) (pos now) ≡ not (nat_lt now expires)
is_gone now expires = grind (arith, nat_tests)

pub expired_gone : (t : Tables) (world : World) (now : ℕ) → Represents t world → Represents (tables.without_expired (pos now) t) (without_expired now world)
unfolding tables.without_expired stays
expired_gone t world now s =
    let P : List row.Token → Type 0 = λ ks. IsPermutation ks (map token_row (filter (λ i. nat_lt now i.expires) world.tokens)) in
    let Q : List row.Token → Type 0 = λ ks. IsPermutation (filter (stays now) (map token_kept t.tokens)) ks in
    record {
      meta = s.meta;
      locks = s.locks;
      made = s.made;
      used = s.used;
      tokens = subst P (filter-map (stays now) token_kept t.tokens)
          (subst Q (filter-map (stays now) token_row world.tokens ∙ ap (map token_row) (filter_alike (λ i. stays now (token_row i)) (λ i. nat_lt now i.expires) world.tokens (λ i. is_good now i.expires)))
          (IsPermutation-filter (stays now) (map token_kept t.tokens) (map token_row world.tokens) s.tokens));
      objects = s.objects;
      retired = s.retired;
      unretired = s.unretired;
    }

-- the tables have as many expired tokens as the world
pub expired_counted : (t : Tables) (world : World) (now : ℕ) → Represents t world → length (filter (has_expired (pos now)) t.tokens) ≡ length (filter (λ i. not (nat_lt now i.expires)) world.tokens)
expired_counted t world now s =
    let gone : row.Token → Bool = has_expired (pos now) in
    let kept = filter gone (map token_kept t.tokens) in
    let rows = filter gone (map token_row world.tokens) in
    sym (length-map (filter gone t.tokens) token_kept) ∙ sym (ap length (filter-map gone token_kept t.tokens))
    ∙ sym (length_permutation kept rows (IsPermutation-filter gone (map token_kept t.tokens) (map token_row world.tokens) s.tokens))
    ∙ ap length (filter-map gone token_row world.tokens) ∙ length-map (filter (λ i. gone (token_row i)) world.tokens) token_row
    ∙ ap length (filter_alike (λ i. gone (token_row i)) (λ i. not (nat_lt now i.expires)) world.tokens (λ i. is_gone now i.expires))

-- ---- the world that a store holds after a call

module _ {S : Type 0} (g : Ghosts S) (old new : S) (world : World) where
  added : (k : row.Token) (t : Tables) → has_token k.digest t ≡ false → after_add k t ≡ tables.with_token k t
  unfolding after_add
  added k t e = rw e refl

  not_added : (k : row.Token) (t : Tables) → has_token k.digest t ≡ true → after_add k t ≡ t
  unfolding after_add
  not_added k t e = rw e refl

  -- a token that was added is issued
  pub holds_token : (k : row.Token) (i : Token) → Moves g (after_add k) old new → has_token k.digest (shown g old) ≡ false
      → token_kept k ≡ token_row i → IsToken i → find_token i.text world ≡ None → Holds g old world → Holds g new (with_token i world)
  holds_token k i moves free kept is unknown h = record {
    ready = moves.ready h.ready;
    laws = keeps_with_token world i is unknown h.laws;
    shows = λ honest open_now. subst (λ (t : Tables). Represents t (with_token i world))
        (sym (moves.shows honest h.ready open_now ∙ added k (shown g old) free))
        (new_token_represented (shown g old) world k i (h.shows (moves.was_honest honest) (moves.was_open honest open_now)) kept);
  }

  -- a token that is already stored changes nothing
  pub still_if_known : (k : row.Token) → Moves g (after_add k) old new → has_token k.digest (shown g old) ≡ true → Moves g (λ t. t) old new
  still_if_known k moves there = moves_still g old new (after_add k) moves (λ _. not_added k (shown g old) there)

  -- expired tokens are removed
  pub holds_pruned : (now : ℕ) → Moves g (tables.without_expired (pos now)) old new → Holds g old world → Holds g new (without_expired now world)
  holds_pruned now moves h = record {
    ready = moves.ready h.ready;
    laws = keeps_without_expired now world h.laws;
    shows = λ honest open_now. subst (λ (t : Tables). Represents t (without_expired now world))
        (sym (moves.shows honest h.ready open_now))
        (expired_gone (shown g old) world now (h.shows (moves.was_honest honest) (moves.was_open honest open_now)));
  }
