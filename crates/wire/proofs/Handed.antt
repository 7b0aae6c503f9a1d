-- Bytes of a body that were handed out, for proofs in other crates.
use Rattle.wire.proofs.Prelude.{◌≡◌, ◌≤◌, ℕ, ◌+◌, List, [], ◌++◌, length, take, Result, Ok, Err, IfOk, arith, length-append, Ghosts, Conn, Moves, SameHead}
use Rattle.std.proofs.lemmas.List.{length-take-le}
use Rattle.wire.specs.States.{HandsOut, Hands, by_none, by_read, by_both}
use Rattle.wire.proofs.Streams.{moves_none, moves_more, same_head_none, same_head_more}

module _ {R : Type 0} {g : Ghosts R} where
  none_out : (c : Conn R g) → HandsOut c c []
  none_out c = record { read = []; moves = moves_none c; same_head = same_head_none c; left = omega arith }

  both_out : (one two three : Conn R g) (front back : List ℕ) → HandsOut one two front → HandsOut two three back → HandsOut one three (front ++ back)
  both_out one two three front back a b = record {
    read = a.read ++ b.read;
    moves = moves_more one two three a.read b.read front back a.moves b.moves;
    same_head = same_head_more one two three a.same_head b.same_head;
    left = omega (arith, a.left, b.left, length-append front back);
  }

  -- what one read hands out
  pub handed_piece : {E : Type 0} (old new : Conn R g) (piece : List ℕ) (r : Result ℕ E)
      → IfOk r (λ n. (n ≤ length piece) × (n + new.left ≡ old.left)) → IfOk r (λ n. (read : List ℕ) × Moves old new read (take n piece))
      → SameHead old new → IfOk r (λ n. Hands old new (take n piece))
  handed_piece old new piece (Err fault) within bytes same = tt
  handed_piece old new piece (Ok n) within bytes same = by_read old new (take n piece) (record {
    read = bytes.0;
    moves = bytes.1;
    same_head = same;
    left = omega (arith, within.1, length-take-le n piece within.0);
  })

  -- a read that fails hands out nothing
  pub handed_none : (old new : Conn R g) → Moves old new [] [] → new.left ≡ old.left → SameHead old new → Hands old new []
  handed_none old new moves left same = by_read old new [] (record { read = []; moves = moves; same_head = same; left = omega (arith, left) })

  -- several reads hand out bytes as one does
  pub handed : (old new : Conn R g) (given : List ℕ) → Hands old new given → HandsOut old new given
  handed _ _ _ (by_none c) = none_out c
  handed _ _ _ (by_read old new given out) = out
  handed _ _ _ (by_both old mid new front back a b) = both_out old mid new front back (handed old mid front a) (handed mid new back b)
