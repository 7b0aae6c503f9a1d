use Rattle.forms.proofs.Prelude.{◌≡◌, ◌++◌, Ok, drop, map, items_view, J1, ◌>>=◌, ok_or, as_batch_object, each_as, object_asked}
use Rattle.forms.proofs.batch.objects_in.Given as goal

-- the objects so far, and the items still to come
abbrev pub invariant-loop-item : goal.invariant-loop-item
invariant-loop-item l =
    ok_or (each_as as_batch_object (items_view l.items)) J1
    ≡ (ok_or (each_as as_batch_object (items_view (drop l.item-index l.items))) J1 >>= λ rest. Ok (map object_asked l.objects.items ++ rest))
