use Rattle.policy.proofs.Prelude.{◌∙◌, ℕ, List, Some, ap, sym, subst, codes, question_view}
use Rattle.policy.specs.Index.{hashed, bucket_of, NoneBefore}
use Rattle.policy.specs.Searches.{rows_in, buckets_in}
use Rattle.policy.proofs.Indexed.{none_before_less, first_on_path, first_without_path}
use Rattle.policy.proofs.path_index.IndexedRows.first.Goals as goal

pub returns-in-Some : goal.returns-in-Some
returns-in-Some c =
    let q = question_view c.args.question.now in
    let self = c.args.self.now in
    let buckets = buckets_in self in
    let n = c.least_on_path.result in
    let m = c.least-least.result in
    let last = c.least_on_path.ensures in
    let star = subst (λ (h : ℕ). NoneBefore q (rows_in self) m (bucket_of buckets h)) c.hash_of.ensures c.least-least.ensures.first in
    let path = sym c.in-Some.ensures ∙ ap (λ (p : List ℕ). Some p) (sym c.as_bytes.ensures.value) in
    first_on_path q (rows_in self) buckets n c.as_bytes.result.now path self.has_each_row last.found
    (none_before_less q (rows_in self) m n (bucket_of buckets (hashed 0 (codes "*"))) last.least star) last.first

pub returns-in-None : goal.returns-in-None
returns-in-None c =
    let q = question_view c.args.question.now in
    let self = c.args.self.now in
    let buckets = buckets_in self in
    let m = c.least-least.result in
    let star = subst (λ (h : ℕ). NoneBefore q (rows_in self) m (bucket_of buckets h)) c.hash_of.ensures c.least-least.ensures.first in
    first_without_path q (rows_in self) buckets m (sym c.in-None.ensures) self.has_each_row c.least-least.ensures.found star
