-- The ways in which a call for the next head ends.
use Rattle.wire.proofs.Prelude.{◌≡◌, ◌≢◌, ℕ, ◌+◌, ◌<◌, ◌≤◌, inl, inr, List, [], ◌++◌, length, drop, Option, Some, None, IfSome, IfErr, IfOk, OnOk, Result, Ok, Err, refl, sym, ap, subst, ◌∙◌, arith, append-nil, length-append, Consumes, IsAtEnd, Consumes-nil, RequestHead, print_request, Ghosts, HeadRule, H1, BeginsWithHead, BeginsBadly, front, MayGoOn, waiting, IsAt, HasHead, HasStopped, IsStopped, repeated, Conn, Stop, End, Device, Unread, rule_seen}
use Rattle.names.specs.Streams.{HasGrown}
use Rattle.model.specs.Heads.{content_length, check_framing}
use Rattle.wire.specs.declared.buffer.Buffer.{Buffer}
use Rattle.wire.specs.declared.connection.Stop.TheVariants.{Rule as ByRule}

-- nothing of the front was handed out
all_waits : (b : Buffer) → b.at ≡ 0 → drop b.at (front b) ≡ front b
all_waits b begun = ap (λ n. drop n (front b)) begun

waits_in : (P : List ℕ → Type 0) (new buffer : Buffer) → new ≡ buffer → buffer.at ≡ 0 → P (front buffer) → P (drop new.at (front new))
waits_in P new buffer same begun p =
    subst (λ (b : Buffer). P (drop b.at (front b))) (sym same) (subst P (sym (all_waits buffer begun)) p)

module _ {R : Type 0} {g : Ghosts R} where
  -- bytes of a body are left
  pub stays_unread : (c : Conn R g) → 0 < c.left → IsStopped c Unread c
  stays_unread c some = record {
    read = [];
    consumes = Consumes-nil (g.left c.source);
    kept = sym (append-nil (waiting c));
    same_reference = refl;
    lighter = omega arith;
    left = refl;
    good = λ _. refl;
    unread = λ _. (refl, refl);
    again = λ none. absurd (omega (arith, none, some));
    why = λ none. absurd (omega (arith, none, some));
    remembered = λ none. absurd (omega (arith, none, some));
  }

  -- the same answer again
  pub stays_over : (c : Conn R g) (stop : Stop) → c.left ≡ 0 → c.over ≡ Some stop → IsStopped c stop c
  stays_over c stop none is = record {
    read = [];
    consumes = Consumes-nil (g.left c.source);
    kept = sym (append-nil (waiting c));
    same_reference = refl;
    lighter = omega arith;
    left = refl;
    good = λ _. refl;
    unread = λ some. absurd (omega (arith, none, some));
    again = λ _. subst (λ (o : Option Stop). IfSome o (λ was. (stop ≡ was) × (c ≡ c))) (sym is) (refl, refl);
    why = λ _ now. absurd (cc);
    remembered = λ _ now. absurd (cc);
  }

  -- what was read, up to the answer
  pub record Reads (old : Conn R g) (buffer : Buffer) (source : R) : Type 0 where
    pub none_left : old.left ≡ 0
    pub was_open : old.over ≡ None
    pub read : List ℕ
    pub consumes : Consumes (g.left old.source) (g.left source) read
    pub bytes : front buffer ≡ waiting old ++ read
    pub begun : buffer.at ≡ 0
    pub same_reference : g.reference source ≡ g.reference old.source
    pub lighter : length (front buffer) + g.budget source ≤ length (waiting old) + g.budget old.source

  pub reads_from : (old : Conn R g) (begun buffer : Buffer) (source : R) → old.left ≡ 0 → old.over ≡ None → front begun ≡ waiting old
      → (read : List ℕ) × Consumes (g.left old.source) (g.left source) read × (front buffer ≡ front begun ++ read) → buffer.at ≡ 0
      → g.reference source ≡ g.reference old.source → length (front buffer) + g.budget source ≤ length (front begun) + g.budget old.source
      → Reads old buffer source
  reads_from old begun buffer source none now begins bytes at same lighter = record {
    none_left = none;
    was_open = now;
    read = bytes.0;
    consumes = bytes.1;
    bytes = bytes.2 ∙ ap (λ l. l ++ bytes.0) begins;
    begun = at;
    same_reference = same;
    lighter = omega (arith, lighter, ap length begins);
  }

  -- the same with the connection that has them
  reads_in : (old new : Conn R g) (buffer : Buffer) (source : R) → Reads old buffer source → new.buffer ≡ buffer → new.source ≡ source
      → Reads old new.buffer new.source
  reads_in old new buffer source r same_buffer same_source =
      subst (λ (b : Buffer). Reads old b new.source) (sym same_buffer) (subst (λ (s : R). Reads old buffer s) (sym same_source) r)

  -- there is no message
  pub stops : (old new : Conn R g) (stop : Stop) → Reads old new.buffer new.source → new.left ≡ old.left
      → (stop ≢ Device → g.failed new.source ≡ g.failed old.source) → HasStopped stop old new → new.over ≡ repeated stop
      → IsStopped old stop new
  stops old new stop r left good why over = record {
    read = r.read;
    consumes = r.consumes;
    kept = all_waits new.buffer r.begun ∙ r.bytes;
    same_reference = r.same_reference;
    lighter = omega (arith, ap length (all_waits new.buffer r.begun), r.lighter);
    left = left;
    good = good;
    unread = λ some. absurd (omega (arith, some, r.none_left));
    again = λ _. subst (λ (o : Option Stop). IfSome o (λ was. (stop ≡ was) × (new ≡ old))) (sym r.was_open) tt;
    why = λ _ _. why;
    remembered = λ _ _. over;
  }

  -- a head that H2 to H5 do not refuse
  pub takes : {A E : Type 0} (result : Result A E) (old new : Conn R g) (buffer : Buffer) (source : R) → Reads old buffer source → new.source ≡ source
      → g.failed source ≡ g.failed old.source → OnOk result (new.over ≡ old.over)
      → IfOk result (λ _. (head : RequestHead) × BeginsWithHead (front buffer) head (waiting new) × IsAt new head × (check_framing head ≡ Ok tt) × (new.left ≡ content_length head) × (length (waiting new) < length (front buffer)))
      → OnOk result (HasHead old new)
  takes (Err e) old new buffer source r same good over ok = tt
  takes (Ok x) old new buffer source r same good over ok = record {
    read = r.read;
    head = ok.0;
    consumes = subst (λ (s : R). Consumes (g.left old.source) (g.left s) r.read) (sym same) r.consumes;
    begins = subst (λ (b : List ℕ). BeginsWithHead b ok.0 (waiting new)) r.bytes ok.1;
    at = ok.2;
    framed = ok.3;
    size = ok.4;
    none_left = r.none_left;
    was_open = r.was_open;
    is_open = over ∙ r.was_open;
    good = ap g.failed same ∙ good;
    same_reference = ap g.reference same ∙ r.same_reference;
    lighter = omega (arith, ok.5, r.lighter, ap g.budget same);
    counted = omega (arith, ap length ok.1.reads.reads.1, length-append (print_request ok.0) (waiting new), r.lighter, ap g.budget same);
  }

  refused_by : (old new : Conn R g) (stop : Stop) (buffer : Buffer) (source : R) → Reads old buffer source → new.source ≡ source
      → g.failed source ≡ g.failed old.source
      → (rule : HeadRule) × (head : RequestHead) × (rest : List ℕ) × BeginsWithHead (front buffer) head rest × (stop ≡ ByRule rule) × (check_framing head ≡ Err (rule_seen rule)) × (new.over ≡ Some stop) × (new.left ≡ 0) × (new.buffer ≡ buffer)
      → IsStopped old stop new
  refused_by old new stop buffer source r same good err =
      let moved = reads_in old new buffer source r err.8 same in
      let begins = waits_in (λ (b : List ℕ). BeginsWithHead b err.1 err.2) new.buffer buffer err.8 r.begun err.3 in
      let by : IsStopped old (ByRule err.0) new =
      stops old new (ByRule err.0) moved (err.7 ∙ sym r.none_left) (λ _. ap g.failed same ∙ good) (inr (err.1, err.2, begins, err.5)) (err.6 ∙ ap Some err.4) in
      subst (λ (s : Stop). IsStopped old s new) (sym err.4) by

  -- a head that H2 to H5 refuse
  pub refuses : {A : Type 0} (result : Result A Stop) (old new : Conn R g) (buffer : Buffer) (source : R) → Reads old buffer source → new.source ≡ source
      → g.failed source ≡ g.failed old.source
      → IfErr result (λ stop. (rule : HeadRule) × (head : RequestHead) × (rest : List ℕ) × BeginsWithHead (front buffer) head rest × (stop ≡ ByRule rule) × (check_framing head ≡ Err (rule_seen rule)) × (new.over ≡ Some stop) × (new.left ≡ 0) × (new.buffer ≡ buffer))
      → IfErr result (λ stop. IsStopped old stop new)
  refuses (Ok x) old new buffer source r same good err = tt
  refuses (Err stop) old new buffer source r same good err = refused_by old new stop buffer source r same good err

  -- an answer that is remembered
  pub remembers : {A : Type 0} (result : Result A Stop) (old new : Conn R g) (buffer : Buffer) (source : R) (stop : Stop) → Reads old buffer source
      → (new.source ≡ source) × (new.left ≡ old.left) × (new.buffer ≡ buffer) → g.failed source ≡ g.failed old.source
      → new.over ≡ repeated stop → result ≡ Err stop → HasStopped stop old new
      → IfErr result (λ s. IsStopped old s new)
  remembers result old new buffer source stop r same good over is why =
      let by = stops old new stop (reads_in old new buffer source r same.2 same.0) same.1 (λ _. ap g.failed same.0 ∙ good) why over in
      rw is by

  pub has_ended : (old new : Conn R g) (buffer : Buffer) (source : R) → Reads old buffer source → new.buffer ≡ buffer → new.source ≡ source
      → MayGoOn (front buffer) × IsAtEnd (g.left source) → HasStopped End old new
  has_ended old new buffer source r same_buffer same_source halt =
      let may = waits_in MayGoOn new.buffer buffer same_buffer r.begun halt.0 in
      (may.0, may.1, subst (λ (s : R). IsAtEnd (g.left s)) (sym same_source) halt.1)

  pub is_bad : (old new : Conn R g) (buffer : Buffer) (source : R) → Reads old buffer source → new.buffer ≡ buffer → BeginsBadly (front buffer)
      → HasStopped (ByRule H1) old new
  is_bad old new buffer source r same_buffer bad = inl (refl, waits_in BeginsBadly new.buffer buffer same_buffer r.begun bad)

  -- a read failed
  pub fails : (old new : Conn R g) → Reads old new.buffer new.source → new.left ≡ old.left → new.over ≡ None
      → MayGoOn (front new.buffer) × HasGrown (g.failed old.source) (g.failed new.source) → IsStopped old Device new
  fails old new r left over halt =
      let may = waits_in MayGoOn new.buffer new.buffer refl r.begun halt.0 in
      stops old new Device r left (λ other. absurd (other refl)) (may.0, may.1, halt.1) over
