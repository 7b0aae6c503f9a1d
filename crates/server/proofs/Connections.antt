-- A talk with a client, as steps of a run.
use Rattle.std.proofs.Common.{◌≡◌, ◌⊎◌, inl, inr, ℕ, Option, None, IfSome, List, [], ◌∷◌, map, refl, sym, ap, subst}
use Rattle.std.proofs.KnownBytes.{Consumes-nil}
use Rattle.std.specs.Io.KnownBytes.{Consumes, IsAtEnd}
use Rattle.store.specs.declared.state.State.{Ghosts}
use Rattle.model.specs.Cases.{Setting}
use Rattle.model.specs.World.{World}
use Rattle.model.specs.Sessions.{Session}
use Rattle.model.specs.Steps.{Event, exchanged, Run}
use Rattle.model.specs.Bounds.{Bound, next_world, bound_after, bound_of_run}
use Rattle.refinement.specs.Left.{From, IsBoundedBy}
use Rattle.refinement.proofs.Leading.{from_weaker}
use Rattle.service.specs.declared.ends.End.TheVariants.{InputEnded}
use Rattle.service.specs.declared.ends.Served.{Served}
use Rattle.downloads.specs.declared.download.Download.{Download}
use Rattle.service.specs.Later.{IsServedBut, ServesBut}
use Rattle.service.specs.Served.{Call, IsUnserved, unread_session}
use Rattle.machine.specs.Observations.{Talk}
use Rattle.operator.specs.Works.{takes, steps_of, bound_of_works}
use Rattle.operator.proofs.Working.{still_kept, still_steps, works_still}
use Rattle.server.specs.Jobs.{Converses, IsTalk}

-- the steps of calls that each take one
steps_taken : (events : List Event) → steps_of (map takes events) ≡ events
steps_taken [] = refl
steps_taken (event ∷ events) = ap (λ (l : List Event). event ∷ l) (steps_taken events)

-- what a stop leaves after such calls
bound_taken : (world : World) (events : List Event) (bound : Bound) → bound_of_works world (map takes events) bound ≡ bound_of_run world events bound
bound_taken world [] bound = refl
bound_taken world (event ∷ events) bound = bound_taken (next_world world event) events (bound_after world event bound)

-- what the session theorem says of a call with this talk
abbrev pub call_of : Setting → Talk → (failed_before failed_after : ℕ) → Call
call_of setting talk failed_before failed_after = record {
  setting = setting;
  left = talk.left;
  rest = talk.rest;
  failed_before = failed_before;
  failed_after = failed_after;
  was = talk.was;
  is = talk.is;
}

-- nothing was read
unread : (left rest : Option (List ℕ)) → rest ≡ left → Consumes left rest []
unread left rest same = subst (λ (bytes : Option (List ℕ)). Consumes left bytes []) (sym same) (Consumes-nil left)

module _ {S : Type 0} (g : Ghosts S) where
  -- a connection leads the store by the steps of its exchanges, or by none
  converses : (setting : Setting) (talk : Talk) (before after : ℕ) (a b : S) (world : World) (served : Served) (later : Option Download) → (served.end ≡ InputEnded → IsAtEnd talk.rest)
      → ServesBut g (call_of setting talk before after) world a b later served → Converses g setting talk served later a b world
  converses setting talk before after a b world served later ended (inl (bytes, read, so)) =
      let s = so.served_so in
      let events = map exchanged s.exchanges in
      let session : Session = record { setting = setting; bytes = bytes; exchanges = s.exchanges; written = s.written; answered = served.answered } in
      record {
        done = record {
          works = map takes events;
          kept = s.kept;
          run = subst (λ (l : List Event). Run world l s.kept) (sym (steps_taken events)) s.session.run;
          leads = record {
            holds = s.leads.holds;
            left = λ bound was. subst (IsBoundedBy g b) (sym (bound_taken world events bound)) (s.leads.left bound was);
          };
        };
        is = record {
          session = session;
          under = refl;
          answered = refl;
          read = read;
          written = s.taken;
          is = inl s.session;
          steps_are = steps_taken events;
          ended = ended;
          owes = so.owes;
        };
      }
  converses setting talk before after a b world served later ended (inr (_, same, u, none)) =
      let done = works_still g a b world u.leads in
      record {
        done = done;
        is =
            subst (λ (w : World). IsTalk setting talk served later world (steps_of done.works) w) (sym (still_kept g a b world u.leads))
            (record {
              session = unread_session setting u.written served.answered;
              under = refl;
              answered = refl;
              read = unread talk.left talk.rest same;
              written = u.taken;
              is = inr u.session;
              steps_are = still_steps g a b world u.leads;
              ended = ended;
              owes = rw none tt;
            });
      }

  -- a talk is a session, by the session theorem
  pub from_conversed : (setting : Setting) (talk : Talk) (before after : ℕ) (a b : S) (served : Served) (later : Option Download) → (served.end ≡ InputEnded → IsAtEnd talk.rest)
      → From g a b (λ world. ServesBut g (call_of setting talk before after) world a b later served) → From g a b (λ world. Converses g setting talk served later a b world)
  from_conversed setting talk before after a b served later ended p = from_weaker g a b _ _ (λ world s. converses setting talk before after a b world served later ended s) p
