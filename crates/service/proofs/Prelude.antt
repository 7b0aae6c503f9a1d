-- The names from other modules and crates that the proofs of this crate share.
pub use Rattle.desk.specs.Asking.{is_upload_of, request_seen, setting_of, uploads, uploads_if}
pub use Rattle.desk.specs.Done.{AnswersBy, IsAnsweredAs, IsSettled, StaysWithin, verdict_by}
pub use Rattle.desk.specs.Replies.{IsReply, IsReplyOf, body_seen, is_refused}
pub use Rattle.desk.specs.declared.admission.RepoRequest.{RepoRequest}
pub use Rattle.desk.specs.declared.replies.Reply.{Reply}
pub use Rattle.forms.specs.declared.request.Request.{Request}
pub use Rattle.httparse.specs.Grammar.{MayBecomeRequest, ReadsRequest, RequestHead}
pub use Rattle.model.specs.Answers.{Answer, Denial, Plan, by_lock, by_row, by_rule, by_rules, confirms, grants, is_rule, is_store_refusal, lists, makes_lock, offers, receives, releases, sends, serves, splits, store_refusal, stores}
pub use Rattle.model.specs.Bounds.{answer_ending, bound_after, bound_of_run, failed, left_by, unchanged}
pub use Rattle.model.specs.Cases.{DeskRequest, Setting}
pub use Rattle.model.specs.Heads.{Route, Target, accepts, asks_close, at_most, body_length, check_framing, content_length, form_of, head_verdict, is_clear, is_measured, is_method, is_small, methods_of, query_of, route_at, values}
pub use Rattle.model.specs.Policy.{IsPolicy}
pub use Rattle.model.specs.Reading.{check, ◌>>=◌}
pub use Rattle.model.specs.Replies.{body_size, body_text, head_lines, head_text, reply_of, reply_text, type_line}
pub use Rattle.model.specs.Sessions.{AreUnder, BreaksInContent, IsPartOf, IsSession, IsWritten, Session, WritesRefusal, refusal_text, reply_count, session_text, text_if, text_of}
pub use Rattle.model.specs.Steps.{Carries, Event, Exchange, Message, Run, after, allow, bad_head, by_refusal, by_verdict, closes, closes_after, closes_if, denial_alone, denies_put, exchanged, is_denial, is_early, is_h7, is_of_head, is_sure, is_x2, message, verdict_on}
pub use Rattle.model.specs.Stream.{BeginsBadly, BeginsWith, BeginsWithHead, IsUnfinished, message_with, with_bad_head, with_message}
pub use Rattle.model.specs.Verdict.{desk_plan, desk_request, early_check, early_verdict, verdict}
pub use Rattle.model.specs.World.{Object, World, name_of, object_named}
pub use Rattle.model.specs.declared.Form.{Form}
pub use Rattle.names.specs.Streams.{IsBeginning}
pub use Rattle.names.specs.Texts.{last_moment}
pub use Rattle.names.specs.declared.bodies.BodyFault.{BodyFault}
pub use Rattle.names.specs.declared.rules.Rule.{Rule}
pub use Rattle.names.specs.declared.rules.Rule.TheVariants.{H6, H7, H8}
pub use Rattle.names.specs.declared.texts.RepoName.{RepoName}
pub use Rattle.names.specs.Names.{repo_text}
pub use Rattle.policy.proofs.InRange.{IsPolicy-policy_view}
pub use Rattle.refinement.proofs.Leading.{denial_changes_none, ends_reported, ends_still, from_weaker, leads_none, leads_still, leads_then, reads_none, run_takes}
pub use Rattle.refinement.specs.Left.{From, Keeps, Leads}
pub use Rattle.refinement.specs.Representation.{Holds}
pub use Rattle.service.specs.Judging.{AsksFor, IsDenied, is_put, target_seen}
pub use Rattle.service.specs.Messages.{Asks, IsCopyOf, IsReadFrom, IsRefused, IsRequestOf, target_asked, whole_message}
pub use Rattle.service.specs.Responding.{IsEarly, RespondsWith, leaves_body}
pub use Rattle.service.specs.Sending.{BreaksOff, EndsContent, IsThere, Sends, Writes, front_text}
pub use Rattle.service.specs.Served.{Call, HasNoBadHead, IsClosedAs, IsLeftOpen, IsRefusal, IsServed, IsServing, IsUnserved, LastRefused, Serves, closing, end_seen, unread_session}
pub use Rattle.service.specs.Turns.{ClosesTurn, EndsReply, EndsTurn, IsFirst, IsIncomplete, IsResponse, IsSent, IsTurn, Responds, exchange, less_than_body, less_than_head}
pub use Rattle.service.specs.declared.ends.End.{End}
pub use Rattle.service.specs.declared.ends.Served.{Served}
pub use Rattle.service.specs.declared.judging.Denied.{Denied}
pub use Rattle.service.specs.declared.message.Asked.{Asked}
pub use Rattle.service.specs.declared.responding.Response.{Response}
pub use Rattle.store.specs.declared.state.State.{Ghosts}
pub use Rattle.std.proofs.Common.{All, Bool, Bor, Err, List, MatchBool, None, Ok, OnOk, Option, Result, Some, [], add-zero, ap, append-nil, append_assoc, ap₂, arith, bytes_eq, codes, cond, drop, false, get_or, inl, inr, is_err, is_ok, is_some, length, length-append, lit<, lit≤, map, nat_le, not, option_map, refl, replicate, rules, subst, suc, sym, take, true, ℕ, ◌&&◌, ◌++◌, ◌+◌, ◌<◌, ◌||◌, ◌∙◌, ◌∷◌, ◌≡◌, ◌≤◌, ◌⊎◌}
pub use Rattle.std.proofs.KnownBytes.{Consumes-nil, Consumes-trans}
pub use Rattle.std.proofs.lemmas.List.{drop_all, drop_at, length-replicate, length-take-le, map-append, nil_from_length, take-append-drop, take_all, take_at}
pub use Rattle.std.proofs.lemmas.Result.{IfErr-at_err, err_from_is_err_and}
pub use Rattle.std.specs.Bool.{⊤}
pub use Rattle.std.specs.Io.KnownBytes.{Appends, Consumes, IsAtEnd}
pub use Rattle.tables.specs.declared.fault.StoreFault.{StoreFault}
pub use Rattle.wire.proofs.Appended.{appends_both}
pub use Rattle.wire.proofs.Streams.{head_more, moves_none}
pub use Rattle.wire.specs.Connections.{Refuses, waiting, weight}
pub use Rattle.wire.specs.States.{Hands, HandsOut, IsOpen, body_left, by_both, by_none, by_read, source_of}
pub use Rattle.wire.specs.HeadRules.{rule_seen}
pub use Rattle.wire.specs.declared.rules.HeadRule.{HeadRule}
