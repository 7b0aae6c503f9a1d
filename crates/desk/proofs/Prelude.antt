-- The names from other modules and crates that the proofs of this crate share.
pub use Rattle.cursor.specs.Paging.{cursor_or_first, page_seen}
pub use Rattle.cursor.specs.Wanted.{form_of_filter, is_wanted, wanted_locks}
pub use Rattle.desk.specs.Admission.{admission_result}
pub use Rattle.desk.specs.Asking.{is_upload_of, plan_seen, request_read, request_seen, setting_of, uploads, uploads_if}
pub use Rattle.desk.specs.Batching.{AreLinksOf, IsSound, Judged, actions_for, actions_on, judged_as, judged_by, judged_on, may_transfer}
pub use Rattle.desk.specs.Contents.{HasRead, IsLeftAfter, IsLeftBy}
pub use Rattle.desk.specs.Done.{Answers, AnswersAll, AnswersAlone, AnswersBy, AnswersCaller, AnswersEach, AnswersIf, AnswersOrDenies, AnswersRequest, AnswersUser, IsAnsweredAs, LeavesOthers, LeavesWorld, RepliesOrDenies, StaysWithin, given_by, given_or, given_with, verdict_by}
pub use Rattle.desk.specs.Locking.{IsReadyAfter, IsWantedBy, ReportsHeld, allowed_verdict, free_verdict, lock_part, question_on}
pub use Rattle.desk.specs.Objects.{has_place, size_check}
pub use Rattle.desk.specs.Reading.{ReadsRepo, ShowsCaller, ShowsPlan, ShowsUser, ShowsVerdict, case_with}
pub use Rattle.desk.specs.Receiving.{Carries, Fills, HasAll, Receives, ReceivesStaged, RepliesReceived, Settles, Takes, answer_of, object_from}
pub use Rattle.desk.specs.Replies.{IsReply, IsReplyOf, ShowsIf, body_seen, given_in, is_refused, is_s1_if}
pub use Rattle.desk.specs.Rights.{IsCallerOf, IsUserOf, Judges, allow_on, case_policy, case_repo, case_seen, case_user, denial_view}
pub use Rattle.desk.specs.Unlocking.{found_verdict, right_to_release}
pub use Rattle.desk.specs.declared.outcomes.NotGranted.{NotGranted}
pub use Rattle.desk.specs.declared.receiving.ReceiveFault.{ReceiveFault}
pub use Rattle.desk.specs.declared.receiving.Receipt.{Receipt}
pub use Rattle.desk.specs.declared.receiving.Receipt.TheVariants.{Differs}
pub use Rattle.desk.specs.declared.replies.Reply.{Reply}
pub use Rattle.desk.specs.declared.replies.ReplyBody.{ReplyBody}
pub use Rattle.desk.specs.declared.replies.ReplyBody.TheVariants.{Content, Empty}
pub use Rattle.forms.specs.Offers.{actions_at, offer_at, result_at}
pub use Rattle.forms.specs.Requests.{batch_asked, get_asked, list_asked, lock_asked, object_asked, put_asked, request_asked, unlock_asked, verify_asked, verify_locks_asked}
pub use Rattle.forms.specs.ShownLocks.{AreOf, IsOf, lock_shown}
pub use Rattle.locks.specs.Creating.{Creates, lock_wanted, placed_verdict, state_of}
pub use Rattle.locks.specs.Finding.{lock_seen, lock_with}
pub use Rattle.locks.specs.Removing.{Removes}
pub use Rattle.model.proofs.Lists.{found_passes}
pub use Rattle.model.proofs.Once.{gone_is}
pub use Rattle.model.specs.Answers.{Answer, Denial, Page, Plan, by_lock, by_rule, by_rules, confirms, downloads, is_store_refusal, lists, makes_lock, may_pull, may_push, offers, permit, receives, releases, serves, splits, store_refusal, stores}
pub use Rattle.model.specs.Batch.{action_at, batch_verdict, check_gone, check_hash, content_href, download_of, may_batch, offer, offers_for, unless_stored, upload_actions, upload_of, valid_size}
pub use Rattle.model.specs.Bounds.{Bound, Ending, answer_ending, changed, failed, is_changed, left_by, unchanged}
pub use Rattle.model.specs.Callers.{caller_by, lock_question, may_list, pull_question, push_question, sees}
pub use Rattle.model.specs.Forms.{BatchForm, ListForm, PutForm, UnlockForm, VerifyForm, VerifyLocksForm, is_upload, needs_upload, request_of}
pub use Rattle.model.specs.Locks.{list_verdict, listed_locks, meets, new_lock, place_verdict, ref_locks, ref_or_default, release_verdict, unlock_verdict, verify_locks_verdict}
pub use Rattle.model.specs.Objects.{content_verdict, finish, get_verdict, put_verdict, verify_verdict}
pub use Rattle.model.specs.Pages.{IsBelow, cursor_in, page_limit, page_of}
pub use Rattle.model.specs.Policy.{Question, Repo, repo_named}
pub use Rattle.model.specs.Reading.{check, ok_or, or_default, ◌>>=◌}
pub use Rattle.model.specs.RepoState.{RepoState, has_room, is_gone, lock_at, locks_of, repo_state, size_of}
pub use Rattle.model.specs.Verdict.{caller_plan, desk_plan, plan_for, plan_to}
pub use Rattle.model.specs.World.{IsWorld, Lock, Object, World, is_retired, name_of, object_named, with_object}
pub use Rattle.names.specs.Names.{path_text, ref_text, repo_text, user_text}
pub use Rattle.names.specs.declared.bodies.BodyFault.{BodyFault}
pub use Rattle.names.specs.declared.rules.Rule.{Rule}
pub use Rattle.names.specs.declared.rules.Rule.TheVariants.{A4, A5, B1, B4, B5, B6, L2, L3, L5, R1, V1, V2, X1, X2, X3, X4}
pub use Rattle.policy.specs.Values.{policy_view, question_view, repo_view}
pub use Rattle.refinement.proofs.Leading.{denial_changes_none, ends_reported, ends_still, ends_then, from_weaker, keeps_ends, keeps_still, keeps_then, leads_none, leaves_kept, leaves_then, reads_lead, reads_none, still_then}
pub use Rattle.refinement.specs.Left.{Ends, From, IsBoundedBy, Keeps, KeepsTables, Leads, LeavesTables, Reads}
pub use Rattle.refinement.specs.Representation.{Holds}
pub use Rattle.store.specs.declared.state.State.{Ghosts}
pub use Rattle.std.proofs.Common.{Bool, Bor, Err, IfOk, IsErrAnd, IsTrue, List, MatchBool, None, Ok, OnOk, Option, Result, Some, [], ap, append-nil, append_assoc, ap₂, arith, bytes_eq, cond, false, filter, find, if◌then◌else◌, is_err, is_ok, is_some, length, length-append, length-take, map, nat_le, nat_lt, not, option_map, refl, replicate, rules, string_bytes, subst, sym, take, true, ℕ, ◌&&◌, ◌++◌, ◌+◌, ◌-◌, ◌<◌, ◌==◌, ◌||◌, ◌∙◌, ◌∷◌, ◌≡◌, ◌≤◌}
pub use Rattle.std.proofs.lemmas.Bool.Decides.{nat_tests}
pub use Rattle.std.proofs.lemmas.List.{length-replicate, map-append, nil_from_length, take_all, take_more}
pub use Rattle.std.proofs.lemmas.Result.{IfOk-weaker, err_from_is_err_and}
pub use Rattle.std.specs.List.{AllByRecursion, AllZip}
pub use Rattle.store.specs.Shown.{IsHonest}
pub use Rattle.tables.specs.declared.fault.StoreFault.{StoreFault}
pub use Rattle.tables.specs.declared.fault.StoreFault.TheVariants.{Memory, Refused}
pub use Rattle.tables.specs.declared.new_rows.NewLock.{NewLock}
pub use Rattle.tables.specs.declared.rows.LockRow.{LockRow}
pub use Rattle.tables.specs.declared.rows.ObjectRow.{ObjectRow}
pub use Rattle.uploads.proofs.Sizes.{room_left, size_found}
pub use Rattle.uploads.specs.Finding.{Finds}
