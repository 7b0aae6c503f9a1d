-- The names from other modules and crates that the proofs of this crate share.
pub use Rattle.form_urlencoded.specs.Form.{raw_pairs}
pub use Rattle.forms.specs.Given.{BatchKeys, IsRefusedBy, ListKeys, ObjectKeys, Reads, UnlockKeys, VerifyLocksKeys, batch_in_range, batch_keys, batch_objects, has_basic_in, if_object, in_range, list_in_range, list_keys, lock_fields, object_keys, object_of, only, unlock_in_range, unlock_keys, value_of, values_among, verify_in_range, verify_locks_in_range, verify_locks_keys, within}
pub use Rattle.forms.specs.Offers.{offer_at, offer_json, offers_shown, result_at}
pub use Rattle.forms.specs.Requests.{batch_asked, list_asked, lock_asked, object_asked, put_asked, unlock_asked, verify_asked, verify_locks_asked}
pub use Rattle.forms.specs.ShownLocks.{AreOf, IsOf, data_of_texts, lock_shown, page_shown, split_data, split_shown}
pub use Rattle.forms.specs.declared.shown_lock.LockTexts.{LockTexts}
pub use Rattle.forms.specs.declared.shown_lock.ShownLock.{ShownLock}
pub use Rattle.model.specs.Forms.{BatchForm, BatchObject, LockForm, VerifyForm, as_array_of, as_batch_object, as_name, decode_text, each_as, has_basic, if_not_empty, is_if_given, is_size, limit_in, members_of, object_limit, operation_in, optional, query_ref, query_single, read_if_given, short_number_in, whole_if_given}
pub use Rattle.model.specs.Reading.{check, ok_or, or_default, ◌>>=◌}
pub use Rattle.model.specs.Replies.{batch_json, items_of, json, list_json, lock_data, locks_data, members, offer_data, offer_members, reply_of, split_json}
pub use Rattle.names.specs.Texts.{is_hex_64, is_lock_path, is_ref, lock_id_in}
pub use Rattle.names.specs.declared.rules.Rule.{Rule}
pub use Rattle.names.specs.declared.rules.Rule.TheVariants.{J1, J2, J3, J4}
pub use Rattle.serde_json.specs.Data.{Data, Items, Members, Num, array, boolean, item, null, number, object, string}
pub use Rattle.serde_json.specs.Find.{as_bool, as_number, as_object, as_str, as_u64}
pub use Rattle.serde_json.specs.View.{items_view}
pub use Rattle.serde_json.specs.Written.{compact_text, has_float, items_have_float}
pub use Rattle.std.proofs.Common.{Bool, Bor, Err, IsErrAnd, IsTrue, List, None, Ok, Option, Result, Some, [], ap, append_assoc, arith, bytes_eq, codes, decimal, drop, false, if◌then◌else◌, length, map, nat_le, option_and_then, option_map, pos, refl, rules, string_bytes, subst, sym, take, true, ℕ, ℤ, ◌&&◌, ◌++◌, ◌<◌, ◌==◌, ◌^◌, ◌||◌, ◌∙◌, ◌∷◌, ◌≡◌, ◌≢◌, ◌≤◌}
pub use Rattle.std.proofs.lemmas.Bool.{le-leb, ne_eqb, true≢false}
pub use Rattle.std.proofs.lemmas.Bool.Decides.{nat_tests}
pub use Rattle.std.proofs.lemmas.Result.{IfOk-weaker, Ok-from_Ok_iff}
pub use Rattle.std.specs.Char.{is_ascii_digit}
pub use Rattle.std.specs.Cow.{cow_str_bytes}
pub use Rattle.std.specs.List.{list_all, list_any}
