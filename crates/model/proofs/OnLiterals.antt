-- Proof by computation on literals.
use Rattle.std.specs.Prelude.{⊤}
use Rattle.std.specs.Str.{is_utf8, chars}
use Rattle.std.specs.Str.Lossy.{utf8_lossy, utf8_valid_len, utf8_error_len}
use Rattle.std.specs.Fmt.{digits}
use Rattle.httparse.proofs.OnLiterals.{httparse_on_literals}
use Rattle.serde_json.proofs.OnLiterals.{serde_json_on_literals}
use Rattle.form_urlencoded.proofs.OnLiterals.{form_urlencoded_on_literals}
use Rattle.hex.proofs.OnLiterals.{hex_on_literals}
use Rattle.sha2.specs.Sha256.{sha256, digest_bytes, hash_after, compress, rounds, schedule, first_words}
use Rattle.model.specs.Forms.{batch_keys, batch_form, put_form, verify_form, lock_form, list_form, verify_locks_form, unlock_form, query_value}
use Rattle.model.specs.Heads.{head_verdict}
use Rattle.model.specs.Verdict.{verdict, early_verdict}
use Rattle.model.specs.Moments.{moment_text}
use Rattle.model.specs.Replies.{head_text}
use Rattle.model.specs.Studio.{studio, small_studio, frozen_art, paths_alone, readers, b_is_hidden, forcing, with_ann, expires_at_100, ann, bob, first_lock}
use Rattle.model.specs.Examples.{first_reply, second_reply, smuggling_reply, method_reply, nameless_reply, stored_reply, content_reply, upload_reply, download_body, list_reply, split_reply, released_reply, refusal_reply}

-- the definitions that a worked example unfolds
unfoldable pub on_literals : ⊤
unfolding is_utf8 chars lib.Utf8.encode utf8_lossy utf8_valid_len utf8_error_len digits httparse_on_literals serde_json_on_literals form_urlencoded_on_literals hex_on_literals sha256 digest_bytes hash_after compress rounds schedule first_words batch_keys batch_form put_form verify_form lock_form list_form verify_locks_form unlock_form query_value head_verdict verdict early_verdict moment_text head_text studio small_studio frozen_art paths_alone readers b_is_hidden forcing with_ann expires_at_100 ann bob first_lock first_reply second_reply smuggling_reply method_reply nameless_reply stored_reply content_reply upload_reply download_body list_reply split_reply released_reply refusal_reply
on_literals = tt
